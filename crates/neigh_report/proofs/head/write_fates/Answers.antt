use Rattle.std.proofs.Common.{[], ◌∷◌}
use Rattle.std.specs.Prelude.{string_bytes, decimal, codes}
use Rattle.neigh_report.proofs.SpacedWords.{line_four}
use Rattle.neigh_report.proofs.head.write_fates.Goals as goal

pub returns : goal.returns
returns c =
    rw (c.in_ok-writeln.ensures.bytes, c.in_ok-add_size-4.ensures, c.in_ok-add_size-3.ensures, c.in_ok-add_size-2.ensures, c.in_ok-add_size.ensures, c.in_ok-push_str.ensures.bytes)
    (line_four (string_bytes c.args.report.now) (codes "fates") [] (codes "sent" ∷ decimal c.args.sent ∷ []) (codes "fast" ∷ decimal c.args.fast ∷ []) (codes "dropped" ∷ decimal c.args.dropped ∷ []) (codes "waiting" ∷ decimal c.args.waiting ∷ []))
