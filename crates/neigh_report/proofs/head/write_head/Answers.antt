use Rattle.std.proofs.Common.{[], ◌∷◌, length}
use Rattle.std.specs.Prelude.{string_bytes, decimal, codes}
use Rattle.neigh_run.specs.Spelling.{mode_word}
use Rattle.neigh_report.proofs.SpacedWords.{line_three}
use Rattle.neigh_report.proofs.head.write_head.Goals as goal

pub returns : goal.returns
returns c =
    rw (c.in_ok-writeln.ensures.bytes, c.in_ok-add_size-3.ensures, c.in_ok-add_size-2.ensures, c.in_ok-add_size.ensures, c.in_ok-write.ensures.bytes, c.mode_word-mode.ensures, c.len.ensures)
    (line_three (string_bytes c.args.report.now) (codes "neigh") (codes "1" ∷ codes "mode" ∷ mode_word c.args.run.now.mode ∷ []) (codes "buckets" ∷ decimal c.args.run.now.plan.buckets ∷ []) (codes "senders" ∷ decimal (length c.args.run.now.plan.senders) ∷ []) (codes "window" ∷ decimal c.args.run.now.plan.window ∷ []))
