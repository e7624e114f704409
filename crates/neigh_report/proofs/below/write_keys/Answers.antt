use Rattle.std.proofs.Common.{List, ◌++◌, ◌∙◌, ap, arith, get_or}
use Rattle.std.specs.Prelude.{string_bytes}
use Rattle.nb_base.specs.declared.key.Key.TheVariants.{V4}
use Rattle.nb_journal.specs.declared.kept.Kept.{Kept}
use Rattle.text_codes.specs.Lines.{Words, text_of}
use Rattle.neigh_report.proofs.Listing.{entries_more, rows_all, at_self}
use Rattle.neigh_report.proofs.below.write_keys.Goals as goal

pub loop-rank-preserved : goal.loop-rank-preserved
loop-rank-preserved c =
    let keys = c.args.known.now in
    let kept = c.args.kept.now in
    let i = c.loop-rank.rank in
    let one = c.index-kept-rank.result in
    entries_more c.args.host.now keys kept i (get_or keys i (V4 0)) (get_or kept i one) (string_bytes c.args.report.now) (string_bytes c.loop-rank.report) (string_bytes c.write_key.new.report)
    c.requires (omega arith) (at_self keys i (V4 0) (omega arith)) (ap (λ (x : Kept). get_or kept i x) c.index-kept-rank.is) c.loop-rank.invariant c.in_ok-write_key.ensures

pub returns : goal.returns
returns c =
    c.loop-rank.invariant ∙ ap (λ (shown : List Words). string_bytes c.args.report.now ++ text_of shown) (rows_all c.args.host.now c.args.known.now c.args.kept.now c.loop-rank.rank c.requires (omega arith))
