-- One bucket's journal more.
use Rattle.std.proofs.Common.{arith, sym, ◌∙◌, subst}
use Rattle.neigh_replay.specs.Verdict.{HasFewLines}
use Rattle.neigh_replay.proofs.Journals.{taken_more}
use Rattle.neigh_replay.proofs.inline.journals_of.Goals as goal

pub loop-bucket-preserved : goal.loop-bucket-preserved
loop-bucket-preserved c =
    let all = c.buckets-bucket-end.ensures in
    let less = c.loop-bucket-test.true in
    taken_more c.args.table.now c.loop-bucket.bucket c.loop-bucket.journals c.push.new.self c.in_ok-journal.journal (omega (arith, all, less)) c.loop-bucket.invariant
    (c.in_ok-journal.ensures ∙ c.lines.ensures.value) (subst HasFewLines (sym c.in_ok-journal.ensures) c.lines.ensures.few) c.in_ok-push.ensures.ok
