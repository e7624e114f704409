use Rattle.std.proofs.Common.{◌≡◌, List, [], take, get_or, subst, sym, arith}
use Rattle.nb_base.specs.declared.line.Line.{Line}
use Rattle.nb_journal.proofs.Takes.{taken}
use Rattle.neigh_run.specs.Entries.{entries_after}
use Rattle.neigh_run.specs.Report.{journal_acts, waiting_after}
use Rattle.neigh_report.specs.Left.{entries, waits}
use Rattle.neigh_report.proofs.LeftBehind.{flat_more}
use Rattle.neigh_report.proofs.tally.take_buckets.Goals as goal

pub loop-number-preserved : goal.loop-number-preserved
loop-number-preserved c =
    let past = take c.loop-number.number c.args.journals.now in
    let journal = c.as_slice.result.now in
    let is : journal ≡ get_or c.args.journals.now c.loop-number.number journal = subst (λ (x : List Line). x ≡ get_or c.args.journals.now c.loop-number.number x) (sym c.as_slice.ensures) c.index-journals-number.is in
    let told = c.in_ok-take_one_bucket.ensures in
    rw (taken c.args.journals.now c.loop-number.number journal (omega arith) is) (record {
      acts = flat_more (journal_acts c.args.plan.now []) past journal c.loop-number.behind.acts.items c.take_one_bucket.new.behind.acts.items c.loop-number.invariant.acts told.acts;
      entries = flat_more (entries_after c.args.plan.now.host c.args.plan.now.params) past journal (entries c.args.plan.now.host c.loop-number.behind.folds.items) (entries c.args.plan.now.host c.take_one_bucket.new.behind.folds.items) c.loop-number.invariant.entries told.entries;
      waits = flat_more (waiting_after c.args.plan.now) past journal (waits c.loop-number.behind.folds.items) (waits c.take_one_bucket.new.behind.folds.items) c.loop-number.invariant.waits told.waits;
      few = told.few c.loop-number.invariant.few;
    })
