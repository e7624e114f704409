use Rattle.std.proofs.Common.{◌≡◌, List, [], take, get_or, subst, sym, arith}
use Rattle.std.proofs.lemmas.List.{length-take-le}
use Rattle.std.specs.Prelude.{string_bytes}
use Rattle.nb_base.specs.declared.line.Line.{Line}
use Rattle.nb_journal.proofs.Takes.{taken}
use Rattle.neigh_run.specs.Entries.{entries_after}
use Rattle.neigh_run.specs.Report.{journal_acts, waiting_after}
use Rattle.neigh_report.specs.Left.{entries, waits}
use Rattle.neigh_report.proofs.LeftBehind.{buckets_more, flat_more}
use Rattle.neigh_report.proofs.behind.write_buckets.Goals as goal

pub loop-number-preserved : goal.loop-number-preserved
loop-number-preserved c =
    let past = take c.loop-number.number c.args.journals.now in
    let journal = c.as_slice.result.now in
    let is : journal ≡ get_or c.args.journals.now c.loop-number.number journal = subst (λ (x : List Line). x ≡ get_or c.args.journals.now c.loop-number.number x) (sym c.as_slice.ensures) c.index-journals-number.is in
    rw (taken c.args.journals.now c.loop-number.number journal (omega arith) is) (record {
      written = buckets_more c.args.plan.now past journal c.loop-number.number (string_bytes c.args.report.now) (string_bytes c.loop-number.report) (string_bytes c.write_one_bucket.new.report) (sym (length-take-le c.loop-number.number c.args.journals.now (omega arith))) c.loop-number.invariant.written c.in_ok-write_one_bucket.ensures.written;
      acts = flat_more (journal_acts c.args.plan.now []) past journal c.loop-number.behind.acts.items c.write_one_bucket.new.behind.acts.items c.loop-number.invariant.acts c.in_ok-write_one_bucket.ensures.acts;
      entries = flat_more (entries_after c.args.plan.now.host c.args.plan.now.params) past journal (entries c.args.plan.now.host c.loop-number.behind.folds.items) (entries c.args.plan.now.host c.write_one_bucket.new.behind.folds.items) c.loop-number.invariant.entries c.in_ok-write_one_bucket.ensures.entries;
      waits = flat_more (waiting_after c.args.plan.now) past journal (waits c.loop-number.behind.folds.items) (waits c.write_one_bucket.new.behind.folds.items) c.loop-number.invariant.waits c.in_ok-write_one_bucket.ensures.waits;
      few = c.in_ok-write_one_bucket.ensures.few c.loop-number.invariant.few;
    })
