use Rattle.std.proofs.Common.{subst, sym}
use Rattle.nb_journal.specs.Steps.{IsShort}
use Rattle.neigh_report.proofs.LeftBehind.{entries_put, waits_put}
use Rattle.neigh_report.proofs.tally.take_one_bucket.Goals as goal

pub returns-clause-entries : goal.returns-clause-entries
returns-clause-entries c =
    let fold = c.in_ok-fold.ensures in
    entries_put c.args.plan.now.host c.args.plan.now.params c.args.lines.now c.in_ok-fold.fold c.args.behind.now.folds.items c.put_fold.new.folds.items fold.params fold.lines (c.in_ok-put_fold.ensures.entries c.args.plan.now.host)

pub returns-clause-waits : goal.returns-clause-waits
returns-clause-waits c =
    let fold = c.in_ok-fold.ensures in
    waits_put c.args.plan.now c.args.lines.now c.in_ok-fold.fold c.args.behind.now.folds.items c.put_fold.new.folds.items fold.params fold.lines c.in_ok-put_fold.ensures.waits

pub returns-clause-few : goal.returns-clause-few
returns-clause-few c short = c.in_ok-put_fold.ensures.few short (subst IsShort (sym c.in_ok-fold.ensures.lines) c.requires.few)
