use Rattle.std.proofs.Common.{◌<◌, refl, rules}
use Rattle.nb_bucket.proofs.NextTimer.{none_due, none_before_least, least_is_next_at}
use Rattle.nb_bucket.proofs.timers.next_timer.Goals as goal

pub returns-in_err-at-clause-none : goal.returns-in_err-at-clause-none
returns-in_err-at-clause-none c = rw c.from_residual.ensures (none_due c.args.fold.now.params c.args.fold.now.lines c.args.timers.now c.args.until c.requires.armed c.in_err-at.ensures.least)

pub returns-then-gt-clause-none : goal.returns-then-gt-clause-none
returns-then-gt-clause-none c =
    let lt : c.args.until < c.in_ok-at.at = search rules in
    none_before_least c.args.fold.now.params c.args.fold.now.lines c.args.timers.now c.in_ok-at.node c.in_ok-at.at c.args.until lt c.requires.armed c.in_ok-at.ensures.least

pub returns-clause-next : goal.returns-clause-next
returns-clause-next c = record {
  key = _;
  line_is = refl;
  next = least_is_next_at c.args.fold.now.params c.args.fold.now.lines c.args.timers.now c.keys.result.now _ c.in_ok-at.node c.in_ok-at.at c.requires.armed c.keys.ensures c.in_ok-at.ensures.least;
}
