use Rattle.std.proofs.Common.{◌≤◌, sym, ap, subst, arith}
use Rattle.nb_journal.specs.Lawful.{IsLawful}
use Rattle.timer_wheel.specs.Map.{Timers}
use Rattle.nb_bucket.specs.Bucket.{Journal}
use Rattle.nb_bucket.proofs.NextTimer.{none_before}
use Rattle.nb_bucket.proofs.Armed.{armed-passed, overdue-of_due}
use Rattle.nb_bucket.proofs.Keeping.{follows-settled}
use Rattle.nb_bucket.proofs.bucket.Bucket.settle.Goals as goal

pub advance-requires-clause-later : goal.advance-requires-clause-later
advance-requires-clause-later c =
    let le = subst (λ (j : Journal). j.clock ≤ c.args.to) (sym c.self.view_is) c.requires.clock in
    omega (arith, c.self.invariant.passed, le)

pub advance-requires-clause-none : goal.advance-requires-clause-none
advance-requires-clause-none c =
    let b = c.self.inside in
    let lawful = subst (λ (j : Journal). IsLawful j.params j.lines c.args.to) (sym c.self.view_is) c.requires.lawful in
    none_before b.fold.params b.fold.lines b.timers c.args.to c.self.invariant.armed (overdue-of_due b.fold.params b.fold.lines c.args.to lawful.none_left)

pub invariant_of-self : goal.invariant_of-self
invariant_of-self c =
    let b = c.self.inside in
    let lawful = subst (λ (j : Journal). IsLawful j.params j.lines c.args.to) (sym c.self.view_is) c.requires.lawful in
    let le = subst (λ (j : Journal). j.clock ≤ c.args.to) (sym c.self.view_is) c.requires.clock in
    record {
      follows = follows-settled b.fold.params b.limit b.fold.lines b.clock b.next_sweep b.last_pass c.args.to c.self.invariant.follows lawful le c.requires.now;
      order = c.self.invariant.order;
      victims = c.self.invariant.victims;
      ranks = c.self.invariant.ranks;
      armed = rw c.advance.ensures (armed-passed b.fold.params b.fold.lines b.timers c.args.to (overdue-of_due b.fold.params b.fold.lines c.args.to lawful.none_left) c.self.invariant.armed);
      passed = let now = ap (λ (t : Timers). t.now) c.advance.ensures in omega (arith, now);
    }
