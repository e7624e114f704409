use Rattle.std.proofs.Common.{◌<◌, ◌+◌, ℕ, length, List, refl, ap, ◌∙◌, sym, subst, arith, rules}
use Rattle.std.proofs.lemmas.Result.{err_from_is_err_and}
use Rattle.nb_base.specs.Params.{InRange}
use Rattle.nb_journal.specs.Fold.{present_count}
use Rattle.nb_journal.specs.Lawful.{NothingDue, sweep_line}
use Rattle.nb_bucket.specs.Bucket.{Journal, Stands}
use Rattle.nb_base.specs.declared.line.Line.{Line}
use Rattle.nb_bucket.specs.Counting.{shown, IsCensusOf, CountsAlong}
use Rattle.nb_bucket.specs.Keeps.{IsNextSweep, FollowsJournal}
use Rattle.timer_wheel.specs.Map.{Timers}
use Rattle.nb_bucket.proofs.NextSweep.{next-one, next-sweep, clock-ahead}
use Rattle.nb_bucket.proofs.NextTimer.{none_before}
use Rattle.nb_bucket.proofs.Armed.{armed-passed, overdue-of_due}
use Rattle.nb_bucket.proofs.CountsAlong.{counts-same, along-line}
use Rattle.nb_bucket.proofs.Keeping.{stands-bare, follows-sweep, full-sweep}
use Rattle.nb_bucket.proofs.bucket.Bucket.push_sweep.Goals as goal

pub returns-in_err-check_room-clause-refused : goal.returns-in_err-check_room-clause-refused
returns-in_err-check_room-clause-refused g c =
    let p = err_from_is_err_and c.from_residual.result c.from_residual.ensures.1 in
    let r = subst (λ (j : Journal). InRange j.params) c.self.view_is c.self.invariant.follows.params in
    let stands = subst (λ (j : Journal). Stands j.params j.lines j.clock) c.self.view_is c.self.invariant.follows.stands in
    rw (p.1, p.2, c.in_err-check_room.ensures.full) (full-sweep c.args.self.now c.args.next _ r stands c.requires.next c.requires.none
    (ap length c.lines.ensures ∙ ap (λ (j : Journal). length j.lines) c.self.view_is) (subst (λ (n : ℕ). n < length c.lines.result.now + 1) (ap (λ (j : Journal). j.limit) c.self.view_is) c.in_err-check_room.ensures.too_many))

pub invariant_of-self-2 : goal.invariant_of-self-2
invariant_of-self-2 g c =
    let b = c.self.inside in
    let n = subst (λ (j : Journal). IsNextSweep j.params j.lines j.clock c.args.next) (sym c.self.view_is) c.requires.next in
    let none = subst (λ (j : Journal). NothingDue j.params j.lines c.args.next) (sym c.self.view_is) c.requires.none in
    let one = next-one b.fold.params b.fold.lines b.clock b.next_sweep c.args.next c.self.invariant.follows.next n in
    let share = ap (λ (j : Journal). present_count j.params j.lines) c.self.view_is in
    record {
      follows = rw (c.after-self-inside.ensures, c.params.ensures.params, c.write_each.ensures.lines, c.write_each.ensures.params, c.in_ok-reserve.ensures.same, c.in_ok-reserve.ensures.params)
          (follows-sweep b.fold.params b.limit b.fold.lines b.clock c.args.next b.last_pass c.look.result
          (subst (λ (m : ℕ). FollowsJournal b.fold.params b.limit b.fold.lines b.clock m b.last_pass) one c.self.invariant.follows) none
          (omega (arith, c.look.ensures.least, c.requires.census.share, share)) c.requires.now
          (omega (arith, c.in_ok-check_room.ensures.room, ap (λ (xs : List _). length xs) c.lines.ensures)));
      order = c.write_each.ensures.order;
      victims = search rules;
      ranks = search rules;
      armed = c.write_each.ensures.armed;
      passed = let now = c.write_each.ensures.passed ∙ ap (λ (t : Timers). t.now) c.advance.ensures in omega (arith, now);
    }

pub advance-requires-clause-later : goal.advance-requires-clause-later
advance-requires-clause-later g c =
    let b = c.self.inside in
    let n = subst (λ (j : Journal). IsNextSweep j.params j.lines j.clock c.args.next) (sym c.self.view_is) c.requires.next in
    let ahead = clock-ahead b.fold.params b.fold.lines b.clock c.args.next c.self.invariant.follows.stands n in
    omega (arith, ahead, c.self.invariant.passed)

pub advance-requires-clause-none : goal.advance-requires-clause-none
advance-requires-clause-none g c =
    let b = c.self.inside in
    let none = subst (λ (j : Journal). NothingDue j.params j.lines c.args.next) (sym c.self.view_is) c.requires.none in
    none_before b.fold.params b.fold.lines b.timers c.args.next c.self.invariant.armed (overdue-of_due b.fold.params b.fold.lines c.args.next none)

pub write_each-requires-clause-armed : goal.write_each-requires-clause-armed
write_each-requires-clause-armed g c =
    let b = c.self.inside in
    let none = subst (λ (j : Journal). NothingDue j.params j.lines c.args.next) (sym c.self.view_is) c.requires.none in
    rw (c.advance.ensures, c.in_ok-reserve.ensures.same, c.in_ok-reserve.ensures.params) (armed-passed b.fold.params b.fold.lines b.timers c.args.next (overdue-of_due b.fold.params b.fold.lines c.args.next none) c.self.invariant.armed)

pub write_each-requires-clause-passed : goal.write_each-requires-clause-passed
write_each-requires-clause-passed g c = let now = ap (λ (t : Timers). t.now) c.advance.ensures in omega (arith, now)

pub returns-clause-next : goal.returns-clause-next
returns-clause-next g c =
    let b = c.self.inside in
    let n = subst (λ (j : Journal). IsNextSweep j.params j.lines j.clock c.args.next) (sym c.self.view_is) c.requires.next in
    let none = subst (λ (j : Journal). NothingDue j.params j.lines c.args.next) (sym c.self.view_is) c.requires.none in
    let share = ap (λ (j : Journal). present_count j.params j.lines) c.self.view_is in
    rw (c.after-self-inside.ensures, c.params.ensures.params, c.write_each.ensures.lines, c.write_each.ensures.params, c.in_ok-reserve.ensures.same, c.in_ok-reserve.ensures.params)
    (next-sweep b.fold.params b.fold.lines b.clock c.args.next c.look.result c.self.invariant.follows.params c.self.invariant.follows.stands n none (omega (arith, c.look.ensures.least, c.requires.census.share, share)))

pub returns-in_err-check_room-clause-counted : goal.returns-in_err-check_room-clause-counted
returns-in_err-check_room-clause-counted g c = counts-same c.args.self.now.params c.args.self.now.lines (shown g.C.Census.name g.C.Census.share g.C.Census.changes g.C.Census.looks g.C.Census.others c.args.census.now) c.requires.census

pub returns-in_err-reserve-clause-counted : goal.returns-in_err-reserve-clause-counted
returns-in_err-reserve-clause-counted g c =
    subst (λ (xs : List Line). CountsAlong c.args.self.now.params c.args.self.now.lines xs (shown g.C.Census.name g.C.Census.share g.C.Census.changes g.C.Census.looks g.C.Census.others c.args.census.now) (shown g.C.Census.name g.C.Census.share g.C.Census.changes g.C.Census.looks g.C.Census.others c.args.census.now)) (sym (c.in_err-reserve.ensures.same ∙ ap (λ (j : Journal). j.lines) c.self.view_is))
    (counts-same c.args.self.now.params c.args.self.now.lines (shown g.C.Census.name g.C.Census.share g.C.Census.changes g.C.Census.looks g.C.Census.others c.args.census.now) c.requires.census)

pub returns-clause-counted : goal.returns-clause-counted
returns-clause-counted g c =
    let b = c.self.inside in
    let is = subst (λ (j : Journal). IsCensusOf j.params j.lines (shown g.C.Census.name g.C.Census.share g.C.Census.changes g.C.Census.looks g.C.Census.others c.args.census.now)) (sym c.self.view_is) c.requires.census in
    let counted = rw (c.write_each.ensures.lines, c.write_each.ensures.params, c.in_ok-reserve.ensures.same, c.in_ok-reserve.ensures.params) at c.write_each.ensures.counted in
    rw (← c.self.view_is, c.write_each.ensures.lines, c.in_ok-reserve.ensures.same)
    (along-line b.fold.params b.fold.lines (sweep_line c.args.next c.look.result) (shown g.C.Census.name g.C.Census.share g.C.Census.changes g.C.Census.looks g.C.Census.others c.args.census.now) (shown g.C.Census.name g.C.Census.share g.C.Census.changes g.C.Census.looks g.C.Census.others c.look.new.census) (shown g.C.Census.name g.C.Census.share g.C.Census.changes g.C.Census.looks g.C.Census.others c.write_each.new.census) (stands-bare b.fold.params b.fold.lines b.clock c.self.invariant.follows.stands) refl is c.look.ensures counted)
