use Rattle.std.proofs.Common.{◌<◌, ◌≤◌, ◌+◌, ℕ, List, length, ap, ◌∙◌, sym, subst, arith, rules}
use Rattle.std.proofs.lemmas.Result.{err_from_is_err_and}
use Rattle.nb_base.specs.Params.{InRange}
use Rattle.nb_bucket.specs.Bucket.{Journal, Stands}
use Rattle.nb_base.specs.declared.line.Line.{Line}
use Rattle.nb_journal.specs.Lawful.{NothingDue, IsLawful}
use Rattle.nb_bucket.specs.Counting.{shown, IsCensusOf, CountsAlong}
use Rattle.nb_bucket.specs.Keeps.{IsNextSweep}
use Rattle.nb_bucket.specs.Dues.{IsNextTimer}
use Rattle.timer_wheel.specs.Map.{Timers}
use Rattle.nb_bucket.proofs.NextTimer.{none_before}
use Rattle.nb_bucket.proofs.Armed.{armed-passed, bare-nodes, next-ahead, timer-made, timer-one}
use Rattle.nb_bucket.proofs.NextSweep.{next-one}
use Rattle.nb_bucket.proofs.Ranks.{holds-next_timer}
use Rattle.nb_bucket.proofs.CountsAlong.{counts-same, counts-timer}
use Rattle.nb_bucket.proofs.Keeping.{stands-bare, follows-next_timer, next-next_timer, full-next_timer, reached-lawful}
use Rattle.nb_bucket.proofs.bucket.Bucket.push_timer.Goals as goal

pub returns-in_err-check_room-clause-refused : goal.returns-in_err-check_room-clause-refused
returns-in_err-check_room-clause-refused g c =
    let p = err_from_is_err_and c.from_residual.result c.from_residual.ensures.1 in
    let r = subst (λ (j : Journal). InRange j.params) c.self.view_is c.self.invariant.follows.params in
    let stands = subst (λ (j : Journal). Stands j.params j.lines j.clock) c.self.view_is c.self.invariant.follows.stands in
    let timer = subst (λ (j : Journal). IsNextTimer j.params j.lines c.in-Some.line) c.self.view_is c.in-Some.ensures.next in
    rw (p.1, p.2, c.in_err-check_room.ensures.full) (full-next_timer c.args.self.now c.args.until c.args.next c.in-Some.line _ r stands c.requires.next timer c.in-Some.ensures.due c.requires.until
    (ap length c.lines.ensures ∙ ap (λ (j : Journal). length j.lines) c.self.view_is) (subst (λ (n : ℕ). n < length c.lines.result.now + 1) (ap (λ (j : Journal). j.limit) c.self.view_is) c.in_err-check_room.ensures.too_many))

pub invariant_of-self-2 : goal.invariant_of-self-2
invariant_of-self-2 g c =
    let b = c.self.inside in
    let n = subst (λ (j : Journal). IsNextSweep j.params j.lines j.clock c.args.next) (sym c.self.view_is) c.requires.next in
    let one = next-one b.fold.params b.fold.lines b.clock b.next_sweep c.args.next c.self.invariant.follows.next n in
    record {
      follows = rw (c.append.ensures.lines, c.append.ensures.params, c.in_ok-reserve.ensures.same, c.in_ok-reserve.ensures.params)
          (follows-next_timer b.fold.params b.limit b.fold.lines b.clock b.next_sweep b.last_pass c.in-Some.line c.self.invariant.follows c.in-Some.ensures.next
          (omega (arith, c.in-Some.ensures.due, c.requires.until, one)) (omega (arith, c.in-Some.ensures.due, c.requires.now))
          (omega (arith, c.in_ok-check_room.ensures.room, ap length c.lines.ensures)));
      order = rw (c.append.ensures.lines, c.append.ensures.params, c.in_ok-reserve.ensures.same, c.in_ok-reserve.ensures.params)
          (holds-next_timer b.fold.params b.fold.lines c.in-Some.line b.order c.in-Some.ensures.next c.self.invariant.order);
      victims = c.self.invariant.victims;
      ranks = c.self.invariant.ranks;
      armed = c.append.ensures.armed;
      passed = let now = c.append.ensures.now ∙ ap (λ (t : Timers). t.now) c.advance.ensures in omega (arith, now);
    }

pub advance-requires-clause-later : goal.advance-requires-clause-later
advance-requires-clause-later g c = let b = c.self.inside in next-ahead b.fold.params b.fold.lines c.in-Some.line b.timers c.self.invariant.armed c.in-Some.ensures.next

pub advance-requires-clause-none : goal.advance-requires-clause-none
advance-requires-clause-none g c = let b = c.self.inside in none_before b.fold.params b.fold.lines b.timers c.in-Some.line.at c.self.invariant.armed c.in-Some.ensures.next.next.least

pub append-requires-clause-armed : goal.append-requires-clause-armed
append-requires-clause-armed g c =
    let b = c.self.inside in
    rw (c.advance.ensures, c.in_ok-reserve.ensures.same, c.in_ok-reserve.ensures.params) (armed-passed b.fold.params b.fold.lines b.timers c.in-Some.line.at c.in-Some.ensures.next.next.least c.self.invariant.armed)

pub append-requires-clause-one : goal.append-requires-clause-one
append-requires-clause-one g c = let b = c.self.inside in timer-one b.fold.params b.fold.lines c.in-Some.line c.in-Some.ensures.next

pub append-requires-clause-passed : goal.append-requires-clause-passed
append-requires-clause-passed g c = let now = ap (λ (t : Timers). t.now) c.advance.ensures in omega (arith, now)

pub append-requires-clause-nodes : goal.append-requires-clause-nodes
append-requires-clause-nodes g c =
    let b = c.self.inside in
    rw (c.advance.ensures, c.in_ok-reserve.ensures.same) (bare-nodes b.fold.params b.fold.lines c.in-Some.line b.timers (timer-made b.fold.params b.fold.lines c.in-Some.line c.in-Some.ensures.next) c.self.invariant.armed)

pub returns-clause-next : goal.returns-clause-next
returns-clause-next g c =
    let b = c.self.inside in
    let n = subst (λ (j : Journal). IsNextSweep j.params j.lines j.clock c.args.next) (sym c.self.view_is) c.requires.next in
    λ _. rw (c.append.ensures.lines, c.append.ensures.params, c.in_ok-reserve.ensures.same, c.in_ok-reserve.ensures.params)
    (next-next_timer b.fold.params b.fold.lines b.clock c.args.next c.in-Some.line c.self.invariant.follows.params c.self.invariant.follows.stands n c.in-Some.ensures.next (omega (arith, c.in-Some.ensures.due, c.requires.until)))

pub returns-in_err-check_room-clause-counted : goal.returns-in_err-check_room-clause-counted
returns-in_err-check_room-clause-counted g c = counts-same c.args.self.now.params c.args.self.now.lines (shown g.C.Census.name g.C.Census.share g.C.Census.changes g.C.Census.looks g.C.Census.others c.args.census.now) c.requires.census

pub returns-in_err-reserve-clause-counted : goal.returns-in_err-reserve-clause-counted
returns-in_err-reserve-clause-counted g c =
    subst (λ (xs : List Line). CountsAlong c.args.self.now.params c.args.self.now.lines xs (shown g.C.Census.name g.C.Census.share g.C.Census.changes g.C.Census.looks g.C.Census.others c.args.census.now) (shown g.C.Census.name g.C.Census.share g.C.Census.changes g.C.Census.looks g.C.Census.others c.args.census.now)) (sym (c.in_err-reserve.ensures.same ∙ ap (λ (j : Journal). j.lines) c.self.view_is))
    (counts-same c.args.self.now.params c.args.self.now.lines (shown g.C.Census.name g.C.Census.share g.C.Census.changes g.C.Census.looks g.C.Census.others c.args.census.now) c.requires.census)

pub returns-in_default-clause-counted : goal.returns-in_default-clause-counted
returns-in_default-clause-counted g c = counts-same c.args.self.now.params c.args.self.now.lines (shown g.C.Census.name g.C.Census.share g.C.Census.changes g.C.Census.looks g.C.Census.others c.args.census.now) c.requires.census

pub returns-in_default-clause-lawful : goal.returns-in_default-clause-lawful
returns-in_default-clause-lawful g c =
    let b = c.self.inside in
    let n = subst (λ (j : Journal). IsNextSweep j.params j.lines j.clock c.args.next) (sym c.self.view_is) c.requires.next in
    let one = next-one b.fold.params b.fold.lines b.clock b.next_sweep c.args.next c.self.invariant.follows.next n in
    let none : NothingDue b.fold.params b.fold.lines c.args.until = search rules in
    λ _ le lt. subst (λ (j : Journal). IsLawful j.params j.lines c.args.until) c.self.view_is
    (reached-lawful b.fold.params b.limit b.fold.lines b.clock b.next_sweep b.last_pass c.args.until c.self.invariant.follows none (omega (arith, lt, one)) (subst (λ (j : Journal). j.clock ≤ c.args.until) (sym c.self.view_is) le))

pub returns-clause-counted : goal.returns-clause-counted
returns-clause-counted g c =
    let b = c.self.inside in
    let is = subst (λ (j : Journal). IsCensusOf j.params j.lines (shown g.C.Census.name g.C.Census.share g.C.Census.changes g.C.Census.looks g.C.Census.others c.args.census.now)) (sym c.self.view_is) c.requires.census in
    let counted = rw (c.append.ensures.lines, c.append.ensures.params, c.in_ok-reserve.ensures.same, c.in_ok-reserve.ensures.params) at c.append.ensures.counted in
    rw (← c.self.view_is, c.append.ensures.lines, c.in_ok-reserve.ensures.same)
    (counts-timer b.fold.params b.fold.lines c.in-Some.line (shown g.C.Census.name g.C.Census.share g.C.Census.changes g.C.Census.looks g.C.Census.others c.args.census.now) (shown g.C.Census.name g.C.Census.share g.C.Census.changes g.C.Census.looks g.C.Census.others c.append.new.census) (stands-bare b.fold.params b.fold.lines b.clock c.self.invariant.follows.stands) c.in-Some.ensures.next is counted)
