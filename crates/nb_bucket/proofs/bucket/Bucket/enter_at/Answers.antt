use Rattle.std.proofs.Common.{◌≡◌, ◌+◌, ◌≤◌, None, if◌then◌else◌, Bool, List, length, refl, ap, ◌∙◌, sym, subst, arith, rules}
use Rattle.std.proofs.lemmas.Result.{err_from_is_err_and}
use Rattle.nb_base.specs.declared.key.Key.{Key}
use Rattle.nb_base.specs.declared.line.Line.{Line}
use Rattle.nb_journal.specs.Fold.{known_keys}
use Rattle.nb_journal.specs.Lawful.{asked_of_pass, IsLawful}
use Rattle.nb_journal.proofs.Folds.{known_keys-within}
use Rattle.timer_wheel.specs.Map.{Timers}
use Rattle.nb_bucket.proofs.NextTimer.{none_before}
use Rattle.nb_bucket.proofs.Armed.{armed-passed, overdue-of_due}
use Rattle.nb_bucket.specs.Bucket.{Journal, operation_line}
use Rattle.nb_bucket.specs.Keeps.{journal_of}
use Rattle.nb_bucket.specs.Counting.{shown, IsCensusOf, CountsRefused}
use Rattle.nb_bucket.proofs.Collects.{asked-few}
use Rattle.nb_bucket.proofs.Enters.{planned-saw, looks-total, follows-brought, full-entered, is_entered, later_of}
use Rattle.nb_bucket.proofs.CountsAlong.{on_refusal, refused-looked, counts-entered}
use Rattle.nb_bucket.proofs.bucket.Bucket.enter_at.Goals as goal

pub returns-in_err-check_room-clause-refused : goal.returns-in_err-check_room-clause-refused
returns-in_err-check_room-clause-refused g c =
    let b = c.self.inside in
    let p = err_from_is_err_and c.from_residual.result c.from_residual.ensures.1 in
    let lawful = subst (λ (j : Journal). IsLawful j.params j.lines c.args.at) (sym c.self.view_is) c.requires.lawful in
    let is = subst (λ (j : Journal). IsCensusOf j.params j.lines (shown g.C.Census.name g.C.Census.share g.C.Census.changes g.C.Census.looks g.C.Census.others c.args.census.now)) (sym c.self.view_is) c.requires.census in
    let bare = operation_line c.args.at c.args.id c.args.op None in
    let saw = planned-saw b.fold.params b.fold.lines bare c.plan-planned.result c.plan-planned.new.victims.items (shown g.C.Census.name g.C.Census.share g.C.Census.changes g.C.Census.looks g.C.Census.others c.args.census.now) (shown g.C.Census.name g.C.Census.share g.C.Census.changes g.C.Census.looks g.C.Census.others c.plan-planned.new.census) c.requires.own c.plan-planned.ensures.planned is c.plan-planned.ensures.looked in
    let count : c.len-collects.result ≡ length (asked_of_pass b.fold.params b.fold.lines (operation_line c.args.at c.args.id c.args.op c.plan-planned.result.seen)) = omega (arith, ap (λ (keys : List Key). length keys) c.plan-planned.ensures.planned.victims_are) in
    rw (p.1, p.2, c.in_err-check_room.ensures.full, ← c.self.view_is)
    (full-entered (journal_of b) c.args.at c.args.id c.args.op (g.C.Census.others c.args.census.now) c.plan-planned.result.seen (length c.lines.result.now) c.len-collects.result
    (looks-total b.fold.params b.fold.lines (shown g.C.Census.name g.C.Census.share g.C.Census.changes g.C.Census.looks g.C.Census.others c.args.census.now) (shown g.C.Census.name g.C.Census.share g.C.Census.changes g.C.Census.looks g.C.Census.others c.plan-planned.new.census) c.plan-planned.result.seen is c.plan-planned.ensures.looked) c.self.invariant.follows.params lawful c.requires.own saw
    (ap (λ (xs : List _). length xs) c.lines.ensures) count c.in_err-check_room.ensures.too_many)

pub invariant_of-self-2 : goal.invariant_of-self-2
invariant_of-self-2 g c =
    let b = c.self.inside in
    let lawful = subst (λ (j : Journal). IsLawful j.params j.lines c.args.at) (sym c.self.view_is) c.requires.lawful in
    let le = subst (λ (j : Journal). j.clock ≤ c.args.at) (sym c.self.view_is) c.requires.clock in
    let is = subst (λ (j : Journal). IsCensusOf j.params j.lines (shown g.C.Census.name g.C.Census.share g.C.Census.changes g.C.Census.looks g.C.Census.others c.args.census.now)) (sym c.self.view_is) c.requires.census in
    let bare = operation_line c.args.at c.args.id c.args.op None in
    let line = operation_line c.args.at c.args.id c.args.op c.plan-planned.result.seen in
    let saw = planned-saw b.fold.params b.fold.lines bare c.plan-planned.result c.plan-planned.new.victims.items (shown g.C.Census.name g.C.Census.share g.C.Census.changes g.C.Census.looks g.C.Census.others c.args.census.now) (shown g.C.Census.name g.C.Census.share g.C.Census.changes g.C.Census.looks g.C.Census.others c.plan-planned.new.census) c.requires.own c.plan-planned.ensures.planned is c.plan-planned.ensures.looked in
    record {
      follows = rw (c.write-reply.ensures.lines, c.write-reply.ensures.params, c.in_ok-make_room.ensures.lines, c.in_ok-make_room.ensures.params)
          (follows-brought b.fold.params b.limit b.fold.lines b.clock b.next_sweep b.last_pass line c.pass_after-self-inside.result c.self.invariant.follows
          le c.requires.now lawful c.requires.own refl saw
          (omega (arith, c.in_ok-check_room.ensures.room, ap (λ (xs : List _). length xs) c.lines.ensures, ap (λ (keys : List Key). length keys) c.plan-planned.ensures.planned.victims_are))
          (c.pass_after-self-inside.ensures ∙ ap (λ (t : Bool). if t then c.args.at else b.last_pass) c.plan-planned.ensures.planned.pass_is)
          (rw c.pass_after-self-inside.ensures (later_of c.plan-planned.result.pass c.args.at b.last_pass c.requires.now c.self.invariant.follows.early)));
      order = c.write-reply.ensures.order;
      victims = search rules;
      ranks = search rules;
      armed = c.write-reply.ensures.armed;
      passed = let now = c.write-reply.ensures.passed ∙ ap (λ (t : Timers). t.now) c.advance.ensures in omega (arith, now);
    }

pub advance-requires-clause-later : goal.advance-requires-clause-later
advance-requires-clause-later g c =
    let le = subst (λ (j : Journal). j.clock ≤ c.args.at) (sym c.self.view_is) c.requires.clock in
    let now = c.in_ok-make_room.ensures.passed in
    omega (arith, now, c.self.invariant.passed, le)

pub advance-requires-clause-none : goal.advance-requires-clause-none
advance-requires-clause-none g c =
    let b = c.self.inside in
    let lawful = subst (λ (j : Journal). IsLawful j.params j.lines c.args.at) (sym c.self.view_is) c.requires.lawful in
    none_before b.fold.params b.fold.lines _ c.args.at c.in_ok-make_room.ensures.armed (overdue-of_due b.fold.params b.fold.lines c.args.at lawful.none_left)

pub write-reply-requires-clause-armed : goal.write-reply-requires-clause-armed
write-reply-requires-clause-armed g c =
    let b = c.self.inside in
    let lawful = subst (λ (j : Journal). IsLawful j.params j.lines c.args.at) (sym c.self.view_is) c.requires.lawful in
    rw (c.advance.ensures, c.in_ok-make_room.ensures.lines, c.in_ok-make_room.ensures.params)
    (armed-passed b.fold.params b.fold.lines _ c.args.at (overdue-of_due b.fold.params b.fold.lines c.args.at lawful.none_left) c.in_ok-make_room.ensures.armed)

pub write-reply-requires-clause-passed : goal.write-reply-requires-clause-passed
write-reply-requires-clause-passed g c = let now = ap (λ (t : Timers). t.now) c.advance.ensures in omega (arith, now)

pub write-reply-requires-clause-timer : goal.write-reply-requires-clause-timer
write-reply-requires-clause-timer g c = rw (c.advance.ensures, c.in_ok-make_room.ensures.lines) c.in_ok-make_room.ensures.timer

pub returns-clause-entered : goal.returns-clause-entered
returns-clause-entered g c =
    let b = c.self.inside in
    let lawful = subst (λ (j : Journal). IsLawful j.params j.lines c.args.at) (sym c.self.view_is) c.requires.lawful in
    let is = subst (λ (j : Journal). IsCensusOf j.params j.lines (shown g.C.Census.name g.C.Census.share g.C.Census.changes g.C.Census.looks g.C.Census.others c.args.census.now)) (sym c.self.view_is) c.requires.census in
    let bare = operation_line c.args.at c.args.id c.args.op None in
    let saw = planned-saw b.fold.params b.fold.lines bare c.plan-planned.result c.plan-planned.new.victims.items (shown g.C.Census.name g.C.Census.share g.C.Census.changes g.C.Census.looks g.C.Census.others c.args.census.now) (shown g.C.Census.name g.C.Census.share g.C.Census.changes g.C.Census.looks g.C.Census.others c.plan-planned.new.census) c.requires.own c.plan-planned.ensures.planned is c.plan-planned.ensures.looked in
    let params = c.write-reply.ensures.params ∙ c.in_ok-make_room.ensures.params in
    let lines = rw (c.in_ok-make_room.ensures.lines, c.in_ok-make_room.ensures.params) at c.write-reply.ensures.lines in
    let reply = rw (c.in_ok-make_room.ensures.lines, c.in_ok-make_room.ensures.params) at c.write-reply.ensures.reply in
    let count : c.len-collects.result ≡ length (asked_of_pass b.fold.params b.fold.lines (operation_line c.args.at c.args.id c.args.op c.plan-planned.result.seen)) = omega (arith, ap (λ (keys : List Key). length keys) c.plan-planned.ensures.planned.victims_are) in
    rw (← c.self.view_is)
    (is_entered (journal_of b) c.write-reply.new.fold.params c.write-reply.new.fold.lines c.args.at c.args.id c.args.op c.plan-planned.result.seen (length c.lines.result.now) c.len-collects.result c.write-reply.result
    c.self.invariant.follows.params lawful c.requires.own saw params lines (ap (λ (xs : List _). length xs) c.lines.ensures) count reply)

pub returns-in_err-check_room-clause-refused_counted : goal.returns-in_err-check_room-clause-refused_counted
returns-in_err-check_room-clause-refused_counted g c =
    let old = c.args.self.now in
    on_refusal c.from_residual.result (CountsRefused old.params old.lines c.self.inside.fold.lines (shown g.C.Census.name g.C.Census.share g.C.Census.changes g.C.Census.looks g.C.Census.others c.args.census.now) (shown g.C.Census.name g.C.Census.share g.C.Census.changes g.C.Census.looks g.C.Census.others c.plan-planned.new.census))
    (subst (λ (xs : List Line). CountsRefused old.params old.lines xs (shown g.C.Census.name g.C.Census.share g.C.Census.changes g.C.Census.looks g.C.Census.others c.args.census.now) (shown g.C.Census.name g.C.Census.share g.C.Census.changes g.C.Census.looks g.C.Census.others c.plan-planned.new.census)) (sym (ap (λ (j : Journal). j.lines) c.self.view_is))
    (refused-looked old.params old.lines (shown g.C.Census.name g.C.Census.share g.C.Census.changes g.C.Census.looks g.C.Census.others c.args.census.now) (shown g.C.Census.name g.C.Census.share g.C.Census.changes g.C.Census.looks g.C.Census.others c.plan-planned.new.census) c.plan-planned.result.seen c.requires.census c.plan-planned.ensures.looked))

pub returns-in_err-make_room-clause-refused_counted : goal.returns-in_err-make_room-clause-refused_counted
returns-in_err-make_room-clause-refused_counted g c =
    let old = c.args.self.now in
    on_refusal c.from_residual-in_err-make_room.result (CountsRefused old.params old.lines c.make_room.new.fold.lines (shown g.C.Census.name g.C.Census.share g.C.Census.changes g.C.Census.looks g.C.Census.others c.args.census.now) (shown g.C.Census.name g.C.Census.share g.C.Census.changes g.C.Census.looks g.C.Census.others c.plan-planned.new.census))
    (subst (λ (xs : List Line). CountsRefused old.params old.lines xs (shown g.C.Census.name g.C.Census.share g.C.Census.changes g.C.Census.looks g.C.Census.others c.args.census.now) (shown g.C.Census.name g.C.Census.share g.C.Census.changes g.C.Census.looks g.C.Census.others c.plan-planned.new.census)) (sym (c.in_err-make_room.ensures.lines ∙ ap (λ (j : Journal). j.lines) c.self.view_is))
    (refused-looked old.params old.lines (shown g.C.Census.name g.C.Census.share g.C.Census.changes g.C.Census.looks g.C.Census.others c.args.census.now) (shown g.C.Census.name g.C.Census.share g.C.Census.changes g.C.Census.looks g.C.Census.others c.plan-planned.new.census) c.plan-planned.result.seen c.requires.census c.plan-planned.ensures.looked))

pub returns-clause-counted : goal.returns-clause-counted
returns-clause-counted g c =
    let b = c.self.inside in
    let lawful = subst (λ (j : Journal). IsLawful j.params j.lines c.args.at) (sym c.self.view_is) c.requires.lawful in
    let is = subst (λ (j : Journal). IsCensusOf j.params j.lines (shown g.C.Census.name g.C.Census.share g.C.Census.changes g.C.Census.looks g.C.Census.others c.args.census.now)) (sym c.self.view_is) c.requires.census in
    let line = operation_line c.args.at c.args.id c.args.op c.plan-planned.result.seen in
    let lines = rw (c.in_ok-make_room.ensures.lines, c.in_ok-make_room.ensures.params) at c.write-reply.ensures.lines in
    let counted = rw (c.in_ok-make_room.ensures.lines, c.in_ok-make_room.ensures.params) at c.write-reply.ensures.counted in
    rw (← c.self.view_is)
    (counts-entered b.fold.params b.fold.lines c.write-reply.new.fold.lines line (shown g.C.Census.name g.C.Census.share g.C.Census.changes g.C.Census.looks g.C.Census.others c.args.census.now) (shown g.C.Census.name g.C.Census.share g.C.Census.changes g.C.Census.looks g.C.Census.others c.plan-planned.new.census) (shown g.C.Census.name g.C.Census.share g.C.Census.changes g.C.Census.looks g.C.Census.others c.write-reply.new.census) lawful.orderly.passes_only c.requires.own is c.plan-planned.ensures.looked lines counted)

pub overflow_cast-collects : goal.overflow_cast-collects
overflow_cast-collects g c =
    let b = c.self.inside in
    let few = asked-few b.fold.params b.fold.lines (operation_line c.args.at c.args.id c.args.op c.plan-planned.result.seen) in
    omega (arith, few, ap (λ (keys : List Key). length keys) c.plan-planned.ensures.planned.victims_are, c.self.invariant.follows.few, c.self.invariant.follows.most)

pub overflow_add-collects : goal.overflow_add-collects
overflow_add-collects g c =
    let b = c.self.inside in
    let few = asked-few b.fold.params b.fold.lines (operation_line c.args.at c.args.id c.args.op c.plan-planned.result.seen) in
    omega (arith, few, ap (λ (keys : List Key). length keys) c.plan-planned.ensures.planned.victims_are, c.self.invariant.follows.few, c.self.invariant.follows.most)
