use Rattle.std.proofs.Common.{◌≡◌, ℕ, ◌-◌, List, ap, ◌∙◌, arith}
use Rattle.hh_core.specs.declared.step.Step.TheVariants as step
use Rattle.hh_core.specs.declared.reader.ReaderPhase.TheVariants.{Rest}
use Rattle.hh_core.specs.State.{State, ReaderState, last_number, phase_of, change_at}
use Rattle.hh_core.specs.Step.{is_idle, rests, to_floor}
use Rattle.hh_core.specs.declared.lock.Core.TheInside.{Inside}
use Rattle.hh_core.specs.Lock.{state_in}
use Rattle.hh_core.proofs.Slots.{phase_known}
use Rattle.hh_core.proofs.Taken.{Moves, takes, safe_next, both_true}
use Rattle.hh_core.proofs.lock.Core.meet.Goals as goal

pub invariant_of-self : goal.invariant_of-self
invariant_of-self c =
    let next : Inside = record c.self.inside { readers = c.set_floor.new.readers } in
    let s : State = state_in c.self.inside in
    let is = phase_known c.in-Some-Rest.field-0 (Rest) c.self.inside.readers.items c.deref.result.now c.args.reader c.in-Some-Rest.field-0-is c.deref.ensures.value c.in-Some-Rest.ensures.phase in
    let m : Moves (step.Meet c.args.reader) c.self.inside next = record { enabled = both_true (rests (phase_of s.readers c.args.reader)) (is_idle s.writer) (ap rests is) (ap is_idle c.in-Idle.is); state = ap (λ (rs : List ReaderState). (let made : State = record s { readers = rs } in made)) (c.set_floor.ensures.changed ∙ ap (λ (n : ℕ). change_at (to_floor n) s.readers c.args.reader) (let e : c.len.result - 1 ≡ last_number s = omega (arith, c.len.ensures, c.self.inside.published.ok.0) in e)) } in
    record { safe = safe_next _ c.self.inside next m c.self.invariant; published = c.self.invariant.published; readers = c.set_floor.ensures.room c.self.inside.spare c.self.invariant.readers }

pub returns : goal.returns
returns c =
    let next : Inside = record c.self.inside { readers = c.set_floor.new.readers } in
    let s : State = state_in c.self.inside in
    let is = phase_known c.in-Some-Rest.field-0 (Rest) c.self.inside.readers.items c.deref.result.now c.args.reader c.in-Some-Rest.field-0-is c.deref.ensures.value c.in-Some-Rest.ensures.phase in
    takes (step.Meet c.args.reader) c.self.inside next c.args.self.now c.self.view_is c.self.invariant (record { enabled = both_true (rests (phase_of s.readers c.args.reader)) (is_idle s.writer) (ap rests is) (ap is_idle c.in-Idle.is); state = ap (λ (rs : List ReaderState). (let made : State = record s { readers = rs } in made)) (c.set_floor.ensures.changed ∙ ap (λ (n : ℕ). change_at (to_floor n) s.readers c.args.reader) (let e : c.len.result - 1 ≡ last_number s = omega (arith, c.len.ensures, c.self.inside.published.ok.0) in e)) }) (omega arith) (omega arith)
