use Rattle.std.proofs.Common.{List, ap, arith}
use Rattle.hh_core.specs.declared.step.Step.TheVariants as step
use Rattle.hh_core.specs.declared.reader.ReaderPhase.TheVariants.{Rest}
use Rattle.hh_core.specs.State.{State, ReaderState}
use Rattle.hh_core.specs.Step.{rests}
use Rattle.hh_core.specs.declared.lock.Core.TheInside.{Inside}
use Rattle.hh_core.specs.Lock.{state_in}
use Rattle.hh_core.proofs.Slots.{phase_known}
use Rattle.hh_core.proofs.Taken.{Moves, takes, safe_next}
use Rattle.hh_core.proofs.lock.Core.first.Goals as goal

pub invariant_of-self : goal.invariant_of-self
invariant_of-self c =
    let next : Inside = record c.self.inside { readers = c.set_phase.new.readers } in
    let s : State = state_in c.self.inside in
    let is = phase_known c.in-Some-Rest.field-0 (Rest) c.self.inside.readers.items c.deref.result.now c.args.reader c.in-Some-Rest.field-0-is c.deref.ensures.value c.in-Some-Rest.ensures.phase in
    let m : Moves (step.First c.args.reader) c.self.inside next = record { enabled = ap rests is; state = ap (λ (rs : List ReaderState). (let made : State = record s { readers = rs } in made)) (c.set_phase.ensures.changed) } in
    record { safe = safe_next _ c.self.inside next m c.self.invariant; published = c.self.invariant.published; readers = c.set_phase.ensures.room c.self.inside.spare c.self.invariant.readers }

pub returns : goal.returns
returns c =
    let next : Inside = record c.self.inside { readers = c.set_phase.new.readers } in
    let s : State = state_in c.self.inside in
    let is = phase_known c.in-Some-Rest.field-0 (Rest) c.self.inside.readers.items c.deref.result.now c.args.reader c.in-Some-Rest.field-0-is c.deref.ensures.value c.in-Some-Rest.ensures.phase in
    takes (step.First c.args.reader) c.self.inside next c.args.self.now c.self.view_is c.self.invariant (record { enabled = ap rests is; state = ap (λ (rs : List ReaderState). (let made : State = record s { readers = rs } in made)) (c.set_phase.ensures.changed) }) (omega arith) (omega arith)
