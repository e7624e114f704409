use Rattle.std.proofs.Common.{◌+◌, ◌-◌, ◌<◌, List, ap, ◌∙◌, arith}
use Rattle.hh_core.specs.declared.step.Step.TheVariants as step
use Rattle.hh_core.specs.declared.reader.ReaderPhase.TheVariants.{HasB}
use Rattle.std.proofs.lemmas.List.Elements.{All-weaker}
use Rattle.hh_core.specs.State.{State, ReaderState}
use Rattle.hh_core.specs.Step.{has_b}
use Rattle.hh_core.specs.Shown.{Shown, HasRoom}
use Rattle.hh_core.specs.declared.lock.Core.TheInside.{Inside}
use Rattle.hh_core.specs.Lock.{state_in}
use Rattle.hh_core.proofs.Slots.{change_second, HasRoom-less, phase_known}
use Rattle.hh_core.proofs.Taken.{Moves, takes, safe_next}
use Rattle.hh_core.proofs.lock.Core.second.Goals as goal

pub invariant_of-self : goal.invariant_of-self
invariant_of-self c =
    let next : Inside = record c.self.inside { readers = c.end_try.new.readers; spare = c.self.inside.spare - 1 } in
    let s : State = state_in c.self.inside in
    let is = phase_known c.in-Some-HasB.field-0 (HasB c.in-Some-HasB.first c.in-Some-HasB.x c.in-Some-HasB.y) c.self.inside.readers.items c.deref.result.now c.args.reader c.in-Some-HasB.field-0-is c.deref.ensures.value c.in-Some-HasB.ensures.phase in
    let m : Moves (step.Second c.args.reader) c.self.inside next = record { enabled = ap has_b is; state = ap (λ (rs : List ReaderState). (let made : State = record s { readers = rs } in made)) (c.end_try.ensures.changed ∙ change_second s.readers c.args.reader c.in-Some-HasB.first c.in-Some-HasB.x c.in-Some-HasB.y s.number is) } in
    record { safe = safe_next _ c.self.inside next m c.self.invariant; published = omega (arith, c.self.invariant.published); readers = let some : 0 < c.self.inside.spare = omega (arith, c.requires, ap (λ (o : Shown). o.spare) c.self.view_is) in c.end_try.ensures.room (c.self.inside.spare - 1) (All-weaker (HasRoom c.self.inside.spare) (HasRoom (c.self.inside.spare - 1 + 1)) (HasRoom-less c.self.inside.spare (c.self.inside.spare - 1 + 1) (omega arith)) c.self.inside.readers.items c.self.invariant.readers) }

pub returns : goal.returns
returns c =
    let next : Inside = record c.self.inside { readers = c.end_try.new.readers; spare = c.self.inside.spare - 1 } in
    let s : State = state_in c.self.inside in
    let is = phase_known c.in-Some-HasB.field-0 (HasB c.in-Some-HasB.first c.in-Some-HasB.x c.in-Some-HasB.y) c.self.inside.readers.items c.deref.result.now c.args.reader c.in-Some-HasB.field-0-is c.deref.ensures.value c.in-Some-HasB.ensures.phase in
    takes (step.Second c.args.reader) c.self.inside next c.args.self.now c.self.view_is c.self.invariant (record { enabled = ap has_b is; state = ap (λ (rs : List ReaderState). (let made : State = record s { readers = rs } in made)) (c.end_try.ensures.changed ∙ change_second s.readers c.args.reader c.in-Some-HasB.first c.in-Some-HasB.x c.in-Some-HasB.y s.number is) }) (omega arith) (omega arith)
