use Rattle.std.proofs.Common.{ℕ, ◌+◌, ◌-◌, ◌<◌, List, sym, ap, ◌∙◌, arith}
use Rattle.hh_core.specs.declared.step.Step.TheVariants as step
use Rattle.hh_core.specs.declared.step.WriterPhase.{WriterPhase}
use Rattle.hh_core.specs.declared.step.WriterPhase.TheVariants.{Idle}
use Rattle.std.proofs.lemmas.List.Elements.{All-weaker}
use Rattle.hh_core.specs.State.{State}
use Rattle.hh_core.specs.Step.{wrote_b, ends}
use Rattle.hh_core.specs.Shown.{Shown, HasRoom}
use Rattle.hh_core.specs.declared.lock.Core.TheInside.{Inside}
use Rattle.hh_core.specs.Lock.{state_in}
use Rattle.hh_core.proofs.Slots.{HasRoom-less}
use Rattle.hh_core.proofs.Taken.{Moves, takes, safe_next}
use Rattle.hh_core.proofs.lock.Core.end.Goals as goal

pub invariant_of-self : goal.invariant_of-self
invariant_of-self c =
    let next : Inside = record c.self.inside { number = c.self.inside.number + 1; published = c.push_reserved.new.self; writer = Idle; spare = c.self.inside.spare - 1 } in
    let s : State = state_in c.self.inside in
    let pushed = ap (λ (p : List (ℕ × ℕ)). (let made : State = record { number = s.number + 1; a = s.a; b = s.b; published = p; writer = Idle; readers = s.readers } in made)) c.push_reserved.ensures.items in
    let m : Moves step.End c.self.inside next = record { enabled = ap wrote_b c.in-WroteB.is; state = pushed ∙ ap (λ (w : WriterPhase). ends w s) (sym c.in-WroteB.is) } in
    let some : 0 < c.self.inside.spare = omega (arith, c.requires.spare, ap (λ (o : Shown). o.spare) c.self.view_is) in
    record {
      safe = safe_next _ c.self.inside next m c.self.invariant;
      published = omega (arith, some, c.self.invariant.published, c.push_reserved.ensures.len, c.push_reserved.ensures.capacity);
      readers = All-weaker (HasRoom c.self.inside.spare) (HasRoom (c.self.inside.spare - 1)) (HasRoom-less c.self.inside.spare (c.self.inside.spare - 1) (omega arith)) c.self.inside.readers.items c.self.invariant.readers;
    }

pub returns : goal.returns
returns c =
    let next : Inside = record c.self.inside { number = c.self.inside.number + 1; published = c.push_reserved.new.self; writer = Idle; spare = c.self.inside.spare - 1 } in
    let s : State = state_in c.self.inside in
    let pushed = ap (λ (p : List (ℕ × ℕ)). (let made : State = record { number = s.number + 1; a = s.a; b = s.b; published = p; writer = Idle; readers = s.readers } in made)) c.push_reserved.ensures.items in
    takes step.End c.self.inside next c.args.self.now c.self.view_is c.self.invariant (record { enabled = ap wrote_b c.in-WroteB.is; state = pushed ∙ ap (λ (w : WriterPhase). ends w s) (sym c.in-WroteB.is) }) (omega arith) (omega arith)
