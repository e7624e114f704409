use Rattle.std.proofs.Common.{◌+◌, refl, ap, arith}
use Rattle.hh_core.specs.declared.step.Step.TheVariants as step
use Rattle.hh_core.specs.declared.step.WriterPhase.TheVariants.{Begun}
use Rattle.hh_core.specs.Step.{is_idle}
use Rattle.hh_core.specs.declared.lock.Core.TheInside.{Inside}
use Rattle.hh_core.proofs.Taken.{Moves, takes, safe_next}
use Rattle.hh_core.proofs.lock.Core.begin.Goals as goal

pub invariant_of-self : goal.invariant_of-self
invariant_of-self c =
    let next : Inside = record c.self.inside { number = c.self.inside.number + 1; writer = Begun c.args.x c.args.y } in
    let m : Moves (step.Begin c.args.x c.args.y) c.self.inside next = record { enabled = ap is_idle c.in-Idle.is; state = refl } in
    record { safe = safe_next _ c.self.inside next m c.self.invariant; published = c.self.invariant.published; readers = c.self.invariant.readers }

pub returns : goal.returns
returns c =
    let next : Inside = record c.self.inside { number = c.self.inside.number + 1; writer = Begun c.args.x c.args.y } in
    takes (step.Begin c.args.x c.args.y) c.self.inside next c.args.self.now c.self.view_is c.self.invariant (record { enabled = ap is_idle c.in-Idle.is; state = refl }) (omega arith) (omega arith)
