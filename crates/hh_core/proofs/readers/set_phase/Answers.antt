use Rattle.std.proofs.Common.{refl, arith}
use Rattle.hh_core.specs.Step.{to_phase}
use Rattle.hh_core.proofs.Slots.{map-set-change}
use Rattle.hh_core.proofs.readers.set_phase.Goals as goal

pub returns-clause-changed : goal.returns-clause-changed
returns-clause-changed c = map-set-change (to_phase c.args.phase) c.args.readers.now.items c.args.reader c.index_mut-found.result.now _ (omega (arith, c.requires, c.args.readers.now.ok.0)) c.index_mut-found.ensures.value refl
