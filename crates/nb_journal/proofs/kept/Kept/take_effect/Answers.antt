use Rattle.std.proofs.lemmas.Bool.{and_parts}
use Rattle.nb_journal.specs.Steps.{state_in}
use Rattle.nb_journal.proofs.Meets.{settable_of}
use Rattle.nb_journal.proofs.kept.Kept.take_effect.Goals as goal

pub meet-requires-clause-settable : goal.meet-requires-clause-settable
meet-requires-clause-settable c = (settable_of c.args.params.now c.args.line.now (state_in c.args.self.now) c.in-Brings.event (and_parts _ _ c.requires.line).1 c.in-Brings.ensures).0

pub meet-requires-clause-sized : goal.meet-requires-clause-sized
meet-requires-clause-sized c = (settable_of c.args.params.now c.args.line.now (state_in c.args.self.now) c.in-Brings.event (and_parts _ _ c.requires.line).1 c.in-Brings.ensures).1

pub effect_of-requires-clause-asked : goal.effect_of-requires-clause-asked
effect_of-requires-clause-asked c = (and_parts _ _ c.requires.line).1
