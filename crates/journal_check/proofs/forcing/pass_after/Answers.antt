use Rattle.nb_journal.specs.Steps.{IsStep}
use Rattle.nb_journal.proofs.Takes.{each-base_is}
use Rattle.journal_check.proofs.forcing.pass_after.Goals as goal

pub making-requires-clause-steps : goal.making-requires-clause-steps
making-requires-clause-steps c = each-base_is (IsStep c.args.params.now) c.args.past.now c.base_of.result.now c.base_of.ensures.value c.requires.steps
