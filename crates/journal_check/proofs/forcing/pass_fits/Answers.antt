use Rattle.nb_journal.specs.Steps.{IsStep}
use Rattle.nb_journal.proofs.Takes.{each-base_is}
use Rattle.journal_check.proofs.forcing.pass_fits.Goals as goal

pub asked_of_pass-requires-clause-steps : goal.asked_of_pass-requires-clause-steps
asked_of_pass-requires-clause-steps c = each-base_is (IsStep c.args.params.now) c.args.past.now c.base_of-base.result.now c.base_of-base.ensures.value c.requires.steps
