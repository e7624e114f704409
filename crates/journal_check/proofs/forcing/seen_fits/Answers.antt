use Rattle.nb_journal.specs.Steps.{IsStep}
use Rattle.nb_journal.proofs.Takes.{each-base_is}
use Rattle.journal_check.proofs.forcing.seen_fits.Goals as goal

pub looks-requires-clause-steps : goal.looks-requires-clause-steps
looks-requires-clause-steps c = each-base_is (IsStep c.args.params.now) c.args.past.now c.base_of-base.result.now c.base_of-base.ensures.value c.requires.steps

pub present_count-requires-clause-steps : goal.present_count-requires-clause-steps
present_count-requires-clause-steps c = each-base_is (IsStep c.args.params.now) c.args.past.now c.base_of-base.result.now c.base_of-base.ensures.value c.requires.steps
