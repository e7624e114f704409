use Rattle.journal_check.proofs.Decided.{tests_lawful, lawful_tests}
use Rattle.journal_check.proofs.deciding.is_lawful.Goals as goal

pub returns-clause-lawful : goal.returns-clause-lawful
returns-clause-lawful c = (
  λ e. tests_lawful c.args.params.now c.args.lines.now c.args.clock c.requires (c.in_ok-decided.ensures.0 e),
  λ lawful. c.in_ok-decided.ensures.1 (lawful_tests c.args.params.now c.args.lines.now c.args.clock c.requires lawful),
)
