use Rattle.nud_machine.proofs.Keeps.{failed_entry_has_nothing_left}
use Rattle.nud_machine.proofs.laws.every_failed_entry_has_nothing_left.Goals as goal

pub returns : goal.returns
returns c = failed_entry_has_nothing_left
