use Rattle.nb_journal.proofs.GoesOn.{on_by_timer, on_by_sweep, on_in_time}
use Rattle.nb_journal.proofs.laws.lawful_goes_on_by_itself.Goals as goal

pub returns-clause-timer : goal.returns-clause-timer
returns-clause-timer c = on_by_timer

pub returns-clause-sweep : goal.returns-clause-sweep
returns-clause-sweep c = on_by_sweep

pub returns-clause-time : goal.returns-clause-time
returns-clause-time c = on_in_time
