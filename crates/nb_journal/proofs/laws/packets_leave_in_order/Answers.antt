use Rattle.nb_journal.proofs.Queues.{packets_in_order}
use Rattle.nb_journal.proofs.laws.packets_leave_in_order.Goals as goal

pub returns : goal.returns
returns c = packets_in_order
