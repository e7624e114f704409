use Rattle.neigh_run.proofs.Order.{in_order, have_order}
use Rattle.neigh_run.proofs.laws.inline_runs_have_one_order.Goals as goal

pub returns-clause-order : goal.returns-clause-order
returns-clause-order c = in_order c.calls_give_one_order.ensures

pub returns-clause-one : goal.returns-clause-one
returns-clause-one c = have_order c.calls_give_one_order.ensures
