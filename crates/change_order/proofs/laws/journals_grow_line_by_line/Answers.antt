use Rattle.change_order.proofs.Growing.{line_by_line}
use Rattle.change_order.proofs.laws.journals_grow_line_by_line.Goals as goal

pub returns : goal.returns
returns c = line_by_line
