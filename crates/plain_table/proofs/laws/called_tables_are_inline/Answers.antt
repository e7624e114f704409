use Rattle.plain_table.proofs.Whole.{inline_journals}
use Rattle.plain_table.proofs.laws.called_tables_are_inline.Goals as goal

pub returns : goal.returns
returns c = inline_journals
