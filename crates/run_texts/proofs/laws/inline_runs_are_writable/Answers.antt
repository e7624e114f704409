use Rattle.run_texts.proofs.InlineWritable.{inline_writable}
use Rattle.run_texts.proofs.laws.inline_runs_are_writable.Goals as goal

pub returns : goal.returns
returns c = inline_writable c.inline_runs_have_one_order.ensures.one
