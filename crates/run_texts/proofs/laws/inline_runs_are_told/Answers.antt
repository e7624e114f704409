use Rattle.run_texts.proofs.Inline.{inline_told}
use Rattle.run_texts.proofs.laws.inline_runs_are_told.Goals as goal

pub returns : goal.returns
returns c = inline_told
