use Rattle.run_texts.proofs.Texts.{inline_runs_tell}
use Rattle.run_texts.proofs.laws.texts_tell_inline_runs.Goals as goal

pub returns : goal.returns
returns c = inline_runs_tell c.inline_runs_are_writable.ensures
