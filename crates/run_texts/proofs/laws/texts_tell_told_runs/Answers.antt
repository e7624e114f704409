use Rattle.run_texts.proofs.Whole.{reports_tell, texts_tell_told}
use Rattle.run_texts.proofs.laws.texts_tell_told_runs.Goals as goal

pub returns-clause-reports : goal.returns-clause-reports
returns-clause-reports c = reports_tell

pub returns-clause-texts : goal.returns-clause-texts
returns-clause-texts c = texts_tell_told
