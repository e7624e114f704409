use Rattle.neigh_run.proofs.CleanRows.{lines_back, texts_tell}
use Rattle.neigh_run.proofs.laws.reports_give_their_lines_back.Goals as goal

pub returns-clause-lines : goal.returns-clause-lines
returns-clause-lines c = lines_back

pub returns-clause-one : goal.returns-clause-one
returns-clause-one c = texts_tell
