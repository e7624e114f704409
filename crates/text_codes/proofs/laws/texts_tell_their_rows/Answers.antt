use Rattle.text_codes.proofs.Again.{rows_again, texts_tell_rows, lines_are_codes}
use Rattle.text_codes.proofs.laws.texts_tell_their_rows.Goals as goal

pub returns-clause-again : goal.returns-clause-again
returns-clause-again c = rows_again

pub returns-clause-rows : goal.returns-clause-rows
returns-clause-rows c = texts_tell_rows

pub returns-clause-lines : goal.returns-clause-lines
returns-clause-lines c = lines_are_codes
