use Rattle.text_codes.proofs.Again.{words_again, lines_again, words_of_lines_again}
use Rattle.text_codes.proofs.laws.written_texts_are_read_again.Goals as goal

pub returns-clause-words : goal.returns-clause-words
returns-clause-words c = words_again

pub returns-clause-lines : goal.returns-clause-lines
returns-clause-lines c = lines_again

pub returns-clause-words_of_lines : goal.returns-clause-words_of_lines
returns-clause-words_of_lines c = words_of_lines_again
