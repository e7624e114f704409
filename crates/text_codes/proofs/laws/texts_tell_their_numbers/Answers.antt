use Rattle.text_codes.proofs.Numerals.{numbers_again, numbers_are_small, texts_tell_numbers, numbers_are_codes, numbers_are_words}
use Rattle.text_codes.proofs.laws.texts_tell_their_numbers.Goals as goal

pub returns-clause-again : goal.returns-clause-again
returns-clause-again c = numbers_again

pub returns-clause-small : goal.returns-clause-small
returns-clause-small c = numbers_are_small

pub returns-clause-numbers : goal.returns-clause-numbers
returns-clause-numbers c = texts_tell_numbers

pub returns-clause-codes : goal.returns-clause-codes
returns-clause-codes c = numbers_are_codes

pub returns-clause-words : goal.returns-clause-words
returns-clause-words c = numbers_are_words
