use Rattle.text_codes.proofs.HexPairs.{bytes_again, bytes_by_pairs, texts_tell_bytes, bytes_are_codes, counted_bytes_are_codes, bytes_are_words}
use Rattle.text_codes.proofs.laws.texts_tell_their_bytes.Goals as goal

pub returns-clause-again : goal.returns-clause-again
returns-clause-again c = bytes_again

pub returns-clause-pairs : goal.returns-clause-pairs
returns-clause-pairs c = bytes_by_pairs

pub returns-clause-bytes : goal.returns-clause-bytes
returns-clause-bytes c = texts_tell_bytes

pub returns-clause-codes : goal.returns-clause-codes
returns-clause-codes c = bytes_are_codes

pub returns-clause-counted : goal.returns-clause-counted
returns-clause-counted c = counted_bytes_are_codes

pub returns-clause-words : goal.returns-clause-words
returns-clause-words c = bytes_are_words
