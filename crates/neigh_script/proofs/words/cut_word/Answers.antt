use Rattle.neigh_script.proofs.NextWord.{words_of-word}
use Rattle.neigh_script.proofs.words.cut_word.Goals as goal

pub returns : goal.returns
returns c = rw (c.split_at.ensures.front, c.split_at.ensures.back, c.word_len.ensures.value) (words_of-word c.args.text.now c.requires.begins c.requires.some)
