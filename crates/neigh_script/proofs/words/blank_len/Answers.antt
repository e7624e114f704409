use Rattle.std.proofs.Common.{not}
use Rattle.text_codes.specs.Lines.{is_blank}
use Rattle.neigh_script.proofs.NextWord.{place_or_len}
use Rattle.neigh_script.proofs.words.blank_len.Goals as goal

pub returns-clause-value : goal.returns-clause-value
returns-clause-value c = rw (c.unwrap_or.ensures, c.find_word.ensures) (place_or_len (λ b. not (is_blank b)) c.args.text.now)
