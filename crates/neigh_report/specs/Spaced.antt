-- Words behind other words of a line. This project's own.
use Rattle.std.specs.Prelude.{ℕ, List, [], ◌∷◌, map, codes, decimal}
use Rattle.std.specs.List.{flat_map}
use Rattle.nb_base.specs.declared.outcome.Why.{Why}
use Rattle.nb_base.specs.declared.outcome.Why.TheVariants as why
use Rattle.text_codes.specs.Lines.{Words}
use Rattle.neigh_run.specs.Report.{try_word}

-- each word with a space before it
abbrev pub spaced : Words → List ℕ
spaced words = flat_map (λ word. 32 ∷ word) words

-- why a packet went by its bucket's lock, with what was read before
abbrev pub why_words : Why → Words
why_words why.Inline = codes "inline" ∷ []
why_words why.First = codes "first" ∷ []
why_words (why.Suspect number) = codes "suspect" ∷ decimal number ∷ []
why_words (why.Again tries) = codes "again" ∷ map try_word tries
