-- What the run of a generated input comes to, in four lines, in place of its report (this project's own).
use Rattle.std.specs.Prelude.{ℕ, List, [], ◌∷◌, length, codes, decimal}
use Rattle.text_codes.specs.Lines.{Words, text_of}
use Rattle.neigh_run.specs.declared.run.Run.{Run}
use Rattle.neigh_run.specs.Inline.{journal_at}
use Rattle.neigh_run.specs.Report.{fates_words, table}

-- `generated NUMBER records 10000 sends 20000 lines N`, with the number of lines of its one bucket
abbrev pub generated_words : ℕ → ℕ → Words
generated_words number lines = codes "generated" ∷ decimal number ∷ codes "records" ∷ codes "10000" ∷ codes "sends" ∷ codes "20000" ∷ codes "lines" ∷ decimal lines ∷ []

-- that line, and of the report the line of the fates, that of the table without its entries, and the last one
abbrev pub summary_lines : ℕ → Run → List Words
summary_lines number run =
    generated_words number (length (journal_at run.journals 0))
    ∷ fates_words run
    ∷ (codes "table" ∷ decimal (length (table run)) ∷ [])
    ∷ (codes "end" ∷ [])
    ∷ []

unfoldable pub summary_text : ℕ → Run → List ℕ
summary_text number run = text_of (summary_lines number run)
