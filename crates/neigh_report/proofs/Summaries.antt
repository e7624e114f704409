-- A summary is its four lines, one behind the other.
use Rattle.std.proofs.Common.{◌≡◌, ℕ, List, [], ◌∷◌, ◌++◌, length, sym, ap, ◌∙◌, append_assoc, append-nil}
use Rattle.std.specs.Prelude.{codes, decimal}
use Rattle.text_codes.specs.Lines.{line_text}
use Rattle.neigh_run.specs.declared.run.Run.{Run}
use Rattle.neigh_run.specs.Inline.{journal_at}
use Rattle.neigh_run.specs.Report.{fates_words, table}
use Rattle.neigh_report.specs.Summary.{generated_words, summary_text}

four : (a b c d : List ℕ) → ((a ++ b) ++ c) ++ d ≡ a ++ (b ++ (c ++ (d ++ [])))
four a b c d = append_assoc (a ++ b) c d ∙ append_assoc a b (c ++ d) ∙ ap (λ (e : List ℕ). a ++ (b ++ (c ++ e))) (sym (append-nil d))

pub summary_is : (number lines count : ℕ) (run : Run) (none first second third last : List ℕ) → none ≡ [] → lines ≡ length (journal_at run.journals 0) → count ≡ length (table run)
    → first ≡ none ++ line_text (generated_words number lines) → second ≡ first ++ line_text (fates_words run) → third ≡ second ++ line_text (codes "table" ∷ decimal count ∷ []) → last ≡ third ++ line_text (codes "end" ∷ [])
    → last ≡ summary_text number run
unfolding summary_text
summary_is number lines count run none first second third last empty long present one two three more =
    let head = one ∙ ap (λ (bytes : List ℕ). bytes ++ line_text (generated_words number lines)) empty ∙ ap (λ (n : ℕ). line_text (generated_words number n)) long in
    let both = two ∙ ap (λ (bytes : List ℕ). bytes ++ line_text (fates_words run)) head in
    let counted = three ∙ ap (λ (n : ℕ). second ++ line_text (codes "table" ∷ decimal n ∷ [])) present ∙ ap (λ (bytes : List ℕ). bytes ++ line_text (codes "table" ∷ decimal (length (table run)) ∷ [])) both in
    more ∙ ap (λ (bytes : List ℕ). bytes ++ line_text (codes "end" ∷ [])) counted
    ∙ four (line_text (generated_words number (length (journal_at run.journals 0)))) (line_text (fates_words run)) (line_text (codes "table" ∷ decimal (length (table run)) ∷ [])) (line_text (codes "end" ∷ []))
