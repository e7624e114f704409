-- A report is its lines before the counts, and those from them on.
use Rattle.std.proofs.Common.{◌≡◌, ℕ, List, [], ◌∷◌, ◌++◌, sym, ap, ◌∙◌, append_assoc}
use Rattle.std.specs.Prelude.{map, codes}
use Rattle.std.proofs.lemmas.Grind.{flat_map-append}
use Rattle.text_codes.specs.Lines.{Words, line_text, text_of}
use Rattle.neigh_run.specs.declared.run.Run.{Run}
use Rattle.neigh_run.specs.Report.{report, report_text, head_words, bucket_lines, counted, host_line_words, sender_lines, mark_words}
use Rattle.neigh_run.specs.Spelling.{host_words}
use Rattle.neigh_report.specs.Left.{top, bottom}

four : (a b c d e : List Words) → (a ++ (b ++ (c ++ d))) ++ e ≡ a ++ (b ++ (c ++ (d ++ e)))
four a b c d e =
    append_assoc a (b ++ (c ++ d)) e
    ∙ ap (λ (rows : List Words). a ++ rows) (append_assoc b (c ++ d) e ∙ ap (λ (rows : List Words). b ++ rows) (append_assoc c d e))

two_parts : (run : Run) → top run ++ bottom run ≡ report run
unfolding report
two_parts run = ap (λ (rows : List Words). head_words run ∷ host_words run.plan.host ∷ rows)
    (four (bucket_lines run.plan 0 run.journals) (counted (codes "host" ∷ codes "lines" ∷ []) (map host_line_words run.host_lines)) (sender_lines 1 run.plan.senders run.logs) (counted (codes "marks" ∷ []) (map mark_words run.marks)) (bottom run))

pub whole_is : (run : Run) (first last : List ℕ) → first ≡ [] ++ text_of (top run) → last ≡ first ++ text_of (bottom run) → last ≡ report_text run
unfolding report_text
whole_is run first last e more =
    more ∙ ap (λ (bytes : List ℕ). bytes ++ text_of (bottom run)) e
    ∙ sym (flat_map-append line_text (top run) (bottom run))
    ∙ ap text_of (two_parts run)
