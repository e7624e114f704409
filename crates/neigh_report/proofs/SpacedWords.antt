-- A line as its first word, and the words behind it with a space before each.
use Rattle.std.proofs.Common.{◌≡◌, ℕ, List, [], ◌∷◌, ◌++◌, sym, ap, append-nil, append_assoc}
use Rattle.std.proofs.lemmas.Grind.{flat_map-append}
use Rattle.std.specs.List.{join_with_byte}
use Rattle.text_codes.specs.Lines.{Words, line_text}
use Rattle.neigh_report.specs.Spaced.{spaced}

pub join_spaced : (word : List ℕ) (words : Words) → join_with_byte 32 (word ∷ words) ≡ word ++ spaced words
join_spaced word [] = sym (append-nil word)
join_spaced word (next ∷ words) = ap (λ (rest : List ℕ). word ++ 32 ∷ rest) (join_spaced next words)

pub line_spaced : (word : List ℕ) (words : Words) → line_text (word ∷ words) ≡ word ++ spaced words ++ 10 ∷ []
unfolding line_text
line_spaced word words = ap (λ (text : List ℕ). text ++ 10 ∷ []) (join_spaced word words)

-- a line whose first words are written at once, and its others behind them, in one part or more
pub line_one : (old w : List ℕ) (ws a : Words) → old ++ join_with_byte 32 (w ∷ ws) ++ spaced a ++ 10 ∷ [] ≡ old ++ line_text (w ∷ (ws ++ a))
line_one old w ws a = rw (join_spaced w ws, line_spaced w (ws ++ a)) (simp (append_assoc, flat_map-append))

pub line_three : (old w : List ℕ) (ws a b c : Words) → old ++ join_with_byte 32 (w ∷ ws) ++ spaced a ++ spaced b ++ spaced c ++ 10 ∷ [] ≡ old ++ line_text (w ∷ (ws ++ (a ++ (b ++ c))))
line_three old w ws a b c = rw (join_spaced w ws, line_spaced w (ws ++ (a ++ (b ++ c)))) (simp (append_assoc, flat_map-append))

pub line_four : (old w : List ℕ) (ws a b c d : Words) → old ++ join_with_byte 32 (w ∷ ws) ++ spaced a ++ spaced b ++ spaced c ++ spaced d ++ 10 ∷ [] ≡ old ++ line_text (w ∷ (ws ++ (a ++ (b ++ c ++ d))))
line_four old w ws a b c d = rw (join_spaced w ws, line_spaced w (ws ++ (a ++ (b ++ c ++ d)))) (simp (append_assoc, flat_map-append))
