-- The line that a text begins with, and the text behind it.
use Rattle.std.proofs.Common.{◌≡◌, ℕ, ◌<◌, cond, eqb, List, [], ◌∷◌, ◌++◌, length, Option, Some, None, refl, sym, ap, subst, ◌∙◌, arith, length-append}
use Rattle.std.specs.Borrow.{Bor}
use Rattle.std.specs.List.{slice_split, join_with_byte}
use Rattle.std.specs.Str.Lines.{strip_carriage_return}
use Rattle.std.proofs.lemmas.List.Splits.{join_with_byte-slice_split}
use Rattle.std.proofs.lemmas.Bool.{ne_eqb}
use Rattle.nb_base.specs.Parts.{parts_behind}
use Rattle.text_codes.specs.Lines.{lines_of}
use Rattle.text_codes.proofs.Fronts.{lines_of-cut, lines_of-nil, parts-some}

abbrev pub parts : List ℕ → List (List ℕ)
parts text = slice_split (λ b. eqb b 10) text

whole_line : (text line : List ℕ) → parts text ≡ line ∷ [] → text ≡ line
whole_line text line e = sym (join_with_byte-slice_split 10 text) ∙ ap (join_with_byte 10) e

one_line : (line : List ℕ) → 0 < length line → cond (eqb (length line) 0) [] (line ∷ []) ≡ line ∷ []
one_line line some = rw (ne_eqb (length line) 0 (λ h. absurd (omega (arith, h, some)))) refl

pub cut_alone : (text line : List ℕ) (rest : Option (Bor (List ℕ))) → rest ≡ None → parts text ≡ line ∷ parts_behind 10 rest → 0 < length text → lines_of text ≡ line ∷ lines_of []
cut_alone text line rest none e some =
    let alone : parts text ≡ line ∷ parts_behind 10 None = subst (λ (r : Option (Bor (List ℕ))). parts text ≡ line ∷ parts_behind 10 r) none e in
    let same = whole_line text line alone in
    lines_of-cut text line None alone ∙ one_line line (omega (arith, some, ap length same)) ∙ ap (λ (ls : List (List ℕ)). line ∷ ls) (sym lines_of-nil)

some_behind : (text line : List ℕ) (rest : Option (Bor (List ℕ))) (behind : Bor (List ℕ)) → rest ≡ Some behind → parts text ≡ line ∷ parts_behind 10 rest → parts text ≡ line ∷ parts behind.now
some_behind text line rest behind some e = subst (λ (r : Option (Bor (List ℕ))). parts text ≡ line ∷ parts_behind 10 r) some e

pub cut_behind : (text line : List ℕ) (rest : Option (Bor (List ℕ))) (behind : Bor (List ℕ)) → rest ≡ Some behind → parts text ≡ line ∷ parts_behind 10 rest → lines_of text ≡ strip_carriage_return line ∷ lines_of behind.now
cut_behind text line rest behind some e = lines_of-cut text line (Some behind) (some_behind text line rest behind some e)

join_more : (line : List ℕ) (more : List (List ℕ)) → 0 < length more → join_with_byte 10 (line ∷ more) ≡ line ++ 10 ∷ join_with_byte 10 more
join_more line [] some = absurd (omega arith)
join_more line (part ∷ more) some = refl

pub cut_shorter : (text line : List ℕ) (rest : Option (Bor (List ℕ))) (behind : Bor (List ℕ)) → rest ≡ Some behind → parts text ≡ line ∷ parts_behind 10 rest → length behind.now < length text
cut_shorter text line rest behind some e =
    let joined : text ≡ line ++ 10 ∷ behind.now =
    sym (join_with_byte-slice_split 10 text) ∙ ap (join_with_byte 10) (some_behind text line rest behind some e)
    ∙ join_more line (parts behind.now) (parts-some (λ b. eqb b 10) behind.now)
    ∙ ap (λ (xs : List ℕ). line ++ 10 ∷ xs) (join_with_byte-slice_split 10 behind.now) in
    omega (arith, ap length joined, length-append line (10 ∷ behind.now))
