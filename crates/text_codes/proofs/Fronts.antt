-- Reading a text from its front.
use Rattle.std.proofs.Common.{◌≡◌, ℕ, ◌<◌, Bool, not, true, false, cond, eqb, ltb, List, [], ◌∷◌, ◌++◌, length, filter, Option, Some, None, refl, sym, ap, ◌∙◌, arith}
use Rattle.std.specs.List.{slice_split}
use Rattle.std.specs.Str.Lines.{lines_of_parts, strip_carriage_return}
use Rattle.std.specs.Borrow.{Bor}
use Rattle.std.specs.Option.{option_map_or}
use Rattle.std.proofs.lemmas.List.{append-nil}
use Rattle.std.proofs.lemmas.Bool.{not-false, lt-ltb, ne_eqb}
use Rattle.std.proofs.lemmas.List.Splits.{slice_split_none, slice_split_at, slice_split-cons_yes, length-slice_split}
use Rattle.text_codes.specs.Lines.{lines_of, words_of, is_blank, has_blank, lacks}
use Rattle.text_codes.specs.Codes.{BeginsWithout}
use Rattle.nb_base.specs.Parts.{parts_behind}
use Rattle.text_codes.specs.Laws.{LinesByFront, WordsByFront}
use Rattle.text_codes.proofs.Lacking.{lacks-newline, All-none}

pub lines_of-nil : lines_of [] ≡ []
unfolding lines_of
lines_of-nil = refl

pub lines_of-last : (line : List ℕ) → 0 < length line → lacks (10 ∷ []) line ≡ true → lines_of line ≡ line ∷ []
unfolding lines_of
lines_of-last [] some e = absurd (omega arith)
lines_of-last (b ∷ line) some e =
    let filled : eqb (length (b ∷ line)) 0 ≡ false = ne_eqb (length (b ∷ line)) 0 (λ h. absurd (omega arith)) in
    ap lines_of_parts (slice_split_none (λ b. eqb b 10) (b ∷ line) (lacks-newline (b ∷ line) e)) ∙ rw filled refl

-- a part in front of others is a line
more_parts : (line : List ℕ) (parts : List (List ℕ)) → 0 < length parts → lines_of_parts (line ∷ parts) ≡ strip_carriage_return line ∷ lines_of_parts parts
more_parts line [] some = absurd (omega arith)
more_parts line (part ∷ parts) some = refl

pub parts-some : (p : ℕ → Bool) (text : List ℕ) → 0 < length (slice_split p text)
parts-some p text = omega (arith, length-slice_split p text)

pub lines_of-ended : (line rest : List ℕ) → lacks (10 ∷ []) line ≡ true → lines_of (line ++ 10 ∷ rest) ≡ strip_carriage_return line ∷ lines_of rest
unfolding lines_of
lines_of-ended line rest e =
    ap lines_of_parts (slice_split_at (λ b. eqb b 10) line 10 rest (lacks-newline line e) refl)
    ∙ more_parts line (slice_split (λ b. eqb b 10) rest) (parts-some (λ b. eqb b 10) rest)

-- the lines by the parts between LFs, as a reader finds them
pub lines_of-split : (text : List ℕ) → lines_of text ≡ lines_of_parts (slice_split (λ b. eqb b 10) text)
unfolding lines_of
lines_of-split text = refl

-- and by the part up to the first LF and what is behind it
pub lines_of-cut : (text line : List ℕ) (rest : Option (Bor (List ℕ))) → slice_split (λ b. eqb b 10) text ≡ line ∷ parts_behind 10 rest
    → lines_of text ≡ option_map_or (λ more. strip_carriage_return line ∷ lines_of more.now) rest (cond (eqb (length line) 0) [] (line ∷ []))
lines_of-cut text line None e = lines_of-split text ∙ ap lines_of_parts e
lines_of-cut text line (Some more) e =
    lines_of-split text
    ∙ ap lines_of_parts e
    ∙ more_parts line (slice_split (λ b. eqb b 10) more.now) (parts-some (λ b. eqb b 10) more.now)
    ∙ ap (λ (ls : List (List ℕ)). strip_carriage_return line ∷ ls) (sym (lines_of-split more.now))

pub lines_by_front : LinesByFront
lines_by_front = record { none = lines_of-nil; last = lines_of-last; ended = lines_of-ended }

pub words_of-nil : words_of [] ≡ []
unfolding words_of
words_of-nil = refl

pub words_of-blank : (b : ℕ) (rest : List ℕ) → is_blank b ≡ true → words_of (b ∷ rest) ≡ words_of rest
unfolding words_of
words_of-blank b rest e = rw (slice_split-cons_yes is_blank b rest e) refl

pub words_of-last : (word : List ℕ) → 0 < length word → has_blank word ≡ false → words_of word ≡ word ∷ []
unfolding words_of
words_of-last word some e = rw (slice_split_none is_blank word (All-none is_blank word e), lt-ltb 0 (length word) some) refl

pub words_of-first : (word : List ℕ) (b : ℕ) (rest : List ℕ) → 0 < length word → has_blank word ≡ false → is_blank b ≡ true → words_of (word ++ b ∷ rest) ≡ word ∷ words_of rest
unfolding words_of
words_of-first word b rest some e blank = rw (slice_split_at is_blank word b rest (All-none is_blank word e) blank, lt-ltb 0 (length word) some) refl

-- the words by the parts between blanks, as a reader finds them
pub words_of-split : (line : List ℕ) → words_of line ≡ filter (λ part. ltb 0 (length part)) (slice_split is_blank line)
unfolding words_of
words_of-split line = refl

-- a word in front of nothing or a blank
pub words_of-front : (word rest : List ℕ) → 0 < length word → has_blank word ≡ false → BeginsWithout (λ b. not (is_blank b)) rest → words_of (word ++ rest) ≡ word ∷ words_of rest
words_of-front word [] some e begins = ap words_of (append-nil word) ∙ words_of-last word some e ∙ ap (λ (ws : List (List ℕ)). word ∷ ws) (sym words_of-nil)
words_of-front word (b ∷ rest) some e begins =
    let blank : is_blank b ≡ true = not-false (is_blank b) begins in
    words_of-first word b rest some e blank ∙ ap (λ (ws : List (List ℕ)). word ∷ ws) (sym (words_of-blank b rest blank))

pub words_by_front : WordsByFront
words_by_front = record { none = words_of-nil; blank = words_of-blank; last = words_of-last; first = words_of-first }
