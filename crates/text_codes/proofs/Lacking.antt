-- What doesn't stand in a text.
use Rattle.std.proofs.Common.{◌≡◌, ℕ, zero, suc, ◌<◌, Bool, not, true, false, eqb, ltb, List, [], ◌∷◌, length, get_or, refl, ◌∙◌}
use Rattle.std.specs.List.{list_all, list_any, join_with_byte, All, AllByRecursion}
use Rattle.std.specs.Str.Lines.{strip_carriage_return}
use Rattle.std.proofs.lemmas.Bool.{and_parts, and_from, or_parts, or_from, not-true, ltb-true}
use Rattle.std.proofs.lemmas.List.Elements.{All-cons, All-nil}
use Rattle.std.proofs.lemmas.List.Folds.{list_all-append}
use Rattle.text_codes.specs.Lines.{is_blank, has_blank, lacks, IsWord, IsClean, IsLine}

-- where each element passes one test, each fails another
pub All-fails : (p q : ℕ → Bool) → ((b : ℕ) → p b ≡ true → q b ≡ false) → (text : List ℕ) → list_all p text ≡ true → All (λ b. q b ≡ false) text
All-fails p q h [] e = All-nil _
All-fails p q h (b ∷ text) e =
    let both = and_parts (p b) (list_all p text) e in
    All-cons (λ b. q b ≡ false) b text (h b both.0) (All-fails p q h text both.1)

-- and so none passes it
pub list_any-fails : (p q : ℕ → Bool) → ((b : ℕ) → p b ≡ true → q b ≡ false) → (text : List ℕ) → list_all p text ≡ true → list_any q text ≡ false
list_any-fails p q h [] e = refl
list_any-fails p q h (b ∷ text) e =
    let both = and_parts (p b) (list_all p text) e in
    or_from (q b) (list_any q text) (h b both.0) (list_any-fails p q h text both.1)

-- where each passes one test, each passes a weaker one
pub list_all-weaker : (p q : ℕ → Bool) → ((b : ℕ) → p b ≡ true → q b ≡ true) → (text : List ℕ) → list_all p text ≡ true → list_all q text ≡ true
list_all-weaker p q h [] e = refl
list_all-weaker p q h (b ∷ text) e =
    let both = and_parts (p b) (list_all p text) e in
    and_from (q b) (list_all q text) (h b both.0) (list_all-weaker p q h text both.1)

-- each element of a joined text is one of a part, or the separator
pub list_all-join : (p : ℕ → Bool) (c : ℕ) → p c ≡ true → (words : List (List ℕ)) → AllByRecursion (λ w. list_all p w ≡ true) words → list_all p (join_with_byte c words) ≡ true
list_all-join p c e [] h = refl
list_all-join p c e (w ∷ []) h = h.0
list_all-join p c e (w ∷ v ∷ words) h =
    list_all-append p w (c ∷ join_with_byte c (v ∷ words))
    ∙ and_from (list_all p w) _ h.0 (and_from (p c) _ e (list_all-join p c e (v ∷ words) h.1))

-- a text in which none passes
pub All-none : (p : ℕ → Bool) (text : List ℕ) → list_any p text ≡ false → All (λ b. p b ≡ false) text
All-none p [] e = All-nil _
All-none p (b ∷ text) e =
    let both = or_parts (p b) (list_any p text) e in
    All-cons (λ b. p b ≡ false) b text both.0 (All-none p text both.1)

-- what is known of each element is known of each, weaker
pub Each-weaker : {X : Type 0} (P Q : X → Type 0) → ((x : X) → P x → Q x) → (xs : List X) → AllByRecursion P xs → AllByRecursion Q xs
Each-weaker P Q h [] e = tt
Each-weaker P Q h (x ∷ xs) e = (h x e.0, Each-weaker P Q h xs e.1)

-- a byte that is none of these isn't the first, and is none of the others
apart : (b c : ℕ) (bytes : List ℕ) → not (list_any (λ c. eqb b c) (c ∷ bytes)) ≡ true → (eqb b c ≡ false) × (list_any (λ c. eqb b c) bytes ≡ false)
apart b c bytes e = or_parts (eqb b c) (list_any (λ c. eqb b c) bytes) (not-true _ e)

-- a byte that is neither tab, LF, CR nor space
record IsProper (b : ℕ) : Type 0 where
  tab : eqb b 9 ≡ false
  newline : eqb b 10 ≡ false
  return : eqb b 13 ≡ false
  space : eqb b 32 ≡ false

proper : (b : ℕ) → not (list_any (λ c. eqb b c) (9 ∷ 10 ∷ 13 ∷ 32 ∷ [])) ≡ true → IsProper b
proper b e =
    let one = apart b 9 (10 ∷ 13 ∷ 32 ∷ []) e in
    let two = or_parts (eqb b 10) (list_any (λ c. eqb b c) (13 ∷ 32 ∷ [])) one.1 in
    let three = or_parts (eqb b 13) (list_any (λ c. eqb b c) (32 ∷ [])) two.1 in
    let four = or_parts (eqb b 32) (list_any (λ c. eqb b c) []) three.1 in
    record { tab = one.0; newline = two.0; return = three.0; space = four.0 }

proper-blank : (b : ℕ) → not (list_any (λ c. eqb b c) (9 ∷ 10 ∷ 13 ∷ 32 ∷ [])) ≡ true → is_blank b ≡ false
proper-blank b e = (let h = proper b e in rw (h.space, h.tab) refl)

proper-line : (b : ℕ) → not (list_any (λ c. eqb b c) (9 ∷ 10 ∷ 13 ∷ 32 ∷ [])) ≡ true → not (list_any (λ c. eqb b c) (10 ∷ 13 ∷ [])) ≡ true
proper-line b e = (let h = proper b e in rw (h.newline, h.return) refl)

proper-clean : (b : ℕ) → not (list_any (λ c. eqb b c) (9 ∷ 10 ∷ 13 ∷ 32 ∷ [])) ≡ true → not (list_any (λ c. eqb b c) (10 ∷ 32 ∷ [])) ≡ true
proper-clean b e = (let h = proper b e in rw (h.newline, h.space) refl)

pub word-some : (word : List ℕ) → IsWord word → 0 < length word
word-some word e = ltb-true 0 (length word) (and_parts (ltb 0 (length word)) _ e).0

pub word-lacks : (word : List ℕ) → IsWord word → lacks (9 ∷ 10 ∷ 13 ∷ 32 ∷ []) word ≡ true
word-lacks word e = (and_parts (ltb 0 (length word)) _ e).1

-- a proper word has no blank, and is a line and a word of a row
pub word-no_blank : (word : List ℕ) → IsWord word → has_blank word ≡ false
word-no_blank word e = list_any-fails (λ b. not (list_any (λ c. eqb b c) (9 ∷ 10 ∷ 13 ∷ 32 ∷ []))) is_blank proper-blank word (word-lacks word e)

pub word-line : (word : List ℕ) → IsWord word → IsLine word
word-line word e = list_all-weaker (λ b. not (list_any (λ c. eqb b c) (9 ∷ 10 ∷ 13 ∷ 32 ∷ []))) (λ b. not (list_any (λ c. eqb b c) (10 ∷ 13 ∷ []))) proper-line word (word-lacks word e)

pub word-clean : (word : List ℕ) → IsWord word → IsClean word
word-clean word e = list_all-weaker (λ b. not (list_any (λ c. eqb b c) (9 ∷ 10 ∷ 13 ∷ 32 ∷ []))) (λ b. not (list_any (λ c. eqb b c) (10 ∷ 32 ∷ []))) proper-clean word (word-lacks word e)

-- the separator doesn't stand in the text
pub lacks-newline : (text : List ℕ) → lacks (10 ∷ []) text ≡ true → All (λ b. eqb b 10 ≡ false) text
lacks-newline text e = All-fails (λ b. not (list_any (λ c. eqb b c) (10 ∷ []))) (λ b. eqb b 10) (λ b h. (apart b 10 [] h).0) text e

pub line-newline : (line : List ℕ) → IsLine line → lacks (10 ∷ []) line ≡ true
line-newline line e = list_all-weaker (λ b. not (list_any (λ c. eqb b c) (10 ∷ 13 ∷ []))) (λ b. not (list_any (λ c. eqb b c) (10 ∷ []))) (λ b h. rw (apart b 10 (13 ∷ []) h).0 refl) line e

pub clean-newline : (word : List ℕ) → IsClean word → lacks (10 ∷ []) word ≡ true
clean-newline word e = list_all-weaker (λ b. not (list_any (λ c. eqb b c) (10 ∷ 32 ∷ []))) (λ b. not (list_any (λ c. eqb b c) (10 ∷ []))) (λ b h. rw (apart b 10 (32 ∷ []) h).0 refl) word e

pub clean-space : (word : List ℕ) → IsClean word → All (λ b. eqb b 32 ≡ false) word
clean-space word e = All-fails (λ b. not (list_any (λ c. eqb b c) (10 ∷ 32 ∷ []))) (λ b. eqb b 32) (λ b h. (or_parts (eqb b 32) (list_any (λ c. eqb b c) []) (apart b 10 (32 ∷ []) h).1).0) word e

-- a line without CR keeps its end
no_return : (line : List ℕ) (i : ℕ) → IsLine line → eqb (get_or line i 0) 13 ≡ false
no_return [] i e = refl
no_return (b ∷ line) zero e =
    let both = and_parts (not (list_any (λ c. eqb b c) (10 ∷ 13 ∷ []))) _ e in
    (or_parts (eqb b 13) (list_any (λ c. eqb b c) []) (apart b 10 (13 ∷ []) both.0).1).0
no_return (b ∷ line) (suc i) e = no_return line i (and_parts (not (list_any (λ c. eqb b c) (10 ∷ 13 ∷ []))) _ e).1

pub line-kept : (line : List ℕ) → IsLine line → strip_carriage_return line ≡ line
line-kept line e = rw (no_return line _ e) refl
