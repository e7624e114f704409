-- The first lines of a journal, and the line behind them.
use Rattle.std.proofs.Common.{◌≡◌, ℕ, ◌+◌, ◌-◌, ◌<◌, ◌≤◌, Bool, true, false, List, [], ◌∷◌, ◌++◌, take, drop, length, get_or, refl, sym, ap, subst, ◌∙◌, arith, append_assoc}
use Rattle.std.proofs.lemmas.List.{take_more, take-append-drop, drop_all, append-nil}
use Rattle.nb_base.specs.declared.line.Line.{Line}
use Rattle.nb_journal.specs.Lawful.{EachLine, last_moment, base_of, is_collect}
use Rattle.nb_journal.proofs.Lines.{by_last, each-at, each-front, last_moment-snoc, base_of-collect, base_of-other}

-- one more than the first i
pub taken : {X : Type 0} (xs : List X) (i : ℕ) (x : X) → i < length xs → x ≡ get_or xs i x → take (i + 1) xs ≡ take i xs ++ x ∷ []
taken {X = X} xs i x lt is = take_more xs i x lt ∙ ap (λ (y : X). take i xs ++ y ∷ []) (sym is)

pub split_at : {X : Type 0} (xs : List X) (i : ℕ) (x : X) → i < length xs → x ≡ get_or xs i x → xs ≡ take i xs ++ x ∷ drop (i + 1) xs
split_at {X = X} xs i x lt is =
    sym (take-append-drop (i + 1) xs) ∙ ap (λ (ys : List X). ys ++ drop (i + 1) xs) (taken xs i x lt is) ∙ append_assoc (take i xs) (x ∷ []) (drop (i + 1) xs)

-- what holds of each line holds of the one behind the first i
pub each-take_at : (P : List Line → Line → Type 0) (lines : List Line) (i : ℕ) (l : Line) → i < length lines → l ≡ get_or lines i l → EachLine P lines → P (take i lines) l
each-take_at P lines i l lt is all = each-at P (take i lines) (drop (i + 1) lines) l (subst (EachLine P) (split_at lines i l lt is) all)

-- and of the first i
pub each-take : (P : List Line → Line → Type 0) (lines : List Line) (i : ℕ) → EachLine P lines → EachLine P (take i lines)
each-take P lines i all = each-front P (take i lines) (drop i lines) (subst (EachLine P) (sym (take-append-drop i lines)) all)

-- all but the last, and the last
pub last_split : {X : Type 0} (xs : List X) (x : X) → 1 ≤ length xs → x ≡ get_or xs (length xs - 1) x → xs ≡ take (length xs - 1) xs ++ x ∷ []
last_split {X = X} xs x some is =
    split_at xs (length xs - 1) x (omega arith) is
    ∙ ap (λ (ys : List X). take (length xs - 1) xs ++ x ∷ ys) (drop_all (length xs - 1 + 1) xs (omega arith))

pub last_moment-last : (lines : List Line) (l : Line) → 1 ≤ length lines → l ≡ get_or lines (length lines - 1) l → last_moment lines ≡ l.at
last_moment-last lines l some is = ap last_moment (last_split lines l some is) ∙ last_moment-snoc (take (length lines - 1) lines) l

-- the first n are one fewer and the last of them
pub taken_last : {X : Type 0} (xs : List X) (n : ℕ) (x : X) → 0 < n → n ≤ length xs → x ≡ get_or xs (n - 1) x → take n xs ≡ take (n - 1) xs ++ x ∷ []
taken_last {X = X} xs n x some within is =
    let back : n ≡ n - 1 + 1 = omega arith in
    ap (λ (m : ℕ). take m xs) back ∙ taken xs (n - 1) x (omega arith) is

pub base_of-drops : (lines : List Line) (n : ℕ) (l : Line) → 0 < n → n ≤ length lines → l ≡ get_or lines (n - 1) l → is_collect l.op ≡ true → base_of (take (n - 1) lines) ≡ base_of (take n lines)
base_of-drops lines n l some within is e = sym (ap base_of (taken_last lines n l some within is) ∙ base_of-collect (take (n - 1) lines) l e)

pub base_of-ends : (lines : List Line) (n : ℕ) (l : Line) → 0 < n → n ≤ length lines → l ≡ get_or lines (n - 1) l → is_collect l.op ≡ false → take n lines ≡ base_of (take n lines)
base_of-ends lines n l some within is e =
    let split = taken_last lines n l some within is in
    split ∙ sym (base_of-other (take (n - 1) lines) l e) ∙ ap base_of (sym split)

-- the lines without the collects at their end are the first lines
pub base_of-front : (lines : List Line) → (rest : List Line) × (lines ≡ base_of lines ++ rest)
base_of-front = by_last (λ (xs : List Line). (rest : List Line) × (xs ≡ base_of xs ++ rest)) ([], refl) more where
  more : (xs : List Line) (x : Line) → ((rest : List Line) × (xs ≡ base_of xs ++ rest)) → (rest : List Line) × (xs ++ x ∷ [] ≡ base_of (xs ++ x ∷ []) ++ rest)
  more xs x h = by_test (is_collect x.op) refl where
    by_test : (t : Bool) → is_collect x.op ≡ t → (rest : List Line) × (xs ++ x ∷ [] ≡ base_of (xs ++ x ∷ []) ++ rest)
    by_test true e = (h.0 ++ x ∷ [], ap (λ (ys : List Line). ys ++ x ∷ []) h.1 ∙ append_assoc (base_of xs) h.0 (x ∷ []) ∙ ap (λ (ys : List Line). ys ++ (h.0 ++ x ∷ [])) (sym (base_of-collect xs x e)))
    by_test false e = ([], sym (base_of-other xs x e) ∙ sym (append-nil (base_of (xs ++ x ∷ []))))

pub each-base : (P : List Line → Line → Type 0) (lines : List Line) → EachLine P lines → EachLine P (base_of lines)
each-base P lines all = let front = base_of-front lines in each-front P (base_of lines) front.0 (subst (EachLine P) front.1 all)

-- the same at a list that is those lines
pub each-base_is : (P : List Line → Line → Type 0) (lines base : List Line) → base ≡ base_of lines → EachLine P lines → EachLine P base
each-base_is P lines base is all = subst (EachLine P) (sym is) (each-base P lines all)
