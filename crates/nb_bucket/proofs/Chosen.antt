-- Changes and looks of two parts, one after the other, and the looks chosen for lines.
use Rattle.std.proofs.Common.{ℕ, ◌≤◌, List, [], ◌∷◌, ◌++◌, refl, sym, ◌∙◌, ap, subst, append_assoc, append-nil}
use Rattle.std.specs.List.{AllByRecursion as Each, AllZip}
use Rattle.change_order.specs.Orders.{LookingLine, AreAmong, IsLookOf}
use Rattle.change_order.proofs.Lists.{each_append}
use Rattle.change_order.proofs.Growing.{look_later}

pub each-first : {A : Type 0} (P : A → Type 0) (xs ys : List A) → Each P (xs ++ ys) → Each P xs
each-first P [] ys h = tt
each-first P (x ∷ xs) ys h = (h.0, each-first P xs ys h.1)

pub each-next : {A : Type 0} (P : A → Type 0) (xs ys : List A) → Each P (xs ++ ys) → Each P ys
each-next P [] ys h = h
each-next P (x ∷ xs) ys h = each-next P xs ys h.1

among-behind : {A : Type 0} (ys us vs : List A) → AreAmong ys vs → AreAmong ys (us ++ vs)
among-behind [] us vs n = tt
among-behind {A = A} (y ∷ ys) us vs n = (us ++ n.0, n.1, ap (λ (ws : List A). us ++ ws) n.2 ∙ sym (append_assoc us n.0 (y ∷ n.1)), n.3)

pub among-append : {A : Type 0} (xs ys us vs : List A) → AreAmong xs us → AreAmong ys vs → AreAmong (xs ++ ys) (us ++ vs)
among-append [] ys us vs m n = among-behind ys us vs n
among-append {A = A} (x ∷ xs) ys us vs m n = (m.0, m.1 ++ vs, ap (λ (ws : List A). ws ++ vs) m.2 ∙ append_assoc m.0 (x ∷ m.1) vs, among-append xs ys m.1 vs m.3 n)

pub zip-append : {A B : Type 0} (R : A → B → Type 0) (xs ys : List A) (us vs : List B) → AllZip R xs us → AllZip R ys vs → AllZip R (xs ++ ys) (us ++ vs)
zip-append R [] ys [] vs h g = g
zip-append R [] ys (u ∷ us) vs h g = absurd h
zip-append R (x ∷ xs) ys [] vs h g = absurd h
zip-append R (x ∷ xs) ys (u ∷ us) vs h g = (h.0, zip-append R xs ys us vs h.1 g)

pub among-itself : {A : Type 0} (xs : List A) → AreAmong xs xs
among-itself [] = tt
among-itself (x ∷ xs) = ([], xs, refl, among-itself xs)

-- ---- changes behind looks

-- the changes stand behind the look
abbrev pub Follow : List (ℕ × ℕ) → ℕ × ℕ → Type 0
Follow made look = Each (λ (c : ℕ × ℕ). look.0 ≤ c.0) made

pub none-follow : (looks : List (ℕ × ℕ)) → Each (Follow []) looks
none-follow [] = tt
none-follow (l ∷ ls) = (tt, none-follow ls)

pub one-follows : (tick number : ℕ) (looks : List (ℕ × ℕ)) → Each (λ (l : ℕ × ℕ). l.0 ≤ tick) looks → Each (Follow ((tick, number) ∷ [])) looks
one-follows tick number [] h = tt
one-follows tick number (l ∷ ls) h = ((h.0, tt), one-follows tick number ls h.1)

pub both-follow : (made more looks : List (ℕ × ℕ)) → Each (Follow made) looks → Each (Follow more) looks → Each (Follow (made ++ more)) looks
both-follow made more [] h g = tt
both-follow made more (l ∷ ls) h g = (each_append (λ (c : ℕ × ℕ). l.0 ≤ c.0) made more h.0 g.0, both-follow made more ls h.1 g.1)

-- a look stands before all later changes
look-before : (changes made : List (ℕ × ℕ)) (look : ℕ × ℕ) (line : LookingLine) → Follow made look → IsLookOf changes look line → IsLookOf (changes ++ made) look line
look-before changes [] look line h is = subst (λ (cs : List (ℕ × ℕ)). IsLookOf cs look line) (sym (append-nil changes)) is
look-before changes (c ∷ made) look line h is =
    subst (λ (cs : List (ℕ × ℕ)). IsLookOf cs look line) (append_assoc changes (c ∷ []) made)
    (look-before (changes ++ c ∷ []) made look line h.1 (look_later changes look line c.0 c.1 h.0 is))

-- and so do the looks chosen for lines
pub chosen-before : (changes made looks chosen : List (ℕ × ℕ)) (lines : List LookingLine) → Each (Follow made) looks → AreAmong chosen looks → AllZip (IsLookOf changes) chosen lines → AllZip (IsLookOf (changes ++ made)) chosen lines
chosen-before changes made looks [] [] f m h = h
chosen-before changes made looks [] (y ∷ ys) f m h = absurd h
chosen-before changes made looks (x ∷ xs) [] f m h = absurd h
chosen-before changes made looks (x ∷ xs) (y ∷ ys) f m h =
    let rest = each-next (Follow made) m.0 (x ∷ m.1) (subst (λ (ls : List (ℕ × ℕ)). Each (Follow made) ls) m.2 f) in
    (look-before changes made x y rest.0 h.0, chosen-before changes made m.1 xs ys rest.1 m.3 h.1)
