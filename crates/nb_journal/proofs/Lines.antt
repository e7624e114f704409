-- Lists of lines: one more at the end, and each line with the lines before it.
use Rattle.std.proofs.Common.{◌≡◌, ◌⊎◌, inl, inr, ⊎_elim, true, false, List, [], ◌∷◌, ◌++◌, reverse, refl, sym, ◌∙◌, ap, subst, append_assoc, append-nil}
use Rattle.std.proofs.lemmas.List.{reverse-append, reverse-reverse}
use Rattle.nb_base.specs.declared.line.Line.{Line}
use Rattle.nb_journal.specs.Lawful.{each_line, EachLine, fold_lines, last_moment, base_of, is_collect}

-- induction by the last element
pub by_last : {A : Type 0} (P : List A → Type 0) → P [] → ((xs : List A) (x : A) → P xs → P (xs ++ x ∷ [])) → (xs : List A) → P xs
by_last {A = A} P none more xs = subst P (reverse-reverse xs) (of_reverse (reverse xs)) where
  of_reverse : (ys : List A) → P (reverse ys)
  of_reverse [] = none
  of_reverse (y ∷ ys) = subst P (sym (reverse-append (y ∷ []) ys)) (more (reverse ys) y (of_reverse ys))

pub not_nil : (ys rest : List Line) (x : Line) → [] ≡ ys ++ x ∷ rest → ⊥
not_nil [] rest x e = cc
not_nil (y ∷ ys) rest x e = cc

-- a line of the longer list is the last one or a line of the shorter
pub split_last : (lines past rest : List Line) (l x : Line) → lines ++ l ∷ [] ≡ past ++ x ∷ rest → ((lines ≡ past) × (l ≡ x)) ⊎ ((more : List Line) × (lines ≡ past ++ x ∷ more))
split_last [] [] rest l x e = let same : l ≡ x = cc in inl (refl, same)
split_last [] (y ∷ ys) rest l x e = let h : [] ≡ ys ++ x ∷ rest = cc in absurd (not_nil ys rest x h)
split_last (j ∷ js) [] rest l x e = let same : j ≡ x = cc in inr (js, ap (λ (z : Line). z ∷ js) same)
split_last (j ∷ js) (y ∷ ys) rest l x e =
    let head : j ≡ y = cc in
    let tail : js ++ l ∷ [] ≡ ys ++ x ∷ rest = cc in
    ⊎_elim
    (λ (a : (js ≡ ys) × (l ≡ x)). let both : j ∷ js ≡ y ∷ ys = cc in inl (both, a.1))
    (λ (b : (more : List Line) × (js ≡ ys ++ x ∷ more)). let both : j ∷ js ≡ y ∷ (ys ++ x ∷ b.0) = cc in inr (b.0, both))
    (split_last js ys rest l x tail)

-- ---- each line

each_more : (P : List Line → Line → Type 0) (past lines : List Line) (l : Line) → each_line P past lines → P (past ++ lines) l → each_line P past (lines ++ l ∷ [])
each_more P past [] l all last = (subst (λ (xs : List Line). P xs l) (append-nil past) last, tt)
each_more P past (x ∷ xs) l all last = (all.0, each_more P (past ++ x ∷ []) xs l all.1 (subst (λ (ys : List Line). P ys l) (sym (append_assoc past (x ∷ []) xs)) last))

-- one line more
pub each-snoc : (P : List Line → Line → Type 0) (lines : List Line) (l : Line) → EachLine P lines → P lines l → EachLine P (lines ++ l ∷ [])
each-snoc P lines l all last = each_more P [] lines l all last

each_less : (P : List Line → Line → Type 0) (past lines : List Line) (l : Line) → each_line P past (lines ++ l ∷ []) → each_line P past lines × P (past ++ lines) l
each_less P past [] l all = (tt, subst (λ (xs : List Line). P xs l) (sym (append-nil past)) all.0)
each_less P past (x ∷ xs) l all =
    let rest = each_less P (past ++ x ∷ []) xs l all.1 in
    ((all.0, rest.0), subst (λ (ys : List Line). P ys l) (append_assoc past (x ∷ []) xs) rest.1)

-- one line less, and what holds of it
pub each-last : (P : List Line → Line → Type 0) (lines : List Line) (l : Line) → EachLine P (lines ++ l ∷ []) → EachLine P lines × P lines l
each-last P lines l all = each_less P [] lines l all

each_at : (P : List Line → Line → Type 0) (first past rest : List Line) (l : Line) → each_line P first (past ++ l ∷ rest) → P (first ++ past) l
each_at P first [] rest l all = subst (λ (xs : List Line). P xs l) (sym (append-nil first)) all.0
each_at P first (x ∷ xs) rest l all = subst (λ (ys : List Line). P ys l) (append_assoc first (x ∷ []) xs) (each_at P (first ++ x ∷ []) xs rest l all.1)

-- what holds of a line in the midst
pub each-at : (P : List Line → Line → Type 0) (past rest : List Line) (l : Line) → EachLine P (past ++ l ∷ rest) → P past l
each-at P past rest l all = each_at P [] past rest l all

each_front : (P : List Line → Line → Type 0) (first lines rest : List Line) → each_line P first (lines ++ rest) → each_line P first lines
each_front P first [] rest all = tt
each_front P first (x ∷ xs) rest all = (all.0, each_front P (first ++ x ∷ []) xs rest all.1)

-- it holds of the first lines
pub each-front : (P : List Line → Line → Type 0) (lines rest : List Line) → EachLine P (lines ++ rest) → EachLine P lines
each-front P lines rest all = each_front P [] lines rest all

each_behind : (P : List Line → Line → Type 0) (first lines rest : List Line) → each_line P first (lines ++ rest) → each_line P (first ++ lines) rest
each_behind P first [] rest all = subst (λ (xs : List Line). each_line P xs rest) (sym (append-nil first)) all
each_behind P first (x ∷ xs) rest all = subst (λ (ys : List Line). each_line P ys rest) (append_assoc first (x ∷ []) xs) (each_behind P (first ++ x ∷ []) xs rest all.1)

-- and of those behind them
pub each-behind : (P : List Line → Line → Type 0) (lines rest : List Line) → EachLine P (lines ++ rest) → each_line P lines rest
each-behind P lines rest all = each_behind P [] lines rest all

each_of : (P : List Line → Line → Type 0) (all first lines : List Line) → first ++ lines ≡ all → ((past rest : List Line) (l : Line) → all ≡ past ++ l ∷ rest → P past l) → each_line P first lines
each_of P all first [] e h = tt
each_of P all first (x ∷ xs) e h = (h first xs x (sym e), each_of P all (first ++ x ∷ []) xs (append_assoc first (x ∷ []) xs ∙ e) h)

-- it holds of each line where it holds at each place
pub each-of : (P : List Line → Line → Type 0) (lines : List Line) → ((past rest : List Line) (l : Line) → lines ≡ past ++ l ∷ rest → P past l) → EachLine P lines
each-of P lines h = each_of P lines [] lines refl h

-- what holds of each line with its past holds of it by what follows from that
pub each-map : (P Q : List Line → Line → Type 0) (lines : List Line) → ((past : List Line) (l : Line) → P past l → Q past l) → EachLine P lines → EachLine Q lines
each-map P Q lines h all = go [] lines all where
  go : (first xs : List Line) → each_line P first xs → each_line Q first xs
  go first [] a = tt
  go first (x ∷ xs) a = (h first x a.0, go (first ++ x ∷ []) xs a.1)

-- ---- folds

fold_more : {A : Type 0} (f : A → List Line → Line → A) (a : A) (past lines : List Line) (l : Line) → fold_lines f a past (lines ++ l ∷ []) ≡ f (fold_lines f a past lines) (past ++ lines) l
fold_more f a past [] l = ap (λ (xs : List Line). f a xs l) (sym (append-nil past))
fold_more f a past (x ∷ xs) l = fold_more f (f a past x) (past ++ x ∷ []) xs l ∙ ap (λ (ys : List Line). f (fold_lines f (f a past x) (past ++ x ∷ []) xs) ys l) (append_assoc past (x ∷ []) xs)

pub fold_lines-snoc : {A : Type 0} (f : A → List Line → Line → A) (a : A) (lines : List Line) (l : Line) → fold_lines f a [] (lines ++ l ∷ []) ≡ f (fold_lines f a [] lines) lines l
fold_lines-snoc f a lines l = fold_more f a [] lines l

-- ---- the last line

pub last_moment-snoc : (lines : List Line) (l : Line) → last_moment (lines ++ l ∷ []) ≡ l.at
last_moment-snoc [] l = refl
last_moment-snoc (x ∷ []) l = refl
last_moment-snoc (x ∷ y ∷ ys) l = last_moment-snoc (y ∷ ys) l

pub base_of-collect : (lines : List Line) (l : Line) → is_collect l.op ≡ true → base_of (lines ++ l ∷ []) ≡ base_of lines
base_of-collect [] l e = rw e refl
base_of-collect (x ∷ xs) l e = rw (base_of-collect xs l e) refl

pub base_of-other : (lines : List Line) (l : Line) → is_collect l.op ≡ false → base_of (lines ++ l ∷ []) ≡ lines ++ l ∷ []
base_of-other [] l e = rw e refl
base_of-other (x ∷ []) l e = rw e refl
base_of-other (x ∷ y ∷ ys) l e = rw (base_of-other (y ∷ ys) l e) refl
