-- Changes and looks with one more.
use Rattle.std.proofs.Common.{◌≡◌, ◌≢◌, ℕ, ◌+◌, ◌<◌, ◌≤◌, Bool, false, cond, List, [], ◌∷◌, ◌++◌, map, refl, ap, ◌∙◌, arith}
use Rattle.std.specs.List.{AllByRecursion as Each, filter}
use Rattle.std.proofs.lemmas.Bool.{lt-ltb, le-ltb, eq-eqb, ne_eqb}
use Rattle.change_order.specs.Ticks.{last_or, how_many, is_before, is_at, second, share_of, share_before, Rise, NeverFall}
use Rattle.change_order.proofs.Totals.{how_many-snoc}

last-snoc : (s : ℕ) (cs : List (ℕ × ℕ)) (c : ℕ × ℕ) → last_or s (map second (cs ++ c ∷ [])) ≡ c.1
last-snoc s [] c = refl
last-snoc s (x ∷ xs) c = last-snoc x.1 xs c

pub share-snoc : (cs : List (ℕ × ℕ)) (t s : ℕ) → share_of (cs ++ (t, s) ∷ []) ≡ s
share-snoc cs t s = last-snoc 0 cs (t, s)

filter-snoc_no : (p : ℕ × ℕ → Bool) (xs : List (ℕ × ℕ)) (y : ℕ × ℕ) → p y ≡ false → filter p (xs ++ y ∷ []) ≡ filter p xs
filter-snoc_no p [] y e = ap (λ (b : Bool). cond b (y ∷ []) []) e
filter-snoc_no p (x ∷ xs) y e = ap (λ (zs : List (ℕ × ℕ)). cond (p x) (x ∷ zs) zs) (filter-snoc_no p xs y e)

-- a change at a later tick doesn't count
pub before-snoc : (t n s : ℕ) (cs : List (ℕ × ℕ)) → t ≤ n → share_before t (cs ++ (n, s) ∷ []) ≡ share_before t cs
before-snoc t n s cs h = ap share_of (filter-snoc_no (is_before t) cs (n, s) (le-ltb n t h))

-- behind all changes each counts
pub before-all : (n : ℕ) (cs : List (ℕ × ℕ)) → Each (λ c. c.0 < n) cs → filter (is_before n) cs ≡ cs
before-all n [] h = refl
before-all n (c ∷ cs) h = ap (λ (b : Bool). cond b (c ∷ filter (is_before n) cs) (filter (is_before n) cs)) (lt-ltb c.0 n h.0) ∙ ap (λ (zs : List (ℕ × ℕ)). c ∷ zs) (before-all n cs h.1)

pub at-none : (n : ℕ) (cs : List (ℕ × ℕ)) → Each (λ c. c.0 < n) cs → how_many (is_at n) cs ≡ 0
at-none n [] h = refl
at-none n (c ∷ cs) h =
    let ne : c.0 ≢ n = (let less = h.0 in λ e. omega arith) in
    let one = ap {B = ℕ} (λ (b : Bool). cond b 1 0) (ne_eqb c.0 n ne) in
    let rest = at-none n cs h.1 in
    omega (arith, one, rest)

pub at-snoc_here : (n s : ℕ) (cs : List (ℕ × ℕ)) → how_many (is_at n) (cs ++ (n, s) ∷ []) ≡ how_many (is_at n) cs + 1
at-snoc_here n s cs = how_many-snoc (is_at n) cs (n, s) ∙ ap (λ (b : Bool). how_many (is_at n) cs + cond b 1 0) (eq-eqb n n refl)

pub at-snoc_else : (t n s : ℕ) (cs : List (ℕ × ℕ)) → n ≢ t → how_many (is_at t) (cs ++ (n, s) ∷ []) ≡ how_many (is_at t) cs
at-snoc_else t n s cs ne =
    let a = how_many-snoc (is_at t) cs (n, s) in
    let b = ap {B = ℕ} (λ (b : Bool). cond b 1 0) (ne_eqb n t ne) in
    omega (arith, a, b)

pub rise-snoc : (low n s : ℕ) (cs : List (ℕ × ℕ)) → low ≤ n → Rise low cs → Each (λ c. c.0 < n) cs → Rise low (cs ++ (n, s) ∷ [])
rise-snoc low n s [] h r e = (h, tt)
rise-snoc low n s (c ∷ cs) h r e = (r.0, rise-snoc (c.0 + 1) n s cs (let less = e.0 in omega arith) r.1 e.1)

pub never_fall-snoc : (low n s : ℕ) (ls : List (ℕ × ℕ)) → low ≤ n → NeverFall low ls → Each (λ l. l.0 ≤ n) ls → NeverFall low (ls ++ (n, s) ∷ [])
never_fall-snoc low n s [] h r e = (h, tt)
never_fall-snoc low n s (l ∷ ls) h r e = (r.0, never_fall-snoc l.0 n s ls e.0 r.1 e.1)
