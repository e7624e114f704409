-- The order of all changes: at each tick the bucket whose change has it.
use Rattle.std.proofs.Common.{◌≡◌, ◌≢◌, ℕ, zero, suc, ◌+◌, ◌<◌, ◌≤◌, Bool, cond, eqb, List, [], ◌∷◌, ◌++◌, length, take, refl, sym, ap, ◌∙◌, arith}
use Rattle.std.specs.List.{AllByRecursion as Each}
use Rattle.std.proofs.lemmas.Bool.{lt-ltb, le-ltb, eq-eqb, ne_eqb}
use Rattle.std.proofs.lemmas.List.{take-append-le, take_all}
use mathlib.Core.Option.{some, some-injective, some-ne-none}
use mathlib.Core.Logic.{dite}
use native.Mathlib.Decide.{ℕ_discrete, dec_le}
use lib.ListN.{get_elem?}
use Rattle.change_order.specs.declared.part.Part.{Part}
use Rattle.change_order.specs.Ticks.{how_many, is_before, is_at}
use Rattle.change_order.specs.Counted.{AreCounted, changes_in, changes_at}
use Rattle.change_order.specs.Orders.{how_often}
use Rattle.change_order.proofs.Lists.{length-snoc, each_snoc}
use Rattle.change_order.proofs.Totals.{total-one, how_many-snoc}

abbrev pub at_tick : ℕ → Part → ℕ
at_tick t p = how_many (is_at t) p.changes

-- the number of the first bucket that has a change at this tick
abbrev pub owner : ℕ → List Part → ℕ
owner t [] = 0
owner t (p ∷ ps) = cond (eqb (at_tick t p) 0) (suc (owner t ps)) 0

owner_on : (t : ℕ) (p : Part) (ps : List Part) → at_tick t p ≡ 0 → owner t (p ∷ ps) ≡ suc (owner t ps)
owner_on t p ps e = ap (λ (b : Bool). cond b (suc (owner t ps)) 0) (eq-eqb (at_tick t p) 0 e)

owner_here : (t : ℕ) (p : Part) (ps : List Part) → at_tick t p ≢ 0 → owner t (p ∷ ps) ≡ 0
owner_here t p ps n = ap {B = ℕ} (λ (b : Bool). cond b (suc (owner t ps)) 0) (ne_eqb (at_tick t p) 0 n)

pub owned : (t : ℕ) (ps : List Part) → changes_at t ps ≡ 1 → (b : ℕ) (p : Part) → get_elem? ps b ≡ some p → (owner t ps ≡ b → at_tick t p ≡ 1) × (owner t ps ≢ b → at_tick t p ≡ 0)
owned t [] e b p there = absurd (some-ne-none p (sym there))
owned t (q ∷ qs) e zero p there =
    let same : at_tick t q ≡ at_tick t p = ap (at_tick t) (some-injective q p there) in
    dite (ℕ_discrete (at_tick t q) 0)
    (λ z. let o = owner_on t q qs z in ((λ is. absurd (omega (arith, o, is))), (λ not. omega (arith, same, z))))
    (λ n. let o = owner_here t q qs n in ((λ is. omega (arith, same, n, e)), (λ not. absurd (not o))))
owned t (q ∷ qs) e (suc b) p there =
    dite (ℕ_discrete (at_tick t q) 0)
    (λ z.
    let o = owner_on t q qs z in
    let rest : changes_at t qs ≡ 1 = omega (arith, z, e) in
    let ih = owned t qs rest b p there in
    ((λ is. ih.0 (omega (arith, o, is))), (λ not. ih.1 (λ same. not (o ∙ ap suc same)))))
    (λ n.
    let o = owner_here t q qs n in
    let rest : changes_at t qs ≡ 0 = omega (arith, n, e) in
    let most = total-one (at_tick t) qs b p there in
    ((λ is. absurd (omega (arith, o, is))), (λ not. omega (arith, rest, most))))

pub owner_within : (t : ℕ) (ps : List Part) → changes_at t ps ≡ 1 → owner t ps < length ps
owner_within t [] e = absurd (omega (arith, e))
owner_within t (q ∷ qs) e =
    dite (ℕ_discrete (at_tick t q) 0)
    (λ z. let o = owner_on t q qs z in let rest : changes_at t qs ≡ 1 = omega (arith, z, e) in let ih = owner_within t qs rest in omega (arith, o, ih))
    (λ n. let o = owner_here t q qs n in omega (arith, o))

-- the owners of the first n ticks
abbrev pub order_of : List Part → ℕ → List ℕ
order_of ps zero = []
order_of ps (suc n) = order_of ps n ++ owner n ps ∷ []

pub length-order : (ps : List Part) (n : ℕ) → length (order_of ps n) ≡ n
length-order ps zero = refl
length-order ps (suc n) = length-snoc (order_of ps n) (owner n ps) ∙ ap suc (length-order ps n)

pub take-order : (ps : List Part) (m n : ℕ) → m ≤ n → take m (order_of ps n) ≡ order_of ps m
take-order ps m zero h = (let z : m ≡ 0 = omega arith in ap (λ (k : ℕ). take k []) z ∙ ap (λ (k : ℕ). order_of ps k) (sym z))
take-order ps m (suc n) h =
    dite (dec_le m n)
    (λ le. (let long : m ≤ length (order_of ps n) = omega (arith, length-order ps n) in take-append-le m (order_of ps n) (owner n ps ∷ []) long) ∙ take-order ps m n le)
    (λ no.
    let all : m ≡ suc n = omega arith in
    let short : length (order_of ps (suc n)) ≤ m = omega (arith, length-order ps (suc n)) in
    take_all m (order_of ps (suc n)) short ∙ ap (λ (k : ℕ). order_of ps k) (sym all))

-- the changes before the next tick
before-more : (m : ℕ) (cs : List (ℕ × ℕ)) → how_many (is_before (suc m)) cs ≡ how_many (is_before m) cs + how_many (is_at m) cs
before-more m [] = refl
before-more m (c ∷ cs) =
    let ih = before-more m cs in
    dite (ℕ_discrete c.0 m)
    (λ e.
    let a = ap {B = ℕ} (λ (b : Bool). cond b 1 0) (lt-ltb c.0 (suc m) (omega arith)) in
    let d = ap {B = ℕ} (λ (b : Bool). cond b 1 0) (le-ltb c.0 m (omega arith)) in
    let f = ap {B = ℕ} (λ (b : Bool). cond b 1 0) (eq-eqb c.0 m e) in
    omega (arith, ih, a, d, f))
    (λ ne.
    let f = ap {B = ℕ} (λ (b : Bool). cond b 1 0) (ne_eqb c.0 m ne) in
    dite (dec_le c.0 m)
    (λ le.
    let a = ap {B = ℕ} (λ (b : Bool). cond b 1 0) (lt-ltb c.0 (suc m) (omega arith)) in
    let d = ap {B = ℕ} (λ (b : Bool). cond b 1 0) (lt-ltb c.0 m (omega arith)) in
    omega (arith, ih, a, d, f))
    (λ no.
    let a = ap {B = ℕ} (λ (b : Bool). cond b 1 0) (le-ltb c.0 (suc m) (omega arith)) in
    let d = ap {B = ℕ} (λ (b : Bool). cond b 1 0) (le-ltb c.0 m (omega arith)) in
    omega (arith, ih, a, d, f)))

before-zero : (cs : List (ℕ × ℕ)) → how_many (is_before 0) cs ≡ 0
before-zero [] = refl
before-zero (c ∷ cs) = let ih = before-zero cs in let a = ap {B = ℕ} (λ (b : Bool). cond b 1 0) (le-ltb c.0 0 (omega arith)) in omega (arith, ih, a)

-- a bucket stands in the first m places of the order as often as it has changes before the tick m
pub often : (ps : List Part) → AreCounted ps → (b : ℕ) (p : Part) → get_elem? ps b ≡ some p → (m : ℕ) → m ≤ changes_in ps → how_often b (order_of ps m) ≡ how_many (is_before m) p.changes
often ps k b p there zero h = sym (before-zero p.changes)
often ps k b p there (suc m) h =
    let ih = often ps k b p there m (omega arith) in
    let once = k.once m (omega arith) in
    let own = owned m ps once b p there in
    let more = before-more m p.changes in
    let snoc = how_many-snoc (λ (o : ℕ). eqb o b) (order_of ps m) (owner m ps) in
    dite (ℕ_discrete (owner m ps) b)
    (λ e. let a = ap {B = ℕ} (λ (x : Bool). cond x 1 0) (eq-eqb (owner m ps) b e) in let one = own.0 e in omega (arith, ih, more, snoc, a, one))
    (λ ne. let a = ap {B = ℕ} (λ (x : Bool). cond x 1 0) (ne_eqb (owner m ps) b ne) in let none = own.1 ne in omega (arith, ih, more, snoc, a, none))

-- the order has numbers of buckets alone
pub order_within : (ps : List Part) (size : ℕ) → AreCounted ps → length ps ≡ size → (m : ℕ) → m ≤ changes_in ps → Each (λ b. b < size) (order_of ps m)
order_within ps size k same zero h = tt
order_within ps size k same (suc m) h =
    each_snoc (λ (b : ℕ). b < size) (order_of ps m) (owner m ps) (order_within ps size k same m (omega arith)) (let small = owner_within m ps (k.once m (omega arith)) in omega (arith, small, same))
