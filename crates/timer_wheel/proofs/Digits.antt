-- A due in a slot of a lower number is the lesser one, and only the slot of the new moment changes when time goes on.
use Rattle.std.proofs.Common.{◌≡◌, ◌≢◌, ℕ, zero, suc, ◌+◌, ◌-◌, ◌*◌, ◌/◌, ◌%◌, ◌<◌, ◌≤◌, cond, eqb, Bool, refl, sym, ap, ◌∙◌, arith}
use Rattle.std.proofs.lemmas.Bool.{eq-eqb, ne_eqb}
use mathlib.Core.Logic.{dite}
use native.Mathlib.Decide.{ℕ_discrete}
use Rattle.timer_wheel.specs.Places.{slot_by, limit_of}

slot_here : (f now due : ℕ) → now / 64 ≡ due / 64 → slot_by (suc f) now due ≡ due % 64
unfolding slot_by
slot_here f now due e = ap (λ (b : Bool). cond b (due % 64) (64 + slot_by f (now / 64) (due / 64))) (eq-eqb (now / 64) (due / 64) e)

slot_above : (f now due : ℕ) → now / 64 ≢ due / 64 → slot_by (suc f) now due ≡ 64 + slot_by f (now / 64) (due / 64)
unfolding slot_by
slot_above f now due n = ap (λ (b : Bool). cond b (due % 64) (64 + slot_by f (now / 64) (due / 64))) (ne_eqb (now / 64) (due / 64) n)

slot_last : (now due : ℕ) → slot_by 0 now due ≡ due % 64
unfolding slot_by
slot_last now due = refl

-- there are 64 slots for each digit
pub slot_within : (f now due : ℕ) → slot_by f now due < 64 * suc f
slot_within zero now due = omega (arith, slot_last now due)
slot_within (suc f) now due =
    dite (ℕ_discrete (now / 64) (due / 64))
    (λ e. omega (arith, slot_here f now due e))
    (λ n. let rest = slot_within f (now / 64) (due / 64) in omega (arith, slot_above f now due n, rest))

-- a due in a slot of a lower number is less
pub slots_order : (f now a b : ℕ) → now ≤ a → now ≤ b → a < limit_of f → b < limit_of f → slot_by f now a < slot_by f now b → a < b
slots_order zero now a b la lb fa fb h = omega (arith, slot_last now a, slot_last now b, h, fa, fb)
slots_order (suc f) now a b la lb fa fb h =
    dite (ℕ_discrete (now / 64) (a / 64))
    (λ ea. dite (ℕ_discrete (now / 64) (b / 64))
    (λ eb. omega (arith, slot_here f now a ea, slot_here f now b eb, h, ea, eb))
    (λ nb. omega (arith, ea, nb, la, lb)))
    (λ na. dite (ℕ_discrete (now / 64) (b / 64))
    (λ eb. absurd (omega (arith, slot_above f now a na, slot_here f now b eb, h)))
    (λ nb.
    let less = slots_order f (now / 64) (a / 64) (b / 64) (omega (arith, la)) (omega (arith, lb)) (omega (arith, fa)) (omega (arith, fb)) (omega (arith, slot_above f now a na, slot_above f now b nb, h)) in
    omega (arith, less)))

-- where time goes on to a moment, the dues of other slots than that moment's stay
pub slot_stays : (f now to due : ℕ) → now ≤ to → to ≤ due → slot_by f now due ≢ slot_by f now to → slot_by f to due ≡ slot_by f now due
slot_stays zero now to due h g apart = slot_last to due ∙ sym (slot_last now due)
slot_stays (suc f) now to due h g apart =
    dite (ℕ_discrete (now / 64) (to / 64))
    (λ et. dite (ℕ_discrete (now / 64) (due / 64))
    (λ ed. slot_here f to due (sym et ∙ ed) ∙ sym (slot_here f now due ed))
    (λ nd. slot_above f to due (λ e. nd (et ∙ e)) ∙ (ap (λ (x : ℕ). 64 + slot_by f x (due / 64)) (sym et) ∙ sym (slot_above f now due nd))))
    (λ nt.
    let nd : now / 64 ≢ due / 64 = λ e. (let l = nt in l (omega (arith, e, h, g))) in
    let inner : slot_by f (now / 64) (due / 64) ≢ slot_by f (now / 64) (to / 64) = λ e. apart (slot_above f now due nd ∙ (ap (λ (x : ℕ). 64 + x) e ∙ sym (slot_above f now to nt))) in
    let rest = slot_stays f (now / 64) (to / 64) (due / 64) (omega (arith, h)) (omega (arith, g)) inner in
    let td : to / 64 ≢ due / 64 = λ e. inner (ap (λ (x : ℕ). slot_by f (now / 64) x) (sym e)) in
    slot_above f to due td ∙ (ap (λ (x : ℕ). 64 + x) rest ∙ sym (slot_above f now due nd)))

-- at the lowest level all dues of a slot are one
pub slot_once : (f now a b : ℕ) → a < limit_of f → b < limit_of f → now / 64 ≡ b / 64 → slot_by f now a ≡ slot_by f now b → a ≡ b
slot_once zero now a b fa fb eb same = omega (arith, slot_last now a, slot_last now b, same, fa, fb)
slot_once (suc f) now a b fa fb eb same =
    dite (ℕ_discrete (now / 64) (a / 64))
    (λ ea. omega (arith, slot_here f now a ea, slot_here f now b eb, same, ea, eb))
    (λ na. absurd (omega (arith, slot_above f now a na, slot_here f now b eb, same)))

-- and the dues of the moment's slot go to slots of lower numbers, unless it is of the lowest level
pub slot_falls : (f now to due : ℕ) → now ≤ to → to ≤ due → due < limit_of f → now / 64 ≢ to / 64 → slot_by f now due ≡ slot_by f now to → slot_by f to due < slot_by f now to
slot_falls zero now to due h g fits nt same = absurd (nt (omega (arith, h, g, fits)))
slot_falls (suc f) now to due h g fits nt same =
    let nd : now / 64 ≢ due / 64 = λ e. nt (omega (arith, e, h, g)) in
    let top = slot_above f now to nt in
    let inner : slot_by f (now / 64) (due / 64) ≡ slot_by f (now / 64) (to / 64) = omega (arith, slot_above f now due nd, top, same) in
    let less : due / 64 < limit_of f = omega (arith, fits) in
    let below : to / 64 < limit_of f = omega (arith, fits, g) in
    dite (ℕ_discrete (to / 64) (due / 64))
    (λ e. omega (arith, slot_here f to due e, top))
    (λ n. dite (ℕ_discrete (now / 64 / 64) (to / 64 / 64))
    (λ e. absurd (n (sym (slot_once f (now / 64) (due / 64) (to / 64) less below e inner))))
    (λ ne.
    let rest = slot_falls f (now / 64) (to / 64) (due / 64) (omega (arith, h)) (omega (arith, g)) less ne inner in
    omega (arith, slot_above f to due n, top, rest)))

-- the walk to the highest digit that differs
pub slot_ends : (level now due n d : ℕ) → level < 10 → slot_by 10 n d ≡ 64 * level + slot_by (10 - level) now due → now / 64 ≡ due / 64 → 64 * level + due % 64 ≡ slot_by 10 n d
slot_ends level now due n d small is e =
    let digits : 10 - level ≡ suc (9 - level) = omega (arith, small) in
    let here : slot_by (10 - level) now due ≡ due % 64 = ap (λ (f : ℕ). slot_by f now due) digits ∙ slot_here (9 - level) now due e in
    omega (arith, is, here)

pub slot_steps : (level now due n d : ℕ) → level < 10 → slot_by 10 n d ≡ 64 * level + slot_by (10 - level) now due → now / 64 ≢ due / 64 → slot_by 10 n d ≡ 64 * (level + 1) + slot_by (10 - (level + 1)) (now / 64) (due / 64)
slot_steps level now due n d small is apart =
    let digits : 10 - level ≡ suc (9 - level) = omega (arith, small) in
    let rest : 9 - level ≡ 10 - (level + 1) = omega (arith, small) in
    let above : slot_by (10 - level) now due ≡ 64 + slot_by (10 - (level + 1)) (now / 64) (due / 64) = ap (λ (f : ℕ). slot_by f now due) digits ∙ (slot_above (9 - level) now due apart ∙ ap (λ (f : ℕ). 64 + slot_by f (now / 64) (due / 64)) rest) in
    omega (arith, is, above)

pub slot_at_last : (level now due n d : ℕ) → level ≡ 10 → slot_by 10 n d ≡ 64 * level + slot_by (10 - level) now due → 640 + due % 64 ≡ slot_by 10 n d
slot_at_last level now due n d at is =
    let none : 10 - level ≡ 0 = omega (arith, at) in
    let last : slot_by (10 - level) now due ≡ due % 64 = ap (λ (f : ℕ). slot_by f now due) none ∙ slot_last now due in
    omega (arith, is, last, at)

-- a moment of the same higher digits is in a slot of the lowest level
pub slot_low : (f now due : ℕ) → now / 64 ≡ due / 64 → slot_by (suc f) now due < 64
slot_low f now due e = omega (arith, slot_here f now due e)

pub slot_low_is : (f now due : ℕ) → slot_by (suc f) now due < 64 → now / 64 ≡ due / 64
slot_low_is f now due h =
    dite (ℕ_discrete (now / 64) (due / 64))
    (λ e. e)
    (λ n. absurd (omega (arith, slot_above f now due n, h)))

-- where all but the lowest digit stay, each due stays in its slot
pub slot_same : (f now to due : ℕ) → now / 64 ≡ to / 64 → slot_by (suc f) to due ≡ slot_by (suc f) now due
unfolding slot_by
slot_same f now to due e = ap (λ (x : ℕ). cond (eqb x (due / 64)) (due % 64) (64 + slot_by f x (due / 64))) (sym e)
