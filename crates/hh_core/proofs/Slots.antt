-- The readers as the code keeps them, and as their lists.
use Rattle.std.proofs.Common.{◌≡◌, ℕ, zero, suc, ◌<◌, ◌≤◌, List, [], ◌∷◌, length, get_or, set, map, Some, refl, sym, ap, subst, arith}
use Rattle.std.specs.List.{All, slice_get}
use Rattle.std.proofs.lemmas.Option.{slice_get-map, slice_get_read}
use Rattle.hh_core.specs.declared.reader.Reader.{Reader}
use Rattle.hh_core.specs.declared.reader.ReaderPhase.{ReaderPhase}
use Rattle.hh_core.specs.declared.reader.ReaderPhase.TheVariants.{HasFirst, HasA, HasB}
use Rattle.hh_core.specs.State.{ReaderState, phase_of, change_at}
use Rattle.hh_core.specs.Step.{to_phase, loads_a, loads_b, ends_try}
use Rattle.hh_core.specs.Shown.{reader_state, HasRoom}
use Rattle.hh_core.proofs.OneReader.{phase_found}

-- one reader is written
pub map-set-change : (f : ReaderState → ReaderState) (xs : List Reader) (r : ℕ) (x y : Reader) → r < length xs → x ≡ get_or xs r x → reader_state y ≡ f (reader_state x) → map reader_state (set xs r y) ≡ change_at f (map reader_state xs) r
map-set-change f [] r x y small is e = absurd (omega arith)
map-set-change f (z ∷ xs) zero x y small is e = let F : Reader → Type 0 = λ w. reader_state y ∷ map reader_state xs ≡ f (reader_state w) ∷ map reader_state xs in subst F is (ap (λ (w : ReaderState). w ∷ map reader_state xs) e)
map-set-change f (z ∷ xs) (suc r) x y small is e = ap (λ (ws : List ReaderState). reader_state z ∷ ws) (map-set-change f xs r x y (omega arith) is e)

-- two changes that do the same to the reader that is found
pub change_at_same : (f g : ReaderState → ReaderState) (xs : List ReaderState) (r : ℕ) → ((x : ReaderState) → slice_get xs r ≡ Some x → f x ≡ g x) → change_at f xs r ≡ change_at g xs r
change_at_same f g [] r h = refl
change_at_same f g (x ∷ xs) zero h = ap (λ (w : ReaderState). w ∷ xs) (h x refl)
change_at_same f g (x ∷ xs) (suc r) h = ap (λ (ws : List ReaderState). x ∷ ws) (change_at_same f g xs r h)

-- the phase that is read
pub phase_read : (xs : List Reader) (r : ℕ) (x : Reader) → r < length xs → x ≡ get_or xs r x → Some x.phase ≡ phase_of (map reader_state xs) r
phase_read xs r x small is = let found : slice_get xs r ≡ Some x = slice_get_read xs (length xs) r x refl small is in rw (slice_get-map reader_state xs r, found) refl

pub change_load_a : (xs : List ReaderState) (r n a : ℕ) → phase_of xs r ≡ Some (HasFirst n) → change_at (to_phase (HasA n a)) xs r ≡ change_at (λ x. to_phase (loads_a a x.phase) x) xs r
change_load_a xs r n a is = change_at_same (to_phase (HasA n a)) (λ x. to_phase (loads_a a x.phase) x) xs r (λ x e. ap (λ (p : ReaderPhase). to_phase (loads_a a p) x) (sym (phase_found xs r x (HasFirst n) e is)))

pub change_load_b : (xs : List ReaderState) (r n a b : ℕ) → phase_of xs r ≡ Some (HasA n a) → change_at (to_phase (HasB n a b)) xs r ≡ change_at (λ x. to_phase (loads_b b x.phase) x) xs r
change_load_b xs r n a b is = change_at_same (to_phase (HasB n a b)) (λ x. to_phase (loads_b b x.phase) x) xs r (λ x e. ap (λ (p : ReaderPhase). to_phase (loads_b b p) x) (sym (phase_found xs r x (HasA n a) e is)))

pub change_second : (xs : List ReaderState) (r n a b second : ℕ) → phase_of xs r ≡ Some (HasB n a b) → change_at (ends_try second (HasB n a b)) xs r ≡ change_at (λ x. ends_try second x.phase x) xs r
change_second xs r n a b second is = change_at_same (ends_try second (HasB n a b)) (λ x. ends_try second x.phase x) xs r (λ x e. ap (λ (p : ReaderPhase). ends_try second p x) (sym (phase_found xs r x (HasB n a b) e is)))

-- less room
pub HasRoom-less : (n m : ℕ) → m ≤ n → (x : Reader) → HasRoom n x → HasRoom m x
HasRoom-less n m down x h = record { known = omega (arith, h.known); tries = omega (arith, h.tries) }

-- what holds of each reader still holds where one that has it is written
pub room_found : (n : ℕ) (xs : List Reader) (r : ℕ) (x : Reader) → r < length xs → x ≡ get_or xs r x → All (HasRoom n) xs → HasRoom n x
room_found n xs r x small is h = let F : Reader → Type 0 = HasRoom n in subst F (sym is) (h r x small)

-- the phase that was read, as the lists have it
pub phase_known : (p q : ReaderPhase) (xs ys : List Reader) (r : ℕ) → p ≡ q → ys ≡ xs → Some p ≡ phase_of (map reader_state ys) r → phase_of (map reader_state xs) r ≡ Some q
phase_known p q xs ys r is same e =
    let F : ReaderPhase → Type 0 = λ v. Some v ≡ phase_of (map reader_state ys) r in
    let G : List Reader → Type 0 = λ zs. Some q ≡ phase_of (map reader_state zs) r in
    sym (subst G same (subst F is e))
