-- The derived equality of keys is the one that keys are told apart by, so a set of keys is a list of different ones.
use Rattle.std.proofs.Common.{◌≡◌, ℕ, ◌==◌, Bool, true, false, not, ◌||◌, if◌then◌else◌, List, [], ◌∷◌, ◌++◌, filter, refl, sym, ap, ◌∙◌, subst, arith}
use Rattle.std.proofs.lemmas.Grind.{common_steps}
use Rattle.std.specs.List.{list_any, IsDistinct}
use Rattle.nb_base.specs.declared.key.Key.{Key}
use Rattle.nb_base.specs.declared.key.Key.TheVariants.{V4, V6}
use Rattle.nb_base.specs.contracts.key.KeyPartialEq.TheImpl.{eq-value}
use Rattle.indexmap.specs.IndexSet.{insert_key, remove_key}
use Rattle.nb_queues.specs.SameKey.{is_key, has_key, with_key, without_key}

equal_is : (a b : Key) → eq-value.it a b ≡ is_key a b
unfolding is_key
equal_is (V4 a) (V4 b) = refl
equal_is (V6 a) (V6 b) = refl
equal_is (V4 a) (V6 b) = refl
equal_is (V6 a) (V4 b) = refl

eqb_turned : (a b : ℕ) → (a == b) ≡ (b == a)
eqb_turned a b = grind arith

equal_turned : (a b : Key) → eq-value.it a b ≡ is_key b a
unfolding is_key
equal_turned (V4 a) (V4 b) = eqb_turned a b
equal_turned (V6 a) (V6 b) = eqb_turned a b
equal_turned (V4 a) (V6 b) = refl
equal_turned (V6 a) (V4 b) = refl

-- a key stands among keys by either
pub has_equal : (keys : List Key) (key : Key) → list_any (eq-value.it key) keys ≡ has_key keys key
has_equal keys key = ap (λ (test : Key → Bool). list_any test keys) (λ i. λ other. equal_turned key other i)

-- a key that is inserted goes behind the others unless it is there
pub insert_is : (keys : List Key) (key : Key) → insert_key eq-value.it keys key ≡ with_key keys key
insert_is keys key = ap (λ (there : Bool). if there then keys else keys ++ key ∷ []) (has_equal keys key)

-- the keys of a set are different ones
pub different_is : (keys : List Key) → IsDistinct eq-value.it keys → IsDistinct is_key keys
different_is keys d = subst (λ (same : Key → Key → Bool). IsDistinct same keys) (λ i. λ a. λ b. equal_is a b i) d

none_out : (test : Key → Bool) (keys : List Key) → list_any test keys ≡ false → filter (λ k. not (test k)) keys ≡ keys
none_out test [] e = refl
none_out test (k ∷ ks) e = grind (arith, common_steps, none_out test ks)

first_out : (test : Key → Bool) (keys : List Key) → list_any test (remove_key test keys) ≡ false → remove_key test keys ≡ filter (λ k. not (test k)) keys
first_out test [] e = refl
first_out test (k ∷ ks) e = by_test (test k) refl e (first_out test ks) where
  by_test : (t : Bool) → test k ≡ t → list_any test (if t then ks else k ∷ remove_key test ks) ≡ false → (list_any test (remove_key test ks) ≡ false → remove_key test ks ≡ filter (λ k. not (test k)) ks) → (if t then ks else k ∷ remove_key test ks) ≡ (if not t then k ∷ filter (λ k. not (test k)) ks else filter (λ k. not (test k)) ks)
  by_test true is off more = sym (none_out test ks off)
  by_test false is off more = ap (λ (rest : List Key). k ∷ rest) (more (ap (λ (t : Bool). t || list_any test (remove_key test ks)) (sym is) ∙ off))

-- a key that is removed leaves the others
pub remove_is : (keys : List Key) (key : Key) → list_any (eq-value.it key) (remove_key (eq-value.it key) keys) ≡ false → remove_key (eq-value.it key) keys ≡ without_key keys key
remove_is keys key off = first_out (eq-value.it key) keys off ∙ ap (λ (test : Key → Bool). filter (λ k. not (test k)) keys) (λ i. λ other. equal_turned key other i)
