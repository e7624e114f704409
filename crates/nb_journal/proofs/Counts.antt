-- Known keys are different, an unknown key is absent, and sums over keys.
use Rattle.std.proofs.Common.{◌≡◌, ◌⊎◌, inl, inr, ⊎_elim, ℕ, ◌+◌, ◌≤◌, Bool, true, false, ◌||◌, ◌&&◌, if◌then◌else◌, List, [], ◌∷◌, ◌++◌, Option, Some, None, refl, sym, ◌∙◌, ap, subst, arith}
use Rattle.std.specs.Prelude.{filter}
use Rattle.std.proofs.lemmas.Bool.{false≢true, or_parts, or_cases, false_from_ne_true, cond_both}
use Rattle.std.proofs.lemmas.List.Folds.{list_any-append}
use Rattle.nb_base.specs.declared.key.Key.{Key}
use Rattle.nb_base.specs.declared.params.Params.{Params}
use Rattle.nb_base.specs.declared.op.Op.{Op}
use Rattle.nb_base.specs.declared.op.Op.TheVariants as op
use Rattle.nb_base.specs.declared.line.Line.{Line}
use Rattle.nud_machine.specs.declared.event.Event.TheVariants as event
use Rattle.nud_machine.specs.State.{State, Stepped, absent}
use Rattle.nb_journal.specs.Keys.{is_key, key_of, made_known}
use Rattle.nb_journal.specs.Fold.{Effect, Passes, Brings, effect, saw_enough, is_swept, meet, change, state_of, with_key, known_keys}
use Rattle.nb_journal.proofs.Changes.{is_key-same, change-other}
use Rattle.nb_journal.proofs.Lines.{by_last}
use Rattle.nb_journal.proofs.Folds.{state_of-nil, state_of-snoc, known_keys-nil, known_keys-snoc}
use Rattle.nb_journal.proofs.Dues.{change-either}
use Rattle.nb_journal.proofs.Grows.{is_key-one, has_key}
use Rattle.nb_journal.proofs.Sums.{sum_over}

-- each key stands once
abbrev pub AreDistinct : List Key → Type 0
AreDistinct [] = Unit {0}
AreDistinct (key ∷ keys) = (has_key keys key ≡ false) × AreDistinct keys

-- two keys are one, or told apart
pub key_cases : (a b : Key) → (a ≡ b) ⊎ (is_key a b ≡ false)
key_cases a b = by_test (is_key a b) refl where
  by_test : (t : Bool) → is_key a b ≡ t → (a ≡ b) ⊎ (is_key a b ≡ false)
  by_test true e = inl (is_key-one a b e)
  by_test false e = inr e

pub is_key-flip : (a b : Key) → is_key a b ≡ false → is_key b a ≡ false
is_key-flip a b e = ⊎_elim (λ (s : b ≡ a). absurd (false≢true (sym e ∙ ap (λ (k : Key). is_key k b) (sym s) ∙ is_key-same b))) (λ (n : is_key b a ≡ false). n) (key_cases b a)

pub has_key-snoc : (keys : List Key) (new key : Key) → has_key (keys ++ new ∷ []) key ≡ (has_key keys key || (is_key new key || false))
has_key-snoc keys new key = list_any-append (λ other. is_key other key) keys (new ∷ [])

pub distinct-snoc : (keys : List Key) (key : Key) → AreDistinct keys → has_key keys key ≡ false → AreDistinct (keys ++ key ∷ [])
distinct-snoc [] key d h = (refl, tt)
distinct-snoc (k ∷ ks) key d h =
    let parts = or_parts (is_key k key) (has_key ks key) h in
    (rw (has_key-snoc ks key k, d.0, is_key-flip k key parts.0) refl, distinct-snoc ks key d.1 parts.1)

distinct-with_key : (keys : List Key) (new : Option Key) → AreDistinct keys → AreDistinct (with_key keys new)
distinct-with_key keys None d = d
distinct-with_key keys (Some key) d = by_test (has_key keys key) refl where
  by_test : (t : Bool) → has_key keys key ≡ t → AreDistinct (if t then keys else keys ++ key ∷ [])
  by_test true e = d
  by_test false e = distinct-snoc keys key d e

-- the known keys are different
pub known_keys-distinct : (lines : List Line) → AreDistinct (known_keys lines)
known_keys-distinct = by_last (λ (xs : List Line). AreDistinct (known_keys xs)) (rw known_keys-nil tt)
    (λ xs x h. rw (known_keys-snoc xs x) (distinct-with_key (known_keys xs) (made_known x.op) h))

-- ---- unknown keys

not_with_key : (keys : List Key) (new : Option Key) (key : Key) → has_key (with_key keys new) key ≡ false → (has_key keys key ≡ false) × ((k : Key) → new ≡ Some k → is_key k key ≡ false)
not_with_key keys None key h = (h, λ k e. cc)
not_with_key keys (Some n) key h = by_test (has_key keys n) refl h where
  apart : has_key keys n ≡ true → has_key keys key ≡ false → is_key n key ≡ false
  apart there off = ⊎_elim (λ (s : n ≡ key). absurd (false≢true (sym off ∙ ap (has_key keys) (sym s) ∙ there))) (λ (d : is_key n key ≡ false). d) (key_cases n key)

  of_new : is_key n key ≡ false → (k : Key) → Some n ≡ Some k → is_key k key ≡ false
  of_new off k e = let same : n ≡ k = cc in ap (λ (x : Key). is_key x key) (sym same) ∙ off

  by_test : (t : Bool) → has_key keys n ≡ t → has_key (if t then keys else keys ++ n ∷ []) key ≡ false → (has_key keys key ≡ false) × ((k : Key) → Some n ≡ Some k → is_key k key ≡ false)
  by_test true there g = (g, of_new (apart there g))
  by_test false off g =
      let parts = or_parts (has_key keys key) (is_key n key || false) (sym (has_key-snoc keys n key) ∙ g) in
      (parts.0, of_new (or_parts (is_key n key) false parts.1).0)

absent_stays : (p : Params) (l : Line) (o : Op) → made_known o ≡ None → (meet p l absent (effect p l absent o)).state ≡ absent
absent_stays p l (op.Send key len) e = cc
absent_stays p l (op.Arp key mac true solicited) e = cc
absent_stays p l (op.Ns key mac) e = cc
absent_stays p l (op.Add key (Some mac) nud) e = cc
absent_stays p l (op.Replace key (Some mac) nud) e = cc
absent_stays p l op.Sweep e = cond_both (saw_enough p l.seen && is_swept p l.at absent) (Brings event.Remove) Passes (λ (x : Effect). (meet p l absent x).state ≡ absent) (λ t. refl) (λ t. refl)
absent_stays p l _ e = refl

made_known-names : (o : Op) (k : Key) → made_known o ≡ Some k → key_of o ≡ Some k
made_known-names (op.Send key len) k e = e
made_known-names (op.Arp key mac true solicited) k e = e
made_known-names (op.Ns key mac) k e = e
made_known-names (op.Add key (Some mac) nud) k e = e
made_known-names (op.Replace key (Some mac) nud) k e = e
made_known-names _ k e = cc

unknown_stays : (p : Params) (l : Line) (key : Key) → ((k : Key) → made_known l.op ≡ Some k → is_key k key ≡ false) → (change p l key absent).state ≡ absent
unknown_stays p l key apart = by_made (made_known l.op) refl where
  by_made : (o : Option Key) → made_known l.op ≡ o → (change p l key absent).state ≡ absent
  by_made None e = change-either (λ (t : State). t ≡ absent) p l key absent refl (absent_stays p l l.op e)
  by_made (Some k) e = ap (λ (t : Stepped). t.state) (change-other p l k key absent (made_known-names l.op k e) (apart k e))

-- a key that isn't known is absent
pub state_of-unknown : (p : Params) (lines : List Line) (key : Key) → has_key (known_keys lines) key ≡ false → state_of p lines key ≡ absent
state_of-unknown p lines key = by_last (λ (xs : List Line). has_key (known_keys xs) key ≡ false → state_of p xs key ≡ absent) (λ h. state_of-nil p key) more lines where
  more : (xs : List Line) (x : Line) → (has_key (known_keys xs) key ≡ false → state_of p xs key ≡ absent) → has_key (known_keys (xs ++ x ∷ [])) key ≡ false → state_of p (xs ++ x ∷ []) key ≡ absent
  more xs x before h =
      let parts = not_with_key (known_keys xs) (made_known x.op) key (ap (λ (ks : List Key). has_key ks key) (sym (known_keys-snoc xs x)) ∙ h) in
      state_of-snoc p xs x key ∙ ap (λ (s : State). (change p x key s).state) (before parts.0) ∙ unknown_stays p x key parts.1

-- so a key with something is known
pub known-unless : (p : Params) (lines : List Line) (key : Key) → (state_of p lines key ≡ absent → ⊥) → has_key (known_keys lines) key ≡ true
known-unless p lines key h = by_test (has_key (known_keys lines) key) refl where
  by_test : (t : Bool) → has_key (known_keys lines) key ≡ t → has_key (known_keys lines) key ≡ true
  by_test true e = e
  by_test false e = absurd (h (state_of-unknown p lines key e))

-- ---- sums

pub sum_over-append : (f : Key → ℕ) (xs ys : List Key) → sum_over f (xs ++ ys) ≡ sum_over f xs + sum_over f ys
sum_over-append f [] ys = omega arith
sum_over-append f (x ∷ xs) ys = let rest = sum_over-append f xs ys in omega (arith, rest)

pub sum_over-less : (f g : Key → ℕ) (keys : List Key) → ((key : Key) → g key ≤ f key) → sum_over g keys ≤ sum_over f keys
sum_over-less f g [] h = omega arith
sum_over-less f g (k ∷ ks) h = let here = h k in let rest = sum_over-less f g ks h in omega (arith, here, rest)

sum_over-others : (f g : Key → ℕ) (keys : List Key) (key : Key) → has_key keys key ≡ false → ((other : Key) → is_key key other ≡ false → g other ≤ f other) → sum_over g keys ≤ sum_over f keys
sum_over-others f g [] key off h = omega arith
sum_over-others f g (k ∷ ks) key off h =
    let parts = or_parts (is_key k key) (has_key ks key) off in
    let here = h k (is_key-flip k key parts.0) in
    let rest = sum_over-others f g ks key parts.1 h in
    omega (arith, here, rest)

-- where only one key's number rises, the sum rises by no more
pub sum_over-one : (f g : Key → ℕ) (keys : List Key) (key : Key) (b : ℕ) → AreDistinct keys → ((other : Key) → is_key key other ≡ false → g other ≤ f other) → g key ≤ f key + b → sum_over g keys ≤ sum_over f keys + b
sum_over-one f g [] key b d h here = omega arith
sum_over-one f g (k ∷ ks) key b d h here = ⊎_elim
    (λ (same : key ≡ k).
    let rest = sum_over-others f g ks key (ap (has_key ks) same ∙ d.0) h in
    let at = subst (λ (x : Key). g x ≤ f x + b) same here in
    omega (arith, at, rest))
    (λ (off : is_key key k ≡ false). let at = h k off in let rest = sum_over-one f g ks key b d.1 h here in omega (arith, at, rest))
    (key_cases key k)

-- where one key's number falls and no other rises, the sum falls
pub sum_over-lower : (f g : Key → ℕ) (keys : List Key) (key : Key) → AreDistinct keys → has_key keys key ≡ true → ((other : Key) → is_key key other ≡ false → g other ≤ f other) → g key + 1 ≤ f key → sum_over g keys + 1 ≤ sum_over f keys
sum_over-lower f g [] key d there h here = cc
sum_over-lower f g (k ∷ ks) key d there h here = ⊎_elim
    (λ (same : key ≡ k).
    let rest = sum_over-others f g ks key (ap (has_key ks) same ∙ d.0) h in
    let at = subst (λ (x : Key). g x + 1 ≤ f x) same here in
    omega (arith, at, rest))
    (λ (off : is_key key k ≡ false).
    let more : has_key ks key ≡ true = ap (λ (b : Bool). b || has_key ks key) (sym (is_key-flip key k off)) ∙ there in
    let at = h k off in
    let rest = sum_over-lower f g ks key d.1 more h here in
    omega (arith, at, rest))
    (key_cases key k)

-- ---- filters of keys

pub has_key-filter : (test : Key → Bool) (keys : List Key) (key : Key) → has_key (filter test keys) key ≡ true → (has_key keys key ≡ true) × (test key ≡ true)
has_key-filter test [] key h = cc
has_key-filter test (k ∷ ks) key h = by_test (test k) refl h (has_key-filter test ks key) where
  behind : (has_key ks key ≡ true) × (test key ≡ true) → ((is_key k key || has_key ks key) ≡ true) × (test key ≡ true)
  behind r = (grind (arith, r.0), r.1)

  by_test : (t : Bool) → test k ≡ t → has_key (if t then k ∷ filter test ks else filter test ks) key ≡ true → (has_key (filter test ks) key ≡ true → (has_key ks key ≡ true) × (test key ≡ true)) → ((is_key k key || has_key ks key) ≡ true) × (test key ≡ true)
  by_test false e g rest = behind (rest g)
  by_test true e g rest = ⊎_elim
      (λ (here : is_key k key ≡ true). (ap (λ (b : Bool). b || has_key ks key) here, ap test (sym (is_key-one k key here)) ∙ e))
      (λ (more : has_key (filter test ks) key ≡ true). behind (rest more))
      (or_cases (is_key k key) (has_key (filter test ks) key) g)

pub distinct-filter : (test : Key → Bool) (keys : List Key) → AreDistinct keys → AreDistinct (filter test keys)
distinct-filter test [] d = tt
distinct-filter test (k ∷ ks) d = by_test (test k) (distinct-filter test ks d.1) where
  by_test : (t : Bool) → AreDistinct (filter test ks) → AreDistinct (if t then k ∷ filter test ks else filter test ks)
  by_test true rest = (false_from_ne_true (has_key (filter test ks) k) (λ there. false≢true (sym d.0 ∙ (has_key-filter test ks k there).0)), rest)
  by_test false rest = rest
