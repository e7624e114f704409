-- The keys of some ranks have gone on, the others not yet.
use Rattle.std.proofs.Common.{◌≡◌, ◌≢◌, ⊎_elim, ℕ, ◌+◌, ◌-◌, ◌<◌, ◌≤◌, zero, suc, eqb, Bool, true, false, ◌||◌, if◌then◌else◌, List, [], ◌∷◌, ◌++◌, map, set, take, length, slice_get, Option, Some, None, refl, sym, ap, subst, ◌∙◌, arith, add-one, ne_eqb, eq-eqb}
use Rattle.std.specs.Prelude.{filter}
use Rattle.std.specs.List.{list_any, IsDistinct}
use Rattle.std.specs.Option.{option_map}
use Rattle.std.proofs.lemmas.Bool.{false≢true, cases_eq, eqb-true}
use Rattle.std.proofs.lemmas.Option.{slice_get-map}
use Rattle.std.proofs.lemmas.List.Folds.{list_any-append}
use Rattle.nb_base.specs.declared.key.Key.{Key}
use Rattle.nb_base.specs.declared.params.Params.{Params}
use Rattle.nb_base.specs.declared.op.Op.{Op}
use Rattle.nb_base.specs.declared.op.Op.TheVariants as op
use Rattle.nb_base.specs.declared.line.Line.{Line}
use Rattle.nb_base.specs.declared.line.Reply.{Reply}
use Rattle.nb_base.specs.declared.line.Reply.TheVariants.{Counted}
use Rattle.nud_machine.specs.declared.event.Event.TheVariants as event
use Rattle.nud_machine.specs.State.{State, Stepped, stays}
use Rattle.nb_journal.specs.Keys.{is_key, key_of, place_among, is_own}
use Rattle.nb_journal.specs.Fold.{effect, if_so, is_loose, change, state_of, known_keys, rank_of, is_present, present_count, reply_of}
use Rattle.nb_journal.specs.Lawful.{brings_event}
use Rattle.nb_journal.proofs.Changes.{is_key-same}
use Rattle.nb_journal.proofs.Grows.{is_key-one}
use Rattle.nb_journal.proofs.Counts.{AreDistinct, is_key-flip}
use Rattle.nb_journal.proofs.Folds.{state_of-snoc, present_count-is}
use Rattle.journal_fold.specs.Removing.{removes, reply_to_each}
use Rattle.journal_fold.specs.Present.{HoldsPresent}
use Rattle.journal_fold.proofs.Places.{each_at, place_at, map_but_one, size_one}
use Rattle.journal_fold.proofs.Removed.{removed, removes_present, change_unnamed}
use Rattle.journal_fold.proofs.Replied.{reply_other, reply_show, reply_flush}
use Rattle.journal_fold.proofs.Whole.{same_keys}

-- the ranks that are done have g, the others f
abbrev pub mixed : {X : Type 0} → List ℕ → (Key → ℕ) → (Key → X) → (Key → X) → Key → X
mixed done rank g f key = if list_any (eqb (rank key)) done then g key else f key

-- what stands at a place
place_one : (keys : List Key) (rank : ℕ) (key other : Key) → slice_get keys rank ≡ Some key → place_among keys other ≡ rank → other ≡ key
place_one [] rank key other at e = cc
place_one (k ∷ ks) rank key other at e = by_test (is_key k other) refl rank at e (place_one ks) where
  by_test : (t : Bool) → is_key k other ≡ t → (n : ℕ) → slice_get (k ∷ ks) n ≡ Some key → (if t then 0 else place_among ks other + 1) ≡ n → ((m : ℕ) (x y : Key) → slice_get ks m ≡ Some x → place_among ks y ≡ m → y ≡ x) → other ≡ key
  by_test true same zero here is more = let one : k ≡ key = cc in sym (is_key-one k other same) ∙ one
  by_test true same (suc n) here is more = absurd (omega (arith, is))
  by_test false off zero here is more = absurd (omega (arith, is))
  by_test false off (suc n) here is more = more n key other here (omega (arith, is))

or_none : (b : Bool) → (b || (false || false)) ≡ b
or_none true = refl
or_none false = refl

or_one : (b : Bool) → (b || (true || false)) ≡ true
or_one true = refl
or_one false = refl

one_more : (done : List ℕ) (rank n : ℕ) → list_any (eqb n) (done ++ rank ∷ []) ≡ (list_any (eqb n) done || (eqb n rank || false))
one_more done rank n = list_any-append (eqb n) done (rank ∷ [])

-- one more rank is done
pub mixed_set : {X : Type 0} (done : List ℕ) (keys : List Key) (g f : Key → X) (rank : ℕ) (key : Key) → AreDistinct keys → slice_get keys rank ≡ Some key
    → set (map (mixed done (place_among keys) g f) keys) rank (g key) ≡ map (mixed (done ++ rank ∷ []) (place_among keys) g f) keys
mixed_set done keys g f rank key d at =
    let here = place_at keys rank key d at in
    let mine : mixed (done ++ rank ∷ []) (place_among keys) g f key ≡ g key =
    ap (λ (b : Bool). if b then g key else f key) (one_more done rank (place_among keys key) ∙ ap (λ (b : Bool). list_any (eqb (place_among keys key)) done || (b || false)) (eq-eqb (place_among keys key) rank here) ∙ or_one (list_any (eqb (place_among keys key)) done)) in
    ap (set (map (mixed done (place_among keys) g f) keys) rank) (sym mine)
    ∙ sym (map_but_one (mixed done (place_among keys) g f) (mixed (done ++ rank ∷ []) (place_among keys) g f) keys rank key d at others)
  where
    others : (other : Key) → is_key other key ≡ false → mixed (done ++ rank ∷ []) (place_among keys) g f other ≡ mixed done (place_among keys) g f other
    others other off =
        let apart : place_among keys other ≢ rank = λ e. false≢true (sym off ∙ ap (λ (k : Key). is_key k key) (place_one keys rank key other at e) ∙ is_key-same key) in
        ap (λ (b : Bool). if b then g other else f other) (one_more done rank (place_among keys other) ∙ ap (λ (b : Bool). list_any (eqb (place_among keys other)) done || (b || false)) (ne_eqb (place_among keys other) rank apart) ∙ or_none (list_any (eqb (place_among keys other)) done))

-- a rank that isn't done
pub mixed_at : {X : Type 0} (done : List ℕ) (keys : List Key) (g f : Key → X) (rank : ℕ) (key : Key) → AreDistinct keys → slice_get keys rank ≡ Some key → list_any (eqb rank) done ≡ false
    → slice_get (map (mixed done (place_among keys) g f) keys) rank ≡ Some (f key)
mixed_at done keys g f rank key d at off =
    slice_get-map (mixed done (place_among keys) g f) keys rank
    ∙ ap (option_map (mixed done (place_among keys) g f)) at
    ∙ ap (λ (b : Bool). Some (if b then g key else f key)) (ap (λ (n : ℕ). list_any (eqb n) done) (place_at keys rank key d at) ∙ off)

-- of different ranks none stands among those before it
pub not_before : (ranks : List ℕ) (i rank : ℕ) → IsDistinct eqb ranks → slice_get ranks i ≡ Some rank → list_any (eqb rank) (take i ranks) ≡ false
unfolding IsDistinct
not_before [] i rank d at = cc
not_before (x ∷ xs) zero rank d at = refl
not_before (x ∷ xs) (suc i) rank d at =
    let apart : eqb x rank ≡ false = each_at (λ (y : ℕ). eqb x y ≡ false) xs i rank at d.0 in
    rw (ne_eqb rank x (λ e. false≢true (sym apart ∙ eq-eqb x rank (sym e))), not_before xs i rank d.1 at) refl

-- ---- what a line that names no key leaves

unnamed_state : (p : Params) (past : List Line) (line : Line) (key : Key) → key_of line.op ≡ None → state_of p (past ++ line ∷ []) key ≡ (if removes p line (state_of p past key) then removed (state_of p past key) else stays (state_of p past key)).state
unnamed_state p past line key e = state_of-snoc p past line key ∙ ap (λ (x : Stepped). x.state) (change_unnamed p line key (state_of p past key) e)

-- an absent key stays as it is
absent_same : (p : Params) (past : List Line) (line : Line) (key : Key) → key_of line.op ≡ None → is_present p past key ≡ false → state_of p (past ++ line ∷ []) key ≡ state_of p past key
absent_same p past line key e off = unnamed_state p past line key e ∙ by_test (removes p line (state_of p past key)) refl where
  by_test : (t : Bool) → removes p line (state_of p past key) ≡ t → (if t then removed (state_of p past key) else stays (state_of p past key)).state ≡ state_of p past key
  by_test true on = absurd (false≢true (sym off ∙ removes_present p line (state_of p past key) e on))
  by_test false on = refl

-- so all have gone on once those of the present keys have
pub all_mixed : (p : Params) (past : List Line) (line : Line) (ranks : List ℕ) → key_of line.op ≡ None → HoldsPresent p past ranks
    → map (mixed ranks (rank_of past) (state_of p (past ++ line ∷ [])) (state_of p past)) (known_keys past) ≡ map (state_of p (past ++ line ∷ [])) (known_keys past)
all_mixed p past line ranks e holds = ap (λ (h : Key → State). map h (known_keys past)) (λ i. λ key. each key i) where
  each : (key : Key) → mixed ranks (rank_of past) (state_of p (past ++ line ∷ [])) (state_of p past) key ≡ state_of p (past ++ line ∷ []) key
  each key = by_test (list_any (eqb (rank_of past key)) ranks) refl (is_present p past key) refl where
    by_test : (t : Bool) → list_any (eqb (rank_of past key)) ranks ≡ t → (u : Bool) → is_present p past key ≡ u → (if t then state_of p (past ++ line ∷ []) key else state_of p past key) ≡ state_of p (past ++ line ∷ []) key
    by_test true there u f = refl
    by_test false there false f = sym (absent_same p past line key e f)
    by_test false there true f = absurd (false≢true (sym there ∙ holds.present key f))

-- ---- its reply

count_both : (a b c : Key → Bool) (keys : List Key) → ((key : Key) → (if a key then 1 else 0) + (if b key then 1 else 0) ≡ (if c key then 1 else 0)) → length (filter a keys) + length (filter b keys) ≡ length (filter c keys)
count_both a b c [] h = omega arith
count_both a b c (k ∷ ks) h =
    let x = size_one (a k) k (filter a ks) in
    let y = size_one (b k) k (filter b ks) in
    let z = size_one (c k) k (filter c ks) in
    let here = h k in
    let rest = count_both a b c ks h in
    omega (arith, x, y, z, here, rest)

-- how many are removed and how many are left
abbrev gone_of : Params → Line → List Line → Key → Bool
gone_of p line past key = removes p line (state_of p past key)

splits : (p : Params) (past : List Line) (line : Line) → key_of line.op ≡ None → length (filter (gone_of p line past) (known_keys past)) + present_count p (past ++ line ∷ []) ≡ present_count p past
splits p past line e =
    let both = count_both (gone_of p line past) (is_present p (past ++ line ∷ [])) (is_present p past) (known_keys past) each in
    let before = present_count-is p past in
    let after = present_count-is p (past ++ line ∷ []) ∙ ap (λ (keys : List Key). length (filter (is_present p (past ++ line ∷ [])) keys)) (same_keys past line e) in
    omega (arith, both, before, after)
  where
    each : (key : Key) → (if gone_of p line past key then 1 else 0) + (if is_present p (past ++ line ∷ []) key then 1 else 0) ≡ (if is_present p past key then 1 else 0)
    each key = ap (λ (s : State). (if gone_of p line past key then 1 else 0) + (if s.entry.present then 1 else 0)) (unnamed_state p past line key e) ∙ by_test (removes p line (state_of p past key)) refl where
      by_test : (t : Bool) → removes p line (state_of p past key) ≡ t → (if t then 1 else 0) + (if (if t then removed (state_of p past key) else stays (state_of p past key)).state.entry.present then 1 else 0) ≡ (if is_present p past key then 1 else 0)
      by_test true on = ap (λ (b : Bool). if b then 1 else 0) (sym (removes_present p line (state_of p past key) e on))
      by_test false on = omega arith

pub no_more : (p : Params) (past : List Line) (line : Line) → key_of line.op ≡ None → present_count p (past ++ line ∷ []) ≤ present_count p past
no_more p past line e = let all = splits p past line e in omega (arith, all)

loose_gone : (p : Params) (line : Line) (s : State) → line.op ≡ op.Flush → removes p line s ≡ is_loose s
loose_gone p line s is = ap (λ (o : Op). brings_event (effect p line s o)) is ∙ by_test (is_loose s) where
  by_test : (t : Bool) → brings_event (if_so t event.Remove) ≡ t
  by_test true = refl
  by_test false = refl

pub each_replied : (p : Params) (past : List Line) (line : Line) → key_of line.op ≡ None → reply_to_each line.op (present_count p past) (present_count p (past ++ line ∷ [])) ≡ reply_of p past line
each_replied p past line e = by_op line.op refl e where
  by_op : (o : Op) → line.op ≡ o → key_of o ≡ None → reply_to_each o (present_count p past) (present_count p (past ++ line ∷ [])) ≡ reply_of p past line
  by_op op.Show is n = sym (reply_show p past line is)
  by_op op.Sweep is n = sym (reply_other p past line (ap is_own is))
  by_op op.Flush is n =
      let all = splits p past line e in
      let loose = ap (λ (test : Key → Bool). length (filter test (known_keys past))) (λ i. λ key. loose_gone p line (state_of p past key) is i) in
      ap (λ (count : ℕ). Some (Counted count)) (omega (arith, all, loose)) ∙ sym (reply_flush p past line is)
  by_op (op.Send key len) is n = cc
  by_op (op.Arp key mac make solicited) is n = cc
  by_op (op.Ns key mac) is n = cc
  by_op (op.Na key mac router solicited overrides) is n = cc
  by_op (op.Add key mac nud) is n = cc
  by_op (op.Change key mac nud) is n = cc
  by_op (op.Replace key mac nud) is n = cc
  by_op (op.Del key) is n = cc
  by_op (op.Confirm key) is n = cc
  by_op (op.Timer key) is n = cc
  by_op (op.Collect key) is n = cc
