-- What contracts see of the tokens, before a step and behind it.
use Rattle.std.proofs.Common.{◌≡◌, ℕ, ◌-◌, ◌*◌, ◌/◌, ◌≤◌, Bool, true, false, if◌then◌else◌, List, [], ◌∷◌, ◌++◌, length, map, take, Option, Some, None, IfSome, refl, sym, ap, ◌∙◌, subst, arith, append_assoc, append-nil}
use Rattle.std.specs.Option.{option_map, unwrap_or}
use Rattle.std.specs.Int.{w64, to_be_bytes}
use Rattle.std.specs.List.{All, slice_get}
use Rattle.std.proofs.lemmas.List.{map-append, length-map}
use Rattle.std.proofs.lemmas.List.Elements.{All-nil, All-cons, All-head, All-tail}
use Rattle.std.proofs.lemmas.Option.{slice_get-map}
use Rattle.atomic_table.specs.Seated.{TableId}
use Rattle.nb_base.specs.declared.record.Record.{Record}
use Rattle.nb_base.specs.Words.{AreWords}
use Rattle.nb_base.specs.Usable.{usable_in}
use Rattle.nb_base.proofs.RecordWords.{AreWords-usable, AreWords-header, record_is}
use Rattle.hh_core.specs.declared.reader.ReaderPhase.TheVariants.{Rest, HasB}
use Rattle.hh_core.specs.State.{ReaderState}
use Rattle.hh_core.specs.Step.{is_good, ends_try, tries_once, learns}
use Rattle.hh_core.specs.Safe.{both_numbers}
use Rattle.hh_core.proofs.OneReader.{good_is}
use Rattle.hh_cell.specs.declared.view.View.{View}
use Rattle.hh_cell.specs.declared.view.Reading.{Reading}
use Rattle.hh_cell.specs.Views.{state_of, reading_of, changed, phase_in, reads, first_view, ended}
use Rattle.hh_cell.specs.Kept.{TryTells, LookTells}
use Rattle.hh_cell.specs.Shown.{record_of, known_record, pass_of, writer_of, PassShown, WriterShown, IsFailed, Failed, Reads, AgreesWith}

-- the record that two words spell
pub record_spelled : (p : ℕ × ℕ) (r : Record) → AreWords p.0 p.1 r → record_of p ≡ r
record_spelled p r h = record_is (unwrap_or (usable_in p.1) false) (to_be_bytes w64 p.0 ++ take 6 (to_be_bytes w64 p.1)) r (ap (λ (o : Option Bool). unwrap_or o false) (AreWords-usable p.0 p.1 r h)) (sym (AreWords-header p.0 p.1 r h))

-- the writer of a new cell
pub writer_first : (cell id : TableId) (w : View) (p : ℕ × ℕ) (first : Record) → id ≡ cell → w ≡ first_view p → record_of p ≡ first → (let shown : WriterShown = record { cell = cell; published = first ∷ []; lodged = None } in writer_of id w ≡ shown)
writer_first cell id w p first same is spelled = ap (λ (x : TableId). writer_of x w) same ∙ (ap (λ (v : View). writer_of cell v) is ∙ ap (λ (r : Record). (let shown : WriterShown = record { cell = cell; published = r ∷ []; lodged = None } in shown)) spelled)

-- the writer behind a publication
pub writer_more : (old id : TableId) (v w : View) (p : ℕ × ℕ) (next : Record) (shown : WriterShown) → id ≡ old → w ≡ ended p v → record_of p ≡ next → writer_of old v ≡ shown → writer_of id w ≡ record shown { published = shown.published ++ next ∷ [] }
writer_more old id v w p next shown same is spelled was =
    ap (λ (x : TableId). writer_of x w) same
    ∙ (ap (λ (u : View). writer_of old u) is
    ∙ (ap (λ (xs : List Record). (let s : WriterShown = record (writer_of old v) { published = xs } in s)) (map-append record_of v.published (p ∷ []))
    ∙ (ap (λ (r : Record). (let s : WriterShown = record (writer_of old v) { published = map record_of v.published ++ r ∷ [] } in s)) spelled
    ∙ ap (λ (s : WriterShown). record s { published = s.published ++ next ∷ [] }) was)))

-- the cell of a pass
pub pass_cell : (id : TableId) (o : Option Reading) (pass : PassShown) → pass_of id o ≡ pass → id ≡ pass.cell
pass_cell id None pass e = ap (λ (p : PassShown). p.cell) e
pass_cell id (Some r) pass e = ap (λ (p : PassShown). p.cell) e

-- a known pair as a record
known_all : (published : List (ℕ × ℕ)) (known : List (ℕ × (ℕ × ℕ))) → All (λ (k : ℕ × (ℕ × ℕ)). slice_get published k.0 ≡ Some k.1) known → All (λ (k : ℕ × Record). slice_get (map record_of published) k.0 ≡ Some k.1) (map known_record known)
known_all published [] h = All-nil (λ (k : ℕ × Record). slice_get (map record_of published) k.0 ≡ Some k.1)
known_all published (k ∷ ks) h =
    let P : ℕ × (ℕ × ℕ) → Type 0 = λ q. slice_get published q.0 ≡ Some q.1 in
    All-cons (λ (q : ℕ × Record). slice_get (map record_of published) q.0 ≡ Some q.1) (known_record k) (map known_record ks)
    (slice_get-map record_of published k.0 ∙ ap (option_map record_of) (All-head P k ks h))
    (known_all published ks (All-tail P k ks h))

agrees_by : (cell : TableId) (published : List (ℕ × ℕ)) (o : Option Reading) → option_map (λ (r : Reading). r.phase) o ≡ Some Rest → IfSome o (LookTells published) → AgreesWith (map record_of published) (pass_of cell o)
agrees_by cell published None e h = absurd (let bad = e in cc)
agrees_by cell published (Some r) e h =
    let many = length-map published record_of in
    let L : ℕ → Type 0 = λ n. All (λ k. k ≤ 2 * (n - 1)) (both_numbers r.tries) in
    record { known = known_all published r.known h.known; floor = omega (arith, h.floor, many); tries = subst L (sym many) h.tries }

-- a pass that the writer has looked at
pub agrees_shown : (writer cell : TableId) (v w : View) (shown : WriterShown) (pass : PassShown) → writer_of writer v ≡ shown → pass_of cell w.reader ≡ pass → phase_in w ≡ Some Rest → IfSome w.reader (LookTells v.published) → AgreesWith shown.published pass
agrees_shown writer cell v w shown pass is pass_is rests h =
    let F : List Record → Type 0 = λ xs. AgreesWith xs (pass_of cell w.reader) in
    let G : PassShown → Type 0 = λ p. AgreesWith shown.published p in
    subst G pass_is (subst F (ap (λ (s : WriterShown). s.published) is) (agrees_by cell v.published w.reader rests h))

-- a good try
read_by : (cell : TableId) (o : Option Reading) (n a b m : ℕ) (r : Record) → option_map (λ (q : Reading). q.phase) o ≡ Some Rest → IfSome o (λ (q : Reading). TryTells q.floor q.tries n a b m) → is_good (n, m) ≡ true → record_of (a, b) ≡ r
    → Reads (pass_of cell o) (pass_of cell (option_map (changed (ends_try m (HasB n a b))) o)) [] (n / 2) r
read_by cell None n a b m r e h good spelled = absurd (let bad = e in cc)
read_by cell (Some q) n a b m r e h good spelled =
    let numbers = good_is n m good in
    let twice : 2 * (n / 2) ≡ n = omega (arith, numbers.0) in
    let R : ReaderState → Type 0 = λ x. Reads (pass_of cell (Some q)) (pass_of cell (Some (reading_of q.number x))) [] (n / 2) r in
    let F : Bool → Type 0 = λ t. R (if t then learns (n / 2, (a, b)) (tries_once (n, m) (state_of q)) else tries_once (n, m) (state_of q)) in
    let pair : ◌≡◌ {A = ℕ × ℕ} (n, m) (2 * (n / 2), 2 * (n / 2)) = (let s = sym twice in λ i. (s i, (numbers.1 ∙ s) i)) in
    subst F (sym good) (record {
      cell = refl;
      above = omega (arith, h.numbers.above);
      floor = refl;
      known = map-append known_record q.known ((n / 2, (a, b)) ∷ []) ∙ ap (λ (x : Record). map known_record q.known ++ (n / 2, x) ∷ []) spelled;
      tries = ap (λ (t : ℕ × ℕ). q.tries ++ t ∷ []) pair;
      each = All-nil (IsFailed q.floor);
      few = omega arith;
    })

pub read_once : (old id : TableId) (v w : View) (n a b m : ℕ) (r : Record) (shown : PassShown) → pass_of old v.reader ≡ shown → id ≡ old → w ≡ reads (ends_try m (HasB n a b)) v → phase_in v ≡ Some Rest → IfSome v.reader (λ (q : Reading). TryTells q.floor q.tries n a b m) → is_good (n, m) ≡ true
    → AreWords a b r → Reads shown (pass_of id w.reader) [] (n / 2) r
read_once old id v w n a b m r shown was same is rests h good spelled =
    let F : PassShown → Type 0 = λ p. Reads p (pass_of id w.reader) [] (n / 2) r in
    let G : PassShown → Type 0 = λ p. Reads (pass_of old v.reader) p [] (n / 2) r in
    let now : pass_of id w.reader ≡ pass_of old (option_map (changed (ends_try m (HasB n a b))) v.reader) = ap (λ (x : TableId). pass_of x w.reader) same ∙ ap (λ (u : View). pass_of old u.reader) is in
    subst F was (subst G (sym now) (read_by old v.reader n a b m r rests h good (record_spelled (a, b) r spelled)))

-- a failed try
failed_by : (cell : TableId) (o : Option Reading) (n a b m : ℕ) → option_map (λ (q : Reading). q.phase) o ≡ Some Rest → IfSome o (λ (q : Reading). TryTells q.floor q.tries n a b m) → is_good (n, m) ≡ false
    → Failed (pass_of cell o) (pass_of cell (option_map (changed (ends_try m (HasB n a b))) o)) ((n, m) ∷ [])
failed_by cell None n a b m e h bad = absurd (let none = e in cc)
failed_by cell (Some q) n a b m e h bad =
    let R : ReaderState → Type 0 = λ x. Failed (pass_of cell (Some q)) (pass_of cell (Some (reading_of q.number x))) ((n, m) ∷ []) in
    let F : Bool → Type 0 = λ t. R (if t then learns (n / 2, (a, b)) (tries_once (n, m) (state_of q)) else tries_once (n, m) (state_of q)) in
    subst F (sym bad) (record {
      cell = refl;
      floor = refl;
      known = refl;
      tries = refl;
      each = All-cons (IsFailed q.floor) (n, m) [] (record { bad = bad; above = h.numbers.above; order = h.numbers.order }) (All-nil (IsFailed q.floor));
    })

-- failed tries, and more of them
pub failed_more : (old mid new : PassShown) (xs ys : List (ℕ × ℕ)) → Failed old mid xs → Failed mid new ys → Failed old new (xs ++ ys)
failed_more old mid new xs ys h g =
    let F : ℕ → Type 0 = λ n. All (IsFailed n) ys in
    record {
      cell = g.cell ∙ h.cell;
      floor = g.floor ∙ h.floor;
      known = g.known ∙ h.known;
      tries = g.tries ∙ (ap (λ (ts : List (ℕ × ℕ)). ts ++ ys) h.tries ∙ append_assoc old.seen.tries xs ys);
      each = all_append (IsFailed old.floor) xs ys h.each (subst F h.floor g.each);
    }
  where
    all_append : (P : ℕ × ℕ → Type 0) (xs ys : List (ℕ × ℕ)) → All P xs → All P ys → All P (xs ++ ys)
    all_append P [] ys h g = g
    all_append P (x ∷ xs) ys h g = All-cons P x (xs ++ ys) (All-head P x xs h) (all_append P xs ys (All-tail P x xs h) g)

-- failed tries, and then a good one
pub failed_read : (old mid new : PassShown) (xs : List (ℕ × ℕ)) (n : ℕ) (r : Record) → length xs ≤ 3 → Failed old mid xs → Reads mid new [] n r → Reads old new xs n r
failed_read old mid new xs n r few h g = record {
  cell = g.cell ∙ h.cell;
  above = omega (arith, g.above, h.floor);
  floor = g.floor;
  known = g.known ∙ ap (λ (ks : List (ℕ × Record)). ks ++ (n, r) ∷ []) h.known;
  tries = g.tries ∙ (ap (λ (ts : List (ℕ × ℕ)). ts ++ (2 * n, 2 * n) ∷ []) h.tries ∙ append_assoc old.seen.tries xs ((2 * n, 2 * n) ∷ []));
  each = h.each;
  few = few;
}

-- no try yet
pub failed_none : (old : PassShown) → Failed old old []
failed_none old = record { cell = refl; floor = refl; known = refl; tries = sym (append-nil old.seen.tries); each = All-nil (IsFailed old.floor) }
