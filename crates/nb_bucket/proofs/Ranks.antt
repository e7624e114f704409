-- The order of making by ranks, behind one line more.
use Rattle.std.proofs.Common.{◌≡◌, ◌≢◌, ⊎_elim, ℕ, ◌+◌, ◌<◌, ◌≤◌, eqb, Bool, true, false, ◌||◌, ◌&&◌, not, is_some, if◌then◌else◌, List, [], ◌∷◌, ◌++◌, length, map, get_or, slice_get, Option, Some, None, add-one, refl, sym, ◌∙◌, ap, subst, arith, append-nil, ne_eqb, eq-eqb}
use Rattle.std.specs.Prelude.{filter, IfSome}
use Rattle.std.specs.Option.{option_to_list}
use Rattle.std.specs.List.{AllByRecursion, IsDistinct}
use Rattle.std.proofs.lemmas.Bool.{false≢true, or_parts, or_cases, or_right, eqb-true}
use Rattle.std.proofs.lemmas.List.{length-append, length-map, map-append}
use Rattle.std.proofs.lemmas.List.Folds.{list_any-append}
use Rattle.nb_base.specs.declared.key.Key.{Key}
use Rattle.nb_base.specs.declared.key.Key.TheVariants.{V4}
use Rattle.nb_base.specs.declared.params.Params.{Params}
use Rattle.nb_base.specs.declared.op.Op.{Op}
use Rattle.nb_base.specs.declared.op.Op.TheVariants as op
use Rattle.nb_base.specs.declared.line.Line.{Line}
use Rattle.nud_machine.specs.State.{State, Stepped}
use Rattle.nb_journal.specs.Keys.{is_key, key_of, is_own, made_known, place_among, has_key}
use Rattle.nb_journal.specs.Fold.{effect, state_of, with_key, known_keys, rank_of, is_present}
use Rattle.nb_journal.specs.Lawful.{base_of, brings_event, made_by, making, making_order, collect_line}
use Rattle.nb_journal.specs.Accounts.{timer_line}
use Rattle.nb_journal.proofs.Changes.{is_key-same, change-other}
use Rattle.nb_journal.proofs.Folds.{state_of-nil, state_of-snoc, known_keys-nil, known_keys-snoc, making_order-nil, filter_within}
use Rattle.nb_journal.proofs.Grows.{is_key-one, known_keys-grow, rank_of-stays}
use Rattle.nb_journal.proofs.Counts.{AreDistinct, key_cases, is_key-flip, has_key-snoc, known-unless}
use Rattle.nb_journal.proofs.Orders.{order-is, making-is}
use Rattle.nb_journal.specs.declared.kept.Kept.{Kept}
use Rattle.nb_journal.specs.Steps.{state_in}
use Rattle.std.proofs.lemmas.Option.{slice_get-get_or}
use Rattle.journal_fold.specs.Present.{HoldsPresent}
use Rattle.journal_fold.proofs.Ranks.{as_many, state_at_rank}
use Rattle.journal_fold.proofs.Whole.{same_keys}
use Rattle.slot_links.specs.Lists.{Linked, has, list_at, holder, without, take_out, StandsIn}
use Rattle.slot_links.proofs.Callers.{holder_has}
use Rattle.nb_bucket.specs.Dues.{IsNextTimer}
use Rattle.nb_bucket.specs.Making.{goes_to_each, key_at, present_at, ranks_of, HoldsOrder, dropped, pushed}
use Rattle.nb_bucket.proofs.Appears.{Appears, appears, was_present}
use Rattle.nb_bucket.proofs.Makes.{filter_all, order-snoc, order-removed, order-same}

-- ---- keys and their places

-- a key that is there has its place within the keys, and stands there
pub stands : (keys : List Key) (key d : Key) → has_key keys key ≡ true → (place_among keys key < length keys) × (get_or keys (place_among keys key) d ≡ key)
stands [] key d h = cc
stands (k ∷ ks) key d h = ⊎_elim
    (λ (one : k ≡ key). rw (subst (λ (x : Key). is_key x key ≡ true) (sym one) (is_key-same key)) (omega arith, one))
    (λ (off : is_key k key ≡ false).
    let more : has_key ks key ≡ true = grind arith in
    let rest = stands ks key d more in
    subst (λ (t : Bool). ((if t then 0 else place_among ks key + 1) < length (k ∷ ks)) × (get_or (k ∷ ks) (if t then 0 else place_among ks key + 1) d ≡ key)) (sym off)
    (subst (λ (n : ℕ). (n < length (k ∷ ks)) × (get_or (k ∷ ks) n d ≡ key)) (sym (add-one (place_among ks key))) (omega (arith, rest.0), rest.1)))
    (key_cases k key)

pub rank_small : (lines : List Line) (key : Key) → has_key (known_keys lines) key ≡ true → rank_of lines key < length (known_keys lines)
rank_small lines key h = (stands (known_keys lines) key (V4 0) h).0

pub key_back : (lines : List Line) (key : Key) → has_key (known_keys lines) key ≡ true → key_at lines (rank_of lines key) ≡ key
key_back lines key h = (stands (known_keys lines) key (V4 0) h).1

-- the entry of a rank
pub entry_at : (f : Key → State) (keys : List Key) (kept : List Kept) (rank : ℕ) (one : Kept) → map state_in kept ≡ map f keys → rank < length keys → one ≡ get_or kept rank one → (slice_get kept rank ≡ Some one) × (state_in one ≡ f (get_or keys rank (V4 0)))
entry_at f keys kept rank one e small is =
    let many = as_many f keys kept e in
    let here = slice_get-get_or kept rank one (omega (arith, small, many)) ∙ ap (λ (x : Kept). Some x) (sym is) in
    (here, state_at_rank f keys kept rank (get_or keys rank (V4 0)) one e (slice_get-get_or keys rank (V4 0) small) here)

-- a known key is dropped where its rank is
pub dropped_known : (p : Params) (lines : List Line) (key : Key) (rank : ℕ) (lists : List (List ℕ)) → has_key (known_keys lines) key ≡ true → rank ≡ rank_of lines key → (if present_at p lines rank then lists else take_out lists rank) ≡ dropped p lines (Some key) lists
dropped_known p lines key rank lists known is =
    ap (λ (n : ℕ). if present_at p lines n then lists else take_out lists n) is
    ∙ ap (λ (k : Key). if is_present p lines k then lists else take_out lists (rank_of lines key)) (key_back lines key known)
    ∙ by_test (is_present p lines key)
    ∙ ap (λ (b : Bool). if b && not (is_present p lines key) then take_out lists (rank_of lines key) else lists) (sym known)
  where
    by_test : (t : Bool) → (if t then lists else take_out lists (rank_of lines key)) ≡ (if true && not t then take_out lists (rank_of lines key) else lists)
    by_test true = refl
    by_test false = refl

-- different keys have different ranks
rank_apart : (lines : List Line) (a b : Key) → has_key (known_keys lines) a ≡ true → has_key (known_keys lines) b ≡ true → is_key a b ≡ false → rank_of lines a ≢ rank_of lines b
rank_apart lines a b ha hb off = λ e. false≢true (sym off ∙ ap (λ (k : Key). is_key a k) (sym (key_back lines b hb) ∙ ap (key_at lines) (sym e) ∙ key_back lines a ha) ∙ is_key-same a)

-- ---- lists of keys by their ranks

first : (k : Key) (ks : List Key) → has_key (k ∷ ks) k ≡ true
first k ks = ap (λ (b : Bool). b || has_key ks k) (is_key-same k)

later : (k : Key) (ks : List Key) (key : Key) → has_key ks key ≡ true → has_key (k ∷ ks) key ≡ true
later k ks key there = grind (arith, there)

filter_map : (f : Key → ℕ) (test : ℕ → Bool) (is : Key → Bool) (keys : List Key) → ((key : Key) → has_key keys key ≡ true → test (f key) ≡ is key) → filter test (map f keys) ≡ map f (filter is keys)
filter_map f test is [] h = refl
filter_map f test is (k ∷ ks) h = by_test (is k) (h k (first k ks)) (filter_map f test is ks (λ key there. h key (later k ks key there))) where
  by_test : (t : Bool) → test (f k) ≡ t → filter test (map f ks) ≡ map f (filter is ks) → (if test (f k) then f k ∷ filter test (map f ks) else filter test (map f ks)) ≡ map f (if t then k ∷ filter is ks else filter is ks)
  by_test true e rest = rw e (ap (λ (xs : List ℕ). f k ∷ xs) rest)
  by_test false e rest = rw e rest

map_alike : (f g : Key → ℕ) (keys : List Key) → ((key : Key) → has_key keys key ≡ true → f key ≡ g key) → map f keys ≡ map g keys
map_alike f g [] h = refl
map_alike f g (k ∷ ks) h = let here = h k (first k ks) in let rest = map_alike f g ks (λ key there. h key (later k ks key there)) in cc

-- ranks give their keys back
pub keys_back : (lines : List Line) (keys : List Key) → ((key : Key) → has_key keys key ≡ true → has_key (known_keys lines) key ≡ true) → map (key_at lines) (ranks_of lines keys) ≡ keys
keys_back lines [] h = refl
keys_back lines (k ∷ ks) h = let here = key_back lines k (h k (first k ks)) in let rest = keys_back lines ks (λ key there. h key (later k ks key there)) in cc

all_small : (lines : List Line) (keys : List Key) → ((key : Key) → has_key keys key ≡ true → has_key (known_keys lines) key ≡ true) → AllByRecursion (λ (rank : ℕ). rank < length (known_keys lines)) (ranks_of lines keys)
all_small lines [] h = tt
all_small lines (k ∷ ks) h = (rank_small lines k (h k (first k ks)), all_small lines ks (λ key there. h key (later k ks key there)))

-- a rank stands among those of known keys where its key does
none_has : (lines : List Line) (keys : List Key) (key : Key) → has_key (known_keys lines) key ≡ true → ((other : Key) → has_key keys other ≡ true → has_key (known_keys lines) other ≡ true) → has_key keys key ≡ false → has (rank_of lines key) (ranks_of lines keys) ≡ false
none_has lines [] key known all off = refl
none_has lines (k ∷ ks) key known all off =
    let parts = or_parts (is_key k key) (has_key ks key) off in
    rw (ne_eqb (rank_of lines key) (rank_of lines k) (λ e. rank_apart lines k key (all k (first k ks)) known parts.0 (sym e)), none_has lines ks key known (λ other there. all other (later k ks other there)) parts.1) refl

-- ---- one line more

present_known : (p : Params) (lines : List Line) (key : Key) → is_present p lines key ≡ true → has_key (known_keys lines) key ≡ true
present_known p lines key h = known-unless p lines key (λ e. false≢true (sym (ap (λ (s : State). s.entry.present) e) ∙ h))

-- the keys of the order are known
pub order_known : (p : Params) (lines : List Line) (key : Key) → has_key (making_order p lines) key ≡ true → has_key (known_keys lines) key ≡ true
order_known p lines key there = present_known p lines key ((order-is p lines).present key there)

known_more : (lines more : List Line) (key : Key) → has_key (known_keys lines) key ≡ true → has_key (known_keys (lines ++ more)) key ≡ true
known_more lines more key h =
    let grown = known_keys-grow lines more in
    ap (λ (ks : List Key). has_key ks key) grown.1 ∙ list_any-append (λ (other : Key). is_key other key) (known_keys lines) grown.0 ∙ ap (λ (b : Bool). b || has_key grown.0 key) h

with_one : (keys : List Key) (new : Option Key) → length (with_key keys new) ≤ length keys + 1
with_one keys None = omega arith
with_one keys (Some key) = by_test (has_key keys key) where
  by_test : (t : Bool) → length (if t then keys else keys ++ key ∷ []) ≤ length keys + 1
  by_test true = omega arith
  by_test false = let size = length-append keys (key ∷ []) in omega (arith, size)

-- a line makes at most one key known
pub known_one : (lines : List Line) (l : Line) → length (known_keys (lines ++ l ∷ [])) ≤ length (known_keys lines) + 1
known_one lines l = let size = ap (λ (ks : List Key). length ks) (known_keys-snoc lines l) in let one = with_one (known_keys lines) (made_known l.op) in omega (arith, size, one)

pub known_same : (lines : List Line) (l : Line) → made_known l.op ≡ None → known_keys (lines ++ l ∷ []) ≡ known_keys lines
known_same lines l e = known_keys-snoc lines l ∙ ap (with_key (known_keys lines)) e

-- the order's keys keep their ranks
ranks_stay : (p : Params) (lines : List Line) (l : Line) → ranks_of (lines ++ l ∷ []) (making_order p lines) ≡ ranks_of lines (making_order p lines)
ranks_stay p lines l = map_alike (rank_of (lines ++ l ∷ [])) (rank_of lines) (making_order p lines) (λ key there. rank_of-stays lines (l ∷ []) key (order_known p lines key there))

-- those of its ranks that pass a test of their keys
those : (p : Params) (lines : List Line) (l : Line) (test : ℕ → Bool) → ((key : Key) → has_key (making_order p lines) key ≡ true → test (rank_of (lines ++ l ∷ []) key) ≡ is_present p (lines ++ l ∷ []) key)
    → filter test (ranks_of lines (making_order p lines)) ≡ ranks_of (lines ++ l ∷ []) (filter (is_present p (lines ++ l ∷ [])) (making_order p lines))
those p lines l test h = ap (filter test) (sym (ranks_stay p lines l)) ∙ filter_map (rank_of (lines ++ l ∷ [])) test (is_present p (lines ++ l ∷ [])) (making_order p lines) h

-- ---- lines that go to each key

making-unnamed : (p : Params) (base : List Line) (l : Line) → key_of l.op ≡ None → making p base l ≡ None
making-unnamed p base l e = ap (made_by p base l) e

none_made : (full : Option ℕ) (made : Option Key) → made ≡ None → [] ≡ (if is_some full then [] else option_to_list made)
none_made (Some n) made e = refl
none_made None made e = rw e refl

order-unnamed : (p : Params) (lines : List Line) (l : Line) → key_of l.op ≡ None → making_order p (lines ++ l ∷ []) ≡ filter (is_present p (lines ++ l ∷ [])) (making_order p lines)
order-unnamed p lines l e =
    order-snoc p lines l [] (none_made l.full (making p (base_of lines) l) (making-unnamed p (base_of lines) l e)) ∙ append-nil (filter (is_present p (lines ++ l ∷ [])) (making_order p lines))

-- the order's ranks are those of known keys, also behind the line
each_small : (p : Params) (lines : List Line) (l : Line) → AllByRecursion (λ (rank : ℕ). rank < length (known_keys (lines ++ l ∷ []))) (ranks_of lines (making_order p lines))
each_small p lines l =
    subst (λ (ranks : List ℕ). AllByRecursion (λ (rank : ℕ). rank < length (known_keys (lines ++ l ∷ []))) ranks) (ranks_stay p lines l)
    (all_small (lines ++ l ∷ []) (making_order p lines) (λ key there. known_more lines (l ∷ []) key (order_known p lines key there)))

filter_has : (test : Key → Bool) (keys : List Key) (key : Key) → has_key keys key ≡ true → test key ≡ true → has_key (filter test keys) key ≡ true
filter_has test [] key there on = cc
filter_has test (k ∷ ks) key there on = ⊎_elim
    (λ (same : k ≡ key). rw (ap test same ∙ on) (ap (λ (x : Key). is_key x key || has_key (filter test ks) key) same ∙ ap (λ (b : Bool). b || has_key (filter test ks) key) (is_key-same key)))
    (λ (off : is_key k key ≡ false).
    let rest = filter_has test ks key (ap (λ (b : Bool). b || has_key ks key) (sym off) ∙ there) on in
    by_test (test k) rest)
    (key_cases k key)
  where
    by_test : (t : Bool) → has_key (filter test ks) key ≡ true → has_key (if t then k ∷ filter test ks else filter test ks) key ≡ true
    by_test true rest = later k (filter test ks) key rest
    by_test false rest = rest

-- a key that stays present stays in the order
still_there : (p : Params) (lines : List Line) (l : Line) (key : Key) (order : Linked) → HoldsOrder p lines order → is_present p (lines ++ l ∷ []) key ≡ true → is_present p lines key ≡ true
    → has_key (filter (is_present p (lines ++ l ∷ [])) (making_order p lines)) key ≡ true
still_there p lines l key order h on was = filter_has (is_present p (lines ++ l ∷ [])) (making_order p lines) key (h.all key was) on

unnamed : (o : Op) → key_of o ≡ None → (is_own o && is_some (key_of o)) ≡ false
unnamed o e = ap (λ (k : Option Key). is_own o && is_some k) e ∙ and_false (is_own o) where
  and_false : (b : Bool) → (b && false) ≡ false
  and_false true = refl
  and_false false = refl

pub list_small : (p : Params) (lines : List Line) (l : Line) (order : Linked) → HoldsOrder p lines order → AllByRecursion (λ (rank : ℕ). rank < length (known_keys (lines ++ l ∷ []))) (list_at order.lists 0)
list_small p lines l order h =
    subst (λ (lists : List (List ℕ)). AllByRecursion (λ (rank : ℕ). rank < length (known_keys (lines ++ l ∷ []))) (list_at lists 0)) (sym h.list) (each_small p lines l)

pub holds-each : (p : Params) (lines : List Line) (l : Line) (old new : Linked) → key_of l.op ≡ None → HoldsOrder p lines old → new.lists ≡ filter (present_at p (lines ++ l ∷ [])) (list_at old.lists 0) ∷ [] → new.nodes ≡ old.nodes
    → HoldsOrder p (lines ++ l ∷ []) new
holds-each p lines l old new e h lists nodes =
    let after = lines ++ l ∷ [] in
    record {
      list = lists
          ∙ ap (λ (lists : List (List ℕ)). filter (present_at p after) (list_at lists 0) ∷ []) h.list
          ∙ ap (λ (xs : List ℕ). xs ∷ [])
          (those p lines l (present_at p after) (λ key there. ap (is_present p after) (key_back after key (known_more lines (l ∷ []) key (order_known p lines key there))))
          ∙ ap (ranks_of after) (sym (order-unnamed p lines l e)));
      all = λ key on. ap (λ (keys : List Key). has_key keys key) (order-unnamed p lines l e) ∙ still_there p lines l key old h on (was_present p lines l key (unnamed l.op e) on);
      nodes = let size = ap (λ (ks : List Key). length ks) (same_keys lines l e) in let small = h.nodes in omega (arith, size, small, nodes);
    }

-- ---- lines that go to one key

-- another key's entry is present as before
present-other : (p : Params) (lines : List Line) (l : Line) (named key : Key) → key_of l.op ≡ Some named → is_key named key ≡ false → is_present p (lines ++ l ∷ []) key ≡ is_present p lines key
present-other p lines l named key e off =
    ap (λ (s : State). s.entry.present) (state_of-snoc p lines l key ∙ ap (λ (t : Stepped). t.state) (change-other p l named key (state_of p lines key) e off))

-- a line that names no key goes to each
pub unnamed_each : (o : Op) → key_of o ≡ None → goes_to_each o ≡ true
unnamed_each op.Show e = refl
unnamed_each op.Flush e = refl
unnamed_each op.Sweep e = refl
unnamed_each _ e = cc

-- what is left of the order's list behind the line
pub left-named : (p : Params) (lines : List Line) (l : Line) (old : Linked) → goes_to_each l.op ≡ false → HoldsOrder p lines old
    → dropped p (lines ++ l ∷ []) (key_of l.op) old.lists ≡ ranks_of (lines ++ l ∷ []) (filter (is_present p (lines ++ l ∷ [])) (making_order p lines)) ∷ []
left-named p lines l old one h = ap (dropped p after (key_of l.op)) h.list ∙ by_key (key_of l.op) refl where
  after : List Line
  after = lines ++ l ∷ []

  order : List Key
  order = making_order p lines

  known : (key : Key) → has_key order key ≡ true → has_key (known_keys after) key ≡ true
  known key there = known_more lines (l ∷ []) key (order_known p lines key there)

  all_stay : ((key : Key) → has_key order key ≡ true → is_present p after key ≡ true) → ranks_of lines order ∷ [] ≡ ranks_of after (filter (is_present p after) order) ∷ []
  all_stay stay = ap (λ (xs : List ℕ). xs ∷ []) (sym (ranks_stay p lines l) ∙ ap (ranks_of after) (sym (filter_all (is_present p after) order stay)))

  by_key : (o : Option Key) → key_of l.op ≡ o → dropped p after o (ranks_of lines order ∷ []) ≡ ranks_of after (filter (is_present p after) order) ∷ []
  by_key None e = absurd (false≢true (sym one ∙ unnamed_each l.op e))
  by_key (Some named) e = by_test (has_key (known_keys after) named) refl (is_present p after named) refl where
    present : (key : Key) → has_key order key ≡ true → is_key named key ≡ false → is_present p after key ≡ true
    present key there off = present-other p lines l named key e off ∙ (order-is p lines).present key there

    gone : has_key (known_keys after) named ≡ true → is_present p after named ≡ false → (key : Key) → has_key order key ≡ true → not (eqb (rank_of after named) (rank_of after key)) ≡ is_present p after key
    gone there absent_now key among = ⊎_elim
        (λ (same : named ≡ key). rw (eq-eqb (rank_of after named) (rank_of after key) (ap (rank_of after) same)) (sym absent_now ∙ ap (is_present p after) same))
        (λ (off : is_key named key ≡ false). rw (ne_eqb (rank_of after named) (rank_of after key) (rank_apart after named key there (known key among) off)) (sym (present key among off)))
        (key_cases named key)

    stays : is_present p after named ≡ true → (key : Key) → has_key order key ≡ true → is_present p after key ≡ true
    stays now key among = ⊎_elim (λ (same : named ≡ key). ap (is_present p after) (sym same) ∙ now) (λ (off : is_key named key ≡ false). present key among off) (key_cases named key)

    by_test : (t : Bool) → has_key (known_keys after) named ≡ t → (u : Bool) → is_present p after named ≡ u
        → (if t && not u then without (rank_of after named) (ranks_of lines order) ∷ [] else ranks_of lines order ∷ []) ≡ ranks_of after (filter (is_present p after) order) ∷ []
    by_test true there false off = ap (λ (xs : List ℕ). xs ∷ []) (those p lines l (λ rank. not (eqb (rank_of after named) rank)) (gone there off))
    by_test true there true now = all_stay (stays now)
    by_test false unknown true now = all_stay (stays now)
    by_test false unknown false off = all_stay (λ key among. ⊎_elim
        (λ (same : named ≡ key). absurd (false≢true (sym unknown ∙ ap (has_key (known_keys after)) same ∙ known key among)))
        (λ (apart : is_key named key ≡ false). present key among apart)
        (key_cases named key))

-- ---- a made key

last_apart : (keys : List Key) (key : Key) → AreDistinct (keys ++ key ∷ []) → has_key keys key ≡ false
last_apart [] key d = refl
last_apart (k ∷ ks) key d =
    let parts = or_parts (has_key ks k) (is_key key k || false) (sym (has_key-snoc ks key k) ∙ d.0) in
    let off = is_key-flip key k (or_parts (is_key key k) false parts.1).0 in
    rw (off, last_apart ks key d.1) refl

to_list : (full : Option ℕ) (made : Option Key) → option_to_list (if is_some full then None else made) ≡ (if is_some full then [] else option_to_list made)
to_list (Some n) made = refl
to_list None made = refl

-- the order behind an operation's line, which makes this key
order-made : (p : Params) (lines : List Line) (l : Line) (made : Option Key) → made ≡ (if is_some l.full then None else making p (base_of lines) l)
    → making_order p (lines ++ l ∷ []) ≡ filter (is_present p (lines ++ l ∷ [])) (making_order p lines) ++ option_to_list made
order-made p lines l made is = order-snoc p lines l (option_to_list made) (ap (λ (o : Option Key). option_to_list o) is ∙ to_list l.full (making p (base_of lines) l))

-- the key is known, and isn't in the list
pub made-fresh : (p : Params) (lines : List Line) (keys : List Key) (key : Key) (lists : List (List ℕ)) → making_order p lines ≡ keys ++ key ∷ [] → lists ≡ ranks_of lines keys ∷ [] → (has_key (known_keys lines) key ≡ true) × (holder lists (rank_of lines key) ≡ None)
made-fresh p lines keys key lists e is =
    let order = order-is p lines in
    let known : (other : Key) → has_key (keys ++ key ∷ []) other ≡ true → has_key (known_keys lines) other ≡ true = λ other there. order_known p lines other (ap (λ (ks : List Key). has_key ks other) e ∙ there) in
    let mine : has_key (known_keys lines) key ≡ true = known key (has_key-snoc keys key key ∙ rw (is_key-same key) (or_true (has_key keys key))) in
    let off = last_apart keys key (subst AreDistinct e order.distinct) in
    let none = none_has lines keys key mine (λ other there. known other (has_key-snoc keys key other ∙ ap (λ (b : Bool). b || (is_key key other || false)) there)) off in
    (mine, rw (is, none) refl)
  where
    or_true : (b : Bool) → (b || true) ≡ true
    or_true true = refl
    or_true false = refl

-- each made key is known, and isn't in the list
pub made-ready : (p : Params) (lines : List Line) (l : Line) (made : Option Key) (old : Linked) (lists : List (List ℕ)) → goes_to_each l.op ≡ false → HoldsOrder p lines old → made ≡ (if is_some l.full then None else making p (base_of lines) l)
    → lists ≡ dropped p (lines ++ l ∷ []) (key_of l.op) old.lists → IfSome made (λ key. has_key (known_keys (lines ++ l ∷ [])) key ≡ true) × IfSome made (λ key. holder lists (rank_of (lines ++ l ∷ []) key) ≡ None)
made-ready p lines l None old lists one h is dropped_is = (tt, tt)
made-ready p lines l (Some key) old lists one h is dropped_is =
    made-fresh p (lines ++ l ∷ []) (filter (is_present p (lines ++ l ∷ [])) (making_order p lines)) key lists (order-made p lines l (Some key) is) (dropped_is ∙ left-named p lines l old one h)

-- ---- how many

abbrev others : Key → List Key → List Key
others key keys = filter (λ (other : Key). not (is_key other key)) keys

fewer : (keys : List Key) (key : Key) → has_key keys key ≡ true → length (others key keys) + 1 ≤ length keys
fewer [] key h = cc
fewer (k ∷ ks) key h = by_test (is_key k key) refl (fewer ks key) where
  by_test : (t : Bool) → is_key k key ≡ t → (has_key ks key ≡ true → length (others key ks) + 1 ≤ length ks) → length (if not t then k ∷ others key ks else others key ks) + 1 ≤ length (k ∷ ks)
  by_test true e more = let within : length (others key ks) ≤ length ks = filter_within (λ (other : Key). not (is_key other key)) ks in omega (arith, within)
  by_test false e more = let rest = more (grind arith) in omega (arith, rest)

among_others : (keys : List Key) (key other : Key) → has_key keys other ≡ true → is_key other key ≡ false → has_key (others key keys) other ≡ true
among_others [] key other h off = cc
among_others (k ∷ ks) key other h off = by_test (is_key k key) refl (λ there. among_others ks key other there off) where
  by_test : (t : Bool) → is_key k key ≡ t → (has_key ks other ≡ true → has_key (others key ks) other ≡ true) → has_key (if not t then k ∷ others key ks else others key ks) other ≡ true
  by_test false e more = ⊎_elim
      (λ (same : k ≡ other). ap (λ (x : Key). is_key x other || has_key (others key ks) other) same ∙ ap (λ (b : Bool). b || has_key (others key ks) other) (is_key-same other))
      (λ (apart : is_key k other ≡ false). let rest = more (grind arith) in later k (others key ks) other rest)
      (key_cases k other)
  by_test true e more = ⊎_elim
      (λ (same : k ≡ other). absurd (false≢true (sym off ∙ ap (λ (x : Key). is_key x key) (sym same) ∙ e)))
      (λ (apart : is_key k other ≡ false). more (grind arith))
      (key_cases k other)

few_among : (xs keys : List Key) → AreDistinct xs → ((key : Key) → has_key xs key ≡ true → has_key keys key ≡ true) → length xs ≤ length keys
few_among [] keys d h = omega arith
few_among (x ∷ xs) keys d h =
    let less = fewer keys x (h x (first x xs)) in
    let rest = few_among xs (others x keys) d.1 (λ key there. among_others keys x key (h key (later x xs key there)) (apart key there)) in
    omega (arith, less, rest)
  where
    apart : (key : Key) → has_key xs key ≡ true → is_key key x ≡ false
    apart key there = ⊎_elim (λ (same : key ≡ x). absurd (false≢true (sym d.0 ∙ ap (has_key xs) (sym same) ∙ there))) (λ (off : is_key key x ≡ false). off) (key_cases key x)

-- the order has no more keys than are known
pub order_few : (p : Params) (lines : List Line) → length (making_order p lines) ≤ length (known_keys lines)
order_few p lines = few_among (making_order p lines) (known_keys lines) (order-is p lines).distinct (order_known p lines)

few_ranks : (p : Params) (lines : List Line) (order : Linked) → HoldsOrder p lines order → length (ranks_of lines (making_order p lines)) ≤ order.nodes
few_ranks p lines order h =
    let few = order_few p lines in
    let size = length-map (making_order p lines) (rank_of lines) in
    let small = h.nodes in
    omega (arith, few, size, small)

-- the order is the one list
pub alone : (p : Params) (lines : List Line) (order : Linked) → HoldsOrder p lines order → order.lists ≡ list_at order.lists 0 ∷ []
alone p lines order h = h.list ∙ ap (λ (lists : List (List ℕ)). list_at lists 0 ∷ []) (sym h.list)

pub list_few : (p : Params) (lines : List Line) (order : Linked) → HoldsOrder p lines order → length (list_at order.lists 0) ≤ order.nodes
list_few p lines order h = subst (λ (lists : List (List ℕ)). length (list_at lists 0) ≤ order.nodes) (sym h.list) (few_ranks p lines order h)

-- its ranks give the order of making back
pub list_back : (p : Params) (lines : List Line) (order : Linked) → HoldsOrder p lines order → map (key_at lines) (list_at order.lists 0) ≡ making_order p lines
list_back p lines order h = ap (λ (lists : List (List ℕ)). map (key_at lines) (list_at lists 0)) h.list ∙ keys_back lines (making_order p lines) (order_known p lines)

pub each_has : (P : ℕ → Type 0) (xs : List ℕ) (x : ℕ) → AllByRecursion P xs → has x xs ≡ true → P x
each_has P [] x h there = cc
each_has P (y ∷ ys) x h there = ⊎_elim (λ (same : eqb x y ≡ true). subst P (sym (eqb-true x y same)) h.0) (λ (more : has x ys ≡ true). each_has P ys x h.1 more) (or_cases (eqb x y) (has x ys) there)

-- each is that of a known key
pub rank_known : (p : Params) (lines : List Line) (order : Linked) (rank : ℕ) → HoldsOrder p lines order → StandsIn order (Some 0) rank → rank < length (known_keys lines)
rank_known p lines order rank h here =
    each_has (λ (r : ℕ). r < length (known_keys lines)) (ranks_of lines (making_order p lines)) rank (all_small lines (making_order p lines) (order_known p lines))
    (ap (λ (lists : List (List ℕ)). has rank (list_at lists 0)) (sym h.list) ∙ (holder_has order.lists rank 0 here.held).1)

has_rank : (lines : List Line) (keys : List Key) (key : Key) → has_key keys key ≡ true → has (rank_of lines key) (ranks_of lines keys) ≡ true
has_rank lines [] key there = cc
has_rank lines (k ∷ ks) key there = ⊎_elim
    (λ (same : is_key k key ≡ true). ap (λ (b : Bool). b || has (rank_of lines key) (ranks_of lines ks)) (eq-eqb (rank_of lines key) (rank_of lines k) (ap (rank_of lines) (sym (is_key-one k key same)))))
    (λ (more : has_key ks key ≡ true). or_right (eqb (rank_of lines key) (rank_of lines k)) (has (rank_of lines key) (ranks_of lines ks)) (has_rank lines ks key more))
    (or_cases (is_key k key) (has_key ks key) there)

-- its ranks are those of the present keys
pub holds_present : (p : Params) (lines : List Line) (order : Linked) (ranks : List ℕ) → HoldsOrder p lines order → ranks ≡ list_at order.lists 0 → IsDistinct eqb ranks → HoldsPresent p lines ranks
holds_present p lines order ranks h is once =
    let whole : ranks ≡ ranks_of lines (making_order p lines) = is ∙ ap (λ (lists : List (List ℕ)). list_at lists 0) h.list in
    record {
      known = subst (λ (xs : List ℕ). AllByRecursion (λ (rank : ℕ). rank < length (known_keys lines)) xs) (sym whole) (all_small lines (making_order p lines) (order_known p lines));
      once = once;
      present = λ key on. ap (has (rank_of lines key)) whole ∙ has_rank lines (making_order p lines) key (h.all key on);
    }

-- ---- what a bucket's lines leave

pub holds-nil : (p : Params) (order : Linked) → order.lists ≡ [] ∷ [] → HoldsOrder p [] order
holds-nil p order e = record { all = λ key on. absurd (false≢true (ap (λ (s : State). s.entry.present) (sym (state_of-nil p key)) ∙ on)); list = e ∙ ap (λ (keys : List Key). ranks_of [] keys ∷ []) (sym (making_order-nil p)); nodes = rw known_keys-nil (omega arith) }

pub holds-timer : (p : Params) (lines : List Line) (at : ℕ) (key : Key) (order : Linked) → HoldsOrder p lines order → HoldsOrder p (lines ++ timer_line at key ∷ []) order
holds-timer p lines at key order h =
    let l = timer_line at key in
    record {
      list = h.list ∙ ap (λ (xs : List ℕ). xs ∷ []) (sym (ranks_stay p lines l) ∙ ap (ranks_of (lines ++ l ∷ [])) (sym (order-same p lines l refl refl)));
      all = λ k on. ap (λ (keys : List Key). has_key keys k) (order-same p lines l refl refl) ∙ h.all k (was_present p lines l k refl on);
      nodes = subst (λ (keys : List Key). length keys ≤ order.nodes) (sym (known_same lines l refl)) h.nodes;
    }

pub holds-next_timer : (p : Params) (lines : List Line) (line : Line) (order : Linked) → IsNextTimer p lines line → HoldsOrder p lines order → HoldsOrder p (lines ++ line ∷ []) order
holds-next_timer p lines line order t h = subst (λ (l : Line). HoldsOrder p (lines ++ l ∷ []) order) (sym t.line_is) (holds-timer p lines line.at t.key order h)

-- with further nodes
pub holds-more : (p : Params) (lines : List Line) (old new : Linked) → HoldsOrder p lines old → new.lists ≡ old.lists → old.nodes ≤ new.nodes → HoldsOrder p lines new
holds-more p lines old new h lists more = record { list = lists ∙ h.list; all = h.all; nodes = let small = h.nodes in omega (arith, small, more) }

pub holds-collect : (p : Params) (lines : List Line) (at : ℕ) (key : Key) (old new : Linked) → HoldsOrder p lines old → new.lists ≡ dropped p (lines ++ collect_line at key ∷ []) (Some key) old.lists → new.nodes ≡ old.nodes → HoldsOrder p (lines ++ collect_line at key ∷ []) new
holds-collect p lines at key old new h lists nodes =
    let l = collect_line at key in
    record {
      list = lists ∙ left-named p lines l old refl h ∙ ap (λ (keys : List Key). ranks_of (lines ++ l ∷ []) keys ∷ []) (sym (order-removed p lines l refl));
      all = λ k on. ap (λ (keys : List Key). has_key keys k) (order-removed p lines l refl) ∙ still_there p lines l k old h on (was_present p lines l k refl on);
      nodes = let size = ap (λ (ks : List Key). length ks) (known_same lines l refl) in let small = h.nodes in omega (arith, size, small, nodes);
    }

own_each : (o : Op) → is_own o ≡ true → goes_to_each o ≡ true → key_of o ≡ None
own_each op.Show own each = refl
own_each op.Flush own each = refl
own_each op.Sweep own each = cc
own_each _ own each = cc

-- an operation that goes to each key names none
pub each_unnamed : (l : Line) → is_own l.op ≡ true → goes_to_each l.op ≡ true → key_of l.op ≡ None
each_unnamed l own each = own_each l.op own each

-- a key that becomes present is made
made_now : (p : Params) (lines : List Line) (l : Line) (key : Key) → Appears p lines l key → is_present p lines key ≡ false → (making p (base_of lines) l ≡ None → base_of lines ≡ lines)
    → (if is_some l.full then None else making p (base_of lines) l) ≡ Some key
made_now p lines l key a off bare = ap (λ (full : Option ℕ). if is_some full then None else making p (base_of lines) l) a.full ∙ by_made (making p (base_of lines) l) refl where
  here : making p lines l ≡ Some key
  here = ap (made_by p lines l) a.names ∙ ap (λ (b : Bool). if b then Some key else None)
      (ap (λ (b : Bool). b && not (is_present p lines key) && brings_event (effect p l (state_of p lines key) l.op)) a.own ∙ ap (λ (b : Bool). not b && brings_event (effect p l (state_of p lines key) l.op)) off ∙ a.brings)

  by_made : (o : Option Key) → making p (base_of lines) l ≡ o → o ≡ Some key
  by_made None e = sym e ∙ ap (λ (base : List Line). making p base l) (bare e) ∙ here
  by_made (Some k) e = sym (making-is p (base_of lines) l k e).names ∙ a.names

-- behind an operation's line, which makes this key
pub holds-made : (p : Params) (lines : List Line) (l : Line) (made : Option Key) (old mid new : Linked) → goes_to_each l.op ≡ false → HoldsOrder p lines old → length (known_keys lines) < old.nodes
    → made ≡ (if is_some l.full then None else making p (base_of lines) l) → (making p (base_of lines) l ≡ None → base_of lines ≡ lines)
    → mid.lists ≡ dropped p (lines ++ l ∷ []) (key_of l.op) old.lists → new.lists ≡ pushed (lines ++ l ∷ []) made mid.lists → new.nodes ≡ old.nodes → HoldsOrder p (lines ++ l ∷ []) new
holds-made p lines l made old mid new one h room is bare dropped_is pushed_is nodes = record {
  list = pushed_is ∙ ap (pushed after made) (dropped_is ∙ left-named p lines l old one h) ∙ by_made made ∙ ap (λ (keys : List Key). ranks_of after keys ∷ []) (sym (order-made p lines l made is));
  all = λ key on. ap (λ (keys : List Key). has_key keys key) (order-made p lines l made is) ∙ list_any-append (λ (other : Key). is_key other key) kept (option_to_list made) ∙ by_present key on (is_present p lines key) refl;
  nodes = let few = known_one lines l in omega (arith, few, room, nodes);
} where
  after : List Line
  after = lines ++ l ∷ []

  kept : List Key
  kept = filter (is_present p after) (making_order p lines)

  by_made : (o : Option Key) → pushed after o (ranks_of after kept ∷ []) ≡ ranks_of after (kept ++ option_to_list o) ∷ []
  by_made None = ap (λ (keys : List Key). ranks_of after keys ∷ []) (sym (append-nil kept))
  by_made (Some key) = ap (λ (xs : List ℕ). xs ∷ []) (sym (map-append (rank_of after) kept (key ∷ [])))

  or_true : (b c : Bool) → c ≡ true → (b || c) ≡ true
  or_true true c e = refl
  or_true false c e = e

  by_present : (key : Key) → is_present p after key ≡ true → (t : Bool) → is_present p lines key ≡ t → (has_key kept key || has_key (option_to_list made) key) ≡ true
  by_present key on true was = ap (λ (b : Bool). b || has_key (option_to_list made) key) (still_there p lines l key old h on was)
  by_present key on false off = or_true (has_key kept key) (has_key (option_to_list made) key)
      (ap (λ (o : Option Key). has_key (option_to_list o) key) (is ∙ made_now p lines l key (appears p lines l key off on) off bare) ∙ ap (λ (b : Bool). b || false) (is_key-same key))
