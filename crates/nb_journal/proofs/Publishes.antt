-- The records that a cell has published are those of its key's successive states, one line at a time.
use Rattle.std.proofs.Common.{◌≡◌, Bool, true, false, ◌&&◌, not, if◌then◌else◌, List, [], ◌∷◌, ◌++◌, refl, sym, ◌∙◌, ap}
use Rattle.std.specs.Prelude.{map, fold, bytes_eq}
use Rattle.std.proofs.lemmas.Bool.{and_parts}
use Rattle.std.proofs.lemmas.Slice.Eq.{bytes_eq-Decides}
use Rattle.std.proofs.lemmas.List.{map-append}
use Rattle.nb_base.specs.declared.key.Key.{Key}
use Rattle.nb_base.specs.declared.host.Host.{Host}
use Rattle.nb_base.specs.declared.params.Params.{Params}
use Rattle.nb_base.specs.declared.record.Record.{Record}
use Rattle.nb_base.specs.declared.line.Line.{Line}
use Rattle.nud_machine.specs.State.{State, absent}
use Rattle.nud_machine.specs.Record.{record_of, same_record}
use Rattle.nb_journal.specs.Fold.{change, state_of}
use Rattle.nb_journal.specs.Accounts.{states_from, without_repeats, ends_with, with_record, published}
use Rattle.nb_journal.proofs.Folds.{state_of-nil, state_of-snoc}
use Rattle.nb_journal.proofs.Lines.{by_last}

same_usable : (a b : Bool) → (if a then b else not b) ≡ true → a ≡ b
same_usable true true e = refl
same_usable false false e = refl
same_usable true false e = cc
same_usable false true e = cc

-- records that are told alike are one
pub same_record-one : (a b : Record) → same_record a b ≡ true → a ≡ b
same_record-one a b e =
    let parts = and_parts (if a.usable then b.usable else not b.usable) (bytes_eq a.header b.header) e in
    let usable : a.usable ≡ b.usable = same_usable a.usable b.usable parts.0 in
    let header : a.header ≡ b.header = (bytes_eq-Decides a.header b.header).0 parts.1 in
    λ i. record { usable = usable i; header = header i }

pub same_record-self : (a : Record) → same_record a a ≡ true
same_record-self a = by_usable a.usable where
  by_usable : (u : Bool) → ((if u then u else not u) && bytes_eq a.header a.header) ≡ true
  by_usable true = (bytes_eq-Decides a.header a.header).1 refl
  by_usable false = (bytes_eq-Decides a.header a.header).1 refl

some_record : (y : Record) (ys : List Record) → (v : Record) × (vs : List Record) × (without_repeats (y ∷ ys) ≡ v ∷ vs)
some_record y [] = (y, [], refl)
some_record y (z ∷ zs) = by_test (same_record y z) refl (some_record z zs) where
  by_test : (b : Bool) → same_record y z ≡ b → ((v : Record) × (vs : List Record) × (without_repeats (z ∷ zs) ≡ v ∷ vs)) → (v : Record) × (vs : List Record) × ((if b then without_repeats (z ∷ zs) else y ∷ without_repeats (z ∷ zs)) ≡ v ∷ vs)
  by_test true e some = some
  by_test false e some = (y, without_repeats (z ∷ zs), refl)

with_record-behind : (x : Record) (records : List Record) (r : Record) → ((v : Record) × (vs : List Record) × (records ≡ v ∷ vs)) → with_record (x ∷ records) r ≡ x ∷ with_record records r
with_record-behind x records r some = rw some.2 (by_test (ends_with (some.0 ∷ some.1) r)) where
  by_test : (b : Bool) → (if b then x ∷ some.0 ∷ some.1 else (x ∷ some.0 ∷ some.1) ++ r ∷ []) ≡ x ∷ (if b then some.0 ∷ some.1 else (some.0 ∷ some.1) ++ r ∷ [])
  by_test true = refl
  by_test false = refl

without_repeats-snoc : (records : List Record) (r : Record) → without_repeats (records ++ r ∷ []) ≡ with_record (without_repeats records) r
without_repeats-snoc [] r = refl
without_repeats-snoc (x ∷ []) r = by_test (same_record x r) refl where
  by_test : (b : Bool) → same_record x r ≡ b → (if b then r ∷ [] else x ∷ r ∷ []) ≡ (if b then x ∷ [] else x ∷ r ∷ [])
  by_test true e = ap (λ (y : Record). y ∷ []) (sym (same_record-one x r e))
  by_test false e = refl
without_repeats-snoc (x ∷ y ∷ ys) r = by_test (same_record x y) (without_repeats-snoc (y ∷ ys) r) where
  by_test : (b : Bool) → without_repeats (y ∷ ys ++ r ∷ []) ≡ with_record (without_repeats (y ∷ ys)) r → (if b then without_repeats (y ∷ ys ++ r ∷ []) else x ∷ without_repeats (y ∷ ys ++ r ∷ [])) ≡ with_record (if b then without_repeats (y ∷ ys) else x ∷ without_repeats (y ∷ ys)) r
  by_test true rest = rest
  by_test false rest = ap (λ (rs : List Record). x ∷ rs) rest ∙ sym (with_record-behind x (without_repeats (y ∷ ys)) r (some_record y ys))

states_from-snoc : (p : Params) (key : Key) (s : State) (lines : List Line) (l : Line) → states_from p key s (lines ++ l ∷ []) ≡ states_from p key s lines ++ (change p l key (fold (λ t x. (change p x key t).state) s lines)).state ∷ []
states_from-snoc p key s [] l = refl
states_from-snoc p key s (x ∷ xs) l = ap (λ (ss : List State). s ∷ ss) (states_from-snoc p key (change p x key s).state xs l)

states_from-state : (p : Params) (key : Key) (lines : List Line) (l : Line) → states_from p key absent (lines ++ l ∷ []) ≡ states_from p key absent lines ++ (change p l key (state_of p lines key)).state ∷ []
unfolding state_of
states_from-state p key lines l = states_from-snoc p key absent lines l

-- at first a cell has published the record of no entry
pub published-nil : (p : Params) (host : Host) (key : Key) → published p host [] key ≡ record_of absent.entry host key ∷ []
unfolding published
published-nil p host key = refl

-- a line adds its key's record, unless it is the last one again
pub published-snoc : (p : Params) (host : Host) (lines : List Line) (l : Line) (key : Key) → published p host (lines ++ l ∷ []) key ≡ with_record (published p host lines key) (record_of (state_of p (lines ++ l ∷ []) key).entry host key)
unfolding published
published-snoc p host lines l key =
    let record_in : State → Record = λ s. record_of s.entry host key in
    ap (λ (ss : List State). without_repeats (map record_in ss)) (states_from-state p key lines l)
    ∙ ap without_repeats (map-append record_in (states_from p key absent lines) ((change p l key (state_of p lines key)).state ∷ []))
    ∙ without_repeats-snoc (map record_in (states_from p key absent lines)) (record_in (change p l key (state_of p lines key)).state)
    ∙ ap (λ (s : State). with_record (without_repeats (map record_in (states_from p key absent lines))) (record_in s)) (sym (state_of-snoc p lines l key))

ends_with-append : (records : List Record) (r : Record) → ends_with (records ++ r ∷ []) r ≡ true
ends_with-append [] r = same_record-self r
ends_with-append (x ∷ []) r = same_record-self r
ends_with-append (x ∷ y ∷ ys) r = ends_with-append (y ∷ ys) r

with_record-ends : (records : List Record) (r : Record) → ends_with (with_record records r) r ≡ true
with_record-ends records r = by_test (ends_with records r) refl where
  by_test : (b : Bool) → ends_with records r ≡ b → ends_with (if b then records else records ++ r ∷ []) r ≡ true
  by_test true e = e
  by_test false e = ends_with-append records r

-- the last record that was published is the entry's
pub published-last : (p : Params) (host : Host) (lines : List Line) (key : Key) → ends_with (published p host lines key) (record_of (state_of p lines key).entry host key) ≡ true
published-last p host lines key = by_last (λ (xs : List Line). ends_with (published p host xs key) (record_of (state_of p xs key).entry host key) ≡ true)
    (rw (published-nil p host key, state_of-nil p key) (same_record-self (record_of absent.entry host key)))
    (λ xs x h. rw (published-snoc p host xs x key) (with_record-ends (published p host xs key) (record_of (state_of p (xs ++ x ∷ []) key).entry host key)))
    lines
