-- The marks follow the lists.
use Rattle.std.proofs.Common.{◌≡◌, ◌≢◌, ℕ, zero, suc, ◌/◌, ◌%◌, ◌<◌, eqb, true, false, true≢false, List, [], ◌∷◌, ◌++◌, length, Option, Some, None, is_some, slice_get, refl, sym, ap, ◌∙◌, ⊎_elim, arith}
use Rattle.std.specs.Prelude.{replicate, slice_index_or}
use Rattle.std.specs.Option.{MatchOption}
use Rattle.std.specs.Int.{bit_at}
use Rattle.std.proofs.lemmas.Bool.{false_from_ne_true, cases_eq, or_parts}
use Rattle.std.proofs.lemmas.Nat.Bits.{bit_at-zero}
use Rattle.std.proofs.lemmas.List.{length-replicate}
use Rattle.slot_links.specs.Lists.{Linked, has, list_at, holder, without, put_back, take_out, StandOnce}
use Rattle.slot_links.proofs.Members.{list_at_put, list_at_put_other, list_at_out, list_at_first, take_out_none}
use Rattle.slot_links.proofs.Callers.{length-put_back, length-take_out, none_has, holder_has}
use Rattle.slot_links.proofs.Shows.{some_same}
use Rattle.timer_wheel.specs.Marked.{mark_of, Marks, IsFirst}
use Rattle.timer_wheel.specs.Kept.{some_of, AreMarked, IsFirstSlot}

some_push : (xs : List ℕ) (n : ℕ) → some_of (xs ++ n ∷ []) ≡ 1
some_push [] n = refl
some_push (x ∷ xs) n = refl

some_has : (node : ℕ) (xs : List ℕ) → has node xs ≡ true → some_of xs ≡ 1
some_has node [] h = absurd (true≢false (sym h))
some_has node (x ∷ xs) h = refl

some_first : (xs : List ℕ) (x : ℕ) → slice_get xs 0 ≡ Some x → some_of xs ≡ 1
some_first [] x e = absurd (let bad : None ≡ Some x = e in cc)
some_first (y ∷ xs) x e = refl

none_first : (xs : List ℕ) → slice_get xs 0 ≡ None → some_of xs ≡ 0
none_first [] e = refl
none_first (y ∷ xs) e = absurd (let bad : Some y ≡ None = e in cc)

without_none : (node : ℕ) (xs : List ℕ) → has node xs ≡ false → without node xs ≡ xs
without_none node [] h = refl
without_none node (x ∷ xs) h =
    let parts : (eqb node x ≡ false) × (has node xs ≡ false) = or_parts (eqb node x) (has node xs) h in
    rw (parts.0, without_none node xs parts.1) refl

pub none_of : (xs : List ℕ) → some_of xs ≡ 0 → xs ≡ []
none_of [] e = refl
none_of (x ∷ xs) e = absurd (omega arith)

pub none_at : (xs : List ℕ) → slice_get xs 0 ≡ None → xs ≡ []
none_at xs e = none_of xs (none_first xs e)

zeros : (n k : ℕ) → ◌≡◌ {A = ℕ} (slice_index_or (replicate n 0) k 0) 0
zeros zero k = refl
zeros (suc n) zero = refl
zeros (suc n) (suc k) = zeros n k

pub marked_first : AreMarked (replicate 704 []) (replicate 11 0)
marked_first = record {
  slots = length-replicate {A = List ℕ} 704 [];
  marked = λ slot within. ap (λ (w : ℕ). bit_at w (slot % 64)) (zeros 11 (slot / 64)) ∙ (bit_at-zero (slot % 64) ∙ sym (ap some_of (list_at_first 704 slot)));
}

pub put_marked : (lists : List (List ℕ)) (old new : List ℕ) (slot node : ℕ) → AreMarked lists old → slot < 704 → Marks old new slot 1 → AreMarked (put_back lists slot node) new
put_marked lists old new slot node h small m =
    let inside : slot < length lists = (let many = h.slots in omega (arith, small, many)) in
    record {
      slots = length-put_back lists slot node inside ∙ h.slots;
      marked = λ other within. ⊎_elim
          (λ (e : other ≡ slot). ap (mark_of new) e ∙ (m.here ∙ sym (ap some_of (list_at_put lists slot node other inside e) ∙ some_push (list_at lists other) node)))
          (λ (ne : other ≢ slot). m.others other within ne ∙ (h.marked other within ∙ sym (ap some_of (list_at_put_other lists slot node other ne))))
          (cases_eq other slot);
    }

module _ (linked : Linked) (slot node : ℕ) (once : StandOnce linked) (held : holder linked.lists node ≡ Some slot) where
  other_stays : (other : ℕ) → other ≢ slot → list_at (take_out linked.lists node) other ≡ list_at linked.lists other
  other_stays other apart =
      let none : has node (list_at linked.lists other) ≡ false = false_from_ne_true (has node (list_at linked.lists other)) (λ yes. apart (some_same (holder linked.lists node) other slot (once.held other node yes).1 held)) in
      list_at_out linked.lists node other ∙ without_none node (list_at linked.lists other) none

  pub take_marked : (words : List ℕ) (x : ℕ) → AreMarked linked.lists words → slice_get (list_at (take_out linked.lists node) slot) 0 ≡ Some x → AreMarked (take_out linked.lists node) words
  take_marked words x h more = record {
    slots = length-take_out linked.lists node ∙ h.slots;
    marked = λ other within. ⊎_elim
        (λ (e : other ≡ slot).
        let was : some_of (list_at linked.lists slot) ≡ 1 = some_has node (list_at linked.lists slot) (holder_has linked.lists node slot held).1 in
        h.marked other within ∙ (ap (λ (k : ℕ). some_of (list_at linked.lists k)) e ∙ (was ∙ sym (ap (λ (k : ℕ). some_of (list_at (take_out linked.lists node) k)) e ∙ some_first (list_at (take_out linked.lists node) slot) x more))))
        (λ (ne : other ≢ slot). h.marked other within ∙ sym (ap some_of (other_stays other ne)))
        (cases_eq other slot);
  }

  pub take_cleared : (old new : List ℕ) → AreMarked linked.lists old → Marks old new slot 0 → slice_get (list_at (take_out linked.lists node) slot) 0 ≡ None → AreMarked (take_out linked.lists node) new
  take_cleared old new h m empty = record {
    slots = length-take_out linked.lists node ∙ h.slots;
    marked = λ other within. ⊎_elim
        (λ (e : other ≡ slot). ap (mark_of new) e ∙ (m.here ∙ sym (ap (λ (k : ℕ). some_of (list_at (take_out linked.lists node) k)) e ∙ none_first (list_at (take_out linked.lists node) slot) empty)))
        (λ (ne : other ≢ slot). m.others other within ne ∙ (h.marked other within ∙ sym (ap some_of (other_stays other ne))))
        (cases_eq other slot);
  }

pub some_more : (o : Option ℕ) → is_some o ≡ true → (x : ℕ) × (o ≡ Some x)
some_more None h = absurd (true≢false (sym h))
some_more (Some x) h = (x, refl)

pub none_more : (o : Option ℕ) → is_some o ≡ false → o ≡ None
none_more None h = refl
none_more (Some x) h = absurd (true≢false h)

pub first_slot_of : (lists : List (List ℕ)) (words : List ℕ) (r : Option ℕ) → AreMarked lists words → MatchOption r ((slot : ℕ) → slot < 704 → mark_of words slot ≡ 0) (IsFirst words) → MatchOption r ((slot : ℕ) → slot < 704 → list_at lists slot ≡ []) (IsFirstSlot lists)
first_slot_of lists words None h f = λ slot within. none_of (list_at lists slot) (sym (h.marked slot within) ∙ f slot within)
first_slot_of lists words (Some s) h f = record {
  within = f.within;
  here = sym (h.marked s f.within) ∙ f.here;
  none = λ other less. none_of (list_at lists other) (sym (h.marked other (let small = f.within in omega (arith, small, less))) ∙ f.none other less);
}

-- a node that stands nowhere is taken from nowhere
pub take_nothing : (lists : List (List ℕ)) (node : ℕ) → holder lists node ≡ None → take_out lists node ≡ lists
take_nothing lists node none = take_out_none lists node (none_has lists node none)
