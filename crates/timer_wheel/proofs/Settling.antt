-- The nodes of one slot go to the slots that they have from another moment on.
use Rattle.std.proofs.Common.{◌≡◌, ◌≢◌, ℕ, suc, ◌/◌, ◌<◌, ◌≤◌, ◌^◌, true, true≢false, eqb, List, [], ◌∷◌, length, slice_get, Option, Some, None, refl, sym, ap, ◌∙◌, subst, ⊎_elim, arith}
use Rattle.std.specs.Option.{option_map, unwrap_or}
use Rattle.std.proofs.lemmas.Bool.{cases_eq, cases_lt, or_left}
use Rattle.std.proofs.lemmas.List.{get_or_past}
use Rattle.std.proofs.lemmas.Bool.{eq-eqb}
use Rattle.std.specs.List.{IsDistinct}
use Rattle.slot_links.specs.Lists.{Linked, has, list_at, holder, without, put_back, take_out, StandOnce}
use Rattle.slot_links.proofs.Members.{list_at_put_other, list_at_out}
use Rattle.slot_links.proofs.Callers.{length-put_back, length-take_out, holder-put_back_itself, holder-put_back_other, holder-take_out_itself, holder-take_out_other, stand-put_back, stand-take_out, without_at, holder_has}
use Rattle.slot_links.proofs.Shows.{some_same, none_some}
use Rattle.timer_wheel.specs.Map.{due_of}
use Rattle.timer_wheel.specs.Places.{slot_of, limit_of}
use Rattle.timer_wheel.specs.Kept.{Keeps}
use Rattle.timer_wheel.proofs.Digits.{slot_stays, slot_falls, slot_within, slot_low, slot_low_is, slot_same}

-- on the way: a node of the slot has it from now on, and every other node stands where it does from the later moment on
pub record Spreads (now to slot : ℕ) (dues : List (Option ℕ)) (slots : Linked) : Type 0 where
  pub many : length slots.lists ≡ 704
  pub few : length dues < 2 ^ 32
  pub nodes : length dues ≤ slots.nodes
  pub once : StandOnce slots
  pub left : (node : ℕ) → holder slots.lists node ≡ Some slot → option_map (slot_of now) (due_of dues node) ≡ Some slot
  pub gone : (node : ℕ) → holder slots.lists node ≢ Some slot → holder slots.lists node ≡ option_map (slot_of to) (due_of dues node)

-- a due that is there
pub due_there : (o : Option ℕ) (f : ℕ → ℕ) (s : ℕ) → option_map f o ≡ Some s → (d : ℕ) × (o ≡ Some d) × (f d ≡ s)
due_there None f s e = absurd (none_some None s refl e)
due_there (Some d) f s e = (d, refl, some_same (Some (f d)) (f d) s refl e)

not_here : (o : Option ℕ) (f g : ℕ → ℕ) (s : ℕ) → option_map f o ≢ Some s → ((d : ℕ) → o ≡ Some d → f d ≢ s → g d ≡ f d) → option_map f o ≡ option_map g o
not_here None f g s apart same = refl
not_here (Some d) f g s apart same = ap (λ (x : ℕ). Some x) (sym (same d refl (λ e. apart (ap (λ (x : ℕ). Some x) e))))

fits_eleven : (d : ℕ) → d < 18446744073709551616 → d < limit_of 10
fits_eleven d h = omega (arith, h)

pub spreads_first : (now to slot : ℕ) (dues : List (Option ℕ)) (slots : Linked) → Keeps now dues slots → now ≤ to → slot ≡ slot_of now to → ((node due : ℕ) → due_of dues node ≡ Some due → to ≤ due) → Spreads now to slot dues slots
spreads_first now to slot dues slots k later is none = record {
  many = k.many;
  few = k.few;
  nodes = k.nodes;
  once = k.once;
  left = λ node here. sym (k.stands node) ∙ here;
  gone = λ node apart. k.stands node ∙ not_here (due_of dues node) (slot_of now) (slot_of to) slot (λ e. apart (k.stands node ∙ e))
      (λ d at ne. slot_stays 10 now to d later (none node d at) (λ e. ne (e ∙ sym is)));
}

no_some : (xs : List ℕ) (node : ℕ) → xs ≡ [] → has node xs ≡ true → ⊥
no_some xs node e h = true≢false (sym h ∙ ap (has node) e)

-- at the end no node is left
pub spreads_last : (now to slot : ℕ) (dues : List (Option ℕ)) (slots : Linked) → Spreads now to slot dues slots → list_at slots.lists slot ≡ [] → ((node due : ℕ) → due_of dues node ≡ Some due → to ≤ due) → ((node due : ℕ) → due_of dues node ≡ Some due → due < 2 ^ 64) → Keeps to dues slots
spreads_last now to slot dues slots s empty none fits = record {
  many = s.many;
  few = s.few;
  nodes = s.nodes;
  once = s.once;
  stands = λ node. s.gone node (λ here. no_some (list_at slots.lists slot) node empty (holder_has slots.lists node slot here).1);
  ahead = none;
  fits = fits;
}

-- one node goes
module _ (now to slot : ℕ) (dues : List (Option ℕ)) (slots : Linked) (node : ℕ) (s : Spreads now to slot dues slots) (later : now ≤ to) (is : slot ≡ slot_of now to) (high : 64 ≤ slot)
    (none : (n d : ℕ) → due_of dues n ≡ Some d → to ≤ d) (fits : (n d : ℕ) → due_of dues n ≡ Some d → d < 2 ^ 64) (front : slice_get (list_at slots.lists slot) 0 ≡ Some node) where
  first_has : (xs : List ℕ) → slice_get xs 0 ≡ Some node → (rest : List ℕ) × (xs ≡ node ∷ rest)
  first_has [] e = absurd (none_some None node refl e)
  first_has (x ∷ xs) e = (xs, ap (λ (y : ℕ). y ∷ xs) (some_same (Some x) x node refl e))

  pub its : (rest : List ℕ) × (list_at slots.lists slot ≡ node ∷ rest)
  its = first_has (list_at slots.lists slot) front

  pub held : (node < slots.nodes) × (holder slots.lists node ≡ Some slot)
  held = s.once.held slot node (ap (has node) its.1 ∙ or_left (eqb node node) (has node its.0) (eq-eqb node node refl))

  pub its_due : (d : ℕ) × (due_of dues node ≡ Some d) × (slot_of now d ≡ slot)
  its_due = due_there (due_of dues node) (slot_of now) slot (s.left node held.1)

  pub its_slot : slot_of to (unwrap_or (due_of dues node) 0) < slot
  its_slot =
      let d = its_due.0 in
      let there = its_due.1 in
      let apart : now / 64 ≢ to / 64 = λ e. (let low = slot_low 9 now to e in omega (arith, is, high, low)) in
      let same : slot_of now d ≡ slot_of now to = its_due.2 ∙ is in
      let falls : slot_of to d < slot_of now to = slot_falls 10 now to d later (none node d there) (fits_eleven d (fits node d there)) apart same in
      let is_d : unwrap_or (due_of dues node) 0 ≡ d = ap (λ (o : Option ℕ). unwrap_or o 0) there in
      let goal : slot_of to (unwrap_or (due_of dues node) 0) ≡ slot_of to d = ap (slot_of to) is_d in
      omega (arith, falls, is, goal)

  abbrev to_slot : ℕ
  to_slot = slot_of to (unwrap_or (due_of dues node) 0)

  abbrev taken : Linked
  taken = record { lists = take_out slots.lists node; nodes = slots.nodes }

  abbrev after : Linked
  after = record { lists = put_back taken.lists to_slot node; nodes = slots.nodes }

  pub there : to_slot < length taken.lists
  there = (let many = length-take_out slots.lists node ∙ s.many in let low = its_slot in let top = slot_within 10 now to in omega (arith, many, low, top, is))

  pub free : holder taken.lists node ≡ None
  free = holder-take_out_itself slots.lists node

  moved : holder after.lists node ≡ Some to_slot
  moved = holder-put_back_itself taken.lists to_slot node there free

  others : (n : ℕ) → n ≢ node → holder after.lists n ≡ holder slots.lists n
  others n ne = holder-put_back_other taken.lists to_slot node there n ne ∙ holder-take_out_other slots.lists node n ne

  pub spreads_on : Spreads now to slot dues after
  spreads_on = record {
    many = length-put_back taken.lists to_slot node there ∙ (length-take_out slots.lists node ∙ s.many);
    few = s.few;
    nodes = s.nodes;
    once = stand-put_back taken to_slot node (stand-take_out slots node s.once) there held.0 free;
    left = λ n here. ⊎_elim
        (λ (e : n ≡ node). absurd (let same = some_same (holder after.lists node) to_slot slot moved (ap (holder after.lists) (sym e) ∙ here) in let low = its_slot in omega (arith, same, low)))
        (λ (ne : n ≢ node). s.left n (sym (others n ne) ∙ here))
        (cases_eq n node);
    gone = λ n apart. ⊎_elim
        (λ (e : n ≡ node). ap (holder after.lists) e ∙ (moved ∙ (ap (λ (d : ℕ). Some (slot_of to d)) (ap (λ (o : Option ℕ). unwrap_or o 0) its_due.1) ∙ sym (ap (λ (m : ℕ). option_map (slot_of to) (due_of dues m)) e ∙ ap (option_map (slot_of to)) its_due.1))))
        (λ (ne : n ≢ node). others n ne ∙ s.gone n (λ here. apart (others n ne ∙ here)))
        (cases_eq n node);
  }

  pub shorter : length (list_at after.lists slot) < length (list_at slots.lists slot)
  shorter =
      let G : List ℕ → Type 0 = IsDistinct eqb in
      let apart : slot ≢ to_slot = λ e. (let low = its_slot in omega (arith, e, low)) in
      let left : list_at after.lists slot ≡ its.0 = list_at_put_other taken.lists to_slot node slot apart ∙ (list_at_out slots.lists node slot ∙ (ap (without node) its.1 ∙ without_at [] its.0 node (subst G its.1 (s.once.once slot)))) in
      let a : length (list_at after.lists slot) ≡ length its.0 = ap length left in
      let b : length (list_at slots.lists slot) ≡ suc (length its.0) = ap length its.1 in
      omega (arith, a, b)

-- what each round of the walk needs and leaves
pub record Goes (now to slot : ℕ) (dues : List (Option ℕ)) (slots next : Linked) (node : ℕ) : Type 0 where
  pub on : Spreads now to slot dues next
  pub shorter : length (list_at next.lists slot) < length (list_at slots.lists slot)

pub is_within : (now to slot : ℕ) (dues : List (Option ℕ)) (slots : Linked) (node : ℕ) → Spreads now to slot dues slots → slice_get (list_at slots.lists slot) 0 ≡ Some node → (node < slots.nodes) × (node < length dues)
is_within now to slot dues slots node s front =
    let first : (xs : List ℕ) → slice_get xs 0 ≡ Some node → has node xs ≡ true = first_of in
    let held = s.once.held slot node (first (list_at slots.lists slot) front) in
    let due = due_there (due_of dues node) (slot_of now) slot (s.left node held.1) in
    (held.0, ⊎_elim (λ l. l) (λ past. absurd (none_some (due_of dues node) due.0 (get_or_past dues node None past) due.1)) (cases_lt node (length dues)))
  where
    first_of : (xs : List ℕ) → slice_get xs 0 ≡ Some node → has node xs ≡ true
    first_of [] e = absurd (none_some None node refl e)
    first_of (x ∷ xs) e = or_left (eqb node x) (has node xs) (eq-eqb node x (sym (some_same (Some x) x node refl e)))

pub goes : (now to slot : ℕ) (dues : List (Option ℕ)) (slots took next : Linked) (node put : ℕ) → Spreads now to slot dues slots → now ≤ to → slot ≡ slot_of now to → 64 ≤ slot
    → ((n d : ℕ) → due_of dues n ≡ Some d → to ≤ d) → ((n d : ℕ) → due_of dues n ≡ Some d → d < 2 ^ 64) → slice_get (list_at slots.lists slot) 0 ≡ Some node
    → took ≡ record { lists = take_out slots.lists node; nodes = slots.nodes } → put ≡ slot_of to (unwrap_or (due_of dues node) 0) → next ≡ record { lists = put_back took.lists put node; nodes = took.nodes } → Goes now to slot dues slots next node
goes now to slot dues slots took next node put s later is high none fits front taken_is put_is next_is =
    let F : Linked → Type 0 = λ x. Goes now to slot dues slots x node in
    let whole = next_is ∙ ap (λ (y : Linked × ℕ). (let made : Linked = record { lists = put_back y.0.lists y.1 node; nodes = y.0.nodes } in made)) (λ i. (taken_is i, put_is i)) in
    subst F (sym whole) (record { on = spreads_on now to slot dues slots node s later is high none fits front; shorter = shorter now to slot dues slots node s later is high none fits front })

-- at the lowest level nothing goes
pub settled_low : (now to : ℕ) (dues : List (Option ℕ)) (slots : Linked) → Keeps now dues slots → slot_of now to < 64 → ((node due : ℕ) → due_of dues node ≡ Some due → to ≤ due) → Keeps to dues slots
settled_low now to dues slots k low none = record {
  many = k.many;
  few = k.few;
  nodes = k.nodes;
  once = k.once;
  stands = λ node. k.stands node ∙ same (due_of dues node);
  ahead = none;
  fits = k.fits;
}
  where
    same : (o : Option ℕ) → option_map (slot_of now) o ≡ option_map (slot_of to) o
    same None = refl
    same (Some d) = ap (λ (x : ℕ). Some x) (sym (slot_same 9 now to d (slot_low_is 9 now to low)))
