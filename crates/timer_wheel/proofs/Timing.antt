-- The map and the slots, as nodes are armed and cancelled.
use Rattle.std.proofs.Common.{◌≡◌, ◌≢◌, ℕ, zero, suc, ◌+◌, ◌<◌, ◌≤◌, ◌^◌, List, [], ◌∷◌, ◌++◌, length, Option, Some, None, is_some, refl, sym, ap, ◌∙◌, subst, ⊎_elim, arith}
use Rattle.std.specs.Prelude.{replicate, slice_set}
use Rattle.std.specs.Option.{option_map}
use Rattle.std.proofs.lemmas.Bool.{cases_eq}
use Rattle.std.proofs.lemmas.List.{get_or-set_same, get_or-set_other, length-set, length-replicate, length-append}
use Rattle.slot_links.specs.Lists.{Linked, has, holder, put_back, take_out, StandOnce}
use Rattle.slot_links.proofs.Members.{holder_none, list_at_first}
use Rattle.slot_links.proofs.Callers.{length-put_back, length-take_out, holder-put_back_itself, holder-put_back_other, holder-take_out_itself, holder-take_out_other, stand-put_back, stand-take_out, stand-more}
use Rattle.slot_links.proofs.Shows.{some_same, none_some}
use Rattle.timer_wheel.specs.Map.{due_of}
use Rattle.timer_wheel.specs.Places.{slot_of}
use Rattle.timer_wheel.specs.Kept.{Keeps}

pub due_set : (dues : List (Option ℕ)) (node : ℕ) (v : Option ℕ) → node < length dues → due_of (slice_set dues node v) node ≡ v
due_set dues node v small = get_or-set_same dues node v None small

pub due_set_other : (dues : List (Option ℕ)) (node n : ℕ) (v : Option ℕ) → n ≢ node → due_of (slice_set dues node v) n ≡ due_of dues n
due_set_other dues node n v apart = get_or-set_other dues node n v None apart

-- nothing is armed at first
pub keeps_first : (slots : Linked) → slots ≡ record { lists = replicate 704 []; nodes = 0 } → StandOnce slots → Keeps 0 [] slots
keeps_first slots e once = record {
  many = ap (λ (s : Linked). length s.lists) e ∙ length-replicate {A = List ℕ} 704 [];
  few = omega arith;
  nodes = omega arith;
  once = once;
  stands = λ node. ap (λ (s : Linked). holder s.lists node) e ∙ holder_none (replicate 704 []) node (λ k. ap (has node) (list_at_first 704 k));
  ahead = λ node due h. absurd (none_some (due_of [] node) due refl h);
  fits = λ node due h. absurd (none_some (due_of [] node) due refl h);
}

module _ (now : ℕ) (dues : List (Option ℕ)) (slots : Linked) (node : ℕ) (k : Keeps now dues slots) (small : node < length dues) where
  abbrev taken : Linked
  taken = record { lists = take_out slots.lists node; nodes = slots.nodes }

  inside : node < slots.nodes
  inside = (let more = k.nodes in omega (arith, small, more))

  pub cancelled : Keeps now (slice_set dues node None) taken
  cancelled = record {
    many = length-take_out slots.lists node ∙ k.many;
    few = (let few = k.few in let same = length-set dues node None in omega (arith, few, same));
    nodes = (let more = k.nodes in let same = length-set dues node None in omega (arith, more, same));
    once = stand-take_out slots node k.once;
    stands = λ n. ⊎_elim
        (λ (e : n ≡ node). ap (holder (take_out slots.lists node)) e ∙ (holder-take_out_itself slots.lists node ∙ sym (ap (λ (m : ℕ). option_map (slot_of now) (due_of (slice_set dues node None) m)) e ∙ ap (option_map (slot_of now)) (due_set dues node None small))))
        (λ (ne : n ≢ node). holder-take_out_other slots.lists node n ne ∙ (k.stands n ∙ sym (ap (option_map (slot_of now)) (due_set_other dues node n None ne))))
        (cases_eq n node);
    ahead = λ n due h. ⊎_elim
        (λ (e : n ≡ node). absurd (none_some (due_of (slice_set dues node None) node) due (due_set dues node None small) (ap (due_of (slice_set dues node None)) (sym e) ∙ h)))
        (λ (ne : n ≢ node). k.ahead n due (sym (due_set_other dues node n None ne) ∙ h))
        (cases_eq n node);
    fits = λ n due h. ⊎_elim
        (λ (e : n ≡ node). absurd (none_some (due_of (slice_set dues node None) node) due (due_set dues node None small) (ap (due_of (slice_set dues node None)) (sym e) ∙ h)))
        (λ (ne : n ≢ node). k.fits n due (sym (due_set_other dues node n None ne) ∙ h))
        (cases_eq n node);
  }

  pub armed : (due slot : ℕ) → now ≤ due → due < 2 ^ 64 → slot ≡ slot_of now due → slot < 704 → Keeps now (slice_set dues node (Some due)) (record { lists = put_back taken.lists slot node; nodes = slots.nodes })
  armed due slot later fits is within =
      let there : slot < length taken.lists = (let many = length-take_out slots.lists node ∙ k.many in omega (arith, many, within)) in
      let none : holder taken.lists node ≡ None = holder-take_out_itself slots.lists node in
      record {
        many = length-put_back taken.lists slot node there ∙ (length-take_out slots.lists node ∙ k.many);
        few = (let few = k.few in let same = length-set dues node (Some due) in omega (arith, few, same));
        nodes = (let more = k.nodes in let same = length-set dues node (Some due) in omega (arith, more, same));
        once = stand-put_back taken slot node (stand-take_out slots node k.once) there inside none;
        stands = λ n. ⊎_elim
            (λ (e : n ≡ node). ap (holder (put_back taken.lists slot node)) e ∙ (holder-put_back_itself taken.lists slot node there none ∙ (ap (λ (s : ℕ). Some s) is
            ∙ sym (ap (λ (m : ℕ). option_map (slot_of now) (due_of (slice_set dues node (Some due)) m)) e ∙ ap (option_map (slot_of now)) (due_set dues node (Some due) small)))))
            (λ (ne : n ≢ node). holder-put_back_other taken.lists slot node there n ne ∙ (holder-take_out_other slots.lists node n ne ∙ (k.stands n ∙ sym (ap (option_map (slot_of now)) (due_set_other dues node n (Some due) ne)))))
            (cases_eq n node);
        ahead = λ n d h. ⊎_elim
            (λ (e : n ≡ node). subst (λ (x : ℕ). now ≤ x) (some_same (due_of (slice_set dues node (Some due)) node) due d (due_set dues node (Some due) small) (ap (due_of (slice_set dues node (Some due))) (sym e) ∙ h)) later)
            (λ (ne : n ≢ node). k.ahead n d (sym (due_set_other dues node n (Some due) ne) ∙ h))
            (cases_eq n node);
        fits = λ n d h. ⊎_elim
            (λ (e : n ≡ node). subst (λ (x : ℕ). x < 2 ^ 64) (some_same (due_of (slice_set dues node (Some due)) node) due d (due_set dues node (Some due) small) (ap (due_of (slice_set dues node (Some due))) (sym e) ∙ h)) fits)
            (λ (ne : n ≢ node). k.fits n d (sym (due_set_other dues node n (Some due) ne) ∙ h))
            (cases_eq n node);
      }

-- a node stands somewhere exactly where it is armed
pub was_armed : (now : ℕ) (dues : List (Option ℕ)) (slots : Linked) (node : ℕ) → Keeps now dues slots → is_some (holder slots.lists node) ≡ is_some (due_of dues node)
was_armed now dues slots node k = ap is_some (k.stands node) ∙ same (due_of dues node)
  where
    same : (o : Option ℕ) → is_some (option_map (slot_of now) o) ≡ is_some o
    same None = refl
    same (Some x) = refl

-- ---- further nodes

none_more : (k n : ℕ) → due_of (replicate k None) n ≡ None
none_more zero n = refl
none_more (suc k) zero = refl
none_more (suc k) (suc n) = none_more k n

pub due_more : (dues : List (Option ℕ)) (k n : ℕ) → due_of (dues ++ replicate k None) n ≡ due_of dues n
due_more [] k n = none_more k n
due_more (d ∷ dues) k zero = refl
due_more (d ∷ dues) k (suc n) = due_more dues k n

-- none of them is armed
pub usable : (now : ℕ) (dues new : List (Option ℕ)) (k : ℕ) (slots after : Linked) → Keeps now dues slots → new ≡ dues ++ replicate k None → after.lists ≡ slots.lists → slots.nodes ≤ after.nodes → length dues + k ≤ after.nodes → length dues + k < 2 ^ 32 → Keeps now new after
usable now dues new k slots after keeps is same grows within few =
    let long : length new ≡ length dues + k = ap length is ∙ (length-append dues (replicate k None) ∙ ap (λ (n : ℕ). length dues + n) (length-replicate {A = Option ℕ} k None)) in
    let due : (n : ℕ) → due_of new n ≡ due_of dues n = λ n. ap (λ (ds : List (Option ℕ)). due_of ds n) is ∙ due_more dues k n in
    let whole : StandOnce (record { lists = slots.lists; nodes = after.nodes }) = stand-more slots after.nodes keeps.once grows in
    let F : List (List ℕ) → Type 0 = λ ls. StandOnce (record { lists = ls; nodes = after.nodes }) in
    record {
      many = ap length same ∙ keeps.many;
      few = omega (arith, long, few);
      nodes = omega (arith, long, within);
      once = subst F (sym same) whole;
      stands = λ n. ap (λ (ls : List (List ℕ)). holder ls n) same ∙ (keeps.stands n ∙ sym (ap (option_map (slot_of now)) (due n)));
      ahead = λ n d h. keeps.ahead n d (sym (due n) ∙ h);
      fits = λ n d h. keeps.fits n d (sym (due n) ∙ h);
    }
