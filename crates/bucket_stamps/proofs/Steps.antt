-- Each kind of step keeps the rule.
use Rattle.std.proofs.Common.{◌≡◌, ◌≢◌, ℕ, zero, suc, ◌+◌, ◌<◌, Bool, true, List, [], ◌∷◌, ◌++◌, set, length, Option, Some, None, IfSome, refl, sym, ap, ◌∙◌, subst, ⊎_elim, arith}
use Rattle.std.specs.Option.{option_map}
use mathlib.Core.Option.{some, some-injective, some-ne-none}
use mathlib.Core.Logic.{dite}
use native.Mathlib.Decide.{ℕ_discrete}
use lib.ListN.{get_elem?}
use Rattle.std.proofs.lemmas.Option.{same_Some}
use Rattle.atomic_table.specs.Seated.{TableId}
use Rattle.atomic_table.specs.Table.{Allows, Splits, Joins, State as Table, Me, keeps}
use Rattle.atomic_table.proofs.Lists.{at_set, at_last, set_again}
use Rattle.nb_base.specs.declared.key.Key.{Key}
use Rattle.nb_base.specs.declared.time.OpId.{OpId}
use Rattle.nb_base.specs.declared.line.Line.{Line}
use Rattle.bucket_stamps.specs.declared.view.History.{History}
use Rattle.bucket_stamps.specs.declared.view.Part.{Part}
use Rattle.bucket_stamps.specs.declared.view.View.{View}
use Rattle.nb_base.specs.Ids.{participant_of}
use Rattle.bucket_stamps.specs.Own.{own_pairs}
use Rattle.bucket_stamps.specs.Views.{first_view, empty_history, newcomer, token_of, spent, one_more, comes_in, takes_in, who_stays, who_goes, met, writes, with_line, with_turn, owns, turned, participant_in}
use Rattle.bucket_stamps.specs.Kept.{Kept, Shows, StandsAt, AgreesWith, LookTells, IsThere}
use Rattle.bucket_stamps.proofs.Lists.{off, at_snoc_place, set_there, if_some_is, if_some_more, none_some, moved, moved_here, moved_else}
use Rattle.bucket_stamps.proofs.Owning.{grows_line, agrees_line, grows_turn, agrees_met}
use Rattle.bucket_stamps.proofs.Seats.{each_set, there_set, there_else, there_more, my_mark, my_participant, stamper_step}

-- ---- a new stamp word

pub opens : Kept (first_view ∷ [])
opens = record {
  history = empty_history;
  participants = 0;
  desk = 0;
  seat_of = λ p. 0;
  there = λ p below. absurd (omega (arith, below));
  shown = first_shown;
}
  where
    first_shown : (at : ℕ) (v : View) → get_elem? (first_view ∷ []) at ≡ some v → Shows empty_history 0 0 (λ p. 0) at v
    first_shown zero v e =
        let mine : Shows empty_history 0 0 (λ p. 0) 0 first_view = record { stamping = λ e. record { seat = refl; history_is = refl; count = refl }; part = tt } in
        subst (Shows empty_history 0 0 (λ p. 0) 0) (some-injective first_view v e) mine
    first_shown (suc at) v e = absurd (some-ne-none v (sym e))

-- ---- a line and a turn

owned_by : (o : Option OpId) (v : View) (m : Part) → v.part ≡ Some m → IfSome o (λ (id : OpId). participant_in v ≡ Some (participant_of id)) → IfSome o (λ (id : OpId). Some m.participant ≡ Some (participant_of id))
owned_by o v m is h = if_some_more (λ (id : OpId). participant_in v ≡ Some (participant_of id)) (λ (id : OpId). Some m.participant ≡ Some (participant_of id)) o (λ id _ e. sym (my_participant v m is) ∙ e) h

pub writes_keep : (views : List View) (k : Kept views) (id : ℕ) (v : View) (m : Part) (l : Line) (cells : List (Key × TableId)) → get_elem? views id ≡ some v → v.stamper ≡ true → v.part ≡ Some m
    → IfSome l.id (λ (id : OpId). participant_in v ≡ Some (participant_of id)) → Kept (set views id (writes l cells v))
writes_keep views k id v m l cells here is has own =
    stamper_step views k id v (writes l cells v) m (owns l (length v.history.lines) m) (with_line l cells v.history) here is has refl refl (ap (option_map (owns l (length v.history.lines))) has)
    (grows_line l cells v.history m (owned_by l.id v m has own)) refl (agrees_line l cells v.history m)

pub turns_keep : (views : List View) (k : Kept views) (id : ℕ) (v : View) (m : Part) (at : ℕ) (ok : Bool) → get_elem? views id ≡ some v → v.stamper ≡ true → v.part ≡ Some m → Kept (set views id (turned at ok v))
turns_keep views k id v m at ok here is has =
    let history : History = with_turn at ok (Some m) v.history in
    stamper_step views k id v (turned at ok v) m (met history m) history here is has refl (ap (λ (o : Option Part). with_turn at ok o v.history) has) (ap (λ (o : Option Part). option_map (met (with_turn at ok o v.history)) o) has) (grows_turn at ok v.history m) refl
    (λ (h : AgreesWith v.history m). agrees_met history m h.pairs)

-- ---- a stamp is lodged

pub lodges_keep : (views : List View) (k : Kept views) (id : ℕ) (v : View) (other : ℕ) (w : View) (m : Part) → v.part ≡ None → w.part ≡ Some m → get_elem? views id ≡ some v → ¬ (other ≡ id) → get_elem? (set views id (takes_in v w)) other ≡ some w
    → Kept (set (set views id (takes_in v w)) other spent)
lodges_keep views k id v other w m free is here apart there =
    let seats : ℕ → ℕ = moved k.seat_of m.participant id in
    let next : List View = set views id (takes_in v w) in
    let theirs : get_elem? views other ≡ some w = ⊎_elim (λ (t : (other ≡ id) × (takes_in v w ≡ w)). absurd (apart t.0)) (λ (t : (other ≢ id) × (get_elem? views other ≡ some w)). t.1) (at_set views id other (takes_in v w) w there) in
    let its = my_mark views k other w m theirs is in
    let mine = k.shown id v here in
    let P : ℕ → View → Type 0 = λ j u. j ≢ other → Shows k.history k.participants k.desk seats j u in
    let others : (j : ℕ) (u : View) → get_elem? next j ≡ some u → P j u = each_set P views id (takes_in v w)
    (λ j u _ at ne.
    let its_own = k.shown j u at in
    record {
      stamping = its_own.stamping;
      part = if_some_more (StandsAt k.history k.participants k.seat_of j) (StandsAt k.history k.participants seats j) u.part (λ q _ h. record { seat = moved_else k.seat_of m.participant id q.participant (λ same. ne (sym h.seat ∙ (ap k.seat_of same ∙ its.seat))) ∙ h.seat; below = h.below; agrees = h.agrees }) its_own.part;
    })
    (λ ne. record {
      stamping = λ e. let d = mine.stamping e in record { seat = d.seat; history_is = d.history_is; count = d.count };
      part = if_some_is (StandsAt k.history k.participants seats id) w.part m is (record { seat = moved_here k.seat_of m.participant id; below = its.below; agrees = its.agrees });
    }) in
    record {
      history = k.history;
      participants = k.participants;
      desk = k.desk;
      seat_of = seats;
      there = λ p below. dite (ℕ_discrete p m.participant)
          (λ (e : p ≡ m.participant).
          let at : seats p ≡ id = ap seats e ∙ moved_here k.seat_of m.participant id in
          let stands : IsThere next id p = record { v = takes_in v w; here = set_there views id v (takes_in v w) here; is = my_participant w m is ∙ ap (λ (q : ℕ). Some q) (sym e) } in
          subst (λ (s : ℕ). IsThere (set next other spent) s p) (sym at) (there_else next other spent id p (λ same. apart (sym same)) stands))
          (λ (ne : p ≢ m.participant).
          let t = k.there p below in
          let at : seats p ≡ k.seat_of p = moved_else k.seat_of m.participant id p ne in
          let not_other : k.seat_of p ≢ other = λ same. ne (sym (same_Some m.participant p (sym (my_participant w m is) ∙ (ap participant_in (some-injective w t.v (sym theirs ∙ (ap (λ (s : ℕ). get_elem? views s) (sym same) ∙ t.here))) ∙ t.is)))) in
          let not_id : k.seat_of p ≢ id = λ same. none_some (participant_in t.v) p (ap participant_in (some-injective t.v v (sym t.here ∙ (ap (λ (s : ℕ). get_elem? views s) same ∙ here))) ∙ ap (option_map (λ (x : Part). x.participant)) free) t.is in
          subst (λ (s : ℕ). IsThere (set next other spent) s p) (sym at) (there_else next other spent (k.seat_of p) p not_other (there_else views id (takes_in v w) (k.seat_of p) p not_id t)));
      shown = each_set (Shows k.history k.participants k.desk seats) next other spent (λ j u ne at. others j u at ne) (record { stamping = λ e. absurd (off e); part = tt });
    }

-- what the stamper sees of the stamp that it took in
pub look_tells : (views : List View) (k : Kept views) (id : ℕ) (v : View) → get_elem? views id ≡ some v → v.stamper ≡ true → IfSome v.part (LookTells v)
look_tells views k id v here is =
    let mine = k.shown id v here in
    let my = mine.stamping is in
    if_some_more (StandsAt k.history k.participants k.seat_of id) (LookTells v) v.part (λ m _ h. record { below = subst (λ (n : ℕ). m.participant < n) (sym my.count) h.below; agrees = subst (λ (x : History). AgreesWith x m) (sym my.history_is) h.agrees }) mine.part

-- ---- a stamp is handed out again

leaves_as : (views : List View) (k : Kept views) (id : ℕ) (v : View) (m : Part) → get_elem? views id ≡ some v → v.stamper ≡ true → v.part ≡ Some m → Kept (set views id (who_stays v) ++ token_of (met v.history m) ∷ [])
leaves_as views k id v m here is has =
    let mine = k.shown id v here in
    let my = mine.stamping is in
    let its = my_mark views k id v m here has in
    let left : List View = set views id (who_stays v) in
    let right : View = token_of (met v.history m) in
    let new : ℕ = length left in
    let seats : ℕ → ℕ = moved k.seat_of m.participant new in
    let old : (j : ℕ) (u : View) → get_elem? left j ≡ some u → Shows k.history k.participants k.desk seats j u = each_set (Shows k.history k.participants k.desk seats) views id (who_stays v)
    (λ j u other there.
    let theirs = k.shown j u there in
    record {
      stamping = theirs.stamping;
      part = if_some_more (StandsAt k.history k.participants k.seat_of j) (StandsAt k.history k.participants seats j) u.part (λ q _ h. record { seat = moved_else k.seat_of m.participant new q.participant (λ same. other (sym h.seat ∙ (ap k.seat_of same ∙ its.seat))) ∙ h.seat; below = h.below; agrees = h.agrees }) theirs.part;
    })
    (record { stamping = λ e. record { seat = my.seat; history_is = my.history_is; count = my.count }; part = tt }) in
    let F : History → Type 0 = λ x. AgreesWith x (met v.history m) in
    let G : History → Type 0 = λ x. m.pairs ≡ own_pairs m.participant x.lines in
    record {
      history = k.history;
      participants = k.participants;
      desk = k.desk;
      seat_of = seats;
      there = λ p below. dite (ℕ_discrete p m.participant)
          (λ (e : p ≡ m.participant).
          let at : seats p ≡ new = ap seats e ∙ moved_here k.seat_of m.participant new in
          subst (λ (s : ℕ). IsThere (left ++ right ∷ []) s p) (sym at) (record { v = right; here = at_last left right new refl; is = ap (λ (q : ℕ). Some q) (sym e) }))
          (λ (ne : p ≢ m.participant).
          let t = k.there p below in
          let at : seats p ≡ k.seat_of p = moved_else k.seat_of m.participant new p ne in
          let not_id : k.seat_of p ≢ id = λ same. ne (sym (same_Some m.participant p (sym (my_participant v m has) ∙ (ap participant_in (some-injective v t.v (sym here ∙ (ap (λ (s : ℕ). get_elem? views s) (sym same) ∙ t.here))) ∙ t.is)))) in
          subst (λ (s : ℕ). IsThere (left ++ right ∷ []) s p) (sym at) (there_more left right (k.seat_of p) p (there_else views id (who_stays v) (k.seat_of p) p not_id t)));
      shown = λ j u e. ⊎_elim
          (λ was. old j u was)
          (λ (t : (j ≡ new) × (right ≡ u)). subst (λ (y : ℕ × View). Shows k.history k.participants k.desk seats y.0 y.1) (λ i. (sym t.0 i, t.1 i))
          (record { stamping = λ e. absurd (off e); part = record { seat = moved_here k.seat_of m.participant new; below = its.below; agrees = subst F my.history_is (agrees_met v.history m (subst G (sym my.history_is) its.agrees.pairs)) } }))
          (at_snoc_place left right u j e);
    }

pub leaves_keep : (views : List View) (k : Kept views) (id : ℕ) (v : View) (m : Part) → get_elem? views id ≡ some v → v.stamper ≡ true → v.part ≡ Some m → Kept (set views id (who_stays v) ++ who_goes v ∷ [])
leaves_keep views k id v m here is has =
    let F : Option Part → Type 0 = λ o. Kept (set views id (who_stays v) ++ (record spent { part = option_map (met v.history) o }) ∷ []) in
    subst F (sym has) (leaves_as views k id v m here is has)

-- ---- one more participant

pub hands_out_keep : (views : List View) (k : Kept views) (id : ℕ) (v : View) → get_elem? views id ≡ some v → v.stamper ≡ true → v.history ≡ empty_history → Kept (set views id (one_more v) ++ comes_in v ∷ [])
hands_out_keep views k id v here is empty =
    let mine = k.shown id v here in
    let my = mine.stamping is in
    let m : Part = newcomer v.participants in
    let left : List View = set views id (one_more v) in
    let right : View = comes_in v in
    let new : ℕ = length left in
    let count : ℕ = k.participants + 1 in
    let seats : ℕ → ℕ = moved k.seat_of v.participants new in
    let weaker : (j : ℕ) (q : Part) → StandsAt k.history k.participants k.seat_of j q → StandsAt k.history count seats j q =
    λ j q h. record { seat = moved_else k.seat_of v.participants new q.participant (λ same. let b = h.below in omega (arith, b, same, my.count)) ∙ h.seat; below = (let b = h.below in omega (arith, b)); agrees = h.agrees } in
    let old : (j : ℕ) (u : View) → get_elem? left j ≡ some u → Shows k.history count k.desk seats j u = each_set (Shows k.history count k.desk seats) views id (one_more v)
    (λ j u other there.
    let theirs = k.shown j u there in
    record {
      stamping = λ e. let d = theirs.stamping e in absurd (other (d.seat ∙ sym my.seat));
      part = if_some_more (StandsAt k.history k.participants k.seat_of j) (StandsAt k.history count seats j) u.part (λ q _ h. weaker j q h) theirs.part;
    })
    (record {
      stamping = λ e. record { seat = my.seat; history_is = my.history_is; count = ap (λ (n : ℕ). n + 1) my.count };
      part = if_some_more (StandsAt k.history k.participants k.seat_of id) (StandsAt k.history count seats id) v.part (λ q _ h. weaker id q h) mine.part;
    }) in
    let F : History → Type 0 = λ x. AgreesWith x m in
    let agrees : AgreesWith k.history m = subst F (sym empty ∙ my.history_is) (agrees_met empty_history m refl) in
    record {
      history = k.history;
      participants = count;
      desk = k.desk;
      seat_of = seats;
      there = λ p below. dite (ℕ_discrete p v.participants)
          (λ (e : p ≡ v.participants).
          let at : seats p ≡ new = ap seats e ∙ moved_here k.seat_of v.participants new in
          subst (λ (s : ℕ). IsThere (left ++ right ∷ []) s p) (sym at) (record { v = right; here = at_last left right new refl; is = ap (λ (q : ℕ). Some q) (sym e) }))
          (λ (ne : p ≢ v.participants).
          let t = k.there p (omega (arith, below, ne, my.count)) in
          let at : seats p ≡ k.seat_of p = moved_else k.seat_of v.participants new p ne in
          subst (λ (s : ℕ). IsThere (left ++ right ∷ []) s p) (sym at) (there_more left right (k.seat_of p) p (there_set views id v (one_more v) here refl (k.seat_of p) p t)));
      shown = λ j u e. ⊎_elim
          (λ was. old j u was)
          (λ (t : (j ≡ new) × (right ≡ u)). subst (λ (y : ℕ × View). Shows k.history count k.desk seats y.0 y.1) (λ i. (sym t.0 i, t.1 i))
          (record { stamping = λ e. absurd (off e); part = record { seat = moved_here k.seat_of v.participants new; below = omega (arith, my.count); agrees = agrees } }))
          (at_snoc_place left right u j e);
    }

-- ---- the table's form of these

pub writes_allowed : (slots id stored : ℕ) (me : Me (Unit {0}) View) (m : Part) (l : Line) (cells : List (Key × TableId)) → me.0.stamper ≡ true → me.0.part ≡ Some m → IfSome l.id (λ (i : OpId). participant_in me.0 ≡ Some (participant_of i))
    → Allows (λ (s : Table (Unit {0}) View). Kept s.views) slots id me 0 (λ n. stored) (λ n (w : Me (Unit {0}) View). w ≡ (writes l cells me.0, me.1))
writes_allowed slots id stored me m l cells is has own s k size at small = (writes l cells me.0, keeps, tt, writes_keep s.views k id me.0 m l cells at is has own, refl)

pub turns_allowed : (slots id stored : ℕ) (me : Me (Unit {0}) View) (m : Part) (moment : ℕ) (ok : Bool) → me.0.stamper ≡ true → me.0.part ≡ Some m
    → Allows (λ (s : Table (Unit {0}) View). Kept s.views) slots id me 0 (λ n. stored) (λ n (w : Me (Unit {0}) View). w ≡ (turned moment ok me.0, me.1))
turns_allowed slots id stored me m moment ok is has s k size at small = (turned moment ok me.0, keeps, tt, turns_keep s.views k id me.0 m moment ok at is has, refl)

pub looks : (slots id : ℕ) (me : Me (Unit {0}) View) → me.0.stamper ≡ true → Allows (λ (s : Table (Unit {0}) View). Kept s.views) slots id me 0 (λ n. n) (λ n (w : Me (Unit {0}) View). (w ≡ me) × IfSome me.0.part (LookTells me.0))
looks slots id me is s k size at small = (me.0, keeps, tt, subst Kept (sym (set_again s.views id me.0 at)) k, (refl, look_tells s.views k id me.0 at is))

pub lodges : (id : ℕ) (v : View) (other : ℕ) (w : View) (m : Part) → v.part ≡ None → w.part ≡ Some m → Joins (λ (s : Table (Unit {0}) View). Kept s.views) id v other w (takes_in v w) spent
lodges id v other w m free is s k here apart there = lodges_keep s.views k id v other w m free is here apart there

pub leaves : (id : ℕ) (v : View) (m : Part) → v.stamper ≡ true → v.part ≡ Some m → Splits (λ (s : Table (Unit {0}) View). Kept s.views) id v (who_stays v) (who_goes v)
leaves id v m is has s k here = leaves_keep s.views k id v m here is has

pub hands_out : (id : ℕ) (v : View) → v.stamper ≡ true → v.history ≡ empty_history → Splits (λ (s : Table (Unit {0}) View). Kept s.views) id v (one_more v) (comes_in v)
hands_out id v is empty s k here = hands_out_keep s.views k id v here is empty
