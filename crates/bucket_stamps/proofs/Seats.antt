-- What a step of one seat leaves to all views.
use Rattle.std.proofs.Common.{◌≡◌, ◌≢◌, ℕ, ◌<◌, true, List, [], ◌∷◌, ◌++◌, set, Some, sym, ap, ◌∙◌, subst, ⊎_elim}
use Rattle.std.specs.Option.{option_map}
use mathlib.Core.Option.{some, some-injective}
use mathlib.Core.Logic.{dite}
use native.Mathlib.Decide.{ℕ_discrete}
use lib.ListN.{get_elem?}
use Rattle.atomic_table.proofs.Lists.{at_set, set_else, at_longer}
use Rattle.bucket_stamps.specs.declared.view.History.{History}
use Rattle.bucket_stamps.specs.declared.view.Part.{Part}
use Rattle.bucket_stamps.specs.declared.view.View.{View}
use Rattle.bucket_stamps.specs.Views.{participant_in}
use Rattle.bucket_stamps.specs.Kept.{Kept, Shows, StandsAt, AgreesWith, IsThere}
use Rattle.bucket_stamps.proofs.Lists.{if_some_at, if_some_is, if_some_more, set_there}
use Rattle.bucket_stamps.proofs.Owning.{Grows, agrees_longer}

-- a fact of each view, where one changes
pub each_set : (P : ℕ → View → Type 0) (views : List View) (at : ℕ) (w : View) → ((j : ℕ) (u : View) → j ≢ at → get_elem? views j ≡ some u → P j u) → P at w → (j : ℕ) (u : View) → get_elem? (set views at w) j ≡ some u → P j u
each_set P views at w others mine j u e =
    ⊎_elim
    (λ (t : (j ≡ at) × (w ≡ u)). subst (λ (y : ℕ × View). P y.0 y.1) (λ i. (sym t.0 i, t.1 i)) mine)
    (λ (t : (j ≢ at) × (get_elem? views j ≡ some u)). others j u t.0 t.1)
    (at_set views at j w u e)

-- a participant stays where a view changes that keeps its own
pub there_set : (views : List View) (id : ℕ) (v w : View) → get_elem? views id ≡ some v → participant_in w ≡ participant_in v → (at p : ℕ) → IsThere views at p → IsThere (set views id w) at p
there_set views id v w here same at p t =
    dite (ℕ_discrete at id)
    (λ e.
    let same_view : v ≡ t.v = some-injective v t.v (sym here ∙ (ap (λ (k : ℕ). get_elem? views k) (sym e) ∙ t.here)) in
    record { v = w; here = ap (λ (k : ℕ). get_elem? (set views id w) k) e ∙ set_there views id v w here; is = same ∙ (ap participant_in same_view ∙ t.is) })
    (λ ne. record { v = t.v; here = set_else views id at w ne ∙ t.here; is = t.is })

-- or another's view changes
pub there_else : (views : List View) (id : ℕ) (w : View) (at p : ℕ) → at ≢ id → IsThere views at p → IsThere (set views id w) at p
there_else views id w at p ne t = record { v = t.v; here = set_else views id at w ne ∙ t.here; is = t.is }

-- or a view more comes
pub there_more : (views : List View) (w : View) (at p : ℕ) → IsThere views at p → IsThere (views ++ w ∷ []) at p
there_more views w at p t = record { v = t.v; here = at_longer views (w ∷ []) at t.v t.here; is = t.is }

-- what the rule says of a seat's participant
pub my_mark : (views : List View) (k : Kept views) (at : ℕ) (v : View) (m : Part) → get_elem? views at ≡ some v → v.part ≡ Some m → StandsAt k.history k.participants k.seat_of at m
my_mark views k at v m here is = let mine = k.shown at v here in if_some_at (StandsAt k.history k.participants k.seat_of at) v.part m is mine.part

pub my_participant : (v : View) (m : Part) → v.part ≡ Some m → participant_in v ≡ Some m.participant
my_participant v m is = ap (option_map (λ (x : Part). x.participant)) is

-- the stamper writes
pub stamper_step : (views : List View) (k : Kept views) (id : ℕ) (v w : View) (m next : Part) (history : History) → get_elem? views id ≡ some v → v.stamper ≡ true → v.part ≡ Some m
    → w.participants ≡ v.participants → w.history ≡ history → w.part ≡ Some next
    → Grows m.participant v.history history → next.participant ≡ m.participant → (AgreesWith v.history m → AgreesWith history next) → Kept (set views id w)
stamper_step views k id v w m next history here is has count history_is mark grows same agrees =
    let my = (k.shown id v here).stamping is in
    let mine = my_mark views k id v m here has in
    let G : History → Type 0 = λ x. Grows m.participant x history in
    let A : History → Type 0 = λ x. AgreesWith x m in
    let grows' : Grows m.participant k.history history = subst G my.history_is grows in
    record {
      history = history;
      participants = k.participants;
      desk = k.desk;
      seat_of = k.seat_of;
      there = λ p below. there_set views id v w here (my_participant w next mark ∙ (ap (λ (q : ℕ). Some q) same ∙ sym (my_participant v m has))) (k.seat_of p) p (k.there p below);
      shown = each_set (Shows history k.participants k.desk k.seat_of) views id w
          (λ j u other there.
          let theirs = k.shown j u there in
          record {
            stamping = λ e. let d = theirs.stamping e in absurd (other (d.seat ∙ sym my.seat));
            part = if_some_more (StandsAt k.history k.participants k.seat_of j) (StandsAt history k.participants k.seat_of j) u.part (λ q _ h. record {
              seat = h.seat;
              below = h.below;
              agrees = agrees_longer m.participant k.history history q grows' (λ e. other (sym h.seat ∙ (ap k.seat_of e ∙ mine.seat))) h.agrees;
            }) theirs.part;
          })
          (record {
            stamping = λ e. record { seat = my.seat; history_is = history_is; count = count ∙ my.count };
            part = if_some_is (StandsAt history k.participants k.seat_of id) w.part next mark (record {
              seat = ap k.seat_of same ∙ mine.seat;
              below = subst (λ (q : ℕ). q < k.participants) (sym same) mine.below;
              agrees = agrees (subst A (sym my.history_is) mine.agrees);
            });
          });
    }
