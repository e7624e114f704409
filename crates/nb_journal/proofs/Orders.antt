-- The order of making has different keys, each of them present; so a pass takes different present keys.
use Rattle.std.proofs.Common.{◌≡◌, ⊎_elim, ℕ, ◌-◌, Bool, true, false, ◌||◌, ◌&&◌, not, is_some, nat_lt, if◌then◌else◌, List, [], ◌∷◌, ◌++◌, Option, Some, None, refl, sym, ◌∙◌, ap, subst, arith, append-nil}
use Rattle.std.specs.Prelude.{filter}
use Rattle.std.specs.Option.{option_to_list}
use Rattle.std.proofs.lemmas.Bool.{false≢true, false_from_ne_true, or_cases, and_parts, not-true}
use Rattle.nb_base.specs.declared.mac.Mac.{Mac}
use Rattle.nb_base.specs.declared.key.Key.{Key}
use Rattle.nb_queues.specs.Queue.{Packet}
use Rattle.nb_base.specs.declared.nud.Nud.{Nud}
use Rattle.nb_base.specs.declared.nud.Nud.TheVariants as nud
use Rattle.nb_base.specs.declared.params.Params.{Params}
use Rattle.nb_base.specs.declared.op.Op.{Op}
use Rattle.nb_base.specs.declared.op.Op.TheVariants as op
use Rattle.nb_base.specs.declared.line.Line.{Line}
use Rattle.nud_machine.specs.declared.entry.Entry.{Entry}
use Rattle.nud_machine.specs.declared.event.Event.{Event}
use Rattle.nud_machine.specs.declared.event.Event.TheVariants as event
use Rattle.nud_machine.specs.State.{State, Stepped, made}
use Rattle.nud_machine.specs.Update.{Manner, Rule, rule_for, update_by, router_by}
use Rattle.nud_machine.specs.Send.{send_in}
use Rattle.nud_machine.specs.Timer.{fire_in}
use Rattle.nud_machine.specs.Step.{heard_as, arp_manner, ns_manner, na_manner, admin_manner, stamp, move, step}
use Rattle.nb_journal.specs.Keys.{is_key, key_of, is_own}
use Rattle.nb_journal.specs.Fold.{Effect, Passes, Refuses, Brings, effect, meet, state_of, is_present}
use Rattle.nb_journal.specs.Lawful.{is_collect, base_of, brings_event, made_by, making, order_after, making_order, collected}
use Rattle.nb_journal.proofs.Changes.{is_key-same, change-named}
use Rattle.nb_journal.proofs.Lines.{by_last, base_of-collect, base_of-other}
use Rattle.nb_journal.proofs.Folds.{state_of-snoc, making_order-nil, making_order-snoc}
use Rattle.nb_journal.proofs.Dues.{change-either}
use Rattle.nb_journal.proofs.Grows.{is_key-one, has_key}
use Rattle.nb_journal.proofs.Counts.{AreDistinct, has_key-snoc, distinct-snoc, has_key-filter, distinct-filter}

-- ---- an entry that is there stays, but for a removal

abbrev pub is_remove : Event → Bool
is_remove event.Remove = true
is_remove _ = false

send_present : (p : Params) (at : ℕ) (packet : Packet) (s : State) (n : Nud) → s.entry.present ≡ true → (send_in n p at packet s).state.entry.present ≡ true
send_present p at packet s n i = grind arith

fire_present : (p : Params) (at : ℕ) (s : State) (n : Nud) → s.entry.present ≡ true → (fire_in n p at s).state.entry.present ≡ true
fire_present p at s n i = grind arith

update_present : (p : Params) (at : ℕ) (s : State) (given : Option Mac) (new : Nud) (how : Manner) (rule : Rule) → s.entry.present ≡ true → (update_by rule p at s given new how).state.entry.present ≡ true
update_present p at s given new how rule i = grind arith

router_present : (router : Bool) (rule : Rule) (e : Entry) → (router_by rule router e).present ≡ e.present
router_present router rule e = grind arith

stamp_present : (at : ℕ) (before : Entry) (done : Stepped) → (stamp at before done).state.entry.present ≡ done.state.entry.present
stamp_present at before done = grind arith

confirm_present : (p : Params) (at : ℕ) (s : State) → (move p at s event.Confirm).state.entry.present ≡ s.entry.present
confirm_present p at s = grind arith

move_present : (p : Params) (at : ℕ) (s : State) (e : Event) → is_remove e ≡ false → s.entry.present ≡ true → (move p at s e).state.entry.present ≡ true
move_present p at s (event.Send id size) no_remove i = send_present p at (id, size) (record s { entry = record s.entry { used = at } }) s.entry.nud i
move_present p at s (event.Arp mac solicited) no_remove i = update_present p at s (Some mac) (heard_as solicited) (arp_manner p at s.entry) (rule_for s.entry (Some mac) (heard_as solicited) (arp_manner p at s.entry)) i
move_present p at s (event.Ns mac) no_remove i = update_present p at s (Some mac) nud.Stale ns_manner (rule_for s.entry (Some mac) nud.Stale ns_manner) i
move_present p at s (event.Na mac router solicited overrides) no_remove i =
    let rule = rule_for s.entry mac (heard_as solicited) (na_manner overrides) in
    router_present router rule (update_by rule p at s mac (heard_as solicited) (na_manner overrides)).state.entry ∙ update_present p at s mac (heard_as solicited) (na_manner overrides) rule i
move_present p at s (event.Admin mac new) no_remove i = update_present p at s mac new admin_manner (rule_for s.entry mac new admin_manner) i
move_present p at s event.Confirm no_remove i = confirm_present p at s ∙ i
move_present p at s event.Timer no_remove i = fire_present p at s s.entry.nud i
move_present p at s event.Remove no_remove i = cc

pub step_present : (p : Params) (at : ℕ) (s : State) (e : Event) → is_remove e ≡ false → s.entry.present ≡ true → (step p at s e).state.entry.present ≡ true
step_present p at s e no_remove i = stamp_present at s.entry (move p at s e) ∙ move_present p at s e no_remove i

-- ---- making

abbrev removes : Effect → Bool
removes (Brings e) = is_remove e
removes _ = false

-- an operation that names a key removes no absent entry
own_removes : (p : Params) (l : Line) (s : State) (o : Op) (key : Key) → key_of o ≡ Some key → is_own o ≡ true → s.entry.present ≡ false → removes (effect p l s o) ≡ false
own_removes p l s op.Show key e own off = cc
own_removes p l s op.Flush key e own off = cc
own_removes p l s op.Sweep key e own off = cc
own_removes p l s (op.Timer k) key e own off = cc
own_removes p l s (op.Collect k) key e own off = cc
own_removes p l s _ key e own off = grind arith

meet_makes : (p : Params) (l : Line) (s : State) (e : Effect) → brings_event e ≡ true → removes e ≡ false → s.entry.present ≡ false → (meet p l s e).state.entry.present ≡ true
meet_makes p l s Passes brings keeps off = cc
meet_makes p l s (Refuses x) brings keeps off = cc
meet_makes p l s (Brings e) brings keeps off = rw off (step_present p l.at (made l.at) e keeps refl)

-- what a making line is
pub record IsMaking (p : Params) (base : List Line) (l : Line) (key : Key) : Type 0 where
  pub names : key_of l.op ≡ Some key
  pub own : is_own l.op ≡ true
  pub absent : is_present p base key ≡ false
  pub brings : brings_event (effect p l (state_of p base key) l.op) ≡ true

pub making-is : (p : Params) (base : List Line) (l : Line) (key : Key) → making p base l ≡ Some key → IsMaking p base l key
making-is p base l key e = by_key (key_of l.op) refl e where
  by_key : (o : Option Key) → key_of l.op ≡ o → made_by p base l o ≡ Some key → IsMaking p base l key
  by_key None n m = cc
  by_key (Some k) n m = by_test (is_own l.op && not (is_present p base k) && brings_event (effect p l (state_of p base k) l.op)) refl m where
    by_test : (t : Bool) → (is_own l.op && not (is_present p base k) && brings_event (effect p l (state_of p base k) l.op)) ≡ t → (if t then Some k else None) ≡ Some key → IsMaking p base l key
    by_test false t g = cc
    by_test true t g =
        let same : k ≡ key = cc in
        let outer = and_parts (is_own l.op && not (is_present p base k)) (brings_event (effect p l (state_of p base k) l.op)) t in
        let inner = and_parts (is_own l.op) (not (is_present p base k)) outer.0 in
        record {
          names = n ∙ ap (λ (x : Key). Some x) same;
          own = inner.0;
          absent = subst (λ (x : Key). is_present p base x ≡ false) same (not-true (is_present p base k) inner.1);
          brings = subst (λ (x : Key). brings_event (effect p l (state_of p base x) l.op) ≡ true) same outer.1;
        }

collect_passes : (p : Params) (l : Line) (s : State) (o : Op) → is_collect o ≡ true → s.entry.present ≡ false → (meet p l s (effect p l s o)).state ≡ s
collect_passes p l s (op.Collect key) e off = rw off refl
collect_passes p l s _ e off = cc

-- collects change no absent entry
pub collects_keep : (p : Params) (key : Key) (lines : List Line) → is_present p (base_of lines) key ≡ false → state_of p lines key ≡ state_of p (base_of lines) key
collects_keep p key = by_last (λ (xs : List Line). is_present p (base_of xs) key ≡ false → state_of p xs key ≡ state_of p (base_of xs) key) (λ h. refl) more where
  more : (xs : List Line) (x : Line) → (is_present p (base_of xs) key ≡ false → state_of p xs key ≡ state_of p (base_of xs) key) → is_present p (base_of (xs ++ x ∷ [])) key ≡ false → state_of p (xs ++ x ∷ []) key ≡ state_of p (base_of (xs ++ x ∷ [])) key
  more xs x before h = by_test (is_collect x.op) refl where
    by_test : (t : Bool) → is_collect x.op ≡ t → state_of p (xs ++ x ∷ []) key ≡ state_of p (base_of (xs ++ x ∷ [])) key
    by_test false e = ap (λ (ys : List Line). state_of p ys key) (sym (base_of-other xs x e))
    by_test true e =
        let off = ap (λ (ys : List Line). is_present p ys key) (sym (base_of-collect xs x e)) ∙ h in
        let same = before off in
        let absent = ap (λ (s : State). s.entry.present) same ∙ off in
        state_of-snoc p xs x key
        ∙ change-either (λ (t : State). t ≡ state_of p xs key) p x key (state_of p xs key) refl (collect_passes p x (state_of p xs key) x.op e absent)
        ∙ same
        ∙ ap (λ (ys : List Line). state_of p ys key) (sym (base_of-collect xs x e))

-- a made key is absent before the line and present behind it
made_absent : (p : Params) (past : List Line) (l : Line) (key : Key) → IsMaking p (base_of past) l key → is_present p past key ≡ false
made_absent p past l key m = ap (λ (s : State). s.entry.present) (collects_keep p key past m.absent) ∙ m.absent

made_present : (p : Params) (past : List Line) (l : Line) (key : Key) → IsMaking p (base_of past) l key → l.full ≡ None → is_present p (past ++ l ∷ []) key ≡ true
made_present p past l key m full =
    let same = collects_keep p key past m.absent in
    let off = made_absent p past l key m in
    ap (λ (s : State). s.entry.present) (state_of-snoc p past l key)
    ∙ ap (λ (t : Stepped). t.state.entry.present) (change-named p l key key (state_of p past key) m.names (is_key-same key) full)
    ∙ meet_makes p l (state_of p past key) (effect p l (state_of p past key) l.op)
    (ap (λ (s : State). brings_event (effect p l s l.op)) same ∙ m.brings)
    (own_removes p l (state_of p past key) l.op key m.names m.own off) off

-- ---- the order

pub record IsOrder (p : Params) (lines : List Line) (keys : List Key) : Type 0 where
  pub distinct : AreDistinct keys
  pub present : (key : Key) → has_key keys key ≡ true → is_present p lines key ≡ true

order_next : (p : Params) (past : List Line) (l : Line) (keys : List Key) → IsOrder p past keys → IsOrder p (past ++ l ∷ []) (order_after p keys past l)
order_next p past l keys o = by_full l.full refl (making p (base_of past) l) refl where
  kept : List Key
  kept = filter (is_present p (past ++ l ∷ [])) keys

  stays : IsOrder p (past ++ l ∷ []) (filter (is_present p (past ++ l ∷ [])) keys)
  stays = record {
    distinct = distinct-filter (is_present p (past ++ l ∷ [])) keys o.distinct;
    present = λ key there. (has_key-filter (is_present p (past ++ l ∷ [])) keys key there).1;
  }

  alone : IsOrder p (past ++ l ∷ []) (filter (is_present p (past ++ l ∷ [])) keys ++ [])
  alone = subst (IsOrder p (past ++ l ∷ [])) (sym (append-nil (filter (is_present p (past ++ l ∷ [])) keys))) stays

  with : (key : Key) → IsMaking p (base_of past) l key → l.full ≡ None → IsOrder p (past ++ l ∷ []) (filter (is_present p (past ++ l ∷ [])) keys ++ key ∷ [])
  with key m full = record {
    distinct = distinct-snoc (filter (is_present p (past ++ l ∷ [])) keys) key stays.distinct
        (false_from_ne_true (has_key (filter (is_present p (past ++ l ∷ [])) keys) key)
        (λ there. false≢true (sym (made_absent p past l key m) ∙ o.present key (has_key-filter (is_present p (past ++ l ∷ [])) keys key there).0)));
    present = λ other there. ⊎_elim
        (λ (old : has_key (filter (is_present p (past ++ l ∷ [])) keys) other ≡ true). stays.present other old)
        (λ (new : (is_key key other || false) ≡ true). ⊎_elim
        (λ (same : is_key key other ≡ true). subst (λ (k : Key). is_present p (past ++ l ∷ []) k ≡ true) (is_key-one key other same) (made_present p past l key m full))
        (λ (no_other : false ≡ true). absurd (false≢true no_other))
        (or_cases (is_key key other) false new))
        (or_cases (has_key (filter (is_present p (past ++ l ∷ [])) keys) other) (is_key key other || false) (sym (has_key-snoc (filter (is_present p (past ++ l ∷ [])) keys) key other) ∙ there));
  }

  by_full : (f : Option ℕ) → l.full ≡ f → (m : Option Key) → making p (base_of past) l ≡ m → IsOrder p (past ++ l ∷ []) (filter (is_present p (past ++ l ∷ [])) keys ++ (if is_some f then [] else option_to_list m))
  by_full (Some n) e m g = alone
  by_full None e None g = alone
  by_full None e (Some key) g = with key (making-is p (base_of past) l key g) e

-- the order of making
pub order-is : (p : Params) (lines : List Line) → IsOrder p lines (making_order p lines)
order-is p = by_last (λ (xs : List Line). IsOrder p xs (making_order p xs))
    (rw (making_order-nil p) (record { distinct = tt; present = λ key there. cc }))
    (λ xs x h. rw (making_order-snoc p xs x) (order_next p xs x (making_order p xs) h))

-- ---- what a pass takes

pub collected-within : (limit present : ℕ) (takes : Key → Bool) (keys : List Key) (key : Key) → has_key (collected limit present takes keys) key ≡ true → has_key keys key ≡ true
collected-within limit present takes [] key h = cc
collected-within limit present takes (k ∷ ks) key h =
    by_limit (nat_lt present limit) (takes k) h (collected-within limit (present - 1) takes ks key) (collected-within limit present takes ks key) where
      late : has_key ks key ≡ true → (is_key k key || has_key ks key) ≡ true
      late e = grind (arith, e)

      by_limit : (t u : Bool) → has_key (if t then [] else (if u then k ∷ collected limit (present - 1) takes ks else collected limit present takes ks)) key ≡ true
          → (has_key (collected limit (present - 1) takes ks) key ≡ true → has_key ks key ≡ true) → (has_key (collected limit present takes ks) key ≡ true → has_key ks key ≡ true) → (is_key k key || has_key ks key) ≡ true
      by_limit true u g less same = cc
      by_limit false false g less same = late (same g)
      by_limit false true g less same = ⊎_elim
          (λ (here : is_key k key ≡ true). ap (λ (b : Bool). b || has_key ks key) here)
          (λ (more : has_key (collected limit (present - 1) takes ks) key ≡ true). late (less more))
          (or_cases (is_key k key) (has_key (collected limit (present - 1) takes ks) key) g)

pub collected-distinct : (limit present : ℕ) (takes : Key → Bool) (keys : List Key) → AreDistinct keys → AreDistinct (collected limit present takes keys)
collected-distinct limit present takes [] d = tt
collected-distinct limit present takes (k ∷ ks) d =
    by_limit (nat_lt present limit) (takes k) (collected-distinct limit (present - 1) takes ks d.1) (collected-distinct limit present takes ks d.1) where
      by_limit : (t u : Bool) → AreDistinct (collected limit (present - 1) takes ks) → AreDistinct (collected limit present takes ks)
          → AreDistinct (if t then [] else (if u then k ∷ collected limit (present - 1) takes ks else collected limit present takes ks))
      by_limit true u less same = tt
      by_limit false false less same = same
      by_limit false true less same =
          (false_from_ne_true (has_key (collected limit (present - 1) takes ks) k) (λ there. false≢true (sym d.0 ∙ collected-within limit (present - 1) takes ks k there)), less)
