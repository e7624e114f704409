-- Two lawful journals with the same operations at one clock, whose lines saw the same, are one: behind each history the next lines are forced.
use Rattle.std.proofs.Common.{◌≡◌, ⊎_elim, ◌||◌, ℕ, zero, suc, ◌+◌, ◌<◌, ◌≤◌, Bool, true, false, is_some, if◌then◌else◌, List, [], ◌∷◌, ◌++◌, length, Option, Some, None, refl, sym, ◌∙◌, ap, subst, arith, append_assoc, append-nil}
use Rattle.std.specs.Prelude.{map, ◌-◌, ◌&&◌, not, nat_le, unwrap_or, IfSome}
use Rattle.std.proofs.lemmas.Bool.{cases_lt, false≢true}
use Rattle.std.proofs.lemmas.List.{length-append}
use Rattle.std.proofs.lemmas.List.Elements.{filter-append}
use Rattle.nb_base.specs.declared.key.Key.{Key}
use Rattle.nb_base.specs.declared.time.OpId.{OpId}
use Rattle.nb_base.specs.declared.params.Params.{Params}
use Rattle.nb_base.specs.declared.op.Op.{Op}
use Rattle.nb_base.specs.declared.op.Op.TheVariants as op
use Rattle.nb_base.specs.declared.line.Line.{Line}
use Rattle.nb_base.specs.Params.{InRange}
use Rattle.nud_machine.specs.declared.event.Event.TheVariants as event
use Rattle.nud_machine.specs.State.{State}
use Rattle.nb_journal.specs.Keys.{is_key, key_of, is_own, is_timer, is_sweep, place_among}
use Rattle.nb_journal.specs.Fold.{Effect, Brings, effect, size_of, is_present, state_of, known_keys, rank_of}
use Rattle.nb_journal.specs.Lawful.{each_line, EachLine, last_moment, due_of, IsNextDue, IsTimersTurn, IsSweepMoment, is_before_sweep, before_sweep, bare_line, sweep_line, looks, is_collect, base_of, brings_event, made_by, making, is_pass_due, last_pass, making_order, is_collectable, collected, asked_of_pass, collect_line, collects, HasItsPass, full_of, IsLawful}
use Rattle.nb_journal.specs.Accounts.{Operation, operation_of, operations, own_lines, timer_line}
use Rattle.nb_journal.specs.Laws.{Saw, LawfulAreOne}
use Rattle.nb_journal.proofs.Lines.{each-at, each-behind, last_moment-snoc, base_of-collect, base_of-other}
use Rattle.nb_journal.proofs.Dues.{dues_from-nothing_due, dues_from-nothing_overdue}
use Rattle.nb_journal.proofs.Grows.{is_key-one, has_key}
use Rattle.nb_journal.proofs.Counts.{known-unless}
use Rattle.nb_journal.proofs.Fits.{Fits, FitsSweep, timely, IsTimely, dues_behind, before_other, before_late, over-first, over-none, lawful-runs, moment-within}
use Rattle.nb_journal.proofs.Passes.{own-full, looks-none, base_of-collects, collects_keys}

cancel : (past a b : List Line) → past ++ a ≡ past ++ b → a ≡ b
cancel [] a b e = e
cancel (x ∷ xs) a b e = let tail : xs ++ a ≡ xs ++ b = cc in cancel xs a b tail

head_of : (x y : Line) (xs ys : List Line) → x ∷ xs ≡ y ∷ ys → x ≡ y
head_of x y xs ys e = cc

tail_of : (x y : Line) (xs ys : List Line) → x ∷ xs ≡ y ∷ ys → xs ≡ ys
tail_of x y xs ys e = cc

no_line : (x : Line) (xs : List Line) → x ∷ xs ≡ [] → ⊥
no_line x xs e = cc

pub own_kind : (o : Op) → is_own o ≡ true → (is_timer o ≡ false) × (is_collect o ≡ false)
own_kind (op.Timer key) e = cc
own_kind op.Sweep e = cc
own_kind (op.Collect key) e = cc
own_kind _ e = (refl, refl)

sweep_kind : (o : Op) → o ≡ op.Sweep → is_own o ≡ true → ⊥
sweep_kind o e own = false≢true (ap is_own (sym e) ∙ own)

-- ---- what comes next behind a history that ends with no collect

pub data Next (p : Params) (past lines : List Line) : Type 0 where
  EndsHere : lines ≡ [] → Next p past lines
  TimerAhead : (l : Line) (key : Key) (rest : List Line) → lines ≡ l ∷ rest → l.op ≡ op.Timer key → Next p past lines
  SweepAhead : (l : Line) (rest : List Line) → lines ≡ l ∷ rest → l.op ≡ op.Sweep → Next p past lines
  OwnAhead : (l : Line) (rest : List Line) → lines ≡ collects p past l ++ l ∷ rest → is_own l.op ≡ true → Next p past lines

-- an operation's line behind its collects
abbrev OwnBehind : Params → List Line → List Line → Type 0
OwnBehind p past lines = (l : Line) × (rest : List Line) × (lines ≡ collects p past l ++ l ∷ rest) × (is_own l.op ≡ true)

own_has_pass : (p : Params) (past : List Line) (l : Line) (o : Op) → is_own o ≡ true → HasItsPass p past l o → past ≡ base_of past ++ collects p (base_of past) l
own_has_pass p past l (op.Timer key) e h = cc
own_has_pass p past l op.Sweep e h = cc
own_has_pass p past l (op.Collect key) e h = cc
own_has_pass p past l _ e h = h

-- behind the collects so far, of which there is one
behind_collects : (p : Params) (base so_far past lines : List Line) → past ≡ base ++ so_far → base_of past ≡ base → (so_far ≡ [] → ⊥) → each_line (Fits p) past lines → base_of (past ++ lines) ≡ past ++ lines → OwnBehind p base (so_far ++ lines)
behind_collects p base so_far past [] e b some all only =
    absurd (some (cancel base so_far [] (sym e ∙ sym (append-nil past) ∙ sym only ∙ ap base_of (append-nil past) ∙ b ∙ sym (append-nil base))))
behind_collects p base so_far past (x ∷ xs) e b some all only = by_op x.op refl (λ c. behind_collects p base (so_far ++ x ∷ []) (past ++ x ∷ []) xs
    (ap (λ (ys : List Line). ys ++ x ∷ []) e ∙ append_assoc base so_far (x ∷ []))
    (base_of-collect past x c ∙ b) (not_empty so_far) all.1
    (ap base_of (append_assoc past (x ∷ []) xs) ∙ only ∙ sym (append_assoc past (x ∷ []) xs))) where
      not_empty : (ys : List Line) → ys ++ x ∷ [] ≡ [] → ⊥
      not_empty [] h = no_line x [] h
      not_empty (y ∷ ys) h = no_line y (ys ++ x ∷ []) h

      stuck : base_of past ≡ past → OwnBehind p base (so_far ++ x ∷ xs)
      stuck same = absurd (some (cancel base so_far [] (sym e ∙ sym same ∙ b ∙ sym (append-nil base))))

      goes_on : OwnBehind p base ((so_far ++ x ∷ []) ++ xs) → OwnBehind p base (so_far ++ x ∷ xs)
      goes_on h = (h.0, h.1, sym (append_assoc so_far (x ∷ []) xs) ∙ h.2, h.3)

      ends_here : is_own x.op ≡ true → OwnBehind p base (so_far ++ x ∷ xs)
      ends_here own =
          let pass = own_has_pass p past x x.op own all.0.pass in
          let taken = cancel base so_far (collects p base x) (sym e ∙ pass ∙ ap (λ (ys : List Line). ys ++ collects p ys x) b) in
          (x, xs, ap (λ (ys : List Line). ys ++ x ∷ xs) taken, own)

      by_op : (o : Op) → x.op ≡ o → (is_collect x.op ≡ true → OwnBehind p base ((so_far ++ x ∷ []) ++ xs)) → OwnBehind p base (so_far ++ x ∷ xs)
      by_op (op.Collect key) k more = goes_on (more (ap is_collect k))
      by_op (op.Timer key) k more = stuck (subst (HasItsPass p past x) k all.0.pass)
      by_op op.Sweep k more = stuck (subst (HasItsPass p past x) k all.0.pass)
      by_op o k more = ends_here (ap is_own k)

pub next : (p : Params) (past lines : List Line) → base_of past ≡ past → each_line (Fits p) past lines → base_of (past ++ lines) ≡ past ++ lines → Next p past lines
next p past [] b all only = EndsHere refl
next p past (x ∷ xs) b all only = by_op x.op refl where
  own : OwnBehind p past (x ∷ xs) → Next p past (x ∷ xs)
  own h = OwnAhead h.0 h.1 h.2 h.3

  by_op : (o : Op) → x.op ≡ o → Next p past (x ∷ xs)
  by_op (op.Timer key) k = TimerAhead x key xs refl k
  by_op op.Sweep k = SweepAhead x xs refl k
  by_op (op.Collect key) k =
      own (behind_collects p past (x ∷ []) (past ++ x ∷ []) xs refl (base_of-collect past x (ap is_collect k) ∙ b) (no_line x []) all.1
      (ap base_of (append_assoc past (x ∷ []) xs) ∙ only ∙ sym (append_assoc past (x ∷ []) xs)))
  by_op o k =
      let pass = own_has_pass p past x x.op (ap is_own k) all.0.pass in
      let none = cancel past [] (collects p past x) (append-nil past ∙ pass ∙ ap (λ (ys : List Line). ys ++ collects p ys x) b) in
      OwnAhead x xs (ap (λ (ys : List Line). ys ++ x ∷ xs) none) (ap is_own k)

-- ---- what forces the next line

pub each_behind : (p : Params) (past lines : List Line) (clock : ℕ) → IsLawful p (past ++ lines) clock → each_line (Fits p) past lines
each_behind p past lines clock lawful = each-behind (Fits p) past lines (lawful-runs p (past ++ lines) clock lawful).each

within_clock : (p : Params) (past rest : List Line) (l : Line) (clock : ℕ) → IsLawful p (past ++ l ∷ rest) clock → l.at ≤ clock
within_clock p past rest l clock lawful =
    let last = lawful.within in
    let le = moment-within (past ++ l ∷ rest) past rest l lawful.orderly.moments refl in
    omega (arith, last, le)

-- a sweep at a sweep's moment is the next line, where the next line doesn't stand before it
forced_sweep : (p : Params) (past rest : List Line) (h : Line) (u clock : ℕ) → InRange p → IsLawful p (past ++ h ∷ rest) clock → u ≤ clock → IsSweepMoment p u → past ≡ before_sweep u past → is_before_sweep u h ≡ false → (seen : ℕ) × (h ≡ sweep_line u seen)
forced_sweep p past rest h u clock r lawful le is before off =
    let all = each_behind p past (h ∷ rest) clock lawful in
    let none = over-none p (past ++ h ∷ []) rest u r (each_timely (past ++ h ∷ []) rest all.1) (over-first p past h u r (timely p past h all.0) off) in
    let front = filter-append (is_before_sweep u) past (h ∷ rest) ∙ ap (λ (xs : List Line). before_sweep u past ++ xs) (both off none) ∙ append-nil (before_sweep u past) ∙ sym before in
    let has = lawful.sweeps u is le in
    (has.0, head_of h (sweep_line u has.0) rest has.1 (cancel past (h ∷ rest) (sweep_line u has.0 ∷ has.1) (has.2 ∙ ap (λ (xs : List Line). xs ++ sweep_line u has.0 ∷ has.1) front))) where
      both : is_before_sweep u h ≡ false → before_sweep u rest ≡ [] → before_sweep u (h ∷ rest) ≡ []
      both a b = rw a b

      each_timely : (first xs : List Line) → each_line (Fits p) first xs → each_line (IsTimely p) first xs
      each_timely first [] a = tt
      each_timely first (x ∷ xs) a = (timely p first x a.0, each_timely (first ++ x ∷ []) xs a.1)

sweep_facts : (p : Params) (past rest : List Line) (l : Line) (clock : ℕ) → IsLawful p (past ++ l ∷ rest) clock → l.op ≡ op.Sweep → FitsSweep p past l op.Sweep
sweep_facts p past rest l clock lawful e = subst (FitsSweep p past l) e (each_behind p past (l ∷ rest) clock lawful).0.sweep

no_operation : (x : Operation) (xs : List Operation) → x ∷ xs ≡ [] → ⊥
no_operation x xs e = cc

operation_first : (x y : Operation) (xs ys : List Operation) → x ∷ xs ≡ y ∷ ys → x ≡ y
operation_first x y xs ys e = cc

operation_rest : (x y : Operation) (xs ys : List Operation) → x ∷ xs ≡ y ∷ ys → xs ≡ ys
operation_rest x y xs ys e = cc

-- the next operation isn't below the last line
own_later : (p : Params) (past lines : List Line) (o : Operation) (os : List Operation) → each_line (Fits p) past lines → operations lines ≡ o ∷ os → last_moment past ≤ o.at
own_later p past [] o os all e = absurd (no_operation o os (sym e))
own_later p past (x ∷ xs) o os all e = by_test (is_own x.op) e (λ rest. own_later p (past ++ x ∷ []) xs o os all.1 rest) where
  by_test : (b : Bool) → map operation_of (if b then x ∷ own_lines xs else own_lines xs) ≡ o ∷ os → (operations xs ≡ o ∷ os → last_moment (past ++ x ∷ []) ≤ o.at) → last_moment past ≤ o.at
  by_test true g more = let same = ap (λ (y : Operation). y.at) (operation_first (operation_of x) o (operations xs) os g) in let le = all.0.moment in omega (arith, same, le)
  by_test false g more = let later = more g in let at = last_moment-snoc past x in let le = all.0.moment in omega (arith, later, at, le)

-- ---- the pairs of next lines

no_sum : (m n : ℕ) → m + 1 ≤ n → n ≤ m → ⊥
no_sum m n a b = omega (arith, a, b)

timer_due : (p : Params) (past rest : List Line) (l : Line) (key : Key) (clock : ℕ) → IsLawful p (past ++ l ∷ rest) clock → l.op ≡ op.Timer key → IsNextDue p past key l.at
timer_due p past rest l key clock lawful e = subst (IsTimersTurn p past l.at) e (each_behind p past (l ∷ rest) clock lawful).0.timer

pub nil_timer : (p : Params) (past rest : List Line) (l : Line) (key : Key) (clock : ℕ) → IsLawful p past clock → IsLawful p (past ++ l ∷ rest) clock → l.op ≡ op.Timer key → ⊥
nil_timer p past rest l key clock short long e =
    let due = (timer_due p past rest l key clock long e).due in
    no_sum clock l.at (dues_from-nothing_due p past clock short.none_left key l.at due) (within_clock p past rest l clock long)

pub nil_sweep : (p : Params) (past rest : List Line) (l : Line) (clock : ℕ) → IsLawful p past clock → IsLawful p (past ++ l ∷ rest) clock → l.op ≡ op.Sweep → ⊥
nil_sweep p past rest l clock short long e =
    let s = sweep_facts p past rest l clock long e in
    let has = short.sweeps l.at s.0 (within_clock p past rest l clock long) in
    no_line (sweep_line l.at has.0) has.1 (sym (cancel past [] (sweep_line l.at has.0 ∷ has.1) (append-nil past ∙ has.2 ∙ ap (λ (xs : List Line). xs ++ sweep_line l.at has.0 ∷ has.1) (sym s.2))))

pub timer_sweep : (p : Params) (past ra rb : List Line) (l m : Line) (key : Key) (clock : ℕ) → InRange p → IsLawful p (past ++ l ∷ ra) clock → IsLawful p (past ++ m ∷ rb) clock → l.op ≡ op.Timer key → m.op ≡ op.Sweep → ⊥
timer_sweep p past ra rb l m key clock r la lb e f =
    let due = (timer_due p past ra l key clock la e).due in
    let s = sweep_facts p past rb m clock lb f in
    let later = dues_behind p past m.at m.op (ap is_timer f) (each_behind p past (m ∷ rb) clock lb).0.due key l.at due in
    let same = forced_sweep p past ra l m.at clock r la (within_clock p past rb m clock lb) s.0 s.2 (before_late m.at l (omega (arith, later))) in
    false≢true (sym (ap (λ (x : Line). is_timer x.op) same.1) ∙ ap is_timer e)

-- the first line of an operation and its collects
abbrev pub Head : List Line → Line → Type 0
Head lines w = (h : Line) × (t : List Line) × (lines ≡ h ∷ t) × (h.at ≡ w.at) × (is_timer h.op ≡ false) × (h.op ≡ op.Sweep → ⊥)

collect_sweep : (key : Key) → op.Collect key ≡ op.Sweep → ⊥
collect_sweep key e = false≢true (ap is_collect (sym e))

pub head : (p : Params) (past rest : List Line) (w : Line) → is_own w.op ≡ true → Head (collects p past w ++ w ∷ rest) w
head p past rest w own = let keys = collects_keys p past w in subst (λ (xs : List Line). Head (xs ++ w ∷ rest) w) (sym keys.1) (of_keys keys.0) where
  of_keys : (keys : List Key) → Head (map (collect_line w.at) keys ++ w ∷ rest) w
  of_keys [] = (w, rest, refl, refl, (own_kind w.op own).0, λ e. sweep_kind w.op e own)
  of_keys (key ∷ keys) = (collect_line w.at key, map (collect_line w.at) keys ++ w ∷ rest, refl, refl, refl, collect_sweep key)

behind_own : (p : Params) (past rest : List Line) (l w : Line) (ws : List Operation) (clock : ℕ) → IsLawful p (past ++ l ∷ rest) clock → operations rest ≡ operation_of w ∷ ws → l.at ≤ w.at
behind_own p past rest l w ws clock lawful e =
    let later = own_later p (past ++ l ∷ []) rest (operation_of w) ws (each_behind p past (l ∷ rest) clock lawful).1 e in
    let at = last_moment-snoc past l in
    omega (arith, later, at)

pub timer_own : (p : Params) (past ra b : List Line) (l w : Line) (ws : List Operation) (key : Key) (clock : ℕ) → IsLawful p (past ++ l ∷ ra) clock → IsLawful p (past ++ b) clock → l.op ≡ op.Timer key → Head b w → operations ra ≡ operation_of w ∷ ws → ⊥
timer_own p past ra b l w ws key clock la lb e h owns =
    let due = (timer_due p past ra l key clock la e).due in
    let lawful = subst (λ (xs : List Line). IsLawful p (past ++ xs) clock) h.2 lb in
    let later = dues_behind p past h.0.at h.0.op h.4 (each_behind p past (h.0 ∷ h.1) clock lawful).0.due key l.at due in
    let le = behind_own p past ra l w ws clock la owns in
    let at = h.3 in
    no_sum h.0.at l.at later (omega (arith, le, at))

pub sweep_own : (p : Params) (past ra b : List Line) (l w : Line) (ws : List Operation) (clock : ℕ) → InRange p → IsLawful p (past ++ l ∷ ra) clock → IsLawful p (past ++ b) clock → l.op ≡ op.Sweep → Head b w → operations ra ≡ operation_of w ∷ ws → ⊥
sweep_own p past ra b l w ws clock r la lb e h owns =
    let s = sweep_facts p past ra l clock la e in
    let lawful = subst (λ (xs : List Line). IsLawful p (past ++ xs) clock) h.2 lb in
    let le = behind_own p past ra l w ws clock la owns in
    let at = h.3 in
    h.5 (ap (λ (x : Line). x.op) (forced_sweep p past h.1 h.0 l.at clock r lawful (within_clock p past ra l clock la) s.0 s.2 (before_other l.at h.0 (omega (arith, le, at)) h.4)).1)

no_id : (o : Option OpId) → is_some o ≡ false → o ≡ None
no_id None e = refl
no_id (Some id) e = cc

line_is : (l : Line) (o : Op) → l.op ≡ o → l.id ≡ None → l.seen ≡ None → l.full ≡ None → l ≡ bare_line l.at o None
line_is l o e i s f = λ j. record { at = l.at; id = i j; op = e j; seen = s j; full = f j }

no_seen : (o : Option ℕ) → is_some o ≡ false → o ≡ None
no_seen None e = refl
no_seen (Some n) e = cc

not_next : (n : ℕ) → n + 1 ≡ 0 → ⊥
not_next n e = omega (arith, e)

down : (m n : ℕ) → m + 1 ≡ n + 1 → m ≡ n
down m n e = omega (arith, e)

-- keys of one place are one
one_place : (keys : List Key) (a b : Key) → has_key keys a ≡ true → place_among keys a ≡ place_among keys b → a ≡ b
one_place [] a b there e = cc
one_place (k ∷ ks) a b there e = by_test (is_key k a) refl (is_key k b) refl there e (one_place ks a b) where
  by_test : (t : Bool) → is_key k a ≡ t → (u : Bool) → is_key k b ≡ u → (t || has_key ks a) ≡ true → (if t then 0 else place_among ks a + 1) ≡ (if u then 0 else place_among ks b + 1) → (has_key ks a ≡ true → place_among ks a ≡ place_among ks b → a ≡ b) → a ≡ b
  by_test true x true y h g rest = sym (is_key-one k a x) ∙ is_key-one k b y
  by_test true x false y h g rest = absurd (not_next (place_among ks b) (sym g))
  by_test false x true y h g rest = absurd (not_next (place_among ks a) g)
  by_test false x false y h g rest = rest h (down (place_among ks a) (place_among ks b) g)

both_ways : (m n : ℕ) → m ≤ n → n ≤ m → m ≡ n
both_ways m n a b = omega (arith, a, b)

known_due : (p : Params) (past : List Line) (key : Key) (at : ℕ) → due_of p past key ≡ Some at → has_key (known_keys past) key ≡ true
known_due p past key at due = known-unless p past key (λ a. none_some (ap (λ s. s.entry.due) (sym a) ∙ due)) where
  none_some : None ≡ Some at → ⊥
  none_some e = cc

timer_line_is : (p : Params) (past rest : List Line) (l : Line) (key : Key) (clock : ℕ) → IsLawful p (past ++ l ∷ rest) clock → l.op ≡ op.Timer key → l ≡ timer_line l.at key
timer_line_is p past rest l key clock lawful e =
    let fits = (each_behind p past (l ∷ rest) clock lawful).0 in
    line_is l (op.Timer key) e (no_id l.id (fits.id ∙ ap is_own e)) (no_seen l.seen (fits.seen.there ∙ looks-none p (base_of past) l (ap is_own e) (ap is_sweep e))) (fits.full ∙ own-full p past l (ap is_own e))

pub timer_timer : (p : Params) (past ra rb : List Line) (l m : Line) (key other : Key) (clock : ℕ) → IsLawful p (past ++ l ∷ ra) clock → IsLawful p (past ++ m ∷ rb) clock → l.op ≡ op.Timer key → m.op ≡ op.Timer other → l ≡ m
timer_timer p past ra rb l m key other clock la lb e f =
    let x = timer_due p past ra l key clock la e in
    let y = timer_due p past rb m other clock lb f in
    let at = both_ways l.at m.at (dues_from-nothing_overdue p past l.at x.least other m.at y.due) (dues_from-nothing_overdue p past m.at y.least key l.at x.due) in
    let due = x.due ∙ ap (λ (n : ℕ). Some n) at in
    let dues = y.due ∙ ap (λ (n : ℕ). Some n) (sym at) in
    let one = one_place (known_keys past) key other (known_due p past key l.at x.due) (both_ways (rank_of past key) (rank_of past other) (x.first other dues) (y.first key due)) in
    timer_line_is p past ra l key clock la e ∙ (λ i. timer_line (at i) (one i)) ∙ sym (timer_line_is p past rb m other clock lb f)

sweep_sweep : (p : Params) (past ra rb : List Line) (l m : Line) (clock : ℕ) → InRange p → IsLawful p (past ++ l ∷ ra) clock → IsLawful p (past ++ m ∷ rb) clock → l.op ≡ op.Sweep → m.op ≡ op.Sweep → l.at ≡ m.at
sweep_sweep p past ra rb l m clock r la lb e f =
    let x = sweep_facts p past ra l clock la e in
    let y = sweep_facts p past rb m clock lb f in
    ⊎_elim
    (λ (lt : m.at < l.at). ap (λ (z : Line). z.at) (forced_sweep p past ra l m.at clock r la (within_clock p past rb m clock lb) y.0 y.2 (before_other m.at l (omega (arith, lt)) (ap is_timer e))).1)
    (λ (le : l.at ≤ m.at). sym (ap (λ (z : Line). z.at) (forced_sweep p past rb m l.at clock r lb (within_clock p past ra l clock la) x.0 x.2 (before_other l.at m le (ap is_timer f))).1))
    (cases_lt m.at l.at)

-- ---- what the lines saw

saw_here : (p : Params) (sees : List Line → ℕ) (past lines : List Line) (l : Line) → EachLine (Saw sees) (past ++ l ∷ lines) → Saw sees past l
saw_here p sees past lines l all = each-at (Saw sees) past lines l all

seen_value : (o : Option ℕ) (n : ℕ) → IfSome o (λ seen. seen ≡ n) → is_some o ≡ true → o ≡ Some n
seen_value None n h e = cc
seen_value (Some k) n h e = ap (λ (m : ℕ). Some m) h

seen_same : (o q : Option ℕ) (n : ℕ) → IfSome o (λ seen. seen ≡ n) → IfSome q (λ seen. seen ≡ n) → is_some o ≡ is_some q → o ≡ q
seen_same None None n h k e = refl
seen_same None (Some b) n h k e = cc
seen_same (Some a) None n h k e = cc
seen_same (Some a) (Some b) n h k e = ap (λ (m : ℕ). Some m) (h ∙ sym k)

one_sweep : (p : Params) (sees : List Line → ℕ) (past ra rb : List Line) (l m : Line) (clock : ℕ) → InRange p → IsLawful p (past ++ l ∷ ra) clock → IsLawful p (past ++ m ∷ rb) clock
    → EachLine (Saw sees) (past ++ l ∷ ra) → EachLine (Saw sees) (past ++ m ∷ rb) → l.op ≡ op.Sweep → m.op ≡ op.Sweep → l ≡ m
one_sweep p sees past ra rb l m clock r la lb sa sb e f =
    let x = sweep_facts p past ra l clock la e in
    let y = sweep_facts p past rb m clock lb f in
    let at = sweep_sweep p past ra rb l m clock r la lb e f in
    let here = saw_here p sees past ra l sa in
    let there = saw_here p sees past rb m sb in
    let looked = ap (λ (z : Line). is_some z.seen) x.1 in
    let looked_too = ap (λ (z : Line). is_some z.seen) y.1 in
    let seen = seen_same l.seen m.seen (sees (base_of past)) here there (looked ∙ sym looked_too) in
    x.1 ∙ (λ i. sweep_line (at i) (unwrap_or (seen i) 0)) ∙ sym y.1

-- ---- an operation's line

effect_same : (p : Params) (l m : Line) (s : State) (o : Op) → l.id ≡ m.id → is_own o ≡ true → effect p l s o ≡ effect p m s o
effect_same p l m s (op.Send key len) i own = ap (λ (x : Option OpId). Brings (event.Send (unwrap_or x (record { 0 = 0 })) (size_of len))) i
effect_same p l m s (op.Timer key) i own = cc
effect_same p l m s op.Sweep i own = cc
effect_same p l m s (op.Collect key) i own = cc
effect_same p l m s _ i own = refl

making_same : (p : Params) (base : List Line) (l m : Line) → l.id ≡ m.id → l.op ≡ m.op → is_own l.op ≡ true → making p base l ≡ making p base m
making_same p base l m i e own = by_key (key_of l.op) ∙ ap (made_by p base m) (ap key_of e) where
  by_key : (k : Option Key) → made_by p base l k ≡ made_by p base m k
  by_key None = refl
  by_key (Some key) =
      let same = effect_same p l m (state_of p base key) l.op i own ∙ ap (effect p m (state_of p base key)) e in
      ap (λ (x : Effect). if is_own l.op && not (is_present p base key) && brings_event x then Some key else None) same
      ∙ ap (λ (o : Op). if is_own o && not (is_present p base key) && brings_event (effect p m (state_of p base key) m.op) then Some key else None) e

-- an operation's line behind its collects fits
own_fits : (p : Params) (past rest : List Line) (w : Line) (clock : ℕ) → IsLawful p (past ++ (collects p past w ++ w ∷ rest)) clock → Fits p (past ++ collects p past w) w
own_fits p past rest w clock lawful =
    each-at (Fits p) (past ++ collects p past w) rest w
    (subst (EachLine (Fits p)) (sym (append_assoc past (collects p past w) (w ∷ rest))) (lawful-runs p (past ++ (collects p past w ++ w ∷ rest)) clock lawful).each)

own_saw : (p : Params) (sees : List Line → ℕ) (past rest : List Line) (w : Line) → base_of past ≡ past → EachLine (Saw sees) (past ++ (collects p past w ++ w ∷ rest)) → IfSome w.seen (λ seen. seen ≡ sees past)
own_saw p sees past rest w base all =
    subst (λ (b : List Line). IfSome w.seen (λ seen. seen ≡ sees b)) (base_of-collects past w.at (asked_of_pass p past w) ∙ base)
    (each-at (Saw sees) (past ++ collects p past w) rest w (subst (EachLine (Saw sees)) (sym (append_assoc past (collects p past w) (w ∷ rest))) all))

-- what stands before it and its `full` follow from its operation and from what it saw
collects_same : (p : Params) (past : List Line) (w v : Line) → w.at ≡ v.at → w.seen ≡ v.seen → making p past w ≡ making p past v → collects p past w ≡ collects p past v
collects_same p past w v at seen made =
    (λ i. map (collect_line (at i)) (if is_some (made i) && is_pass_due p (unwrap_or (seen i) 0) (last_pass p past) (at i) then collected p.gc_thresh2 (unwrap_or (seen i) 0) (λ key. is_collectable (at i) (state_of p past key)) (making_order p past) else []))

full_same : (p : Params) (past : List Line) (w v : Line) → w.seen ≡ v.seen → making p (base_of past) w ≡ making p (base_of past) v → full_of p past w ≡ full_of p past v
full_same p past w v seen made =
    (λ i. if is_some (made i) && nat_le p.gc_thresh3 (unwrap_or (seen i) 0 - (length past - length (base_of past))) then Some (unwrap_or (seen i) 0 - (length past - length (base_of past))) else None)

one_own : (p : Params) (sees : List Line → ℕ) (past ra rb : List Line) (w v : Line) (clock : ℕ) → base_of past ≡ past
    → IsLawful p (past ++ (collects p past w ++ w ∷ ra)) clock → IsLawful p (past ++ (collects p past v ++ v ∷ rb)) clock
    → EachLine (Saw sees) (past ++ (collects p past w ++ w ∷ ra)) → EachLine (Saw sees) (past ++ (collects p past v ++ v ∷ rb))
    → is_own w.op ≡ true → operation_of w ≡ operation_of v → w ≡ v
one_own p sees past ra rb w v clock base la lb sa sb own one =
    let at = ap (λ (o : Operation). o.at) one in
    let id = ap (λ (o : Operation). o.id) one in
    let same_op = ap (λ (o : Operation). o.op) one in
    let fw = own_fits p past ra w clock la in
    let fv = own_fits p past rb v clock lb in
    let bw = base_of-collects past w.at (asked_of_pass p past w) ∙ base in
    let bv = base_of-collects past v.at (asked_of_pass p past v) ∙ base in
    let made = λ (b : List Line). making_same p b w v id same_op own in
    let looked = fw.seen.there ∙ ap (λ (b : List Line). looks p b w) bw ∙ (λ i. is_sweep (same_op i) || is_some (made past i)) ∙ ap (λ (b : List Line). looks p b v) (sym bv) ∙ sym fv.seen.there in
    let seen = seen_same w.seen v.seen (sees past) (own_saw p sees past ra w base sa) (own_saw p sees past rb v base sb) looked in
    let before = collects_same p past w v at seen (made past) in
    let full = fw.full ∙ full_same p (past ++ collects p past w) w v seen (made (base_of (past ++ collects p past w))) ∙ ap (λ (xs : List Line). full_of p (past ++ xs) v) before ∙ sym fv.full in
    (λ i. record { at = at i; id = id i; op = same_op i; seen = seen i; full = full i })

-- ---- the lines of operations ahead

own_of_collects : (at : ℕ) (keys : List Key) (lines : List Line) → own_lines (map (collect_line at) keys ++ lines) ≡ own_lines lines
own_of_collects at [] lines = refl
own_of_collects at (key ∷ keys) lines = own_of_collects at keys lines

own_first : (l : Line) (rest : List Line) → is_own l.op ≡ true → own_lines (l ∷ rest) ≡ l ∷ own_lines rest
own_first l rest e = rw e refl

pub own_skip : (l : Line) (rest : List Line) → is_own l.op ≡ false → own_lines (l ∷ rest) ≡ own_lines rest
own_skip l rest e = rw e refl

pub own_ahead : (p : Params) (past rest : List Line) (w : Line) → is_own w.op ≡ true → own_lines (collects p past w ++ w ∷ rest) ≡ w ∷ own_lines rest
own_ahead p past rest w own =
    let keys = collects_keys p past w in
    ap (λ (xs : List Line). own_lines (xs ++ w ∷ rest)) keys.1 ∙ own_of_collects w.at keys.0 (w ∷ rest) ∙ own_first w rest own

skip_operation : (l : Line) (rest : List Line) → is_own l.op ≡ false → operations (l ∷ rest) ≡ operations rest
skip_operation l rest e = ap (map operation_of) (own_skip l rest e)

operation_ahead : (p : Params) (past rest : List Line) (w : Line) → is_own w.op ≡ true → operations (collects p past w ++ w ∷ rest) ≡ operation_of w ∷ operations rest
operation_ahead p past rest w own = ap (map operation_of) (own_ahead p past rest w own)

-- ---- one after the other

abbrev Same : Params → (List Line → ℕ) → ℕ → ℕ → Type 0
Same p sees clock n = (past a b : List Line) → length a < n → base_of past ≡ past → IsLawful p (past ++ a) clock → IsLawful p (past ++ b) clock → EachLine (Saw sees) (past ++ a) → EachLine (Saw sees) (past ++ b) → operations a ≡ operations b → a ≡ b

pub shorter : (seg ra : List Line) (l : Line) (n : ℕ) → length (seg ++ l ∷ ra) < suc n → length ra < n
shorter seg ra l n h = let e = length-append seg (l ∷ ra) in omega (arith, e, h)

-- the first lines are one, and the rest by what is known of shorter lists
go_on : (p : Params) (sees : List Line → ℕ) (clock n : ℕ) → Same p sees clock n → (past seg ra rb : List Line) (l : Line) → length (seg ++ l ∷ ra) < suc n → is_collect l.op ≡ false
    → IsLawful p (past ++ (seg ++ l ∷ ra)) clock → IsLawful p (past ++ (seg ++ l ∷ rb)) clock → EachLine (Saw sees) (past ++ (seg ++ l ∷ ra)) → EachLine (Saw sees) (past ++ (seg ++ l ∷ rb)) → operations ra ≡ operations rb → seg ++ l ∷ ra ≡ seg ++ l ∷ rb
go_on p sees clock n same past seg ra rb l short other la lb sa sb owns =
    let split = λ (rest : List Line). sym (append_assoc (past ++ seg) (l ∷ []) rest ∙ append_assoc past seg (l ∷ rest)) in
    ap (λ (rest : List Line). seg ++ l ∷ rest)
    (same ((past ++ seg) ++ l ∷ []) ra rb (shorter seg ra l n short) (base_of-other (past ++ seg) l other)
    (subst (λ (xs : List Line). IsLawful p xs clock) (split ra) la) (subst (λ (xs : List Line). IsLawful p xs clock) (split rb) lb)
    (subst (EachLine (Saw sees)) (split ra) sa) (subst (EachLine (Saw sees)) (split rb) sb) owns)

one_more : (p : Params) (sees : List Line → ℕ) (clock n : ℕ) → InRange p → Same p sees clock n → Same p sees clock (suc n)
one_more p sees clock n r same past a b short base la lb sa sb owns = compare (ahead a la) (ahead b lb) where
  ahead : (xs : List Line) → IsLawful p (past ++ xs) clock → Next p past xs
  ahead xs lawful = next p past xs base (each_behind p past xs clock lawful) lawful.orderly.passes_only

  at_end : (xs : List Line) → xs ≡ [] → IsLawful p (past ++ xs) clock → IsLawful p past clock
  at_end xs e lawful = subst (λ (ys : List Line). IsLawful p ys clock) (ap (λ (ys : List Line). past ++ ys) e ∙ append-nil past) lawful

  seen : (xs ys : List Line) → xs ≡ ys → IsLawful p (past ++ xs) clock → IsLawful p (past ++ ys) clock
  seen xs ys e lawful = subst (λ (zs : List Line). IsLawful p (past ++ zs) clock) e lawful

  saw : (xs ys : List Line) → xs ≡ ys → EachLine (Saw sees) (past ++ xs) → EachLine (Saw sees) (past ++ ys)
  saw xs ys e all = subst (λ (zs : List Line). EachLine (Saw sees) (past ++ zs)) e all

  own_none : (o : Operation) (rest : List Operation) → [] ≡ o ∷ rest → a ≡ b
  own_none o rest e = absurd (no_operation o rest (sym e))

  compare : Next p past a → Next p past b → a ≡ b
  compare (EndsHere e) (EndsHere f) = e ∙ sym f
  compare (EndsHere e) (TimerAhead m key rb f k) = absurd (nil_timer p past rb m key clock (at_end a e la) (seen b (m ∷ rb) f lb) k)
  compare (EndsHere e) (SweepAhead m rb f k) = absurd (nil_sweep p past rb m clock (at_end a e la) (seen b (m ∷ rb) f lb) k)
  compare (EndsHere e) (OwnAhead w rb f k) = own_none (operation_of w) (operations rb) (sym (ap operations e) ∙ owns ∙ ap operations f ∙ operation_ahead p past rb w k)
  compare (TimerAhead l key ra e k) (EndsHere f) = absurd (nil_timer p past ra l key clock (at_end b f lb) (seen a (l ∷ ra) e la) k)
  compare (SweepAhead l ra e k) (EndsHere f) = absurd (nil_sweep p past ra l clock (at_end b f lb) (seen a (l ∷ ra) e la) k)
  compare (OwnAhead w ra e k) (EndsHere f) = own_none (operation_of w) (operations ra) (sym (ap operations f) ∙ sym owns ∙ ap operations e ∙ operation_ahead p past ra w k)
  compare (TimerAhead l key ra e k) (SweepAhead m rb f j) = absurd (timer_sweep p past ra rb l m key clock r (seen a (l ∷ ra) e la) (seen b (m ∷ rb) f lb) k j)
  compare (SweepAhead l ra e k) (TimerAhead m key rb f j) = absurd (timer_sweep p past rb ra m l key clock r (seen b (m ∷ rb) f lb) (seen a (l ∷ ra) e la) j k)
  compare (TimerAhead l key ra e k) (OwnAhead w rb f j) =
      absurd (timer_own p past ra b l w (operations rb) key clock (seen a (l ∷ ra) e la) lb k (subst (λ (xs : List Line). Head xs w) (sym f) (head p past rb w j))
      (sym (skip_operation l ra (ap is_own k)) ∙ sym (ap operations e) ∙ owns ∙ ap operations f ∙ operation_ahead p past rb w j))
  compare (OwnAhead w ra e k) (TimerAhead m key rb f j) =
      absurd (timer_own p past rb a m w (operations ra) key clock (seen b (m ∷ rb) f lb) la j (subst (λ (xs : List Line). Head xs w) (sym e) (head p past ra w k))
      (sym (skip_operation m rb (ap is_own j)) ∙ sym (ap operations f) ∙ sym owns ∙ ap operations e ∙ operation_ahead p past ra w k))
  compare (SweepAhead l ra e k) (OwnAhead w rb f j) =
      absurd (sweep_own p past ra b l w (operations rb) clock r (seen a (l ∷ ra) e la) lb k (subst (λ (xs : List Line). Head xs w) (sym f) (head p past rb w j))
      (sym (skip_operation l ra (ap is_own k)) ∙ sym (ap operations e) ∙ owns ∙ ap operations f ∙ operation_ahead p past rb w j))
  compare (OwnAhead w ra e k) (SweepAhead m rb f j) =
      absurd (sweep_own p past rb a m w (operations ra) clock r (seen b (m ∷ rb) f lb) la j (subst (λ (xs : List Line). Head xs w) (sym e) (head p past ra w k))
      (sym (skip_operation m rb (ap is_own j)) ∙ sym (ap operations f) ∙ sym owns ∙ ap operations e ∙ operation_ahead p past ra w k))
  compare (TimerAhead l key ra e k) (TimerAhead m other rb f j) =
      let one = timer_timer p past ra rb l m key other clock (seen a (l ∷ ra) e la) (seen b (m ∷ rb) f lb) k j in
      let f2 = f ∙ ap (λ (x : Line). x ∷ rb) (sym one) in
      e
      ∙ go_on p sees clock n same past [] ra rb l (subst (λ (xs : List Line). length xs < suc n) e short) (ap is_collect k) (seen a (l ∷ ra) e la) (seen b (l ∷ rb) f2 lb) (saw a (l ∷ ra) e sa) (saw b (l ∷ rb) f2 sb)
      (sym (skip_operation l ra (ap is_own k)) ∙ sym (ap operations e) ∙ owns ∙ ap operations f2 ∙ skip_operation l rb (ap is_own k))
      ∙ sym f2
  compare (SweepAhead l ra e k) (SweepAhead m rb f j) =
      let one = one_sweep p sees past ra rb l m clock r (seen a (l ∷ ra) e la) (seen b (m ∷ rb) f lb) (saw a (l ∷ ra) e sa) (saw b (m ∷ rb) f sb) k j in
      let f2 = f ∙ ap (λ (x : Line). x ∷ rb) (sym one) in
      e
      ∙ go_on p sees clock n same past [] ra rb l (subst (λ (xs : List Line). length xs < suc n) e short) (ap is_collect k) (seen a (l ∷ ra) e la) (seen b (l ∷ rb) f2 lb) (saw a (l ∷ ra) e sa) (saw b (l ∷ rb) f2 sb)
      (sym (skip_operation l ra (ap is_own k)) ∙ sym (ap operations e) ∙ owns ∙ ap operations f2 ∙ skip_operation l rb (ap is_own k))
      ∙ sym f2
  compare (OwnAhead w ra e k) (OwnAhead v rb f j) =
      let both = sym (operation_ahead p past ra w k) ∙ sym (ap operations e) ∙ owns ∙ ap operations f ∙ operation_ahead p past rb v j in
      let one = one_own p sees past ra rb w v clock base (seen a (collects p past w ++ w ∷ ra) e la) (seen b (collects p past v ++ v ∷ rb) f lb) (saw a (collects p past w ++ w ∷ ra) e sa) (saw b (collects p past v ++ v ∷ rb) f sb) k (operation_first (operation_of w) (operation_of v) (operations ra) (operations rb) both) in
      let f2 = f ∙ ap (λ (x : Line). collects p past x ++ x ∷ rb) (sym one) in
      e
      ∙ go_on p sees clock n same past (collects p past w) ra rb w (subst (λ (xs : List Line). length xs < suc n) e short) (own_kind w.op k).1 (seen a (collects p past w ++ w ∷ ra) e la) (seen b (collects p past w ++ w ∷ rb) f2 lb) (saw a (collects p past w ++ w ∷ ra) e sa) (saw b (collects p past w ++ w ∷ rb) f2 sb)
      (operation_rest (operation_of w) (operation_of v) (operations ra) (operations rb) both)
      ∙ sym f2

same_for : (p : Params) (sees : List Line → ℕ) (clock : ℕ) → InRange p → (n : ℕ) → Same p sees clock n
same_for p sees clock r zero past a b short base la lb sa sb owns = absurd (no_length (length a) short) where
  no_length : (m : ℕ) → m < 0 → ⊥
  no_length m h = omega (arith, h)
same_for p sees clock r (suc n) past a b short base la lb sa sb owns = one_more p sees clock n r (same_for p sees clock r n) past a b short base la lb sa sb owns

pub lawful_are_one : LawfulAreOne
lawful_are_one p sees a b clock r la lb sa sb owns = same_for p sees clock r (suc (length a)) [] a b (omega arith) refl la lb sa sb owns
