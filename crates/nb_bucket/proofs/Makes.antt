-- The order of making and the moment of the last forced pass, behind one line more.
use Rattle.std.proofs.Common.{◌≡◌, ℕ, Bool, true, false, ◌||◌, is_some, if◌then◌else◌, List, [], ◌∷◌, ◌++◌, Option, Some, None, refl, sym, ◌∙◌, ap, subst, arith, append-nil}
use Rattle.std.specs.Prelude.{filter}
use Rattle.std.specs.Option.{option_to_list}
use Rattle.nb_base.specs.declared.key.Key.{Key}
use Rattle.nb_base.specs.declared.params.Params.{Params}
use Rattle.nb_base.specs.declared.op.Op.{Op}
use Rattle.nb_base.specs.declared.op.Op.TheVariants as op
use Rattle.nb_base.specs.declared.line.Line.{Line}
use Rattle.nud_machine.specs.State.{State, made}
use Rattle.nud_machine.specs.Step.{step}
use Rattle.nb_journal.specs.Keys.{is_key, key_of, is_own}
use Rattle.nb_journal.specs.Fold.{Effect, Passes, Refuses, Brings, effect, meet, state_of, is_present}
use Rattle.nb_journal.specs.Lawful.{base_of, made_by, making, last_pass, making_order}
use Rattle.nb_journal.specs.Keys.{has_key}
use Rattle.nb_journal.proofs.Changes.{is_key-same}
use Rattle.nb_journal.proofs.Folds.{state_of-snoc, making_order-snoc, last_pass-snoc}
use Rattle.nb_journal.proofs.Dues.{change-either}
use Rattle.nb_journal.proofs.Orders.{is_remove, step_present, order-is}

-- ---- lists of keys

pub filter_all : (test : Key → Bool) (keys : List Key) → ((key : Key) → has_key keys key ≡ true → test key ≡ true) → filter test keys ≡ keys
filter_all test [] h = refl
filter_all test (k ∷ ks) h =
    rw (h k (ap (λ (b : Bool). b || has_key ks k) (is_key-same k)))
    (ap (λ (xs : List Key). k ∷ xs) (filter_all test ks (λ key there. h key (later key there)))) where
      later : (key : Key) → has_key ks key ≡ true → (is_key k key || has_key ks key) ≡ true
      later key there = grind (arith, there)

-- ---- presence

-- an operation that can remove an entry
abbrev pub may_remove : Op → Bool
may_remove (op.Del key) = true
may_remove op.Flush = true
may_remove op.Sweep = true
may_remove (op.Collect key) = true
may_remove _ = false

abbrev removes : Effect → Bool
removes (Brings e) = is_remove e
removes _ = false

effect_keeps : (p : Params) (l : Line) (s : State) (o : Op) → may_remove o ≡ false → removes (effect p l s o) ≡ false
effect_keeps p l s (op.Del key) e = cc
effect_keeps p l s op.Flush e = cc
effect_keeps p l s op.Sweep e = cc
effect_keeps p l s (op.Collect key) e = cc
effect_keeps p l s _ e = grind arith

meet_keeps : (p : Params) (l : Line) (s : State) (e : Effect) → removes e ≡ false → s.entry.present ≡ true → (meet p l s e).state.entry.present ≡ true
meet_keeps p l s Passes keeps i = i
meet_keeps p l s (Refuses r) keeps i = i
meet_keeps p l s (Brings e) keeps i = subst (λ (t : Bool). (step p l.at (if t then s else made l.at) e).state.entry.present ≡ true) (sym i) (step_present p l.at s e keeps i)

-- a line that can't remove an entry leaves each that is there
pub present-stays : (p : Params) (lines : List Line) (l : Line) (key : Key) → may_remove l.op ≡ false → is_present p lines key ≡ true → is_present p (lines ++ l ∷ []) key ≡ true
present-stays p lines l key keeps i =
    ap (λ (s : State). s.entry.present) (state_of-snoc p lines l key)
    ∙ change-either (λ (s : State). s.entry.present ≡ true) p l key (state_of p lines key) i (meet_keeps p l (state_of p lines key) (effect p l (state_of p lines key) l.op) (effect_keeps p l (state_of p lines key) l.op keeps) i)

-- ---- the order of making

-- those that are still present, and the key that the line makes
pub order-snoc : (p : Params) (lines : List Line) (l : Line) (made : List Key) → made ≡ (if is_some l.full then [] else option_to_list (making p (base_of lines) l))
    → making_order p (lines ++ l ∷ []) ≡ filter (is_present p (lines ++ l ∷ [])) (making_order p lines) ++ made
order-snoc p lines l made e = making_order-snoc p lines l ∙ ap (λ (xs : List Key). filter (is_present p (lines ++ l ∷ [])) (making_order p lines) ++ xs) (sym e)

-- all are, behind a line that can't remove an entry
pub order-stays : (p : Params) (lines : List Line) (l : Line) → may_remove l.op ≡ false → filter (is_present p (lines ++ l ∷ [])) (making_order p lines) ≡ making_order p lines
order-stays p lines l keeps = filter_all (is_present p (lines ++ l ∷ [])) (making_order p lines) (λ key there. present-stays p lines l key keeps ((order-is p lines).present key there))

-- ---- lines that make no entry

by_made : (p : Params) (base : List Line) (l : Line) (o : Option Key) → is_own l.op ≡ false → made_by p base l o ≡ None
by_made p base l None e = refl
by_made p base l (Some key) e = rw e refl

-- only an operation makes an entry
pub making-none : (p : Params) (base : List Line) (l : Line) → is_own l.op ≡ false → making p base l ≡ None
making-none p base l e = by_made p base l (key_of l.op) e

pub made-none : (p : Params) (lines : List Line) (l : Line) → is_own l.op ≡ false → [] ≡ (if is_some l.full then [] else option_to_list (making p (base_of lines) l))
made-none p lines l e = by_full l.full (making p (base_of lines) l) (making-none p (base_of lines) l e) where
  by_full : (full : Option ℕ) (made : Option Key) → made ≡ None → [] ≡ (if is_some full then [] else option_to_list made)
  by_full None made m = rw m refl
  by_full (Some n) made m = refl

pub order-removed : (p : Params) (lines : List Line) (l : Line) → is_own l.op ≡ false → making_order p (lines ++ l ∷ []) ≡ filter (is_present p (lines ++ l ∷ [])) (making_order p lines)
order-removed p lines l e = order-snoc p lines l [] (made-none p lines l e) ∙ append-nil (filter (is_present p (lines ++ l ∷ [])) (making_order p lines))

-- a timer's line changes nothing of the order
pub order-same : (p : Params) (lines : List Line) (l : Line) → is_own l.op ≡ false → may_remove l.op ≡ false → making_order p (lines ++ l ∷ []) ≡ making_order p lines
order-same p lines l e keeps = order-removed p lines l e ∙ order-stays p lines l keeps

-- no line but an operation's has a forced pass
pub pass-same : (p : Params) (lines : List Line) (l : Line) → is_own l.op ≡ false → last_pass p (lines ++ l ∷ []) ≡ last_pass p lines
pass-same p lines l e = last_pass-snoc p lines l ∙ rw (making-none p (base_of lines) l e) refl
