-- The fold of a journal over one line more.
use Rattle.std.proofs.Common.{◌≡◌, ◌+◌, ◌≤◌, Bool, List, [], ◌∷◌, ◌++◌, length, Option, Some, None, refl, arith}
use Rattle.std.specs.Prelude.{filter}
use Rattle.std.specs.List.{list_any}
use Rattle.std.proofs.lemmas.Bool.{cond_both}
use Rattle.std.proofs.lemmas.List.{length-append}
use Rattle.std.proofs.lemmas.List.Sums.{fold-append}
use Rattle.nb_base.specs.declared.key.Key.{Key}
use Rattle.nb_base.specs.declared.params.Params.{Params}
use Rattle.nb_base.specs.declared.line.Line.{Line}
use Rattle.nud_machine.specs.State.{State, absent}
use Rattle.nb_journal.specs.Keys.{is_key, made_known}
use Rattle.nb_journal.specs.Fold.{change, state_of, with_key, known_keys, is_present, present_count}
use Rattle.nb_journal.specs.Lawful.{pass_after, last_pass, order_after, making_order}
use Rattle.nb_journal.proofs.Lines.{by_last, fold_lines-snoc}

pub state_of-nil : (p : Params) (key : Key) → state_of p [] key ≡ absent
unfolding state_of
state_of-nil p key = refl

pub state_of-snoc : (p : Params) (lines : List Line) (l : Line) (key : Key) → state_of p (lines ++ l ∷ []) key ≡ (change p l key (state_of p lines key)).state
unfolding state_of
state_of-snoc p lines l key = fold-append (λ (s : State) (x : Line). (change p x key s).state) absent lines (l ∷ [])

pub known_keys-nil : known_keys [] ≡ []
unfolding known_keys
known_keys-nil = refl

pub known_keys-snoc : (lines : List Line) (l : Line) → known_keys (lines ++ l ∷ []) ≡ with_key (known_keys lines) (made_known l.op)
unfolding known_keys
known_keys-snoc lines l = fold-append (λ (keys : List Key) (x : Line). with_key keys (made_known x.op)) [] lines (l ∷ [])

pub present_count-is : (p : Params) (lines : List Line) → present_count p lines ≡ length (filter (is_present p lines) (known_keys lines))
unfolding present_count
present_count-is p lines = refl

pub last_pass-nil : (p : Params) → last_pass p [] ≡ 0
unfolding last_pass
last_pass-nil p = refl

pub last_pass-snoc : (p : Params) (lines : List Line) (l : Line) → last_pass p (lines ++ l ∷ []) ≡ pass_after p (last_pass p lines) lines l
unfolding last_pass
last_pass-snoc p lines l = fold_lines-snoc (pass_after p) 0 lines l

pub making_order-nil : (p : Params) → making_order p [] ≡ []
unfolding making_order
making_order-nil p = refl

pub making_order-snoc : (p : Params) (lines : List Line) (l : Line) → making_order p (lines ++ l ∷ []) ≡ order_after p (making_order p lines) lines l
unfolding making_order
making_order-snoc p lines l = fold_lines-snoc (order_after p) [] lines l

-- ---- no more keys than lines

pub filter_within : {A : Type 0} (test : A → Bool) (xs : List A) → length (filter test xs) ≤ length xs
filter_within test [] = omega arith
filter_within test (x ∷ xs) =
    let rest = filter_within test xs in
    cond_both (test x) (x ∷ filter test xs) (filter test xs) (λ (ys : List _). length ys ≤ length (x ∷ xs)) (λ e. omega (arith, rest)) (λ e. omega (arith, rest))

with_key-within : (keys : List Key) (new : Option Key) → length (with_key keys new) ≤ length keys + 1
with_key-within keys None = omega arith
with_key-within keys (Some key) =
    cond_both (list_any (λ other. is_key other key) keys) keys (keys ++ key ∷ []) (λ (ys : List Key). length ys ≤ length keys + 1)
    (λ e. omega arith) (λ e. omega (arith, length-append keys (key ∷ [])))

pub known_keys-within : (lines : List Line) → length (known_keys lines) ≤ length lines
known_keys-within = by_last (λ (xs : List Line). length (known_keys xs) ≤ length xs) (rw known_keys-nil (omega arith)) more where
  more : (xs : List Line) (x : Line) → length (known_keys xs) ≤ length xs → length (known_keys (xs ++ x ∷ [])) ≤ length (xs ++ x ∷ [])
  more xs x h = rw (known_keys-snoc xs x, length-append xs (x ∷ [])) (omega (arith, h, with_key-within (known_keys xs) (made_known x.op)))

-- no more entries are present than there are lines
pub present_count-within : (p : Params) (lines : List Line) → present_count p lines ≤ length lines
present_count-within p lines = rw (present_count-is p lines) (omega (arith, filter_within (is_present p lines) (known_keys lines), known_keys-within lines))
