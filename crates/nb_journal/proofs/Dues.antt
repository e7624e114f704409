-- The dues behind one line more.
use Rattle.std.proofs.Common.{◌≡◌, ◌⊎◌, inl, inr, ⊎_elim, ℕ, ◌+◌, ◌<◌, ◌≤◌, Bool, true, false, is_some, if◌then◌else◌, List, [], ◌∷◌, ◌++◌, Option, Some, None, refl, sym, ◌∙◌, ap, subst, arith}
use Rattle.std.specs.Prelude.{IfSome}
use Rattle.std.proofs.lemmas.Bool.{cond_both}
use Rattle.nb_base.specs.declared.key.Key.{Key}
use Rattle.nb_base.specs.declared.params.Params.{Params}
use Rattle.nb_base.specs.declared.op.Op.{Op}
use Rattle.nb_base.specs.declared.op.Op.TheVariants as op
use Rattle.nb_base.specs.declared.line.Line.{Line}
use Rattle.nb_base.specs.Params.{InRange}
use Rattle.nud_machine.specs.State.{State, Stepped, made, stays}
use Rattle.nb_journal.specs.Keys.{is_key, key_of}
use Rattle.nb_journal.specs.Fold.{Effect, Passes, Refuses, Brings, effect, meet, turn_away, change_by, change, state_of}
use Rattle.nb_journal.specs.Lawful.{due_of, NothingDue, NothingOverdue}
use Rattle.nud_machine.specs.Step.{step}
use Rattle.nb_journal.proofs.Steps.{Rises, step_rises}
use Rattle.nb_journal.proofs.Folds.{state_of-nil, state_of-snoc}

turn_away-stays : (l : Line) (s : State) (o : Op) → (turn_away l s o).state ≡ s
turn_away-stays l s (op.Send key len) = refl
turn_away-stays l s _ = refl

-- a line leaves a state alone, or its effect meets it
pub change-either : (P : State → Type 0) (p : Params) (l : Line) (key : Key) (s : State) → P s → P (meet p l s (effect p l s l.op)).state → P (change p l key s).state
unfolding change
change-either P p l key s same met = by_key (key_of l.op) where
  by_key : (o : Option Key) → P (change_by p l key s o).state
  by_key None = met
  by_key (Some named) =
      cond_both (is_key named key) (if is_some l.full then turn_away l s l.op else meet p l s (effect p l s l.op)) (stays s) (λ (t : Stepped). P t.state)
      (λ e. cond_both (is_some l.full) (turn_away l s l.op) (meet p l s (effect p l s l.op)) (λ (t : Stepped). P t.state) (λ f. subst P (sym (turn_away-stays l s l.op)) same) (λ f. met))
      (λ e. same)

meet_rises : (p : Params) (l : Line) (s : State) (e : Effect) → InRange p → Rises l.at s.entry.due (meet p l s e).state.entry.due
meet_rises p l s Passes r d h = inl h
meet_rises p l s (Refuses x) r d h = inl h
meet_rises p l s (Brings e) r d h = by_present s.entry.present refl h where
  by_present : (t : Bool) → s.entry.present ≡ t → (step p l.at (if t then s else made l.at) e).state.entry.due ≡ Some d → (s.entry.due ≡ Some d) ⊎ (l.at + 10 ≤ d)
  by_present true i g = step_rises p l.at s e r d g
  by_present false i g = ⊎_elim (λ (none : None ≡ Some d). absurd cc) (λ (ahead : l.at + 10 ≤ d). inr ahead) (step_rises p l.at (made l.at) e r d g)

change_rises : (p : Params) (l : Line) (key : Key) (s : State) → InRange p → Rises l.at s.entry.due (change p l key s).state.entry.due
change_rises p l key s r = change-either (λ (t : State). Rises l.at s.entry.due t.entry.due) p l key s (λ d h. inl h) (meet_rises p l s (effect p l s l.op) r)

-- a due behind one line more is an old one, or lies at least ten milliseconds behind the line
pub due-snoc : (p : Params) (lines : List Line) (l : Line) (key : Key) → InRange p → Rises l.at (due_of p lines key) (due_of p (lines ++ l ∷ []) key)
due-snoc p lines l key r d h = change_rises p l key (state_of p lines key) r d (ap (λ (s : State). s.entry.due) (sym (state_of-snoc p lines l key)) ∙ h)

-- every due lies at a moment or behind it
abbrev pub DuesFrom : Params → List Line → ℕ → Type 0
DuesFrom p journal m = (key : Key) (d : ℕ) → due_of p journal key ≡ Some d → m ≤ d

if_some : (o : Option ℕ) (Q : ℕ → Type 0) → ((d : ℕ) → o ≡ Some d → Q d) → IfSome o Q
if_some None Q h = tt
if_some (Some d) Q h = h d refl

if_some_at : (o : Option ℕ) (Q : ℕ → Type 0) (d : ℕ) → IfSome o Q → o ≡ Some d → Q d
if_some_at o Q d h e = subst (λ (x : Option ℕ). IfSome x Q) e h

pub nothing_due-from : (p : Params) (journal : List Line) (m : ℕ) → DuesFrom p journal (m + 1) → NothingDue p journal m
nothing_due-from p journal m h key = if_some (due_of p journal key) (λ d. m < d) (λ d e. let le = h key d e in omega (arith, le))

pub dues_from-nothing_due : (p : Params) (journal : List Line) (m : ℕ) → NothingDue p journal m → DuesFrom p journal (m + 1)
dues_from-nothing_due p journal m h key d e = let lt = if_some_at (due_of p journal key) (λ x. m < x) d (h key) e in omega (arith, lt)

pub nothing_overdue-from : (p : Params) (journal : List Line) (m : ℕ) → DuesFrom p journal m → NothingOverdue p journal m
nothing_overdue-from p journal m h key = if_some (due_of p journal key) (λ d. m ≤ d) (λ d e. h key d e)

pub dues_from-nothing_overdue : (p : Params) (journal : List Line) (m : ℕ) → NothingOverdue p journal m → DuesFrom p journal m
dues_from-nothing_overdue p journal m h key d e = if_some_at (due_of p journal key) (λ x. m ≤ x) d (h key) e

pub dues_from-less : (p : Params) (journal : List Line) (m n : ℕ) → m ≤ n → DuesFrom p journal n → DuesFrom p journal m
dues_from-less p journal m n le h key d e = let at = h key d e in omega (arith, le, at)

pub dues_from-nil : (p : Params) (m : ℕ) → DuesFrom p [] m
dues_from-nil p m key d e = absurd (no_due (ap (λ (s : State). s.entry.due) (sym (state_of-nil p key)) ∙ e)) where
  no_due : None ≡ Some d → ⊥
  no_due h = cc

-- dues lie from a moment on behind one line more, where they did and the moment isn't far behind the line
pub dues_from-snoc : (p : Params) (lines : List Line) (l : Line) (m : ℕ) → InRange p → m ≤ l.at + 10 → DuesFrom p lines m → DuesFrom p (lines ++ l ∷ []) m
dues_from-snoc p lines l m r le from key d e = ⊎_elim
    (λ (old : due_of p lines key ≡ Some d). from key d old)
    (λ (ahead : l.at + 10 ≤ d). omega (arith, le, ahead))
    (due-snoc p lines l key r d e)
