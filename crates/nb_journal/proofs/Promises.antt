-- The laws of journals, as they are promised.
use Rattle.std.proofs.Common.{◌≡◌, ⊎_elim, ℕ, ◌+◌, ◌≤◌, List, [], ◌∷◌, ◌++◌, Some, refl, ◌∙◌, ap}
use Rattle.nb_base.specs.declared.key.Key.{Key}
use Rattle.nb_base.specs.declared.params.Params.{Params}
use Rattle.nb_base.specs.declared.line.Line.{Line}
use Rattle.nud_machine.specs.declared.event.Event.TheVariants as event
use Rattle.nud_machine.specs.State.{Stepped}
use Rattle.nud_machine.specs.Step.{step}
use Rattle.nb_journal.specs.Fold.{state_of}
use Rattle.nb_journal.specs.Lawful.{due_of}
use Rattle.nb_journal.specs.Accounts.{timer_line}
use Rattle.nb_journal.specs.Laws.{DuesLieAhead, SweepsCutInTwo, CellsPublishStates, TimersLower}
use Rattle.nb_journal.proofs.Changes.{is_key-same, change-named}
use Rattle.nb_journal.proofs.Lines.{each-map}
use Rattle.nb_journal.proofs.Folds.{state_of-snoc}
use Rattle.nb_journal.proofs.Dues.{due-snoc}
use Rattle.nb_journal.proofs.Fits.{Fits, timely, lawful-runs, before_sweep-front, IsTimely}
use Rattle.nb_journal.proofs.Potential.{state_of-timed, due-timed, timer-lowers}
use Rattle.nb_journal.proofs.Publishes.{published-nil, published-snoc, published-last}

pub dues_ahead : DuesLieAhead
dues_ahead p lines l key due r now new = ⊎_elim (λ (old : due_of p lines key ≡ Some due). absurd (new old)) (λ (ahead : l.at + 10 ≤ due). ahead) (due-snoc p lines l key r due now)

pub cut_in_two : SweepsCutInTwo
cut_in_two p journal clock u r lawful = before_sweep-front p journal u r (each-map (Fits p) (IsTimely p) journal (timely p) (lawful-runs p journal clock lawful).each)

pub publish_states : CellsPublishStates
publish_states p host key = record { first = published-nil p host key; next = λ lines l. published-snoc p host lines l key; last = λ lines. published-last p host lines key }

-- a timer's line steps its key's entry
pub timer-steps : (p : Params) (lines : List Line) (key : Key) (at : ℕ) → due_of p lines key ≡ Some at → state_of p (lines ++ timer_line at key ∷ []) key ≡ (step p at (state_of p lines key) event.Timer).state
timer-steps p lines key at due =
    let present = (due-timed (state_of p lines key).entry at (state_of-timed p lines key) due).0 in
    state_of-snoc p lines (timer_line at key) key
    ∙ ap (λ (t : Stepped). t.state) (change-named p (timer_line at key) key key (state_of p lines key) refl (is_key-same key) refl)
    ∙ rw present refl

pub timers_lower : TimersLower
timers_lower p lines key at r due = rw (timer-steps p lines key at due) (timer-lowers p at (state_of p lines key) r (state_of-timed p lines key) due)
