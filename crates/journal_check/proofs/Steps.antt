-- What the evaluator's steps come to.
use Rattle.std.proofs.Common.{◌≡◌, ℕ, ◌≤◌, Bool, true, false, is_some, List, [], ◌∷◌, length, refl, arith}
use Rattle.std.specs.Prelude.{◌&&◌}
use Rattle.std.proofs.lemmas.Bool.{cond_both}
use Rattle.nb_base.specs.declared.key.Key.{Key}
use Rattle.nb_base.specs.declared.params.Params.{Params}
use Rattle.nb_base.specs.declared.op.Op.{Op}
use Rattle.nb_base.specs.declared.op.Op.TheVariants as op
use Rattle.nb_base.specs.declared.line.Line.{Line}
use Rattle.nud_machine.specs.Asked.{greatest}
use Rattle.nud_machine.specs.State.{State}
use Rattle.nb_journal.specs.Keys.{is_own}
use Rattle.nb_journal.specs.Steps.{IsTimersDue}
use Rattle.nb_journal.specs.Fold.{seen_of}
use Rattle.nb_journal.specs.Lawful.{pass_after, making, base_of, is_pass_due}
use Rattle.journal_check.specs.Evaluated.{are_collects, is_collect_of}

-- an own line is no timer's
pub own_no_timer : (key : Key) (at : ℕ) (s : State) (o : Op) → is_own o ≡ true → IsTimersDue key at s o
own_no_timer key at s (op.Timer named) e = cc
own_no_timer key at s _ e = tt

-- lines and keys of different number aren't collects of them
pub are_collects-uneven : (at : ℕ) (lines : List Line) (keys : List Key) → (length lines ≡ length keys → ⊥) → are_collects at lines keys ≡ false
are_collects-uneven at [] [] ne = absurd (ne refl)
are_collects-uneven at [] (key ∷ keys) ne = refl
are_collects-uneven at (line ∷ lines) [] ne = refl
are_collects-uneven at (line ∷ lines) (key ∷ keys) ne = by_test (is_collect_of at key line) (are_collects-uneven at lines keys (λ e. ne (omega (arith, e)))) where
  by_test : (t : Bool) → are_collects at lines keys ≡ false → (t && are_collects at lines keys) ≡ false
  by_test true e = e
  by_test false e = refl

-- a pass is at a moment of a run
pub pass_after-within : (p : Params) (last : ℕ) (past : List Line) (line : Line) → last ≤ greatest → line.at ≤ greatest → pass_after p last past line ≤ greatest
pass_after-within p last past line a b =
    cond_both (is_some (making p (base_of past) line) && is_pass_due p (seen_of line) last line.at) line.at last (λ (n : ℕ). n ≤ greatest) (λ e. b) (λ e. a)
