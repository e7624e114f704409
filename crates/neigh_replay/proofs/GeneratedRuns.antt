-- How a generated run may end.
use Rattle.std.proofs.Common.{◌≡◌, ℕ, Bool, false, List, [], ◌∷◌, refl, sym, subst, inl, inr}
use Rattle.std.specs.Prelude.{◌||◌, ◌==◌, IsTrue, take}
use Rattle.std.proofs.lemmas.Bool.Decides.{eqb_tells}
use Rattle.neigh_replay.specs.Status.{IsOneOf, memory_line, write_line}
use Rattle.neigh_replay.specs.Replay.{SinkCall, SinkSays, SinkTakes, SinkFailed, IsUntouched}
use Rattle.neigh_replay.specs.Generated.{IsSummary, IsGeneratedRun, GeneratedRunsAreComplete}

pub generated_written : (number : ℕ) (out err : SinkCall) (text : List ℕ) → IsSummary number text → SinkTakes out text → IsUntouched err → IsGeneratedRun number out err 0
generated_written number out err text given written quiet = record {
  ended = refl;
  written = λ e. record { text = text; given = given; written = written; quiet = quiet };
  no_memory = λ e. absurd cc;
  cannot_write = λ e. absurd cc;
}

pub generated_without_memory : (number : ℕ) (out err : SinkCall) → IsUntouched out → SinkSays err memory_line → IsGeneratedRun number out err 1
generated_without_memory number out err untouched said = record {
  ended = refl;
  written = λ e. absurd cc;
  no_memory = λ e. record { untouched = untouched; said = said };
  cannot_write = λ e. absurd cc;
}

pub generated_in_part : (number : ℕ) (out err : SinkCall) (text : List ℕ) → IsSummary number text → SinkFailed out → (n : ℕ) × SinkTakes out (take n text) → SinkSays err write_line → IsGeneratedRun number out err 6
generated_in_part number out err text given failed (n, part) said = record {
  ended = refl;
  written = λ e. absurd cc;
  no_memory = λ e. absurd cc;
  cannot_write = λ e. record { text = text; given = given; failed = failed; count = n; part = part; said = said };
}

pub generated_complete : GeneratedRunsAreComplete
generated_complete number out err status run quiet =
    elim (eqb_tells 6 status) [
      | inl six ↦ absurd (quiet (run.cannot_write (sym six.1)).failed)
      | inr other ↦ subst (λ (b : Bool). IsTrue ((0 == status) || ((1 == status) || (b || false)))) other.0 run.ended
    ]

-- it never has the status of other words
pub generated_not_usage : (number : ℕ) (out err : SinkCall) (status : ℕ) → IsGeneratedRun number out err status → status ≡ 2 → ⊥
generated_not_usage number out err status run two = let ended : IsOneOf (0 ∷ 1 ∷ 6 ∷ []) 2 = subst (IsOneOf (0 ∷ 1 ∷ 6 ∷ [])) two run.ended in cc
