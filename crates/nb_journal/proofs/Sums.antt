-- Sums over keys.
use Rattle.std.proofs.Common.{ℕ, ◌+◌, List, [], ◌∷◌}
use Rattle.nb_base.specs.declared.key.Key.{Key}
use Rattle.nb_base.specs.declared.params.Params.{Params}
use Rattle.nb_base.specs.declared.line.Line.{Line}
use Rattle.nb_journal.specs.Fold.{state_of, known_keys}
use Rattle.nb_journal.specs.Accounts.{potential}

-- the sum of a number of each key
abbrev pub sum_over : (Key → ℕ) → List Key → ℕ
sum_over number [] = 0
sum_over number (key ∷ keys) = number key + sum_over number keys

-- the sum of the potentials of all keys
unfoldable pub total_potential : Params → List Line → ℕ
total_potential p journal = sum_over (λ key. potential p (state_of p journal key).entry) (known_keys journal)
