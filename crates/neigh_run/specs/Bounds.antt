-- What a sender's packet may have read of its neighbour's cell: the number of a published record, within bounds, or four tries that failed (the sequence lock is Linux's, seqlock.h; windows, marks and the four tries are this project's own).
use Rattle.std.specs.Prelude.{◌≡◌, ℕ, ◌+◌, ◌*◌, ◌≤◌, max, Bool, true, false, if◌then◌else◌, List, fold, length, take, Some, slice_get}
use Rattle.std.specs.List.{AllByRecursion}
use Rattle.hh_core.specs.Step.{is_good}
use Rattle.hh_core.specs.Safe.{both_numbers}
use Rattle.nb_base.specs.declared.key.Key.{Key}
use Rattle.nb_base.specs.declared.host.Host.{Host}
use Rattle.nb_base.specs.declared.params.Params.{Params}
use Rattle.nb_base.specs.declared.record.Record.{Record}
use Rattle.nb_base.specs.declared.line.Line.{Line}
use Rattle.nb_base.specs.declared.outcome.Why.TheVariants as why
use Rattle.nb_base.specs.declared.outcome.Outcome.{Outcome}
use Rattle.nb_base.specs.declared.outcome.Outcome.TheVariants as outcome
use Rattle.nb_journal.specs.Keys.{is_key}
use Rattle.nb_journal.specs.Accounts.{last_number}
use Rattle.neigh_run.specs.Plan.{RisesFrom}

-- a packet of a sender, with what became of it; `n` is its number among the sender's items
pub record Handled : Type 0 where
  pub n : ℕ
  pub at : ℕ
  pub key : Key
  pub outcome : Outcome

-- the number of the key's last record among those that a journal's first lines publish
abbrev pub number_at : Params → Host → List Line → Key → ℕ → ℕ
number_at p host journal key lines = last_number p host (take lines journal) key

-- ---- what a sender has seen of a key

-- the number that an outcome shows its sender: that of a header or of a record that it read, and that which its own line left
abbrev pub number_seen : Params → Host → List Line → Key → Outcome → ℕ
number_seen p host journal key (outcome.Fast number header) = number
number_seen p host journal key (outcome.Slow (why.Suspect number) place reply) = max number (number_at p host journal key (place + 1))
number_seen p host journal key (outcome.Slow _ place reply) = number_at p host journal key (place + 1)

-- the greatest of those that the sender's earlier packets to the key show
abbrev pub known_number : Params → Host → List Line → Key → List Handled → ℕ
known_number p host journal key earlier = fold (λ (known : ℕ) (packet : Handled). if is_key packet.key key then max known (number_seen p host journal key packet.outcome) else known) 0 earlier

-- ---- bounds

-- a number isn't below the last one at the window's own mark, nor below what the sender had seen, and not above the last one at the next mark
pub record IsInBounds (low seen high number : ℕ) : Type 0 where
  pub marked : low ≤ number
  pub known : seen ≤ number
  pub next : number ≤ high

-- all four tries are failed, which a try is but where its first number is even and the second is the same; and their eight numbers, in order, never fall and are in the bounds, which are twice those of records
pub record AreInBounds (low seen high : ℕ) (tries : List (ℕ × ℕ)) : Type 0 where
  pub four : length tries ≡ 4
  pub failed : AllByRecursion (λ (read : ℕ × ℕ). is_good read ≡ false) tries
  pub rises : RisesFrom 0 (both_numbers tries)
  pub within : AllByRecursion (λ (n : ℕ). IsInBounds (2 * low) (2 * seen) (2 * high) n) (both_numbers tries)

-- the record of this number is there, and this holds of it
abbrev pub HasRecord : List Record → ℕ → (Record → Type 0) → Type 0
HasRecord records number P = (r : Record) × (slice_get records number ≡ Some r) × P r

-- what an outcome shows is in the bounds: a header is that of a usable record with its number; a record that stopped it isn't usable
abbrev pub IsBounded : List Record → ℕ → ℕ → ℕ → Outcome → Type 0
IsBounded records low seen high (outcome.Fast number header) = IsInBounds low seen high number × HasRecord records number (λ r. r ≡ record { usable = true; header = header })
IsBounded records low seen high (outcome.Slow (why.Suspect number) place reply) = IsInBounds low seen high number × HasRecord records number (λ r. r.usable ≡ false)
IsBounded records low seen high (outcome.Slow (why.Again tries) place reply) = AreInBounds low seen high tries
IsBounded records low seen high (outcome.Slow _ place reply) = Unit {0}

-- ---- causes

-- a packet went by the lock since its sender had sent nothing to the key yet
abbrev pub is_first : Outcome → Bool
is_first (outcome.Slow why.First place reply) = true
is_first _ = false

-- it went by the lock as every packet of an inline run does
abbrev pub is_inline : Outcome → Bool
is_inline (outcome.Slow why.Inline place reply) = true
is_inline _ = false
