-- What a sender's hold of a key shows, and what sends and barriers leave of it (this project's own).
use Rattle.std.specs.Prelude.{◌≡◌, ℕ, ◌*◌, ◌≤◌, Bool, true, false, List, [], ◌∷◌, ◌++◌, length, Option, Some, None, slice_get}
use Rattle.std.specs.List.{AllByRecursion}
use Rattle.nb_base.specs.declared.key.Key.{Key}
use Rattle.nb_base.specs.declared.host.Host.{Host}
use Rattle.nb_base.specs.declared.params.Params.{Params}
use Rattle.nb_base.specs.declared.record.Record.{Record}
use Rattle.nb_base.specs.declared.line.Line.{Line}
use Rattle.nb_base.specs.declared.outcome.Why.TheVariants as why
use Rattle.nb_base.specs.declared.outcome.Outcome.{Outcome}
use Rattle.nb_base.specs.declared.outcome.Outcome.TheVariants as outcome
use Rattle.nb_journal.specs.Accounts.{last_number}
use Rattle.hh_core.specs.Step.{is_good}
use Rattle.hh_core.specs.Safe.{both_numbers}
use Rattle.neigh_run.specs.Plan.{RisesFrom}
use Rattle.neigh_run.specs.Bounds.{number_at}

-- a hold is a pass to the key's cell: its floor, below whose number it reads no record; the records that it has read, with their numbers; and the numbers of its tries
pub record Hold : Type 0 where
  pub floor : ℕ
  pub known : List (ℕ × Record)
  pub tries : List (ℕ × ℕ)

-- ---- a send

-- a slow send leaves the hold at the key's last record, as the stamp's past publishes it, and lowers no floor
pub record IsLeftBySend (p : Params) (host : Host) (key : Key) (past : List Line) (old new : Hold) : Type 0 where
  pub at : new.floor ≡ last_number p host past key
  pub rises : old.floor ≤ new.floor
  pub tries : (more : List (ℕ × ℕ)) × (new.tries ≡ old.tries ++ more)

-- a fast send: it read a usable record with this header, whose number isn't below the floor and becomes it
pub record IsFastRead (number : ℕ) (header : List ℕ) (old new : Hold) : Type 0 where
  pub from : old.floor ≤ number
  pub floor : new.floor ≡ number
  pub known : new.known ≡ old.known ++ (number, record { usable = true; header = header }) ∷ []
  pub tries : (more : List (ℕ × ℕ)) × (new.tries ≡ old.tries ++ more)

-- a send that read a record which isn't usable, with a number that isn't below the floor, nor above the one that it leaves
pub record IsSuspectRead (p : Params) (host : Host) (key : Key) (past : List Line) (number : ℕ) (old new : Hold) : Type 0 where
  pub left : IsLeftBySend p host key past old new
  pub from : old.floor ≤ number
  pub to : number ≤ new.floor
  pub read : Record
  pub unusable : read.usable ≡ false
  pub known : new.known ≡ old.known ++ (number, read) ∷ []

-- a send of which none of four tries was good: their numbers never fall and aren't below twice the floor
pub record IsAgainRead (p : Params) (host : Host) (key : Key) (past : List Line) (tries : List (ℕ × ℕ)) (old new : Hold) : Type 0 where
  pub left : IsLeftBySend p host key past old new
  pub four : length tries ≡ 4
  pub failed : AllByRecursion (λ (read : ℕ × ℕ). is_good read ≡ false) tries
  pub rises : RisesFrom 0 (both_numbers tries)
  pub from : AllByRecursion (λ (n : ℕ). 2 * old.floor ≤ n) (both_numbers tries)
  pub known : new.known ≡ old.known
  pub taken : new.tries ≡ old.tries ++ tries

-- the first send to a key makes the hold
pub record IsFirstHold (p : Params) (host : Host) (key : Key) (past : List Line) (new : Hold) : Type 0 where
  pub at : new.floor ≡ last_number p host past key

-- what a send to the key leaves of the hold, by its outcome and by the stamp's past behind it
abbrev pub IsRead : Params → Host → Key → List Line → Option Hold → Outcome → Option Hold → Type 0
IsRead p host key past None (outcome.Slow why.First place reply) (Some new) = IsFirstHold p host key past new
IsRead p host key past (Some old) (outcome.Fast number header) (Some new) = IsFastRead number header old new
IsRead p host key past (Some old) (outcome.Slow (why.Suspect number) place reply) (Some new) = IsSuspectRead p host key past number old new
IsRead p host key past (Some old) (outcome.Slow (why.Again tries) place reply) (Some new) = IsAgainRead p host key past tries old new
IsRead p host key past _ _ _ = ⊥

-- ---- a barrier

-- a hold that a barrier met: its lists stay, its floor lies between the key's last record in the lines that the barrier counted and that in the sender's past,
-- and neither its known numbers nor half its tries' are above it
pub record IsHoldMet (p : Params) (host : Host) (key : Key) (past : List Line) (told : ℕ) (old new : Hold) : Type 0 where
  pub known : new.known ≡ old.known
  pub tries : new.tries ≡ old.tries
  pub low : number_at p host past key told ≤ new.floor
  pub high : new.floor ≤ last_number p host past key
  pub numbers : AllByRecursion (λ (pair : ℕ × Record). pair.0 ≤ new.floor) new.known
  pub halves : AllByRecursion (λ (n : ℕ). n ≤ 2 * new.floor) (both_numbers new.tries)

-- it meets the holds that it names, of those that exist, and leaves the others
abbrev pub MeetsHold : Params → Host → Key → List Line → ℕ → Bool → Option Hold → Option Hold → Type 0
MeetsHold p host key past told false old new = new ≡ old
MeetsHold p host key past told true None None = Unit {0}
MeetsHold p host key past told true (Some old) (Some new) = IsHoldMet p host key past told old new
MeetsHold p host key past told true _ _ = ⊥

-- ---- when all tokens are given up

-- each record that a hold knows was published by its key, with its number
abbrev pub AreKnown : List Record → Option Hold → Type 0
AreKnown records None = Unit {0}
AreKnown records (Some hold) = AllByRecursion (λ (pair : ℕ × Record). slice_get records pair.0 ≡ Some pair.1) hold.known
