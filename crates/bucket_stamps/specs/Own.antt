-- Whose a line and a turn are (this project's own).
use Rattle.std.specs.Prelude.{◌≡◌, ℕ, zero, suc, ◌+◌, ◌<◌, ◌≤◌, ◌==◌, if◌then◌else◌, List, [], ◌∷◌, ◌++◌, length, Option, None, Some, IfSome}
use Rattle.nb_base.specs.declared.time.OpId.{OpId}
use Rattle.nb_base.specs.declared.line.Line.{Line}
use Rattle.nb_base.specs.Ids.{participant_of}
use Rattle.bucket_stamps.specs.declared.view.Turn.{Turn}

-- the pair of place and id, where the id names the participant
abbrev pub pair_by : Option OpId → ℕ → ℕ → List (ℕ × OpId)
pair_by None p place = []
pair_by (Some id) p place = if participant_of id == p then (place, id) ∷ [] else []

-- the pairs of the participant's own lines, where the first line stands at this place
abbrev pub pairs_from : ℕ → ℕ → List Line → List (ℕ × OpId)
pairs_from p place [] = []
pairs_from p place (l ∷ ls) = pair_by l.id p place ++ pairs_from p (place + 1) ls

-- the pairs of place and id of the participant's own lines
abbrev pub own_pairs : ℕ → List Line → List (ℕ × OpId)
own_pairs p lines = pairs_from p 0 lines

-- the participant's turns
abbrev pub turns_of : ℕ → List Turn → List Turn
turns_of p [] = []
turns_of p (t ∷ ts) = if t.participant == p then t ∷ turns_of p ts else turns_of p ts

-- the journal's length behind the last turn, or this one where there is none
abbrev pub length_behind : ℕ → List Turn → ℕ
length_behind n [] = n
length_behind n (t ∷ ts) = length_behind t.length ts

-- every line belongs to a turn
abbrev pub IsSettled : List Line → List Turn → Type 0
IsSettled lines turns = length lines ≡ length_behind 0 turns

-- the lengths behind the turns never fall, from this one on
abbrev pub NeverFall : ℕ → List Turn → Type 0
NeverFall n [] = Unit {0}
NeverFall n (t ∷ ts) = (n ≤ t.length) × NeverFall t.length ts

-- turns of a journal with these lines: the lengths behind them never fall, and the last is at most the journal's
pub record AreTurnsOf (lines : List Line) (turns : List Turn) : Type 0 where
  pub rising : NeverFall 0 turns
  pub within : length_behind 0 turns ≤ length lines

-- a turn behind which there are at most so many lines
abbrev pub IsWithin : ℕ → Turn → Type 0
IsWithin n t = t.length ≤ n

-- a turn of one of so many participants
abbrev pub IsTurnOfOne : ℕ → Turn → Type 0
IsTurnOfOne n t = t.participant < n

-- a line of one of so many participants, or without an id
abbrev pub IsLineOfOne : ℕ → Line → Type 0
IsLineOfOne n l = IfSome l.id (λ id. participant_of id < n)

-- the numbers below this one
abbrev pub numbers_below : ℕ → List ℕ
numbers_below zero = []
numbers_below (suc n) = numbers_below n ++ n ∷ []

-- a line of this participant, or without an id
abbrev pub IsLineOf : ℕ → Line → Type 0
IsLineOf p l = IfSome l.id (λ id. participant_of id ≡ p)
