-- The rule of a stamp word: each participant stands once, and what stands there agrees with the stamper's history (this project's own).
use Rattle.std.specs.Prelude.{◌≡◌, ℕ, ◌<◌, ◌++◌, true, List, [], Some, IfSome}
use mathlib.Core.Option.{some}
use mathlib.Core.List.{IsPrefix}
use lib.ListN.{get_elem?}
use Rattle.bucket_stamps.specs.declared.view.Turn.{Turn}
use Rattle.bucket_stamps.specs.declared.view.History.{History}
use Rattle.bucket_stamps.specs.declared.view.Part.{Part}
use Rattle.bucket_stamps.specs.declared.view.View.{View}
use Rattle.bucket_stamps.specs.Own.{own_pairs, turns_of}
use Rattle.bucket_stamps.specs.Views.{participant_in}

-- all turns begin with those that were seen, and of the others none is the participant's
pub record HasAllOf (p : ℕ) (seen all : List Turn) : Type 0 where
  pub rest : List Turn
  pub more : seen ++ rest ≡ all
  pub no_other : turns_of p rest ≡ []

-- the participant's pairs are those of its own lines, the history begins with what it has seen, and it has seen all of its turns
pub record AgreesWith (history : History) (m : Part) : Type 0 where
  pub pairs : m.pairs ≡ own_pairs m.participant history.lines
  pub past : IsPrefix m.seen.lines history.lines
  pub turns : HasAllOf m.participant m.seen.turns history.turns
  pub cells : IsPrefix m.seen.cells history.cells

-- the stamper's token shows the history, and how many participants there are
pub record IsStamping (history : History) (participants desk at : ℕ) (v : View) : Type 0 where
  pub seat : at ≡ desk
  pub history_is : v.history ≡ history
  pub count : v.participants ≡ participants

-- a participant that stands here stands nowhere else
pub record StandsAt (history : History) (participants : ℕ) (seat_of : ℕ → ℕ) (at : ℕ) (m : Part) : Type 0 where
  pub seat : seat_of m.participant ≡ at
  pub below : m.participant < participants
  pub agrees : AgreesWith history m

-- what the token of this seat shows
pub record Shows (history : History) (participants desk : ℕ) (seat_of : ℕ → ℕ) (at : ℕ) (v : View) : Type 0 where
  pub stamping : v.stamper ≡ true → IsStamping history participants desk at v
  pub part : IfSome v.part (StandsAt history participants seat_of at)

-- the participant stands at this seat
pub record IsThere (views : List View) (at p : ℕ) : Type 0 where
  pub v : View
  pub here : get_elem? views at ≡ some v
  pub is : participant_in v ≡ Some p

-- the rule
pub record Kept (views : List View) : Type 0 where
  pub history : History
  pub participants : ℕ
  pub desk : ℕ
  pub seat_of : ℕ → ℕ
  pub there : (p : ℕ) → p < participants → IsThere views (seat_of p) p
  pub shown : (at : ℕ) (v : View) → get_elem? views at ≡ some v → Shows history participants desk seat_of at v

-- what the stamper's look tells of the participant that it took in
pub record LookTells (v : View) (m : Part) : Type 0 where
  pub below : m.participant < v.participants
  pub agrees : AgreesWith v.history m
