-- What contracts see of the stamper and of a stamp (this project's own).
use Rattle.std.specs.Prelude.{◌≡◌, ℕ, zero, suc, ◌<◌, ◌++◌, Bool, List, [], ◌∷◌, length, map, Option, None, Some, IfSome, All, Contains}
use Rattle.std.specs.Option.{option_map}
use mathlib.Core.List.{IsPrefix}
use Rattle.atomic_table.specs.Seated.{TableId}
use Rattle.nb_base.specs.declared.key.Key.{Key}
use Rattle.nb_base.specs.declared.time.OpId.{OpId}
use Rattle.nb_base.specs.declared.line.Line.{Line}
use Rattle.bucket_stamps.specs.declared.view.Turn.{Turn}
use Rattle.bucket_stamps.specs.declared.view.History.{History}
use Rattle.bucket_stamps.specs.declared.view.Part.{Part}
use Rattle.bucket_stamps.specs.declared.view.View.{View}
use Rattle.nb_base.specs.Ids.{participant_of}
use Rattle.bucket_stamps.specs.Own.{pairs_from, turns_of, numbers_below, NeverFall, IsWithin, IsSettled, IsLineOfOne, IsTurnOfOne}
use Rattle.bucket_stamps.specs.Views.{newcomer, met, owns, owns_all, turn_by, with_turn}
use Rattle.bucket_stamps.specs.Kept.{AgreesWith}

-- a participant's stamp
pub record StampShown : Type 0 where
  pub id : TableId
  pub participant : ℕ
  pub pairs : List (ℕ × OpId)
  pub past : List Line
  pub turns : List Turn
  pub cells : List (Key × TableId)

-- the stamper, with the stamp that is lodged
pub record StamperShown : Type 0 where
  pub id : TableId
  pub participants : ℕ
  pub lines : List Line
  pub turns : List Turn
  pub cells : List (Key × TableId)
  pub lodged : Option Part

abbrev pub stamp_of : TableId → Part → StampShown
stamp_of id m = record { id = id; participant = m.participant; pairs = m.pairs; past = m.seen.lines; turns = m.seen.turns; cells = m.seen.cells }

abbrev pub part_of : StampShown → Part
part_of s = record { participant = s.participant; pairs = s.pairs; seen = record { lines = s.past; turns = s.turns; cells = s.cells } }

abbrev pub stamper_of : TableId → View → StamperShown
stamper_of id v = record { id = id; participants = v.participants; lines = v.history.lines; turns = v.history.turns; cells = v.history.cells; lodged = v.part }

abbrev pub history_of : StamperShown → History
history_of s = record { lines = s.lines; turns = s.turns; cells = s.cells }

-- the participant whose stamp is lodged
abbrev pub lodged_participant : StamperShown → Option ℕ
lodged_participant s = option_map (λ m. m.participant) s.lodged

-- a stamp agrees with what was written: its pairs are those of its participant's own lines, the lines begin with its past, and the turns with those that it has seen, which have all of its participant's
abbrev pub Agrees : StamperShown → StampShown → Type 0
Agrees s stamp = AgreesWith (history_of s) (part_of stamp)

-- ---- what the calls leave

abbrev pub lodging : Part → StamperShown → StamperShown
lodging m s = record s { lodged = Some m }

abbrev pub freed : StamperShown → StamperShown
freed s = record s { lodged = None }

-- a line is written, with the cells of the keys that become known by it
abbrev pub after_line : Line → List (Key × TableId) → StamperShown → StamperShown
after_line l cells s = record s { lines = s.lines ++ l ∷ []; cells = s.cells ++ cells; lodged = option_map (owns l (length s.lines)) s.lodged }

-- the same without a cell
abbrev pub after_plain : Line → StamperShown → StamperShown
after_plain l s = record s { lines = s.lines ++ l ∷ []; lodged = option_map (owns l (length s.lines)) s.lodged }

abbrev pub after_turn : ℕ → Bool → StamperShown → StamperShown
after_turn at ok s = record s { turns = s.turns ++ turn_by s.lodged at ok (length s.lines); lodged = option_map (met (with_turn at ok s.lodged (history_of s))) s.lodged }

-- the stamps of a bucket without lines, for so many participants
abbrev pub new_stamps : TableId → ℕ → List StampShown
new_stamps id zero = []
new_stamps id (suc n) = new_stamps id n ++ stamp_of id (newcomer n) ∷ []

abbrev pub new_stamper : TableId → ℕ → StamperShown
new_stamper id n = record { id = id; participants = n; lines = []; turns = []; cells = []; lodged = None }

-- the line is of the participant whose stamp is lodged, or of none
abbrev pub IsOfLodged : StamperShown → Line → Type 0
IsOfLodged s l = IfSome l.id (λ id. lodged_participant s ≡ Some (participant_of id))

-- these lines are written
abbrev pub after_lines : List Line → StamperShown → StamperShown
after_lines ls s = record s { lines = s.lines ++ ls; lodged = option_map (owns_all ls (length s.lines)) s.lodged }

-- ---- what a call by a stamp shows

-- a call by a stamp that made these lines: behind all that stood before it, which begins with what the participant had seen, its own pairs grew by those of the lines that are its own, and of the turns that it hadn't seen just these last are its own; no turn before has more lines behind it than stood before the call
pub record SeesMore (old new : StampShown) (made : List Line) (last : List Turn) : Type 0 where
  pub id : new.id ≡ old.id
  pub participant : new.participant ≡ old.participant
  pub before : List Line
  pub past : IsPrefix old.past before
  pub grown : new.past ≡ before ++ made
  pub pairs : new.pairs ≡ old.pairs ++ pairs_from old.participant (length before) made
  pub cells : IsPrefix old.cells new.cells
  pub others : List Turn
  pub no_own : turns_of old.participant others ≡ []
  pub turns : new.turns ≡ (old.turns ++ others) ++ last
  pub within : All (IsWithin (length before)) (old.turns ++ others)

-- the turn of a call behind which there are these lines
abbrev pub turn_behind : ℕ → ℕ → Bool → List Line → Turn
turn_behind p at ok lines = record { participant = p; at = at; ok = ok; length = length lines }

-- a call of this participant that made these lines, and these cells known
abbrev pub after_call : ℕ → List Line → List (Key × TableId) → ℕ → Bool → StamperShown → StamperShown
after_call p ls cells at ok s = record s { lines = s.lines ++ ls; turns = s.turns ++ turn_behind p at ok (s.lines ++ ls) ∷ []; cells = s.cells ++ cells }

-- a stamp behind a call of its participant, which has more own lines: it has seen all that was written
abbrev pub stamp_after : StamperShown → StampShown → List (ℕ × OpId) → StampShown
stamp_after new stamp own = record { id = new.id; participant = stamp.participant; pairs = stamp.pairs ++ own; past = new.lines; turns = new.turns; cells = new.cells }

-- ---- the end

-- the stamps are one of each participant, in order
abbrev pub AreEveryones : ℕ → List StampShown → Type 0
AreEveryones n stamps = map (λ (s : StampShown). s.participant) stamps ≡ numbers_below n

-- all stamps were given up: each agrees with what was written, one has seen all turns, which are in order, every line belongs to a turn, and every own line and every turn is of one of the participants
pub record Ends (s : StamperShown) (stamps : List StampShown) : Type 0 where
  pub agrees : All (Agrees s) stamps
  pub longest : 0 < s.participants → Contains (map (λ (t : StampShown). t.turns) stamps) s.turns
  pub settled : IsSettled s.lines s.turns
  pub order : NeverFall 0 s.turns
  pub own : All (IsLineOfOne s.participants) s.lines
  pub own_turns : All (IsTurnOfOne s.participants) s.turns
