-- What a participant's stamp of a bucket shows of a run, and what each call on it leaves: one record for each call that tells it (this project's own).
use Rattle.std.specs.Prelude.{◌≡◌, ℕ, zero, suc, ◌+◌, ◌≤◌, max, true, List, [], ◌∷◌, ◌++◌, fold, length, Some}
use Rattle.std.specs.List.{AllByRecursion}
use Rattle.nb_base.specs.declared.time.OpId.{OpId}
use Rattle.nb_base.specs.declared.params.Params.{Params}
use Rattle.nb_base.specs.declared.line.Line.{Line}
use Rattle.nb_base.specs.declared.line.Reply.{Reply}
use Rattle.nb_journal.specs.Keys.{is_own}
use Rattle.nb_journal.specs.Fold.{reply_of}
use Rattle.bucket_stamps.specs.declared.view.Turn.{Turn}
use Rattle.nb_base.specs.Ids.{participant_of}
use Rattle.bucket_stamps.specs.Own.{turns_of, own_pairs}
use Rattle.neigh_run.specs.Merged.{Entered}

-- ---- turns

-- every turn answered Ok
abbrev pub AllOk : List Turn → Type 0
AllOk turns = AllByRecursion (λ (t : Turn). t.ok ≡ true) turns

-- the greatest of their moments, or 0
abbrev pub greatest_of : List Turn → ℕ
greatest_of turns = fold (λ (m : ℕ) (t : Turn). max m t.at) 0 turns

-- ---- stamps

-- what a stamp shows of its bucket: the first lines, the first turns, and its participant's own lines by place and id
pub record Shown : Type 0 where
  pub past : List Line
  pub turns : List Turn
  pub pairs : List (ℕ × OpId)

-- at first it shows nothing
abbrev pub nothing_shown : Shown
nothing_shown = record { past = []; turns = []; pairs = [] }

-- a list begins with another
abbrev pub Begins : {A : Type 0} → List A → List A → Type 0
Begins {A = A} xs ys = (rest : List A) × (ys ≡ xs ++ rest)

-- turns go on by others, of which the participant's are these
abbrev pub Adds : ℕ → List Turn → List Turn → List Turn → Type 0
Adds p old new mine = (others : List Turn) × (new ≡ old ++ others) × (turns_of p others ≡ mine)

-- ---- a call that was answered Ok

-- an operation that a bucket's call made: what was asked, what was answered, the lines and the turns before it, its line, and what the stamp shows behind it
pub record Call : Type 0 where
  pub bucket : ℕ
  pub entered : Entered
  pub place : ℕ
  pub reply : Reply
  pub past : List Line
  pub line : Line
  pub earlier : List Turn
  pub after : Shown

-- the turn that it made
abbrev pub turn_by : ℕ → Call → Turn
turn_by p call = record { participant = p; at = call.entered.at; ok = true; length = call.place + 1 }

-- what the call says of the stamp that it was given
pub record IsCall (p : ℕ) (params : Params) (old : Shown) (call : Call) : Type 0 where
  -- the lines before the operation's begin with the old past, its place is how many they are, and the stamp then shows them and the line
  pub past : Begins old.past call.past
  pub grown : call.after.past ≡ call.past ++ call.line ∷ []
  pub place : call.place ≡ length call.past
  -- the line is the operation's, whose id names the participant
  pub id : call.line.id ≡ Some call.entered.id
  pub op : call.line.op ≡ call.entered.op
  pub own : is_own call.line.op ≡ true
  pub participant : participant_of call.entered.id ≡ p
  -- its reply is that of a bucket of one thread
  pub reply : reply_of params call.past call.line ≡ Some call.reply
  -- the stamp's own lines grow by this one
  pub pairs : call.after.pairs ≡ old.pairs ++ (call.place, call.entered.id) ∷ []
  -- its turns grow by others' turns and then by this call's, and no turn before has more lines behind it than stand before the line
  pub turns : Adds p old.turns call.earlier []
  pub turn : call.after.turns ≡ call.earlier ++ turn_by p call ∷ []
  pub within : AllByRecursion (λ (t : Turn). t.length ≤ call.place) call.earlier
  -- where all turns so far were answered Ok, the line stands at the greatest of their moments
  pub moment : AllOk call.after.turns → call.line.at ≡ greatest_of call.after.turns

-- ---- a barrier

-- what a barrier says of a stamp that it met, with the bucket's length that it told and the turns that it made for the participant
pub record IsMet (p : ℕ) (old new : Shown) (told : ℕ) (made : List Turn) : Type 0 where
  pub past : Begins old.past new.past
  pub turns : Adds p old.turns new.turns made
  pub pairs : new.pairs ≡ old.pairs
  -- the length is at least that of the past before, and at most that of the past now
  pub counted : length old.past ≤ told
  pub seen : told ≤ length new.past

-- the turns that a barrier before a window makes for a participant: as participant 0 it advances each bucket to the window's first moment, with as many lines behind it as it tells, and for every other it makes none
abbrev pub opening_turns : ℕ → ℕ → ℕ → List Turn
opening_turns zero start told = record { participant = 0; at = start; ok = true; length = told } ∷ []
opening_turns (suc p) start told = []

-- ---- when all tokens are given up

-- what giving up a participant's stamp tells of the bucket's journal and of all its turns
pub record IsGivenUp (p : ℕ) (journal : List Line) (turns : List Turn) (shown : Shown) : Type 0 where
  pub past : Begins shown.past journal
  pub begins : Begins shown.turns turns
  pub own_turns : turns_of p turns ≡ turns_of p shown.turns
  pub own_lines : own_pairs p journal ≡ shown.pairs
