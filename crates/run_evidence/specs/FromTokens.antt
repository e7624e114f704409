-- What the calls of stamps and of passes say in their own terms gives what evidence asks of them (this project's own).
use Rattle.std.specs.Prelude.{◌≡◌, ℕ, ◌-◌, ◌≤◌, true, List, [], ◌∷◌, ◌++◌, length, Some, None, All}
use Rattle.std.specs.List.Sorted.{IsNonDecreasing}
use Rattle.nb_base.specs.declared.key.Key.{Key}
use Rattle.nb_base.specs.declared.host.Host.{Host}
use Rattle.nb_base.specs.declared.params.Params.{Params}
use Rattle.nb_base.specs.declared.record.Record.{Record}
use Rattle.nb_base.specs.declared.line.Line.{Line}
use Rattle.nb_journal.specs.Keys.{is_own}
use Rattle.nb_journal.specs.Fold.{reply_of}
use Rattle.nb_journal.specs.Accounts.{published}
use Rattle.bucket_stamps.specs.declared.view.Turn.{Turn}
use Rattle.nb_base.specs.Ids.{participant_of}
use Rattle.bucket_stamps.specs.Own.{turns_of}
use Rattle.bucket_stamps.specs.Shown.{StampShown, StamperShown, Agrees, SeesMore, turn_behind}
use Rattle.hh_core.specs.Safe.{both_numbers}
use Rattle.hh_cell.specs.declared.cell.Obtained.TheVariants as obtained
use Rattle.hh_cell.specs.Shown.{PassShown, AgreesWith}
use Rattle.hh_cell.specs.Obtaining.{Obtains}
use Rattle.run_evidence.specs.Tokens.{Shown, AllOk, greatest_of, Call, IsCall, IsMet, IsGivenUp}
use Rattle.run_evidence.specs.Holds.{Hold, IsFastRead, IsSuspectRead, IsAgainRead, IsHoldMet, AreKnown}

-- ---- stamps

abbrev pub shown_of : StampShown → Shown
shown_of s = record { past = s.past; turns = s.turns; pairs = s.pairs }

-- lines of the bucket's own, which have no id
abbrev pub AreBuckets : List Line → Type 0
AreBuckets lines = All (λ (l : Line). l.id ≡ None) lines

-- a call of a bucket that was answered Ok: behind all that stood before it, it made lines of the bucket's own and then the operation's, and its turn
pub record MadeCall (params : Params) (old new : StampShown) (call : Call) : Type 0 where
  pub front : List Line
  pub own_front : AreBuckets front
  pub sees : SeesMore old new (front ++ call.line ∷ []) (turn_behind old.participant call.entered.at true new.past ∷ [])
  pub past : call.past ≡ sees.before ++ front
  pub place : call.place ≡ length call.past
  pub earlier : call.earlier ≡ old.turns ++ sees.others
  pub after : call.after ≡ shown_of new
  pub id : call.line.id ≡ Some call.entered.id
  pub op : call.line.op ≡ call.entered.op
  pub own : is_own call.line.op ≡ true
  pub participant : participant_of call.entered.id ≡ old.participant
  pub reply : reply_of params call.past call.line ≡ Some call.reply
  pub moment : AllOk new.turns → call.line.at ≡ greatest_of new.turns

abbrev pub CallsAreEvidence : Type 0
CallsAreEvidence = (params : Params) (old new : StampShown) (call : Call) → MadeCall params old new call → IsCall old.participant params (shown_of old) call

-- a stamp that a barrier met, perhaps by an advance, which made lines of the bucket's own and its turn; the length that was told is the journal's behind it
abbrev pub MeetingsAreEvidence : Type 0
MeetingsAreEvidence =
    (old new : StampShown) (made : List Line) (last : List Turn)
    → AreBuckets made
    → turns_of old.participant last ≡ last
    → SeesMore old new made last
    → IsMet old.participant (shown_of old) (shown_of new) (length new.past) last

-- a stamp that is met again shows more, and the length that was told first is still between
abbrev pub MeetingsJoin : Type 0
MeetingsJoin = (p : ℕ) (old mid new : Shown) (told again : ℕ) (made : List Turn) → IsMet p old mid told made → IsMet p mid new again [] → IsMet p old new told made

-- a stamp that was given up
abbrev pub AgreementIsEvidence : Type 0
AgreementIsEvidence = (s : StamperShown) (stamp : StampShown) → Agrees s stamp → IsGivenUp stamp.participant s.lines s.turns (shown_of stamp)

-- ---- passes

abbrev pub hold_of : PassShown → Hold
hold_of pass = record { floor = pass.floor; known = pass.seen.known; tries = pass.seen.tries }

-- what meeting a pass leaves: its floor is the last published record's number, and what it had seen agrees with what was published
pub record IsMetPass (records : List Record) (old new : PassShown) : Type 0 where
  pub met : new ≡ record old { floor = length records - 1 }
  pub agrees : AgreesWith records old

-- a pass that read a usable record: a fast send
abbrev pub ReadsAreEvidence : Type 0
ReadsAreEvidence = (old new : PassShown) (number : ℕ) (header : List ℕ) → Obtains old new (obtained.Fresh number header) → IsFastRead number header (hold_of old) (hold_of new)

-- a pass that read a record which isn't usable, and was then met by the slow send
abbrev pub SuspectsAreEvidence : Type 0
SuspectsAreEvidence =
    (p : Params) (host : Host) (key : Key) (past : List Line) (old mid new : PassShown) (number : ℕ)
    → Obtains old mid (obtained.Suspect number)
    → IsMetPass (published p host past key) mid new
    → IsSuspectRead p host key past number (hold_of old) (hold_of new)

-- a pass of which four tries failed, and which was then met by the slow send; the numbers of all its tries never fall
abbrev pub AgainsAreEvidence : Type 0
AgainsAreEvidence =
    (p : Params) (host : Host) (key : Key) (past : List Line) (old mid new : PassShown) (tries : List (ℕ × ℕ))
    → Obtains old mid (obtained.Again tries)
    → IsNonDecreasing (both_numbers mid.seen.tries)
    → IsMetPass (published p host past key) mid new
    → IsAgainRead p host key past tries (hold_of old) (hold_of new)

-- a barrier met a pass with the sender's past, which has at least as many lines as the barrier told
abbrev pub MetPassesAreEvidence : Type 0
MetPassesAreEvidence =
    (p : Params) (host : Host) (key : Key) (past : List Line) (told : ℕ) (old new : PassShown)
    → told ≤ length past
    → IsMetPass (published p host past key) old new
    → IsHoldMet p host key past told (hold_of old) (hold_of new)

-- a pass that was given up
abbrev pub LodgedPassesAreEvidence : Type 0
LodgedPassesAreEvidence = (records : List Record) (pass : PassShown) → AgreesWith records pass → AreKnown records (Some (hold_of pass))

-- what passes tell, by one record
pub record PassesAreEvidence : Type 0 where
  pub reads : ReadsAreEvidence
  pub suspects : SuspectsAreEvidence
  pub agains : AgainsAreEvidence
  pub met : MetPassesAreEvidence
  pub lodged : LodgedPassesAreEvidence
