-- What a table's calls do to its buckets (this project's own).
use Rattle.std.specs.Prelude.{◌≡◌, ℕ, ◌+◌, ◌<◌, ◌≤◌, true, List, [], ◌∷◌, ◌++◌, length, set}
use Rattle.nb_base.specs.declared.line.Line.{Line}
use Rattle.nb_base.specs.declared.line.Reply.{Reply}
use Rattle.nb_base.specs.Params.{InRange}
use Rattle.nb_journal.specs.Keys.{is_own}
use Rattle.nb_journal.specs.Fold.{present_count}
use Rattle.nb_journal.specs.Lawful.{each_line}
use Rattle.nb_journal.specs.Accounts.{own_lines, line_bound, most_lines}
use Rattle.nb_journal.specs.Laws.{Saw}
use Rattle.nb_bucket.specs.Bucket.{Journal, Enters}
use Rattle.neigh_run.specs.Merged.{Entered}
use Rattle.plain_table.specs.declared.answer.Answer.{Answer}
use Rattle.plain_table.specs.Calls.{Call}
use Rattle.plain_table.specs.Table.{present_in, present_in_all, bucket_at}

-- ---- room

-- a bucket that hasn't gone beyond a line's moment, with fewer operations than so many, up to a moment that isn't before the line's, for which the line bound is below 2^22
pub record HasRoom (line : Line) (j : Journal) : Type 0 where
  pub params : InRange j.params
  pub limit : j.limit ≡ most_lines
  pub later : j.clock ≤ line.at
  pub operations : ℕ
  pub fewer : length (own_lines j.lines) < operations
  pub moment : ℕ
  pub upto : line.at ≤ moment
  pub bound : line_bound j.params operations moment < most_lines

-- each bucket of a table is such a one
abbrev pub HaveRoom : Line → List Journal → Type 0
HaveRoom line table = (b : ℕ) → b < length table → HasRoom line (bucket_at table b)

-- ---- calls

-- an operation is entered into a bucket, whose lines see their own bucket's entries and those that the others hold
pub record EntersAmong (others : ℕ) (x : Entered) (old new : Journal) (place : ℕ) (reply : Reply) : Type 0 where
  pub entered : Enters old new x.at x.id x.op place reply
  pub more : List Line
  pub grown : new.lines ≡ old.lines ++ more
  pub saw : each_line (Saw (λ lines. present_count old.params lines + others)) old.lines more

-- an operation's answer, with its bucket's number
abbrev pub answer_from : ℕ → Entered → ℕ → Reply → Answer
answer_from b x place r = record { id = x.id; at = x.at; placed = record { bucket = b; place = place; reply = r } }

-- an operation is entered into one bucket, which hasn't gone beyond its moment, and the answer goes behind the others
pub record CallsOne (call : Call) (old new : List Journal) (answers more : List Answer) : Type 0 where
  pub within : call.bucket < length old
  pub own : is_own call.entered.op ≡ true
  pub later : (bucket_at old call.bucket).clock ≤ call.entered.at
  pub journal : Journal
  pub new_is : new ≡ set old call.bucket journal
  pub others : ℕ
  pub sum : present_in (bucket_at old call.bucket) + others ≡ present_in_all old
  pub place : ℕ
  pub reply : Reply
  pub entered : EntersAmong others call.entered (bucket_at old call.bucket) journal place reply
  pub answered : more ≡ answers ++ answer_from call.bucket call.entered place reply ∷ []

-- an operation is entered into one bucket, and more happens behind that
pub record CallsNext (call : Call) (Behind : List Journal → List Answer → Type 0) (old : List Journal) (answers : List Answer) : Type 0 where
  pub between : List Journal
  pub so_far : List Answer
  pub one : CallsOne call old between answers so_far
  pub behind : Behind between so_far

-- calls, one after the other
abbrev pub CallsEach : List Call → List Journal → List Journal → List Answer → List Answer → Type 0
CallsEach [] old new answers more = (new ≡ old) × (more ≡ answers)
CallsEach (call ∷ calls) old new answers more = CallsNext call (λ between so_far. CallsEach calls between new so_far more) old answers
