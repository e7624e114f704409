-- A table that one thread calls: each bucket's journal has its operations, and its lines saw the whole table as it stood (this project's own).
use Rattle.std.specs.Prelude.{◌≡◌, ℕ, ◌<◌, true, ◌==◌, if◌then◌else◌, List, [], ◌∷◌, ◌++◌, map, filter, length, replicate, get_or, unwrap_or}
use Rattle.std.specs.List.{sum_by}
use Rattle.nb_base.specs.declared.line.Line.{Line}
use Rattle.nb_base.specs.declared.line.Reply.TheVariants as reply
use Rattle.nb_base.specs.declared.params.Params.{Params}
use Rattle.nb_base.specs.Params.{default_params}
use Rattle.nb_journal.specs.Keys.{is_own}
use Rattle.nb_journal.specs.Fold.{id_of, reply_of, present_count}
use Rattle.nb_journal.specs.Lawful.{EachLine, IsLawful, last_moment}
use Rattle.nb_journal.specs.Accounts.{own_lines, most_lines}
use Rattle.nb_journal.specs.Laws.{Saw}
use Rattle.nb_bucket.specs.Bucket.{Journal}
use Rattle.neigh_run.specs.Seen.{standing, table_count}
use Rattle.neigh_run.specs.Inline.{entered_line, ends_own}
use Rattle.plain_table.specs.declared.answer.Answer.{Answer}
use Rattle.plain_table.specs.Calls.{Call, buckets_called, entered_at}

-- ---- a table

-- a table is seen as its buckets; their lines
abbrev pub journals_of : List Journal → List (List Line)
journals_of table = map (λ (j : Journal). j.lines) table

abbrev pub present_in : Journal → ℕ
present_in j = present_count j.params j.lines

-- how many entries are present in all buckets
abbrev pub present_in_all : List Journal → ℕ
present_in_all table = sum_by present_in table

-- what stands for a bucket that isn't there
abbrev pub no_journal : Journal
no_journal = record { params = default_params; limit = 0; lines = []; clock = 0 }

-- the bucket of this number
abbrev pub bucket_at : List Journal → ℕ → Journal
bucket_at table b = get_or table b no_journal

-- the parameters of all buckets, which are those of the first
abbrev pub params_of : List Journal → Params
params_of table = (bucket_at table 0).params

-- a bucket without a line
abbrev pub new_journal : Params → Journal
new_journal p = record { params = p; limit = most_lines; lines = []; clock = 0 }

-- no bucket has a line yet, and all have the same parameters
abbrev pub IsNew : List Journal → Type 0
IsNew table = table ≡ replicate (length table) (new_journal (params_of table))

-- ---- answers

-- what bucket b answered to an operation's line behind the past
abbrev pub answer_to : Params → ℕ → List Line → Line → Answer
answer_to p b past line = record { id = id_of line; at = line.at; placed = record { bucket = b; place = length past; reply = unwrap_or (reply_of p past line) reply.Ignored } }

-- its answers to the operations' lines behind the past, in their order
abbrev pub answers_behind : Params → ℕ → List Line → List Line → List Answer
answers_behind p b past [] = []
answers_behind p b past (line ∷ lines) = (if is_own line.op then answer_to p b past line ∷ [] else []) ++ answers_behind p b (past ++ line ∷ []) lines

-- those of a bucket among all answers
abbrev pub answers_at : ℕ → List Answer → List Answer
answers_at b answers = filter (λ (a : Answer). a.placed.bucket == b) answers

-- ---- a table in the midst of its calls

-- `order` are the buckets of all calls of a run, of which these are done: the bucket has entered its operations among them, at their moments, each line that looked saw the whole table as those calls had left it, and these are its answers
pub record IsCalled (p : Params) (order : List ℕ) (done : List Call) (answers : List Answer) (all : List (List Line)) (b : ℕ) (j : Journal) : Type 0 where
  pub params : j.params ≡ p
  pub limit : j.limit ≡ most_lines
  pub clock : j.clock ≡ last_moment j.lines
  pub lawful : IsLawful p j.lines j.clock
  pub ends : ends_own j.lines ≡ true
  pub entered : map entered_line (own_lines j.lines) ≡ entered_at b done
  pub saw : EachLine (Saw (λ lines. table_count p (standing order all b lines))) j.lines
  pub answered : answers_at b answers ≡ answers_behind p b [] j.lines

-- each bucket has; the answers are those to the calls, in their order: of their buckets, and with their operations' ids
pub record AreCalled (p : Params) (order : List ℕ) (done : List Call) (answers : List Answer) (table : List Journal) : Type 0 where
  pub each : (b : ℕ) → b < length table → IsCalled p order done answers (journals_of table) b (bucket_at table b)
  pub aligned : map (λ (a : Answer). a.placed.bucket) answers ≡ buckets_called done
  pub ids : map (λ (a : Answer). a.id) answers ≡ map (λ (call : Call). call.entered.id) done
