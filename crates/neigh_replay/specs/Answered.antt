-- The run that is made of a table's journals and of what its buckets answered.
use Rattle.std.specs.Prelude.{ℕ, zero, suc, ◌+◌, ◌%◌, Bool, ◌==◌, if◌then◌else◌, List, [], ◌∷◌, flat_map, filter, length}
use Rattle.nb_base.specs.declared.line.Line.{Line}
use Rattle.nb_base.specs.declared.outcome.Why.TheVariants as why
use Rattle.nb_base.specs.declared.outcome.Outcome.{Outcome}
use Rattle.nb_base.specs.declared.outcome.Outcome.TheVariants as outcome
use Rattle.nb_base.specs.declared.plan.Mode.TheVariants as mode
use Rattle.nb_base.specs.declared.plan.Plan.{Plan}
use Rattle.plain_table.specs.declared.answer.Answer.{Answer}
use Rattle.neigh_run.specs.declared.run.Run.{Run}
use Rattle.neigh_run.specs.Control.{host_start}
use Rattle.neigh_replay.specs.Hosting.{lines_by}

-- the answer is one to this participant
abbrev pub is_to : ℕ → Answer → Bool
is_to p answer = answer.id.0 % 32 == p

-- a sender's packet went by its bucket's journal
abbrev pub outcome_by : ℕ → Answer → List Outcome
outcome_by p answer = if is_to p answer then outcome.Slow why.Inline answer.placed.place answer.placed.reply ∷ [] else []

abbrev pub log_by : ℕ → List Answer → List Outcome
log_by p answers = flat_map (outcome_by p) answers

-- the logs of so many senders, of which the first has this number
abbrev pub logs_by : ℕ → ℕ → List Answer → List (List Outcome)
logs_by p zero answers = []
logs_by p (suc n) answers = log_by p answers ∷ logs_by (p + 1) n answers

-- the answers to a participant
abbrev pub own_answers : ℕ → List Answer → List Answer
own_answers p answers = filter (is_to p) answers

-- the run of a plan with these journals and these answers
abbrev pub run_by : Plan → List (List Line) → List Answer → Run
run_by plan journals answers = record {
  mode = mode.Inline;
  plan = plan;
  journals = journals;
  host_lines = lines_by plan host_start 1 plan.control (own_answers 0 answers);
  logs = logs_by 1 (length plan.senders) answers;
  marks = [];
}
