-- The operations are such as a table takes, and the run that is made of the table is the plan's.
use Rattle.std.proofs.Common.{ℕ, true, ◌≡◌, List, sym, ◌∙◌, ap, subst}
use Rattle.std.specs.List.{AllByRecursion}
use Rattle.nb_base.specs.Buckets.{is_bucket_count}
use Rattle.nb_base.specs.Params.{InRange}
use Rattle.nb_base.specs.declared.line.Line.{Line}
use Rattle.plain_table.specs.Entering.{IsTask, AreByMoment}
use Rattle.plain_table.specs.Table.{params_of}
use Rattle.neigh_plan.proofs.Owners.{in_order}
use Rattle.neigh_replay.specs.Answered.{run_by}
use Rattle.neigh_replay.proofs.Tasks.{tasks_merged, in_bound}
use Rattle.neigh_replay.proofs.CallAnswers.{are_done}
use Rattle.neigh_replay.proofs.InlineRuns.{made_inline}
use Rattle.neigh_replay.proofs.inline.replay_inline.Goals as goal

pub enter_all-requires-clause-buckets : goal.enter_all-requires-clause-buckets
enter_all-requires-clause-buckets c = subst (λ (n : ℕ). is_bucket_count n ≡ true) (sym c.in_ok-table.ensures.buckets) c.requires.plan.buckets

pub enter_all-requires-clause-params : goal.enter_all-requires-clause-params
enter_all-requires-clause-params c = subst InRange (sym c.in_ok-table.ensures.params) c.requires.plan.params

pub enter_all-requires-clause-tasks : goal.enter_all-requires-clause-tasks
enter_all-requires-clause-tasks c = subst (AllByRecursion IsTask) (sym (c.as_slice.ensures ∙ c.in_ok-lines.ensures.value)) (tasks_merged c.args.plan c.requires.plan.within c.requires.plan.moments c.requires.plan.operations)

pub enter_all-requires-clause-by_moment : goal.enter_all-requires-clause-by_moment
enter_all-requires-clause-by_moment c = subst AreByMoment (sym (c.as_slice.ensures ∙ c.in_ok-lines.ensures.value)) (in_order c.args.plan c.requires.plan.within).rises

pub enter_all-requires-clause-room : goal.enter_all-requires-clause-room
enter_all-requires-clause-room c = in_bound c.args.plan (params_of c.in_ok-table.table) c.as_slice.result.now c.in_ok-table.ensures.params (c.as_slice.ensures ∙ c.in_ok-lines.ensures.value) c.requires.bound

pub returns-clause-run : goal.returns-clause-run
returns-clause-run c =
    made_inline c.args.plan c.in_ok-answers.answers c.enter_all.new.self c.in_ok-run.run' c.requires.plan
    (are_done c.args.plan c.in_ok-answers.answers c.in_ok-table.table c.enter_all.new.self c.as_slice.result.now c.in_ok-table.ensures.buckets c.in_ok-table.ensures.params (c.as_slice.ensures ∙ c.in_ok-lines.ensures.value) c.enter_all.ensures.buckets c.in_ok-answers.ensures.called)
    (c.in_ok-run.ensures ∙ ap (λ (js : List (List Line)). run_by c.args.plan js c.as_slice-2.result.now) c.in_ok-journals.ensures.journals ∙ ap (run_by c.args.plan _) c.as_slice-2.ensures)
