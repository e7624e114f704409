use Rattle.std.proofs.Common.{ℕ, List, ◌≤◌, map, ◌∙◌, sym, ap, arith}
use Rattle.std.specs.Prelude.{flat_map}
use Rattle.nb_base.specs.declared.plan.ControlItem.{ControlItem}
use Rattle.nb_base.specs.declared.plan.SendItem.{SendItem}
use Rattle.neigh_run.specs.Plan.{control_at, send_at}
use Rattle.neigh_plan.specs.Inline.{greatest_of}
use Rattle.neigh_plan.proofs.Bounds.{last_is}
use Rattle.neigh_plan.proofs.bound.line_bound.Goals as goal

pub bound_of-requires-clause-moment : goal.bound_of-requires-clause-moment
bound_of-requires-clause-moment c =
    let all = c.max.ensures ∙ last_is c.args.plan.now c.last_given_at-last_given.result c.last_sent_at-last_sent.result
    (c.last_given_at-last_given.ensures ∙ ap (λ (xs : List ControlItem). greatest_of (map control_at xs)) c.as_slice-3.ensures)
    (c.last_sent_at-last_sent.ensures ∙ ap (λ (xs : List (List SendItem)). greatest_of (flat_map (map send_at) xs)) c.as_slice-4.ensures) in
    let early = c.requires.moments in
    omega (arith, all, early)
