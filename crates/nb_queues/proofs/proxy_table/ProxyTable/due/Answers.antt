use Rattle.std.proofs.Common.{rules, refl, ap, sym, ◌∙◌, ◌<◌, option_copied}
use Rattle.nb_queues.specs.Proxies.{Proxies, none_due}
use Rattle.nb_queues.proofs.Jobs.{none_behind, none_there}
use Rattle.nb_queues.proofs.proxy_table.ProxyTable.due.Goals as goal

pub returns-in_err-due-clause-none : goal.returns-in_err-due-clause-none
returns-in_err-due-clause-none c =
    let first = sym c.front.ensures ∙ ap option_copied c.in_err-due.was in
    let none = none_there c.args.at c.self.inside.jobs.items first in
    let there = sym (ap (λ (t : Proxies). none_due c.args.at t.jobs) c.self.view_is) ∙ none in
    (λ _. there, λ _. c.from_residual.ensures)

pub returns-else-le-clause-none : goal.returns-else-le-clause-none
returns-else-le-clause-none c =
    let first = sym c.front.ensures ∙ ap option_copied c.in_ok-due.was in
    let less : c.args.at < c.in_ok-due.field-0.now.due = search rules in
    let none = none_behind c.args.at c.self.inside.jobs.items c.in_ok-due.field-0.now c.self.invariant.0 first less in
    let there = sym (ap (λ (t : Proxies). none_due c.args.at t.jobs) c.self.view_is) ∙ none in
    (λ _. there, λ _. refl)
