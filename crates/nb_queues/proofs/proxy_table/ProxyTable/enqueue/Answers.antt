use Rattle.std.proofs.Common.{refl, subst, ap, sym, ◌∙◌, ◌≡◌, ◌+◌, ℕ, true}
use Rattle.nb_queues.specs.Proxies.{Proxies, are_due_by}
use Rattle.nb_queues.specs.declared.request.ProxyJob.{ProxyJob}
use Rattle.nb_queues.proofs.Jobs.{pushed}
use Rattle.nb_queues.proofs.proxy_table.ProxyTable.enqueue.Goals as goal
use Rattle.nb_queues.proofs.proxy_table.ProxyTable.enqueue.Goals.{in-Ok, in-Err}

pub invariant_of-self : goal.invariant_of-self
invariant_of-self c =
    let order = subst (λ (t : Proxies). are_due_by (c.args.at + t.delay) t.jobs ≡ true) (sym c.self.view_is) c.requires.order in
    let by = ap (λ (at : ℕ). are_due_by at c.self.inside.jobs.items) c.after-due.ensures ∙ order in
    let job : ProxyJob = record { due = c.after-due.result; request = c.args.request } in
    elim c.match-try_push_back.branch [
      | in-Ok w ↦ pushed c.self.inside.jobs c.try_push_back.new.self job c.self.invariant.0 by (w.in-Ok.ensures.variant.0 refl) w.in-Ok.ensures.ok
      | in-Err w ↦ rw w.in-Err.ensures.err.1 c.self.invariant
    ]
