use Rattle.nb_base.proofs.key.read_ip6.Goals as goal

pub returns-else-has_dot-clause-only : goal.returns-else-has_dot-clause-only
returns-else-has_dot-clause-only c = λ address h. c.read_groups.ensures.only address h.spelled
