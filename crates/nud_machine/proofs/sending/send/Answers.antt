-- A packet to an entry in INCOMPLETE joins those that wait.
use Rattle.nb_base.specs.declared.nud.Nud.TheVariants as nud
use Rattle.nud_machine.proofs.sending.send.Goals as goal

pub returns-in-Incomplete : goal.returns-in-Incomplete
returns-in-Incomplete c = record { step = rw c.in-Incomplete.is (c.join.ensures.step (record c.args.entry.now { used = c.args.at; nud = nud.Incomplete })) }
