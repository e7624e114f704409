use Rattle.neigh_script.proofs.WrittenScripts.{scripts_again}
use Rattle.neigh_script.proofs.writing.write.Goals as goal

pub returns-clause-again : goal.returns-clause-again
returns-clause-again c = λ within short. rw (c.from_vec.ensures, c.into_bytes.ensures.value, c.in_ok-text.ensures.text) (scripts_again c.args.script.now (record { typed = c.in_ok-text.ensures.typed; within = within; short = short }))
