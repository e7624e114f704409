use Rattle.nb_journal.specs.Steps.{state_in}
use Rattle.journal_check.proofs.Steps.{own_no_timer}
use Rattle.journal_check.proofs.replies.reply_of_kept.Goals as goal

pub go_on-requires-clause-due : goal.go_on-requires-clause-due
go_on-requires-clause-due c = own_no_timer c.args.key.now c.args.line.now.at (state_in c.args.kept.now) c.args.line.now.op c.requires.own
