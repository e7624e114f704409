use Rattle.std.proofs.Common.{sym}
use Rattle.nb_journal.proofs.Takes.{last_moment-last}
use Rattle.journal_check.proofs.timing.last_moment.Goals as goal

pub returns-in-len1-up : goal.returns-in-len1-up
returns-in-len1-up c = sym (last_moment-last c.args.lines.now c.last-item.result c.in-len1-up.len_at_least c.last-item.is)
