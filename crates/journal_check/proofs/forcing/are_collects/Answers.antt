use Rattle.std.proofs.Common.{sym}
use Rattle.journal_check.proofs.Steps.{are_collects-uneven}
use Rattle.journal_check.proofs.forcing.are_collects.Goals as goal

pub returns-then-lines-keys : goal.returns-then-lines-keys
returns-then-lines-keys c = sym (are_collects-uneven c.args.at c.args.lines.now c.args.keys.now c.if-lines-keys.true)
