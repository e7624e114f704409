use Rattle.journal_fold.proofs.Replied.{full_verdict, effect_verdict}
use Rattle.journal_fold.proofs.fold.Fold.verdict_for.Goals as goal

pub returns-in-Some : goal.returns-in-Some
returns-in-Some c = full_verdict c.args.self.now.params c.args.self.now.lines c.args.line.now c.args.key.now c.in-Some.seen c.requires.own c.requires.names c.in-Some.is

pub returns-in-None : goal.returns-in-None
returns-in-None c = rw (c.verdict_by.ensures, c.effect_of.ensures) (effect_verdict c.args.self.now.params c.args.self.now.lines c.args.line.now c.args.key.now c.requires.own c.requires.names c.in-None.is)
