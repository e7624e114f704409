use Rattle.token_tests.proofs.SameShown.{same_lodged}
use Rattle.token_tests.proofs.forms.lodge_both.Goals as goal

pub returns-clause-same : goal.returns-clause-same
returns-clause-same g c = same_lodged c.args.keeper.now c.args.writer.now c.lodge.new.writer c.lodge-2.new.writer c.args.p c.args.q c.lodge.ensures.writer c.lodge-2.ensures.writer c.requires.read c.requires.same
