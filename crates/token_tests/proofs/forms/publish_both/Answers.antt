use Rattle.token_tests.proofs.SameShown.{same_published}
use Rattle.token_tests.proofs.forms.publish_both.Goals as goal

pub returns-clause-same : goal.returns-clause-same
returns-clause-same g c = same_published c.args.keeper.now c.args.writer.now c.publish.new.writer c.publish-2.new.writer c.args.next c.publish.ensures c.publish-2.ensures c.requires.same
