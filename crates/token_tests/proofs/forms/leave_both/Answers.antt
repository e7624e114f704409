use Rattle.std.proofs.Common.{ap}
use Rattle.token_tests.proofs.SameShown.{same_kept, same_handed}
use Rattle.token_tests.proofs.forms.leave_both.Goals as goal

pub returns-clause-same : goal.returns-clause-same
returns-clause-same c = same_kept c.args.keeper.now c.args.writer.now c.leave-one.new.writer c.leave-other.new.writer c.leave-one.ensures.writer c.leave-other.ensures.writer c.requires.same

pub returns-clause-passes : goal.returns-clause-passes
returns-clause-passes c =
    let one = c.leave-one.ensures.pass in
    let other = c.leave-other.ensures.pass in
    same_handed c.args.keeper.now c.args.writer.now c.leave-one.result c.leave-other.result (ap (λ p. p.floor) one) (ap (λ p. p.seen) one) (ap (λ q. q.floor) other) (ap (λ q. q.seen) other) c.requires.same
