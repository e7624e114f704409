use Rattle.token_tests.specs.Entering.{HasEntered}
use Rattle.token_tests.proofs.stamps.enter_a_hundred.Given as goal

abbrev pub invariant-loop-line : goal.invariant-loop-line
invariant-loop-line g l = HasEntered l.initial.pass l.pass l._line
