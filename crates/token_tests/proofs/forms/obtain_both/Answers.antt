use Rattle.std.proofs.Common.{subst}
use Rattle.hh_cell.specs.declared.cell.Obtained.{Obtained}
use Rattle.hh_cell.specs.Obtaining.{Obtains}
use Rattle.token_tests.proofs.SameShown.{same_answer, plain_cell, running_cell}
use Rattle.token_tests.proofs.forms.obtain_both.Goals as goal

pub returns-then-are_same-clause-cells : goal.returns-then-are_same-clause-cells
returns-then-are_same-clause-cells g c =
    let one = c.obtain-one in
    let other = c.obtain-other in
    (plain_cell c.args.p.now one.new.pass one.result one.ensures.obtains, running_cell c.args.q.now other.new.pass other.result other.ensures.obtains)

pub returns-else-are_same-clause-cells : goal.returns-else-are_same-clause-cells
returns-else-are_same-clause-cells g c =
    let one = c.obtain-one in
    let other = c.obtain-other in
    (plain_cell c.args.p.now one.new.pass one.result one.ensures.obtains, running_cell c.args.q.now other.new.pass other.result other.ensures.obtains)

pub returns-then-are_same-clause-same : goal.returns-then-are_same-clause-same
returns-then-are_same-clause-same g c =
    let one = c.obtain-one in
    let other = c.obtain-other in
    let F : Obtained → Type 0 = λ o. Obtains c.args.q.now other.new.pass o in
    same_answer c.args.p.now one.new.pass c.args.q.now other.new.pass one.result one.ensures.obtains (subst F (c.are_same.ensures c.if-are_same.true) other.ensures.obtains) c.requires.same
