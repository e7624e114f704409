use Rattle.std.proofs.Common.{◌≡◌, ◌<◌, ◌∙◌, length, sym, arith}
use Rattle.std.proofs.lemmas.Bool.Decides.{nat_tests}
use Rattle.nd_codec.specs.Options.{view}
use Rattle.nd_codec.proofs.Walk.{is_options-step, is_options-none, is_options-nil}
use Rattle.nd_codec.proofs.options.are_options.Goals as goal

pub returns-in_default : goal.returns-in_default
returns-in_default c =
    let left : 0 < length c.loop-rest.rest.now = grind (arith, nat_tests, c.is_empty.ensures, c.loop-rest-test.true) in
    sym (is_options-none c.loop-rest.rest.now c.in_default.ensures.value left) ∙ c.loop-rest.invariant

pub loop-rest-preserved : goal.loop-rest-preserved
loop-rest-preserved c =
    sym (is_options-step c.loop-rest.rest.now (view c.in-Some.field-0-0) c.in-Some.behind.now c.in-Some.ensures.value) ∙ c.loop-rest.invariant

pub returns : goal.returns
returns c =
    let none : length c.loop-rest.rest.now ≡ 0 = grind (arith, nat_tests, c.is_empty.ensures, c.loop-rest-test.false) in
    sym (is_options-nil c.loop-rest.rest.now none) ∙ c.loop-rest.invariant
