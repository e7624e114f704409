use Rattle.std.proofs.Common.{◌≡◌, length, sym, ap, subst, ◌∙◌, arith}
use Rattle.std.proofs.lemmas.Bool.{eqb-true}
use Rattle.std.proofs.lemmas.Result.{err_from_is_err_and}
use Rattle.text_codes.specs.Lines.{lines_of}
use Rattle.neigh_script.specs.Lines.{lines_from}
use Rattle.neigh_script.specs.Why.{Answers, IsScriptFail}
use Rattle.neigh_script.proofs.LineSteps.{script_begins, line_goes_on, line_fails, lines_end, no_lines}
use Rattle.neigh_script.proofs.Above.{items_few, at_most, start_above, line_above}
use Rattle.neigh_script.proofs.reading.read.Goals as goal

pub loop-rest-init : goal.loop-rest-init
loop-rest-init c = rw (c.start-context.ensures, c.new-items.ensures) (record { said = script_begins c.args.bytes.now; above = start_above; few = omega arith; most = omega arith })

pub returns-in_err-next : goal.returns-in_err-next
returns-in_err-next c =
    let p = err_from_is_err_and c.from_residual.result c.from_residual.ensures.1 in
    let fails = line_fails c.loop-rest.number c.loop-rest.context c.loop-rest.items c.cut_line.result.0.now (lines_of c.cut_line.result.1.now) c.in_err-next.field-0.0 c.in_err-next.ensures.value in
    let whole = ap (lines_from c.loop-rest.number c.loop-rest.context c.loop-rest.items) (sym c.cut_line.ensures.lines) ∙ c.loop-rest.invariant.said in
    rw (p.1, p.2) (record { value = subst (IsScriptFail c.in_err-next.field-0.0) whole fails; within = tt {0}; few = tt {0}; items = tt {0} })

pub loop-rest-preserved : goal.loop-rest-preserved
loop-rest-preserved c =
    let more = line_goes_on c.loop-rest.number c.loop-rest.context c.loop-rest.items c.cut_line.result.0.now (lines_of c.cut_line.result.1.now) (c.in_ok-next.next, c.in_ok-next.item) c.in_ok-next.ensures.value in
    let whole = ap (lines_from c.loop-rest.number c.loop-rest.context c.loop-rest.items) (sym c.cut_line.ensures.lines) ∙ c.loop-rest.invariant.said in
    rw c.in_ok-keep.ensures (record { said = sym more ∙ whole; above = line_above c.loop-rest.context c.in_ok-next.next c.loop-rest.items c.in_ok-next.item c.loop-rest.invariant.above c.in_ok-next.ensures.kept; few = items_few c.loop-rest.items c.in_ok-next.item c.loop-rest.number c.loop-rest.invariant.few; most = omega (arith, c.in_ok-next.ensures.within) })

pub returns-clause-within : goal.returns-clause-within
returns-clause-within c = c.finish.ensures.within c.loop-rest.invariant.above

pub returns-clause-few : goal.returns-clause-few
returns-clause-few c = at_most c.finish.result c.loop-rest.items c.finish.ensures.same (omega (arith, c.loop-rest.invariant.few, c.loop-rest.invariant.most))

pub returns-clause-items : goal.returns-clause-items
returns-clause-items c = c.finish.ensures.items c.loop-rest.invariant.above

pub returns-clause-value : goal.returns-clause-value
returns-clause-value c =
    let empty : length c.loop-rest.rest.now ≡ 0 = eqb-true (length c.loop-rest.rest.now) 0 (sym (c.loop-rest-test.ensures)) in
    let whole = sym (lines_end c.loop-rest.number c.loop-rest.context c.loop-rest.items) ∙ ap (lines_from c.loop-rest.number c.loop-rest.context c.loop-rest.items) (sym (no_lines c.loop-rest.rest.now empty)) ∙ c.loop-rest.invariant.said in
    subst (Answers c.finish.result) whole c.finish.ensures.value
