use Rattle.std.proofs.Common.{◌≡◌, ℕ, List, take, refl, sym, ap, ◌∙◌, arith}
use Rattle.nb_base.specs.declared.line.Line.{Line}
use Rattle.nb_journal.specs.Lawful.{base_of, is_collect}
use Rattle.nb_journal.proofs.Takes.{base_of-drops, base_of-ends}
use Rattle.journal_check.proofs.forcing.base_of.Goals as goal
use Rattle.journal_check.proofs.forcing.base_of.Goals.{then-loop-len-test+else-is_collect, else-loop-len-test}

pub loop-len-preserved : goal.loop-len-preserved
loop-len-preserved c =
    let within = c.loop-len.invariant.within in
    record {
      within = omega (arith, within);
      base = base_of-drops c.args.lines.now c.loop-len.len c.index-lines-len.result c.loop-len-test.true within c.index-lines-len.is (ap (λ (x : Line). is_collect x.op) c.index-lines-len.is ∙ sym c.is_collect.ensures ∙ c.if-is_collect.true)
          ∙ c.loop-len.invariant.base;
    }

none_left : (lines : List Line) (n : ℕ) → n ≡ 0 → take n lines ≡ base_of (take n lines)
none_left lines n e = rw e refl

pub returns-clause-value : goal.returns-clause-value
returns-clause-value c =
    let within = c.loop-len.invariant.within in
    (elim c.loop-len-test.branch [
      | then-loop-len-test+else-is_collect w ↦
          base_of-ends c.args.lines.now c.loop-len.len w.index-lines-len.result w.loop-len-test.true within w.index-lines-len.is (ap (λ (x : Line). is_collect x.op) w.index-lines-len.is ∙ sym w.is_collect.ensures ∙ w.if-is_collect.false) ∙ c.loop-len.invariant.base
      | else-loop-len-test w ↦ let zero = w.loop-len-test.false in none_left c.args.lines.now c.loop-len.len (omega (arith, zero)) ∙ c.loop-len.invariant.base
    ])
