-- One bucket more is called.
use Rattle.std.proofs.Common.{◌∙◌, List, [], ◌∷◌, length, map, sym, subst, arith}
use Rattle.neigh_run.specs.Seen.{buckets_from}
use Rattle.neigh_run.specs.Inline.{entered_line}
use Rattle.plain_table.specs.Calls.{Call, call_to}
use Rattle.plain_table.specs.Calling.{CallsEach}
use Rattle.plain_table.proofs.CallsOf.{calls-next}
use Rattle.plain_table.proofs.EachCall.{calls-join, calls-one, other-one}
use Rattle.plain_table.proofs.table.PlainTable.call_all.Goals as goal

pub loop-number-preserved : goal.loop-number-preserved
loop-number-preserved c =
    let old = c.args.self.now in
    let n = length c.args.self.now in
    let x = entered_line c.args.line.now in
    let k = c.loop-number.number in
    record {
      buckets = c.call.ensures.buckets ∙ c.loop-number.invariant.buckets;
      called = subst (λ (calls : List Call). CallsEach calls old c.call.new.self c.args.answers.now c.call.new.answers) (sym (calls-next n k x c.requires.no_key))
          (calls-join (map (call_to x) (buckets_from n 0 k c.args.line.now.op)) (call_to x k ∷ []) old c.loop-number.self c.call.new.self c.args.answers.now c.loop-number.answers c.call.new.answers c.loop-number.invariant.called
          (calls-one (call_to x k) c.loop-number.self c.call.new.self c.loop-number.answers c.call.new.answers c.in_ok-call.ensures.called));
      rest = λ b le. other-one (call_to x k) c.loop-number.self c.call.new.self c.loop-number.answers c.call.new.answers b c.in_ok-call.ensures.called (λ same. omega (arith, le, same))
          ∙ c.loop-number.invariant.rest b (omega (arith, le));
    }
