-- One item more, and the whole walk behind the last.
use Rattle.std.proofs.Common.{◌+◌, length, drop, sym, ◌∙◌, ap, arith}
use Rattle.neigh_run.specs.Control.{control_at}
use Rattle.neigh_replay.specs.Hosting.{at_point, walked}
use Rattle.neigh_replay.proofs.Tasks.{control_early}
use Rattle.neigh_replay.proofs.Hosting.{next_item, upto_item, upto_all, upto_taken, walked_more, whole_walk, ready_later}
use Rattle.neigh_replay.proofs.host.host_lines_of.Goals as goal

pub take_item-requires-clause-moment : goal.take_item-requires-clause-moment
take_item-requires-clause-moment c =
    let next = next_item c.args.plan.now c.as_slice-items.result.now c.loop-before.before c.index-items-before.result c.as_slice-items.ensures c.loop-before-test.true c.index-items-before.is in
    let upto = upto_all c.args.plan.now.control c.loop-before.before c.index-items-before.result next.0 next.1 in
    let early = control_early c.args.plan.now in
    let last = c.requires.moments in
    omega (arith, upto, early, last)

pub take_item-requires-clause-ready : goal.take_item-requires-clause-ready
take_item-requires-clause-ready c =
    let next = next_item c.args.plan.now c.as_slice-items.result.now c.loop-before.before c.index-items-before.result c.as_slice-items.ensures c.loop-before-test.true c.index-items-before.is in
    c.loop-before.invariant.ready (control_at c.index-items-before.result) (upto_item 0 c.args.plan.now.control c.loop-before.before c.index-items-before.result c.requires.within.control.rises next.0 next.1)

pub loop-before-preserved : goal.loop-before-preserved
loop-before-preserved c =
    let next = next_item c.args.plan.now c.as_slice-items.result.now c.loop-before.before c.index-items-before.result c.as_slice-items.ensures c.loop-before-test.true c.index-items-before.is in
    let upto = upto_taken c.args.plan.now.control c.loop-before.before c.index-items-before.result next.0 next.1 in
    record {
      walk =
          ap (walked c.args.plan.now (c.loop-before.before + 1 + 1) (drop (c.loop-before.before + 1) c.args.plan.now.control)) c.in_ok-take_item.ensures.taken
          ∙ sym (walked_more c.args.plan.now c.args.plan.now.control c.loop-before.before c.index-items-before.result (at_point c.loop-before.walk.proxies c.loop-before.walk.answers.now c.loop-before.walk.lines) next.0 next.1)
          ∙ c.loop-before.invariant.walk;
      ready = λ at le. ready_later c.args.plan.now (control_at c.index-items-before.result) at c.take_item.new.self.proxies (omega (arith, upto, le)) c.in_ok-take_item.ensures.ready;
    }

pub returns : goal.returns
returns c =
    let long = ap (λ xs. length xs) c.as_slice-items.ensures in
    whole_walk c.args.plan.now c.loop-before.before c.args.answers.now (at_point c.loop-before.walk.proxies c.loop-before.walk.answers.now c.loop-before.walk.lines) (omega (arith, long)) c.loop-before.invariant.walk
