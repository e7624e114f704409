-- The answers that are due, and then the item's own turn.
use Rattle.std.proofs.Common.{refl}
use Rattle.nb_base.specs.declared.plan.ControlItem.TheVariants as control
use Rattle.neigh_run.specs.Control.{proxies_with}
use Rattle.neigh_replay.specs.Hosting.{at_point}
use Rattle.neigh_replay.proofs.Hosting.{on_ok, taken_by, ready_due, ready_own}
use Rattle.neigh_replay.proofs.host.Walk.take_item.Goals as goal

pub take_frame-requires-clause-ready : goal.take_frame-requires-clause-ready
take_frame-requires-clause-ready c =
    ready_due c.args.plan.now c.args.item.now (control.Frame c.in-Frame.at c.in-Frame.bytes) (at_point c.args.self.now.proxies c.args.self.now.answers.now c.args.self.now.lines) (at_point c.answer_due.new.self.proxies c.answer_due.new.self.answers.now c.answer_due.new.self.lines)
    c.in-Frame.is c.in_ok-answer_due-in-Frame.ensures c.requires.ready

pub returns-in_ok-answer_due-in-Neigh-clause-taken : goal.returns-in_ok-answer_due-in-Neigh-clause-taken
returns-in_ok-answer_due-in-Neigh-clause-taken c =
    on_ok c.take_operation.result _ _
    (taken_by c.args.plan.now c.args.n c.args.item.now (control.Neigh c.in-Neigh.at c.in-Neigh.op) (at_point c.args.self.now.proxies c.args.self.now.answers.now c.args.self.now.lines) (at_point c.answer_due-in-Neigh.new.self.proxies c.answer_due-in-Neigh.new.self.answers.now c.answer_due-in-Neigh.new.self.lines) _
    c.in-Neigh.is c.in_ok-answer_due-in-Neigh.ensures)
    c.take_operation.ensures

pub returns-in_ok-answer_due-in-Neigh-clause-ready : goal.returns-in_ok-answer_due-in-Neigh-clause-ready
returns-in_ok-answer_due-in-Neigh-clause-ready c =
    on_ok c.take_operation.result _ _
    (ready_own c.args.plan.now c.args.n c.args.item.now (control.Neigh c.in-Neigh.at c.in-Neigh.op) (at_point c.args.self.now.proxies c.args.self.now.answers.now c.args.self.now.lines) (at_point c.answer_due-in-Neigh.new.self.proxies c.answer_due-in-Neigh.new.self.answers.now c.answer_due-in-Neigh.new.self.lines) _
    c.answer_due-in-Neigh.new.self.proxies.keys c.in-Neigh.is refl c.in_ok-answer_due-in-Neigh.ensures c.requires.ready)
    c.take_operation.ensures

pub returns-in_ok-answer_due-in-Proxy-clause-taken : goal.returns-in_ok-answer_due-in-Proxy-clause-taken
returns-in_ok-answer_due-in-Proxy-clause-taken c =
    on_ok c.take_proxy.result _ _
    (taken_by c.args.plan.now c.args.n c.args.item.now (control.Proxy c.in-Proxy.at c.in-Proxy.key c.in-Proxy.add) (at_point c.args.self.now.proxies c.args.self.now.answers.now c.args.self.now.lines) (at_point c.answer_due-in-Proxy.new.self.proxies c.answer_due-in-Proxy.new.self.answers.now c.answer_due-in-Proxy.new.self.lines) _
    c.in-Proxy.is c.in_ok-answer_due-in-Proxy.ensures)
    (c.take_proxy.ensures.taken c.args.plan.now)

pub returns-in_ok-answer_due-in-Proxy-clause-ready : goal.returns-in_ok-answer_due-in-Proxy-clause-ready
returns-in_ok-answer_due-in-Proxy-clause-ready c =
    on_ok c.take_proxy.result _ _
    (ready_own c.args.plan.now c.args.n c.args.item.now (control.Proxy c.in-Proxy.at c.in-Proxy.key c.in-Proxy.add) (at_point c.args.self.now.proxies c.args.self.now.answers.now c.args.self.now.lines) (at_point c.answer_due-in-Proxy.new.self.proxies c.answer_due-in-Proxy.new.self.answers.now c.answer_due-in-Proxy.new.self.lines) _
    (proxies_with c.answer_due-in-Proxy.new.self.proxies.keys (control.Proxy c.in-Proxy.at c.in-Proxy.key c.in-Proxy.add)) c.in-Proxy.is refl c.in_ok-answer_due-in-Proxy.ensures c.requires.ready)
    (c.take_proxy.ensures.taken c.args.plan.now)
