use Rattle.std.proofs.Common.{refl}
use Rattle.neigh_replay.specs.Replay.{FilesCall, SinkCall, files_call, sink_call, inline_by}
use Rattle.neigh_replay.proofs.Replays.{written_replay, failed_replay, said_instead}
use Rattle.neigh_replay.proofs.top.run_inline.Goals as goal

pub returns-in-Ok : goal.returns-in-Ok
returns-in-Ok g c = written_replay (inline_by c.args.settings.now) _ _ _ c.in-Ok.ensures refl

pub returns-in-Err : goal.returns-in-Err
returns-in-Err g c =
    let files : FilesCall = files_call (g.I.Inputs.held c.args.inputs.now) (g.I.Inputs.faults c.args.inputs.now) (g.I.Inputs.faults c.replay.new.inputs) in
    let out : SinkCall = sink_call (g.K.Sink.taken c.args.out.now) (g.K.Sink.taken c.replay.new.out) (g.K.Sink.faults c.args.out.now) (g.K.Sink.faults c.replay.new.out) in
    let err : SinkCall = sink_call (g.E.Sink.taken c.args.err.now) (g.E.Sink.taken c.tell.new.err) (g.E.Sink.faults c.args.err.now) (g.E.Sink.faults c.tell.new.err) in
    rw c.status_of.ensures
    (failed_replay (inline_by c.args.settings.now) files out err c.tell.result
    (said_instead (inline_by c.args.settings.now) files out c.in-Err.failure c.tell.result c.tell.ensures.same c.tell.ensures.kept c.in-Err.ensures)
    c.tell.ensures.said)
