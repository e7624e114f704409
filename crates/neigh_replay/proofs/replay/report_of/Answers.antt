use Rattle.std.proofs.Common.{refl}
use Rattle.std.proofs.lemmas.Result.{err_from_is_err_and}
use Rattle.neigh_replay.specs.Replay.{files_call, inline_by}
use Rattle.neigh_replay.proofs.Given.{gives_both, gives_script_unread, gives_capture_unread, from_err}
use Rattle.neigh_replay.proofs.replay.report_of.Goals as goal

pub returns-in_err-text : goal.returns-in_err-text
returns-in_err-text g c =
    let p = err_from_is_err_and c.from_residual.result c.from_residual.ensures.1 in
    from_err _ _ c.from_residual.result p.0 c.in_err-text.field-0.0 p.1 p.2
    (gives_script_unread (inline_by c.args.settings.now) (files_call (g.I.Inputs.held c.args.inputs.now) (g.I.Inputs.faults c.args.inputs.now) (g.I.Inputs.faults c.read_script.new.inputs)) c.as_str.result.now c.in_err-text.field-0.0
    c.as_str.ensures.value c.in_err-text.ensures.read)

pub returns-in_err-capture : goal.returns-in_err-capture
returns-in_err-capture g c =
    let p = err_from_is_err_and c.from_residual-in_err-capture.result c.from_residual-in_err-capture.ensures.1 in
    from_err _ _ c.from_residual-in_err-capture.result p.0 c.in_err-capture.field-0.0 p.1 p.2
    (gives_capture_unread (inline_by c.args.settings.now) (g.I.Inputs.held c.args.inputs.now) (g.I.Inputs.held c.read_script.new.inputs) (g.I.Inputs.faults c.args.inputs.now) (g.I.Inputs.faults c.read_script.new.inputs) (g.I.Inputs.faults c.read_capture.new.inputs)
    c.as_str.result.now c.in_ok-text.text c.in_err-capture.field-0.0 c.as_str.ensures.value c.in_ok-text.ensures.held c.in_ok-text.ensures.later c.in_ok-text.ensures.read c.in_err-capture.ensures)

pub returns : goal.returns
returns g c =
    gives_both (inline_by c.args.settings.now) (files_call (g.I.Inputs.held c.args.inputs.now) (g.I.Inputs.faults c.args.inputs.now) (g.I.Inputs.faults c.read_capture.new.inputs)) (g.I.Inputs.held c.read_script.new.inputs)
    c.as_str.result.now c.in_ok-text.text c.in_ok-capture.capture c.report_of_files.result c.as_str.ensures.value refl c.in_ok-text.ensures.held c.in_ok-text.ensures.read c.in_ok-capture.ensures c.report_of_files.ensures
