use Rattle.run_evidence.proofs.Closing.{one_more_control_window, marks_go_on}
use Rattle.run_evidence.proofs.Gathered.{one_more_call, one_more_packet, one_more_item, windows_go_on, one_more_window}
use Rattle.run_evidence.proofs.laws.evidence_goes_on.Goals as goal

pub returns-clause-call : goal.returns-clause-call
returns-clause-call c = one_more_call

pub returns-clause-packet : goal.returns-clause-packet
returns-clause-packet c = one_more_packet

pub returns-clause-item : goal.returns-clause-item
returns-clause-item c = one_more_item

pub returns-clause-windows : goal.returns-clause-windows
returns-clause-windows c = windows_go_on

pub returns-clause-window : goal.returns-clause-window
returns-clause-window c = one_more_window

pub returns-clause-control_window : goal.returns-clause-control_window
returns-clause-control_window c = one_more_control_window

pub returns-clause-marks : goal.returns-clause-marks
returns-clause-marks c = marks_go_on
