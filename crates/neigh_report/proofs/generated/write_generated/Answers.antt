use Rattle.std.proofs.Common.{append_assoc}
use Rattle.text_codes.specs.Lines.{line_text}
use Rattle.neigh_report.proofs.generated.write_generated.Goals as goal

pub returns : goal.returns
unfolding line_text
returns c = rw c.in_ok-writeln.ensures.bytes (simp append_assoc)
