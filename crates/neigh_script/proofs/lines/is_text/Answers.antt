use Rattle.neigh_script.proofs.Utf8.{utf8_when_read}
use Rattle.neigh_script.proofs.lines.is_text.Goals as goal

pub returns : goal.returns
returns c = rw c.is_ok.ensures.value (utf8_when_read _ _ c.args.line.now c.from_utf8.result c.from_utf8.ensures.cases)
