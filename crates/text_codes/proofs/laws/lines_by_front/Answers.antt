use Rattle.text_codes.proofs.Fronts.{lines_by_front}
use Rattle.text_codes.proofs.laws.lines_by_front.Goals as goal

pub returns : goal.returns
returns c = lines_by_front
