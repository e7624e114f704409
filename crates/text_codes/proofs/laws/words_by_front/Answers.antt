use Rattle.text_codes.proofs.Fronts.{words_by_front}
use Rattle.text_codes.proofs.laws.words_by_front.Goals as goal

pub returns : goal.returns
returns c = words_by_front
