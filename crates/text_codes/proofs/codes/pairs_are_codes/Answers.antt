use Rattle.text_codes.proofs.CodeRows.{pairs_are_codes}
use Rattle.text_codes.proofs.codes.pairs_are_codes.Goals as goal

pub returns : goal.returns
returns g c = pairs_are_codes g.row.X.Denot g.row.Y.Denot g.row.A.Denot
