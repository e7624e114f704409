use Rattle.text_codes.proofs.CodeRows.{options_are_codes}
use Rattle.text_codes.proofs.codes.options_are_codes.Goals as goal

pub returns : goal.returns
returns g c = options_are_codes g.row.X.Denot g.row.A.Denot
