use Rattle.text_codes.proofs.CodeRows.{counted_lists_are_codes}
use Rattle.text_codes.proofs.codes.counted_lists_are_codes.Goals as goal

pub returns : goal.returns
returns g c = counted_lists_are_codes g.row.X.Denot g.row.A.Denot
