use Rattle.text_codes.proofs.CodeRows.{known_rows_are_codes, counted_rows_are_codes, set_in_rows_are_codes}
use Rattle.text_codes.proofs.codes.rows_are_codes.Goals as goal

pub returns-clause-known : goal.returns-clause-known
returns-clause-known c = known_rows_are_codes

pub returns-clause-counted : goal.returns-clause-counted
returns-clause-counted c = counted_rows_are_codes

pub returns-clause-set_in : goal.returns-clause-set_in
returns-clause-set_in c = set_in_rows_are_codes
