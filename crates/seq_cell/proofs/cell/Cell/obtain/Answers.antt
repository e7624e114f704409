use Rattle.seq_cell.proofs.Obtaining.{obtained_at_once}
use Rattle.seq_cell.proofs.cell.Cell.obtain.Goals as goal

pub returns-clause-obtains : goal.returns-clause-obtains
returns-clause-obtains g c =
    let made = c.load-number in
    obtained_at_once c.args.pass.now made.new.pass c.of_record.result made.result.0 made.result.1 c.of_record.ensures made.ensures.read
