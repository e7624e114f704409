use Rattle.neigh_script.proofs.CutLine.{cut_alone, cut_behind, cut_shorter}
use Rattle.neigh_script.proofs.lines.cut_line.Goals as goal

pub returns-in-None-clause-lines : goal.returns-in-None-clause-lines
returns-in-None-clause-lines c = cut_alone c.args.text.now c.cut.result.0.now c.cut.result.1 c.in-None.is c.cut.ensures c.requires

pub returns-in-Some-clause-lines : goal.returns-in-Some-clause-lines
returns-in-Some-clause-lines c = rw c.without_return.ensures (cut_behind c.args.text.now c.cut.result.0.now c.cut.result.1 c.in-Some.behind c.in-Some.is c.cut.ensures)

pub returns-in-Some-clause-shorter : goal.returns-in-Some-clause-shorter
returns-in-Some-clause-shorter c = cut_shorter c.args.text.now c.cut.result.0.now c.cut.result.1 c.in-Some.behind c.in-Some.is c.cut.ensures
