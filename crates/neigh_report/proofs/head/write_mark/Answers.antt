use Rattle.std.proofs.Common.{◌∷◌, map, append_assoc}
use Rattle.std.specs.Prelude.{decimal, codes}
use Rattle.neigh_run.specs.Report.{start_word}
use Rattle.neigh_report.proofs.SpacedWords.{line_spaced}
use Rattle.neigh_report.proofs.head.write_mark.Goals as goal

pub returns : goal.returns
returns c = rw (line_spaced (codes "mark") (start_word c.args.mark.now.start ∷ map decimal c.args.mark.now.lengths), c.in_ok-writeln.ensures.bytes, c.in_ok-add_lengths.ensures, c.as_slice.ensures, c.in_ok-write_start.ensures)
    (simp append_assoc)
