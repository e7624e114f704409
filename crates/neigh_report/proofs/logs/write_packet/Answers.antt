use Rattle.std.proofs.Common.{◌∷◌, append_assoc}
use Rattle.std.specs.Prelude.{decimal}
use Rattle.neigh_run.specs.Report.{outcome_words}
use Rattle.neigh_report.proofs.SpacedWords.{line_spaced}
use Rattle.neigh_report.proofs.logs.write_packet.Goals as goal

pub returns : goal.returns
returns c = rw (line_spaced (decimal c.args.n) (decimal c.args.item.now.at ∷ outcome_words c.args.item.now c.args.outcome.now), c.in_ok-writeln.ensures.bytes, c.in_ok-add_outcome.ensures, c.in_ok-write.ensures.bytes)
    (simp append_assoc)
