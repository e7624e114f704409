use Rattle.std.proofs.Common.{◌∷◌, append_assoc}
use Rattle.std.specs.Prelude.{decimal, codes}
use Rattle.std.specs.List.{flat_map}
use Rattle.neigh_run.specs.Spelling.{placed_words}
use Rattle.neigh_report.proofs.SpacedWords.{line_spaced}
use Rattle.neigh_report.proofs.host_journal.write_neigh.Goals as goal

pub returns : goal.returns
returns c = rw (line_spaced (decimal c.args.n) (decimal c.args.at ∷ codes "neigh" ∷ flat_map placed_words c.args.ops.now), c.in_ok-writeln.ensures.bytes, c.in_ok-add_each_placed.ensures, c.in_ok-write.ensures.bytes)
    (simp append_assoc)
