use Rattle.std.proofs.Common.{◌≡◌, ◌<◌, ◌≤◌, length}
use Rattle.text_codes.specs.Lines.{lines_of}
use Rattle.neigh_script.specs.Lines.{lines_from, script_of}
use Rattle.neigh_script.specs.Limits.{AreAbove}
use Rattle.neigh_script.proofs.reading.read.Given as goal

abbrev pub invariant-loop-rest : goal.invariant-loop-rest
invariant-loop-rest l = record {
  said : lines_from l.number l.context l.items (lines_of l.rest) ≡ script_of l.bytes;
  above : AreAbove l.context l.items;
  few : length l.items < l.number;
  most : l.number ≤ 131_073;
}

abbrev pub decreases-loop-rest : goal.decreases-loop-rest
decreases-loop-rest l = length l.rest
