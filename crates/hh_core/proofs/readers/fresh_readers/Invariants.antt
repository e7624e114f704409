use Rattle.std.proofs.Common.{◌≡◌, map, replicate}
use Rattle.std.specs.List.{All}
use Rattle.hh_core.specs.State.{fresh_reader}
use Rattle.hh_core.specs.Shown.{reader_state, HasRoom}
use Rattle.hh_core.proofs.readers.fresh_readers.Given as goal

abbrev pub invariant-loop-number : goal.invariant-loop-number
invariant-loop-number l = (map reader_state l.readers.items ≡ replicate l._number fresh_reader) × All (HasRoom 0) l.readers.items
