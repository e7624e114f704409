-- The numbers of operations (this project's own).
use Rattle.std.specs.Prelude.{ℕ, ◌+◌, ◌*◌, ◌%◌}
use Rattle.nb_base.specs.declared.time.OpId.{OpId}

-- the number of an item, counted from 1, of a participant, 0 to 16
abbrev pub op_id : ℕ → ℕ → OpId
op_id item participant = record { 0 = 32 * item + participant }

-- the participant whose item a number names
abbrev pub participant_of : OpId → ℕ
participant_of id = id.0 % 32
