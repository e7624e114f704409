-- The numbers of the checks of a neighbour discovery packet, in their order (this project's own).
use Rattle.std.specs.Prelude.{ℕ}
use Rattle.nd_codec.specs.declared.message.NdFail.{NdFail}
use Rattle.nd_codec.specs.declared.message.NdFail.TheVariants.{Short, NotIcmp, HopLimit, Code, Checksum, Target, ZeroOption, Unspecified, SolicitedToGroup}

abbrev pub number_of : NdFail → ℕ
number_of Short = 1
number_of NotIcmp = 2
number_of HopLimit = 3
number_of Code = 4
number_of Checksum = 5
number_of Target = 6
number_of ZeroOption = 7
number_of Unspecified = 8
number_of SolicitedToGroup = 9
