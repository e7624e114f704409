use Rattle.std.proofs.Common.{◌≡◌, length}
use Rattle.std.specs.Option.{is_some}
use Rattle.nd_codec.specs.Options.{options_in}
use Rattle.nd_codec.proofs.options.are_options.Given as goal

-- what is left is options where all is
abbrev pub invariant-loop-rest : goal.invariant-loop-rest
invariant-loop-rest l = is_some (options_in l.rest) ≡ is_some (options_in l.bytes)

abbrev pub decreases-loop-rest : goal.decreases-loop-rest
decreases-loop-rest l = length l.rest
