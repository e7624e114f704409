use Rattle.std.proofs.Common.{◌≡◌, true, length}
use Rattle.std.specs.Option.{is_some}
use Rattle.nd_codec.specs.Options.{has_kind, options_in, options_of}
use Rattle.nd_codec.proofs.options.has_option.Given as goal

-- what is left is options, and has one of the type where all has
abbrev pub invariant-loop-option : goal.invariant-loop-option
invariant-loop-option l = record {
  options : is_some (options_in l.rest) ≡ true;
  told : has_kind l.kind (options_of l.rest) ≡ has_kind l.kind (options_of l.bytes);
}

abbrev pub decreases-loop-option : goal.decreases-loop-option
decreases-loop-option l = length l.rest
