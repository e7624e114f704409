use Rattle.std.proofs.Common.{◌≡◌, true, length}
use Rattle.std.specs.Option.{is_some}
use Rattle.nd_codec.specs.Options.{link_address_of, options_in, options_of}
use Rattle.nd_codec.proofs.options.link_address.Given as goal

-- what is left is options, and has the address that all has
abbrev pub invariant-loop-option : goal.invariant-loop-option
invariant-loop-option l = record {
  options : is_some (options_in l.rest) ≡ true;
  told : link_address_of l.kind (options_of l.rest) ≡ link_address_of l.kind (options_of l.bytes);
}

abbrev pub decreases-loop-option : goal.decreases-loop-option
decreases-loop-option l = length l.rest
