use Rattle.std.proofs.Common.{◌≡◌, length}
use Rattle.std.specs.Prelude.{IfSome}
use Rattle.neigh_script.specs.Forms.{options, no_options}
use Rattle.neigh_script.specs.Limits.{IsGiven}
use Rattle.neigh_script.proofs.options.read_options.Given as goal

abbrev pub invariant-loop-name : goal.invariant-loop-name
invariant-loop-name l = record {
  value : options l.host l.met l.words ≡ options l.host no_options l.fn.words;
  given : IfSome l.met.nud IsGiven;
}

abbrev pub decreases-loop-name : goal.decreases-loop-name
decreases-loop-name l = length l.words
