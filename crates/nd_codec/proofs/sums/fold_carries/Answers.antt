use Rattle.std.proofs.Common.{◌+◌, ◌/◌, ◌%◌, arith}
use Rattle.std.proofs.lemmas.Nat.{and_mask}
use Rattle.nd_codec.proofs.Ones.{folded_twice}
use Rattle.nd_codec.proofs.sums.fold_carries.Goals as goal

pub returns : goal.returns
returns c =
    let s = c.args.sum in
    let fits = c.ranges.sum in
    rw (and_mask s 16, and_mask (s % 65536 + s / 65536) 16) (folded_twice s (omega arith))
