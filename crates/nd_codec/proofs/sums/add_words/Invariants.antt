use Rattle.std.proofs.Common.{◌≡◌, ◌+◌, ◌*◌, ◌≤◌, length}
use Rattle.nd_codec.specs.Checksum.{word_sum}
use Rattle.nd_codec.proofs.sums.add_words.Given as goal

-- the sum so far and that of what is left, and how large the sum is
abbrev pub invariant-loop-rest : goal.invariant-loop-rest
invariant-loop-rest l = record {
  told : l.sum + word_sum l.rest ≡ l.fn.sum + word_sum l.bytes;
  small : 2 * l.sum + 65535 * length l.rest ≤ 2 * l.fn.sum + 65535 * length l.bytes;
}

abbrev pub decreases-loop-rest : goal.decreases-loop-rest
decreases-loop-rest l = length l.rest
