use Rattle.std.proofs.Common.{ap, length, arith}
use Rattle.nd_codec.specs.Checksum.{word_sum}
use Rattle.nd_codec.proofs.Ones.{pseudo_header-sum}
use Rattle.nd_codec.proofs.sums.pseudo_header_sum.Goals as goal

pub returns-clause-sum : goal.returns-clause-sum
returns-clause-sum c =
    omega (
      arith,
      pseudo_header-sum c.args.source c.args.dest c.args.length,
      c.add_words-sum.ensures.sum,
      c.add_words-sum-2.ensures.sum,
      c.add_words-sum-3.ensures.sum,
      c.add_words.ensures.sum,
      ap word_sum c.to_be_bytes.ensures,
      ap word_sum c.to_be_bytes-2.ensures,
      ap word_sum c.to_be_bytes-3.ensures,
    )

pub returns-clause-small : goal.returns-clause-small
returns-clause-small c =
    omega (
      arith,
      c.add_words-sum.ensures.small,
      c.add_words-sum-2.ensures.small,
      c.add_words-sum-3.ensures.small,
      c.add_words.ensures.small,
      ap length c.to_be_bytes.ensures,
      ap length c.to_be_bytes-2.ensures,
      ap length c.to_be_bytes-3.ensures,
    )
