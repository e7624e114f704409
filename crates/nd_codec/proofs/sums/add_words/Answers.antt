use Rattle.std.proofs.Common.{◌≡◌, ◌-◌, take, drop, length, arith, rules}
use Rattle.std.proofs.lemmas.List.{take_rest}
use Rattle.nd_codec.proofs.Words.{word_sum-pair, word_sum-last, word_sum-end}
use Rattle.nd_codec.proofs.sums.add_words.Goals as goal

pub loop-rest-preserved : goal.loop-rest-preserved
loop-rest-preserved c =
    let xs = c.loop-rest.rest.now in
    let rest : take (length xs - 2) (drop 2 xs) ≡ drop 2 xs = take_rest xs 2 in
    let pair = word_sum-pair xs c.in-len2-up.len_at_least in
    record {
      told = rw rest (omega (arith, c.loop-rest.invariant.told, c.from-sum.ensures, c.from_be_bytes.ensures));
      small = search rules;
    }

pub returns-in-empty-clause-sum : goal.returns-in-empty-clause-sum
returns-in-empty-clause-sum c = omega (arith, c.loop-rest.invariant.told, word_sum-end c.loop-rest.rest.now (omega arith))

pub returns-in-len1-up-clause-sum : goal.returns-in-len1-up-clause-sum
returns-in-len1-up-clause-sum c = omega (arith, c.loop-rest.invariant.told, word_sum-last c.loop-rest.rest.now (omega arith), c.from.ensures)
