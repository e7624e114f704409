use Rattle.std.proofs.Common.{◌≡◌, ◌+◌, ◌-◌, ◌∙◌, length, take, drop, sym, ap, arith}
use Rattle.std.proofs.lemmas.List.{take_rest}
use Rattle.nd_codec.specs.Checksum.{word_sum, ones_of, pseudo_header}
use Rattle.nd_codec.proofs.Ones.{checksum_cleared-is}
use Rattle.nd_codec.proofs.sums.checksum_cleared.Goals as goal

pub returns : goal.returns
returns c =
    let s = c.args.source in
    let d = c.args.dest in
    let m = c.args.message.now in
    let total : c.add_words.result ≡ word_sum (pseudo_header s d (length m)) + word_sum (take 2 m) + word_sum (drop 4 m) = omega (arith, c.add_words.ensures.sum, c.add_words-sum.ensures.sum, c.pseudo_header_sum-sum.ensures.sum, ap word_sum (take_rest m 4)) in
    ap (λ x. 65535 - x) (c.fold_carries.ensures ∙ ap ones_of total) ∙ sym (checksum_cleared-is s d m c.requires.long (λ i. omega (arith, c.type_inv.message i)))
