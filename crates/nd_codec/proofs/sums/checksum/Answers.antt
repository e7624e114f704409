use Rattle.std.proofs.Common.{◌≡◌, ◌+◌, ◌-◌, ◌∙◌, length, sym, ap, arith}
use Rattle.nd_codec.specs.Checksum.{word_sum, ones_of, pseudo_header}
use Rattle.nd_codec.proofs.Ones.{checksum_of-is}
use Rattle.nd_codec.proofs.sums.checksum.Goals as goal

pub returns : goal.returns
returns c =
    let s = c.args.source in
    let d = c.args.dest in
    let m = c.args.message.now in
    let total : c.add_words.result ≡ word_sum (pseudo_header s d (length m)) + word_sum m = omega (arith, c.add_words.ensures.sum, c.pseudo_header_sum-sum.ensures.sum) in
    ap (λ x. 65535 - x) (c.fold_carries.ensures ∙ ap ones_of total) ∙ sym (checksum_of-is s d m (λ i. omega (arith, c.type_inv.message i)))
