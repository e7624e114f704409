use Rattle.std.proofs.Common.{◌≡◌, ℕ, ◌-◌, length, take, drop, ap, ◌∙◌}
use Rattle.std.proofs.lemmas.List.{take_rest}
use Rattle.std.specs.List.{position_or_len}
use Rattle.neigh_script.proofs.NextWord.{is_sign, words_of-behind_blanks, word_behind_blanks, words_of-empty}
use Rattle.neigh_script.proofs.words.skip_blanks.Goals as goal

pub returns : goal.returns
returns c =
    let xs = c.args.text.now in
    let at = c.blank_len.ensures.value in
    let rest : take (length xs - c.blank_len.result) (drop c.blank_len.result xs) ≡ drop (position_or_len is_sign xs) xs = take_rest xs c.blank_len.result ∙ ap (λ (k : ℕ). drop k xs) at in
    rw rest (record {
      words = words_of-behind_blanks xs;
      begins = word_behind_blanks xs;
      empty = λ e. words_of-behind_blanks xs ∙ words_of-empty (drop (position_or_len is_sign xs) xs) e;
    })
