use Rattle.std.proofs.Common.{◌≡◌, ◌∙◌, ap, sym, true}
use Rattle.neigh_words.specs.Settings.{is_long_number}
use Rattle.neigh_words.proofs.Numbers.{generated_from}
use Rattle.neigh_words.proofs.words_of_command.read_generated.Goals as goal

pub returns-then-is_long_number : goal.returns-then-is_long_number
returns-then-is_long_number c =
    let long : is_long_number c.args.text.now ≡ true = ap is_long_number (sym c.as_bytes.ensures.value) ∙ sym c.is_long_number.ensures ∙ c.if-is_long_number.true in
    c.ok.ensures.value ∙ generated_from c.args.text.now c.parse.result long c.parse.ensures.value.0
