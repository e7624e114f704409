use Rattle.std.proofs.Common.{◌≡◌, ◌∙◌, sym, refl, ap, true, false, map, string_bytes}
use Rattle.std.proofs.lemmas.Result.{IfOk-weaker}
use Rattle.std.specs.List.{list_any}
use Rattle.clap.proofs.WalkLemmas.{list_any-map}
use Rattle.neigh_words.specs.Settings.{wanted_in, is_dashes}
use Rattle.neigh_words.proofs.words_of_command.settings.Goals as goal

pub returns-then-has_dashes-clause-usage : goal.returns-then-has_dashes-clause-usage
returns-then-has_dashes-clause-usage c e =
    let dashes : list_any is_dashes (map string_bytes c.args.words.now) ≡ true =
    sym (list_any-map is_dashes string_bytes c.args.words.now) ∙ (sym c.has_dashes.ensures ∙ c.if-has_dashes.true) in
    rw dashes refl

pub returns-clause-found : goal.returns-clause-found
returns-clause-found c =
    let no_dashes : list_any is_dashes (map string_bytes c.args.words.now) ≡ false =
    sym (list_any-map is_dashes string_bytes c.args.words.now) ∙ (sym c.has_dashes.ensures ∙ c.if-has_dashes.false) in
    IfOk-weaker c.command_in.result _ _ (λ command found. rw (no_dashes, c.in_ok-matches.ensures.taken) (ap wanted_in (sym c.in_ok-matches.ensures.rows) ∙ found)) c.command_in.ensures.found
