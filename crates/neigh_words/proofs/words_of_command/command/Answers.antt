use Rattle.std.proofs.Common.{◌≡◌, ◌∙◌, ap, ap₂, true, codes}
use Rattle.std.proofs.lemmas.Result.{IfOk-weaker}
use Rattle.clap.specs.Simple.{App, app_of, app_of_fields, new_app, on_top, with_rule}
use Rattle.neigh_words.proofs.words_of_command.command.Goals as goal

abbrev nameless : App → App
nameless = on_top (λ s. record s { no_binary_name = true })

abbrev helpless : App → App
helpless = on_top (λ s. record s { disable_help_flag = true })

abbrev bare : App
bare = on_top (λ s. record s { disable_version_flag = true }) (helpless (nameless (new_app (codes "neigh"))))

pub returns : goal.returns
returns c =
    let named : app_of c.no_binary_name.result ≡ nameless (new_app (codes "neigh")) = ap app_of_fields c.no_binary_name.ensures ∙ ap nameless c.new.ensures.app in
    let no_help : app_of c.disable_help_flag.result ≡ helpless (nameless (new_app (codes "neigh"))) = ap app_of_fields c.disable_help_flag.ensures ∙ ap helpless named in
    let start : app_of c.disable_version_flag-command.result ≡ bare =
    ap app_of_fields c.disable_version_flag-command.ensures ∙ ap (on_top (λ s. record s { disable_version_flag = true })) no_help in
    let one = c.in_ok-arg.ensures.shape c.option.ensures.local ∙ ap₂ with_rule start c.option.ensures.rule in
    let two = c.in_ok-arg-2.ensures.shape c.option-2.ensures.local ∙ ap₂ with_rule one c.option-2.ensures.rule in
    let three = c.in_ok-arg-3.ensures.shape c.option-3.ensures.local ∙ ap₂ with_rule two c.option-3.ensures.rule in
    let four = c.in_ok-arg-4.ensures.shape c.option-4.ensures.local ∙ ap₂ with_rule three c.option-4.ensures.rule in
    let five = c.in_ok-arg-5.ensures.shape c.option-5.ensures.local ∙ ap₂ with_rule four c.option-5.ensures.rule in
    IfOk-weaker c.arg-6.result _ _ (λ r added. added.shape c.option-6.ensures.local ∙ ap₂ with_rule five c.option-6.ensures.rule) c.arg-6.ensures
