use Rattle.std.proofs.Common.{◌∙◌, sym, rules}
use Rattle.neigh_script.proofs.OptionSteps.{options_bad}
use Rattle.neigh_script.proofs.options.read_options.Goals as goal

pub returns-in_err-met : goal.returns-in_err-met
returns-in_err-met c =
    let bad = options_bad c.args.host.now c.loop-name.met c.in-Some.name.now c.in_ok-value.value.now c.field.new.self c.in_err-met.field-0.0 (sym c.read_option.ensures.value ∙ c.in_err-met.was) in
    search (rules, bad)
