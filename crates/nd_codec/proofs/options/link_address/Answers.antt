use Rattle.std.proofs.Common.{◌≡◌, ◌∙◌, ◌∷◌, Some, sym, ap}
use Rattle.nd_codec.specs.Options.{view, link_address_of, options_of}
use Rattle.nd_codec.proofs.Walk.{options_of-step, options_of-stop, link-here, link-behind_kind, link-behind_units}
use Rattle.nd_codec.proofs.options.link_address.Goals as goal
use Rattle.nd_codec.proofs.options.link_address.Goals.{else-option-kind-via-then-option-kind+else-option-eq1, else-option-kind-via-else-option-kind}

pub returns-then-option-eq1 : goal.returns-then-option-eq1
returns-then-option-eq1 c =
    let o = view c.in-Some.option in
    let behind = c.in-Some.behind.now in
    let step = options_of-step c.loop-option.rest.now o behind c.in-Some.ensures.value c.loop-option.invariant.options in
    ap Some c.mac_of.ensures ∙ sym (link-here c.args.kind o (options_of behind) c.if-option-kind.true c.if-option-eq1.true) ∙ ap (link_address_of c.args.kind) (sym step.0) ∙ c.loop-option.invariant.told

pub loop-option-preserved : goal.loop-option-preserved
loop-option-preserved c =
    let o = view c.in-Some.option in
    let behind = c.in-Some.behind.now in
    let step = options_of-step c.loop-option.rest.now o behind c.in-Some.ensures.value c.loop-option.invariant.options in
    let skipped : link_address_of c.args.kind (o ∷ options_of behind) ≡ link_address_of c.args.kind (options_of behind) =
    elim c.else-option-kind.branch [
      | else-option-kind-via-then-option-kind+else-option-eq1 w ↦ link-behind_units c.args.kind o (options_of behind) w.if-option-kind.true w.if-option-eq1.false
      | else-option-kind-via-else-option-kind w ↦ link-behind_kind c.args.kind o (options_of behind) w.if-option-kind.false
    ] in
    record {
      options = step.1;
      told = sym skipped ∙ ap (link_address_of c.args.kind) (sym step.0) ∙ c.loop-option.invariant.told;
    }

pub returns : goal.returns
returns c = ap (link_address_of c.args.kind) (sym (options_of-stop c.loop-option.rest.now c.in_default.ensures.value c.loop-option.invariant.options)) ∙ c.loop-option.invariant.told
