use Rattle.std.proofs.Common.{◌∙◌, sym, ap}
use Rattle.nd_codec.specs.Options.{view, has_kind, options_of}
use Rattle.nd_codec.proofs.Walk.{options_of-step, options_of-stop, has_kind-here, has_kind-behind}
use Rattle.nd_codec.proofs.options.has_option.Goals as goal

pub returns-then-option-kind : goal.returns-then-option-kind
returns-then-option-kind c =
    let o = view c.in-Some.option in
    let behind = c.in-Some.behind.now in
    let step = options_of-step c.loop-option.rest.now o behind c.in-Some.ensures.value c.loop-option.invariant.options in
    sym (has_kind-here c.args.kind o (options_of behind) c.if-option-kind.true) ∙ ap (has_kind c.args.kind) (sym step.0) ∙ c.loop-option.invariant.told

pub loop-option-preserved : goal.loop-option-preserved
loop-option-preserved c =
    let o = view c.in-Some.option in
    let behind = c.in-Some.behind.now in
    let step = options_of-step c.loop-option.rest.now o behind c.in-Some.ensures.value c.loop-option.invariant.options in
    record {
      options = step.1;
      told = sym (has_kind-behind c.args.kind o (options_of behind) c.if-option-kind.false) ∙ ap (has_kind c.args.kind) (sym step.0) ∙ c.loop-option.invariant.told;
    }

pub returns : goal.returns
returns c = ap (has_kind c.args.kind) (sym (options_of-stop c.loop-option.rest.now c.in_default.ensures.value c.loop-option.invariant.options)) ∙ c.loop-option.invariant.told
