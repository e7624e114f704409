use Rattle.std.proofs.Common.{map, set, sym, ap, ◌∙◌, arith}
use Rattle.std.proofs.lemmas.List.{map-set}
use Rattle.nud_machine.specs.State.{State, Stepped}
use Rattle.nb_journal.specs.Steps.{IsKept, state_in}
use Rattle.nb_journal.specs.Fold.{change, state_of}
use Rattle.nb_journal.proofs.Meets.{timers_due}
use Rattle.nb_journal.proofs.Folds.{state_of-snoc}
use Rattle.journal_fold.proofs.Places.{each_at, stood, present_before, present_after, present_within}
use Rattle.journal_fold.proofs.steps.go_on_at.Goals as goal

pub overflow_sub-present : goal.overflow_sub-present
overflow_sub-present c =
    let items = c.args.kept.now.items in
    let one = c.index_mut-one.result.now in
    let here = stood items c.args.rank one (state_of c.args.params.now c.args.past.now c.args.key.now) c.index_mut-one.ensures.value c.requires.state in
    rw (c.from.ensures, c.requires.present) (present_before items c.args.rank one here.0)

pub go_on-requires-clause-kept : goal.go_on-requires-clause-kept
go_on-requires-clause-kept c =
    let items = c.args.kept.now.items in
    let one = c.index_mut-one.result.now in
    let here = stood items c.args.rank one (state_of c.args.params.now c.args.past.now c.args.key.now) c.index_mut-one.ensures.value c.requires.state in
    each_at (IsKept c.args.params.now) items c.args.rank one here.0 c.requires.each

pub go_on-requires-clause-due : goal.go_on-requires-clause-due
go_on-requires-clause-due c =
    let one = c.index_mut-one.result.now in
    let here = stood c.args.kept.now.items c.args.rank one (state_of c.args.params.now c.args.past.now c.args.key.now) c.index_mut-one.ensures.value c.requires.state in
    timers_due c.args.params.now c.args.past.now c.args.line.now c.args.key.now (state_in one) here.1 c.requires.step.1

pub overflow_add-present : goal.overflow_add-present
overflow_add-present c =
    let items = c.args.kept.now.items in
    let one = c.index_mut-one.result.now in
    let new = c.go_on.new.self in
    let here = stood items c.args.rank one (state_of c.args.params.now c.args.past.now c.args.key.now) c.index_mut-one.ensures.value c.requires.state in
    let after = present_after items c.args.rank one new here.0 in
    let within = present_within items c.args.rank new in
    omega (arith, after, within, c.from.ensures, c.from-2.ensures, c.requires.present, c.args.kept.now.ok.0, c.args.kept.now.small)

pub returns-clause-states : goal.returns-clause-states
returns-clause-states c =
    let p = c.args.params.now in
    let past = c.args.past.now in
    let line = c.args.line.now in
    let key = c.args.key.now in
    let items = c.args.kept.now.items in
    let here = stood items c.args.rank c.index_mut-one.result.now (state_of p past key) c.index_mut-one.ensures.value c.requires.state in
    map-set state_in items c.args.rank c.go_on.new.self
    ∙ ap (set (map state_in items) c.args.rank)
    (ap (λ (x : Stepped). x.state) c.go_on.ensures.changed ∙ ap (λ (s : State). (change p line key s).state) here.1 ∙ sym (state_of-snoc p past line key))

pub returns-clause-present : goal.returns-clause-present
returns-clause-present c =
    let items = c.args.kept.now.items in
    let one = c.index_mut-one.result.now in
    let here = stood items c.args.rank one (state_of c.args.params.now c.args.past.now c.args.key.now) c.index_mut-one.ensures.value c.requires.state in
    rw (c.from.ensures, c.from-2.ensures, c.requires.present) (present_after items c.args.rank one c.go_on.new.self here.0)

pub returns-clause-acts : goal.returns-clause-acts
returns-clause-acts c =
    let p = c.args.params.now in
    let key = c.args.key.now in
    let here = stood c.args.kept.now.items c.args.rank c.index_mut-one.result.now (state_of p c.args.past.now key) c.index_mut-one.ensures.value c.requires.state in
    ap (λ (x : Stepped). x.acts) c.go_on.ensures.changed ∙ ap (λ (s : State). (change p c.args.line.now key s).acts) here.1
