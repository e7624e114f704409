use Rattle.std.proofs.Common.{sym, ◌∙◌}
use Rattle.journal_fold.proofs.Named.{named_there, named_unknown, state_at, acts_there, acts_nowhere}
use Rattle.journal_fold.proofs.steps.go_on_named.Goals as goal

pub go_on_at-requires-clause-state : goal.go_on_at-requires-clause-state
go_on_at-requires-clause-state c = state_at c.args.params.now c.args.past.now c.args.keys.now.keys c.args.kept.now.items c.in-Some.rank c.args.key.now c.in-Some.ensures.there c.requires.kept

pub returns-in-Some-clause-kept : goal.returns-in-Some-clause-kept
returns-in-Some-clause-kept c =
    named_there c.args.params.now c.args.past.now c.args.line.now c.args.key.now c.in-Some.rank c.args.keys.now.keys c.args.kept.now.items c.go_on_at.new.kept.items
    c.requires.keys c.requires.names c.in-Some.ensures.there c.requires.kept c.go_on_at.ensures.states c.go_on_at.ensures.each

pub returns-in-Some-clause-acts : goal.returns-in-Some-clause-acts
returns-in-Some-clause-acts c = c.go_on_at.ensures.acts ∙ sym (acts_there c.args.params.now c.args.past.now c.args.line.now c.args.key.now c.in-Some.rank c.args.keys.now.keys c.requires.keys c.requires.names c.in-Some.ensures.there)

pub returns-in-None-clause-kept : goal.returns-in-None-clause-kept
returns-in-None-clause-kept c = named_unknown c.args.params.now c.args.past.now c.args.line.now c.args.key.now c.args.keys.now.keys c.args.kept.now.items c.requires.names (sym c.in-None.ensures.known) c.requires.kept

pub returns-in-None-clause-acts : goal.returns-in-None-clause-acts
returns-in-None-clause-acts c = c.clear.ensures ∙ sym (acts_nowhere c.args.params.now c.args.past.now c.args.line.now c.args.key.now c.args.keys.now.keys c.requires.keys c.requires.names (sym c.in-None.ensures.known))
