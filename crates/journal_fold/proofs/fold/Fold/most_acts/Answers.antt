use Rattle.std.proofs.Common.{length, List, ap, ◌∙◌, arith}
use Rattle.std.specs.List.{flat_map}
use Rattle.nb_base.specs.declared.key.Key.{Key}
use Rattle.nb_journal.specs.declared.kept.Kept.{Kept}
use Rattle.nb_journal.specs.Fold.{acts_of}
use Rattle.nb_journal.proofs.Folds.{known_keys-within}
use Rattle.journal_fold.specs.Taken.{Taken}
use Rattle.journal_fold.specs.Removing.{number_waiting}
use Rattle.journal_fold.proofs.Ranks.{as_many}
use Rattle.journal_fold.proofs.Removed.{acts_within}
use Rattle.journal_fold.proofs.Whole.{same_keys}
use Rattle.journal_fold.proofs.fold.Fold.most_acts.Goals as goal

pub count_waiting-requires : goal.count_waiting-requires
count_waiting-requires c =
    let f = c.self.inside in
    let size = ap (λ (t : Taken). length t.lines) c.self.view_is in
    let here = ap (λ (kept : List Kept). length kept) c.deref.ensures.value in
    let many = as_many _ _ f.kept.items c.self.invariant.states in
    omega (arith, here, many, size, c.requires, known_keys-within f.lines.items)

pub returns-in-None-clause-each : goal.returns-in-None-clause-each
returns-in-None-clause-each c names =
    let f = c.self.inside in
    let line = c.args.line.now in
    let all = ap (λ (keys : List Key). length (flat_map (acts_of f.params f.lines.items line) keys)) (same_keys f.lines.items line names) in
    let within = acts_within f.params f.lines.items line _ f.kept.items names c.self.invariant.states in
    let count = c.count_waiting.ensures ∙ ap (λ (kept : List Kept). number_waiting kept) c.deref.ensures.value in
    rw (← c.self.view_is) (omega (arith, all, within, count))
