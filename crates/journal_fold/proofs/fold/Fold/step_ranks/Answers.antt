use Rattle.std.proofs.Common.{List, [], ◌∷◌, ◌++◌, sym, ap, subst, ◌∙◌}
use Rattle.nb_base.specs.declared.key.Key.{Key}
use Rattle.nb_base.specs.declared.line.Line.{Line}
use Rattle.nb_journal.specs.Fold.{known_keys}
use Rattle.journal_fold.specs.Kept.{AreKept}
use Rattle.journal_fold.proofs.Whole.{counts, whole, same_keys}
use Rattle.journal_fold.proofs.fold.Fold.step_ranks.Goals as goal

pub go_on_ranks-requires-clause-present : goal.go_on_ranks-requires-clause-present
go_on_ranks-requires-clause-present c = counts c.self.inside c.self.invariant

pub invariant_of-self : goal.invariant_of-self
invariant_of-self c =
    let f = c.self.inside in
    let line = c.args.line.now in
    let behind = c.deref.result.now ++ line ∷ [] in
    whole _ behind
    (c.push_line.ensures.lines ∙ ap (λ (lines : List Line). lines ++ line ∷ []) (sym c.deref.ensures.value))
    c.self.invariant.params c.self.invariant.blank c.self.invariant.next
    (c.self.invariant.keys ∙ ap known_keys (sym c.deref.ensures.value) ∙ sym (same_keys c.deref.result.now line c.requires.names))
    (subst (λ (keys : List Key). AreKept f.params behind keys c.go_on_ranks.new.kept.items) c.as_slice.ensures.keys c.go_on_ranks.ensures.kept)
    c.go_on_ranks.ensures.present
