use Rattle.std.proofs.Common.{List, [], ◌∷◌, ◌++◌, sym, ap, ◌∙◌}
use Rattle.nb_base.specs.declared.line.Line.{Line}
use Rattle.nb_journal.specs.Fold.{known_keys}
use Rattle.journal_fold.proofs.Whole.{counts, whole}
use Rattle.journal_fold.proofs.fold.Fold.step_named.Goals as goal

pub go_on_named-requires-clause-present : goal.go_on_named-requires-clause-present
go_on_named-requires-clause-present c = counts c.self.inside c.self.invariant ∙ sym c.make_known.ensures.present

pub invariant_of-self : goal.invariant_of-self
invariant_of-self c =
    let line = c.args.line.now in
    whole _ (c.deref-2.result.now ++ line ∷ [])
    (c.push_line.ensures.lines ∙ ap (λ (lines : List Line). lines ++ line ∷ []) (sym c.deref-2.ensures.value))
    c.self.invariant.params c.self.invariant.blank c.make_known.ensures.next
    (c.make_known.ensures.keys ∙ ap (λ (lines : List Line). known_keys (lines ++ line ∷ [])) (c.deref.ensures.value ∙ sym c.deref-2.ensures.value))
    c.go_on_named.ensures.kept c.go_on_named.ensures.present
