use Rattle.std.proofs.Common.{List, map, ap, ◌∙◌}
use Rattle.nb_base.specs.declared.key.Key.{Key}
use Rattle.nud_machine.specs.State.{State}
use Rattle.nb_journal.specs.Fold.{known_keys}
use Rattle.nb_journal.specs.Steps.{state_in}
use Rattle.journal_fold.specs.Removing.{gone_rows}
use Rattle.journal_fold.proofs.Touches.{touched_gone}
use Rattle.journal_fold.proofs.fold.Fold.take_each.Goals as goal

pub returns-clause-touched : goal.returns-clause-touched
returns-clause-touched c =
    let f = c.self.inside in
    let line = c.args.line.now in
    let rows = c.in_ok-touched.ensures
    ∙ ap (λ (keys : List Key). gone_rows f.params line keys (map state_in c.deref.result.now)) (c.as_slice.ensures.keys ∙ c.self.invariant.keys)
    ∙ ap (λ (states : List State). gone_rows f.params line (known_keys f.lines.items) states) (ap (map state_in) c.deref.ensures.value ∙ c.self.invariant.states) in
    c.from_vec.ensures ∙ rw (← c.self.view_is) (rows ∙ touched_gone f.params f.lines.items line c.requires.names)
