use Rattle.std.proofs.Common.{List, ◌++◌, Option, sym, ap, ◌∙◌}
use Rattle.nb_base.specs.declared.line.Line.{Line}
use Rattle.nb_base.specs.declared.params.Params.{Params}
use Rattle.nb_journal.specs.Fold.{state_of}
use Rattle.journal_fold.specs.declared.touched.Shown.{Shown}
use Rattle.journal_fold.specs.declared.touched.Touch.{Touch}
use Rattle.journal_fold.specs.Touched.{shown_of, touch_of}
use Rattle.journal_fold.proofs.Touches.{touched_one}
use Rattle.journal_fold.proofs.fold.Fold.take_named.Goals as goal

pub returns-clause-touched : goal.returns-clause-touched
returns-clause-touched c =
    let old = c.args.self.now in
    let line = c.args.line.now in
    let key = c.args.key.now in
    let now = c.shown.ensures
    ∙ ap (λ (p : Params). shown_of (state_of p c.append-reply.new.self.lines key)) c.append-reply.ensures.params
    ∙ ap (λ (lines : List Line). shown_of (state_of old.params lines key)) c.append-reply.ensures.lines in
    c.from_vec.ensures
    ∙ c.put_touch.ensures
    ∙ ap (λ (before : List Touch). before ++ touch_of key c.shown-before.result c.shown.result) c.in_ok-touched.ensures.items
    ∙ ap (λ (before : Option Shown). touch_of key before c.shown.result) c.shown-before.ensures
    ∙ ap (λ (shown : Option Shown). touch_of key (shown_of (state_of old.params old.lines key)) shown) now
    ∙ sym (touched_one old.params old.lines line key c.requires.names)
