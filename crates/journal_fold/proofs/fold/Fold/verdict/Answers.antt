use Rattle.std.proofs.Common.{List, length, sym, ap, ◌∙◌, arith}
use Rattle.std.specs.Prelude.{filter}
use Rattle.nb_base.specs.declared.key.Key.{Key}
use Rattle.journal_fold.specs.Taken.{Taken}
use Rattle.nb_journal.specs.declared.kept.Kept.{Kept}
use Rattle.journal_fold.specs.Kept as kept_in
use Rattle.nb_journal.specs.Fold.{is_loose, state_of, known_keys}
use Rattle.nb_journal.proofs.Folds.{filter_within, known_keys-within, present_count-within}
use Rattle.journal_fold.proofs.Counted.{loose_is}
use Rattle.journal_fold.proofs.Replied.{reply_other, reply_show, reply_flush}
use Rattle.journal_fold.proofs.Whole.{are_kept}
use Rattle.journal_fold.proofs.fold.Fold.verdict.Goals as goal

pub counted-requires : goal.counted-requires
counted-requires c =
    let f = c.self.inside in
    let size = ap (λ (t : Taken). length t.lines) c.self.view_is in
    omega (arith, size, c.requires.few, c.self.invariant.present, present_count-within f.params f.lines.items)

pub counted-requires-in-Flush : goal.counted-requires-in-Flush
counted-requires-in-Flush c =
    let f = c.self.inside in
    let size = ap (λ (t : Taken). length t.lines) c.self.view_is in
    let loose = c.count_loose.ensures ∙ ap (λ (kept : List Kept). length (filter kept_in.is_loose kept)) c.deref.ensures.value ∙ loose_is f.params f.lines.items f.kept.items (are_kept f c.self.invariant) in
    omega (arith, size, c.requires.few, loose, filter_within (λ (key : Key). is_loose (state_of f.params f.lines.items key)) (known_keys f.lines.items), known_keys-within f.lines.items)

pub returns-then-not-is_own : goal.returns-then-not-is_own
returns-then-not-is_own c = reply_other c.args.self.now.params c.args.self.now.lines c.args.line.now (sym c.is_own.ensures ∙ c.if-not-is_own.true)

pub returns-in-Show : goal.returns-in-Show
returns-in-Show c =
    let f = c.self.inside in
    rw (c.counted.ensures, c.self.invariant.present, ← c.self.view_is) (reply_show f.params f.lines.items c.args.line.now c.in-Show.is)

pub returns-in-Flush : goal.returns-in-Flush
returns-in-Flush c =
    let f = c.self.inside in
    let loose = c.count_loose.ensures ∙ ap (λ (kept : List Kept). length (filter kept_in.is_loose kept)) c.deref.ensures.value ∙ loose_is f.params f.lines.items f.kept.items (are_kept f c.self.invariant) in
    rw (c.counted-in-Flush.ensures, loose, ← c.self.view_is) (reply_flush f.params f.lines.items c.args.line.now c.in-Flush.is)
