use Rattle.std.proofs.Common.{refl, sym, ap, ◌∙◌}
use Rattle.nb_journal.specs.Fold.{known_keys, present_count}
use Rattle.nb_journal.proofs.Folds.{known_keys-nil}
use Rattle.journal_fold.proofs.Whole.{none_present}
use Rattle.journal_fold.proofs.fold.Fold.new.Goals as goal

pub invariant_of-result : goal.invariant_of-result
invariant_of-result c = record {
  params = c.requires;
  keys = c.new-2.ensures.empty ∙ sym (ap known_keys c.new.ensures.items ∙ known_keys-nil);
  states = rw (c.new-3.ensures.items, c.new.ensures.items, known_keys-nil) refl;
  kept = rw c.new-3.ensures.items tt;
  present = sym (ap (present_count c.args.params.now) c.new.ensures.items ∙ none_present c.args.params.now);
  blank = (c.in_ok-blank.ensures.kept c.args.params.now, c.in_ok-blank.ensures.absent);
  next = (c.in_ok-next.ensures.kept c.args.params.now, c.in_ok-next.ensures.absent);
}
