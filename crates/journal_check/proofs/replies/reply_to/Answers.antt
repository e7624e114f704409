use Rattle.std.proofs.Common.{arith}
use Rattle.nb_base.specs.declared.key.Key.{Key}
use Rattle.nb_journal.specs.Fold.{is_loose, state_of, known_keys}
use Rattle.nb_journal.proofs.Folds.{filter_within, known_keys-within, present_count-within}
use Rattle.journal_check.proofs.replies.reply_to.Goals as goal

pub counted-requires : goal.counted-requires
counted-requires c = omega (arith, c.requires.few, c.in_ok-present_count-in-Show.ensures, present_count-within c.args.params.now c.args.past.now)

pub counted-requires-in-Flush : goal.counted-requires-in-Flush
counted-requires-in-Flush c =
    omega (arith, c.requires.few, c.in_ok-loose_count-in-Flush.ensures, filter_within (λ (key : Key). is_loose (state_of c.args.params.now c.args.past.now key)) (known_keys c.args.past.now), known_keys-within c.args.past.now)
