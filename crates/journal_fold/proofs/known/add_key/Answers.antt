use Rattle.std.proofs.Common.{Bool, if◌then◌else◌, [], ◌∷◌, ◌++◌, sym, ap, ◌∙◌}
use Rattle.journal_fold.proofs.Equal.{has_equal, insert_is, new_among}
use Rattle.journal_fold.proofs.Places.{kept_next}
use Rattle.journal_fold.proofs.known.add_key.Goals as goal

pub returns-in-Ok-true-clause-keys : goal.returns-in-Ok-true-clause-keys
returns-in-Ok-true-clause-keys c = c.in-Ok-true.ensures.keys ∙ insert_is c.args.keys.now.keys c.args.key

pub returns-in-Ok-true-clause-kept : goal.returns-in-Ok-true-clause-kept
returns-in-Ok-true-clause-kept c p past known ready are =
    let off = new_among c.args.keys.now.keys c.args.key (sym c.in-Ok-true.ensures.added ∙ c.in-Ok-true.field-0-test) in
    let added = c.in-Ok-true.ensures.keys ∙ ap (λ (there : Bool). if there then c.args.keys.now.keys else c.args.keys.now.keys ++ c.args.key ∷ []) (has_equal c.args.keys.now.keys c.args.key ∙ off) in
    kept_next p past c.args.keys.now.keys c.insert.new.self.keys c.args.kept.now.items c.put_next.new.kept.items c.args.key c.args.next.now c.requires.there c.put_next.ensures.kept added off known ready are

pub returns-in-Ok-false-clause-keys : goal.returns-in-Ok-false-clause-keys
returns-in-Ok-false-clause-keys c = c.in-Ok-false.ensures.keys ∙ insert_is c.args.keys.now.keys c.args.key
