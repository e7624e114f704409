use Rattle.std.proofs.Common.{List, ◌++◌, drop, sym, ap, ◌∙◌, append-nil}
use Rattle.nb_base.specs.declared.key.Key.{Key}
use Rattle.nb_journal.specs.Fold.{state_of}
use Rattle.nb_journal.specs.Lawful.{is_collectable}
use Rattle.nb_journal.proofs.Meets.{collected_none}
use Rattle.journal_check.proofs.forcing.taken_of.Goals as goal

pub returns-then-left-params : goal.returns-then-left-params
returns-then-left-params c =
    let none = collected_none c.args.params.now.gc_thresh2 c.loop-key.left (λ (key : Key). is_collectable c.args.at (state_of c.args.params.now c.args.base.now key)) (drop c.loop-key.key-index c.args.keys.now) c.if-left-params.true in
    sym (append-nil c.loop-key.taken.items) ∙ ap (λ (keys : List Key). c.loop-key.taken.items ++ keys) (sym none) ∙ c.loop-key.invariant
