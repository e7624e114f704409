use Rattle.std.proofs.Common.{◌≡◌, ◌+◌, List, length, ap, ◌∙◌, arith}
use Rattle.nb_base.specs.declared.key.Key.{Key}
use Rattle.nb_base.specs.declared.line.Line.{Line}
use Rattle.nb_journal.specs.Fold.{known_keys}
use Rattle.nb_journal.proofs.Folds.{known_keys-within}
use Rattle.nb_bucket.proofs.Armed.{armed-reserved}
use Rattle.nb_bucket.proofs.room.make_room.Goals as goal

pub overflow_cast-nodes : goal.overflow_cast-nodes
overflow_cast-nodes c =
    let size = ap (λ (keys : List Key). length keys) c.keys.ensures ∙ ap (λ (xs : List Line). length (known_keys xs)) c.in_ok-reserve.ensures.same in
    let within = known_keys-within c.args.fold.now.lines in
    omega (arith, size, within, c.requires.few)

pub overflow_cast-nodes-2 : goal.overflow_cast-nodes-2
overflow_cast-nodes-2 c =
    let size = ap (λ (keys : List Key). length keys) c.keys.ensures ∙ ap (λ (xs : List Line). length (known_keys xs)) c.in_ok-reserve.ensures.same in
    let within = known_keys-within c.args.fold.now.lines in
    omega (arith, size, within, c.requires.few)

pub returns-clause-armed : goal.returns-clause-armed
returns-clause-armed c = armed-reserved c.args.fold.now.params c.args.fold.now.lines c.args.timers.now c.reserve-5.new.self (length c.keys.result.now + 1) c.in_ok-reserve-5.ensures.ok c.requires.armed
