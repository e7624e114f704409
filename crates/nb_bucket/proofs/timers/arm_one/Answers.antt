use Rattle.std.proofs.Common.{sym, arith}
use Rattle.nb_journal.proofs.Folds.{known_keys-within}
use Rattle.nb_bucket.proofs.Armed.{rank-within, known_at, arms-known, arms-unknown}
use Rattle.nb_bucket.proofs.timers.arm_one.Goals as goal

pub overflow_cast-rank : goal.overflow_cast-rank
overflow_cast-rank c =
    let within = rank-within c.args.fold.now.lines c.args.key.now c.in-Some.rank (sym c.in-Some.ensures.known) c.in-Some.ensures.rank in
    let few = known_keys-within c.args.fold.now.lines in
    omega (arith, within, few, c.requires.few)

pub due_at-requires : goal.due_at-requires
due_at-requires c = rank-within c.args.fold.now.lines c.args.key.now c.in-Some.rank (sym c.in-Some.ensures.known) c.in-Some.ensures.rank

pub set_due-requires-clause-node : goal.set_due-requires-clause-node
set_due-requires-clause-node c =
    let within = rank-within c.args.fold.now.lines c.args.key.now c.in-Some.rank (sym c.in-Some.ensures.known) c.in-Some.ensures.rank in
    omega (arith, within, c.requires.nodes)

pub set_due-requires-clause-ahead : goal.set_due-requires-clause-ahead
set_due-requires-clause-ahead c =
    let at = known_at c.args.fold.now.lines c.args.key.now c.in-Some.rank (sym c.in-Some.ensures.known) c.in-Some.ensures.rank in
    rw (c.due_at.ensures c.args.key.now at) (c.requires.ahead c.args.key.now)

pub returns-in-Some : goal.returns-in-Some
returns-in-Some c =
    let at = known_at c.args.fold.now.lines c.args.key.now c.in-Some.rank (sym c.in-Some.ensures.known) c.in-Some.ensures.rank in
    rw c.set_due.ensures
    (arms-known c.args.fold.now.params c.args.fold.now.lines c.args.key.now c.in-Some.rank c.due_at.result c.args.timers.now (sym c.in-Some.ensures.known) c.in-Some.ensures.rank c.requires.nodes (c.due_at.ensures c.args.key.now at))

pub returns-in_default : goal.returns-in_default
returns-in_default c = arms-unknown c.args.fold.now.params c.args.fold.now.lines c.args.key.now c.args.timers.now (sym c.in_default.ensures.known)
