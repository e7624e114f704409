use Rattle.std.proofs.Common.{List, ℕ, subst, sym, take, get_or}
use Rattle.std.proofs.lemmas.List.{take_more, take_all}
use Rattle.nb_bucket.specs.Dues.{ClearsGone}
use Rattle.nb_bucket.proofs.Armed.{clears-none, clears-more}
use Rattle.nb_bucket.proofs.timers.clear_gone.Goals as goal

pub loop-rank-init : goal.loop-rank-init
loop-rank-init c = clears-none c.args.fold.now.params c.args.fold.now.lines c.args.timers.now

pub loop-rank-preserved : goal.loop-rank-preserved
loop-rank-preserved c =
    let fold = c.args.fold.now in
    let ranks = c.args.ranks.now in
    let i = c.loop-rank.rank-index in
    subst (λ (front : List ℕ). ClearsGone fold.params fold.lines front c.args.timers.now c.clear_one.new.timers) (sym (take_more ranks i 0 c.loop-rank-test.true))
    (clears-more fold.params fold.lines (take i ranks) (get_or ranks i 0) c.due_at.result c.args.timers.now c.loop-rank.timers c.clear_one.new.timers c.due_at.ensures c.loop-rank.invariant c.clear_one.ensures)

pub returns : goal.returns
returns c =
    subst (λ (front : List ℕ). ClearsGone c.args.fold.now.params c.args.fold.now.lines front c.args.timers.now c.loop-rank.timers) (take_all c.loop-rank.rank-index c.args.ranks.now c.loop-rank-test.false) c.loop-rank.invariant
