-- Many small packets aren't large, and where there is room a further one goes behind them.
use Rattle.std.proofs.Common.{◌≡◌, ◌<◌, ◌≤◌, ◌*◌, List, [], ◌∷◌, ◌++◌, length, subst, sym, arith}
use Rattle.nb_queues.specs.Queue.{total_size, Packet}
use Rattle.nb_queues.proofs.Sizes.{total_size-small, pushed_items, pushed_capacity, pushed_length, pushed_small, pushed_total}
use Rattle.nb_queues.proofs.wait_queue.WaitQueue.push.Goals as goal

pub overflow_add-self : goal.overflow_add-self
overflow_add-self c =
    let small : total_size c.self.inside.packets.items ≤ 1_756 * length c.self.inside.packets.items = total_size-small c.self.inside.packets.items c.self.invariant.2 in
    let many : length c.self.inside.packets.items ≤ 64 = c.self.invariant.1 in
    let is : c.self.inside.total ≡ total_size c.self.inside.packets.items = c.self.invariant.3 in
    let size : c.args.size ≤ 1_756 = c.requires.small in
    omega arith

pub invariant_of-self : goal.invariant_of-self
invariant_of-self c =
    let old = c.self.inside.packets in
    let new = c.push_back-none.new.self in
    let x : Packet = (c.args.id, c.args.size) in
    let room : length old.items < 64 = subst (λ (xs : List Packet). length xs < 64) (sym c.self.view_is) c.requires.room in
    let is : new.items ≡ old.items ++ x ∷ [] = pushed_items old new x c.self.invariant.0 room c.push_back-none.ensures.items in (
      pushed_capacity old new x c.self.invariant.0 c.push_back-none.ensures.items,
      pushed_length old.items new.items x room is,
      pushed_small old.items new.items x c.self.invariant.2 c.requires.small is,
      pushed_total old.items new.items x c.self.inside.total c.self.invariant.3 is,
    )
