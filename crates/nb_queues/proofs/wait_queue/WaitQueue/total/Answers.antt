-- At most 64 small packets aren't large.
use Rattle.std.proofs.Common.{◌≡◌, ◌≤◌, ◌*◌, length, arith}
use Rattle.nb_queues.specs.Queue.{total_size}
use Rattle.nb_queues.proofs.Sizes.{total_size-small}
use Rattle.nb_queues.proofs.wait_queue.WaitQueue.total.Goals as goal

pub returns-clause-within : goal.returns-clause-within
returns-clause-within c =
    let small : total_size c.self.inside.packets.items ≤ 1_756 * length c.self.inside.packets.items = total_size-small c.self.inside.packets.items c.self.invariant.2 in
    let many : length c.self.inside.packets.items ≤ 64 = c.self.invariant.1 in
    let is : c.self.inside.total ≡ total_size c.self.inside.packets.items = c.self.invariant.3 in
    omega arith
