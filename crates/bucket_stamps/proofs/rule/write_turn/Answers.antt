use Rattle.bucket_stamps.proofs.Lists.{the_some}
use Rattle.bucket_stamps.proofs.Steps.{turns_allowed}
use Rattle.bucket_stamps.proofs.rule.write_turn.Goals as goal

pub store-requires : goal.store-requires
store-requires g c =
    let there = the_some c.args.seat.now.me.0.part c.requires.stamper.1 in (
      c.requires.table.0,
      c.requires.table.1,
      turns_allowed c.args.shared.now.table_id.slots c.args.seat.now.id 0 c.args.seat.now.me there.0 g.N.TurnName.at g.N.TurnName.ok c.requires.stamper.0 there.1,
    )
