use Rattle.neigh_script.proofs.lines.read_item.Goals as goal

pub returns-in_ok-item-clause-within : goal.returns-in_ok-item-clause-within
returns-in_ok-item-clause-within c = c.in_ok-item.ensures.within c.args.context.now.senders

pub returns-in_ok-item-2-clause-within : goal.returns-in_ok-item-2-clause-within
returns-in_ok-item-2-clause-within c = c.in_ok-item-2.ensures.within c.args.context.now.senders
