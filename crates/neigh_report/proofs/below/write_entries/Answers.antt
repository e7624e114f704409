use Rattle.std.proofs.Common.{sym}
use Rattle.neigh_report.proofs.Listing.{rows_after, same_size}
use Rattle.neigh_report.proofs.below.write_entries.Goals as goal

pub write_keys-requires : goal.write_keys-requires
write_keys-requires c = same_size c.args.fold.now.params c.args.fold.now.lines c.keys.result.now c.kept.result.now c.keys.ensures c.kept.ensures.states

pub returns : goal.returns
returns c = rw (sym (rows_after c.args.host.now c.args.fold.now.params c.args.fold.now.lines c.keys.result.now c.kept.result.now c.keys.ensures c.kept.ensures.states)) c.write_keys.ensures
