use Rattle.std.proofs.Common.{◌≡◌, [], take, fold}
use Rattle.neigh_run.specs.Control.{proxies_with}
use Rattle.neigh_report.proofs.proxies.proxies_of.Given as goal

abbrev pub invariant-loop-item : goal.invariant-loop-item
invariant-loop-item l = l.table.keys ≡ fold proxies_with [] (take l.item-index l.items)
