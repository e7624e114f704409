use Rattle.std.proofs.Common.{List, sym, subst}
use Rattle.std.specs.List.{IsDistinct}
use Rattle.nb_base.specs.declared.key.Key.{Key}
use Rattle.nb_queues.specs.SameKey.{is_key}
use Rattle.nb_queues.proofs.SameKeys.{different_is}
use Rattle.nb_queues.proofs.proxy_table.ProxyTable.keys.Goals as goal

pub returns-clause-different : goal.returns-clause-different
returns-clause-different c = subst (λ (keys : List Key). IsDistinct is_key keys) (sym c.as_slice.ensures.keys) (different_is c.self.inside.keys.keys c.as_slice.ensures.unique)
