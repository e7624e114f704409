use Rattle.std.proofs.Common.{ap, ◌∙◌}
use Rattle.nb_queues.specs.Proxies.{Proxies}
use Rattle.nb_queues.specs.SameKey.{has_key}
use Rattle.nb_queues.proofs.SameKeys.{has_equal}
use Rattle.nb_queues.proofs.proxy_table.ProxyTable.has.Goals as goal

pub returns : goal.returns
returns c = c.contains.ensures ∙ has_equal c.self.inside.keys.keys c.args.key.now ∙ ap (λ (t : Proxies). has_key t.keys c.args.key.now) c.self.view_is
