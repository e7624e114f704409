use Rattle.std.proofs.Common.{◌≡◌, Bool, if◌then◌else◌, List, sym, ap, ◌∙◌}
use Rattle.std.specs.List.{list_any}
use Rattle.nb_base.specs.declared.key.Key.{Key}
use Rattle.nb_base.specs.declared.line.Reply.TheVariants as reply
use Rattle.nb_base.specs.contracts.key.KeyPartialEq.TheImpl.{eq-value}
use Rattle.nb_queues.specs.Proxies.{Proxies}
use Rattle.nb_queues.specs.SameKey.{has_key, without_key}
use Rattle.nb_queues.proofs.SameKeys.{has_equal, remove_is}
use Rattle.nb_queues.proofs.proxy_table.ProxyTable.del.Goals as goal

pub returns-clause-reply : goal.returns-clause-reply
returns-clause-reply c =
    let there = c.shift_remove-was_there.ensures.found ∙ has_equal c.self.inside.keys.keys c.args.key.now ∙ ap (λ (t : Proxies). has_key t.keys c.args.key.now) c.self.view_is in
    c.delete_reply.ensures ∙ ap (λ (b : Bool). if b then reply.Done else reply.Missing) there

pub returns-clause-keys : goal.returns-clause-keys
returns-clause-keys c =
    let off = ap (λ (keys : List Key). list_any (eq-value.it c.args.key.now) keys) (sym c.shift_remove-was_there.ensures.keys) ∙ c.shift_remove-was_there.ensures.updates.1 in
    let is : c.shift_remove-was_there.new.self.keys ≡ without_key c.self.inside.keys.keys c.args.key.now = c.shift_remove-was_there.ensures.keys ∙ remove_is c.self.inside.keys.keys c.args.key.now off in
    ap (λ (keys : List Key). (let t : Proxies = record { keys = keys; jobs = c.self.inside.jobs.items; delay = c.self.inside.delay; most = c.self.inside.jobs.capacity } in t)) is
    ∙ ap (λ (t : Proxies). (let n : Proxies = record t { keys = without_key t.keys c.args.key.now } in n)) c.self.view_is
