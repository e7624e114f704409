use Rattle.std.proofs.Common.{◌≡◌, Bool, true, false, not, if◌then◌else◌, List, Result, Ok, Err, OnErr, refl, ap, sym, ◌∙◌}
use Rattle.nb_base.specs.declared.key.Key.{Key}
use Rattle.nb_base.specs.declared.line.Reply.{Reply}
use Rattle.nb_base.specs.declared.line.Reply.TheVariants as reply
use Rattle.nb_queues.specs.Proxies.{Proxies}
use Rattle.nb_queues.specs.SameKey.{has_key, with_key}
use Rattle.nb_queues.proofs.SameKeys.{has_equal, insert_is}
use Rattle.nb_queues.proofs.proxy_table.ProxyTable.add.Goals as goal

-- a choice by what is not so
turned_choice : (b t : Bool) (r s : Reply) → t ≡ not b → (if t then r else s) ≡ (if b then s else r)
turned_choice true t r s e = rw e refl
turned_choice false t r s e = rw e refl

on_err : {A E : Type 0} (r : Result A E) (P : Type 0) → P → OnErr r P
on_err (Ok a) P p = tt
on_err (Err e) P p = p

pub returns-in_err-is_new-clause-absent : goal.returns-in_err-is_new-clause-absent
returns-in_err-is_new-clause-absent c =
    let there = has_equal c.self.inside.keys.keys c.args.key ∙ ap (λ (t : Proxies). has_key t.keys c.args.key) c.self.view_is in
    on_err c.from_residual.result (has_key c.args.self.now.keys c.args.key ≡ false) (sym there ∙ c.in_err-is_new.ensures.absent)

pub returns-clause-reply : goal.returns-clause-reply
returns-clause-reply c =
    let there = has_equal c.self.inside.keys.keys c.args.key ∙ ap (λ (t : Proxies). has_key t.keys c.args.key) c.self.view_is in
    c.add_reply.ensures ∙ turned_choice (has_key c.args.self.now.keys c.args.key) c.in_ok-is_new.is_new reply.Done reply.Exists (c.in_ok-is_new.ensures.added ∙ ap not there)

pub returns-clause-ok : goal.returns-clause-ok
returns-clause-ok c =
    let is : c.insert.new.self.keys ≡ with_key c.self.inside.keys.keys c.args.key = c.in_ok-is_new.ensures.keys ∙ insert_is c.self.inside.keys.keys c.args.key in
    ap (λ (keys : List Key). (let t : Proxies = record { keys = keys; jobs = c.self.inside.jobs.items; delay = c.self.inside.delay; most = c.self.inside.jobs.capacity } in t)) is
    ∙ ap (λ (t : Proxies). (let n : Proxies = record t { keys = with_key t.keys c.args.key } in n)) c.self.view_is
