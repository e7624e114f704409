-- What the host keeps behind the items of participant 0.
use Rattle.std.proofs.Common.{◌≡◌, ℕ, ◌+◌, Bool, true, false, if◌then◌else◌, List, [], ◌∷◌, ◌++◌, Option, Some, None, refl, ◌∙◌, ap}
use Rattle.std.specs.Prelude.{fold}
use Rattle.nb_base.specs.declared.key.Key.{Key}
use Rattle.nb_base.specs.declared.plan.Plan.{Plan}
use Rattle.nb_base.specs.declared.plan.ControlItem.{ControlItem}
use Rattle.nb_base.specs.declared.plan.ControlItem.TheVariants as control
use Rattle.nb_queues.specs.declared.request.ProxyRequest.{ProxyRequest}
use Rattle.neigh_run.specs.Control.{HostState, host_start, heard, is_queued, with_request, answered, turn, state_behind, proxies_with}

-- a request that is queued changes no proxy entry
same_proxies : (plan : Plan) (s : HostState) (at : ℕ) (asked : Option ProxyRequest) → (with_request plan s at asked).proxies ≡ s.proxies
same_proxies plan s at None = refl
same_proxies plan s at (Some asked) = by_test (is_queued plan s) where
  by_test : (b : Bool) → (if b then record s { waiting = s.waiting ++ record { due = at + plan.params.proxy_delay; request = asked } ∷ [] } else s).proxies ≡ s.proxies
  by_test true = refl
  by_test false = refl

proxies_from : (plan : Plan) (s : HostState) (n : ℕ) (items : List ControlItem) → (state_behind plan s n items).proxies ≡ fold proxies_with s.proxies items
proxies_from plan s n [] = refl
proxies_from plan s n (control.Neigh at o ∷ items) = proxies_from plan (turn plan s n (control.Neigh at o)).behind (n + 1) items
proxies_from plan s n (control.Frame at bytes ∷ items) =
    let now = answered s (control.Frame at bytes) in
    proxies_from plan (turn plan s n (control.Frame at bytes)).behind (n + 1) items
    ∙ ap (λ (keys : List Key). fold proxies_with keys items) (same_proxies plan now at (heard plan now bytes).request)
proxies_from plan s n (control.Proxy at key add ∷ items) = proxies_from plan (turn plan s n (control.Proxy at key add)).behind (n + 1) items

-- the proxy entries behind all items are those that were added and not deleted
pub proxies_behind : (plan : Plan) → (state_behind plan host_start 1 plan.control).proxies ≡ fold proxies_with [] plan.control
proxies_behind plan = proxies_from plan host_start 1 plan.control
