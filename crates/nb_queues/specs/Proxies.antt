-- Proxied addresses, and the requests for them that wait (arp(7), proxy_delay and proxy_qlen; Linux, the proxy entries and the proxy queue of a table).
use Rattle.std.specs.Prelude.{ℕ, Bool, true, nat_le, nat_lt, ◌&&◌, List, [], ◌∷◌}
use Rattle.std.specs.List.{list_all}
use Rattle.nb_base.specs.declared.key.Key.{Key}
use Rattle.nb_base.specs.declared.key.Key.TheVariants.{V4, V6}
use Rattle.nb_queues.specs.declared.request.ProxyRequest.{ProxyRequest}
use Rattle.nb_queues.specs.declared.request.ProxyRequest.TheVariants as request
use Rattle.nb_queues.specs.declared.request.ProxyJob.{ProxyJob}

-- the address that is asked for
abbrev pub target_of : ProxyRequest → Key
target_of (request.Arp mac asker target) = V4 target
target_of (request.Nd mac asker target) = V6 target

-- the proxied addresses in order of adding, the jobs that wait, the oldest first, how long each waits in milliseconds, and how many may wait
pub record Proxies : Type 0 where
  pub keys : List Key
  pub jobs : List ProxyJob
  pub delay : ℕ
  pub most : ℕ

-- no job is due behind a moment
abbrev pub are_due_by : ℕ → List ProxyJob → Bool
are_due_by at jobs = list_all (λ job. nat_le job.due at) jobs

-- no job is due at a moment
abbrev pub none_due : ℕ → List ProxyJob → Bool
none_due at jobs = list_all (λ job. nat_lt at job.due) jobs

-- no job is due before one that waits longer
abbrev pub are_in_order : List ProxyJob → Bool
are_in_order [] = true
are_in_order (job ∷ jobs) = list_all (λ later. nat_le job.due later.due) jobs && are_in_order jobs
