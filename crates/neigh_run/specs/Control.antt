-- Participant 0: what the host does at each of its items, in the state that the items before have left.
use Rattle.std.specs.Prelude.{ℕ, ◌+◌, Bool, true, false, nat_le, nat_lt, if◌then◌else◌, List, [], ◌∷◌, ◌++◌, length, Option, Some, None}
use Rattle.std.specs.Option.{option_map}
use Rattle.nb_base.specs.declared.key.Key.{Key}
use Rattle.nb_base.specs.declared.op.Op.{Op}
use Rattle.nb_base.specs.declared.line.Reply.{Reply}
use Rattle.nb_base.specs.declared.line.Reply.TheVariants as reply
use Rattle.nb_base.specs.declared.plan.Plan.{Plan}
use Rattle.nb_base.specs.declared.plan.ControlItem.{ControlItem}
use Rattle.nb_base.specs.declared.plan.ControlItem.TheVariants as control
use Rattle.nb_base.specs.declared.host_line.Placed.{Placed}
use Rattle.nb_base.specs.declared.host_line.HostLine.{HostLine}
use Rattle.nb_base.specs.declared.host_line.HostLine.TheVariants as host_line
use Rattle.nb_queues.specs.declared.request.ProxyRequest.{ProxyRequest}
use Rattle.nb_queues.specs.declared.request.ProxyJob.{ProxyJob}
use Rattle.nb_queues.specs.SameKey.{has_key, with_key, without_key}
use Rattle.heard_frames.specs.declared.heard.Heard.{Heard}
use Rattle.heard_frames.specs.Answers.{answer_frame}
use Rattle.heard_frames.specs.Heard.{heard_of}

-- ---- the state

-- the host's proxy entries in order of adding, and the requests for proxied addresses that wait for their dues, in the order in which they were queued
pub record HostState : Type 0 where
  pub proxies : List Key
  pub waiting : List ProxyJob

-- before its first item the host has neither
abbrev pub host_start : HostState
host_start = record { proxies = []; waiting = [] }

-- ---- requests that wait (arp(7), proxy_delay and proxy_qlen)

-- those that are due at a moment, up to the first that isn't, and those that go on waiting
abbrev pub due_by : ℕ → List ProxyJob → List ProxyJob
due_by at [] = []
due_by at (job ∷ waiting) = if nat_le job.due at then job ∷ due_by at waiting else []

abbrev pub waiting_behind : ℕ → List ProxyJob → List ProxyJob
waiting_behind at [] = []
waiting_behind at (job ∷ waiting) = if nat_le job.due at then waiting_behind at waiting else job ∷ waiting

-- each is answered at its due
abbrev pub answer_lines : Plan → List ProxyJob → List HostLine
answer_lines plan [] = []
answer_lines plan (job ∷ jobs) = host_line.Answer job.due (answer_frame plan.host job.request) ∷ answer_lines plan jobs

-- a request waits where fewer than `proxy_qlen` do
abbrev pub is_queued : Plan → HostState → Bool
is_queued plan s = nat_lt (length s.waiting) plan.params.proxy_qlen

-- it goes last, and is due when `proxy_delay` has passed
abbrev pub with_request : Plan → HostState → ℕ → Option ProxyRequest → HostState
with_request plan s at None = s
with_request plan s at (Some asked) = if is_queued plan s then record s { waiting = s.waiting ++ record { due = at + plan.params.proxy_delay; request = asked } ∷ [] } else s

-- ---- proxy entries

-- a proxy entry is added once, and deleted
abbrev pub proxies_with : List Key → ControlItem → List Key
proxies_with keys (control.Proxy at key true) = with_key keys key
proxies_with keys (control.Proxy at key false) = without_key keys key
proxies_with keys _ = keys

-- what a proxy line is answered
abbrev pub proxy_reply : List Key → Key → Bool → Reply
proxy_reply keys key true = if has_key keys key then reply.Exists else reply.Done
proxy_reply keys key false = if has_key keys key then reply.Done else reply.Missing

-- ---- frames

-- what the host makes of a frame that it hears, with the proxy entries that it has
abbrev pub heard : Plan → HostState → List ℕ → Heard
heard plan s bytes = heard_of plan.host (has_key s.proxies) bytes

-- ---- items

-- what an item brings: the operation on the table, the host's lines, over the places where that operation stands, and the state behind the item
pub record Turn : Type 0 where
  pub operation : Option Op
  pub lines : List Placed → List HostLine
  pub behind : HostState

abbrev pub first_of : List Placed → Option Placed
first_of [] = None
first_of (placed ∷ more) = Some placed

abbrev pub frame_turn : Plan → HostState → ℕ → ℕ → Heard → Turn
frame_turn plan s n at h = record {
  operation = h.op;
  lines = λ places. host_line.Frame n at h.class (option_map (λ asked. is_queued plan s) h.request) h.reply (first_of places) ∷ [];
  behind = with_request plan s at h.request;
}

abbrev pub proxy_turn : HostState → ℕ → ℕ → Key → Bool → Turn
proxy_turn s n at key add = record {
  operation = None;
  lines = λ places. host_line.Proxy n at (proxy_reply s.proxies key add) ∷ [];
  behind = record s { proxies = proxies_with s.proxies (control.Proxy at key add) };
}

-- the item of number n, where no answer is due
abbrev pub item_turn : Plan → HostState → ℕ → ControlItem → Turn
item_turn plan s n (control.Frame at bytes) = frame_turn plan s n at (heard plan s bytes)
item_turn plan s n (control.Neigh at o) = record { operation = Some o; lines = λ places. host_line.Neigh n at places ∷ []; behind = s }
item_turn plan s n (control.Proxy at key add) = proxy_turn s n at key add

-- the moment of an item
abbrev pub control_at : ControlItem → ℕ
control_at (control.Frame at bytes) = at
control_at (control.Neigh at o) = at
control_at (control.Proxy at key add) = at

-- the state in which an item is done: without the answers that are due by its moment, which go out first
abbrev pub answered : HostState → ControlItem → HostState
answered s item = record s { waiting = waiting_behind (control_at item) s.waiting }

-- the turn of an item
abbrev pub turn : Plan → HostState → ℕ → ControlItem → Turn
turn plan s n item =
    let own = item_turn plan (answered s item) n item in
    record own { lines = λ places. answer_lines plan (due_by (control_at item) s.waiting) ++ own.lines places }

-- the state behind items, of which the first has this number
abbrev pub state_behind : Plan → HostState → ℕ → List ControlItem → HostState
state_behind plan s n [] = s
state_behind plan s n (item ∷ items) = state_behind plan (turn plan s n item).behind (n + 1) items
