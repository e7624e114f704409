-- Participant 0's items one after the other, over the answers to their operations.
use Rattle.std.specs.Prelude.{◌≡◌, ℕ, ◌+◌, ◌≤◌, List, [], ◌∷◌, ◌++◌, map, take, drop, length, Option, Some, None, IsTrue}
use Rattle.std.specs.Option.{option_map_or}
use Rattle.nb_base.specs.declared.op.Op.{Op}
use Rattle.nb_base.specs.declared.plan.Plan.{Plan}
use Rattle.nb_base.specs.declared.plan.ControlItem.{ControlItem}
use Rattle.nb_base.specs.declared.host_line.Placed.{Placed}
use Rattle.nb_base.specs.declared.host_line.HostLine.{HostLine}
use Rattle.nb_journal.specs.Keys.{key_of}
use Rattle.plain_table.specs.declared.answer.Answer.{Answer}
use Rattle.nb_queues.specs.Proxies.{Proxies, are_due_by}
use Rattle.neigh_run.specs.Control.{HostState, Turn, due_by, waiting_behind, answer_lines, control_at, item_turn, turn}

-- ---- answers

-- where the answers' operations stand
abbrev pub places : List Answer → List Placed
places answers = map (λ (answer : Answer). answer.placed) answers

-- how many buckets an operation goes to: its key's alone, or all
abbrev pub bucket_count_of : ℕ → Op → ℕ
bucket_count_of buckets o = option_map_or (λ key. 1) (key_of o) buckets

-- an item with an operation has the next answers, one of each bucket that the operation goes to
abbrev pub places_by : ℕ → Option Op → List Answer → List Placed
places_by buckets None answers = []
places_by buckets (Some o) answers = places (take (bucket_count_of buckets o) answers)

abbrev pub rest_by : ℕ → Option Op → List Answer → List Answer
rest_by buckets None answers = answers
rest_by buckets (Some o) answers = drop (bucket_count_of buckets o) answers

-- what the host does at items, of which the first has this number, over the answers to their operations
abbrev pub lines_by : Plan → HostState → ℕ → List ControlItem → List Answer → List HostLine
lines_by plan s n [] answers = []
lines_by plan s n (item ∷ items) answers =
    let here = turn plan s n item in
    here.lines (places_by plan.buckets here.operation answers) ++ lines_by plan here.behind (n + 1) items (rest_by plan.buckets here.operation answers)

-- ---- the walk over the items

-- the host's proxied addresses with the requests that wait, the answers that are left, and what the host did
pub record Point : Type 0 where
  pub table : Proxies
  pub answers : List Answer
  pub lines : List HostLine

abbrev pub at_point : Proxies → List Answer → List HostLine → Point
at_point table answers lines = record { table = table; answers = answers; lines = lines }

-- the host's state, as the table shows it, and the table in a state
abbrev pub state_in : Proxies → HostState
state_in table = record { proxies = table.keys; waiting = table.jobs }

abbrev pub table_in : Proxies → HostState → Proxies
table_in table s = record table { keys = s.proxies; jobs = s.waiting }

-- the table before the first item
abbrev pub start_table : Plan → Proxies
start_table plan = record { keys = []; jobs = []; delay = plan.params.proxy_delay; most = plan.params.proxy_qlen }

-- behind the answers that are due by a moment
abbrev pub after_due : Plan → ℕ → Point → Point
after_due plan at w = record { table = record w.table { jobs = waiting_behind at w.table.jobs }; answers = w.answers; lines = w.lines ++ answer_lines plan (due_by at w.table.jobs) }

abbrev pub after_turn : Plan → Turn → Point → Point
after_turn plan t w = record { table = table_in w.table t.behind; answers = rest_by plan.buckets t.operation w.answers; lines = w.lines ++ t.lines (places_by plan.buckets t.operation w.answers) }

-- behind an item, where no answer is due
abbrev pub after_own : Plan → ℕ → ControlItem → Point → Point
after_own plan n item w = after_turn plan (item_turn plan (state_in w.table) n item) w

-- behind an item
abbrev pub after : Plan → ℕ → ControlItem → Point → Point
after plan n item w = after_own plan n item (after_due plan (control_at item) w)

-- behind items, of which the first has this number
abbrev pub walked : Plan → ℕ → List ControlItem → Point → Point
walked plan n [] w = w
walked plan n (item ∷ items) w = walked plan (n + 1) items (after plan n item w)

-- the table has the plan's parameters and as many requests as may wait, and none waits longer than one of this moment would
pub record IsReady (plan : Plan) (at : ℕ) (table : Proxies) : Type 0 where
  pub delay : table.delay ≡ plan.params.proxy_delay
  pub most : table.most ≡ plan.params.proxy_qlen
  pub due : IsTrue (are_due_by (at + table.delay) table.jobs)
  pub few : length table.jobs ≤ table.most
  pub short : table.delay ≤ 10_000_000
