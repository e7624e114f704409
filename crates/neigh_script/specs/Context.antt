-- What the lines above a line fix for it.
use Rattle.std.specs.Prelude.{ℕ, ◌+◌, Some, None}
use Rattle.nb_base.specs.Params.{default_params}
use Rattle.nb_base.specs.declared.op.Op.{Op}
use Rattle.nb_base.specs.declared.op.Op.TheVariants as op
use Rattle.neigh_script.specs.declared.context.Context.{Context}
use Rattle.neigh_script.specs.declared.script.ScriptItem.{ScriptItem}
use Rattle.neigh_script.specs.declared.script.ScriptItem.TheVariants as item

-- above the first line there is no host, one sender, each parameter has its default, and no item line was met
abbrev pub start : Context
start = record { host = None; senders = 1; params = default_params; last = None; shows = 0 }

-- an item's moment
abbrev pub at_of : ScriptItem → ℕ
at_of (item.Neigh at o) = at
at_of (item.Proxy at key add) = at
at_of (item.Send at sender key payload) = at

-- one for `show`
abbrev pub show_count : Op → ℕ
show_count op.Show = 1
show_count (op.Send key len) = 0
show_count (op.Arp key mac make solicited) = 0
show_count (op.Ns key mac) = 0
show_count (op.Na key mac router solicited overrides) = 0
show_count (op.Add key mac nud) = 0
show_count (op.Change key mac nud) = 0
show_count (op.Replace key mac nud) = 0
show_count (op.Del key) = 0
show_count (op.Confirm key) = 0
show_count op.Flush = 0
show_count (op.Timer key) = 0
show_count op.Sweep = 0
show_count (op.Collect key) = 0

-- how many `show` lines an item's line is
abbrev pub shows_in : ScriptItem → ℕ
shows_in (item.Neigh at o) = show_count o
shows_in (item.Proxy at key add) = 0
shows_in (item.Send at sender key payload) = 0

-- behind an item's line its moment is the last, and a `show` is counted
abbrev pub behind : Context → ScriptItem → Context
behind c item = record c { last = Some (at_of item); shows = c.shows + shows_in item }
