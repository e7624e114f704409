-- The parameters of a script by name.
use Rattle.std.specs.Prelude.{ℕ, List, [], ◌∷◌, Option, Some, None, bytes_eq, codes, if◌then◌else◌}
use Rattle.nb_base.specs.declared.params.Params.{Params}
use Rattle.neigh_script.specs.declared.parameter.Parameter.{Parameter}
use Rattle.neigh_script.specs.declared.parameter.Parameter.TheVariants as parameter

-- the parameters in the order in which a script is written
abbrev pub parameters : List Parameter
parameters =
    parameter.GcThresh1 ∷ parameter.GcThresh2 ∷ parameter.GcThresh3 ∷ parameter.GcInterval ∷ parameter.GcStaleTime
    ∷ parameter.Locktime ∷ parameter.RetransTime ∷ parameter.BaseReachableTime ∷ parameter.DelayFirstProbeTime
    ∷ parameter.McastSolicit ∷ parameter.UcastSolicit ∷ parameter.ProxyDelay ∷ parameter.ProxyQlen ∷ parameter.UnresQlenBytes ∷ []

-- a parameter's name, as in arp(7)
abbrev pub parameter_name : Parameter → List ℕ
parameter_name parameter.GcThresh1 = codes "gc_thresh1"
parameter_name parameter.GcThresh2 = codes "gc_thresh2"
parameter_name parameter.GcThresh3 = codes "gc_thresh3"
parameter_name parameter.GcInterval = codes "gc_interval"
parameter_name parameter.GcStaleTime = codes "gc_stale_time"
parameter_name parameter.Locktime = codes "locktime"
parameter_name parameter.RetransTime = codes "retrans_time"
parameter_name parameter.BaseReachableTime = codes "base_reachable_time"
parameter_name parameter.DelayFirstProbeTime = codes "delay_first_probe_time"
parameter_name parameter.McastSolicit = codes "mcast_solicit"
parameter_name parameter.UcastSolicit = codes "ucast_solicit"
parameter_name parameter.ProxyDelay = codes "proxy_delay"
parameter_name parameter.ProxyQlen = codes "proxy_qlen"
parameter_name parameter.UnresQlenBytes = codes "unres_qlen_bytes"

-- the first parameter of this name in a list
abbrev pub named_in : List Parameter → List ℕ → Option Parameter
named_in [] name = None
named_in (p ∷ ps) name = if bytes_eq name (parameter_name p) then Some p else named_in ps name

-- the parameter of this name
unfoldable pub parameter_of : List ℕ → Option Parameter
parameter_of name = named_in parameters name

-- the least value of a parameter (this project's own)
abbrev pub least : Parameter → ℕ
least parameter.GcThresh1 = 1
least parameter.GcThresh2 = 1
least parameter.GcThresh3 = 1
least parameter.GcInterval = 10_000
least parameter.GcStaleTime = 10
least parameter.Locktime = 10
least parameter.RetransTime = 10
least parameter.BaseReachableTime = 10
least parameter.DelayFirstProbeTime = 10
least parameter.McastSolicit = 0
least parameter.UcastSolicit = 0
least parameter.ProxyDelay = 10
least parameter.ProxyQlen = 1
least parameter.UnresQlenBytes = 256

-- the greatest value of a parameter (this project's own)
abbrev pub greatest : Parameter → ℕ
greatest parameter.GcThresh1 = 65_536
greatest parameter.GcThresh2 = 65_536
greatest parameter.GcThresh3 = 65_536
greatest parameter.GcInterval = 10_000_000
greatest parameter.GcStaleTime = 10_000_000
greatest parameter.Locktime = 10_000_000
greatest parameter.RetransTime = 10_000_000
greatest parameter.BaseReachableTime = 10_000_000
greatest parameter.DelayFirstProbeTime = 10_000_000
greatest parameter.McastSolicit = 10
greatest parameter.UcastSolicit = 10
greatest parameter.ProxyDelay = 10_000_000
greatest parameter.ProxyQlen = 1_024
greatest parameter.UnresQlenBytes = 16_448

-- a parameter's value
abbrev pub value_in : Params → Parameter → ℕ
value_in params parameter.GcThresh1 = params.gc_thresh1
value_in params parameter.GcThresh2 = params.gc_thresh2
value_in params parameter.GcThresh3 = params.gc_thresh3
value_in params parameter.GcInterval = params.gc_interval
value_in params parameter.GcStaleTime = params.gc_stale_time
value_in params parameter.Locktime = params.locktime
value_in params parameter.RetransTime = params.retrans_time
value_in params parameter.BaseReachableTime = params.base_reachable_time
value_in params parameter.DelayFirstProbeTime = params.delay_first_probe_time
value_in params parameter.McastSolicit = params.mcast_solicit
value_in params parameter.UcastSolicit = params.ucast_solicit
value_in params parameter.ProxyDelay = params.proxy_delay
value_in params parameter.ProxyQlen = params.proxy_qlen
value_in params parameter.UnresQlenBytes = params.unres_qlen_bytes

-- the parameters with one at another value
abbrev pub with_value : Parameter → ℕ → Params → Params
with_value parameter.GcThresh1 n params = record params { gc_thresh1 = n }
with_value parameter.GcThresh2 n params = record params { gc_thresh2 = n }
with_value parameter.GcThresh3 n params = record params { gc_thresh3 = n }
with_value parameter.GcInterval n params = record params { gc_interval = n }
with_value parameter.GcStaleTime n params = record params { gc_stale_time = n }
with_value parameter.Locktime n params = record params { locktime = n }
with_value parameter.RetransTime n params = record params { retrans_time = n }
with_value parameter.BaseReachableTime n params = record params { base_reachable_time = n }
with_value parameter.DelayFirstProbeTime n params = record params { delay_first_probe_time = n }
with_value parameter.McastSolicit n params = record params { mcast_solicit = n }
with_value parameter.UcastSolicit n params = record params { ucast_solicit = n }
with_value parameter.ProxyDelay n params = record params { proxy_delay = n }
with_value parameter.ProxyQlen n params = record params { proxy_qlen = n }
with_value parameter.UnresQlenBytes n params = record params { unres_qlen_bytes = n }
