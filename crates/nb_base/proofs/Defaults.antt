-- The defaults of the parameters are in their ranges.
use Rattle.std.proofs.Common.{arith}
use Rattle.nb_base.specs.Params.{InRange, default_params}

pub default_in_range : InRange default_params
default_in_range = record {
  gc_thresh1 = (omega arith, omega arith);
  gc_thresh2 = (omega arith, omega arith);
  gc_thresh3 = (omega arith, omega arith);
  gc_interval = (omega arith, omega arith);
  gc_stale_time = (omega arith, omega arith);
  locktime = (omega arith, omega arith);
  retrans_time = (omega arith, omega arith);
  base_reachable_time = (omega arith, omega arith);
  delay_first_probe_time = (omega arith, omega arith);
  mcast_solicit = (omega arith, omega arith);
  ucast_solicit = (omega arith, omega arith);
  proxy_delay = (omega arith, omega arith);
  proxy_qlen = (omega arith, omega arith);
  unres_qlen_bytes = (omega arith, omega arith);
}
