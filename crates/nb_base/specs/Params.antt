-- The parameters of a table: their defaults and their ranges. Times are in milliseconds.
use Rattle.std.specs.Int.{IsInRange}
use Rattle.nb_base.specs.declared.params.Params.{Params}

-- the defaults that arp(7) gives; the times and numbers of probes are those of RFC 4861 section 10 too; the bytes that may wait are this project's own, after unres_qlen_bytes
abbrev pub default_params : Params
default_params = record {
  gc_thresh1 = 128;
  gc_thresh2 = 512;
  gc_thresh3 = 1024;
  gc_interval = 30_000;
  gc_stale_time = 60_000;
  locktime = 1_000;
  retrans_time = 1_000;
  base_reachable_time = 30_000;
  delay_first_probe_time = 5_000;
  mcast_solicit = 3;
  ucast_solicit = 3;
  proxy_delay = 800;
  proxy_qlen = 64;
  unres_qlen_bytes = 4_096;
}

-- each parameter is in its range, ends included (this project's own ranges; the three thresholds may stand in any order)
pub record InRange (params : Params) : Type 0 where
  pub gc_thresh1 : IsInRange 1 65_536 params.gc_thresh1
  pub gc_thresh2 : IsInRange 1 65_536 params.gc_thresh2
  pub gc_thresh3 : IsInRange 1 65_536 params.gc_thresh3
  pub gc_interval : IsInRange 10_000 10_000_000 params.gc_interval
  pub gc_stale_time : IsInRange 10 10_000_000 params.gc_stale_time
  pub locktime : IsInRange 10 10_000_000 params.locktime
  pub retrans_time : IsInRange 10 10_000_000 params.retrans_time
  pub base_reachable_time : IsInRange 10 10_000_000 params.base_reachable_time
  pub delay_first_probe_time : IsInRange 10 10_000_000 params.delay_first_probe_time
  pub mcast_solicit : IsInRange 0 10 params.mcast_solicit
  pub ucast_solicit : IsInRange 0 10 params.ucast_solicit
  pub proxy_delay : IsInRange 10 10_000_000 params.proxy_delay
  pub proxy_qlen : IsInRange 1 1_024 params.proxy_qlen
  pub unres_qlen_bytes : IsInRange 256 16_448 params.unres_qlen_bytes
