use Rattle.std.proofs.Common.{◌≡◌, ◌++◌, take, map}
use Rattle.std.specs.Prelude.{string_bytes}
use Rattle.text_codes.specs.Lines.{text_of}
use Rattle.neigh_run.specs.Entries.{proxy_words}
use Rattle.neigh_report.proofs.proxies.write_each_proxy.Given as goal

abbrev pub invariant-loop-key : goal.invariant-loop-key
invariant-loop-key l = string_bytes l.report ≡ string_bytes l.fn.report ++ text_of (map (proxy_words l.host) (take l.key-index l.keys))
