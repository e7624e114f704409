use Rattle.std.proofs.Common.{◌≡◌, ◌++◌, [], take}
use Rattle.std.specs.Prelude.{string_bytes}
use Rattle.std.specs.List.{flat_map, AllByRecursion}
use Rattle.text_codes.specs.Lines.{text_of}
use Rattle.neigh_run.specs.Entries.{entries_after}
use Rattle.neigh_run.specs.Report.{bucket_lines, journal_acts, waiting_after}
use Rattle.neigh_report.specs.Left.{entries, waits, IsShortFold}
use Rattle.neigh_report.proofs.behind.write_buckets.Given as goal

abbrev pub invariant-loop-number : goal.invariant-loop-number
invariant-loop-number l = record {
  written : string_bytes l.report ≡ string_bytes l.fn.report ++ text_of (bucket_lines l.plan 0 (take l.number l.journals));
  acts : l.behind.acts.items ≡ flat_map (journal_acts l.plan []) (take l.number l.journals);
  entries : entries l.plan.host l.behind.folds.items ≡ flat_map (entries_after l.plan.host l.plan.params) (take l.number l.journals);
  waits : waits l.behind.folds.items ≡ flat_map (waiting_after l.plan) (take l.number l.journals);
  few : AllByRecursion IsShortFold l.behind.folds.items;
}
