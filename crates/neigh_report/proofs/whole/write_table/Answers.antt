use Rattle.std.proofs.Common.{◌≡◌, [], ◌∷◌, ◌++◌}
use Rattle.std.specs.Prelude.{string_bytes, codes}
use Rattle.text_codes.specs.Lines.{text_of}
use Rattle.neigh_run.specs.Report.{counted}
use Rattle.neigh_report.specs.Left.{entries}
use Rattle.neigh_report.proofs.LeftBehind.{on_ok_then, table_is}
use Rattle.neigh_report.proofs.whole.write_table.Goals as goal

pub returns : goal.returns
returns c = on_ok_then c.write_all_entries.result
    (string_bytes c.write_all_entries.new.report ≡ string_bytes c.write_count.new.report ++ text_of (entries c.args.host.now c.args.folds.now))
    (string_bytes c.write_all_entries.new.report ≡ string_bytes c.args.report.now ++ text_of (counted (codes "table" ∷ []) (entries c.args.host.now c.args.folds.now)))
    c.write_all_entries.ensures
    (λ rows. table_is c.args.host.now c.args.folds.now (string_bytes c.args.report.now) (string_bytes c.write_count.new.report) (string_bytes c.write_all_entries.new.report) c.count_present.result (c.count_present.ensures c.args.host.now) c.in_ok-write_count.ensures rows)
