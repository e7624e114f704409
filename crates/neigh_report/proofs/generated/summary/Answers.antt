use Rattle.std.proofs.Common.{◌≡◌, ◌∙◌, List, length, ap}
use Rattle.std.specs.Prelude.{string_bytes}
use Rattle.std.specs.List.{flat_map}
use Rattle.nb_base.specs.declared.line.Line.{Line}
use Rattle.text_codes.specs.Lines.{Words}
use Rattle.journal_fold.specs.Taken.{Taken}
use Rattle.neigh_run.specs.Inline.{journal_at}
use Rattle.neigh_run.specs.Entries.{entries_after}
use Rattle.neigh_run.specs.Report.{table}
use Rattle.neigh_report.specs.Left.{entries}
use Rattle.neigh_report.proofs.Summaries.{summary_is}
use Rattle.neigh_report.proofs.generated.summary.Goals as goal

pub returns : goal.returns
returns c =
    let run = c.args.run.now in
    let host = run.plan.host in
    let lines : c.first_length.result ≡ length (journal_at run.journals 0) = c.first_length.ensures ∙ ap (λ (journals : List (List Line)). length (journal_at journals 0)) c.as_slice-2.ensures in
    let rows : entries host c.deref.result.now ≡ table run =
    ap (λ (folds : List Taken). entries host folds) c.deref.ensures.value ∙ c.in_ok-behind.ensures.entries ∙ ap (λ (journals : List (List Line)). flat_map (entries_after host run.plan.params) journals) c.as_slice.ensures in
    let present : c.count_present.result ≡ length (table run) = c.count_present.ensures host ∙ ap (λ (words : List Words). length words) rows in
    rw (c.from_vec.ensures, c.into_bytes.ensures.value)
    (summary_is c.args.number c.first_length.result c.count_present.result run (string_bytes c.new-text.result) (string_bytes c.write_generated.new.report) (string_bytes c.write_run_fates.new.report) (string_bytes c.write_count.new.report) (string_bytes c.write_end.new.report)
    c.new-text.ensures.bytes lines present c.in_ok-write_generated.ensures c.in_ok-write_run_fates.ensures c.in_ok-write_count.ensures c.in_ok-write_end.ensures)
