use Rattle.std.proofs.Common.{◌≡◌, List, [], length, ap, ◌∙◌, arith}
use Rattle.std.specs.Prelude.{filter}
use Rattle.nb_base.specs.declared.line.Line.{Line}
use Rattle.nb_base.specs.declared.time.OpId.{OpId}
use Rattle.nud_machine.specs.declared.act.Act.{Act}
use Rattle.nb_journal.specs.Accounts.{is_drop}
use Rattle.nb_journal.specs.Fold.{is_transmit}
use Rattle.neigh_run.specs.Report.{is_fast, journal_acts, waiting_after, sent_count, fast_count, dropped_count, waiting_count}
use Rattle.std.specs.List.{flat_map}
use Rattle.nb_base.specs.declared.outcome.Outcome.{Outcome}
use Rattle.journal_fold.specs.Taken.{Taken}
use Rattle.neigh_report.specs.Left.{waits}
use Rattle.neigh_run.proofs.InlineFates.{inline_fates}
use Rattle.neigh_run.proofs.PacketFates.{one_fate_for_each}
use Rattle.neigh_run.proofs.FateCounts.{inline_counted}
use Rattle.neigh_report.proofs.tally.fates.Goals as goal

pub returns-clause-all : goal.returns-clause-all
returns-clause-all c some quiet inline =
    let run = c.args.run.now in
    let law = inline_fates run.plan run some quiet inline in
    let acts = c.in_ok-behind.ensures.acts ∙ ap (λ (journals : List (List Line)). flat_map (journal_acts run.plan []) journals) c.as_slice.ensures in
    let waits_are = c.in_ok-behind.ensures.waits ∙ ap (λ (journals : List (List Line)). flat_map (waiting_after run.plan) journals) c.as_slice.ensures in
    let sent : c.count_sent-sent.result ≡ sent_count run = c.count_sent-sent.ensures ∙ ap (λ (acts : List Act). length (filter is_transmit acts)) (c.deref.ensures.value ∙ acts) in
    let fast : c.count_all_fast-fast.result ≡ fast_count run = c.count_all_fast-fast.ensures ∙ ap (λ (logs : List (List Outcome)). length (flat_map (filter is_fast) logs)) c.as_slice-2.ensures in
    let dropped : c.count_dropped-dropped.result ≡ dropped_count run = c.count_dropped-dropped.ensures ∙ ap (λ (acts : List Act). length (filter is_drop acts)) (c.deref-2.ensures.value ∙ acts) in
    let waiting : c.count_waiting-waiting.result ≡ waiting_count run = c.count_waiting-waiting.ensures ∙ ap (λ (folds : List Taken). length (waits folds)) c.deref-3.ensures.value ∙ ap (λ (ids : List OpId). length ids) waits_are in
    omega (arith, sent, fast, dropped, waiting, law)

pub returns-clause-one : goal.returns-clause-one
returns-clause-one c some few inline = one_fate_for_each c.args.run.now.plan c.args.run.now some few inline

pub returns-clause-counted : goal.returns-clause-counted
returns-clause-counted c some few quiet inline =
    let run = c.args.run.now in
    let acts = c.in_ok-behind.ensures.acts ∙ ap (λ (journals : List (List Line)). flat_map (journal_acts run.plan []) journals) c.as_slice.ensures in
    let waits_are = c.in_ok-behind.ensures.waits ∙ ap (λ (journals : List (List Line)). flat_map (waiting_after run.plan) journals) c.as_slice.ensures in
    let sent : c.count_sent-sent.result ≡ sent_count run = c.count_sent-sent.ensures ∙ ap (λ (acts : List Act). length (filter is_transmit acts)) (c.deref.ensures.value ∙ acts) in
    let fast : c.count_all_fast-fast.result ≡ fast_count run = c.count_all_fast-fast.ensures ∙ ap (λ (logs : List (List Outcome)). length (flat_map (filter is_fast) logs)) c.as_slice-2.ensures in
    let dropped : c.count_dropped-dropped.result ≡ dropped_count run = c.count_dropped-dropped.ensures ∙ ap (λ (acts : List Act). length (filter is_drop acts)) (c.deref-2.ensures.value ∙ acts) in
    let waiting : c.count_waiting-waiting.result ≡ waiting_count run = c.count_waiting-waiting.ensures ∙ ap (λ (folds : List Taken). length (waits folds)) c.deref-3.ensures.value ∙ ap (λ (ids : List OpId). length ids) waits_are in
    rw (sent, fast, dropped, waiting) (inline_counted run.plan run some few quiet inline)
