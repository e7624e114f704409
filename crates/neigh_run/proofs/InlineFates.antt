-- The four numbers of an inline run's fates are together the packets of its plan.
use Rattle.std.proofs.Common.{◌≡◌, ℕ, ◌+◌, Bool, true, false, if◌then◌else◌, List, [], ◌∷◌, ◌++◌, length, map, refl, ◌∙◌, ap, arith, length-append}
use Rattle.std.specs.Prelude.{filter}
use Rattle.std.specs.List.{flat_map}
use Rattle.std.proofs.lemmas.Bool.{false≢true}
use Rattle.std.proofs.lemmas.List.Elements.{filter-append}
use Rattle.nb_base.specs.declared.op.Op.{Op}
use Rattle.nb_base.specs.declared.op.Op.TheVariants as op
use Rattle.nb_base.specs.declared.line.Line.{Line}
use Rattle.nb_base.specs.declared.outcome.Outcome.{Outcome}
use Rattle.nb_base.specs.declared.plan.Plan.{Plan}
use Rattle.nb_base.specs.declared.plan.SendItem.{SendItem}
use Rattle.nud_machine.specs.declared.act.Act.{Act}
use Rattle.nb_journal.specs.Keys.{is_own, is_send}
use Rattle.nb_journal.specs.Fold.{is_transmit}
use Rattle.nb_journal.specs.Lawful.{last_moment}
use Rattle.nb_journal.specs.Accounts.{is_drop, send_lines, own_lines, fates_total}
use Rattle.nb_journal.proofs.FatesTotal.{fates_sum}
use Rattle.neigh_run.specs.Merged.{merged, merged_for}
use Rattle.neigh_run.specs.Inline.{entered_line, IsInlineJournal, AreInlineJournals, log_of, logs_of}
use Rattle.neigh_run.specs.Report.{journal_acts, waiting_after, is_fast, sent_count, fast_count, dropped_count, waiting_count}
use Rattle.neigh_run.specs.Laws.{FatesAddUpInline}
use Rattle.neigh_run.proofs.MergedSends.{sends_in, merged-sends, over, over-all}

-- ---- a journal

own_send : (o : Op) → is_send o ≡ true → is_own o ≡ true
own_send (op.Send key len) e = refl
own_send _ e = cc

-- the lines that send are the operations that do
journal-sends : (journal : List Line) → length (send_lines journal) ≡ sends_in (map entered_line (own_lines journal))
journal-sends [] = refl
journal-sends (l ∷ ls) = by_test (is_send l.op) (is_own l.op) refl (own_send l.op) (journal-sends ls) where
  by_test : (s o : Bool) → is_send l.op ≡ s → (is_send l.op ≡ true → o ≡ true) → length (send_lines ls) ≡ sends_in (map entered_line (own_lines ls))
      → length (if s then l ∷ send_lines ls else send_lines ls) ≡ sends_in (map entered_line (if o then l ∷ own_lines ls else own_lines ls))
  by_test true true e own rest = rw e (omega (arith, rest))
  by_test true false e own rest = absurd (false≢true (own e))
  by_test false true e own rest = rw e rest
  by_test false false e own rest = rest

journal-fates : (plan : Plan) (all : List (List Line)) (b : ℕ) (journal : List Line) → IsInlineJournal plan all b journal → fates_total plan.params journal ≡ sends_in (merged_for plan b)
journal-fates plan all b journal h = fates_sum plan.params journal (last_moment journal) h.lawful ∙ journal-sends journal ∙ ap sends_in h.entered

-- ---- all journals

count-append : (test : Act → Bool) (xs ys : List Act) → length (filter test (xs ++ ys)) ≡ length (filter test xs) + length (filter test ys)
count-append test xs ys = ap length (filter-append test xs ys) ∙ length-append (filter test xs) (filter test ys)

-- how many packets went out or were dropped in journals, and wait behind them
abbrev journals_total : Plan → List (List Line) → ℕ
journals_total plan journals =
    length (filter is_transmit (flat_map (journal_acts plan []) journals)) + length (filter is_drop (flat_map (journal_acts plan []) journals))
    + length (flat_map (waiting_after plan) journals)

journals-fates : (plan : Plan) (all : List (List Line)) (b : ℕ) (journals : List (List Line)) → AreInlineJournals plan all b journals → journals_total plan journals ≡ over plan.buckets (merged plan) b journals
journals-fates plan all b [] h = refl
journals-fates plan all b (j ∷ js) h =
    let here = journal-fates plan all b j h.0 in
    let rest = journals-fates plan all (b + 1) js h.1 in
    let sent = count-append is_transmit (journal_acts plan [] j) (flat_map (journal_acts plan []) js) in
    let dropped = count-append is_drop (journal_acts plan [] j) (flat_map (journal_acts plan []) js) in
    let waiting = length-append (waiting_after plan j) (flat_map (waiting_after plan) js) in
    omega (arith, here, rest, sent, dropped, waiting)

-- ---- logs

log-slow : (plan : Plan) (journals : List (List Line)) (p n : ℕ) (items : List SendItem) → filter is_fast (log_of plan journals p n items) ≡ []
log-slow plan journals p n [] = refl
log-slow plan journals p n (item ∷ items) = log-slow plan journals p (n + 1) items

pub logs-slow : (plan : Plan) (journals : List (List Line)) (p : ℕ) (senders : List (List SendItem)) → flat_map (filter is_fast) (logs_of plan journals p senders) ≡ []
logs-slow plan journals p [] = refl
logs-slow plan journals p (items ∷ senders) =
    ap (λ (log : List Outcome). log ++ flat_map (filter is_fast) (logs_of plan journals (p + 1) senders)) (log-slow plan journals p 1 items) ∙ logs-slow plan journals (p + 1) senders

-- ---- the run

pub inline_fates : FatesAddUpInline
inline_fates plan run some quiet h =
    let journals = journals-fates plan run.journals 0 run.journals h.journals in
    let buckets = over-all plan.buckets (merged plan) run.journals some h.buckets in
    let packets = merged-sends plan quiet in
    let fast : fast_count run ≡ 0 = ap (λ (logs : List (List Outcome)). length (flat_map (filter is_fast) logs)) h.logs ∙ ap length (logs-slow plan run.journals 1 plan.senders) in
    let same : sent_count run + dropped_count run + waiting_count run ≡ journals_total plan run.journals = ap (λ (whole : Plan). journals_total whole run.journals) h.plan in
    omega (arith, journals, buckets, packets, fast, same)
