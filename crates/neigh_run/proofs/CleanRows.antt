-- Each line of a report is a row of clean words, so its text gives its lines back.
use Rattle.std.proofs.Common.{ℕ, ◌+◌, Bool, true, false, if◌then◌else◌, List, [], ◌∷◌, ◌++◌, length, map, refl, sym, ◌∙◌, ap, ◌≤◌, arith}
use Rattle.std.specs.Prelude.{codes, decimal, nat_le, Option, Some, None}
use Rattle.std.specs.List.{AllByRecursion}
use Rattle.nb_base.specs.declared.key.Key.{Key}
use Rattle.nb_base.specs.declared.host.Host.{Host}
use Rattle.nb_base.specs.declared.params.Params.{Params}
use Rattle.nb_base.specs.declared.op.Op.{Op}
use Rattle.nb_base.specs.declared.op.Op.TheVariants as op
use Rattle.nb_base.specs.declared.line.Line.{Line}
use Rattle.nb_base.specs.declared.plan.Plan.{Plan}
use Rattle.nb_base.specs.declared.plan.SendItem.{SendItem}
use Rattle.nb_base.specs.declared.outcome.Outcome.{Outcome}
use Rattle.nb_base.specs.declared.host_line.HostLine.{HostLine}
use Rattle.nb_base.specs.declared.host_line.HostLine.TheVariants as host_line
use Rattle.nb_base.specs.declared.host_line.Mark.{Mark}
use Rattle.nud_machine.specs.declared.act.Act.{Act}
use Rattle.nud_machine.specs.declared.act.Act.TheVariants as act
use Rattle.nud_machine.specs.declared.entry.Entry.{Entry}
use Rattle.nb_journal.specs.Fold.{state_of, acts_of, known_keys, reply_of}
use Rattle.text_codes.specs.Lines.{Words, IsClean, IsCleanRow, rows_of}
use Rattle.text_codes.proofs.Each.{Each-append}
use Rattle.text_codes.proofs.Again.{rows_again}
use Rattle.neigh_run.specs.declared.run.Run.{Run}
use Rattle.neigh_run.specs.Spelling.{op_words, reply_part}
use Rattle.neigh_run.specs.Frames.{sent_frame, group_solicitation, unicast_solicitation}
use Rattle.neigh_run.specs.Entries.{entry_words, entry_if_present, entries_after, proxy_words}
use Rattle.neigh_run.specs.Report.{head_words, act_line, key_lines, lines_below, set_in, seen_lines, all_below, line_words, journal_lines, bucket_lines, host_line_words, log_lines, sender_lines, mark_words, fates_words, table, proxies, counted, report, report_text}
use Rattle.neigh_run.specs.Laws.{ReportsGiveTheirLinesBack, TextsTellReports}
use Rattle.neigh_run.proofs.CleanWords.{all-flat_map, all-map, clean-decimal, clean-hex, clean-key, clean-name}
use Rattle.neigh_run.proofs.CleanSpelling.{AreClean, clean-mode, clean-host, clean-op, clean-id, clean-reply_part, clean-cause, clean-entry, clean-host_line, clean-outcome, clean-start}

-- each of these lines is a row of clean words
abbrev pub AreRows : List Words → Type 0
AreRows rows = AllByRecursion IsCleanRow rows

-- ---- journals

act-row : (plan : Plan) (key : Key) (a : Act) → IsCleanRow (act_line plan key a)
act-row plan key (act.Transmit id mac) = (omega arith, (refl, (refl, (refl, (clean-decimal id.0, (clean-hex (sent_frame plan id mac), tt))))))
act-row plan key (act.Wait id) = (omega arith, (refl, (refl, (refl, (clean-decimal id.0, tt)))))
act-row plan key (act.Drop id why) = (omega arith, (refl, (refl, (refl, (clean-decimal id.0, (clean-cause why, tt))))))
act-row plan key act.SolicitGroup = (omega arith, (refl, (refl, (refl, (clean-hex (group_solicitation plan.host key), tt)))))
act-row plan key (act.SolicitUnicast mac) = (omega arith, (refl, (refl, (refl, (clean-hex (unicast_solicitation plan.host key mac), tt)))))

key-rows : (plan : Plan) (past : List Line) (line : Line) (key : Key) → AreRows (key_lines plan past line key)
key-rows plan past line key = all-map IsCleanRow (act_line plan key) (act-row plan key) (acts_of plan.params past line key)

present-words : (h : Host) (key : Key) (e : Entry) → IsClean h.dev → AreRows (entry_if_present h key e)
present-words h key e dev = by_test e.present where
  by_test : (present : Bool) → AreRows (if present then entry_words h key e ∷ [] else [])
  by_test true = ((omega arith, clean-entry h key e dev), tt)
  by_test false = tt

entry-rows : (h : Host) (p : Params) (journal : List Line) → IsClean h.dev → AreRows (entries_after h p journal)
entry-rows h p journal dev = all-flat_map IsCleanRow (λ key. entry_if_present h key (state_of p journal key).entry) (λ key. present-words h key (state_of p journal key).entry dev) (known_keys journal)

shown-rows : (rows : List Words) → AreRows rows → AreRows (map (λ words. [] ∷ [] ∷ codes "entry" ∷ words) rows)
shown-rows [] h = tt
shown-rows (words ∷ rows) h = ((omega arith, (refl, (refl, (refl, h.0.1)))), shown-rows rows h.1)

below-rows : (plan : Plan) (past : List Line) (line : Line) (o : Op) → IsClean plan.host.dev → AreRows (lines_below plan past line o)
below-rows plan past line op.Show dev = shown-rows (entries_after plan.host plan.params past) (entry-rows plan.host plan.params past dev)
below-rows plan past line _ dev = all-flat_map IsCleanRow (key_lines plan past line) (key-rows plan past line) (known_keys (past ++ line ∷ []))

seen-rows : (buckets : ℕ) (seen : Option ℕ) → AreRows (seen_lines buckets seen)
seen-rows buckets None = tt
seen-rows buckets (Some seen) = by_test (nat_le 2 buckets) where
  by_test : (many : Bool) → AreRows (if many then set_in (codes "seen" ∷ decimal seen ∷ []) ∷ [] else [])
  by_test true = ((omega arith, (refl, (refl, (refl, (clean-decimal seen, tt))))), tt)
  by_test false = tt

all-rows : (plan : Plan) (past : List Line) (line : Line) → IsClean plan.host.dev → AreRows (all_below plan past line)
all-rows plan past line dev = Each-append IsCleanRow (seen_lines plan.buckets line.seen) (lines_below plan past line line.op) (seen-rows plan.buckets line.seen) (below-rows plan past line line.op dev)

line-words : (plan : Plan) (past : List Line) (line : Line) → IsCleanRow (line_words plan past line)
line-words plan past line = (
  omega arith,
  (
    clean-decimal (length past),
    (
      clean-decimal line.at,
      (
        clean-id line.id,
        Each-append IsClean (op_words line.op) (codes "->" ∷ reply_part (reply_of plan.params past line)) (clean-op line.op) (refl, clean-reply_part (reply_of plan.params past line)),
      ),
    ),
  ),
)

journal-rows : (plan : Plan) (past journal : List Line) → IsClean plan.host.dev → AreRows (journal_lines plan past journal)
journal-rows plan past [] dev = tt
journal-rows plan past (line ∷ lines) dev =
    (line-words plan past line, Each-append IsCleanRow (all_below plan past line) (journal_lines plan (past ++ line ∷ []) lines) (all-rows plan past line dev) (journal-rows plan (past ++ line ∷ []) lines dev))

bucket-rows : (plan : Plan) (b : ℕ) (journals : List (List Line)) → IsClean plan.host.dev → AreRows (bucket_lines plan b journals)
bucket-rows plan b [] dev = tt
bucket-rows plan b (journal ∷ journals) dev = (
  (omega arith, (refl, (clean-decimal b, (refl, (clean-decimal (length journal), tt))))),
  Each-append IsCleanRow (journal_lines plan [] journal) (bucket_lines plan (b + 1) journals) (journal-rows plan [] journal dev) (bucket-rows plan (b + 1) journals dev),
)

-- ---- the other parts

host_line-row : (line : HostLine) → IsCleanRow (host_line_words line)
host_line-row line = (some line, clean-host_line line) where
  some : (line : HostLine) → 1 ≤ length (host_line_words line)
  some (host_line.Frame n at class queued tx o) = omega arith
  some (host_line.Neigh n at ops) = omega arith
  some (host_line.Proxy n at r) = omega arith
  some (host_line.Answer due frame) = omega arith

log-rows : (n : ℕ) (items : List SendItem) (log : List Outcome) → AreRows (log_lines n items log)
log-rows n [] log = tt
log-rows n (item ∷ items) [] = tt
log-rows n (item ∷ items) (o ∷ log) = ((omega arith, (clean-decimal n, (clean-decimal item.at, clean-outcome item o))), log-rows (n + 1) items log)

sender-rows : (k : ℕ) (senders : List (List SendItem)) (logs : List (List Outcome)) → AreRows (sender_lines k senders logs)
sender-rows k [] logs = tt
sender-rows k (items ∷ senders) [] = tt
sender-rows k (items ∷ senders) (log ∷ logs) = (
  (omega arith, (refl, (clean-decimal k, (refl, (clean-decimal (length items), tt))))),
  Each-append IsCleanRow (log_lines 1 items log) (sender_lines (k + 1) senders logs) (log-rows 1 items log) (sender-rows (k + 1) senders logs),
)

mark-row : (mark : Mark) → IsCleanRow (mark_words mark)
mark-row mark = (omega arith, (refl, (clean-start mark.start, all-map IsClean decimal clean-decimal mark.lengths)))

fates-row : (run : Run) → IsCleanRow (fates_words run)
fates-row run = (omega arith, (refl, (refl, (clean-decimal _, (refl, (clean-decimal _, (refl, (clean-decimal _, (refl, (clean-decimal _, tt))))))))))

proxy-row : (h : Host) → IsClean h.dev → (key : Key) → IsCleanRow (proxy_words h key)
proxy-row h dev key = (omega arith, (clean-key key, (refl, (dev, (refl, tt)))))

counted-rows : (word : List ℕ) (words : Words) (lines : List Words) → AreClean (word ∷ words) → AreRows lines → AreRows (counted (word ∷ words) lines)
counted-rows word words lines h rows = ((omega arith, (h.0, Each-append IsClean words (decimal (length lines) ∷ []) h.1 (clean-decimal (length lines), tt))), rows)

table-rows : (run : Run) → IsClean run.plan.host.dev → AreRows (table run)
table-rows run dev = all-flat_map IsCleanRow (entries_after run.plan.host run.plan.params) (λ journal. entry-rows run.plan.host run.plan.params journal dev) run.journals

head-row : (run : Run) → IsCleanRow (head_words run)
head-row run =
    (omega arith, (refl, (refl, (refl, (clean-mode run.mode, (refl, (clean-decimal run.plan.buckets, (refl, (clean-decimal (length run.plan.senders), (refl, (clean-decimal run.plan.window, tt)))))))))))

-- ---- the whole

both : (xs ys : List Words) → AreRows xs → AreRows ys → AreRows (xs ++ ys)
both xs ys h g = Each-append IsCleanRow xs ys h g

pub report-rows : (run : Run) → IsClean run.plan.host.dev → AreRows (report run)
unfolding report
report-rows run dev = (
  head-row run,
  (
    (omega arith, clean-host run.plan.host dev),
    both (bucket_lines run.plan 0 run.journals) _ (bucket-rows run.plan 0 run.journals dev)
        (both (counted (codes "host" ∷ codes "lines" ∷ []) (map host_line_words run.host_lines)) _ (counted-rows (codes "host") (codes "lines" ∷ []) (map host_line_words run.host_lines) (refl, (refl, tt)) (all-map IsCleanRow host_line_words host_line-row run.host_lines))
        (both (sender_lines 1 run.plan.senders run.logs) _ (sender-rows 1 run.plan.senders run.logs)
        (both (counted (codes "marks" ∷ []) (map mark_words run.marks)) _ (counted-rows (codes "marks") [] (map mark_words run.marks) (refl, tt) (all-map IsCleanRow mark_words mark-row run.marks)) (
          fates-row run,
          both (counted (codes "table" ∷ []) (table run)) _ (counted-rows (codes "table") [] (table run) (refl, tt) (table-rows run dev))
              (both (counted (codes "proxies" ∷ []) (map (proxy_words run.plan.host) (proxies run))) _ (counted-rows (codes "proxies") [] (map (proxy_words run.plan.host) (proxies run)) (refl, tt) (all-map IsCleanRow (proxy_words run.plan.host) (proxy-row run.plan.host dev) (proxies run)))
              ((omega arith, (refl, tt)), tt)),
        )))),
  ),
)

pub lines_back : ReportsGiveTheirLinesBack
unfolding report_text
lines_back run named = rows_again (report run) (report-rows run (clean-name run.plan.host.dev named))

pub texts_tell : TextsTellReports
texts_tell run other named other_named e = sym (lines_back run named) ∙ ap rows_of e ∙ lines_back other other_named
