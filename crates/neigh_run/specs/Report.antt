-- The text of a run: lines of words, in ten parts.
use Rattle.std.specs.Prelude.{ℕ, ◌+◌, ◌∷◌, Bool, true, false, nat_le, if◌then◌else◌, List, [], ◌++◌, map, filter, length, Option, Some, None, codes, decimal}
use Rattle.std.specs.List.{flat_map}
use Rattle.nb_base.specs.declared.key.Key.{Key}
use Rattle.nb_base.specs.declared.time.OpId.{OpId}
use Rattle.nb_base.specs.declared.op.Op.{Op}
use Rattle.nb_base.specs.declared.op.Op.TheVariants as op
use Rattle.nb_base.specs.declared.line.Line.{Line}
use Rattle.nb_base.specs.declared.outcome.Why.TheVariants as why
use Rattle.nb_base.specs.declared.outcome.Outcome.{Outcome}
use Rattle.nb_base.specs.declared.outcome.Outcome.TheVariants as outcome
use Rattle.nb_base.specs.declared.plan.Plan.{Plan}
use Rattle.nb_base.specs.declared.plan.SendItem.{SendItem}
use Rattle.nb_base.specs.declared.host_line.HostLine.{HostLine}
use Rattle.nb_base.specs.declared.host_line.HostLine.TheVariants as host_line
use Rattle.nb_base.specs.declared.host_line.Mark.{Mark}
use Rattle.nb_base.specs.declared.host_line.Placed.{Placed}
use Rattle.nud_machine.specs.declared.act.Act.{Act}
use Rattle.nud_machine.specs.declared.act.Act.TheVariants as act
use Rattle.nb_journal.specs.Fold.{acts_of, known_keys, reply_of, is_transmit}
use Rattle.nb_journal.specs.Accounts.{is_drop, acts_behind, waiting_behind}
use Rattle.neigh_run.specs.declared.run.Run.{Run}
use Rattle.text_codes.specs.Lines.{Words, text_of}
use Rattle.text_codes.specs.HexText.{hex_text}
use Rattle.neigh_run.specs.Spelling.{dash, mode_word, host_words, op_words, id_text, id_word, reply_words, reply_part, cause_word, class_word, placed_words}
use Rattle.neigh_run.specs.Frames.{sent_frame, group_solicitation, unicast_solicitation}
use Rattle.neigh_run.specs.Control.{host_start, state_behind}
use Rattle.neigh_run.specs.Entries.{entries_after, proxy_words}

-- `neigh 1 mode MODE buckets N senders N window MS`
abbrev pub head_words : Run → Words
head_words run =
    codes "neigh" ∷ codes "1" ∷ codes "mode" ∷ mode_word run.mode ∷ codes "buckets" ∷ decimal run.plan.buckets
    ∷ codes "senders" ∷ decimal (length run.plan.senders) ∷ codes "window" ∷ decimal run.plan.window ∷ []

-- a line that is set in by two spaces
abbrev pub set_in : Words → Words
set_in words = [] ∷ [] ∷ words

-- the words of an act, for the key whose entry acts
abbrev pub act_words : Plan → Key → Act → Words
act_words plan key (act.Transmit id mac) = codes "tx" ∷ id_text id ∷ hex_text (sent_frame plan id mac) ∷ []
act_words plan key (act.Wait id) = codes "wait" ∷ id_text id ∷ []
act_words plan key (act.Drop id why) = codes "drop" ∷ id_text id ∷ cause_word why ∷ []
act_words plan key act.SolicitGroup = codes "solicit" ∷ hex_text (group_solicitation plan.host key) ∷ []
act_words plan key (act.SolicitUnicast mac) = codes "solicit" ∷ hex_text (unicast_solicitation plan.host key mac) ∷ []

-- each act has a line, which is set in
abbrev pub act_line : Plan → Key → Act → Words
act_line plan key a = set_in (act_words plan key a)

-- the acts of a line behind the past, for a key
abbrev pub key_lines : Plan → List Line → Line → Key → List Words
key_lines plan past line key = map (act_line plan key) (acts_of plan.params past line key)

-- `show` lists the entries; every other line has its acts, over the keys that are known behind it, by rank
abbrev pub lines_below : Plan → List Line → Line → Op → List Words
lines_below plan past line op.Show = map (λ words. set_in (codes "entry" ∷ words)) (entries_after plan.host plan.params past)
lines_below plan past line _ = flat_map (key_lines plan past line) (known_keys (past ++ line ∷ []))

-- what a line saw of the whole table, set in, where the table has two or more buckets; of one bucket it is the number present there
abbrev pub seen_lines : ℕ → Option ℕ → List Words
seen_lines buckets None = []
seen_lines buckets (Some seen) = if nat_le 2 buckets then set_in (codes "seen" ∷ decimal seen ∷ []) ∷ [] else []

-- all that stands below a line: what it saw, and then its acts or its entries
abbrev pub all_below : Plan → List Line → Line → List Words
all_below plan past line = seen_lines plan.buckets line.seen ++ lines_below plan past line line.op

-- `PLACE MOMENT ID OP -> REPLY`
abbrev pub line_words : Plan → List Line → Line → Words
line_words plan past line = decimal (length past) ∷ decimal line.at ∷ id_word line.id ∷ (op_words line.op ++ codes "->" ∷ reply_part (reply_of plan.params past line))

-- the lines of a journal behind the past, each with what stands below it
abbrev pub journal_lines : Plan → List Line → List Line → List Words
journal_lines plan past [] = []
journal_lines plan past (line ∷ lines) = (line_words plan past line ∷ all_below plan past line) ++ journal_lines plan (past ++ line ∷ []) lines

-- the buckets from b on
abbrev pub bucket_lines : Plan → ℕ → List (List Line) → List Words
bucket_lines plan b [] = []
bucket_lines plan b (journal ∷ journals) = ((codes "bucket" ∷ decimal b ∷ codes "lines" ∷ decimal (length journal) ∷ []) ∷ journal_lines plan [] journal) ++ bucket_lines plan (b + 1) journals

abbrev pub queued_words : Option Bool → Words
queued_words None = []
queued_words (Some true) = codes "proxied" ∷ []
queued_words (Some false) = codes "proxyfull" ∷ []

abbrev pub tx_words : Option (List ℕ) → Words
tx_words None = []
tx_words (Some frame) = codes "tx" ∷ hex_text frame ∷ []

abbrev pub op_part : Option Placed → Words
op_part None = []
op_part (Some placed) = placed_words placed

abbrev pub host_line_words : HostLine → Words
host_line_words (host_line.Frame n at class queued tx o) = decimal n ∷ decimal at ∷ codes "frame" ∷ class_word class ∷ (queued_words queued ++ tx_words tx ++ op_part o)
host_line_words (host_line.Neigh n at ops) = decimal n ∷ decimal at ∷ codes "neigh" ∷ flat_map placed_words ops
host_line_words (host_line.Proxy n at r) = decimal n ∷ decimal at ∷ codes "proxy" ∷ reply_words r
host_line_words (host_line.Answer due frame) = dash ∷ decimal due ∷ codes "answer" ∷ hex_text frame ∷ []

-- the two numbers of a try
abbrev pub try_word : ℕ × ℕ → List ℕ
try_word numbers = decimal numbers.0 ++ 47 ∷ decimal numbers.1

abbrev pub outcome_words : SendItem → Outcome → Words
outcome_words item (outcome.Fast number header) = codes "fast" ∷ decimal number ∷ hex_text (header ++ item.payload) ∷ []
outcome_words item (outcome.Slow why.Inline place r) = codes "inline" ∷ decimal place ∷ reply_words r
outcome_words item (outcome.Slow why.First place r) = codes "first" ∷ decimal place ∷ reply_words r
outcome_words item (outcome.Slow (why.Suspect number) place r) = codes "suspect" ∷ decimal number ∷ decimal place ∷ reply_words r
outcome_words item (outcome.Slow (why.Again tries) place r) = codes "again" ∷ (map try_word tries ++ decimal place ∷ reply_words r)

-- a sender's packets with their outcomes, of which the first has this number
abbrev pub log_lines : ℕ → List SendItem → List Outcome → List Words
log_lines n [] log = []
log_lines n (item ∷ items) [] = []
log_lines n (item ∷ items) (o ∷ log) = (decimal n ∷ decimal item.at ∷ outcome_words item o) ∷ log_lines (n + 1) items log

-- the senders from k on
abbrev pub sender_lines : ℕ → List (List SendItem) → List (List Outcome) → List Words
sender_lines k [] logs = []
sender_lines k (items ∷ senders) [] = []
sender_lines k (items ∷ senders) (log ∷ logs) = ((codes "sender" ∷ decimal k ∷ codes "items" ∷ decimal (length items) ∷ []) ∷ log_lines 1 items log) ++ sender_lines (k + 1) senders logs

abbrev pub start_word : Option ℕ → List ℕ
start_word None = codes "end"
start_word (Some start) = decimal start

abbrev pub mark_words : Mark → Words
mark_words mark = codes "mark" ∷ start_word mark.start ∷ map decimal mark.lengths

-- all acts of a journal's lines behind the past, in order
abbrev pub journal_acts : Plan → List Line → List Line → List Act
journal_acts plan past lines = acts_behind plan.params past lines

abbrev pub is_fast : Outcome → Bool
is_fast (outcome.Fast number header) = true
is_fast _ = false

abbrev pub all_acts : Run → List Act
all_acts run = flat_map (journal_acts run.plan []) run.journals

-- the packets that wait behind a journal
abbrev pub waiting_after : Plan → List Line → List OpId
waiting_after plan journal = waiting_behind plan.params journal

-- the packets that went out by lines of journals
abbrev pub sent_count : Run → ℕ
sent_count run = length (filter is_transmit (all_acts run))

-- those that went out fast
abbrev pub fast_count : Run → ℕ
fast_count run = length (flat_map (filter is_fast) run.logs)

-- those that were dropped
abbrev pub dropped_count : Run → ℕ
dropped_count run = length (filter is_drop (all_acts run))

-- and those that wait at the end
abbrev pub waiting_count : Run → ℕ
waiting_count run = length (flat_map (waiting_after run.plan) run.journals)

abbrev pub fates_words : Run → Words
fates_words run =
    codes "fates" ∷ codes "sent" ∷ decimal (sent_count run) ∷ codes "fast" ∷ decimal (fast_count run)
    ∷ codes "dropped" ∷ decimal (dropped_count run) ∷ codes "waiting" ∷ decimal (waiting_count run) ∷ []

-- the present entries, by bucket and then by rank
abbrev pub table : Run → List Words
table run = flat_map (entries_after run.plan.host run.plan.params) run.journals

-- the proxy entries in the end, in order of adding
abbrev pub proxies : Run → List Key
proxies run = (state_behind run.plan host_start 1 run.plan.control).proxies

-- a line that says how many lines follow, and these lines
abbrev pub counted : Words → List Words → List Words
counted front lines = (front ++ decimal (length lines) ∷ []) ∷ lines

-- the ten parts of a report
unfoldable pub report : Run → List Words
report run =
    head_words run
    ∷ host_words run.plan.host
    ∷ (bucket_lines run.plan 0 run.journals
    ++ (counted (codes "host" ∷ codes "lines" ∷ []) (map host_line_words run.host_lines)
    ++ (sender_lines 1 run.plan.senders run.logs
    ++ (counted (codes "marks" ∷ []) (map mark_words run.marks)
    ++ (fates_words run
    ∷ (counted (codes "table" ∷ []) (table run)
    ++ (counted (codes "proxies" ∷ []) (map (proxy_words run.plan.host) (proxies run))
    ++ (codes "end" ∷ []) ∷ [])))))))

unfoldable pub report_text : Run → List ℕ
report_text run = text_of (report run)
