-- What is left behind journals. This project's own.
use Rattle.std.specs.Prelude.{ℕ, length, decimal, List, [], ◌∷◌, ◌++◌, map, codes, flat_map, unwrap_or}
use Rattle.nb_base.specs.declared.line.Line.{Line}
use Rattle.nb_base.specs.declared.params.Params.{Params}
use Rattle.nud_machine.specs.declared.act.Act.{Act}
use Rattle.nb_base.specs.declared.host.Host.{Host}
use Rattle.nb_base.specs.declared.plan.Plan.{Plan}
use Rattle.nb_base.specs.declared.op.Op.{Op}
use Rattle.nb_base.specs.declared.op.Op.TheVariants as op
use Rattle.text_codes.specs.Lines.{Words}
use Rattle.neigh_run.specs.declared.run.Run.{Run}
use Rattle.neigh_run.specs.Spelling.{host_words}
use Rattle.neigh_run.specs.Report.{set_in, act_line, journal_lines, bucket_lines, head_words, host_line_words, sender_lines, mark_words, fates_words, table, proxies, counted}
use Rattle.nud_machine.specs.State.{State}
use Rattle.neigh_run.specs.Entries.{entry_if_present, entries_after, proxy_words}
use Rattle.nb_base.specs.declared.time.OpId.{OpId}
use Rattle.journal_fold.specs.Taken.{Taken}
use Rattle.nb_journal.specs.declared.kept.Kept.{Kept}
use Rattle.nb_base.specs.declared.key.Key.{Key}
use Rattle.nb_base.specs.declared.key.Key.TheVariants.{V4}
use Rattle.nb_journal.specs.Keys.{key_of}
use Rattle.nb_journal.specs.Fold.{state_of, known_keys}
use Rattle.nb_journal.specs.Steps.{IsShort}
use Rattle.nud_machine.specs.Laws.{ids_of}

-- the present ones of keys' entries
abbrev pub rows : Host → List Key → List State → List Words
rows host (key ∷ keys) (s ∷ states) = entry_if_present host key s.entry ++ rows host keys states
rows host _ _ = []

-- an entry as a look lists it
abbrev pub listed : Words → Words
listed words = set_in (codes "entry" ∷ words)

-- what stands below a look
abbrev pub look : Host → Params → List Line → Op → List Words
look host p past op.Show = map listed (entries_after host p past)
look host p past _ = []

-- the key that an operation names, or any where it names none
abbrev pub named : Op → Key
named o = unwrap_or (key_of o) (V4 0)

-- what stands below every other line
abbrev pub acts_below : Plan → Op → List Act → List Words
acts_below plan op.Show acts = []
acts_below plan o acts = map (act_line plan (named o)) acts

-- the present entries behind journals
abbrev pub entries : Host → List Taken → List Words
entries host folds = flat_map (λ (fold : Taken). entries_after host fold.params fold.lines) folds

-- a fold over fewer than 2^32 lines
abbrev pub IsShortFold : Taken → Type 0
IsShortFold fold = IsShort fold.lines

-- the packets that wait for entries
abbrev pub waiting_for : List Kept → List OpId
waiting_for kept = flat_map (λ (one : Kept). ids_of one.waiting) kept

-- the packets that wait behind a journal
abbrev pub waits_behind : Taken → List OpId
waits_behind fold = flat_map (λ key. ids_of (state_of fold.params fold.lines key).waiting) (known_keys fold.lines)

-- and behind all of them
abbrev pub waits : List Taken → List OpId
waits folds = flat_map waits_behind folds

-- a bucket's journal, with its number and its length
abbrev pub bucket_of_journal : Plan → ℕ → List Line → List Words
bucket_of_journal plan b journal = (codes "bucket" ∷ decimal b ∷ codes "lines" ∷ decimal (length journal) ∷ []) ∷ journal_lines plan [] journal

-- a report's lines before the counts
abbrev pub top : Run → List Words
top run =
    head_words run
    ∷ host_words run.plan.host
    ∷ (bucket_lines run.plan 0 run.journals
    ++ (counted (codes "host" ∷ codes "lines" ∷ []) (map host_line_words run.host_lines)
    ++ (sender_lines 1 run.plan.senders run.logs
    ++ counted (codes "marks" ∷ []) (map mark_words run.marks))))

-- and from the counts on
abbrev pub bottom : Run → List Words
bottom run =
    fates_words run
    ∷ (counted (codes "table" ∷ []) (table run)
    ++ (counted (codes "proxies" ∷ []) (map (proxy_words run.plan.host) (proxies run))
    ++ (codes "end" ∷ []) ∷ []))
