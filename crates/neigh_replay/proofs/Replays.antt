-- From what the parts of the code give to the whole of a replay.
use Rattle.std.proofs.Common.{◌≡◌, ◌≢◌, ℕ, true, List, [], ◌∷◌, Option, Some, None, refl, sym, subst, ◌∙◌, inl, inr}
use Rattle.std.specs.Prelude.{◌==◌, slice_get, unwrap_or}
use Rattle.std.proofs.lemmas.Bool.Decides.{eqb_tells}
use Rattle.nb_base.specs.declared.plan.Plan.{Plan}
use Rattle.neigh_words.specs.Settings.{Asked}
use Rattle.neigh_replay.specs.declared.failure.File.{File}
use Rattle.neigh_replay.specs.declared.failure.File.TheVariants.{Script, Capture}
use Rattle.neigh_replay.specs.declared.failure.Failure.{Failure}
use Rattle.neigh_replay.specs.declared.failure.Failure.TheVariants.{Memory, ReadFault, WriteFault, TooLong, CaptureRefused, ScriptRefused, TooLarge}
use Rattle.neigh_replay.specs.Verdict.{Verdict, Report, AreTold, HavePlan, Gives, names_of, status_of, instead_of, line_of}
use Rattle.neigh_replay.specs.Verdict as verdict
use Rattle.neigh_replay.specs.Status.{IsOneOf, memory_line, read_line}
use Rattle.neigh_replay.specs.Replay.{FilesCall, SinkCall, SinkSays, IsUntouched, NameFailed, GivesTold, Shows, IsReplay, NothingFailed, ReplaysAreComplete, ScriptsAreComplete}
use Rattle.neigh_replay.specs.Failures.{name_in, OfFile, WritesReport, Fails, line_for, status_for}
use Rattle.neigh_replay.proofs.Verdicts.{one_status, by_plan, plan_status, of_plan_report, small_status}

-- ---- statuses

same_number : (n : ℕ) → (n == n) ≡ true
same_number n = elim (eqb_tells n n) [
  | inl s ↦ s.0
  | inr d ↦ absurd (d.1 refl)
]

first_is_one : (n : ℕ) (others : List ℕ) → IsOneOf (n ∷ others) n
first_is_one n others = rw (same_number n) refl

-- no verdict has the status of a failure outside, nor that of other words
not_memory : (v : Verdict) → status_of v ≡ 1 → ⊥
not_memory (verdict.TooLong name) e = cc
not_memory (verdict.CaptureRefused fail) e = cc
not_memory (verdict.ScriptRefused line why) e = cc
not_memory verdict.TooLarge e = cc
not_memory (Report text) e = cc

not_usage : (v : Verdict) → status_of v ≡ 2 → ⊥
not_usage (verdict.TooLong name) e = cc
not_usage (verdict.CaptureRefused fail) e = cc
not_usage (verdict.ScriptRefused line why) e = cc
not_usage verdict.TooLarge e = cc
not_usage (Report text) e = cc

not_read : (v : Verdict) → status_of v ≡ 3 → ⊥
not_read (verdict.TooLong name) e = cc
not_read (verdict.CaptureRefused fail) e = cc
not_read (verdict.ScriptRefused line why) e = cc
not_read verdict.TooLarge e = cc
not_read (Report text) e = cc

not_write : (v : Verdict) → status_of v ≡ 6 → ⊥
not_write (verdict.TooLong name) e = cc
not_write (verdict.CaptureRefused fail) e = cc
not_write (verdict.ScriptRefused line why) e = cc
not_write verdict.TooLarge e = cc
not_write (Report text) e = cc

-- want of memory and a file that can't be read may stand for every verdict
memory_instead : (v : Verdict) → IsOneOf (status_of v ∷ instead_of v) 1
memory_instead (verdict.TooLong name) = refl
memory_instead (verdict.CaptureRefused fail) = refl
memory_instead (verdict.ScriptRefused line why) = refl
memory_instead verdict.TooLarge = refl
memory_instead (Report text) = refl

read_instead : (v : Verdict) → IsOneOf (status_of v ∷ instead_of v) 3
read_instead (verdict.TooLong name) = refl
read_instead (verdict.CaptureRefused fail) = refl
read_instead (verdict.ScriptRefused line why) = refl
read_instead verdict.TooLarge = refl
read_instead (Report text) = refl

-- and an output that can't be written for a report
write_instead : (v : Verdict) → 0 ≡ status_of v → IsOneOf (status_of v ∷ instead_of v) 6
write_instead (verdict.TooLong name) e = absurd cc
write_instead (verdict.CaptureRefused fail) e = absurd cc
write_instead (verdict.ScriptRefused line why) e = absurd cc
write_instead verdict.TooLarge e = absurd cc
write_instead (Report text) e = refl

-- ---- replays

pub decided_replay : (a : Asked) (files : FilesCall) (out err : SinkCall) (v : Verdict) → (a.capture ≡ None → status_of v ≢ 7) → GivesTold a files v → Shows v out err → IsReplay a files out err (status_of v)
decided_replay a files out err v small given shown = record {
  no_memory = λ e. absurd (not_memory v e);
  cannot_read = λ e. absurd (not_read v e);
  cannot_write = λ e. absurd (not_write v e);
  never_too_large = small;
  decided = λ e f g. record { verdict = v; given = given; answered = refl; shown = shown };
  always = λ told w gives. subst (λ (n : ℕ). IsOneOf (n ∷ instead_of w) (status_of v)) (one_status a files.held v w told (given told) gives) (first_is_one (status_of v) (instead_of w));
}

pub memory_replay : (a : Asked) (files : FilesCall) (out err : SinkCall) → IsUntouched out → SinkSays err memory_line → IsReplay a files out err 1
memory_replay a files out err untouched said = record {
  no_memory = λ e. record { untouched = untouched; said = said };
  cannot_read = λ e. absurd cc;
  cannot_write = λ e. absurd cc;
  never_too_large = λ none e. cc;
  decided = λ e f g. absurd (e refl);
  always = λ told w gives. memory_instead w;
}

pub written_replay : (a : Asked) (files : FilesCall) (out err : SinkCall) → WritesReport a files out → IsUntouched err → IsReplay a files out err 0
written_replay a files out err w quiet = decided_replay a files out err (Report w.text) (λ alone e. cc) w.given (w.written, quiet)

-- the place of a file among those that are asked for
abbrev place_for : File → ℕ
place_for Script = 0
place_for Capture = 1

asked_at : (a : Asked) (file : File) (name : List ℕ) → name_in a file ≡ Some name → slice_get (names_of a) (place_for file) ≡ Some name
asked_at a Script name e = e
asked_at a Capture name e = rw e refl

-- a line that names the file
said_of : (err : SinkCall) (line : List ℕ → List ℕ) (o : Option (List ℕ)) (name : List ℕ) → o ≡ Some name → SinkSays err (line (unwrap_or o [])) → SinkSays err (line name)
said_of err line o name e said = subst (λ (p : Option (List ℕ)). SinkSays err (line (unwrap_or p []))) e said

unread : (a : Asked) (files : FilesCall) (out err : SinkCall) (file : File) → OfFile a file (NameFailed files) → IsUntouched out → SinkSays err (read_line (unwrap_or (name_in a file) [])) → IsReplay a files out err 3
unread a files out err file (name, is, failed) untouched said = record {
  no_memory = λ e. absurd cc;
  cannot_read = λ e. record { place = place_for file; name = name; asked = asked_at a file name is; failed = failed; untouched = untouched; said = said_of err read_line (name_in a file) name is said };
  cannot_write = λ e. absurd cc;
  never_too_large = λ none e. cc;
  decided = λ e f g. absurd (f refl);
  always = λ told w gives. read_instead w;
}

too_long : (a : Asked) (files : FilesCall) (out err : SinkCall) (file : File) → OfFile a file (λ name. GivesTold a files (verdict.TooLong name)) → IsUntouched out → SinkSays err (line_of (verdict.TooLong (unwrap_or (name_in a file) []))) → IsReplay a files out err 8
too_long a files out err file (name, is, given) untouched said =
    decided_replay a files out err (verdict.TooLong name) (λ alone e. cc) given (untouched, said_of err (λ n. line_of (verdict.TooLong n)) (name_in a file) name is said)

pub failed_replay : (a : Asked) (files : FilesCall) (out err : SinkCall) (failure : Failure) → Fails a files out failure → SinkSays err (line_for a failure) → IsReplay a files out err (status_for failure)
failed_replay a files out err Memory h said = memory_replay a files out err h.1 said
failed_replay a files out err (ReadFault file) h said = unread a files out err file h.0 h.1 said
failed_replay a files out err WriteFault h said = record {
  no_memory = λ e. absurd cc;
  cannot_read = λ e. absurd cc;
  cannot_write = λ e. record { text = h.text; given = h.given; failed = h.failed; count = h.count; part = h.part; said = said };
  never_too_large = λ none e. cc;
  decided = λ e f g. absurd (g refl);
  always = λ told w gives. write_instead w (one_status a files.held (Report h.text) w told (h.given told) gives);
}
failed_replay a files out err (TooLong file) h said = too_long a files out err file h.0 h.1 said
failed_replay a files out err (CaptureRefused fail) h said = decided_replay a files out err (verdict.CaptureRefused fail) (λ alone e. cc) h.0 (h.1, said)
failed_replay a files out err (ScriptRefused line why) h said = decided_replay a files out err (verdict.ScriptRefused line why) (λ alone e. cc) h.0 (h.1, said)
failed_replay a files out err TooLarge h said = decided_replay a files out err verdict.TooLarge (λ alone. absurd (h.0.1 alone)) h.0.0 (h.1, said)

-- no failure but a failed write touched the output
untouched_by : (a : Asked) (files : FilesCall) (out : SinkCall) (failure : Failure) → (failure ≡ WriteFault → ⊥) → Fails a files out failure → IsUntouched out
untouched_by a files out Memory other h = h.1
untouched_by a files out (ReadFault file) other h = h.1
untouched_by a files out WriteFault other h = absurd (other refl)
untouched_by a files out (TooLong file) other h = h.1
untouched_by a files out (CaptureRefused fail) other h = h.1
untouched_by a files out (ScriptRefused line why) other h = h.1
untouched_by a files out TooLarge other h = h.1

-- what is said instead of a failure
pub said_instead : (a : Asked) (files : FilesCall) (out : SinkCall) (failure said : Failure) → (said ≢ Memory → said ≡ failure) → (failure ≡ WriteFault → said ≡ WriteFault) → Fails a files out failure → Fails a files out said
said_instead a files out failure Memory same kept h = (tt, untouched_by a files out failure (λ e. let both : Memory ≡ WriteFault = kept e in cc) h)
said_instead a files out failure (ReadFault file) same kept h = subst (Fails a files out) (sym (same (λ e. cc))) h
said_instead a files out failure WriteFault same kept h = subst (Fails a files out) (sym (same (λ e. cc))) h
said_instead a files out failure (TooLong file) same kept h = subst (Fails a files out) (sym (same (λ e. cc))) h
said_instead a files out failure (CaptureRefused fail) same kept h = subst (Fails a files out) (sym (same (λ e. cc))) h
said_instead a files out failure (ScriptRefused line why) same kept h = subst (Fails a files out) (sym (same (λ e. cc))) h
said_instead a files out failure TooLarge same kept h = subst (Fails a files out) (sym (same (λ e. cc))) h

-- ---- completeness

-- a status is 1, 3 or 6, or it is another
complete : (a : Asked) (files : FilesCall) (out err : SinkCall) (status : ℕ) (plan : Plan) → IsReplay a files out err status → AreTold a files.held → HavePlan a files.held plan
    → (status ≡ by_plan plan → status ≡ 0) → NothingFailed a files out → IsOneOf (0 ∷ 1 ∷ []) status
complete a files out err status plan replay told have zero quiet =
    elim (eqb_tells status 1) [
      | inl one ↦ subst (IsOneOf (0 ∷ 1 ∷ [])) (sym one.1) refl
      | inr a1 ↦ elim (eqb_tells status 3) [
        | inl three ↦ absurd (let f = replay.cannot_read three.1 in quiet.reading f.place f.name f.asked f.failed)
        | inr a3 ↦ elim (eqb_tells status 6) [
          | inl six ↦ absurd (quiet.writing (replay.cannot_write six.1).failed)
          | inr a6 ↦ subst (IsOneOf (0 ∷ 1 ∷ [])) (sym (zero (let d = replay.decided a1.1 a3.1 a6.1 in d.answered ∙ plan_status a files.held d.verdict plan told (d.given told) have))) refl
        ]
      ]
    ]

pub replays_complete : ReplaysAreComplete
replays_complete a files out err status plan replay told have bound quiet = complete a files out err status plan replay told have (λ e. e ∙ of_plan_report plan bound) quiet

pub scripts_complete : ScriptsAreComplete
scripts_complete a files out err status plan replay alone told have quiet = complete a files out err status plan replay told have (λ e. small_status plan status e (replay.never_too_large alone)) quiet

-- a replay never has the status of other words
pub replay_not_usage : (a : Asked) (files : FilesCall) (out err : SinkCall) (status : ℕ) → IsReplay a files out err status → status ≡ 2 → ⊥
replay_not_usage a files out err status replay two =
    let d = replay.decided (λ e. let both : 2 ≡ 1 = sym two ∙ e in cc) (λ e. let both : 2 ≡ 3 = sym two ∙ e in cc) (λ e. let both : 2 ≡ 6 = sym two ∙ e in cc) in
    not_usage d.verdict (sym d.answered ∙ two)
