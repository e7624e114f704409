-- Two verdicts that the files give have one status.
use Rattle.std.proofs.Common.{◌≡◌, ◌≢◌, ℕ, zero, suc, ◌<◌, ◌≤◌, Bool, true, false, if◌then◌else◌, List, [], ◌∷◌, length, get_or, Option, Some, None, refl, sym, ◌∙◌, ap, subst, arith}
use Rattle.std.specs.Prelude.{nat_le, unwrap_or, Result, Ok, Err}
use Rattle.std.specs.List.{AllByRecursion}
use Rattle.std.proofs.lemmas.Bool.{lt-leb}
use Rattle.nb_journal.proofs.Tests.{le_to}
use Rattle.nb_base.specs.declared.plan.Plan.{Plan}
use Rattle.pcap_records.specs.declared.capture.Rec.{Rec}
use Rattle.pcap_records.specs.declared.fail.CaptureFail.{CaptureFail}
use Rattle.pcap_records.specs.Capture.{IsRefusal}
use Rattle.pcap_records.proofs.Unique.{one_capture, capture_or_refusal}
use Rattle.neigh_script.specs.declared.script.Script.{Script}
use Rattle.neigh_script.specs.declared.why.ScriptFail.{ScriptFail}
use Rattle.neigh_script.specs.Lines.{script_of}
use Rattle.neigh_words.specs.Settings.{Asked}
use Rattle.neigh_plan.specs.Inline.{most_lines, plan_bound}
use Rattle.neigh_plan.specs.Files.{plan_of_files}
use Rattle.neigh_replay.specs.Verdict.{Verdict, Held, Gives, script_long, capture_long, capture_refused, script_refused, too_large, report, IsCaptureFile, IsToldName, HoldsBytes, AreTold, AreRead, HasRecords, HavePlan, script_limit, capture_limit, status_of}

-- ---- the status by computing, from the records of the capture where it isn't refused

abbrev pub by_plan : Plan → ℕ
by_plan plan = if nat_le most_lines (plan_bound plan) then 7 else 0

abbrev by_script : Asked → List ℕ → List Rec → Result Script ScriptFail → ℕ
by_script a bytes records (Ok script) = by_plan (plan_of_files bytes records script a.window a.buckets)
by_script a bytes records (Err fail) = 5

abbrev by_records : Asked → List ℕ → List ℕ → Option (List Rec) → ℕ
by_records a text bytes None = 4
by_records a text bytes (Some records) = by_script a bytes records (script_of text)

-- by what the capture holds, where one is asked for
abbrev by_capture : ℕ → Asked → List ℕ → Option (List Rec) → Option (List ℕ) → ℕ
by_capture limit a text r None = 1
by_capture limit a text r (Some bytes) = if nat_le (length bytes) limit then by_records a text bytes r else 8

abbrev by_name : ℕ → Asked → Held → List ℕ → Option (List Rec) → Option (List ℕ) → ℕ
by_name limit a held text r None = by_records a text [] r
by_name limit a held text r (Some name) = by_capture limit a text r (held name)

-- by what the script holds
abbrev by_text : ℕ → ℕ → Asked → Held → Option (List Rec) → Option (List ℕ) → ℕ
by_text limit most a held r None = 1
by_text limit most a held r (Some text) = if nat_le (length text) limit then by_name most a held text r a.capture else 8

abbrev given_status : Asked → Held → Option (List Rec) → ℕ
given_status a held r = by_text script_limit capture_limit a held r (held a.script)

of_plan_large : (plan : Plan) → most_lines ≤ plan_bound plan → by_plan plan ≡ 7
of_plan_large plan le = rw (le_to most_lines (plan_bound plan) le) refl

pub of_plan_report : (plan : Plan) → plan_bound plan < most_lines → by_plan plan ≡ 0
of_plan_report plan lt = rw (lt-leb most_lines (plan_bound plan) lt) refl

of_text : (limit most : ℕ) (a : Asked) (held : Held) (r : Option (List Rec)) (o : Option (List ℕ)) (text : List ℕ) → o ≡ Some text → length text ≤ limit → by_text limit most a held r o ≡ by_name most a held text r a.capture
of_text limit most a held r o text e le = rw (e, le_to (length text) limit le) refl

of_long_text : (limit most : ℕ) (a : Asked) (held : Held) (r : Option (List Rec)) (o : Option (List ℕ)) (text : List ℕ) → o ≡ Some text → limit < length text → by_text limit most a held r o ≡ 8
of_long_text limit most a held r o text e lt = rw (e, lt-leb (length text) limit lt) refl

of_bytes : (limit : ℕ) (a : Asked) (text : List ℕ) (r : Option (List Rec)) (o : Option (List ℕ)) (bytes : List ℕ) → o ≡ Some bytes → length bytes ≤ limit → by_capture limit a text r o ≡ by_records a text bytes r
of_bytes limit a text r o bytes e le = rw (e, le_to (length bytes) limit le) refl

of_long_bytes : (limit : ℕ) (a : Asked) (text : List ℕ) (r : Option (List Rec)) (o : Option (List ℕ)) (bytes : List ℕ) → o ≡ Some bytes → limit < length bytes → by_capture limit a text r o ≡ 8
of_long_bytes limit a text r o bytes e lt = rw (e, lt-leb (length bytes) limit lt) refl

-- the bytes of the capture that is asked for
of_name : (most : ℕ) (a : Asked) (held : Held) (text : List ℕ) (r : Option (List Rec)) (name capture : Option (List ℕ)) → most ≡ capture_limit → IsCaptureFile held name capture → by_name most a held text r name ≡ by_records a text (unwrap_or capture []) r
of_name most a held text r None None is h = refl
of_name most a held text r None (Some bytes) is h = absurd h
of_name most a held text r (Some name) None is h = absurd h
of_name most a held text r (Some name) (Some bytes) is h = of_bytes most a text r (held name) bytes h.is (subst (λ (n : ℕ). length bytes ≤ n) (sym is) h.short)

of_read : (a : Asked) (held : Held) (text : List ℕ) (capture : Option (List ℕ)) (r : Option (List Rec)) → AreRead a held text capture → given_status a held r ≡ by_records a text (unwrap_or capture []) r
of_read a held text capture r files =
    of_text script_limit capture_limit a held r (held a.script) text files.script_file.is files.script_file.short
    ∙ of_name capture_limit a held text r a.capture capture refl files.capture_file

-- ---- what the capture is

-- the records of the capture, or that it is refused
abbrev Captured : Option (List ℕ) → Option (List Rec) → Type 0
Captured capture (Some records) = HasRecords capture records
Captured None None = ⊥
Captured (Some bytes) None = (fail : CaptureFail) × IsRefusal bytes fail

record IsLate (a : Asked) (held : Held) (r : Option (List Rec)) : Type 0 where
  text : List ℕ
  capture : Option (List ℕ)
  files : AreRead a held text capture
  captured : Captured capture r

-- the status doesn't depend on the capture's records, or these are the capture's
data Reached (a : Asked) (held : Held) (v : Verdict) : Type 0 where
  Early : ((r : Option (List Rec)) → given_status a held r ≡ status_of v) → Reached a held v
  Late : (r : Option (List Rec)) → IsLate a held r → given_status a held r ≡ status_of v → Reached a held v

have_late : (a : Asked) (held : Held) (plan : Plan) → (h : HavePlan a held plan) → IsLate a held (Some h.records)
have_late a held plan h = record { text = h.text; capture = h.capture; files = h.files; captured = h.captured }

of_have : (a : Asked) (held : Held) (plan : Plan) → (h : HavePlan a held plan) → given_status a held (Some h.records) ≡ by_plan plan
of_have a held plan h =
    of_read a held h.text h.capture (Some h.records) h.files ∙ ap (by_script a (unwrap_or h.capture []) h.records) h.read ∙ ap by_plan (sym h.planned)

reached : (a : Asked) (held : Held) (v : Verdict) → Gives a held v → Reached a held v
reached a held v (script_long long) = Early (λ r. of_long_text script_limit capture_limit a held r (held a.script) long.bytes long.is long.long)
reached a held v (capture_long {name = name} text file is long) =
    Early (λ r. of_text script_limit capture_limit a held r (held a.script) text file.is file.short ∙ ap (by_name capture_limit a held text r) is
    ∙ of_long_bytes capture_limit a text r (held name) long.bytes long.is long.long)
reached a held v (capture_refused {fail = fail} text bytes files refusal) = Late None (record { text = text; capture = Some bytes; files = files; captured = (fail, refusal) }) (of_read a held text (Some bytes) None files)
reached a held v (script_refused text capture records files captured refused) =
    Late (Some records) (record { text = text; capture = capture; files = files; captured = captured })
    (of_read a held text capture (Some records) files ∙ ap (by_script a (unwrap_or capture []) records) refused)
reached a held v (too_large plan h le) = Late (Some h.records) (have_late a held plan h) (of_have a held plan h ∙ of_plan_large plan le)
reached a held v (report plan run h lt is short spelled) = Late (Some h.records) (have_late a held plan h) (of_have a held plan h ∙ of_plan_report plan lt)

-- ---- a capture is read in one way

some_is : (x y : List ℕ) (o : Option (List ℕ)) → o ≡ Some x → o ≡ Some y → x ≡ y
some_is x y o ex ey = let both : ◌≡◌ {A = Option (List ℕ)} (Some x) (Some y) = sym ex ∙ ey in cc

one_file : (held : Held) (name b c : Option (List ℕ)) → IsCaptureFile held name b → IsCaptureFile held name c → b ≡ c
one_file held None None None h k = refl
one_file held None None (Some c) h k = absurd k
one_file held None (Some b) c h k = absurd h
one_file held (Some name) None c h k = absurd h
one_file held (Some name) (Some b) None h k = absurd k
one_file held (Some name) (Some b) (Some c) h k = ap Some (some_is b c (held name) h.is k.is)

at_byte : (bytes : List ℕ) → AllByRecursion (λ (byte : ℕ). byte < 256) bytes → (i : ℕ) → get_or bytes i 0 < 256
at_byte [] all i = omega arith
at_byte (x ∷ xs) all zero = all.0
at_byte (x ∷ xs) all (suc i) = at_byte xs all.1 i

held_bytes : (o : Option (List ℕ)) (bytes : List ℕ) → o ≡ Some bytes → HoldsBytes o → AllByRecursion (λ (byte : ℕ). byte < 256) bytes
held_bytes None bytes e h = absurd h
held_bytes (Some all) bytes e h = subst (AllByRecursion (λ (byte : ℕ). byte < 256)) (some_is all bytes (Some all) refl e) h

-- the capture's bytes are bytes
told_bytes : (held : Held) (name : Option (List ℕ)) (bytes : List ℕ) → IsToldName held name → IsCaptureFile held name (Some bytes) → (i : ℕ) → get_or bytes i 0 < 256
told_bytes held None bytes told h = absurd h
told_bytes held (Some name) bytes told h = at_byte bytes (held_bytes (held name) bytes h.is told)

one_reading : (held : Held) (name capture : Option (List ℕ)) (r s : Option (List Rec)) → IsToldName held name → IsCaptureFile held name capture → Captured capture r → Captured capture s → r ≡ s
one_reading held name None None s told file h k = absurd h
one_reading held name None (Some xs) None told file h k = absurd k
one_reading held name None (Some xs) (Some ys) told file h k = ap Some (h ∙ sym k)
one_reading held name (Some bytes) None None told file h k = refl
one_reading held name (Some bytes) None (Some ys) told file h k = absurd (capture_or_refusal bytes ys h.0 (told_bytes held name bytes told file) k h.1)
one_reading held name (Some bytes) (Some xs) None told file h k = absurd (capture_or_refusal bytes xs k.0 (told_bytes held name bytes told file) h k.1)
one_reading held name (Some bytes) (Some xs) (Some ys) told file h k = ap Some (one_capture bytes xs ys (told_bytes held name bytes told file) h k)

one_late : (a : Asked) (held : Held) (r s : Option (List Rec)) → AreTold a held → IsLate a held r → IsLate a held s → r ≡ s
one_late a held r s told h k =
    one_reading held a.capture h.capture r s told.capture h.files.capture_file h.captured
    (subst (λ (c : Option (List ℕ)). Captured c s) (sym (one_file held a.capture h.capture k.capture h.files.capture_file k.files.capture_file)) k.captured)

-- ---- two verdicts

agree : (a : Asked) (held : Held) (v w : Verdict) → AreTold a held → Reached a held v → Reached a held w → status_of v ≡ status_of w
agree a held v w told (Early e) (Early f) = sym (e None) ∙ f None
agree a held v w told (Early e) (Late r late f) = sym (e r) ∙ f
agree a held v w told (Late r late e) (Early f) = sym e ∙ f r
agree a held v w told (Late r h e) (Late s k f) = sym e ∙ ap (given_status a held) (one_late a held r s told h k) ∙ f

-- two verdicts that told files give have one status
pub one_status : (a : Asked) (held : Held) (v w : Verdict) → AreTold a held → Gives a held v → Gives a held w → status_of v ≡ status_of w
one_status a held v w told gv gw = agree a held v w told (reached a held v gv) (reached a held w gw)

plan_agrees : (a : Asked) (held : Held) (v : Verdict) (plan : Plan) → AreTold a held → Reached a held v → (h : HavePlan a held plan) → status_of v ≡ by_plan plan
plan_agrees a held v plan told (Early e) h = sym (e (Some h.records)) ∙ of_have a held plan h
plan_agrees a held v plan told (Late r late e) h = sym e ∙ ap (given_status a held) (one_late a held r (Some h.records) told late (have_late a held plan h)) ∙ of_have a held plan h

-- the status where the files have a plan
pub plan_status : (a : Asked) (held : Held) (v : Verdict) (plan : Plan) → AreTold a held → Gives a held v → HavePlan a held plan → status_of v ≡ by_plan plan
plan_status a held v plan told gives have = plan_agrees a held v plan told (reached a held v gives) have

-- a plan that isn't too large has a report
pub small_status : (plan : Plan) (status : ℕ) → status ≡ by_plan plan → status ≢ 7 → status ≡ 0
small_status plan status e small = by_test (nat_le most_lines (plan_bound plan)) e where
  by_test : (t : Bool) → status ≡ (if t then 7 else 0) → status ≡ 0
  by_test true h = absurd (small h)
  by_test false h = h
