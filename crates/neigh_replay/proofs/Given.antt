-- What was read and made of it is what the files give, where the mode `inline` is asked for.
use Rattle.std.proofs.Common.{◌≡◌, ℕ, ◌<◌, ◌≤◌, true, List, length, Option, Some, None, refl, sym, ap, subst, arith}
use Rattle.std.specs.Prelude.{is_some, IfSome, MatchResult, Result, Ok, Err}
use Rattle.nb_base.specs.declared.plan.Mode.{Mode}
use Rattle.nb_base.specs.declared.plan.Mode.TheVariants as mode
use Rattle.nb_base.specs.declared.plan.Plan.{Plan}
use Rattle.neigh_words.specs.Settings.{Asked}
use Rattle.neigh_replay.specs.declared.failure.File.{File}
use Rattle.neigh_replay.specs.declared.failure.File.TheVariants.{Script, Capture}
use Rattle.neigh_replay.specs.declared.failure.Failure.{Failure}
use Rattle.neigh_replay.specs.declared.failure.Failure.TheVariants.{Memory, ReadFault, WriteFault, TooLong, CaptureRefused, ScriptRefused, TooLarge}
use Rattle.neigh_replay.specs.Verdict.{Report, Held, AreTold, AreRead, IsFile, IsLongFile, IsCaptureFile, IsToldName, HoldsBytes, HavePlan, IsRunIn, Gives, script_long, capture_long, capture_refused, script_refused, too_large, report, script_limit, capture_limit}
use Rattle.neigh_replay.specs.Verdict as verdict
use Rattle.neigh_replay.specs.Replay.{FilesCall, files_call, GivesTold}
use Rattle.neigh_replay.specs.Failures.{IsReadAs, FailsToRead, IsCaptureRead, FailsToReadCapture, IsPlanOf, IsReportOf, Refuses, Explains}

-- ---- files that were read

told_file : (o : Option (List ℕ)) (bytes : List ℕ) → IfSome o (λ all. bytes ≡ all) → is_some o ≡ true → o ≡ Some bytes
told_file (Some all) bytes e told = ap Some (sym e)
told_file None bytes e told = cc

told_some : (o : Option (List ℕ)) → HoldsBytes o → is_some o ≡ true
told_some (Some all) h = refl
told_some None h = absurd h

script_file : (a : Asked) (held : Held) (text : List ℕ) → IsReadAs held a.script script_limit text → AreTold a held → IsFile held a.script script_limit text
script_file a held text read told = record { is = told_file (held a.script) text read.0 told.script; short = read.1 }

capture_file : (held : Held) (name capture : Option (List ℕ)) → IsCaptureRead held name capture → IsToldName held name → IsCaptureFile held name capture
capture_file held None None read told = tt
capture_file held None (Some bytes) read told = absurd read
capture_file held (Some name) None read told = absurd read
capture_file held (Some name) (Some bytes) read told = record { is = told_file (held name) bytes read.0 (told_some (held name) told); short = read.1 }

-- both files
pub record AreFiles (a : Asked) (held : Held) (text : List ℕ) (capture : Option (List ℕ)) : Type 0 where
  pub script : IsReadAs held a.script script_limit text
  pub captured : IsCaptureRead held a.capture capture

are_read : (a : Asked) (held : Held) (text : List ℕ) (capture : Option (List ℕ)) → AreFiles a held text capture → AreTold a held → AreRead a held text capture
are_read a held text capture f told = record { script_file = script_file a held text f.script told; capture_file = capture_file held a.capture capture f.captured told.capture }

have_plan : (a : Asked) (held : Held) (text : List ℕ) (capture : Option (List ℕ)) (plan : Plan) → AreRead a held text capture → IsPlanOf a.window a.buckets text capture plan → HavePlan a held plan
have_plan a held text capture plan files made = record {
  text = text;
  capture = capture;
  files = files;
  records = made.records;
  captured = made.captured;
  script = made.script;
  read = made.read;
  planned = made.planned;
}

-- ---- what they give

gives_report : (a : Asked) (files : FilesCall) (text result : List ℕ) (capture : Option (List ℕ)) → a.mode ≡ mode.Inline → AreFiles a files.held text capture → IsReportOf a.window a.buckets text capture result → GivesTold a files (Report result)
gives_report a files text result capture inline f is told =
    let h = have_plan a files.held text capture is.plan (are_read a files.held text capture f told) is.made in
    let r = is.report_is in
    let run : IsRunIn a.mode is.plan r.run = subst (λ (m : Mode). IsRunIn m is.plan r.run) (sym inline) r.inline in
    report is.plan r.run h r.bound run r.short r.spelled

refused_capture : (a : Asked) (files : FilesCall) (text : List ℕ) (capture : Option (List ℕ)) → AreFiles a files.held text capture → (fail : _) → Refuses a.window a.buckets text capture (CaptureRefused fail) → GivesTold a files (verdict.CaptureRefused fail)
refused_capture a files text None f fail h = absurd h
refused_capture a files text (Some bytes) f fail h = λ told. capture_refused text bytes (are_read a files.held text (Some bytes) f told) h

-- a capture was read where one is asked for
no_capture : (held : Held) (name capture : Option (List ℕ)) → IsCaptureRead held name capture → name ≡ None → capture ≡ None
no_capture held None None read e = refl
no_capture held None (Some bytes) read e = absurd read
no_capture held (Some name) capture read e = cc

gives_refusal : (a : Asked) (files : FilesCall) (text : List ℕ) (capture : Option (List ℕ)) (failure : Failure) → AreFiles a files.held text capture → Refuses a.window a.buckets text capture failure → Explains a files failure
gives_refusal a files text capture Memory f h = tt
gives_refusal a files text capture (ReadFault file) f h = absurd h
gives_refusal a files text capture WriteFault f h = absurd h
gives_refusal a files text capture (TooLong file) f h = absurd h
gives_refusal a files text capture (CaptureRefused fail) f h = refused_capture a files text capture f fail h
gives_refusal a files text capture (ScriptRefused line why) f h = λ told. script_refused text capture h.0 (are_read a files.held text capture f told) h.1 h.2
gives_refusal a files text capture TooLarge f h = (
  λ told. too_large h.plan (have_plan a files.held text capture h.plan (are_read a files.held text capture f told) h.made.made) h.large,
  λ alone. (let small = h.made.small (no_capture files.held a.capture capture f.captured alone) in let large = h.large in omega (arith, small, large)),
)

-- what the files come to
both : (a : Asked) (files : FilesCall) (text : List ℕ) (capture : Option (List ℕ)) (r : Result (List ℕ) Failure) → a.mode ≡ mode.Inline → AreFiles a files.held text capture
    → MatchResult r (IsReportOf a.window a.buckets text capture) (Refuses a.window a.buckets text capture) → MatchResult r (λ report. GivesTold a files (Report report)) (Explains a files)
both a files text capture (Ok result) inline f h = gives_report a files text result capture inline f h
both a files text capture (Err failure) inline f h = gives_refusal a files text capture failure f h

same_read : (held mid : Held) (name bytes : List ℕ) (limit : ℕ) → ((other : List ℕ) → mid other ≡ held other) → IsReadAs mid name limit bytes → IsReadAs held name limit bytes
same_read held mid name bytes limit same read = (subst (λ (o : Option (List ℕ)). IfSome o (λ all. bytes ≡ all)) (same name) read.0, read.1)

same_capture : (held mid : Held) (name capture : Option (List ℕ)) → ((other : List ℕ) → mid other ≡ held other) → IsCaptureRead mid name capture → IsCaptureRead held name capture
same_capture held mid None None same read = tt
same_capture held mid None (Some bytes) same read = absurd read
same_capture held mid (Some name) None same read = absurd read
same_capture held mid (Some name) (Some bytes) same read = same_read held mid name bytes capture_limit same read

-- the script was read, and then the capture, where one is asked for
pub gives_both : (a : Asked) (files : FilesCall) (mid : Held) (name text : List ℕ) (capture : Option (List ℕ)) (r : Result (List ℕ) Failure) → name ≡ a.script → a.mode ≡ mode.Inline → ((other : List ℕ) → mid other ≡ files.held other)
    → IsReadAs files.held name script_limit text → IsCaptureRead mid a.capture capture
    → MatchResult r (IsReportOf a.window a.buckets text capture) (Refuses a.window a.buckets text capture) → MatchResult r (λ report. GivesTold a files (Report report)) (Explains a files)
gives_both a files mid name text capture r is inline same script captured h =
    both a files text capture r inline
    (record { script = subst (λ (n : List ℕ). IsReadAs files.held n script_limit text) is script; captured = same_capture files.held mid a.capture capture same captured }) h

-- ---- what isn't read

long_file : (held : Held) (name : List ℕ) (limit : ℕ) (o : Option (List ℕ)) → held name ≡ o → IfSome o (λ all. limit < length all) → is_some o ≡ true → IsLongFile held name limit
long_file held name limit (Some all) e long told = record { bytes = all; is = e; long = long }
long_file held name limit None e long told = absurd cc

-- the script wasn't read
script_unread : (a : Asked) (files : FilesCall) (failure : Failure) → FailsToRead files a.script script_limit Script failure → Explains a files failure
script_unread a files Memory h = tt
script_unread a files (ReadFault file) h = subst (λ (f : File). Explains a files (ReadFault f)) (sym h.0) (a.script, refl, h.1)
script_unread a files WriteFault h = absurd h
script_unread a files (TooLong file) h =
    subst (λ (f : File). Explains a files (TooLong f)) (sym h.0) (a.script, refl, λ told. script_long (long_file files.held a.script script_limit (files.held a.script) refl h.1 told.script))
script_unread a files (CaptureRefused fail) h = absurd h
script_unread a files (ScriptRefused line why) h = absurd h
script_unread a files TooLarge h = absurd h

pub gives_script_unread : (a : Asked) (files : FilesCall) (name : List ℕ) (failure : Failure) → name ≡ a.script → FailsToRead files name script_limit Script failure → Explains a files failure
gives_script_unread a files name failure is h = script_unread a files failure (subst (λ (n : List ℕ). FailsToRead files n script_limit Script failure) is h)

-- the capture of this name, which is asked for, wasn't read behind the script
capture_unread : (a : Asked) (held mid : Held) (before between after : List ℕ → ℕ) (text name : List ℕ) (failure : Failure) → ((other : List ℕ) → mid other ≡ held other) → ((other : List ℕ) → before other ≤ between other)
    → IsReadAs held a.script script_limit text → a.capture ≡ Some name → FailsToRead (files_call mid between after) name capture_limit Capture failure → Explains a (files_call held before after) failure
capture_unread a held mid before between after text name Memory same later script asked h = tt
capture_unread a held mid before between after text name (ReadFault file) same later script asked h =
    subst (λ (f : File). Explains a (files_call held before after) (ReadFault f)) (sym h.0) (name, asked, let le = later name in let rose = h.1 in omega (arith, le, rose))
capture_unread a held mid before between after text name WriteFault same later script asked h = absurd h
capture_unread a held mid before between after text name (TooLong file) same later script asked h =
    subst (λ (f : File). Explains a (files_call held before after) (TooLong f)) (sym h.0) (
      name,
      asked,
      λ told. capture_long text (script_file a held text script told) asked
          (long_file held name capture_limit (held name) refl (subst (λ (o : Option (List ℕ)). IfSome o (λ all. capture_limit < length all)) (same name) h.1) (told_some (held name) (subst (IsToldName held) asked told.capture))),
    )
capture_unread a held mid before between after text name (CaptureRefused fail) same later script asked h = absurd h
capture_unread a held mid before between after text name (ScriptRefused line why) same later script asked h = absurd h
capture_unread a held mid before between after text name TooLarge same later script asked h = absurd h

by_name : (a : Asked) (held mid : Held) (before between after : List ℕ → ℕ) (text : List ℕ) (o : Option (List ℕ)) (failure : Failure) → ((other : List ℕ) → mid other ≡ held other) → ((other : List ℕ) → before other ≤ between other)
    → IsReadAs held a.script script_limit text → a.capture ≡ o → FailsToReadCapture (files_call mid between after) o failure → Explains a (files_call held before after) failure
by_name a held mid before between after text None failure same later script asked h = absurd h
by_name a held mid before between after text (Some name) failure same later script asked h = capture_unread a held mid before between after text name failure same later script asked h

pub gives_capture_unread : (a : Asked) (held mid : Held) (before between after : List ℕ → ℕ) (name text : List ℕ) (failure : Failure) → name ≡ a.script → ((other : List ℕ) → mid other ≡ held other) → ((other : List ℕ) → before other ≤ between other)
    → IsReadAs held name script_limit text → FailsToReadCapture (files_call mid between after) a.capture failure → Explains a (files_call held before after) failure
gives_capture_unread a held mid before between after name text failure is same later script h =
    by_name a held mid before between after text a.capture failure same later (subst (λ (n : List ℕ). IsReadAs held n script_limit text) is script) refl h

-- a failure that is handed on
pub from_err : {X F : Type 0} (A : X → Type 0) (B : F → Type 0) (r : Result X F) (e f : F) → r ≡ Err e → e ≡ f → B f → MatchResult r A B
from_err {X = X} {F = F} A B r e f is same h = subst (λ (q : Result X F). MatchResult q A B) (sym is) (subst B (sym same) h)
