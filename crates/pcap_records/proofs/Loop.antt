-- Reading the records one after the other, as a loop does.
use Rattle.std.proofs.Common.{◌≡◌, ◌≢◌, ◌<◌, ℕ, suc, ◌+◌, ◌-◌, List, [], ◌∷◌, ◌++◌, length, drop, Result, Ok, Err, true, false, eqb, refl, sym, ap, ◌∙◌, arith, append_assoc, length-append}
use Rattle.std.proofs.lemmas.Bool.{eqb-true, eqb-false}
use Rattle.std.proofs.lemmas.List.{append-nil, nil_from_length}
use Rattle.pcap_records.specs.declared.capture.Rec.{Rec}
use Rattle.pcap_records.specs.declared.clock.Clock.{Clock}
use Rattle.pcap_records.specs.declared.fail.CaptureFail.{CaptureFail}
use Rattle.pcap_records.specs.declared.fail.CaptureFail.TheVariants.{ShortHeader, BadMagic, BadVersion, BadLink, ShortRecord, HugeRecord, TooMany, SpanTooLong, Memory}
use Rattle.pcap_records.specs.declared.form.Form.{Form}
use Rattle.pcap_records.specs.Capture.{Answers}
use Rattle.pcap_records.specs.Reading.{◌>>=◌, record_at, with_front, records_from, start_clock}
use Rattle.pcap_records.proofs.Again.{front-nil}
use Rattle.pcap_records.proofs.Steps.{from_end, from_many, behind_one, from_one}

pub regroup : (front : List Rec) (one : Rec) (read : Result (List Rec) CaptureFail) → with_front front (with_front (one ∷ []) read) ≡ with_front (front ++ one ∷ []) read
regroup front one (Ok x) = ap (λ (records : List Rec). Ok records) (sym (append_assoc front (one ∷ []) x))
regroup front one (Err e) = refl

-- nothing is read yet
pub begins : (form : Form) (front : List Rec) (clock : Clock) (most place : ℕ) (rest : List ℕ) → front ≡ [] → clock ≡ start_clock → with_front front (records_from form (most - length front) clock place rest) ≡ records_from form most start_clock place rest
begins form front clock most place rest none starts =
    let k : most - length front ≡ most = omega (arith, ap length none) in
    rw (none, starts) (front-nil (records_from form (most - 0) start_clock place rest) ∙ ap (λ (n : ℕ). records_from form n start_clock place rest) (let e : most - 0 ≡ most = omega arith in e))

some_more : (rest : List ℕ) → eqb (length rest) 0 ≡ false → rest ≢ []
some_more rest h e = eqb-false (length rest) 0 h (ap length e)

-- the next record
pub goes_on : (form : Form) (front records : List Rec) (most : ℕ) (clock : Clock) (place : ℕ) (rest after : List ℕ) (one : Rec × Clock) (next : ℕ) (total : Result (List Rec) CaptureFail) → eqb (length rest) 0 ≡ false → length front < most
    → Ok one ≡ record_at form clock place rest → next ≡ place + 16 + one.0.len → after ≡ drop (16 + one.0.len) rest → records ≡ front ++ one.0 ∷ [] → with_front front (records_from form (most - length front) clock place rest) ≡ total
    → with_front records (records_from form (most - length records) one.1 next after) ≡ total
goes_on form front records most clock place rest after one next total more small e behind dropped pushed so_far =
    let k : most - length front ≡ suc (most - length (front ++ one.0 ∷ [])) = omega (arith, length-append front (one.0 ∷ [])) in
    let left : ℕ = most - length (front ++ one.0 ∷ []) in
    let step : records_from form (most - length front) clock place rest ≡ behind_one form left place rest one =
    ap (λ (n : ℕ). records_from form n clock place rest) k ∙ from_one form left clock place rest (some_more rest more) ∙ ap (λ (r : Result (Rec × Clock) CaptureFail). r >>= behind_one form left place rest) (sym e) in
    rw (behind, dropped, pushed) (sym (regroup front one.0 (records_from form left one.1 (place + 16 + one.0.len) (drop (16 + one.0.len) rest))) ∙ ap (with_front front) (sym step) ∙ so_far)

-- a refusal, or want of memory
pub answers-err : (fail : CaptureFail) (total : Result (List Rec) CaptureFail) → total ≡ Err fail → Answers (Err fail) total
answers-err ShortHeader total e = sym e
answers-err (BadMagic number) total e = sym e
answers-err (BadVersion major minor) total e = sym e
answers-err (BadLink link) total e = sym e
answers-err (ShortRecord place) total e = sym e
answers-err (HugeRecord place len) total e = sym e
answers-err (TooMany place) total e = sym e
answers-err (SpanTooLong place) total e = sym e
answers-err Memory total e = tt

-- no more may come
pub stops_at_most : (form : Form) (front : List Rec) (most : ℕ) (clock : Clock) (place : ℕ) (rest : List ℕ) (total : Result (List Rec) CaptureFail) → eqb (length rest) 0 ≡ false → length front ≡ most
    → with_front front (records_from form (most - length front) clock place rest) ≡ total → Answers (Err (TooMany place)) total
stops_at_most form front most clock place rest total more full so_far =
    let k : most - length front ≡ 0 = omega arith in
    let step : records_from form (most - length front) clock place rest ≡ Err (TooMany place) = ap (λ (n : ℕ). records_from form n clock place rest) k ∙ from_many form clock place rest (some_more rest more) in
    sym (ap (with_front front) step) ∙ so_far

-- the next record is refused
pub stops : (form : Form) (front : List Rec) (most : ℕ) (clock : Clock) (place : ℕ) (rest : List ℕ) (fail : CaptureFail) (total : Result (List Rec) CaptureFail) → eqb (length rest) 0 ≡ false → length front < most
    → Err fail ≡ record_at form clock place rest → with_front front (records_from form (most - length front) clock place rest) ≡ total → Answers (Err fail) total
stops form front most clock place rest fail total more small e so_far =
    let k : most - length front ≡ suc (most - (length front + 1)) = omega arith in
    let step : records_from form (most - length front) clock place rest ≡ Err fail =
    ap (λ (n : ℕ). records_from form n clock place rest) k ∙ from_one form (most - (length front + 1)) clock place rest (some_more rest more) ∙ ap (λ (r : Result (Rec × Clock) CaptureFail). r >>= behind_one form (most - (length front + 1)) place rest) (sym e) in
    answers-err fail total (sym so_far ∙ ap (with_front front) step)

-- nothing is left
pub is_done : (form : Form) (front : List Rec) (left : ℕ) (clock : Clock) (place : ℕ) (rest : List ℕ) (total : Result (List Rec) CaptureFail) → eqb (length rest) 0 ≡ true → with_front front (records_from form left clock place rest) ≡ total → Ok front ≡ total
is_done form front left clock place rest total e so_far =
    let step : records_from form left clock place rest ≡ Ok [] = ap (records_from form left clock place) (nil_from_length rest (eqb-true (length rest) 0 e)) ∙ from_end form left clock place in
    sym (ap (with_front front) step ∙ ap (λ (records : List Rec). Ok records) (append-nil front)) ∙ so_far
