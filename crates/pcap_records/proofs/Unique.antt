-- A file has at most one reading.
use Rattle.std.proofs.Common.{◌≡◌, ℕ, List, Result, Ok, Err, sym, ◌∙◌}
use Rattle.pcap_records.specs.declared.capture.Rec.{Rec}
use Rattle.pcap_records.specs.declared.fail.CaptureFail.{CaptureFail}
use Rattle.pcap_records.specs.Capture.{IsCapture, IsRefusal}
use Rattle.pcap_records.proofs.HeaderLaws.{IsBytes}
use Rattle.pcap_records.proofs.Whole.{capture_again, refusal_again}

abbrev read_as : List Rec → Result (List Rec) CaptureFail
read_as records = Ok records

abbrev refused_by : CaptureFail → Result (List Rec) CaptureFail
refused_by fail = Err fail

same_records : (xs ys : List Rec) → read_as xs ≡ read_as ys → xs ≡ ys
same_records xs ys e = cc

same_refusal : (x y : CaptureFail) → refused_by x ≡ refused_by y → x ≡ y
same_refusal x y e = cc

not_both : (xs : List Rec) (fail : CaptureFail) → read_as xs ≡ refused_by fail → ⊥
not_both xs fail e = cc

pub one_capture : (bytes : List ℕ) (xs ys : List Rec) → IsBytes bytes → IsCapture bytes xs → IsCapture bytes ys → xs ≡ ys
one_capture bytes xs ys fits h k = same_records xs ys (sym (capture_again bytes xs fits h) ∙ capture_again bytes ys fits k)

pub one_refusal : (bytes : List ℕ) (x y : CaptureFail) → IsBytes bytes → IsRefusal bytes x → IsRefusal bytes y → x ≡ y
one_refusal bytes x y fits h k = same_refusal x y (sym (refusal_again bytes x fits h) ∙ refusal_again bytes y fits k)

pub capture_or_refusal : (bytes : List ℕ) (xs : List Rec) (fail : CaptureFail) → IsBytes bytes → IsCapture bytes xs → IsRefusal bytes fail → ⊥
capture_or_refusal bytes xs fail fits h k = not_both xs fail (sym (capture_again bytes xs fits h) ∙ refusal_again bytes fail fits k)
