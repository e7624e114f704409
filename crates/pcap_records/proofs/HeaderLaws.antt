-- A header is read as what it is.
use Rattle.std.proofs.Common.{◌≡◌, ◌≢◌, ◌<◌, ◌≤◌, ℕ, ◌%◌, Bool, true, false, cond, not, ◌&&◌, eqb, List, length, get_or, Option, Some, None, Result, Ok, Err, refl, sym, ap, subst, ◌∙◌, arith, inl, inr}
use Rattle.std.proofs.lemmas.Bool.{cases_lt, le-ltb, lt-ltb, eqb-true, eqb-false}
use Rattle.pcap_records.specs.declared.fail.CaptureFail.{CaptureFail}
use Rattle.pcap_records.specs.declared.fail.CaptureFail.TheVariants.{ShortHeader, BadMagic, BadVersion, BadLink, ShortRecord, HugeRecord, TooMany, SpanTooLong, Memory}
use Rattle.pcap_records.specs.declared.form.Order.{Order}
use Rattle.pcap_records.specs.declared.form.Order.TheVariants.{Big, Little}
use Rattle.pcap_records.specs.declared.form.Fraction.TheVariants.{Microseconds, Nanoseconds}
use Rattle.pcap_records.specs.declared.form.Fraction.{Fraction}
use Rattle.pcap_records.specs.declared.form.Form.{Form}
use Rattle.pcap_records.specs.Form.{field, magic, HasMagic, HasVersion, HasLink}
use Rattle.pcap_records.specs.Capture.{HasForm}
use Rattle.pcap_records.specs.Reading.{◌>>=◌, unit_of, little_form, big_form, form_of, form_or_fail, checked, header_of}

abbrev pub IsBytes : List ℕ → Type 0
IsBytes bytes = (i : ℕ) → get_or bytes i 0 < 256

-- ---- magic numbers

abbrev UnitIs : ℕ → Option Fraction → Type 0
UnitIs n (Some unit) = n ≡ magic unit
UnitIs n None = (unit : Fraction) → n ≡ magic unit → ⊥

unit_by : (n : ℕ) (a b : Bool) → eqb n 0xa1b2c3d4 ≡ a → eqb n 0xa1b23c4d ≡ b → UnitIs n (cond a (Some Microseconds) (cond b (Some Nanoseconds) None))
unit_by n true b p q = eqb-true n 0xa1b2c3d4 p
unit_by n false true p q = eqb-true n 0xa1b23c4d q
unit_by n false false p q = neither
  where
    neither : (unit : Fraction) → n ≡ magic unit → ⊥
    neither Microseconds e = eqb-false n 0xa1b2c3d4 p e
    neither Nanoseconds e = eqb-false n 0xa1b23c4d q e

unit_is : (n : ℕ) → UnitIs n (unit_of n)
unit_is n = unit_by n (eqb n 0xa1b2c3d4) (eqb n 0xa1b23c4d) refl refl

unit_of-magic : (unit : Fraction) → unit_of (magic unit) ≡ Some unit
unit_of-magic Microseconds = refl
unit_of-magic Nanoseconds = refl

unit_none : (n : ℕ) (r : Option Fraction) → UnitIs n r → ((unit : Fraction) → n ≡ magic unit → ⊥) → r ≡ None
unit_none n (Some unit) h never = absurd (never unit h)
unit_none n None h never = refl

abbrev pub FormIs : List ℕ → Option Form → Type 0
FormIs bytes (Some form) = HasMagic form bytes
FormIs bytes None = (form : Form) → HasMagic form bytes → ⊥

neither_order : (bytes : List ℕ) → UnitIs (field Big 4 0 bytes) None → UnitIs (field Little 4 0 bytes) None → (order : Order) (unit : Fraction) → field order 4 0 bytes ≡ magic unit → ⊥
neither_order bytes big little Big unit e = big unit e
neither_order bytes big little Little unit e = little unit e

form_by : (bytes : List ℕ) (big little : Option Fraction) → UnitIs (field Big 4 0 bytes) big → UnitIs (field Little 4 0 bytes) little → FormIs bytes (big_form big (little_form little))
form_by bytes (Some unit) little p q = p
form_by bytes None (Some unit) p q = q
form_by bytes None None p q = λ form e. neither_order bytes p q form.order form.unit e

pub form_is : (bytes : List ℕ) → FormIs bytes (form_of bytes)
unfolding form_of
form_is bytes = form_by bytes (unit_of (field Big 4 0 bytes)) (unit_of (field Little 4 0 bytes)) (unit_is (field Big 4 0 bytes)) (unit_is (field Little 4 0 bytes))

-- the first byte of a magic number that is laid with its highest byte first
high_first : (bytes : List ℕ) (unit : Fraction) → IsBytes bytes → field Big 4 0 bytes ≡ magic unit → get_or bytes 0 0 ≡ 161
unfolding field
high_first bytes Microseconds fits e = omega (arith, fits 0, fits 1, fits 2, fits 3, e)
high_first bytes Nanoseconds fits e = omega (arith, fits 0, fits 1, fits 2, fits 3, e)

-- and of one that is laid with its lowest byte first
low_first : (bytes : List ℕ) (unit : Fraction) → IsBytes bytes → field Little 4 0 bytes ≡ magic unit → get_or bytes 0 0 ≢ 161
unfolding field
low_first bytes Microseconds fits e first = absurd (omega (arith, fits 0, fits 1, fits 2, fits 3, e, first))
low_first bytes Nanoseconds fits e first = absurd (omega (arith, fits 0, fits 1, fits 2, fits 3, e, first))

form_again_by : (bytes : List ℕ) (order : Order) (unit : Fraction) → IsBytes bytes → field order 4 0 bytes ≡ magic unit → form_of bytes ≡ Some (record { order = order; unit = unit })
unfolding form_of
form_again_by bytes Big unit fits e =
    ap (λ (u : Option Fraction). big_form u (little_form (unit_of (field Little 4 0 bytes)))) (ap unit_of e ∙ unit_of-magic unit)
form_again_by bytes Little unit fits e =
    let no_big : unit_of (field Big 4 0 bytes) ≡ None = unit_none (field Big 4 0 bytes) (unit_of (field Big 4 0 bytes)) (unit_is (field Big 4 0 bytes)) (λ other h. low_first bytes unit fits e (high_first bytes other fits h)) in
    ap (λ (u : Option Fraction). big_form u (little_form (unit_of (field Little 4 0 bytes)))) no_big ∙ ap (λ (u : Option Fraction). little_form u) (ap unit_of e ∙ unit_of-magic unit)

-- a magic number has one form
pub form_again : (bytes : List ℕ) (form : Form) → IsBytes bytes → HasMagic form bytes → form_of bytes ≡ Some form
form_again bytes form fits e = form_again_by bytes form.order form.unit fits e

none_again : (bytes : List ℕ) (r : Option Form) → FormIs bytes r → ((form : Form) → HasMagic form bytes → ⊥) → r ≡ None
none_again bytes (Some form) h never = absurd (never form h)
none_again bytes None h never = refl

-- ---- version and link type

abbrev CheckedIs : Form → List ℕ → Result Form CaptureFail → Type 0
CheckedIs form bytes (Ok f) = (f ≡ form) × HasVersion form bytes × HasLink form bytes
CheckedIs form bytes (Err (BadVersion major minor)) = (major ≡ field form.order 2 4 bytes) × (minor ≡ field form.order 2 6 bytes) × (HasVersion form bytes → ⊥)
CheckedIs form bytes (Err (BadLink link)) = HasVersion form bytes × (link ≡ field form.order 4 20 bytes) × (HasLink form bytes → ⊥)
CheckedIs form bytes (Err _) = ⊥

checked_by : (form : Form) (bytes : List ℕ) (x y z : Bool) → eqb (field form.order 2 4 bytes) 2 ≡ x → eqb (field form.order 2 6 bytes) 4 ≡ y → eqb (field form.order 4 20 bytes % 65536) 1 ≡ z
    → CheckedIs form bytes (cond (not (x && y)) (Err (BadVersion (field form.order 2 4 bytes) (field form.order 2 6 bytes))) (cond (not z) (Err (BadLink (field form.order 4 20 bytes))) (Ok form)))
checked_by form bytes true true true p q r = (refl, (eqb-true (field form.order 2 4 bytes) 2 p, eqb-true (field form.order 2 6 bytes) 4 q), eqb-true (field form.order 4 20 bytes % 65536) 1 r)
checked_by form bytes true true false p q r = ((eqb-true (field form.order 2 4 bytes) 2 p, eqb-true (field form.order 2 6 bytes) 4 q), refl, eqb-false (field form.order 4 20 bytes % 65536) 1 r)
checked_by form bytes true false z p q r = (refl, refl, λ h. eqb-false (field form.order 2 6 bytes) 4 q h.1)
checked_by form bytes false y z p q r = (refl, refl, λ h. eqb-false (field form.order 2 4 bytes) 2 p h.0)

checked_is : (form : Form) (bytes : List ℕ) → CheckedIs form bytes (checked form bytes)
unfolding checked
checked_is form bytes = checked_by form bytes (eqb (field form.order 2 4 bytes) 2) (eqb (field form.order 2 6 bytes) 4) (eqb (field form.order 4 20 bytes % 65536) 1) refl refl refl

-- ---- the whole header

-- a header with this form, version and link type
pub record HasHeader (bytes : List ℕ) (form : Form) : Type 0 where
  pub has_form : HasForm bytes form
  pub version : HasVersion form bytes
  pub link : HasLink form bytes

abbrev pub HeadFails : List ℕ → CaptureFail → Type 0
HeadFails bytes ShortHeader = length bytes < 24
HeadFails bytes (BadMagic number) = (24 ≤ length bytes) × ((form : Form) → HasMagic form bytes → ⊥) × (number ≡ field Big 4 0 bytes)
HeadFails bytes (BadVersion major minor) = (form : Form) × HasForm bytes form × (major ≡ field form.order 2 4 bytes) × (minor ≡ field form.order 2 6 bytes) × (HasVersion form bytes → ⊥)
HeadFails bytes (BadLink link) = (form : Form) × HasForm bytes form × HasVersion form bytes × (link ≡ field form.order 4 20 bytes) × (HasLink form bytes → ⊥)
HeadFails bytes _ = ⊥

abbrev pub HeaderIs : List ℕ → Result Form CaptureFail → Type 0
HeaderIs bytes (Ok form) = HasHeader bytes form
HeaderIs bytes (Err fail) = HeadFails bytes fail

head_short : (bytes : List ℕ) → length bytes < 24 → header_of bytes ≡ Err ShortHeader
unfolding header_of
head_short bytes short = rw (lt-ltb (length bytes) 24 short) refl

head_long : (bytes : List ℕ) → 24 ≤ length bytes → header_of bytes ≡ (form_or_fail (field Big 4 0 bytes) (form_of bytes) >>= λ form. checked form bytes)
unfolding header_of
head_long bytes long = rw (le-ltb (length bytes) 24 long) refl

header_by_check : (bytes : List ℕ) (form : Form) → HasForm bytes form → (r : Result Form CaptureFail) → CheckedIs form bytes r → HeaderIs bytes r
header_by_check bytes form has (Ok f) h = subst (HasHeader bytes) (sym h.0) (record { has_form = has; version = h.1; link = h.2 })
header_by_check bytes form has (Err (BadVersion major minor)) h = (form, has, h.0, h.1, h.2)
header_by_check bytes form has (Err (BadLink link)) h = (form, has, h.0, h.1, h.2)
header_by_check bytes form has (Err ShortHeader) h = absurd h
header_by_check bytes form has (Err (BadMagic number)) h = absurd h
header_by_check bytes form has (Err (ShortRecord place)) h = absurd h
header_by_check bytes form has (Err (HugeRecord place len)) h = absurd h
header_by_check bytes form has (Err (TooMany place)) h = absurd h
header_by_check bytes form has (Err (SpanTooLong place)) h = absurd h
header_by_check bytes form has (Err Memory) h = absurd h

header_by_form : (bytes : List ℕ) → 24 ≤ length bytes → (r : Option Form) → FormIs bytes r → HeaderIs bytes (form_or_fail (field Big 4 0 bytes) r >>= λ form. checked form bytes)
header_by_form bytes long None h = (long, h, refl)
header_by_form bytes long (Some form) h = header_by_check bytes form (record { size = long; magic_number = h }) (checked form bytes) (checked_is form bytes)

pub header_is : (bytes : List ℕ) → HeaderIs bytes (header_of bytes)
header_is bytes =
    elim (cases_lt (length bytes) 24) [
      | inl short ↦ subst (HeaderIs bytes) (sym (head_short bytes short)) short
      | inr long ↦ subst (HeaderIs bytes) (sym (head_long bytes long)) (header_by_form bytes long (form_of bytes) (form_is bytes))
    ]

-- a file whose form is known goes on to the further checks
head_known : (bytes : List ℕ) (form : Form) → IsBytes bytes → HasForm bytes form → header_of bytes ≡ checked form bytes
head_known bytes form fits has =
    head_long bytes has.size ∙ ap (λ (r : Option Form). form_or_fail (field Big 4 0 bytes) r >>= λ f. checked f bytes) (form_again bytes form fits has.magic_number)

passes : (form : Form) (bytes : List ℕ) (r : Result Form CaptureFail) → CheckedIs form bytes r → HasVersion form bytes → HasLink form bytes → r ≡ Ok form
passes form bytes (Ok f) h version link = ap (λ (x : Form). Ok x) h.0
passes form bytes (Err (BadVersion major minor)) h version link = absurd (h.2 version)
passes form bytes (Err (BadLink n)) h version link = absurd (h.2 link)
passes form bytes (Err ShortHeader) h version link = absurd h
passes form bytes (Err (BadMagic number)) h version link = absurd h
passes form bytes (Err (ShortRecord place)) h version link = absurd h
passes form bytes (Err (HugeRecord place len)) h version link = absurd h
passes form bytes (Err (TooMany place)) h version link = absurd h
passes form bytes (Err (SpanTooLong place)) h version link = absurd h
passes form bytes (Err Memory) h version link = absurd h

-- what a failed check comes to, if the checks before it passed
fails_version : (form : Form) (bytes : List ℕ) (r : Result Form CaptureFail) → CheckedIs form bytes r → (HasVersion form bytes → ⊥) → r ≡ Err (BadVersion (field form.order 2 4 bytes) (field form.order 2 6 bytes))
fails_version form bytes (Ok f) h never = absurd (never h.1)
fails_version form bytes (Err (BadVersion major minor)) h never = rw (h.0, h.1) refl
fails_version form bytes (Err (BadLink n)) h never = absurd (never h.0)
fails_version form bytes (Err ShortHeader) h never = absurd h
fails_version form bytes (Err (BadMagic number)) h never = absurd h
fails_version form bytes (Err (ShortRecord place)) h never = absurd h
fails_version form bytes (Err (HugeRecord place len)) h never = absurd h
fails_version form bytes (Err (TooMany place)) h never = absurd h
fails_version form bytes (Err (SpanTooLong place)) h never = absurd h
fails_version form bytes (Err Memory) h never = absurd h

fails_link : (form : Form) (bytes : List ℕ) (r : Result Form CaptureFail) → CheckedIs form bytes r → HasVersion form bytes → (HasLink form bytes → ⊥) → r ≡ Err (BadLink (field form.order 4 20 bytes))
fails_link form bytes (Ok f) h version never = absurd (never h.2)
fails_link form bytes (Err (BadVersion major minor)) h version never = absurd (h.2 version)
fails_link form bytes (Err (BadLink n)) h version never = rw h.1 refl
fails_link form bytes (Err ShortHeader) h version never = absurd h
fails_link form bytes (Err (BadMagic number)) h version never = absurd h
fails_link form bytes (Err (ShortRecord place)) h version never = absurd h
fails_link form bytes (Err (HugeRecord place len)) h version never = absurd h
fails_link form bytes (Err (TooMany place)) h version never = absurd h
fails_link form bytes (Err (SpanTooLong place)) h version never = absurd h
fails_link form bytes (Err Memory) h version never = absurd h

pub header_again : (bytes : List ℕ) (form : Form) → IsBytes bytes → HasHeader bytes form → header_of bytes ≡ Ok form
header_again bytes form fits h = head_known bytes form fits h.has_form ∙ passes form bytes (checked form bytes) (checked_is form bytes) h.version h.link

pub head_fails_again : (bytes : List ℕ) (fail : CaptureFail) → IsBytes bytes → HeadFails bytes fail → header_of bytes ≡ Err fail
head_fails_again bytes ShortHeader fits h = head_short bytes h
head_fails_again bytes (BadMagic number) fits h =
    head_long bytes h.0 ∙ ap (λ (r : Option Form). form_or_fail (field Big 4 0 bytes) r >>= λ f. checked f bytes) (none_again bytes (form_of bytes) (form_is bytes) h.1) ∙ ap (λ (n : ℕ). Err (BadMagic n)) (sym h.2)
head_fails_again bytes (BadVersion major minor) fits h =
    head_known bytes h.0 fits h.1 ∙ fails_version h.0 bytes (checked h.0 bytes) (checked_is h.0 bytes) h.4 ∙ rw (h.2, h.3) refl
head_fails_again bytes (BadLink link) fits h =
    head_known bytes h.0 fits h.1 ∙ fails_link h.0 bytes (checked h.0 bytes) (checked_is h.0 bytes) h.2 h.4 ∙ ap (λ (n : ℕ). Err (BadLink n)) (sym h.3)
head_fails_again bytes (ShortRecord place) fits h = absurd h
head_fails_again bytes (HugeRecord place len) fits h = absurd h
head_fails_again bytes (TooMany place) fits h = absurd h
head_fails_again bytes (SpanTooLong place) fits h = absurd h
head_fails_again bytes Memory fits h = absurd h
