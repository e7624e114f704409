-- Whether a text is UTF-8, as reading it tells.
use Rattle.std.proofs.Common.{◌≡◌, ℕ, Bool, true, false, List, refl, sym}
use Rattle.std.specs.Prelude.{Result, Ok, Err, MatchResult, IsUtf8, is_ok}
use Rattle.std.specs.Str.{is_utf8}
use Rattle.std.proofs.lemmas.Str.{IsUtf8-from_is_utf8, is_utf8-from_IsUtf8}

not_utf8 : (text : List ℕ) (b : Bool) → is_utf8 text ≡ b → (IsUtf8 text → ⊥) → false ≡ is_utf8 text
not_utf8 text true e h = absurd (h (IsUtf8-from_is_utf8 text e))
not_utf8 text false e h = sym e

pub utf8_when_read : {X E : Type 0} (P : X → Type 0) (Q : E → Type 0) (text : List ℕ) (r : Result X E) → MatchResult r (λ x. P x × IsUtf8 text) (λ e. (IsUtf8 text → ⊥) × Q e) → is_ok r ≡ is_utf8 text
utf8_when_read P Q text (Ok x) h = sym (is_utf8-from_IsUtf8 text h.1)
utf8_when_read P Q text (Err e) h = not_utf8 text (is_utf8 text) refl h.0
