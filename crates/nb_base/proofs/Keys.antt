-- A text spells one key.
use Rattle.std.proofs.Common.{◌≡◌, ℕ, ◌<◌, ◌||◌, true, false, Bool, eqb, List, [], ◌∷◌, ◌++◌, length, Option, Some, None, refl, sym, ap, ◌∙◌, arith}
use Rattle.std.specs.Int.{w32, to_be_bytes}
use Rattle.std.specs.List.{list_any, join_with_byte}
use Rattle.std.proofs.lemmas.List.{length-map}
use Rattle.nb_base.specs.declared.key.Key.{Key}
use Rattle.nb_base.specs.declared.key.Key.TheVariants.{V4, V6}
use Rattle.nb_base.specs.Parts.{IsJoined, octet_of}
use Rattle.nb_base.specs.Address.{IsIp4Text, IsKeyText}
use Rattle.nb_base.specs.Ip6.{IsIp6Text}

or_true : (b : Bool) → (b || true) ≡ true
or_true true = refl
or_true false = refl

any_at : (xs ys : List ℕ) → list_any (λ b. eqb b 46) (xs ++ 46 ∷ ys) ≡ true
any_at [] ys = refl
any_at (x ∷ xs) ys = rw (any_at xs ys) (or_true (eqb x 46))

any_joined : (parts : List (List ℕ)) → 1 < length parts → list_any (λ b. eqb b 46) (join_with_byte 46 parts) ≡ true
any_joined [] more = absurd (omega arith)
any_joined (part ∷ []) more = absurd (omega arith)
any_joined (part ∷ next ∷ parts) more = any_at part (join_with_byte 46 (next ∷ parts))

-- a text of octets has a `.`
dotted : (text : List ℕ) (n : ℕ) → IsIp4Text text n → list_any (λ b. eqb b 46) text ≡ true
dotted text n h =
    let joined : IsJoined octet_of 46 text (to_be_bytes w32 n) = h.0 in
    let four : length joined.parts ≡ 4 = sym (length-map joined.parts octet_of) ∙ ap length joined.each in
    ap (list_any (λ b. eqb b 46)) joined.joined ∙ any_joined joined.parts (omega arith)

pub key4-only : (text : List ℕ) (n : ℕ) (key : Key) → IsIp4Text text n → ((m : ℕ) → IsIp4Text text m → ◌≡◌ {A = Option ℕ} (Some n) (Some m)) → IsKeyText text key → ◌≡◌ {A = Option Key} (Some (V4 n)) (Some key)
key4-only text n (V4 m) found only h = (let e = only m h in cc)
key4-only text n (V6 m) found only h = absurd (let dot = dotted text n found in let none = h.no_tail in cc)

pub key6-only : (text : List ℕ) (n : ℕ) (key : Key) → ((m : ℕ) → IsIp4Text text m → ◌≡◌ {A = Option ℕ} None (Some m)) → ((m : ℕ) → IsIp6Text text m → ◌≡◌ {A = Option ℕ} (Some n) (Some m)) → IsKeyText text key → ◌≡◌ {A = Option Key} (Some (V6 n)) (Some key)
key6-only text n (V4 m) none only h = absurd (let e = none m h in cc)
key6-only text n (V6 m) none only h = (let e = only m h in cc)

pub key-none : (text : List ℕ) (key : Key) → ((m : ℕ) → IsIp4Text text m → ◌≡◌ {A = Option ℕ} None (Some m)) → ((m : ℕ) → IsIp6Text text m → ◌≡◌ {A = Option ℕ} None (Some m)) → IsKeyText text key → ◌≡◌ {A = Option Key} None (Some key)
key-none text (V4 m) no4 no6 h = absurd (let e = no4 m h in cc)
key-none text (V6 m) no4 no6 h = absurd (let e = no6 m h in cc)
