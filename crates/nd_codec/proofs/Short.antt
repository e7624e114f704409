-- What a packet that passes the first checks has.
use Rattle.std.proofs.Common.{◌≡◌, ℕ, ◌+◌, ◌<◌, ◌≤◌, ◌||◌, ◌&&◌, not, Bool, true, false, eqb, ltb, List, length, refl}
use Rattle.std.proofs.lemmas.Bool.{ltb-false, eqb-true, lt-ltb, eq-eqb, not-false}
use Rattle.nd_codec.proofs.Walk.{not_zero}
use Rattle.nd_codec.specs.Packet.{version_of, payload_length_of, next_header_of, message_of}
use Rattle.nd_codec.specs.Checks.{is_discovery, has_short_message, is_short, is_other, IsWhole, HasMessage}

or3_false : (a b c : Bool) → (a || b || c) ≡ false → (a ≡ false) × (b ≡ false) × (c ≡ false)
or3_false true b c e = absurd cc
or3_false false true c e = absurd cc
or3_false false false true e = absurd cc
or3_false false false false e = (refl, refl, refl)

or_false : (a b : Bool) → (a || b) ≡ false → (a ≡ false) × (b ≡ false)
or_false true b e = absurd cc
or_false false true e = absurd cc
or_false false false e = (refl, refl)

and_false : (a b : Bool) → (a && b) ≡ false → a ≡ true → b ≡ false
and_false true b e h = e
and_false false b e h = absurd cc

and3_false : (a b c : Bool) → (a && b && c) ≡ false → a ≡ true → c ≡ true → b ≡ false
and3_false true true true e p q = absurd cc
and3_false true true false e p q = absurd cc
and3_false true false c e p q = refl
and3_false false b c e p q = absurd cc

whole : (p : List ℕ) → has_short_message p ≡ false → 40 + payload_length_of p ≤ length p
unfolding has_short_message
whole p e = ltb-false (length p) (40 + payload_length_of p) (or_false _ _ e).0

long : (p : List ℕ) → has_short_message p ≡ false → 0 < payload_length_of p → is_discovery (message_of p) ≡ true → 24 ≤ payload_length_of p
unfolding has_short_message
long p e some kind = ltb-false (payload_length_of p) 24 (and3_false (ltb 0 (payload_length_of p)) (ltb (payload_length_of p) 24) (is_discovery (message_of p)) (or_false _ _ e).1 (lt-ltb 0 (payload_length_of p) some) kind)

pub not_short : (p : List ℕ) → is_short p ≡ false → IsWhole p
unfolding is_short
not_short p e =
    let parts = or3_false (ltb (length p) 40) (not (eqb (version_of p) 6)) (eqb (next_header_of p) 58 && has_short_message p) e in
    let message = and_false (eqb (next_header_of p) 58) (has_short_message p) parts.2 in
    record {
      header = ltb-false (length p) 40 parts.0;
      message = λ h. whole p (message (eq-eqb _ _ h));
      long = λ h some kind. long p (message (eq-eqb _ _ h)) some kind;
    }

pub not_other : (p : List ℕ) → IsWhole p → is_other p ≡ false → HasMessage p
unfolding is_other
not_other p w e =
    let parts = or3_false (not (eqb (next_header_of p) 58)) (eqb (payload_length_of p) 0) (not (is_discovery (message_of p))) e in
    let icmp = eqb-true (next_header_of p) 58 (not-false _ parts.0) in
    record {
      whole = w.message icmp;
      long = w.long icmp (not_zero (payload_length_of p) parts.1) (not-false _ parts.2);
    }
