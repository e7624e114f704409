-- The ARP packet with which bytes begin, by its fields.
use Rattle.std.proofs.Common.{◌≡◌, ℕ, ◌≤◌, not, Bool, true, false, if◌then◌else◌, ltb, List, ◌++◌, length, take, drop, bytes_eq, Some, None, refl, sym, ap, ◌∙◌, arith}
use Rattle.std.proofs.lemmas.Bool.{ltb-false, le-ltb, not-true, and_parts, and_from}
use Rattle.std.proofs.lemmas.Slice.Eq.{bytes_eq-Decides}
use Rattle.link_codec.specs.declared.arp.Arp.{Arp}
use Rattle.link_codec.specs.Arp.{BeginsWithArp, arp_kind}
use Rattle.link_codec.proofs.Packets.{BeginsWithArp-taken, BeginsWithArp-one, length-BeginsWithArp, kind_of}
use Rattle.heard_frames.specs.Fields.{arp_fields, has_arp, arp_of}
use Rattle.heard_frames.proofs.Parts.{IsBytes, cut_at, size_at, spelled_2, spelled_4, fits_2, fits_4}

behind_kind : (body : List ℕ) → IsBytes body → 28 ≤ length body → BeginsWithArp (arp_kind ++ drop 6 body) (arp_fields body)
behind_kind body h long =
    BeginsWithArp-taken (arp_fields body) (drop 6 body) (drop 8 body) (drop 14 body) (drop 18 body) (drop 24 body) (drop 28 body)
    (spelled_2 6 body h (omega (arith, long))) (cut_at 8 6 body) (spelled_4 14 body h (omega (arith, long))) (cut_at 18 6 body) (spelled_4 24 body h (omega (arith, long)))
    (fits_2 6 body h) (size_at 8 6 body (omega (arith, long))) (fits_4 14 body h) (size_at 18 6 body (omega (arith, long))) (fits_4 24 body h)

pub arp_found : (body : List ℕ) → IsBytes body → has_arp body ≡ true → BeginsWithArp body (arp_fields body)
arp_found body h has =
    let parts = and_parts (not (ltb (length body) 28)) (bytes_eq (take 6 body) arp_kind) has in
    let long : 28 ≤ length body = ltb-false (length body) 28 (not-true (ltb (length body) 28) parts.0) in
    let kind : take 6 body ≡ arp_kind = (bytes_eq-Decides (take 6 body) arp_kind).0 parts.1 in
    let begins = behind_kind body h long in
    record {
      padding = begins.padding;
      spelled = cut_at 0 6 body ∙ ap (λ (xs : List ℕ). xs ++ drop 6 body) kind ∙ begins.spelled;
      op_fits = begins.op_fits;
      sha_size = begins.sha_size;
      spa_fits = begins.spa_fits;
      tha_size = begins.tha_size;
      tpa_fits = begins.tpa_fits;
    }

arp_has : (body : List ℕ) (packet : Arp) → BeginsWithArp body packet → has_arp body ≡ true
arp_has body packet begins =
    let long = length-BeginsWithArp body packet begins in
    let kind = kind_of body (take 6 body) (drop 6 body) packet (cut_at 0 6 body) (size_at 0 6 body (omega (arith, long))) begins in
    and_from (not (ltb (length body) 28)) (bytes_eq (take 6 body) arp_kind) (ap not (le-ltb (length body) 28 long)) ((bytes_eq-Decides (take 6 body) arp_kind).1 kind)

found_by : (b : Bool) (body : List ℕ) → b ≡ true → (if b then Some (arp_fields body) else None) ≡ Some (arp_fields body)
found_by true body e = refl
found_by false body e = absurd cc

pub arp_of-some : (body : List ℕ) (packet : Arp) → IsBytes body → BeginsWithArp body packet → arp_of body ≡ Some packet
unfolding arp_of
arp_of-some body packet h begins =
    let has = arp_has body packet begins in
    found_by (has_arp body) body has ∙ ap (λ (x : Arp). Some x) (BeginsWithArp-one body (arp_fields body) packet (arp_found body h has) begins)

none_by : (b : Bool) (body : List ℕ) → (b ≡ true → ⊥) → (if b then Some (arp_fields body) else None) ≡ None
none_by true body none = absurd (none refl)
none_by false body none = refl

pub arp_of-none : (body : List ℕ) → IsBytes body → ((packet : Arp) → BeginsWithArp body packet → ⊥) → arp_of body ≡ None
unfolding arp_of
arp_of-none body h none = none_by (has_arp body) body (λ has. none (arp_fields body) (arp_found body h has))

begins_by : (b : Bool) (body : List ℕ) (packet : Arp) → has_arp body ≡ b → IsBytes body → (if b then Some (arp_fields body) else None) ≡ Some packet → BeginsWithArp body packet
begins_by true body packet has h e =
    let same : arp_fields body ≡ packet = cc in
    rw (sym same) (arp_found body h has)
begins_by false body packet has h e = absurd cc

pub arp_of-begins : (body : List ℕ) (packet : Arp) → IsBytes body → arp_of body ≡ Some packet → BeginsWithArp body packet
unfolding arp_of
arp_of-begins body packet h e = begins_by (has_arp body) body packet refl h e
