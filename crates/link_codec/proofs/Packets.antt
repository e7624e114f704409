-- Bytes begin with one ARP packet.
use Rattle.std.proofs.Common.{◌≡◌, ℕ, ◌<◌, ◌≤◌, ◌^◌, List, ◌++◌, length, take, refl, sym, ap, ◌∙◌, append_assoc, arith}
use Rattle.std.specs.Int.{w16, w32, to_be_bytes}
use Rattle.std.proofs.lemmas.List.{take_all, length-append}
use Rattle.link_codec.specs.declared.arp.Arp.{Arp}
use Rattle.link_codec.specs.Arp.{BeginsWithArp, arp_bytes, arp_kind}
use Rattle.link_codec.proofs.Fronts.{fronts, macs, numbers_2, numbers_4}

-- the fields of a packet, and what follows
abbrev fields : Arp → List ℕ → List ℕ
fields arp rest = to_be_bytes w16 arp.op ++ (arp.sha.0 ++ (to_be_bytes w32 arp.spa ++ (arp.tha.0 ++ (to_be_bytes w32 arp.tpa ++ rest))))

parts : (arp : Arp) (rest : List ℕ) → arp_bytes arp ++ rest ≡ arp_kind ++ fields arp rest
parts arp rest = simp append_assoc

-- what is taken off the front, one after the other
pub BeginsWithArp-taken : (arp : Arp) (r0 r1 r2 r3 r4 r5 : List ℕ) → r0 ≡ to_be_bytes w16 arp.op ++ r1 → r1 ≡ arp.sha.0 ++ r2 → r2 ≡ to_be_bytes w32 arp.spa ++ r3 → r3 ≡ arp.tha.0 ++ r4 → r4 ≡ to_be_bytes w32 arp.tpa ++ r5
    → arp.op < 2 ^ 16 → length arp.sha.0 ≡ 6 → arp.spa < 2 ^ 32 → length arp.tha.0 ≡ 6 → arp.tpa < 2 ^ 32 → BeginsWithArp (arp_kind ++ r0) arp
BeginsWithArp-taken arp r0 r1 r2 r3 r4 r5 e0 e1 e2 e3 e4 op_fits sha_size spa_fits tha_size tpa_fits = record {
  padding = r5;
  spelled =
      ap (λ (xs : List ℕ). arp_kind ++ xs)
      (e0 ∙ ap (λ (xs : List ℕ). to_be_bytes w16 arp.op ++ xs) (e1 ∙ ap (λ (xs : List ℕ). arp.sha.0 ++ xs) (e2 ∙ ap (λ (xs : List ℕ). to_be_bytes w32 arp.spa ++ xs) (e3 ∙ ap (λ (xs : List ℕ). arp.tha.0 ++ xs) e4))))
      ∙ sym (parts arp r5);
  op_fits = op_fits;
  sha_size = sha_size;
  spa_fits = spa_fits;
  tha_size = tha_size;
  tpa_fits = tpa_fits;
}

arp_is : (a b : Arp) → a.op ≡ b.op → a.sha ≡ b.sha → a.spa ≡ b.spa → a.tha ≡ b.tha → a.tpa ≡ b.tpa → a ≡ b
arp_is a b op sha spa tha tpa = λ i. record { op = op i; sha = sha i; spa = spa i; tha = tha i; tpa = tpa i }

pub BeginsWithArp-one : (bytes : List ℕ) (a b : Arp) → BeginsWithArp bytes a → BeginsWithArp bytes b → a ≡ b
BeginsWithArp-one bytes a b in_a in_b =
    let whole = sym (parts a in_a.padding) ∙ sym in_a.spelled ∙ in_b.spelled ∙ parts b in_b.padding in
    let kind = fronts arp_kind arp_kind (fields a in_a.padding) (fields b in_b.padding) refl whole in
    let op = numbers_2 a.op b.op _ _ in_a.op_fits in_b.op_fits kind.1 in
    let sha = macs a.sha b.sha _ _ in_a.sha_size in_b.sha_size op.1 in
    let spa = numbers_4 a.spa b.spa _ _ in_a.spa_fits in_b.spa_fits sha.1 in
    let tha = macs a.tha b.tha _ _ in_a.tha_size in_b.tha_size spa.1 in
    let tpa = numbers_4 a.tpa b.tpa _ _ in_a.tpa_fits in_b.tpa_fits tha.1 in
    arp_is a b op.0 sha.0 spa.0 tha.0 tpa.0

pub length-BeginsWithArp : (bytes : List ℕ) (arp : Arp) → BeginsWithArp bytes arp → 28 ≤ length bytes
length-BeginsWithArp bytes arp h =
    omega (
      arith,
      ap length (h.spelled ∙ parts arp h.padding),
      length-append arp.sha.0 (to_be_bytes w32 arp.spa ++ (arp.tha.0 ++ (to_be_bytes w32 arp.tpa ++ h.padding))),
      length-append arp.tha.0 (to_be_bytes w32 arp.tpa ++ h.padding),
      h.sha_size,
      h.tha_size,
    )

-- the kind that bytes begin with
pub kind_of : (bytes front rest : List ℕ) (arp : Arp) → bytes ≡ front ++ rest → length front ≡ 6 → BeginsWithArp bytes arp → front ≡ arp_kind
kind_of bytes front rest arp e size h =
    let same = fronts front arp_kind rest (fields arp h.padding) size (sym e ∙ h.spelled ∙ parts arp h.padding) in same.0

-- six parts that fill the packet
pub packet_of : (old i1 i2 i3 i4 i5 i6 kind op sha spa tha tpa : List ℕ) → take 6 i1 ≡ take 0 old ++ kind → take 8 i2 ≡ take 6 i1 ++ op → take 14 i3 ≡ take 8 i2 ++ sha → take 18 i4 ≡ take 14 i3 ++ spa → take 24 i5 ≡ take 18 i4 ++ tha → take 28 i6 ≡ take 24 i5 ++ tpa → length i6 ≡ 28
    → i6 ≡ kind ++ op ++ sha ++ spa ++ tha ++ tpa
packet_of old i1 i2 i3 i4 i5 i6 kind op sha spa tha tpa e1 e2 e3 e4 e5 e6 size =
    sym (take_all 28 i6 (omega arith)) ∙ e6 ∙ ap (λ (xs : List ℕ). xs ++ tpa)
    (e5 ∙ ap (λ (xs : List ℕ). xs ++ tha) (e4 ∙ ap (λ (xs : List ℕ). xs ++ spa) (e3 ∙ ap (λ (xs : List ℕ). xs ++ sha) (e2 ∙ ap (λ (xs : List ℕ). xs ++ op) e1))))
