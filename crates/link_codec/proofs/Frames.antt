-- A frame has one header and one body.
use Rattle.std.proofs.Common.{◌≡◌, ℕ, ◌+◌, ◌<◌, ◌^◌, List, ◌++◌, length, take, sym, ap, ◌∙◌, append_assoc, arith}
use Rattle.std.specs.Int.{w16, to_be_bytes}
use Rattle.std.proofs.lemmas.List.{take_all, length-append}
use Rattle.nb_base.specs.declared.mac.Mac.{Mac}
use Rattle.link_codec.specs.Ethernet.{IsFrame, eth_bytes}
use Rattle.link_codec.proofs.Fronts.{macs, numbers_2}

parts : (dst src : Mac) (ethertype : ℕ) (body : List ℕ) → eth_bytes dst src ethertype ++ body ≡ dst.0 ++ (src.0 ++ (to_be_bytes w16 ethertype ++ body))
parts dst src ethertype body = append_assoc (dst.0 ++ src.0) (to_be_bytes w16 ethertype) body ∙ append_assoc dst.0 src.0 (to_be_bytes w16 ethertype ++ body)

-- what is taken off the front, one after the other
pub IsFrame-taken : (dst src : Mac) (ethertype : ℕ) (bytes behind_dst behind_src body : List ℕ) → bytes ≡ dst.0 ++ behind_dst → behind_dst ≡ src.0 ++ behind_src → behind_src ≡ to_be_bytes w16 ethertype ++ body → length dst.0 ≡ 6 → length src.0 ≡ 6 → ethertype < 2 ^ 16 → IsFrame bytes dst src ethertype body
IsFrame-taken dst src ethertype bytes behind_dst behind_src body first second third dst_size src_size fits = record {
  spelled = first ∙ ap (λ (xs : List ℕ). dst.0 ++ xs) (second ∙ ap (λ (xs : List ℕ). src.0 ++ xs) third) ∙ sym (parts dst src ethertype body);
  dst_size = dst_size;
  src_size = src_size;
  type_fits = fits;
}

pub IsFrame-one : (bytes : List ℕ) (dst src dst' src' : Mac) (ethertype ethertype' : ℕ) (body body' : List ℕ) → IsFrame bytes dst src ethertype body → IsFrame bytes dst' src' ethertype' body'
    → (dst ≡ dst') × (src ≡ src') × (ethertype ≡ ethertype') × (body ≡ body')
IsFrame-one bytes dst src dst' src' ethertype ethertype' body body' a b =
    let whole = sym (parts dst src ethertype body) ∙ sym a.spelled ∙ b.spelled ∙ parts dst' src' ethertype' body' in
    let first = macs dst dst' _ _ a.dst_size b.dst_size whole in
    let second = macs src src' _ _ a.src_size b.src_size first.1 in
    let third = numbers_2 ethertype ethertype' body body' a.type_fits b.type_fits second.1 in
    (first.0, second.0, third.0, third.1)

pub length-IsFrame : (bytes : List ℕ) (dst src : Mac) (ethertype : ℕ) (body : List ℕ) → IsFrame bytes dst src ethertype body → length bytes ≡ 14 + length body
length-IsFrame bytes dst src ethertype body h =
    omega (arith, ap length (h.spelled ∙ parts dst src ethertype body), length-append dst.0 (src.0 ++ (to_be_bytes w16 ethertype ++ body)), length-append src.0 (to_be_bytes w16 ethertype ++ body), h.dst_size, h.src_size)

-- three parts that fill the header
pub header_of : (old one two three dst src kind : List ℕ) → take 6 one ≡ take 0 old ++ dst → take 12 two ≡ take 6 one ++ src → take 14 three ≡ take 12 two ++ kind → length three ≡ 14 → three ≡ dst ++ src ++ kind
header_of old one two three dst src kind first second third size =
    sym (take_all 14 three (omega arith)) ∙ third ∙ ap (λ (xs : List ℕ). xs ++ kind) (second ∙ ap (λ (xs : List ℕ). xs ++ src) first)
