-- A text of groups spells one IPv6 address.
use Rattle.std.proofs.Common.{◌≡◌, ℕ, List, [], ◌∷◌, length, Option, Some, None, refl, sym, ap, ◌∙◌, arith, append-nil, ne_eqb}
use Rattle.std.specs.Option.{option_map}
use Rattle.std.specs.Int.{w128, from_be_bytes}
use Rattle.std.specs.declared.net.ipv6_addr.Ipv6Addr.{Ipv6Addr}
use Rattle.std.specs.Net.Addr.{ipv6_bits, octets_of}
use Rattle.std.specs.Net.Grammar.{IsIpv6Text, IsColonHex}
use Rattle.std.specs.Net.Reader.{read_ipv6, whole_value}
use Rattle.std.proofs.NetLemmas.Ipv6.{read_ipv6_complete, read_ipv6_sound, EndsGroups-nil}
use Rattle.std.proofs.NetLemmas.Theorems.{IsIpv6Text_unique}
use Rattle.nb_base.specs.Ip6.{HasGroups, groups_value}

pub HasGroups-found : (text : List ℕ) (a : Ipv6Addr) (n : ℕ) → IsIpv6Text text a → n ≡ ipv6_bits a → HasGroups text n
unfolding ipv6_bits
HasGroups-found text a n h e = record { segments = a.segments; groups = h; value = e }

pub HasGroups-only : (text : List ℕ) (a : Ipv6Addr) (n m : ℕ) → IsIpv6Text text a → n ≡ ipv6_bits a → HasGroups text m → n ≡ m
unfolding ipv6_bits
HasGroups-only text a n m h e other =
    let b : Ipv6Addr = record { segments = other.segments } in
    let same = IsIpv6Text_unique text a b h other.groups in
    e ∙ ap (λ (x : Ipv6Addr). from_be_bytes w128 (octets_of x.segments)) same ∙ sym other.value

pub HasGroups-none : (text : List ℕ) (m : ℕ) → ((a : Ipv6Addr) → IsIpv6Text text a → ⊥) → HasGroups text m → ⊥
HasGroups-none text m none other = none (record { segments = other.segments }) other.groups

-- what std's reader finds in such a text
pub groups_value-found : (text : List ℕ) (a : Ipv6Addr) (n : ℕ) → IsIpv6Text text a → n ≡ ipv6_bits a → Some n ≡ groups_value text
unfolding ipv6_bits
groups_value-found text a n h e =
    let read : read_ipv6 text ≡ Some (a.segments, []) = ap read_ipv6 (sym (append-nil text)) ∙ read_ipv6_complete text a.segments [] h EndsGroups-nil in
    rw read (ap (λ (m : ℕ). Some m) e)

-- and in any other
pub groups_value-none : (text : List ℕ) → ((a : Ipv6Addr) → IsIpv6Text text a → ⊥) → None ≡ groups_value text
groups_value-none text none = by_read (read_ipv6 text) refl where
  by_read : (r : Option (List ℕ × List ℕ)) → read_ipv6 text ≡ r → None ≡ option_map (λ segments. from_be_bytes w128 (octets_of segments)) (whole_value r)
  by_read None e = refl
  by_read (Some (segments, [])) e =
      let (front, split, groups) = read_ipv6_sound text segments [] e in
      let whole : IsColonHex text segments = rw (split ∙ append-nil front) groups in
      absurd (none (record { segments = segments }) whole)
  by_read (Some (segments, b ∷ rest)) e = rw (ne_eqb (length (b ∷ rest)) 0 (omega arith)) refl
