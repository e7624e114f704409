-- The types of Ethernet frames.
use Rattle.std.specs.Prelude.{ℕ}
use Rattle.nb_base.specs.declared.key.Key.{Key}
use Rattle.nb_base.specs.declared.key.Key.TheVariants.{V4, V6}

-- IPv4 (RFC 894)
abbrev pub ip4_type : ℕ
ip4_type = 0x0800

-- ARP (RFC 826)
abbrev pub arp_type : ℕ
arp_type = 0x0806

-- IPv6 (RFC 2464 section 3)
abbrev pub ip6_type : ℕ
ip6_type = 0x86dd

-- the type of a packet to a key, that of the key's family
abbrev pub type_for : Key → ℕ
type_for (V4 address) = ip4_type
type_for (V6 address) = ip6_type
