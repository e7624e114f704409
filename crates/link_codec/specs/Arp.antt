-- ARP packets of Ethernet and IPv4 (RFC 826).
use Rattle.std.specs.Prelude.{◌≡◌, ℕ, ◌<◌, ◌^◌, List, [], ◌∷◌, ◌++◌, length}
use Rattle.std.specs.Int.{w16, w32, to_be_bytes}
use Rattle.link_codec.specs.declared.arp.Arp.{Arp}

-- hardware type 1, Ethernet; protocol type 0x0800, IPv4; the lengths of their addresses, 6 and 4
abbrev pub arp_kind : List ℕ
arp_kind = to_be_bytes w16 1 ++ to_be_bytes w16 0x0800 ++ 6 ∷ 4 ∷ []

-- the kind, the opcode, and the sender's and then the target's hardware and protocol address, numbers with their most significant byte first
abbrev pub arp_bytes : Arp → List ℕ
arp_bytes arp = arp_kind ++ to_be_bytes w16 arp.op ++ arp.sha.0 ++ to_be_bytes w32 arp.spa ++ arp.tha.0 ++ to_be_bytes w32 arp.tpa

-- the bytes begin with the packet, whose fields have their sizes, and padding follows it
pub record BeginsWithArp (bytes : List ℕ) (arp : Arp) : Type 0 where
  pub padding : List ℕ
  pub spelled : bytes ≡ arp_bytes arp ++ padding
  pub op_fits : arp.op < 2 ^ 16
  pub sha_size : length arp.sha.0 ≡ 6
  pub spa_fits : arp.spa < 2 ^ 32
  pub tha_size : length arp.tha.0 ≡ 6
  pub tpa_fits : arp.tpa < 2 ^ 32
