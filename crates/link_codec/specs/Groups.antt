-- Link addresses of groups.
use Rattle.std.specs.Prelude.{ℕ, ◌%◌, ◌^◌, ◌∷◌, replicate}
use Rattle.std.specs.Int.{w32, to_be_bytes}
use Rattle.nb_base.specs.declared.mac.Mac.{Mac}

-- the address of all hosts on a link (IEEE 802.3 section 3.2.3)
abbrev pub everyone : Mac
everyone = record { 0 = replicate 6 0xff }

-- the Ethernet address of an IPv6 group: 33:33 and the group's low 32 bits (RFC 2464 section 7)
abbrev pub group_mac : ℕ → Mac
group_mac group = record { 0 = 0x33 ∷ 0x33 ∷ to_be_bytes w32 (group % 2 ^ 32) }
