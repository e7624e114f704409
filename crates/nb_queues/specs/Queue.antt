-- A queue of packets that wait for an address (RFC 4861 section 7.2.2; Linux, arp_queue of a neighbour and its unres_qlen_bytes; the numbers are this project's own).
use Rattle.std.specs.Prelude.{ℕ, ◌+◌, Bool, nat_le, List, [], ◌∷◌}
use Rattle.std.specs.List.{list_all}
use Rattle.nb_base.specs.declared.time.OpId.{OpId}

-- a packet that waits: its number and its size
abbrev pub Packet : Type 0
Packet = OpId × ℕ

-- the sizes of these packets together
abbrev pub total_size : List Packet → ℕ
total_size [] = 0
total_size (packet ∷ packets) = packet.1 + total_size packets

-- the size of the largest payload, 1,500 bytes, and 256 more
abbrev pub largest : ℕ
largest = 1_756

-- no packet is larger than that
abbrev pub are_small : List Packet → Bool
are_small packets = list_all (λ packet. nat_le packet.1 largest) packets
