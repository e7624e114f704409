-- The fields of an IPv6 packet (RFC 8200 section 3) and of the neighbour discovery message in it (RFC 4861 sections 4.3 and 4.4).
-- A packet is its bytes, and a field at its place is a function of them. Addresses are numbers, their first byte the most significant.
use Rattle.std.specs.Prelude.{ℕ, ◌+◌, ◌/◌, ◌%◌, ◌^◌, Bool, ◌==◌, List, take, drop, slice_index}
use Rattle.std.specs.Int.{bit_at}
use Rattle.byteorder.specs.Endian.{big_number}

-- the first four bits
abbrev pub version_of : List ℕ → ℕ
version_of packet = slice_index packet 0 / 16

-- how many bytes the header says stand behind it: 16 bits at byte 4
unfoldable pub payload_length_of : List ℕ → ℕ
payload_length_of packet = big_number 2 (drop 4 packet)

abbrev pub next_header_of : List ℕ → ℕ
next_header_of packet = slice_index packet 6

abbrev pub hop_limit_of : List ℕ → ℕ
hop_limit_of packet = slice_index packet 7

unfoldable pub source_of : List ℕ → ℕ
source_of packet = big_number 16 (drop 8 packet)

unfoldable pub destination_of : List ℕ → ℕ
destination_of packet = big_number 16 (drop 24 packet)

-- the payload that the header names; bytes past it are left unread
unfoldable pub message_of : List ℕ → List ℕ
message_of packet = take (payload_length_of packet) (drop 40 packet)

-- ---- in a message

abbrev pub type_of : List ℕ → ℕ
type_of message = slice_index message 0

abbrev pub code_of : List ℕ → ℕ
code_of message = slice_index message 1

unfoldable pub checksum_in : List ℕ → ℕ
checksum_in message = big_number 2 (drop 2 message)

-- R, S and O, the three highest bits of byte 4 of an advertisement (RFC 4861 section 4.4)
abbrev pub router_of : List ℕ → Bool
router_of message = bit_at (slice_index message 4) 7 == 1

abbrev pub solicited_of : List ℕ → Bool
solicited_of message = bit_at (slice_index message 4) 6 == 1

abbrev pub override_of : List ℕ → Bool
override_of message = bit_at (slice_index message 4) 5 == 1

unfoldable pub target_of : List ℕ → ℕ
target_of message = big_number 16 (drop 8 message)

-- the bytes in which the options stand, from byte 24 on
abbrev pub option_bytes_of : List ℕ → List ℕ
option_bytes_of message = drop 24 message

-- ---- addresses

-- a multicast address begins with the byte 0xff (RFC 4291 section 2.7)
abbrev pub is_group : ℕ → Bool
is_group address = address / 2 ^ 120 == 0xff

-- a solicited-node address is in ff02::1:ff00:0/104 (RFC 4291 section 2.7.1)
abbrev pub is_solicited_node : ℕ → Bool
is_solicited_node address = address / 2 ^ 24 == 0xff0200000000000000000001ff

-- the solicited-node address of an address: ff02::1:ff00:0 with its low 24 bits (RFC 4291 section 2.7.1)
abbrev pub solicited_node : ℕ → ℕ
solicited_node address = 0xff0200000000000000000001ff000000 + address % 2 ^ 24
