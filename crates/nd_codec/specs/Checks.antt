-- What a solicitation or an advertisement has to be before a node uses it: nine checks in their order, each the test that it fails
-- (RFC 4861 sections 7.1.1 and 7.1.2; the order is this project's own).
use Rattle.std.specs.Prelude.{◌≡◌, ℕ, ◌+◌, ◌<◌, ◌≤◌, Bool, true, not, ◌&&◌, ◌||◌, ◌==◌, nat_lt, is_none, if◌then◌else◌, List, [], ◌∷◌, length, Option, Some, None}
use Rattle.nd_codec.specs.declared.message.NdFail.{NdFail}
use Rattle.nd_codec.specs.declared.message.NdFail.TheVariants as fail
use Rattle.nd_codec.specs.Checksum.{checksum_of, cleared}
use Rattle.nd_codec.specs.Packet.{version_of, payload_length_of, next_header_of, hop_limit_of, source_of, destination_of, message_of, type_of, code_of, checksum_in, solicited_of, target_of, option_bytes_of, is_group, is_solicited_node}
use Rattle.nd_codec.specs.Options.{options_in, options_of, has_kind}

-- a solicitation, 135, or an advertisement, 136
abbrev pub is_discovery : List ℕ → Bool
is_discovery message = type_of message == 135 || type_of message == 136

-- fewer bytes than the payload that the header names, or a message of one of the two types with fewer than its 24 bytes
unfoldable pub has_short_message : List ℕ → Bool
has_short_message packet =
    nat_lt (length packet) (40 + payload_length_of packet)
    || nat_lt 0 (payload_length_of packet) && nat_lt (payload_length_of packet) 24 && is_discovery (message_of packet)

-- fewer bytes than the IPv6 header, another version, or a short ICMPv6 message
unfoldable pub is_short : List ℕ → Bool
is_short packet =
    nat_lt (length packet) 40 || not (version_of packet == 6) || next_header_of packet == 58 && has_short_message packet

-- no ICMPv6 message of one of the two types
unfoldable pub is_other : List ℕ → Bool
is_other packet = not (next_header_of packet == 58) || payload_length_of packet == 0 || not (is_discovery (message_of packet))

-- it may have passed a router
unfoldable pub has_other_hop_limit : List ℕ → Bool
has_other_hop_limit packet = not (hop_limit_of packet == 255)

unfoldable pub has_other_code : List ℕ → Bool
has_other_code packet = not (code_of (message_of packet) == 0)

-- the checksum isn't that of the message with the checksum as zero
unfoldable pub has_other_checksum : List ℕ → Bool
has_other_checksum packet =
    not (checksum_in (message_of packet) == checksum_of (source_of packet) (destination_of packet) (cleared (message_of packet)))

unfoldable pub has_group_target : List ℕ → Bool
has_group_target packet = is_group (target_of (message_of packet))

-- what stands from byte 24 on isn't options: one has length 0 or ends past the message, or a single byte is left
unfoldable pub has_other_options : List ℕ → Bool
has_other_options packet = is_none (options_in (option_bytes_of (message_of packet)))

-- a solicitation from the unspecified address that isn't to a solicited-node address, or that has a source link-layer address option, of whatever length
unfoldable pub is_wrongly_unspecified : List ℕ → Bool
is_wrongly_unspecified packet =
    type_of (message_of packet) == 135 && source_of packet == 0
    && (not (is_solicited_node (destination_of packet)) || has_kind 1 (options_of (option_bytes_of (message_of packet))))

-- an advertisement to a group that says that it was solicited
unfoldable pub is_wrongly_solicited : List ℕ → Bool
is_wrongly_solicited packet =
    type_of (message_of packet) == 136 && is_group (destination_of packet) && solicited_of (message_of packet)

-- the checks in their order, each with the answer where it fails
abbrev pub checks : List ℕ → List (Bool × NdFail)
checks packet =
    (is_short packet, fail.Short)
    ∷ (is_other packet, fail.NotIcmp)
    ∷ (has_other_hop_limit packet, fail.HopLimit)
    ∷ (has_other_code packet, fail.Code)
    ∷ (has_other_checksum packet, fail.Checksum)
    ∷ (has_group_target packet, fail.Target)
    ∷ (has_other_options packet, fail.ZeroOption)
    ∷ (is_wrongly_unspecified packet, fail.Unspecified)
    ∷ (is_wrongly_solicited packet, fail.SolicitedToGroup)
    ∷ []

-- the answer of the first that fails
abbrev pub first_of : List (Bool × NdFail) → Option NdFail
first_of [] = None
first_of (check ∷ more) = if check.0 then Some check.1 else first_of more

unfoldable pub first_failed : List ℕ → Option NdFail
first_failed packet = first_of (checks packet)

-- ---- what the first two checks leave

-- a packet that isn't short has its header, and the message that the header names
pub record IsWhole (packet : List ℕ) : Type 0 where
  pub header : 40 ≤ length packet
  pub message : next_header_of packet ≡ 58 → 40 + payload_length_of packet ≤ length packet
  pub long : next_header_of packet ≡ 58 → 0 < payload_length_of packet → is_discovery (message_of packet) ≡ true → 24 ≤ payload_length_of packet

-- a message of one of the two types is there, with its first 24 bytes
pub record HasMessage (packet : List ℕ) : Type 0 where
  pub whole : 40 + payload_length_of packet ≤ length packet
  pub long : 24 ≤ payload_length_of packet
