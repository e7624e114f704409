-- The one spelling of a solicitation and of an advertisement (RFC 8200 section 3; RFC 4861 sections 4.3, 4.4 and 4.6.1).
use Rattle.std.specs.Prelude.{ℕ, ◌+◌, Bool, if◌then◌else◌, List, [], ◌∷◌, ◌++◌, length}
use Rattle.std.specs.List.{flat_map}
use Rattle.byteorder.specs.Endian.{big_bytes}
use Rattle.nb_base.specs.declared.mac.Mac.{Mac}
use Rattle.nd_codec.specs.Checksum.{checksum_of}
use Rattle.nd_codec.specs.Options.{NdOption, option_bytes}

-- version 6, traffic class 0, flow label 0; payload length; next header 58; hop limit 255; source; destination
unfoldable pub header_bytes : ℕ → ℕ → ℕ → List ℕ
header_bytes source destination payload =
    0x60 ∷ 0 ∷ 0 ∷ 0 ∷ big_bytes 2 payload ++ 58 ∷ 255 ∷ big_bytes 16 source ++ big_bytes 16 destination

-- type; code 0; checksum; a byte of flags and three of zeros; target; options
unfoldable pub message_bytes : ℕ → ℕ → ℕ → ℕ → List NdOption → List ℕ
message_bytes kind checksum flags target options =
    kind ∷ 0 ∷ big_bytes 2 checksum ++ flags ∷ 0 ∷ 0 ∷ 0 ∷ big_bytes 16 target ++ flat_map option_bytes options

-- the 24 bytes before the options, and the options
abbrev pub payload_for : List NdOption → ℕ
payload_for options = 24 + length (flat_map option_bytes options)

-- the checksum is that of the message with the checksum as zero
abbrev pub packet_bytes : ℕ → ℕ → ℕ → ℕ → ℕ → List NdOption → List ℕ
packet_bytes source destination kind flags target options =
    header_bytes source destination (payload_for options)
    ++ message_bytes kind (checksum_of source destination (message_bytes kind 0 flags target options)) flags target options

-- the one option that tells a link address, one unit of 8 bytes (RFC 4861 section 4.6.1, RFC 2464 section 6)
abbrev pub link_option : ℕ → Mac → List NdOption
link_option kind mac = record { kind = kind; units = 1; body = mac.0 } ∷ []

-- type 135, no flags, the source's link address in an option of type 1
unfoldable pub solicit_bytes : ℕ → ℕ → ℕ → Mac → List ℕ
solicit_bytes source destination target mac = packet_bytes source destination 135 0 target (link_option 1 mac)

-- R is clear; S is bit 6 and O is bit 5
abbrev pub flags_of : Bool → Bool → ℕ
flags_of solicited overrides = (if solicited then 0x40 else 0) + (if overrides then 0x20 else 0)

-- type 136, the target's link address in an option of type 2
unfoldable pub advert_bytes : ℕ → ℕ → ℕ → Bool → Bool → Mac → List ℕ
advert_bytes source destination target solicited overrides mac = packet_bytes source destination 136 (flags_of solicited overrides) target (link_option 2 mac)
