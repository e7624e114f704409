-- The message that a packet means (RFC 4861 sections 4.3 and 4.4).
use Rattle.std.specs.Prelude.{ℕ, ◌==◌, if◌then◌else◌, List, Option, Some, None, Result, Ok, Err}
use Rattle.nd_codec.specs.declared.message.Nd.{Nd}
use Rattle.nd_codec.specs.declared.message.Nd.TheVariants as nd
use Rattle.nd_codec.specs.declared.message.NdFail.{NdFail}
use Rattle.nd_codec.specs.Packet.{source_of, destination_of, message_of, type_of, target_of, router_of, solicited_of, override_of, option_bytes_of}
use Rattle.nd_codec.specs.Options.{options_of, link_address_of}
use Rattle.nd_codec.specs.Checks.{first_failed}

-- a solicitation may tell its source's link address, in an option of type 1 (RFC 4861 section 4.6.1)
unfoldable pub solicit_of : List ℕ → Nd
solicit_of packet =
    let message = message_of packet in
    nd.Solicit (source_of packet) (destination_of packet) (target_of message) (link_address_of 1 (options_of (option_bytes_of message)))

-- an advertisement may tell its target's link address, in an option of type 2 (RFC 4861 section 4.6.1)
unfoldable pub advert_of : List ℕ → Nd
advert_of packet =
    let message = message_of packet in
    nd.Advert (source_of packet) (destination_of packet) (target_of message)
    (router_of message) (solicited_of message) (override_of message) (link_address_of 2 (options_of (option_bytes_of message)))

-- type 135 is a solicitation, and the other type that passes the checks, 136, an advertisement
unfoldable pub nd_of : List ℕ → Nd
nd_of packet = if type_of (message_of packet) == 135 then solicit_of packet else advert_of packet

-- the message, or the check that failed
abbrev pub read_by : Option NdFail → Nd → Result Nd NdFail
read_by None message = Ok message
read_by (Some why) message = Err why

-- what a reader answers: the first check that fails, or the message
unfoldable pub read_of : List ℕ → Result Nd NdFail
read_of packet = read_by (first_failed packet) (nd_of packet)
