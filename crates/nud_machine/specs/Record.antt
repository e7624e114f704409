-- What is published of an entry: the Ethernet header of packets to it, usable where it is connected (Linux, hh_cache; RFC 894 and RFC 2464 for the header; a header of zeros that isn't usable is this project's own).
use Rattle.std.specs.Prelude.{ℕ, Bool, true, false, not, ◌&&◌, bytes_eq, if◌then◌else◌, List, [], ◌∷◌, ◌++◌, replicate, Option, Some, None}
use Rattle.nb_base.specs.declared.mac.Mac.{Mac}
use Rattle.nb_base.specs.declared.key.Key.{Key}
use Rattle.nb_base.specs.declared.key.Key.TheVariants.{V4, V6}
use Rattle.nb_base.specs.declared.host.Host.{Host}
use Rattle.nb_base.specs.declared.record.Record.{Record}
use Rattle.nb_base.specs.Nud.{is_connected}
use Rattle.nud_machine.specs.declared.entry.Entry.{Entry}

-- the Ethernet type of the key's family
abbrev pub ether_type : Key → List ℕ
ether_type (V4 n) = 0x08 ∷ 0x00 ∷ []
ether_type (V6 n) = 0x86 ∷ 0xdd ∷ []

-- destination, source, type
abbrev pub header_to : Mac → Host → Key → List ℕ
header_to mac host key = mac.0 ++ host.mac.0 ++ ether_type key

-- packets don't go out by it
abbrev pub unusable : Record
unusable = record { usable = false; header = replicate 14 0 }

-- packets go out by it, where there is an address
abbrev pub usable_to : Option Mac → Host → Key → Record
usable_to None host key = unusable
usable_to (Some mac) host key = record { usable = true; header = header_to mac host key }

-- usable exactly where the entry is present and connected, with the header of its address
abbrev pub record_of : Entry → Host → Key → Record
record_of e host key = if e.present && is_connected e.nud then usable_to e.mac host key else unusable

-- two records are of one use and have the same bytes
abbrev pub same_record : Record → Record → Bool
same_record a b = (if a.usable then b.usable else not b.usable) && bytes_eq a.header b.header
