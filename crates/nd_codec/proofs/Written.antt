-- A written packet is read again.
use Rattle.std.proofs.Common.{◌≡◌, ◌≢◌, ℕ, ◌+◌, ◌^◌, ◌<◌, ◌∙◌, ◌||◌, ◌&&◌, not, Bool, true, false, cond, eqb, ltb, List, [], ◌∷◌, ◌++◌, length, take, drop, get_or, Option, Some, Ok, refl, sym, ap, arith, length-append}
use Rattle.std.specs.Option.{unwrap_or, is_none}
use Rattle.std.specs.Int.{bit_at}
use Rattle.std.specs.List.{flat_map, AllByRecursion}
use Rattle.std.proofs.lemmas.Bool.{eq-eqb, ne_eqb, le-ltb}
use Rattle.std.proofs.lemmas.List.{take_all}
use Rattle.byteorder.specs.Endian.{big_bytes}
use Rattle.byteorder.specs.Numbers.{big_number-reads_back}
use Rattle.nb_base.specs.declared.mac.Mac.{Mac}
use Rattle.nd_codec.specs.declared.message.Nd.TheVariants as nd
use Rattle.nd_codec.specs.Checksum.{checksum_of, cleared}
use Rattle.nd_codec.specs.Packet.{payload_length_of, source_of, destination_of, message_of, type_of, code_of, checksum_in, target_of, router_of, solicited_of, override_of, option_bytes_of, is_group, is_solicited_node}
use Rattle.nd_codec.specs.Options.{NdOption, IsOption, option_bytes, options_in, options_of, has_kind, link_address_of}
use Rattle.nd_codec.specs.Checks.{is_discovery, has_short_message, is_short, is_other, has_other_hop_limit, has_other_code, has_other_checksum, has_group_target, has_other_options, is_wrongly_unspecified, is_wrongly_solicited}
use Rattle.nd_codec.specs.Message.{solicit_of, advert_of, nd_of, read_of}
use Rattle.nd_codec.specs.Spelling.{header_bytes, message_bytes, payload_for, packet_bytes, link_option, flags_of}
use Rattle.nd_codec.proofs.FirstFailed.{passes}
use Rattle.nd_codec.proofs.Grammar.{options-only}

-- ---- the fields of a written packet

-- the options are what they say, and the message's length goes into its 16 bits
pub record FitInMessage (os : List NdOption) : Type 0 where
  pub few : payload_for os < 256 ^ 2
  pub each : AllByRecursion IsOption os

source-back : (s d kind flags t : ℕ) (os : List NdOption) → s < 256 ^ 16 → source_of (packet_bytes s d kind flags t os) ≡ s
unfolding source_of header_bytes
source-back s d kind flags t os lt =
    big_number-reads_back 16 s (big_bytes 16 d ++ message_bytes kind (checksum_of s d (message_bytes kind 0 flags t os)) flags t os) lt

destination-back : (s d kind flags t : ℕ) (os : List NdOption) → d < 256 ^ 16 → destination_of (packet_bytes s d kind flags t os) ≡ d
unfolding destination_of header_bytes
destination-back s d kind flags t os lt =
    big_number-reads_back 16 d (message_bytes kind (checksum_of s d (message_bytes kind 0 flags t os)) flags t os) lt

length-message : (kind c flags t : ℕ) (os : List NdOption) → length (message_bytes kind c flags t os) ≡ payload_for os
unfolding message_bytes
length-message kind c flags t os = omega arith

payload_length-back : (s d kind flags t : ℕ) (os : List NdOption) → payload_for os < 256 ^ 2 → payload_length_of (packet_bytes s d kind flags t os) ≡ payload_for os
unfolding payload_length_of header_bytes
payload_length-back s d kind flags t os lt =
    big_number-reads_back 2 (payload_for os) (58 ∷ 255 ∷ big_bytes 16 s ++ (big_bytes 16 d ++ message_bytes kind (checksum_of s d (message_bytes kind 0 flags t os)) flags t os)) lt

behind_header : (s d n : ℕ) (m : List ℕ) → drop 40 (header_bytes s d n ++ m) ≡ m
unfolding header_bytes
behind_header s d n m = refl

message-back : (s d kind flags t : ℕ) (os : List NdOption) → payload_for os < 256 ^ 2
    → message_of (packet_bytes s d kind flags t os) ≡ message_bytes kind (checksum_of s d (message_bytes kind 0 flags t os)) flags t os
unfolding message_of
message-back s d kind flags t os few =
    let c = checksum_of s d (message_bytes kind 0 flags t os) in
    let m = message_bytes kind c flags t os in
    ap (λ n. take n (drop 40 (packet_bytes s d kind flags t os))) (payload_length-back s d kind flags t os few)
    ∙ ap (take (payload_for os)) (behind_header s d (payload_for os) m)
    ∙ take_all (payload_for os) m (omega (arith, length-message kind c flags t os))

checksum-back : (kind c flags t : ℕ) (os : List NdOption) → c < 256 ^ 2 → checksum_in (message_bytes kind c flags t os) ≡ c
unfolding checksum_in message_bytes
checksum-back kind c flags t os lt = big_number-reads_back 2 c (flags ∷ 0 ∷ 0 ∷ 0 ∷ big_bytes 16 t ++ flat_map option_bytes os) lt

cleared-back : (kind c flags t : ℕ) (os : List NdOption) → cleared (message_bytes kind c flags t os) ≡ message_bytes kind 0 flags t os
unfolding message_bytes
cleared-back kind c flags t os = refl

-- the checksum goes into its two bytes
pub checksum_put : (kind c flags t : ℕ) (os : List NdOption) → take 2 (message_bytes kind 0 flags t os) ++ (big_bytes 2 c ++ drop 4 (message_bytes kind 0 flags t os)) ≡ message_bytes kind c flags t os
unfolding message_bytes
checksum_put kind c flags t os = refl

checksum-small : (s d : ℕ) (m : List ℕ) → checksum_of s d m < 256 ^ 2
unfolding checksum_of
checksum-small s d m = omega arith

target-back : (kind c flags t : ℕ) (os : List NdOption) → t < 256 ^ 16 → target_of (message_bytes kind c flags t os) ≡ t
unfolding target_of message_bytes
target-back kind c flags t os lt = big_number-reads_back 16 t (flat_map option_bytes os) lt

kind-back : (kind c flags t : ℕ) (os : List NdOption) → type_of (message_bytes kind c flags t os) ≡ kind
unfolding message_bytes
kind-back kind c flags t os = refl

code-back : (kind c flags t : ℕ) (os : List NdOption) → code_of (message_bytes kind c flags t os) ≡ 0
unfolding message_bytes
code-back kind c flags t os = refl

flags-back : (kind c flags t : ℕ) (os : List NdOption) → get_or (message_bytes kind c flags t os) 4 0 ≡ flags
unfolding message_bytes
flags-back kind c flags t os = refl

option_bytes-back : (kind c flags t : ℕ) (os : List NdOption) → option_bytes_of (message_bytes kind c flags t os) ≡ flat_map option_bytes os
unfolding message_bytes
option_bytes-back kind c flags t os = refl

-- a packet with one option, whose header and message are there and whose checksum was put in
pub packet_written : (s d kind flags t option : ℕ) (mac : Mac) (sum : ℕ) (header m new : List ℕ) → length mac.0 ≡ 6 → header ≡ header_bytes s d 32 → m ≡ message_bytes kind 0 flags t (link_option option mac) → sum ≡ checksum_of s d m
    → new ≡ take 2 m ++ (big_bytes 2 sum ++ drop 4 m) → header ++ new ≡ packet_bytes s d kind flags t (link_option option mac)
packet_written s d kind flags t option mac sum header m new six h e c n =
    let os = link_option option mac in
    let size : 32 ≡ payload_for os = omega (arith, length-append mac.0 [], six) in
    let sum_is : sum ≡ checksum_of s d (message_bytes kind 0 flags t os) = c ∙ ap (checksum_of s d) e in
    let put : new ≡ message_bytes kind sum flags t os = n ∙ ap (λ (x : List ℕ). take 2 x ++ (big_bytes 2 sum ++ drop 4 x)) e ∙ checksum_put kind sum flags t os in
    ap (λ (x : List ℕ). x ++ new) (h ∙ ap (header_bytes s d) size) ∙ ap (λ (x : List ℕ). header_bytes s d (payload_for os) ++ x) (put ∙ ap (λ (k : ℕ). message_bytes kind k flags t os) sum_is)

-- the one option of a link address
pub link_fits : (kind : ℕ) (mac : Mac) → length mac.0 ≡ 6 → FitInMessage (link_option kind mac)
link_fits kind mac six = record { few = omega (arith, length-append mac.0 [], six); each = (omega (arith, six), tt) }

-- what a reader meets in the packet
pub record IsWritten (p : List ℕ) (s d kind flags t : ℕ) (os : List NdOption) : Type 0 where
  source : source_of p ≡ s
  destination : destination_of p ≡ d
  kind_is : type_of (message_of p) ≡ kind
  code_is : code_of (message_of p) ≡ 0
  flags_are : get_or (message_of p) 4 0 ≡ flags
  target : target_of (message_of p) ≡ t
  options : options_in (option_bytes_of (message_of p)) ≡ Some os
  sum : checksum_in (message_of p) ≡ checksum_of (source_of p) (destination_of p) (cleared (message_of p))

written : (s d kind flags t : ℕ) (os : List NdOption) → s < 256 ^ 16 → d < 256 ^ 16 → t < 256 ^ 16 → FitInMessage os
    → IsWritten (packet_bytes s d kind flags t os) s d kind flags t os
written s d kind flags t os fit_s fit_d fit_t fit =
    let p = packet_bytes s d kind flags t os in
    let blank = message_bytes kind 0 flags t os in
    let c = checksum_of s d blank in
    let m = message-back s d kind flags t os fit.few in
    let from = source-back s d kind flags t os fit_s in
    let to = destination-back s d kind flags t os fit_d in
    record {
      source = from;
      destination = to;
      kind_is = ap type_of m ∙ kind-back kind c flags t os;
      code_is = ap code_of m ∙ code-back kind c flags t os;
      flags_are = ap (λ (v : List ℕ). get_or v 4 0) m ∙ flags-back kind c flags t os;
      target = ap target_of m ∙ target-back kind c flags t os fit_t;
      options = ap (λ v. options_in (option_bytes_of v)) m ∙ ap options_in (option_bytes-back kind c flags t os) ∙ options-only (flat_map option_bytes os) os (record { joined = refl; each = fit.each });
      sum = ap checksum_in m ∙ checksum-back kind c flags t os (checksum-small s d blank)
          ∙ sym (ap (λ v. checksum_of v (destination_of p) (cleared (message_of p))) from
          ∙ ap (λ v. checksum_of s v (cleared (message_of p))) to
          ∙ ap (λ v. checksum_of s d (cleared v)) m
          ∙ ap (checksum_of s d) (cleared-back kind c flags t os));
    }

-- ---- the checks

length-packet : (s d kind flags t : ℕ) (os : List NdOption) → length (packet_bytes s d kind flags t os) ≡ 40 + payload_for os
unfolding header_bytes
length-packet s d kind flags t os =
    let len = length-message kind (checksum_of s d (message_bytes kind 0 flags t os)) flags t os in
    omega (arith, len)

no_short : (a b c z e : Bool) → a ≡ false → b ≡ false → c ≡ false → (a || false || (b || z && c && e)) ≡ false
no_short true b c z e p q r = absurd cc
no_short false true c z e p q r = absurd cc
no_short false false true z e p q r = absurd cc
no_short false false false true e p q r = refl
no_short false false false false e p q r = refl

short-no : (s d kind flags t : ℕ) (os : List NdOption) → payload_for os < 256 ^ 2 → is_short (packet_bytes s d kind flags t os) ≡ false
unfolding is_short has_short_message header_bytes
short-no s d kind flags t os few =
    let p = packet_bytes s d kind flags t os in
    let len = length-packet s d kind flags t os in
    let payload = payload_length-back s d kind flags t os few in
    no_short (ltb (length p) 40) (ltb (length p) (40 + payload_length_of p)) (ltb (payload_length_of p) 24) (ltb 0 (payload_length_of p)) (is_discovery (message_of p))
    (le-ltb (length p) 40 (omega arith)) (le-ltb (length p) (40 + payload_length_of p) (omega arith)) (le-ltb (payload_length_of p) 24 (omega arith))

no_other : (a b : Bool) → a ≡ false → b ≡ true → (a || not b) ≡ false
no_other true b p q = absurd cc
no_other false true p q = refl
no_other false false p q = absurd cc

other-no : (s d kind flags t : ℕ) (os : List NdOption) → payload_for os < 256 ^ 2 → type_of (message_of (packet_bytes s d kind flags t os)) ≡ kind → (eqb kind 135 || eqb kind 136) ≡ true → is_other (packet_bytes s d kind flags t os) ≡ false
unfolding is_other header_bytes
other-no s d kind flags t os few k e =
    let p = packet_bytes s d kind flags t os in
    let payload = payload_length-back s d kind flags t os few in
    no_other (eqb (payload_length_of p) 0) (is_discovery (message_of p)) (ne_eqb (payload_length_of p) 0 (λ zero. omega arith)) (ap (λ x. eqb x 135 || eqb x 136) k ∙ e)

hop-no : (s d kind flags t : ℕ) (os : List NdOption) → has_other_hop_limit (packet_bytes s d kind flags t os) ≡ false
unfolding has_other_hop_limit header_bytes
hop-no s d kind flags t os = refl

code-no : (p : List ℕ) → code_of (message_of p) ≡ 0 → has_other_code p ≡ false
unfolding has_other_code
code-no p e = ap (λ x. not (eqb x 0)) e

checksum-no : (p : List ℕ) → checksum_in (message_of p) ≡ checksum_of (source_of p) (destination_of p) (cleared (message_of p)) → has_other_checksum p ≡ false
unfolding has_other_checksum
checksum-no p e = ap not (eq-eqb (checksum_in (message_of p)) (checksum_of (source_of p) (destination_of p) (cleared (message_of p))) e)

target-no : (p : List ℕ) (t : ℕ) → target_of (message_of p) ≡ t → is_group t ≡ false → has_group_target p ≡ false
unfolding has_group_target
target-no p t e h = ap is_group e ∙ h

options-no : (p : List ℕ) (os : List NdOption) → options_in (option_bytes_of (message_of p)) ≡ Some os → has_other_options p ≡ false
unfolding has_other_options
options-no p os e = ap is_none e

first_no : (a b c : Bool) → a ≡ false → (a && b && c) ≡ false
first_no true b c e = absurd cc
first_no false b c e = refl

second_no : (a b c : Bool) → b ≡ false → (a && b && c) ≡ false
second_no true true c e = absurd cc
second_no true false c e = refl
second_no false b c e = refl

later_no : (a b c : Bool) → (c && b) ≡ false → (a && b && c) ≡ false
later_no true true true e = absurd cc
later_no true true false e = refl
later_no true false c e = refl
later_no false b c e = refl

unspecified-no_kind : (p : List ℕ) → type_of (message_of p) ≡ 136 → is_wrongly_unspecified p ≡ false
unfolding is_wrongly_unspecified
unspecified-no_kind p e =
    first_no (eqb (type_of (message_of p)) 135) (eqb (source_of p) 0) (not (is_solicited_node (destination_of p)) || has_kind 1 (options_of (option_bytes_of (message_of p)))) (ap (λ x. eqb x 135) e)

unspecified-no_source : (p : List ℕ) (s : ℕ) → source_of p ≡ s → s ≢ 0 → is_wrongly_unspecified p ≡ false
unfolding is_wrongly_unspecified
unspecified-no_source p s e h =
    second_no (eqb (type_of (message_of p)) 135) (eqb (source_of p) 0) (not (is_solicited_node (destination_of p)) || has_kind 1 (options_of (option_bytes_of (message_of p)))) (ap (λ x. eqb x 0) e ∙ ne_eqb s 0 h)

solicited-no_kind : (p : List ℕ) → type_of (message_of p) ≡ 135 → is_wrongly_solicited p ≡ false
unfolding is_wrongly_solicited
solicited-no_kind p e = first_no (eqb (type_of (message_of p)) 136) (is_group (destination_of p)) (solicited_of (message_of p)) (ap (λ x. eqb x 136) e)

solicited-no : (p : List ℕ) (d : ℕ) (solicited : Bool) → destination_of p ≡ d → solicited_of (message_of p) ≡ solicited → (solicited && is_group d) ≡ false → is_wrongly_solicited p ≡ false
unfolding is_wrongly_solicited
solicited-no p d solicited to flag h =
    later_no (eqb (type_of (message_of p)) 136) (is_group (destination_of p)) (solicited_of (message_of p))
    (ap (λ x. x && is_group (destination_of p)) flag ∙ ap (λ x. solicited && is_group x) to ∙ h)

-- ---- the flags

router-bit : (solicited overrides : Bool) → eqb (bit_at (flags_of solicited overrides) 7) 1 ≡ false
router-bit true true = refl
router-bit true false = refl
router-bit false true = refl
router-bit false false = refl

solicited-bit : (solicited overrides : Bool) → eqb (bit_at (flags_of solicited overrides) 6) 1 ≡ solicited
solicited-bit true true = refl
solicited-bit true false = refl
solicited-bit false true = refl
solicited-bit false false = refl

override-bit : (solicited overrides : Bool) → eqb (bit_at (flags_of solicited overrides) 5) 1 ≡ overrides
override-bit true true = refl
override-bit true false = refl
override-bit false true = refl
override-bit false false = refl

-- ---- the message

solicit-meant : (p : List ℕ) (s d flags t : ℕ) (os : List NdOption) → IsWritten p s d 135 flags t os → nd_of p ≡ nd.Solicit s d t (link_address_of 1 os)
unfolding nd_of solicit_of
solicit-meant p s d flags t os w =
    ap (λ k. cond (eqb k 135) (solicit_of p) (advert_of p)) w.kind_is
    ∙ ap (λ x. nd.Solicit x (destination_of p) (target_of (message_of p)) (link_address_of 1 (options_of (option_bytes_of (message_of p))))) w.source
    ∙ ap (λ x. nd.Solicit s x (target_of (message_of p)) (link_address_of 1 (options_of (option_bytes_of (message_of p))))) w.destination
    ∙ ap (λ x. nd.Solicit s d x (link_address_of 1 (options_of (option_bytes_of (message_of p))))) w.target
    ∙ ap (λ (x : Option (List NdOption)). nd.Solicit s d t (link_address_of 1 (unwrap_or x []))) w.options

advert-meant : (p : List ℕ) (s d t : ℕ) (solicited overrides : Bool) (os : List NdOption) → IsWritten p s d 136 (flags_of solicited overrides) t os
    → nd_of p ≡ nd.Advert s d t false solicited overrides (link_address_of 2 os)
unfolding nd_of advert_of
advert-meant p s d t solicited overrides os w =
    let link = link_address_of 2 (options_of (option_bytes_of (message_of p))) in
    ap (λ k. cond (eqb k 135) (solicit_of p) (advert_of p)) w.kind_is
    ∙ ap (λ x. nd.Advert x (destination_of p) (target_of (message_of p)) (router_of (message_of p)) (solicited_of (message_of p)) (override_of (message_of p)) link) w.source
    ∙ ap (λ x. nd.Advert s x (target_of (message_of p)) (router_of (message_of p)) (solicited_of (message_of p)) (override_of (message_of p)) link) w.destination
    ∙ ap (λ x. nd.Advert s d x (router_of (message_of p)) (solicited_of (message_of p)) (override_of (message_of p)) link) w.target
    ∙ ap (λ f. nd.Advert s d t (eqb (bit_at f 7) 1) (eqb (bit_at f 6) 1) (eqb (bit_at f 5) 1) link) w.flags_are
    ∙ ap (λ x. nd.Advert s d t x (eqb (bit_at (flags_of solicited overrides) 6) 1) (eqb (bit_at (flags_of solicited overrides) 5) 1) link) (router-bit solicited overrides)
    ∙ ap (λ x. nd.Advert s d t false x (eqb (bit_at (flags_of solicited overrides) 5) 1) link) (solicited-bit solicited overrides)
    ∙ ap (λ x. nd.Advert s d t false solicited x link) (override-bit solicited overrides)
    ∙ ap (λ (x : Option (List NdOption)). nd.Advert s d t false solicited overrides (link_address_of 2 (unwrap_or x []))) w.options

-- ---- read again

-- a written packet passes all checks but those of its own type
pub passes_written : (s d kind flags t : ℕ) (os : List NdOption) → IsWritten (packet_bytes s d kind flags t os) s d kind flags t os → FitInMessage os → (eqb kind 135 || eqb kind 136) ≡ true → is_group t ≡ false
    → is_wrongly_unspecified (packet_bytes s d kind flags t os) ≡ false → is_wrongly_solicited (packet_bytes s d kind flags t os) ≡ false
    → read_of (packet_bytes s d kind flags t os) ≡ Ok (nd_of (packet_bytes s d kind flags t os))
passes_written s d kind flags t os w fit one apart unspecified solicited =
    let p = packet_bytes s d kind flags t os in
    sym (passes p (short-no s d kind flags t os fit.few) (other-no s d kind flags t os fit.few w.kind_is one) (hop-no s d kind flags t os)
    (code-no p w.code_is) (checksum-no p w.sum) (target-no p t w.target apart) (options-no p os w.options) unspecified solicited)

-- a solicitation from an address, with any options
pub solicit-again : (s d t : ℕ) (os : List NdOption) → s < 256 ^ 16 → d < 256 ^ 16 → t < 256 ^ 16 → FitInMessage os → s ≢ 0 → is_group t ≡ false
    → read_of (packet_bytes s d 135 0 t os) ≡ Ok (nd.Solicit s d t (link_address_of 1 os))
solicit-again s d t os fit_s fit_d fit_t fit some apart =
    let p = packet_bytes s d 135 0 t os in
    let w = written s d 135 0 t os fit_s fit_d fit_t fit in
    passes_written s d 135 0 t os w fit refl apart (unspecified-no_source p s w.source some) (solicited-no_kind p w.kind_is)
    ∙ ap Ok (solicit-meant p s d 0 t os w)

-- an advertisement, with any options
pub advert-again : (s d t : ℕ) (solicited overrides : Bool) (os : List NdOption) → s < 256 ^ 16 → d < 256 ^ 16 → t < 256 ^ 16 → FitInMessage os → is_group t ≡ false → (solicited && is_group d) ≡ false
    → read_of (packet_bytes s d 136 (flags_of solicited overrides) t os) ≡ Ok (nd.Advert s d t false solicited overrides (link_address_of 2 os))
advert-again s d t solicited overrides os fit_s fit_d fit_t fit apart alone =
    let flags = flags_of solicited overrides in
    let p = packet_bytes s d 136 flags t os in
    let w = written s d 136 flags t os fit_s fit_d fit_t fit in
    passes_written s d 136 flags t os w fit refl apart (unspecified-no_kind p w.kind_is) (solicited-no p d solicited w.destination (ap (λ f. eqb (bit_at f 6) 1) w.flags_are ∙ solicited-bit solicited overrides) alone)
    ∙ ap Ok (advert-meant p s d t solicited overrides os w)
