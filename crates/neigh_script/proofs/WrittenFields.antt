-- Written fields are read again.
use Rattle.std.proofs.Common.{◌≡◌, ℕ, zero, suc, get_or, ◌<◌, ◌≤◌, ◌^◌, ◌&&◌, not, eqb, ltb, true, Bool, cond, List, [], ◌∷◌, length, Option, Some, None, refl, sym, ap, ◌∙◌, arith}
use Rattle.std.specs.Prelude.{decimal, Ok, Err}
use Rattle.std.specs.Option.{option_map}
use Rattle.std.specs.Int.{w32, from_be_bytes, IsInRange}
use Rattle.std.specs.declared.net.ipv6_addr.Ipv6Addr.{Ipv6Addr}
use Rattle.std.specs.Net.Addr.{ipv6_bits}
use Rattle.std.proofs.lemmas.Bool.{le-leb, ltb-true, and_parts}
use Rattle.std.proofs.lemmas.Slice.Eq.{bytes_eq-Decides}
use Rattle.nb_base.specs.declared.mac.Mac.{Mac}
use Rattle.nb_base.specs.declared.key.Key.{Key}
use Rattle.nb_base.specs.declared.key.Key.TheVariants.{V4, V6}
use Rattle.nb_base.specs.declared.host.Host.{Host}
use Rattle.nb_base.specs.declared.nud.Nud.{Nud}
use Rattle.nb_base.specs.declared.nud.Nud.TheVariants as nud
use Rattle.nb_base.specs.Parts.{octet_of, parts_spelled}
use Rattle.nb_base.specs.Ip6.{IsIp6Text}
use Rattle.nb_base.specs.Name.{is_name}
use Rattle.nb_base.specs.Address.{IsIp4Text, mac_text, ip4_of, ip4_text, key_of, key_text, is_neighbour, is_ip4_neighbour, is_ip6_neighbour}
use Rattle.nb_base.proofs.HexBytes.{mac_of-only, mac_text-again}
use Rattle.nb_base.proofs.Octets.{ip4_found, ip4_of-only, ip4_text-again}
use Rattle.nb_base.proofs.Groups.{groups_value-found}
use Rattle.nb_base.proofs.Keys.{key4-only}
use Rattle.nb_base.proofs.Written.{hex_groups_text-again}
use Rattle.text_codes.specs.HexText.{hex_text, AreBytes}
use Rattle.text_codes.proofs.Numerals.{numbers_again}
use Rattle.text_codes.proofs.HexPairs.{bytes_again}
use Rattle.neigh_script.specs.declared.why.ScriptWhy.{ScriptWhy}
use Rattle.neigh_script.specs.declared.why.ScriptWhy.TheVariants as why
use Rattle.neigh_script.specs.declared.parameter.Parameter.{Parameter}
use Rattle.neigh_script.specs.declared.parameter.Parameter.TheVariants as parameter
use Rattle.neigh_script.specs.Parameter.{parameter_of, parameter_name, least, greatest}
use Rattle.neigh_script.specs.Fields as fields
use Rattle.neigh_script.specs.Fields.{own_ip4, own_ip6}
use Rattle.neigh_script.specs.Written.{state_word, moment_word}
use Rattle.neigh_script.specs.Limits.{IsLink, is_given_state}

-- a number in its range
pub number-again : (lo hi n : ℕ) (w : ScriptWhy) → lo ≤ n → n ≤ hi → n < 10 ^ 10 → fields.number_within lo hi w (decimal n) ≡ Ok n
number-again lo hi n w low high small = rw (numbers_again n small, le-leb lo n low, le-leb n hi high) refl

pub moment-again : (before : Option ℕ) (at : ℕ) → fields.earliest before ≤ at → at ≤ 2_592_000_000 → fields.moment before (moment_word at) ≡ Ok at
moment-again before at low high = number-again (fields.earliest before) 2_592_000_000 at _ low high (omega arith)

pub name-again : (dev : List ℕ) → is_name dev ≡ true → fields.device_name dev ≡ Ok dev
name-again dev e = rw e refl

pub link-again : (mac : Mac) → IsLink mac → fields.link (mac_text mac) ≡ Ok mac
link-again mac h =
    let small = each_small mac.0 h.1 in
    rw (mac_of-only (mac_text mac) mac (mac_text-again (mac_text mac) mac refl h.0 small)) refl
  where
    each_small : (bytes : List ℕ) → AreBytes bytes → (i : ℕ) → get_or bytes i 0 < 256
    each_small [] h i = omega arith
    each_small (b ∷ bytes) h zero = h.0
    each_small (b ∷ bytes) h (suc i) = each_small bytes h.1 i

-- a key whose number has the bits of its family
abbrev pub IsKey : Key → Type 0
IsKey (V4 n) = n < 2 ^ 32
IsKey (V6 n) = n < 2 ^ 128

ip4_of-none : (text : List ℕ) → ((m : ℕ) → IsIp4Text text m → ⊥) → ip4_of text ≡ None
ip4_of-none text none = by_parts (parts_spelled octet_of 4 46 text) refl where
  by_parts : (r : Option (List ℕ)) → parts_spelled octet_of 4 46 text ≡ r → option_map (from_be_bytes w32) r ≡ None
  by_parts None e = refl
  by_parts (Some values) e = absurd (none (from_be_bytes w32 values) (ip4_found text values (from_be_bytes w32 values) (sym e) refl))

pub key-again : (key : Key) → IsKey key → key_of (key_text key) ≡ Some key
unfolding ipv6_bits
key-again (V4 n) fits = rw (ip4_of-only (ip4_text n) n (ip4_text-again (ip4_text n) n refl fits)) refl
key-again (V6 n) fits = six (key_text (V6 n)) n (hex_groups_text-again (key_text (V6 n)) n refl fits)
  where
    apart : (m k : ℕ) → ◌≡◌ {A = Option Key} (Some (V4 m)) (Some (V6 k)) → ⊥
    apart m k e = absurd cc

    six : (text : List ℕ) (n : ℕ) → IsIp6Text text n → key_of text ≡ Some (V6 n)
    six text n h =
        let a : Ipv6Addr = record { segments = h.spelled.segments } in
        let value = groups_value-found text a n h.spelled.groups h.spelled.value in
        let no4 = ip4_of-none text (λ m g. apart m n (key4-only text m (V6 n) g (λ k gk. sym (ip4_of-only text m g) ∙ ip4_of-only text k gk) h)) in
        rw (no4, h.no_tail, sym value) refl

pub own_ip4-again : (n : ℕ) → n < 2 ^ 32 → fields.own_ip4 (ip4_text n) ≡ Ok n
unfolding own_ip4
own_ip4-again n fits = rw (key-again (V4 n) fits) refl

pub own_ip6-again : (n : ℕ) → n < 2 ^ 128 → fields.own_ip6 (key_text (V6 n)) ≡ Ok n
unfolding own_ip6
own_ip6-again n fits = rw (key-again (V6 n) fits) refl

-- a neighbour's key has the bits of its family
pub neighbour-fits : (host : Host) (key : Key) → is_neighbour host key ≡ true → IsKey key
neighbour-fits host (V4 n) e = four host.ip4 e where
  four : (own : Option ℕ) → is_ip4_neighbour own n ≡ true → n < 2 ^ 32
  four None e = absurd cc
  four (Some own) e = (let lt : n < 0xe0000000 = ltb-true n 0xe0000000 (and_parts (not (eqb n own) && not (eqb n 0)) (ltb n 0xe0000000) e).1 in omega (arith, lt))
neighbour-fits host (V6 n) e = six host.ip6 e where
  six : (own : Option ℕ) → is_ip6_neighbour own n ≡ true → n < 2 ^ 128
  six None e = absurd cc
  six (Some own) e = (let lt : n < 0xff000000000000000000000000000000 = ltb-true n 0xff000000000000000000000000000000 (and_parts (not (eqb n own) && not (eqb n 0)) (ltb n 0xff000000000000000000000000000000) e).1 in omega (arith, lt))

pub neighbour-again : (host : Host) (key : Key) → is_neighbour host key ≡ true → fields.neighbour host (key_text key) ≡ Ok key
neighbour-again host key e = ap (fields.neighbour_in host) (key-again key (neighbour-fits host key e)) ∙ ap (λ (b : Bool). cond b (Ok key) (Err why.BadAddress)) e

pub device-again : (host : Host) → fields.own_device host host.dev ≡ Ok host.dev
device-again host = rw ((bytes_eq-Decides host.dev host.dev).1 refl) refl

pub state-again : (n : Nud) → is_given_state n ≡ true → fields.state (state_word n) ≡ Ok n
state-again nud.Permanent e = refl
state-again nud.Noarp e = refl
state-again nud.Reachable e = refl
state-again nud.Stale e = refl
state-again nud.None e = absurd cc
state-again nud.Incomplete e = absurd cc
state-again nud.Delay e = absurd cc
state-again nud.Probe e = absurd cc
state-again nud.Failed e = absurd cc

pub parameter-again : (p : Parameter) → fields.parameter (parameter_name p) ≡ Ok p
unfolding parameter_of
parameter-again parameter.GcThresh1 = refl
parameter-again parameter.GcThresh2 = refl
parameter-again parameter.GcThresh3 = refl
parameter-again parameter.GcInterval = refl
parameter-again parameter.GcStaleTime = refl
parameter-again parameter.Locktime = refl
parameter-again parameter.RetransTime = refl
parameter-again parameter.BaseReachableTime = refl
parameter-again parameter.DelayFirstProbeTime = refl
parameter-again parameter.McastSolicit = refl
parameter-again parameter.UcastSolicit = refl
parameter-again parameter.ProxyDelay = refl
parameter-again parameter.ProxyQlen = refl
parameter-again parameter.UnresQlenBytes = refl

pub greatest-small : (p : Parameter) → greatest p < 10 ^ 10
greatest-small parameter.GcThresh1 = omega arith
greatest-small parameter.GcThresh2 = omega arith
greatest-small parameter.GcThresh3 = omega arith
greatest-small parameter.GcInterval = omega arith
greatest-small parameter.GcStaleTime = omega arith
greatest-small parameter.Locktime = omega arith
greatest-small parameter.RetransTime = omega arith
greatest-small parameter.BaseReachableTime = omega arith
greatest-small parameter.DelayFirstProbeTime = omega arith
greatest-small parameter.McastSolicit = omega arith
greatest-small parameter.UcastSolicit = omega arith
greatest-small parameter.ProxyDelay = omega arith
greatest-small parameter.ProxyQlen = omega arith
greatest-small parameter.UnresQlenBytes = omega arith

pub value-again : (p : Parameter) (n : ℕ) → IsInRange (least p) (greatest p) n → fields.value_of p (decimal n) ≡ Ok n
value-again p n h = (let most = greatest-small p in number-again (least p) (greatest p) n _ h.0 h.1 (omega (arith, h.1)))

pub payload-again : (bytes : List ℕ) → AreBytes bytes → IsInRange 1 1_500 (length bytes) → fields.payload (hex_text bytes) ≡ Ok bytes
payload-again bytes h size = rw (bytes_again bytes h, le-leb 1 (length bytes) size.0, le-leb (length bytes) 1_500 size.1) refl
