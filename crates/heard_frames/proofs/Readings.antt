-- What a frame holds is one thing, and its fields tell it.
use Rattle.std.proofs.Common.{◌≡◌, ◌≢◌, ℕ, ◌<◌, ◌≤◌, not, ◌&&◌, Bool, true, false, if◌then◌else◌, eqb, ltb, List, length, drop, Option, Some, None, Result, Ok, Err, refl, sym, ap, ◌∙◌, arith}
use Rattle.std.proofs.lemmas.Bool.{ltb-true, ltb-false, lt-ltb, le-ltb, eqb-true, eqb-false, ne_eqb, false_from_ne_true}
use Rattle.std.proofs.lemmas.Slice.Eq.{bytes_eq-Decides}
use Rattle.nb_base.specs.declared.mac.Mac.{Mac}
use Rattle.nb_base.specs.Address.{is_group_mac}
use Rattle.link_codec.specs.declared.arp.Arp.{Arp}
use Rattle.link_codec.specs.Ethernet.{IsFrame}
use Rattle.link_codec.specs.EtherTypes.{arp_type, ip6_type}
use Rattle.link_codec.proofs.Frames.{IsFrame-one, length-IsFrame}
use Rattle.nd_codec.specs.declared.message.Nd.{Nd}
use Rattle.nd_codec.specs.declared.message.NdFail.{NdFail}
use Rattle.nd_codec.specs.declared.message.NdFail.TheVariants as fail
use Rattle.nd_codec.specs.Message.{read_of}
use Rattle.heard_frames.specs.declared.content.Content.{Content}
use Rattle.heard_frames.specs.declared.content.Content.TheVariants as content
use Rattle.heard_frames.specs.Content.{is_mac, Reaches, Holds}
use Rattle.heard_frames.specs.Content as holds
use Rattle.heard_frames.specs.Fields.{mac_at, number_2_at, arp_of, arp_content, bad_content, nd_content, body_content, frame_content, content_of}
use Rattle.heard_frames.proofs.Parts.{IsBytes, bytes_drop, frame_of_fields}
use Rattle.heard_frames.proofs.Packets.{arp_of-some, arp_of-none, arp_of-begins}

mac_is : (a b : Mac) → is_mac a b ≡ true → a ≡ b
mac_is a b e = ap (λ (bytes : List ℕ). (let mac : Mac = record { 0 = bytes } in mac)) ((bytes_eq-Decides a.0 b.0).0 e)

mac_same : (a b : Mac) → a ≡ b → is_mac a b ≡ true
mac_same a b e = (bytes_eq-Decides a.0 b.0).1 (ap (λ (mac : Mac). mac.0) e)

mac_differs : (a b : Mac) → a ≢ b → is_mac a b ≡ false
mac_differs a b other = false_from_ne_true (is_mac a b) (λ e. other (mac_is a b e))

mac_other : (a b : Mac) → is_mac a b ≡ false → a ≢ b
mac_other a b e same = let is = mac_same a b same in absurd cc

-- ---- the fields' content is held

arp_holds : (own : Mac) (bytes : List ℕ) (dst src : Mac) (body : List ℕ) (found : Option Arp) → Reaches own bytes dst src arp_type body → IsBytes body → arp_of body ≡ found
    → Holds own bytes (arp_content dst found)
arp_holds own bytes dst src body None reaches h e = holds.bad_arp dst src body reaches (λ packet begins. let some = arp_of-some body packet h begins in absurd cc)
arp_holds own bytes dst src body (Some packet) reaches h e = holds.arp dst src body packet reaches (arp_of-begins body packet h e)

bad_nd_holds : (own : Mac) (bytes : List ℕ) (dst src : Mac) (body : List ℕ) (why : NdFail) → Reaches own bytes dst src ip6_type body → read_of body ≡ Err why
    → Holds own bytes (bad_content why)
bad_nd_holds own bytes dst src body fail.Short reaches e = holds.bad_discovery dst src body fail.Short reaches e (λ p. absurd cc)
bad_nd_holds own bytes dst src body fail.NotIcmp reaches e = holds.other_packet dst src body reaches e
bad_nd_holds own bytes dst src body fail.HopLimit reaches e = holds.bad_discovery dst src body fail.HopLimit reaches e (λ p. absurd cc)
bad_nd_holds own bytes dst src body fail.Code reaches e = holds.bad_discovery dst src body fail.Code reaches e (λ p. absurd cc)
bad_nd_holds own bytes dst src body fail.Checksum reaches e = holds.bad_discovery dst src body fail.Checksum reaches e (λ p. absurd cc)
bad_nd_holds own bytes dst src body fail.Target reaches e = holds.bad_discovery dst src body fail.Target reaches e (λ p. absurd cc)
bad_nd_holds own bytes dst src body fail.ZeroOption reaches e = holds.bad_discovery dst src body fail.ZeroOption reaches e (λ p. absurd cc)
bad_nd_holds own bytes dst src body fail.Unspecified reaches e = holds.bad_discovery dst src body fail.Unspecified reaches e (λ p. absurd cc)
bad_nd_holds own bytes dst src body fail.SolicitedToGroup reaches e = holds.bad_discovery dst src body fail.SolicitedToGroup reaches e (λ p. absurd cc)

nd_holds : (own : Mac) (bytes : List ℕ) (dst src : Mac) (body : List ℕ) (read : Result Nd NdFail) → Reaches own bytes dst src ip6_type body → read_of body ≡ read
    → Holds own bytes (nd_content src read)
nd_holds own bytes dst src body (Ok message) reaches e = holds.discovery dst src body message reaches e
nd_holds own bytes dst src body (Err why) reaches e = bad_nd_holds own bytes dst src body why reaches e

-- a frame of one type is of an equal one
of_type : (own : Mac) (bytes : List ℕ) (dst src : Mac) (ethertype other : ℕ) (body : List ℕ) → ethertype ≡ other → Reaches own bytes dst src ethertype body → Reaches own bytes dst src other body
of_type own bytes dst src ethertype other body e reaches = rw (sym e) reaches

ip6_holds : (own : Mac) (bytes : List ℕ) (dst src : Mac) (ethertype : ℕ) (body : List ℕ) (test : Bool) → Reaches own bytes dst src ethertype body → eqb ethertype ip6_type ≡ test → ethertype ≢ arp_type
    → Holds own bytes (if test then nd_content src (read_of body) else content.Other)
ip6_holds own bytes dst src ethertype body true reaches e other =
    nd_holds own bytes dst src body (read_of body) (of_type own bytes dst src ethertype ip6_type body (eqb-true ethertype ip6_type e) reaches) refl
ip6_holds own bytes dst src ethertype body false reaches e other = holds.other_type dst src ethertype body reaches other (eqb-false ethertype ip6_type e)

body_holds : (own : Mac) (bytes : List ℕ) (dst src : Mac) (ethertype : ℕ) (body : List ℕ) (test : Bool) → Reaches own bytes dst src ethertype body → IsBytes body → eqb ethertype arp_type ≡ test
    → Holds own bytes (if test then arp_content dst (arp_of body) else if eqb ethertype ip6_type then nd_content src (read_of body) else content.Other)
body_holds own bytes dst src ethertype body true reaches h e =
    arp_holds own bytes dst src body (arp_of body) (of_type own bytes dst src ethertype arp_type body (eqb-true ethertype arp_type e) reaches) h refl
body_holds own bytes dst src ethertype body false reaches h e =
    ip6_holds own bytes dst src ethertype body (eqb ethertype ip6_type) reaches refl (eqb-false ethertype arp_type e)

-- to the host or to a group
reaching : (to_host to_group : Bool) → (not to_host && not to_group) ≡ false → to_host ≡ false → to_group ≡ true
reaching true to_group e f = absurd cc
reaching false true e f = refl
reaching false false e f = absurd cc

apart : (to_host to_group : Bool) → (not to_host && not to_group) ≡ true → (to_host ≡ false) × (to_group ≡ false)
apart true to_group e = absurd cc
apart false true e = absurd cc
apart false false e = (refl, refl)

reached_holds : (own : Mac) (bytes : List ℕ) (dst src : Mac) (ethertype : ℕ) (body : List ℕ) (test : Bool) → IsFrame bytes dst src ethertype body → IsBytes body → src ≢ own
    → (not (is_mac dst own) && not (is_group_mac dst)) ≡ test → Holds own bytes (if test then content.Foreign else body_content dst src ethertype body)
reached_holds own bytes dst src ethertype body true frame h from e =
    let parts = apart (is_mac dst own) (is_group_mac dst) e in
    holds.foreign dst src ethertype body frame from (mac_other dst own parts.0) parts.1
reached_holds own bytes dst src ethertype body false frame h from e =
    let reaches : Reaches own bytes dst src ethertype body = record {
      frame = frame;
      from_another = from;
      to_host_or_group = λ other. reaching (is_mac dst own) (is_group_mac dst) e (mac_differs dst own other);
    } in
    body_holds own bytes dst src ethertype body (eqb ethertype arp_type) reaches h refl

sent_holds : (own : Mac) (bytes : List ℕ) (dst src : Mac) (ethertype : ℕ) (body : List ℕ) (test : Bool) → IsFrame bytes dst src ethertype body → IsBytes body → is_mac src own ≡ test
    → Holds own bytes (if test then content.Own else if not (is_mac dst own) && not (is_group_mac dst) then content.Foreign else body_content dst src ethertype body)
sent_holds own bytes dst src ethertype body true frame h e =
    let same : src ≡ own = mac_is src own e in
    let own_frame : IsFrame bytes dst own ethertype body = rw (sym same) frame in
    holds.from_host dst ethertype body own_frame
sent_holds own bytes dst src ethertype body false frame h e =
    reached_holds own bytes dst src ethertype body (not (is_mac dst own) && not (is_group_mac dst)) frame h (mac_other src own e) refl

content_by : (own : Mac) (bytes : List ℕ) (test : Bool) → IsBytes bytes → ltb (length bytes) 14 ≡ test
    → Holds own bytes (if test then content.Short else frame_content own (mac_at 0 bytes) (mac_at 6 bytes) (number_2_at 12 bytes) (drop 14 bytes))
unfolding frame_content
content_by own bytes true h e = holds.short (ltb-true (length bytes) 14 e)
content_by own bytes false h e =
    sent_holds own bytes (mac_at 0 bytes) (mac_at 6 bytes) (number_2_at 12 bytes) (drop 14 bytes) (is_mac (mac_at 6 bytes) own)
    (frame_of_fields bytes h (ltb-false (length bytes) 14 e)) (bytes_drop 14 bytes h) refl

pub content_of-holds : (own : Mac) (bytes : List ℕ) → IsBytes bytes → Holds own bytes (content_of own bytes)
unfolding content_of
content_of-holds own bytes h = content_by own bytes (ltb (length bytes) 14) h refl

-- ---- nothing else is held

when_true : (test : Bool) (x y : Content) → test ≡ true → (if test then x else y) ≡ x
when_true true x y e = refl
when_true false x y e = absurd cc

when_false : (test : Bool) (x y : Content) → test ≡ false → (if test then x else y) ≡ y
when_false true x y e = absurd cc
when_false false x y e = refl

frame_content-ap : (own dst dst' src src' : Mac) (ethertype ethertype' : ℕ) (body body' : List ℕ) → dst ≡ dst' → src ≡ src' → ethertype ≡ ethertype' → body ≡ body'
    → frame_content own dst src ethertype body ≡ frame_content own dst' src' ethertype' body'
frame_content-ap own dst dst' src src' ethertype ethertype' body body' p q r s = λ i. frame_content own (p i) (q i) (r i) (s i)

-- of a frame the content is that of its parts
pub content_of-frame : (own : Mac) (bytes : List ℕ) (dst src : Mac) (ethertype : ℕ) (body : List ℕ) → IsBytes bytes → IsFrame bytes dst src ethertype body
    → content_of own bytes ≡ frame_content own dst src ethertype body
unfolding content_of
content_of-frame own bytes dst src ethertype body h frame =
    let long : 14 ≤ length bytes = omega (arith, length-IsFrame bytes dst src ethertype body frame) in
    let same = IsFrame-one bytes (mac_at 0 bytes) (mac_at 6 bytes) dst src (number_2_at 12 bytes) ethertype (drop 14 bytes) body (frame_of_fields bytes h long) frame in
    when_false (ltb (length bytes) 14) content.Short _ (le-ltb (length bytes) 14 long) ∙ frame_content-ap own _ dst _ src _ ethertype _ body same.0 same.1 same.2 same.3

pub content_of-short : (own : Mac) (bytes : List ℕ) → length bytes < 14 → content_of own bytes ≡ content.Short
unfolding content_of
content_of-short own bytes few = when_true (ltb (length bytes) 14) content.Short _ (lt-ltb (length bytes) 14 few)

own_content : (own dst : Mac) (ethertype : ℕ) (body : List ℕ) → frame_content own dst own ethertype body ≡ content.Own
unfolding frame_content
own_content own dst ethertype body = when_true (is_mac own own) content.Own _ (mac_same own own refl)

not_reaching : (to_host to_group : Bool) → to_host ≡ false → to_group ≡ false → (not to_host && not to_group) ≡ true
not_reaching true to_group e f = absurd cc
not_reaching false true e f = absurd cc
not_reaching false false e f = refl

foreign_content : (own dst src : Mac) (ethertype : ℕ) (body : List ℕ) → src ≢ own → dst ≢ own → is_group_mac dst ≡ false → frame_content own dst src ethertype body ≡ content.Foreign
unfolding frame_content
foreign_content own dst src ethertype body from to group =
    when_false (is_mac src own) content.Own _ (mac_differs src own from)
    ∙ when_true (not (is_mac dst own) && not (is_group_mac dst)) content.Foreign _ (not_reaching (is_mac dst own) (is_group_mac dst) (mac_differs dst own to) group)

taken_in : (to_host to_group : Bool) → (to_host ≡ false → to_group ≡ true) → (not to_host && not to_group) ≡ false
taken_in true to_group f = refl
taken_in false true f = refl
taken_in false false f = let e = f refl in absurd cc

reached_content : (own : Mac) (bytes : List ℕ) (dst src : Mac) (ethertype : ℕ) (body : List ℕ) → IsBytes bytes → Reaches own bytes dst src ethertype body
    → content_of own bytes ≡ body_content dst src ethertype body
unfolding frame_content
reached_content own bytes dst src ethertype body h reaches =
    content_of-frame own bytes dst src ethertype body h reaches.frame
    ∙ when_false (is_mac src own) content.Own _ (mac_differs src own reaches.from_another)
    ∙ when_false (not (is_mac dst own) && not (is_group_mac dst)) content.Foreign _ (taken_in (is_mac dst own) (is_group_mac dst) (λ e. reaches.to_host_or_group (mac_other dst own e)))

bad_content-is : (why : NdFail) → why ≢ fail.NotIcmp → bad_content why ≡ content.NdBad why
bad_content-is fail.Short other = refl
bad_content-is fail.NotIcmp other = absurd (other refl)
bad_content-is fail.HopLimit other = refl
bad_content-is fail.Code other = refl
bad_content-is fail.Checksum other = refl
bad_content-is fail.Target other = refl
bad_content-is fail.ZeroOption other = refl
bad_content-is fail.Unspecified other = refl
bad_content-is fail.SolicitedToGroup other = refl

-- the body of a frame that is taken in, as bytes
body_bytes : (bytes : List ℕ) (dst src : Mac) (ethertype : ℕ) (body : List ℕ) → IsBytes bytes → IsFrame bytes dst src ethertype body → IsBytes body
body_bytes bytes dst src ethertype body h frame =
    let long : 14 ≤ length bytes = omega (arith, length-IsFrame bytes dst src ethertype body frame) in
    let same = IsFrame-one bytes (mac_at 0 bytes) (mac_at 6 bytes) dst src (number_2_at 12 bytes) ethertype (drop 14 bytes) body (frame_of_fields bytes h long) frame in
    let is : drop 14 bytes ≡ body = same.3 in
    rw (sym is) (bytes_drop 14 bytes h)

other_content : (dst src : Mac) (ethertype : ℕ) (body : List ℕ) → ethertype ≢ arp_type → ethertype ≢ ip6_type → body_content dst src ethertype body ≡ content.Other
other_content dst src ethertype body no_arp no_ip6 =
    when_false (eqb ethertype arp_type) _ _ (ne_eqb ethertype arp_type no_arp) ∙ when_false (eqb ethertype ip6_type) _ _ (ne_eqb ethertype ip6_type no_ip6)

pub content_of-only : (own : Mac) (bytes : List ℕ) (held : Content) → IsBytes bytes → Holds own bytes held → content_of own bytes ≡ held
content_of-only own bytes _ h (holds.short few) = content_of-short own bytes few
content_of-only own bytes _ h (holds.from_host dst ethertype body frame) = content_of-frame own bytes dst own ethertype body h frame ∙ own_content own dst ethertype body
content_of-only own bytes _ h (holds.foreign dst src ethertype body frame from to group) =
    content_of-frame own bytes dst src ethertype body h frame ∙ foreign_content own dst src ethertype body from to group
content_of-only own bytes _ h (holds.arp dst src body packet reaches begins) =
    reached_content own bytes dst src arp_type body h reaches
    ∙ ap (arp_content dst) (arp_of-some body packet (body_bytes bytes dst src arp_type body h reaches.frame) begins)
content_of-only own bytes _ h (holds.bad_arp dst src body reaches none) =
    reached_content own bytes dst src arp_type body h reaches ∙ ap (arp_content dst) (arp_of-none body (body_bytes bytes dst src arp_type body h reaches.frame) none)
content_of-only own bytes _ h (holds.discovery dst src body message reaches e) = reached_content own bytes dst src ip6_type body h reaches ∙ ap (nd_content src) e
content_of-only own bytes _ h (holds.bad_discovery dst src body why reaches e other) =
    reached_content own bytes dst src ip6_type body h reaches ∙ ap (nd_content src) e ∙ bad_content-is why other
content_of-only own bytes _ h (holds.other_packet dst src body reaches e) = reached_content own bytes dst src ip6_type body h reaches ∙ ap (nd_content src) e
content_of-only own bytes _ h (holds.other_type dst src ethertype body reaches no_arp no_ip6) =
    reached_content own bytes dst src ethertype body h reaches ∙ other_content dst src ethertype body no_arp no_ip6
