-- The definitions at samples: the merged order, the ids, the packets that ids name, frames, and proxies.
use Rattle.std.proofs.Common.{◌≡◌, ℕ, ◌+◌, ◌-◌, ◌*◌, ◌/◌, ◌%◌, ◌<◌, ◌≤◌, true, false, List, [], ◌∷◌, ◌++◌, map, Some, None, refl, arith}
use Rattle.std.specs.Prelude.{codes, slice_get, option_and_then}
use Rattle.nb_base.specs.declared.mac.Mac.{Mac}
use Rattle.nb_base.specs.declared.key.Key.{Key}
use Rattle.nb_base.specs.declared.key.Key.TheVariants.{V4, V6}
use Rattle.nb_base.specs.declared.op.Op.TheVariants as op
use Rattle.nb_base.specs.declared.plan.Plan.{Plan}
use Rattle.nb_base.specs.declared.plan.SendItem.{SendItem}
use Rattle.nb_base.specs.declared.plan.ControlItem.TheVariants as control
use Rattle.nb_base.specs.declared.host_line.Class.TheVariants as class
use Rattle.nb_base.specs.declared.host_line.HostLine.TheVariants as host_line
use Rattle.nb_base.specs.Params.{default_params}
use Rattle.nud_machine.specs.declared.act.Act.TheVariants as act
use Rattle.nb_queues.specs.SameKey.{is_key}
use Rattle.nb_queues.specs.declared.request.ProxyJob.{ProxyJob}
use Rattle.nb_queues.specs.declared.request.ProxyRequest.TheVariants as request
use Rattle.neigh_run.specs.Merged.{Entered, id_for, merged}
use Rattle.nd_codec.specs.Checksum.{words_of, pseudo_header, checksum_of}
use Rattle.nd_codec.specs.Spelling.{header_bytes, message_bytes, solicit_bytes}
use Rattle.nd_codec.specs.Packet.{solicited_node}
use Rattle.neigh_run.specs.Frames.{packet_of, sent_frame}
use Rattle.heard_frames.specs.Fields.{content_of, frame_content, arp_of}
use Rattle.heard_frames.specs.Heard.{heard_of}
use Rattle.heard_frames.specs.Answers.{answer_frame}
use Rattle.neigh_run.specs.Control.{HostState, host_start, turn, state_behind, proxies_with}
use Rattle.neigh_run.specs.Report.{act_line}

-- the id of a packet names it: of sender p the item of number n
packet-named : (plan : Plan) (p n : ℕ) → p < 32 → 1 ≤ n → packet_of plan (id_for p n) ≡ option_and_then (λ items. slice_get items (n - 1)) (slice_get plan.senders (p - 1))
packet-named plan p n small some =
    let item : (32 * n + p) / 32 ≡ n = omega arith in
    let sender : (32 * n + p) % 32 ≡ p = omega arith in
    rw (item, sender) refl

abbrev one : Key
one = V4 0x0a000001

abbrev two : Key
two = V4 0x0a000002

abbrev six : Key
six = V6 0xfe800000000000000000000000000001

abbrev somewhere : Mac
somewhere = record { 0 = 0 ∷ 0x11 ∷ 0x22 ∷ 0x33 ∷ 0x44 ∷ 0x55 ∷ [] }

abbrev send : ℕ → Key → SendItem
send at key = record { at = at; key = key; payload = 7 ∷ [] }

-- a look at 5, and one sender with packets at 5 and 7, another with packets at 3 and 5
abbrev sample : Plan
sample = record {
  host = record { dev = codes "eth0"; mac = record { 0 = 2 ∷ 0 ∷ 0 ∷ 0 ∷ 0 ∷ 2 ∷ [] }; ip4 = Some 0x0a000003; ip6 = None };
  params = default_params;
  buckets = 2;
  window = 50;
  control = control.Neigh 5 op.Show ∷ control.Proxy 6 one true ∷ control.Neigh 6 (op.Del two) ∷ [];
  senders = (send 5 one ∷ send 7 two ∷ []) ∷ (send 3 two ∷ send 5 two ∷ []) ∷ [];
}

abbrev numbers : List Entered → List ℕ
numbers operations = map (λ (x : Entered). x.id.0) operations

-- by moment, at equal moments participant 0 first and then the senders by number; a proxy line counts as an item and has no operation
merged-row : numbers (merged sample) ≡ 34 ∷ 32 ∷ 33 ∷ 66 ∷ 96 ∷ 65 ∷ []
merged-row = refl

-- a frame goes from the host to the address, has the type of IPv4 and the payload as it is
frame-row : sent_frame sample (record { 0 = 65 }) (record { 0 = 2 ∷ 0 ∷ 0 ∷ 0 ∷ 0 ∷ 9 ∷ [] }) ≡ 2 ∷ 0 ∷ 0 ∷ 0 ∷ 0 ∷ 9 ∷ 2 ∷ 0 ∷ 0 ∷ 0 ∷ 0 ∷ 2 ∷ 8 ∷ 0 ∷ 7 ∷ []
frame-row = refl

-- the host 02:00:00:00:00:02 with the address 10.0.0.2
abbrev asking : Plan
asking = record sample { host = record { dev = codes "eth0"; mac = record { 0 = 2 ∷ 0 ∷ 0 ∷ 0 ∷ 0 ∷ 2 ∷ [] }; ip4 = Some 0x0a000002; ip6 = None } }

-- it asks everyone for 10.0.0.1
group-row : act_line asking one act.SolicitGroup ≡ [] ∷ [] ∷ codes "solicit" ∷ codes "ffffffffffff020000000002080600010800060400010200000000020a0000020000000000000a000001" ∷ []
group-row = refl

-- and the host at 00:11:22:33:44:55 alone
unicast-row : act_line asking one (act.SolicitUnicast somewhere) ≡ [] ∷ [] ∷ codes "solicit" ∷ codes "001122334455020000000002080600010800060400010200000000020a0000020000000000000a000001" ∷ []
unicast-row = refl

-- with the address fe80::2 it asks the solicited-node group of fe80::1, ff02::1:ff00:1 at 33:33:ff:00:00:01
abbrev asking_six : Plan
asking_six = record asking { host = record asking.host { ip6 = Some 0xfe800000000000000000000000000002 } }

group_six-row : act_line asking_six six act.SolicitGroup ≡ [] ∷ [] ∷ codes "solicit" ∷ (codes "3333ff00000102000000000286dd" ++ codes "6000000000203afffe800000000000000000000000000002ff0200000000000000000001ff000001" ++ codes "87007a9700000000fe8000000000000000000000000000010101020000000002") ∷ []
unfolding solicit_bytes header_bytes message_bytes checksum_of pseudo_header words_of
group_six-row = refl

-- and fe80::1 itself, at 00:11:22:33:44:55
unicast_six-row : act_line asking_six six (act.SolicitUnicast somewhere) ≡ [] ∷ [] ∷ codes "solicit" ∷ (codes "00112233445502000000000286dd" ++ codes "6000000000203afffe800000000000000000000000000002fe800000000000000000000000000001" ++ codes "87007a1b00000000fe8000000000000000000000000000010101020000000002") ∷ []
unfolding solicit_bytes header_bytes message_bytes checksum_of pseudo_header words_of
unicast_six-row = refl

-- only the low 24 bits of 2001:db8::1:2345:6789 are its group's
node-row : solicited_node 0x20010db8000000000000000123456789 ≡ 0xff0200000000000000000001ff456789
node-row = refl

-- a proxy entry that is added again keeps its place, and one that is added behind its deletion goes last
proxies-again : proxies_with (one ∷ two ∷ []) (control.Proxy 9 one true) ≡ one ∷ two ∷ []
unfolding is_key
proxies-again = refl

proxies-last : proxies_with (proxies_with (one ∷ two ∷ []) (control.Proxy 9 one false)) (control.Proxy 9 one true) ≡ two ∷ one ∷ []
unfolding is_key
proxies-last = refl

-- ---- frames that are heard, and proxied requests

abbrev nine : Key
nine = V4 0x0a000009

-- an ARP request of 10.0.0.7 at 00:11:22:33:44:55 to all, for the address 10.0.0.LAST
abbrev asks : ℕ → List ℕ
asks last =
    0xff ∷ 0xff ∷ 0xff ∷ 0xff ∷ 0xff ∷ 0xff ∷ 0 ∷ 0x11 ∷ 0x22 ∷ 0x33 ∷ 0x44 ∷ 0x55 ∷ 8 ∷ 6 ∷ 0 ∷ 1 ∷ 8 ∷ 0 ∷ 6 ∷ 4 ∷ 0 ∷ 1
    ∷ 0 ∷ 0x11 ∷ 0x22 ∷ 0x33 ∷ 0x44 ∷ 0x55 ∷ 10 ∷ 0 ∷ 0 ∷ 7 ∷ 0 ∷ 0 ∷ 0 ∷ 0 ∷ 0 ∷ 0 ∷ 10 ∷ 0 ∷ 0 ∷ last ∷ []

abbrev job : ProxyJob
job = record { due = 805; request = request.Arp somewhere 0x0a000007 0x0a000009 }

abbrev answering : HostState
answering = record { proxies = nine ∷ []; waiting = job ∷ [] }

-- a request for the host's address makes an entry
learnt-row : (turn sample host_start 1 (control.Frame 5 (asks 3))).operation ≡ Some (op.Arp (V4 0x0a000007) somewhere true false)
unfolding heard_of content_of frame_content arp_of
learnt-row = refl

-- one for a proxied address waits for 800 milliseconds
waiting-row : (state_behind sample host_start 1 (control.Proxy 0 nine true ∷ control.Frame 5 (asks 9) ∷ [])).waiting ≡ job ∷ []
unfolding heard_of content_of frame_content arp_of is_key
waiting-row = refl

-- it is answered at its due, before the item that comes behind it, though its proxy entry is gone
answered-row : (turn sample (record answering { proxies = [] }) 3 (control.Neigh 1_000 op.Show)).lines [] ≡ host_line.Answer 805 (
    0 ∷ 0x11 ∷ 0x22 ∷ 0x33 ∷ 0x44 ∷ 0x55 ∷ 2 ∷ 0 ∷ 0 ∷ 0 ∷ 0 ∷ 2 ∷ 8 ∷ 6 ∷ 0 ∷ 1 ∷ 8 ∷ 0 ∷ 6 ∷ 4 ∷ 0 ∷ 2
    ∷ 2 ∷ 0 ∷ 0 ∷ 0 ∷ 0 ∷ 2 ∷ 10 ∷ 0 ∷ 0 ∷ 9 ∷ 0 ∷ 0x11 ∷ 0x22 ∷ 0x33 ∷ 0x44 ∷ 0x55 ∷ 10 ∷ 0 ∷ 0 ∷ 7 ∷ []
    ) ∷ host_line.Neigh 3 1_000 [] ∷ []
unfolding answer_frame
answered-row = refl

-- where as many wait as may, one more doesn't
full-row : (turn (record sample { params = record default_params { proxy_qlen = 1 } }) answering 2 (control.Frame 5 (asks 9))).lines [] ≡ host_line.Frame 2 5 class.Arp (Some false) None None ∷ []
unfolding heard_of content_of frame_content arp_of is_key
full-row = refl
