-- Each word of a written script is printed.
use Rattle.std.proofs.Common.{◌≡◌, ℕ, ◌<◌, ◌≤◌, ◌^◌, true, false, List, [], ◌∷◌, ◌++◌, length, map, Option, Some, None, IfSome, refl, arith}
use Rattle.std.specs.Prelude.{codes}
use Rattle.std.specs.Int.{IsInRange}
use Rattle.std.specs.List.{list_all, AllByRecursion}
use Rattle.nb_base.specs.declared.mac.Mac.{Mac}
use Rattle.nb_base.specs.declared.key.Key.{Key}
use Rattle.nb_base.specs.declared.key.Key.TheVariants.{V4, V6}
use Rattle.nb_base.specs.declared.host.Host.{Host}
use Rattle.nb_base.specs.declared.params.Params.{Params}
use Rattle.nb_base.specs.declared.nud.Nud.{Nud}
use Rattle.nb_base.specs.declared.nud.Nud.TheVariants as nud
use Rattle.nb_base.specs.declared.op.Op.{Op}
use Rattle.nb_base.specs.declared.op.Op.TheVariants as op
use Rattle.nb_base.specs.Name.{is_name}
use Rattle.nb_base.specs.Params.{InRange}
use Rattle.nb_base.specs.Address.{is_neighbour, key_text}
use Rattle.text_codes.specs.Lines.{Words}
use Rattle.text_codes.proofs.Each.{Each-append, Each-map}
use Rattle.neigh_script.specs.declared.parameter.Parameter.{Parameter}
use Rattle.neigh_script.specs.declared.parameter.Parameter.TheVariants as parameter
use Rattle.neigh_script.specs.declared.script.Script.{Script}
use Rattle.neigh_script.specs.declared.script.ScriptItem.{ScriptItem}
use Rattle.neigh_script.specs.declared.script.ScriptItem.TheVariants as item
use Rattle.neigh_script.specs.Parameter.{parameters, parameter_name, least, greatest, value_in}
use Rattle.neigh_script.specs.Written.{inet_words, inet6_words, host_words, senders_words, param_words, state_word, device_words, link_words, entry_words, op_words, item_words, moment_word, script_rows}
use Rattle.neigh_script.specs.Limits.{IsLink, IsTypedHost, IsTypedOp, IsTypedItem, IsReadable, IsEntry, IsOpWithin, IsItemWithin}
use Rattle.neigh_script.proofs.WrittenFields.{neighbour-fits, greatest-small}
use Rattle.neigh_script.proofs.WrittenSigns.{IsPrinted, is_sign, printed-decimal, printed-hex, printed-mac, printed-name, printed-moment, printed-key}

-- a word of the language
known : (word : List ℕ) → 0 < length word → list_all is_sign word ≡ true → IsPrinted word
known word some signs = record { some = some; signs = signs }

-- each word of a row is printed
abbrev pub IsPrintedRow : Words → Type 0
IsPrintedRow row = AllByRecursion IsPrinted row

state-printed : (n : Nud) → IsPrinted (state_word n)
state-printed nud.Permanent = known (codes "permanent") (omega arith) refl
state-printed nud.Noarp = known (codes "noarp") (omega arith) refl
state-printed nud.Reachable = known (codes "reachable") (omega arith) refl
state-printed nud.Stale = known (codes "stale") (omega arith) refl
state-printed nud.None = known (codes "none") (omega arith) refl
state-printed nud.Incomplete = known (codes "incomplete") (omega arith) refl
state-printed nud.Delay = known (codes "delay") (omega arith) refl
state-printed nud.Probe = known (codes "probe") (omega arith) refl
state-printed nud.Failed = known (codes "failed") (omega arith) refl

parameter-printed : (p : Parameter) → IsPrinted (parameter_name p)
parameter-printed parameter.GcThresh1 = known (codes "gc_thresh1") (omega arith) refl
parameter-printed parameter.GcThresh2 = known (codes "gc_thresh2") (omega arith) refl
parameter-printed parameter.GcThresh3 = known (codes "gc_thresh3") (omega arith) refl
parameter-printed parameter.GcInterval = known (codes "gc_interval") (omega arith) refl
parameter-printed parameter.GcStaleTime = known (codes "gc_stale_time") (omega arith) refl
parameter-printed parameter.Locktime = known (codes "locktime") (omega arith) refl
parameter-printed parameter.RetransTime = known (codes "retrans_time") (omega arith) refl
parameter-printed parameter.BaseReachableTime = known (codes "base_reachable_time") (omega arith) refl
parameter-printed parameter.DelayFirstProbeTime = known (codes "delay_first_probe_time") (omega arith) refl
parameter-printed parameter.McastSolicit = known (codes "mcast_solicit") (omega arith) refl
parameter-printed parameter.UcastSolicit = known (codes "ucast_solicit") (omega arith) refl
parameter-printed parameter.ProxyDelay = known (codes "proxy_delay") (omega arith) refl
parameter-printed parameter.ProxyQlen = known (codes "proxy_qlen") (omega arith) refl
parameter-printed parameter.UnresQlenBytes = known (codes "unres_qlen_bytes") (omega arith) refl

neighbour-printed : (host : Host) (key : Key) → is_neighbour host key ≡ true → IsPrinted (key_text key)
neighbour-printed host key h = printed-key key (neighbour-fits host key h)

inet-printed : (ip4 : Option ℕ) → IfSome ip4 (λ n. n < 2 ^ 32) → IsPrintedRow (inet_words ip4)
inet-printed None h = tt
inet-printed (Some n) h = (known (codes "inet") (omega arith) refl, (printed-key (V4 n) h, tt))

inet6-printed : (ip6 : Option ℕ) → IfSome ip6 (λ n. n < 2 ^ 128) → IsPrintedRow (inet6_words ip6)
inet6-printed None h = tt
inet6-printed (Some n) h = (known (codes "inet6") (omega arith) refl, (printed-key (V6 n) h, tt))

pub host-printed : (host : Host) → is_name host.dev ≡ true → IsTypedHost host → IsPrintedRow (host_words host)
unfolding host_words
host-printed host d h = (
  known (codes "host") (omega arith) refl,
  (
    known (codes "dev") (omega arith) refl,
    (
      printed-name host.dev d,
      (
        known (codes "lladdr") (omega arith) refl,
        (
          printed-mac host.mac h.mac.0 h.mac.1,
          Each-append IsPrinted (inet_words host.ip4) (inet6_words host.ip6) (inet-printed host.ip4 h.ip4) (inet6-printed host.ip6 h.ip6),
        ),
      ),
    ),
  ),
)

pub senders-printed : (senders : ℕ) → IsInRange 1 16 senders → IsPrintedRow (senders_words senders)
senders-printed senders h = (known (codes "senders") (omega arith) refl, (printed-decimal senders (omega (arith, h.1)), tt))

pub param-printed : (params : Params) (p : Parameter) → IsInRange (least p) (greatest p) (value_in params p) → IsPrintedRow (param_words params p)
param-printed params p h =
    let most = greatest-small p in
    (known (codes "param") (omega arith) refl, (parameter-printed p, (printed-decimal (value_in params p) (omega (arith, h.1)), tt)))

device-printed : (host : Host) → is_name host.dev ≡ true → IsPrintedRow (device_words host)
device-printed host d = (known (codes "dev") (omega arith) refl, (printed-name host.dev d, tt))

link-printed : (mac : Option Mac) → IfSome mac IsLink → IsPrintedRow (link_words mac)
link-printed None h = tt
link-printed (Some mac) h = (known (codes "lladdr") (omega arith) refl, (printed-mac mac h.0 h.1, tt))

entry-printed : (host : Host) (verb : List ℕ) (key : Key) (mac : Option Mac) (given : Nud) → is_name host.dev ≡ true → IsPrinted verb → IsEntry host key given → IfSome mac IsLink → IsPrintedRow (entry_words host verb key mac given)
entry-printed host verb key mac given own word h m = (
  known (codes "neigh") (omega arith) refl,
  (
    word,
    (
      neighbour-printed host key h.0,
      Each-append IsPrinted (link_words mac) (device_words host ++ (codes "nud" ∷ state_word given ∷ [])) (link-printed mac m)
          (Each-append IsPrinted (device_words host) (codes "nud" ∷ state_word given ∷ []) (device-printed host own) (known (codes "nud") (omega arith) refl, (state-printed given, tt))),
    ),
  ),
)

op-printed : (host : Host) (o : Op) → is_name host.dev ≡ true → IsOpWithin host o → IsTypedOp o → IsPrintedRow (op_words host o)
unfolding op_words
op-printed host (op.Add key mac given) own h t = entry-printed host (codes "add") key mac given own (known (codes "add") (omega arith) refl) h t
op-printed host (op.Change key mac given) own h t = entry-printed host (codes "change") key mac given own (known (codes "change") (omega arith) refl) h t
op-printed host (op.Replace key mac given) own h t = entry-printed host (codes "replace") key mac given own (known (codes "replace") (omega arith) refl) h t
op-printed host (op.Del key) own h t = (known (codes "neigh") (omega arith) refl, (known (codes "del") (omega arith) refl, (neighbour-printed host key h, device-printed host own)))
op-printed host (op.Confirm key) own h t = (known (codes "confirm") (omega arith) refl, (neighbour-printed host key h, tt))
op-printed host op.Show own h t = (known (codes "neigh") (omega arith) refl, (known (codes "show") (omega arith) refl, device-printed host own))
op-printed host op.Flush own h t = (known (codes "neigh") (omega arith) refl, (known (codes "flush") (omega arith) refl, device-printed host own))
op-printed host (op.Send key len) own h t = tt
op-printed host (op.Arp key mac make solicited) own h t = tt
op-printed host (op.Ns key mac) own h t = tt
op-printed host (op.Na key mac router solicited overrides) own h t = tt
op-printed host (op.Timer key) own h t = tt
op-printed host op.Sweep own h t = tt
op-printed host (op.Collect key) own h t = tt

moment-printed : (at : ℕ) → at ≤ 2_592_000_000 → IsPrinted (moment_word at)
moment-printed at few = printed-moment at (omega arith)

pub item-printed : (host : Host) (senders : ℕ) (i : ScriptItem) → is_name host.dev ≡ true → senders ≤ 16 → IsItemWithin host senders i → IsTypedItem i → IsPrintedRow (item_words host i)
unfolding item_words
item-printed host senders (item.Neigh at o) own few h t = (moment-printed at h.0, op-printed host o own h.1 t)
item-printed host senders (item.Proxy at key true) own few h t = (moment-printed at h.0, (known (codes "neigh") (omega arith) refl, (known (codes "add") (omega arith) refl, (known (codes "proxy") (omega arith) refl, (neighbour-printed host key h.1, device-printed host own)))))
item-printed host senders (item.Proxy at key false) own few h t = (moment-printed at h.0, (known (codes "neigh") (omega arith) refl, (known (codes "del") (omega arith) refl, (known (codes "proxy") (omega arith) refl, (neighbour-printed host key h.1, device-printed host own)))))
item-printed host senders (item.Send at sender key payload) own few h t =
    (moment-printed at h.0, (known (codes "send") (omega arith) refl, (printed-decimal sender (omega (arith, h.1.known.1)), (neighbour-printed host key h.1.neighbour, (printed-hex payload h.1.size.0 t, tt)))))

-- the parameters are in the ranges that a script allows
pub params-within : (params : Params) → InRange params → AllByRecursion (λ p. IsInRange (least p) (greatest p) (value_in params p)) parameters
params-within params h = (
  h.gc_thresh1,
  (
    h.gc_thresh2,
    (
      h.gc_thresh3,
      (
        h.gc_interval,
        (
          h.gc_stale_time,
          (
            h.locktime,
            (
              h.retrans_time,
              (
                h.base_reachable_time,
                (
                  h.delay_first_probe_time,
                  (h.mcast_solicit, (h.ucast_solicit, (h.proxy_delay, (h.proxy_qlen, (h.unres_qlen_bytes, tt))))),
                ),
              ),
            ),
          ),
        ),
      ),
    ),
  ),
)

each-both : {X : Type 0} (P Q : X → Type 0) (xs : List X) → AllByRecursion P xs → AllByRecursion Q xs → AllByRecursion (λ x. P x × Q x) xs
each-both P Q [] h g = tt
each-both P Q (x ∷ xs) h g = ((h.0, g.0), each-both P Q xs h.1 g.1)

-- each row of a written script
pub rows-printed : (s : Script) → IsReadable s → AllByRecursion IsPrintedRow (script_rows s)
unfolding script_rows
rows-printed s r =
    let h = r.within in
    let items = each-both (IsItemWithin s.host s.senders) IsTypedItem s.items h.items r.typed.items in (
      host-printed s.host h.dev r.typed.host,
      (
        senders-printed s.senders h.senders,
        Each-append IsPrintedRow (map (param_words s.params) parameters) (map (item_words s.host) s.items)
            (Each-map (λ p. IsInRange (least p) (greatest p) (value_in s.params p)) IsPrintedRow (param_words s.params) (param-printed s.params) parameters (params-within s.params h.params))
            (Each-map (λ i. IsItemWithin s.host s.senders i × IsTypedItem i) IsPrintedRow (item_words s.host) (λ i g. item-printed s.host s.senders i h.dev h.senders.1 g.0 g.1) s.items items),
      ),
    )
