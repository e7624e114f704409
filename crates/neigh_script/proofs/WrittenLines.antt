-- The lines of a written script are read again, each below those above it.
use Rattle.std.proofs.Common.{◌≡◌, ℕ, ◌<◌, ◌≤◌, ◌^◌, ◌+◌, true, false, List, ◌∷◌, ◌++◌, Option, Some, None, IfSome, refl, arith}
use Rattle.std.specs.Prelude.{codes, Ok}
use Rattle.std.specs.Int.{IsInRange}
use Rattle.std.specs.List.{join_with_byte, AllByRecursion}
use Rattle.std.proofs.lemmas.Bool.{le-ltb}
use Rattle.nb_base.specs.declared.mac.Mac.{Mac}
use Rattle.nb_base.specs.declared.host.Host.{Host}
use Rattle.nb_base.specs.declared.params.Params.{Params}
use Rattle.nb_base.specs.Name.{is_name}
use Rattle.nb_base.specs.Address.{mac_text}
use Rattle.text_codes.specs.Lines.{Words, IsWord}
use Rattle.text_codes.proofs.Lacking.{Each-weaker}
use Rattle.text_codes.proofs.Again.{words_again}
use Rattle.neigh_script.specs.declared.context.Context.{Context}
use Rattle.neigh_script.specs.declared.parameter.Parameter.{Parameter}
use Rattle.neigh_script.specs.declared.script.ScriptItem.{ScriptItem}
use Rattle.neigh_script.specs.declared.script.ScriptItem.TheVariants as item
use Rattle.neigh_script.specs.Parameter.{least, greatest, value_in, with_value}
use Rattle.neigh_script.specs.Context.{at_of, shows_in, behind}
use Rattle.neigh_script.specs.Fields as fields
use Rattle.neigh_script.specs.Forms.{host_form, senders_form, param_form, neigh_form}
use Rattle.neigh_script.specs.Lines.{host_line, senders_line, param_line, item_form, item_line, head_line, words_line, numbered_line}
use Rattle.neigh_script.specs.Written.{inet_words, inet6_words, host_words, senders_words, param_words, item_words}
use Rattle.neigh_script.specs.Limits.{IsLink, IsTypedHost, IsTypedItem, IsItemWithin}
use Rattle.neigh_script.proofs.WrittenFields.{number-again, moment-again, name-again, link-again, own_ip4-again, own_ip6-again, parameter-again, value-again}
use Rattle.neigh_script.proofs.WrittenForms.{op-again, add_proxy-again, del_proxy-again, send-again}
use Rattle.neigh_script.proofs.WrittenSigns.{IsPrinted, printed-word, row-utf8}

-- an item's line, below a host line, no moment above its own, and enough senders and `show` lines left
pub item-again : (c : Context) (host : Host) (i : ScriptItem) → c.host ≡ Some host → c.senders ≤ 16 → fields.earliest c.last ≤ at_of i → IsItemWithin host c.senders i → IsTypedItem i → c.shows + shows_in i ≤ 32
    → words_line c (item_words host i) ≡ Ok (behind c i, Some i)
unfolding words_line item_line item_words item_form neigh_form
item-again c host (item.Neigh at o) own few order h t shows = rw (own, moment-again c.last at order h.0, op-again c host at o h.1 t shows) refl
item-again c host (item.Proxy at key true) own few order h t shows = rw (own, moment-again c.last at order h.0, add_proxy-again host at key h.1) refl
item-again c host (item.Proxy at key false) own few order h t shows = rw (own, moment-again c.last at order h.0, del_proxy-again host at key h.1) refl
item-again c host (item.Send at sender key payload) own few order h t shows = rw (own, moment-again c.last at order h.0, send-again host c.senders at sender key payload few h.1 t) refl

-- what is read above the first item
abbrev pub head : Option Host → ℕ → Params → Context
head host senders params = record { host = host; senders = senders; params = params; last = None; shows = 0 }

-- the host line behind its first word
host_form-again : (dev : List ℕ) (mac : Mac) (ip4 ip6 : Option ℕ) → is_name dev ≡ true → IsLink mac → IfSome ip4 (λ n. n < 2 ^ 32) → IfSome ip6 (λ n. n < 2 ^ 128)
    → host_form (codes "dev" ∷ dev ∷ codes "lladdr" ∷ mac_text mac ∷ (inet_words ip4 ++ inet6_words ip6)) ≡ Ok (record { dev = dev; mac = mac; ip4 = ip4; ip6 = ip6 })
unfolding host_form
host_form-again dev mac None None d m f g = rw (name-again dev d, link-again mac m) refl
host_form-again dev mac (Some a) None d m f g = rw (name-again dev d, link-again mac m, own_ip4-again a f) refl
host_form-again dev mac None (Some b) d m f g = rw (name-again dev d, link-again mac m, own_ip6-again b g) refl
host_form-again dev mac (Some a) (Some b) d m f g = rw (name-again dev d, link-again mac m, own_ip4-again a f, own_ip6-again b g) refl

-- the host line
pub host-again : (senders : ℕ) (params : Params) (host : Host) → is_name host.dev ≡ true → IsTypedHost host → words_line (head None senders params) (host_words host) ≡ Ok (head (Some host) senders params, None)
unfolding words_line head_line host_line host_words
host-again senders params host d h = rw (host_form-again host.dev host.mac host.ip4 host.ip6 d h.mac h.ip4 h.ip6) refl

-- the line of the number of senders
pub senders-again : (host : Option Host) (before senders : ℕ) (params : Params) → IsInRange 1 16 senders → words_line (head host before params) (senders_words senders) ≡ Ok (head host senders params, None)
unfolding words_line head_line senders_line senders_form
senders-again host before senders params h = rw (number-again 1 16 senders _ h.0 h.1 (omega (arith, h.1))) refl

-- a parameter's line
pub param-again : (host : Option Host) (senders : ℕ) (before params : Params) (p : Parameter) → IsInRange (least p) (greatest p) (value_in params p)
    → words_line (head host senders before) (param_words params p) ≡ Ok (head host senders (with_value p (value_in params p) before), None)
unfolding words_line head_line param_line param_form
param-again host senders before params p h = rw (parameter-again p, value-again p (value_in params p) h) refl

-- a line whose words are printed, and say something below this context
pub line-again : (n : ℕ) (c : Context) (row : Words) (said : Context × Option ScriptItem) → n ≤ 131_072 → AllByRecursion IsPrinted row → words_line c row ≡ Ok said
    → numbered_line n c (join_with_byte 32 row) ≡ Ok said
unfolding numbered_line
line-again n c row said few h e = rw (le-ltb 131_072 n few, row-utf8 row h, words_again row (Each-weaker IsPrinted IsWord printed-word row h)) e
