-- The written form at items that are written out.
use Rattle.std.proofs.Common.{◌≡◌, [], ◌∷◌, ◌++◌, Some, None, refl}
use Rattle.std.specs.Prelude.{codes, false}
use Rattle.std.specs.Fmt.{digits}
use Rattle.nb_base.specs.declared.mac.Mac.{Mac}
use Rattle.nb_base.specs.declared.key.Key.TheVariants.{V4}
use Rattle.nb_base.specs.declared.host.Host.{Host}
use Rattle.nb_base.specs.declared.nud.Nud.TheVariants as nud
use Rattle.nb_base.specs.declared.op.Op.TheVariants as op
use Rattle.text_codes.specs.Lines.{line_text}
use Rattle.neigh_script.specs.declared.script.ScriptItem.TheVariants as item
use Rattle.neigh_script.specs.Written.{host_words, op_words, item_words}

abbrev host : Host
host = record { dev = codes "eth0"; mac = record { 0 = 2 ∷ 0 ∷ 0 ∷ 0 ∷ 0 ∷ 2 ∷ [] }; ip4 = Some 0x0a000002; ip6 = None }

abbrev mac : Mac
mac = record { 0 = 0 ∷ 17 ∷ 34 ∷ 51 ∷ 68 ∷ 85 ∷ [] }

host_line : line_text (host_words host) ≡ codes "host dev eth0 lladdr 02:00:00:00:00:02 inet 10.0.0.2" ++ 10 ∷ []
unfolding line_text host_words digits
host_line = refl

-- options in the order of the written form
add_line : line_text (item_words host (item.Neigh 0 (op.Add (V4 0x0a000001) (Some mac) nud.Permanent))) ≡ codes "@0 neigh add 10.0.0.1 lladdr 00:11:22:33:44:55 dev eth0 nud permanent" ++ 10 ∷ []
unfolding line_text item_words op_words digits
add_line = refl

flush_line : line_text (item_words host (item.Neigh 7 op.Flush)) ≡ codes "@7 neigh flush dev eth0" ++ 10 ∷ []
unfolding line_text item_words op_words digits
flush_line = refl

proxy_line : line_text (item_words host (item.Proxy 7 (V4 0x0a000001) false)) ≡ codes "@7 neigh del proxy 10.0.0.1 dev eth0" ++ 10 ∷ []
unfolding line_text item_words digits
proxy_line = refl

-- hexadecimal in lower case
send_line : line_text (item_words host (item.Send 5 1 (V4 0x0a000001) (69 ∷ 171 ∷ []))) ≡ codes "@5 send 1 10.0.0.1 45ab" ++ 10 ∷ []
unfolding line_text item_words digits
send_line = refl
