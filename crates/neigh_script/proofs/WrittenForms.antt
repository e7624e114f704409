-- What is written behind an item's moment is read again.
use Rattle.std.proofs.Common.{◌≡◌, ℕ, ◌≤◌, ◌+◌, true, false, List, [], ◌∷◌, ◌++◌, Option, Some, None, IfSome, refl, sym, ap, ◌∙◌, arith}
use Rattle.std.specs.Prelude.{codes, decimal, bytes_eq, Ok}
use Rattle.std.proofs.lemmas.Bool.{lt-leb, false_from_ne_true}
use Rattle.std.proofs.lemmas.Slice.Eq.{bytes_eq-Decides}
use Rattle.std.specs.Net.Reader.{read_ipv6, read_segments, read_ipv4, read_octet, read_number, read_segment}
use Rattle.nb_base.specs.declared.mac.Mac.{Mac}
use Rattle.nb_base.specs.declared.key.Key.{Key}
use Rattle.nb_base.specs.declared.host.Host.{Host}
use Rattle.nb_base.specs.declared.nud.Nud.{Nud}
use Rattle.nb_base.specs.declared.op.Op.{Op}
use Rattle.nb_base.specs.declared.op.Op.TheVariants as op
use Rattle.nb_base.specs.Address.{mac_text, key_of, key_text, is_neighbour}
use Rattle.text_codes.specs.Lines.{Words}
use Rattle.text_codes.specs.HexText.{hex_text, AreBytes}
use Rattle.neigh_script.specs.declared.context.Context.{Context}
use Rattle.neigh_script.specs.declared.script.ScriptItem.TheVariants as item
use Rattle.neigh_script.specs.Context.{show_count}
use Rattle.neigh_script.specs.Fields as fields
use Rattle.neigh_script.specs.Forms.{device_end, option, options, entry_form, key_form, add_form, change_form, replace_form, del_form, show_form, flush_form, neigh_form, confirm_form, send_form}
use Rattle.neigh_script.specs.Lines.{item_form}
use Rattle.neigh_script.specs.Written.{op_words, link_words, device_words, state_word}
use Rattle.neigh_script.specs.Limits.{IsLink, IsTypedOp, IsEntry, IsOpWithin, IsSendWithin}
use Rattle.neigh_script.proofs.WrittenFields.{number-again, link-again, key-again, neighbour-fits, neighbour-again, device-again, state-again, payload-again}

-- the words of an option and its value
option-link : (host : Host) (text : List ℕ) (mac : Mac) (rest : Words) → fields.link text ≡ Ok mac → options host (record { mac = None; dev = false; nud = None }) (codes "lladdr" ∷ text ∷ rest) ≡ options host (record { mac = Some mac; dev = false; nud = None }) rest
unfolding options option
option-link host text mac rest e = rw e refl

option-end : (host : Host) (mac : Option Mac) (dev text : List ℕ) (given : Nud) → fields.own_device host dev ≡ Ok dev → fields.state text ≡ Ok given
    → options host (record { mac = mac; dev = false; nud = None }) (codes "dev" ∷ dev ∷ codes "nud" ∷ text ∷ []) ≡ Ok (record { mac = mac; dev = true; nud = Some given })
unfolding options option
option-end host mac dev text given e f = rw (e, f) refl

-- `ADDR [lladdr MAC] dev NAME nud STATE`
pub entry-again : (host : Host) (key : Key) (mac : Option Mac) (given : Nud) → IsEntry host key given → IfSome mac IsLink
    → entry_form host (key_text key ∷ (link_words mac ++ (device_words host ++ (codes "nud" ∷ state_word given ∷ [])))) ≡ Ok (key, mac, given)
unfolding entry_form
entry-again host key None given h m =
    rw (neighbour-again host key h.0, option-end host None host.dev (state_word given) given (device-again host) (state-again given h.1)) refl
entry-again host key (Some mac) given h m =
    rw (neighbour-again host key h.0, option-link host (mac_text mac) mac (codes "dev" ∷ host.dev ∷ codes "nud" ∷ state_word given ∷ []) (link-again mac m), option-end host (Some mac) host.dev (state_word given) given (device-again host) (state-again given h.1)) refl

-- `dev NAME`
device_end-again : (host : Host) → device_end host (device_words host) ≡ Ok tt
unfolding device_end
device_end-again host = rw (device-again host) refl

-- `ADDR dev NAME`
key_form-again : (host : Host) (key : Key) → is_neighbour host key ≡ true → key_form host (key_text key ∷ device_words host) ≡ Ok key
unfolding key_form
key_form-again host key h = rw (neighbour-again host key h, device_end-again host) refl

-- a key's text isn't the word `proxy`
not_proxy : (text : List ℕ) (key : Key) → key_of text ≡ Some key → bytes_eq text (codes "proxy") ≡ false
unfolding read_ipv6 read_segments read_ipv4 read_octet read_number read_segment
not_proxy text key e = false_from_ne_true (bytes_eq text (codes "proxy")) (λ same. spelled (ap key_of (sym ((bytes_eq-Decides text (codes "proxy")).0 same)) ∙ e))
  where
    apart : ◌≡◌ {A = Option Key} None (Some key) → ⊥
    apart e = absurd cc

    none : key_of (codes "proxy") ≡ None
    none = refl

    spelled : key_of (codes "proxy") ≡ Some key → ⊥
    spelled e = apart (sym none ∙ e)

key-not_proxy : (host : Host) (key : Key) → is_neighbour host key ≡ true → bytes_eq (key_text key) (codes "proxy") ≡ false
key-not_proxy host key h = not_proxy (key_text key) key (key-again key (neighbour-fits host key h))

add-again : (host : Host) (at : ℕ) (key : Key) (mac : Option Mac) (given : Nud) → IsEntry host key given → IfSome mac IsLink
    → add_form host at (key_text key ∷ (link_words mac ++ (device_words host ++ (codes "nud" ∷ state_word given ∷ [])))) ≡ Ok (item.Neigh at (op.Add key mac given))
unfolding add_form
add-again host at key mac given h m = rw (key-not_proxy host key h.0, entry-again host key mac given h m) refl

change-again : (host : Host) (at : ℕ) (key : Key) (mac : Option Mac) (given : Nud) → IsEntry host key given → IfSome mac IsLink
    → change_form host at (key_text key ∷ (link_words mac ++ (device_words host ++ (codes "nud" ∷ state_word given ∷ [])))) ≡ Ok (item.Neigh at (op.Change key mac given))
unfolding change_form
change-again host at key mac given h m = rw (entry-again host key mac given h m) refl

replace-again : (host : Host) (at : ℕ) (key : Key) (mac : Option Mac) (given : Nud) → IsEntry host key given → IfSome mac IsLink
    → replace_form host at (key_text key ∷ (link_words mac ++ (device_words host ++ (codes "nud" ∷ state_word given ∷ [])))) ≡ Ok (item.Neigh at (op.Replace key mac given))
unfolding replace_form
replace-again host at key mac given h m = rw (entry-again host key mac given h m) refl

del-again : (host : Host) (at : ℕ) (key : Key) → is_neighbour host key ≡ true → del_form host at (key_text key ∷ device_words host) ≡ Ok (item.Neigh at (op.Del key))
unfolding del_form
del-again host at key h = rw (key-not_proxy host key h, key_form-again host key h) refl

pub add_proxy-again : (host : Host) (at : ℕ) (key : Key) → is_neighbour host key ≡ true → add_form host at (codes "proxy" ∷ key_text key ∷ device_words host) ≡ Ok (item.Proxy at key true)
unfolding add_form
add_proxy-again host at key h = rw (key_form-again host key h) refl

pub del_proxy-again : (host : Host) (at : ℕ) (key : Key) → is_neighbour host key ≡ true → del_form host at (codes "proxy" ∷ key_text key ∷ device_words host) ≡ Ok (item.Proxy at key false)
unfolding del_form
del_proxy-again host at key h = rw (key_form-again host key h) refl

show-again : (shows : ℕ) (host : Host) (at : ℕ) → shows + 1 ≤ 32 → show_form shows host at (device_words host) ≡ Ok (item.Neigh at op.Show)
unfolding show_form
show-again shows host at few = rw (lt-leb 32 shows (omega arith), device_end-again host) refl

flush-again : (host : Host) (at : ℕ) → flush_form host at (device_words host) ≡ Ok (item.Neigh at op.Flush)
unfolding flush_form
flush-again host at = rw (device_end-again host) refl

confirm-again : (host : Host) (at : ℕ) (key : Key) → is_neighbour host key ≡ true → confirm_form host at (key_text key ∷ []) ≡ Ok (item.Neigh at (op.Confirm key))
unfolding confirm_form
confirm-again host at key h = rw (neighbour-again host key h) refl

pub send-again : (host : Host) (senders at sender : ℕ) (key : Key) (payload : List ℕ) → senders ≤ 16 → IsSendWithin host senders sender key payload → AreBytes payload
    → send_form senders host at (decimal sender ∷ key_text key ∷ hex_text payload ∷ []) ≡ Ok (item.Send at sender key payload)
unfolding send_form
send-again host senders at sender key payload few h bytes =
    rw (number-again 1 senders sender _ h.known.0 h.known.1 (omega (arith, h.known.1)), neighbour-again host key h.neighbour, payload-again payload bytes h.size) refl

-- an operation's words
pub op-again : (c : Context) (host : Host) (at : ℕ) (o : Op) → IsOpWithin host o → IsTypedOp o → c.shows + show_count o ≤ 32 → item_form c host at (op_words host o) ≡ Ok (item.Neigh at o)
unfolding item_form neigh_form op_words
op-again c host at (op.Add key mac given) h t few = add-again host at key mac given h t
op-again c host at (op.Change key mac given) h t few = change-again host at key mac given h t
op-again c host at (op.Replace key mac given) h t few = replace-again host at key mac given h t
op-again c host at (op.Del key) h t few = del-again host at key h
op-again c host at (op.Confirm key) h t few = confirm-again host at key h
op-again c host at op.Show h t few = show-again c.shows host at few
op-again c host at op.Flush h t few = flush-again host at
op-again c host at (op.Send key len) h t few = absurd h
op-again c host at (op.Arp key mac make solicited) h t few = absurd h
op-again c host at (op.Ns key mac) h t few = absurd h
op-again c host at (op.Na key mac router solicited overrides) h t few = absurd h
op-again c host at (op.Timer key) h t few = absurd h
op-again c host at op.Sweep h t few = absurd h
op-again c host at (op.Collect key) h t few = absurd h
