-- A written script is read again.
use Rattle.std.proofs.Common.{◌≡◌, ℕ, ◌≤◌, ◌+◌, true, List, [], ◌∷◌, ◌++◌, length, map, Option, Some, None, refl, sym, ap, ◌∙◌, arith, append_assoc, append-nil}
use Rattle.std.specs.Prelude.{Ok, Result, sum_by}
use Rattle.std.specs.Option.{option_to_list}
use Rattle.std.specs.Int.{IsInRange}
use Rattle.std.specs.List.{join_with_byte, AllByRecursion}
use Rattle.std.proofs.lemmas.List.{length-append, length-map}
use Rattle.std.proofs.lemmas.List.Sums.{sum_by-cons}
use Rattle.nb_base.specs.declared.host.Host.{Host}
use Rattle.nb_base.specs.declared.params.Params.{Params}
use Rattle.nb_base.specs.Name.{is_name}
use Rattle.nb_base.specs.Params.{default_params}
use Rattle.text_codes.specs.Lines.{Words, IsLine}
use Rattle.text_codes.proofs.Lacking.{Each-weaker, word-line}
use Rattle.text_codes.proofs.Again.{lines_again}
use Rattle.neigh_script.specs.declared.why.ScriptFail.{ScriptFail}
use Rattle.neigh_script.specs.declared.context.Context.{Context}
use Rattle.neigh_script.specs.declared.parameter.Parameter.{Parameter}
use Rattle.neigh_script.specs.declared.script.Script.{Script}
use Rattle.neigh_script.specs.declared.script.ScriptItem.{ScriptItem}
use Rattle.neigh_script.specs.Parameter.{parameters, least, greatest, value_in, with_value}
use Rattle.neigh_script.specs.Context.{start, shows_in, behind}
use Rattle.neigh_script.specs.Fields as fields
use Rattle.neigh_script.specs.Lines.{words_line, lines_from, script_of}
use Rattle.neigh_script.specs.Written.{host_words, senders_words, param_words, item_words, script_rows, script_text}
use Rattle.neigh_script.specs.Limits.{IsTypedItem, IsItemWithin, AreInOrder, ScriptsAgain, TextsTellScripts}
use Rattle.neigh_script.proofs.WrittenSigns.{IsPrinted, printed-word}
use Rattle.neigh_script.proofs.WrittenLines.{head, host-again, senders-again, param-again, item-again, line-again}
use Rattle.neigh_script.proofs.WrittenRows.{IsPrintedRow, host-printed, senders-printed, param-printed, item-printed, params-within, rows-printed}

-- a row as its line
abbrev line : Words → List ℕ
line row = join_with_byte 32 row

-- one line more is read
step : (n : ℕ) (c : Context) (before : List ScriptItem) (row : Words) (rest : List (List ℕ)) (said : Context × Option ScriptItem) → n ≤ 131_072 → IsPrintedRow row → words_line c row ≡ Ok said
    → lines_from n c before (line row ∷ rest) ≡ lines_from (n + 1) said.0 (before ++ option_to_list said.1) rest
unfolding lines_from
step n c before row rest said few h e = rw (line-again n c row said few h e) refl

-- the items' lines, to the end
items-read : (n : ℕ) (c : Context) (host : Host) (before items : List ScriptItem) → c.host ≡ Some host → is_name host.dev ≡ true → c.senders ≤ 16
    → AreInOrder (fields.earliest c.last) items → AllByRecursion (IsItemWithin host c.senders) items → AllByRecursion IsTypedItem items → c.shows + sum_by shows_in items ≤ 32 → n + length items ≤ 131_073
    → lines_from n c before (map line (map (item_words host) items)) ≡ Ok (record { host = host; senders = c.senders; params = c.params; items = before ++ items })
unfolding lines_from
items-read n c host before [] own h few order each typed shows lines = rw (own, append-nil) refl
items-read n c host before (i ∷ items) own h few order each typed shows lines =
    let counted : c.shows + (shows_in i + sum_by shows_in items) ≤ 32 = rw sum_by-cons at shows in
    step n c before (item_words host i) (map line (map (item_words host) items)) (behind c i, Some i) (omega arith) (item-printed host c.senders i h few each.0 typed.0) (item-again c host i own few order.0 each.0 typed.0 (omega (arith, counted)))
    ∙ items-read (n + 1) (behind c i) host (before ++ i ∷ []) items own h few order.1 each.1 typed.1 (omega (arith, counted)) (omega arith)
    ∙ ap (λ (is : List ScriptItem). Ok (record { host = host; senders = c.senders; params = c.params; items = is })) (append_assoc before (i ∷ []) items)

-- the parameters with these of others set
abbrev set_all : Params → List Parameter → Params → Params
set_all params [] before = before
set_all params (p ∷ ps) before = set_all params ps (with_value p (value_in params p) before)

-- the parameters' lines
params-read : (n : ℕ) (host : Option Host) (senders : ℕ) (before params : Params) (ps : List Parameter) (rest : List (List ℕ))
    → AllByRecursion (λ p. IsInRange (least p) (greatest p) (value_in params p)) ps → n + length ps ≤ 131_073
    → lines_from n (head host senders before) [] (map line (map (param_words params) ps) ++ rest) ≡ lines_from (n + length ps) (head host senders (set_all params ps before)) [] rest
params-read n host senders before params [] rest each few = ap (λ (m : ℕ). lines_from m (head host senders before) [] rest) (omega arith)
params-read n host senders before params (p ∷ ps) rest each few =
    step n (head host senders before) [] (param_words params p) (map line (map (param_words params) ps) ++ rest) (head host senders (with_value p (value_in params p) before), None) (omega arith) (param-printed params p each.0) (param-again host senders before params p each.0)
    ∙ params-read (n + 1) host senders (with_value p (value_in params p) before) params ps rest each.1 (omega arith)
    ∙ ap (λ (m : ℕ). lines_from m (head host senders (set_all params (p ∷ ps) before)) [] rest) (omega arith)

map_append : (f : Words → List ℕ) (xs ys : List Words) → map f (xs ++ ys) ≡ map f xs ++ map f ys
map_append f [] ys = refl
map_append f (x ∷ xs) ys = ap (λ (zs : List (List ℕ)). f x ∷ zs) (map_append f xs ys)

-- the host, the senders and the 14 parameters have one line each
few : (s : Script) → length (script_rows s) ≤ 131_072 → 17 + length s.items ≤ 131_073
unfolding script_rows
few s short = omega (arith, length-append (map (param_words s.params) parameters) (map (item_words s.host) s.items), length-map s.items (item_words s.host))

pub scripts_again : ScriptsAgain
unfolding script_of script_text script_rows
scripts_again s r =
    let h = r.within in
    let lines = lines_again (script_rows s) (Each-weaker IsPrintedRow (AllByRecursion IsLine) (Each-weaker IsPrinted IsLine (λ w p. word-line w (printed-word w p))) (script_rows s) (rows-printed s r)) in
    let params : List (List ℕ) = map line (map (param_words s.params) parameters) in
    let items : List (List ℕ) = map line (map (item_words s.host) s.items) in
    ap (lines_from 1 start []) lines
    ∙ step 1 start [] (host_words s.host) _ (head (Some s.host) 1 default_params, None) (omega arith) (host-printed s.host h.dev r.typed.host) (host-again 1 default_params s.host h.dev r.typed.host)
    ∙ step 2 (head (Some s.host) 1 default_params) [] (senders_words s.senders) _ (head (Some s.host) s.senders default_params, None) (omega arith) (senders-printed s.senders h.senders) (senders-again (Some s.host) 1 s.senders default_params h.senders)
    ∙ ap (lines_from 3 (head (Some s.host) s.senders default_params) []) (map_append line (map (param_words s.params) parameters) (map (item_words s.host) s.items))
    ∙ params-read 3 (Some s.host) s.senders default_params s.params parameters items (params-within s.params h.params) (omega arith)
    ∙ items-read 17 (head (Some s.host) s.senders s.params) s.host [] s.items refl h.dev h.senders.1 h.order h.items r.typed.items (let shows = h.shows in omega arith) (few s r.short)

pub texts_tell_scripts : TextsTellScripts
texts_tell_scripts = record { tells = λ s t hs ht e. told s t (sym (scripts_again s hs) ∙ ap script_of e ∙ scripts_again t ht) }
  where
    told : (s t : Script) → ◌≡◌ {A = Result Script ScriptFail} (Ok s) (Ok t) → s ≡ t
    told s t e = cc
