-- Lines keep the limits of a script, one by one.
use Rattle.std.proofs.Common.{◌≡◌, ℕ, ◌+◌, ◌≤◌, Bool, true, false, List, [], ◌∷◌, ◌++◌, Option, Some, None, refl, sym, ap, subst, ◌∙◌, arith, ◌<◌, length, length-append}
use Rattle.std.specs.Prelude.{IfSome, IsSomeAnd, is_some, sum_by}
use Rattle.std.specs.Option.{option_to_list}
use Rattle.std.specs.Prelude.{Result, Ok, Err, IfOk}
use Rattle.neigh_script.specs.declared.why.ScriptFail.{ScriptFail}
use Rattle.neigh_script.specs.declared.script.Script.{Script}
use Rattle.std.specs.List.{AllByRecursion}
use Rattle.std.proofs.lemmas.List.Sums.{sum_by-append}
use Rattle.nb_base.specs.declared.host.Host.{Host}
use Rattle.nb_base.specs.Params.{default_params}
use Rattle.nb_base.proofs.Defaults.{default_in_range}
use Rattle.text_codes.proofs.Each.{Each-append}
use Rattle.neigh_script.specs.declared.context.Context.{Context}
use Rattle.neigh_script.specs.declared.script.ScriptItem.{ScriptItem}
use Rattle.neigh_script.specs.Context.{start, behind, at_of, shows_in}
use Rattle.neigh_script.specs.Fields.{earliest}
use Rattle.nb_base.specs.declared.op.Op.{Op}
use Rattle.nb_base.specs.declared.op.Op.TheVariants as op
use Rattle.neigh_script.specs.declared.script.ScriptItem.TheVariants as item
use Rattle.neigh_script.specs.Written.{is_script_op, IsScriptItem}
use Rattle.neigh_script.specs.Limits.{IsOpWithin, IsHeadBehind, IsItemBehind, IsItemWithin, IsLineBehind, AreInOrder, last_at, AreAbove}

order_more : (from : ℕ) (items : List ScriptItem) (item : ScriptItem) → AreInOrder from items → last_at from items ≤ at_of item → AreInOrder from (items ++ item ∷ [])
order_more from [] item h le = (le, tt {0})
order_more from (x ∷ items) item h le = (h.0, order_more (at_of x) items item h.1 le)

last_more : (from : ℕ) (items : List ScriptItem) (item : ScriptItem) → last_at from (items ++ item ∷ []) ≡ at_of item
last_more from [] item = refl
last_more from (x ∷ items) item = last_more (at_of x) items item

shows_more : (items : List ScriptItem) (item : ScriptItem) → sum_by shows_in (items ++ item ∷ []) ≡ sum_by shows_in items + shows_in item
shows_more items item = let one : sum_by shows_in (item ∷ []) ≡ shows_in item = omega arith in sum_by-append shows_in items (item ∷ []) ∙ ap (λ (n : ℕ). sum_by shows_in items + n) one

items_more : (host : Option Host) (senders : ℕ) (items : List ScriptItem) (item : ScriptItem) (P : Host → Type 0)
    → IfSome host (λ h. AllByRecursion (IsItemWithin h senders) items) → IsSomeAnd host P → ((h : Host) → P h → IsItemWithin h senders item)
    → IfSome host (λ h. AllByRecursion (IsItemWithin h senders) (items ++ item ∷ []))
items_more None senders items item P each one within = absurd one
items_more (Some h) senders items item P each one within = Each-append (IsItemWithin h senders) items (item ∷ []) each (within h one, tt {0})

some_fact : (host : Option Host) (P : Host → Type 0) (Q : Type 0) → IsSomeAnd host P → ((h : Host) → P h → Q) → Q
some_fact None P Q one then = absurd one
some_fact (Some h) P Q one then = then h one

no_items : (host : Option Host) (senders : ℕ) → IfSome host (λ h. AllByRecursion (IsItemWithin h senders) [])
no_items None senders = tt {0}
no_items (Some h) senders = tt {0}

item_above : (c : Context) (items : List ScriptItem) (item : ScriptItem) → AreAbove c items → IsSomeAnd c.host (λ host. IsItemBehind c host item) → AreAbove (behind c item) (items ++ item ∷ [])
item_above c items item above one = record {
  within = record { dev = above.within.dev; senders = above.within.senders; params = above.within.params };
  none = λ e. absurd cc;
  each = items_more c.host c.senders items item (λ host. IsItemBehind c host item) above.each one (λ h b. b.within);
  order = order_more 0 items item above.order (subst (λ (n : ℕ). n ≤ at_of item) (sym above.at) (some_fact c.host (λ host. IsItemBehind c host item) (earliest c.last ≤ at_of item) one (λ h b. b.later)));
  at = last_more 0 items item;
  counted = shows_more items item ∙ ap (λ (n : ℕ). n + shows_in item) above.counted;
  few = some_fact c.host (λ host. IsItemBehind c host item) (c.shows + shows_in item ≤ 32) one (λ h b. b.few above.few);
}

head_above : (c next : Context) (items : List ScriptItem) (b : Bool) → is_some c.last ≡ b → AreAbove c items → IsHeadBehind c next → AreAbove next items
head_above c next items true e above head = subst (λ (n : Context). AreAbove n items) (sym (head.above e)) above
head_above c next items false e above head =
    let none : items ≡ [] = above.none e in
    record {
      within = head.within above.within;
      none = λ _. none;
      each = subst (λ (xs : List ScriptItem). IfSome next.host (λ h. AllByRecursion (IsItemWithin h next.senders) xs)) (sym none) (no_items next.host next.senders);
      order = above.order;
      at = above.at ∙ ap earliest (sym head.last);
      counted = above.counted ∙ sym head.shows;
      few = subst (λ (n : ℕ). n ≤ 32) (sym head.shows) above.few;
    }

append-none : (items : List ScriptItem) → items ≡ items ++ []
append-none [] = refl
append-none (x ∷ items) = ap (λ (xs : List ScriptItem). x ∷ xs) (append-none items)

-- one more line
pub line_above : (c next : Context) (items : List ScriptItem) (item : Option ScriptItem) → AreAbove c items → IsLineBehind c next item → AreAbove next (items ++ option_to_list item)
line_above c next items None above line = subst (λ (xs : List ScriptItem). AreAbove next xs) (append-none items) (head_above c next items (is_some c.last) refl above line)
line_above c next items (Some item) above line = subst (λ (n : Context). AreAbove n (items ++ item ∷ [])) (sym line.0) (item_above c items item above line.1)

-- above the first line
pub start_above : AreAbove start []
start_above = record {
  within = record { dev = tt {0}; senders = (omega arith, omega arith); params = default_in_range };
  none = λ _. refl;
  each = tt {0};
  order = tt {0};
  at = refl;
  counted = refl;
  few = omega arith;
}

op_written : (host : Host) (o : Op) → IsOpWithin host o → is_script_op o ≡ true
op_written host (op.Add key mac nud) h = refl
op_written host (op.Change key mac nud) h = refl
op_written host (op.Replace key mac nud) h = refl
op_written host (op.Del key) h = refl
op_written host (op.Confirm key) h = refl
op_written host op.Show h = refl
op_written host op.Flush h = refl
op_written host (op.Send key len) h = absurd h
op_written host (op.Arp key mac make solicited) h = absurd h
op_written host (op.Ns key mac) h = absurd h
op_written host (op.Na key mac router solicited overrides) h = absurd h
op_written host (op.Timer key) h = absurd h
op_written host op.Sweep h = absurd h
op_written host (op.Collect key) h = absurd h

item_written : (host : Host) (senders : ℕ) (item : ScriptItem) → IsItemWithin host senders item → IsScriptItem item
item_written host senders (item.Neigh at o) h = op_written host o h.1
item_written host senders (item.Proxy at key add) h = refl
item_written host senders (item.Send at sender key payload) h = refl

-- items within the limits may be written
pub items_written : (host : Host) (senders : ℕ) (items : List ScriptItem) → AllByRecursion (IsItemWithin host senders) items → AllByRecursion IsScriptItem items
items_written host senders [] h = tt {0}
items_written host senders (item ∷ items) h = (item_written host senders item h.0, items_written host senders items h.1)

-- a line has at most one item
pub items_few : (items : List ScriptItem) (item : Option ScriptItem) (number : ℕ) → length items < number → length (items ++ option_to_list item) < number + 1
items_few items None number h = omega (arith, h, length-append items [])
items_few items (Some item) number h = omega (arith, h, length-append items (item ∷ []))

pub at_most : (r : Result Script ScriptFail) (items : List ScriptItem) → IfOk r (λ script. script.items ≡ items) → length items ≤ 131_072 → IfOk r (λ script. length script.items ≤ 131_072)
at_most (Ok script) items same few = subst (λ (xs : List ScriptItem). length xs ≤ 131_072) (sym same) few
at_most (Err fail) items same few = tt {0}
