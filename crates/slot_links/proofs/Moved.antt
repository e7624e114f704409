-- What is shown after a node is put at the end of a list or taken out.
use Rattle.std.proofs.Common.{◌≡◌, ℕ, ◌+◌, ◌<◌, List, length, None, sym, ap, ap₂, subst, arith}
use Rattle.slot_links.specs.declared.places.Place.{Place}
use Rattle.slot_links.specs.Lists.{Linked, holder, put_back, take_out}
use Rattle.slot_links.specs.Places.{lists_in, Appends, Removes, Holds}
use Rattle.slot_links.proofs.Shows.{lists_shown, holds_shown}
use Rattle.slot_links.proofs.Changes.{holds_append, holds_remove}
use Rattle.slot_links.proofs.Looks.{shows}

-- lists and nodes as they are shown
abbrev linked : List (List ℕ) → ℕ → Linked
linked lists nodes = record { lists = lists; nodes = nodes }

module _ (ends nodes : ℕ) (old new : List Place) (shown : Linked)
    (v : ◌≡◌ {A = Linked} (record { lists = lists_in ends old; nodes = nodes }) shown)
    (h : Holds ends nodes old (lists_in ends old)) where
  same_nodes : nodes ≡ shown.nodes
  same_nodes = ap (λ (s : Linked). s.nodes) v

  with_nodes : (lists : List (List ℕ)) → Holds ends shown.nodes new lists → Holds ends nodes new lists
  with_nodes lists holds = let F : ℕ → Type 0 = λ n. Holds ends n new lists in subst F (sym same_nodes) holds

  module _ (list node : ℕ) (list_small : list < length shown.lists) (node_small : node < shown.nodes) (free : holder shown.lists node ≡ None) (a : Appends list (ends + node) old new) where
    put_holds : Holds ends nodes new (put_back shown.lists list node)
    put_holds =
        let now : Holds ends shown.nodes old shown.lists = shows ends nodes old shown v h in
        with_nodes (put_back shown.lists list node) (holds_append ends shown.nodes old new shown.lists list node now (omega (arith, list_small, now.lists_len)) node_small free a)

    pub put_kept : Holds ends nodes new (lists_in ends new)
    put_kept = holds_shown ends nodes new (put_back shown.lists list node) put_holds

    pub put_shown : ◌≡◌ {A = Linked} (record { lists = lists_in ends new; nodes = nodes }) (record { lists = put_back shown.lists list node; nodes = shown.nodes })
    put_shown = ap₂ linked (lists_shown ends nodes new (put_back shown.lists list node) put_holds) same_nodes

  module _ (node : ℕ) (node_small : node < shown.nodes) (a : Removes (ends + node) old new) where
    out_holds : Holds ends nodes new (take_out shown.lists node)
    out_holds = with_nodes (take_out shown.lists node) (holds_remove ends shown.nodes old new shown.lists node (shows ends nodes old shown v h) node_small a)

    pub out_kept : Holds ends nodes new (lists_in ends new)
    out_kept = holds_shown ends nodes new (take_out shown.lists node) out_holds

    pub out_shown : ◌≡◌ {A = Linked} (record { lists = lists_in ends new; nodes = nodes }) (record { lists = take_out shown.lists node; nodes = shown.nodes })
    out_shown = ap₂ linked (lists_shown ends nodes new (take_out shown.lists node) out_holds) same_nodes
