-- The fields of linked lists: what they show, and what holds of them.
use Rattle.slot_links.specs.declared.links.Links.TheInside.{Inside}
use Rattle.slot_links.specs.Lists.{Linked}
use Rattle.slot_links.specs.Places.{lists_in, Holds}

abbrev pub linked_in : Inside → Linked
linked_in links = record { lists = lists_in links.lists links.places.items; nodes = links.nodes }

abbrev pub HoldsLists : Inside → Type 0
HoldsLists links = Holds links.lists links.nodes links.places.items (lists_in links.lists links.places.items)
