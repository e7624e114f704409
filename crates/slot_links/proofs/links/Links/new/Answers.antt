-- The places are the ends of empty lists.
use Rattle.std.proofs.Common.{◌≡◌, List, ℕ, [], replicate, subst, ap}
use Rattle.slot_links.specs.declared.places.Place.{Place}
use Rattle.slot_links.specs.Lists.{Linked}
use Rattle.slot_links.specs.Places.{Extends, Holds}
use Rattle.slot_links.proofs.Shows.{lists_shown, holds_shown, stand_once}
use Rattle.slot_links.proofs.Changes.{holds_first}
use Rattle.slot_links.proofs.links.Links.new.Goals as goal

first_places : (ends : ℕ) (old new : List Place) → old ≡ [] → Extends ends old new → Holds ends 0 new (replicate ends [])
first_places ends old new none a = let F : List Place → Type 0 = λ places. Extends ends places new in holds_first ends new (subst F none a)

pub invariant_of-result : goal.invariant_of-result
invariant_of-result c = holds_shown c.args.lists 0 c.extend.new.places.items (replicate c.args.lists []) (first_places c.args.lists c.new-places.result.items c.extend.new.places.items c.new-places.ensures.items c.in_ok-extend.ensures.ok)

abbrev with_none : List (List ℕ) → Linked
with_none lists = record { lists = lists; nodes = 0 }

pub returns-clause-made : goal.returns-clause-made
returns-clause-made c = ap with_none (lists_shown c.args.lists 0 c.extend.new.places.items (replicate c.args.lists []) (first_places c.args.lists c.new-places.result.items c.extend.new.places.items c.new-places.ensures.items c.in_ok-extend.ensures.ok))

pub returns-clause-once : goal.returns-clause-once
returns-clause-once c = stand_once c.args.lists 0 c.extend.new.places.items _ (holds_shown c.args.lists 0 c.extend.new.places.items (replicate c.args.lists []) (first_places c.args.lists c.new-places.result.items c.extend.new.places.items c.new-places.ensures.items c.in_ok-extend.ensures.ok))
