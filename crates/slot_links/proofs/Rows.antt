-- The definitions at small lists.
use Rattle.std.proofs.Common.{◌≡◌, [], ◌∷◌, replicate, Some, None, refl}
use Rattle.slot_links.specs.Lists.{holder, next_of, put_back, take_out}
use Rattle.slot_links.specs.Places.{walk, lists_in}

-- three nodes are put in a list, the middle one is taken out, and put at the end
three_put : put_back (put_back (put_back (replicate 1 []) 0 5) 0 3) 0 8 ≡ (5 ∷ 3 ∷ 8 ∷ []) ∷ []
three_put = refl

middle_out : take_out ((5 ∷ 3 ∷ 8 ∷ []) ∷ []) 3 ≡ (5 ∷ 8 ∷ []) ∷ []
middle_out = refl

out_twice : take_out ((5 ∷ 8 ∷ []) ∷ []) 3 ≡ (5 ∷ 8 ∷ []) ∷ []
out_twice = refl

put_again : put_back ((5 ∷ 8 ∷ []) ∷ []) 0 3 ≡ (5 ∷ 8 ∷ 3 ∷ []) ∷ []
put_again = refl

-- of two lists one has the node
first_holds : holder ((5 ∷ 3 ∷ 8 ∷ []) ∷ (1 ∷ 6 ∷ []) ∷ []) 8 ≡ Some 0
first_holds = refl

second_holds : holder ((5 ∷ 3 ∷ 8 ∷ []) ∷ (1 ∷ 6 ∷ []) ∷ []) 1 ≡ Some 1
second_holds = refl

none_holds : holder ((5 ∷ 3 ∷ 8 ∷ []) ∷ (1 ∷ 6 ∷ []) ∷ []) 7 ≡ None
none_holds = refl

-- what stands behind a node is of its own list
next_in_list : next_of ((5 ∷ 3 ∷ 8 ∷ []) ∷ (1 ∷ 6 ∷ []) ∷ []) 3 ≡ Some 8
next_in_list = refl

none_behind_the_last : next_of ((5 ∷ 3 ∷ 8 ∷ []) ∷ (1 ∷ 6 ∷ []) ∷ []) 8 ≡ None
none_behind_the_last = refl

none_behind_no_node : next_of ((5 ∷ 3 ∷ 8 ∷ []) ∷ (1 ∷ 6 ∷ []) ∷ []) 7 ≡ None
none_behind_no_node = refl

-- two ends and three nodes: the nodes 2 and 0 are in the second list
places_of_two : lists_in 2 (record { previous = 0; next = 0; list = None } ∷ record { previous = 2; next = 4; list = None } ∷ record { previous = 4; next = 1; list = Some 1 } ∷ record { previous = 3; next = 3; list = None } ∷ record { previous = 1; next = 2; list = Some 1 } ∷ []) ≡ [] ∷ (2 ∷ 0 ∷ []) ∷ []
unfolding lists_in walk
places_of_two = refl
