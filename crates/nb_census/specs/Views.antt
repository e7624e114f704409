-- What a token of a headcount knows, and how each kind of step changes it (this project's own).
use Rattle.std.specs.Prelude.{ℕ, suc, ◌+◌, ◌-◌, ◌/◌, ◌%◌, ◌^◌, List, [], ◌∷◌, ◌++◌, Some, None}
use Rattle.std.specs.Option.{option_map, unwrap_or}
use Rattle.change_order.specs.declared.part.Part.{Part}
use Rattle.change_order.specs.Ticks.{share_of}
use Rattle.change_order.specs.Growing.{blank, with_change}
use Rattle.nb_census.specs.declared.view.View.{View}

-- the part with one more look
abbrev pub with_look : ℕ → ℕ → Part → Part
with_look tick value p = record p { looks = p.looks ++ (tick, value) ∷ [] }

-- a seat's one part
abbrev pub first_part : List Part → Part
first_part [] = blank 0
first_part (p ∷ ps) = p

-- a share after this number was added to the word, of which 2^32 stands for one change
abbrev pub share_after : ℕ → ℕ → ℕ
share_after k share = share + k - 2 ^ 32

-- a change of the token's part, where the word was n and k was added
abbrev pub changes_by : ℕ → ℕ → View → View
changes_by k n v = record v { parts = with_change (n / 2 ^ 32) (share_after k (share_of (first_part v.parts).changes)) (first_part v.parts) ∷ [] }

-- a look of the token's part, where the word was n
abbrev pub looks_at : ℕ → View → View
looks_at n v = record v { parts = with_look (n / 2 ^ 32) (n % 2 ^ 32) (first_part v.parts) ∷ [] }

-- a token that knows nothing
abbrev pub spent : View
spent = record { made = None; parts = [] }

-- the maker's token before it has made a seat
abbrev pub first_view : View
first_view = record { made = Some 0; parts = [] }

-- the maker's token after it has made one more seat
abbrev pub who_makes : View → View
who_makes v = record v { made = option_map suc v.made }

-- the token of the seat that was made
abbrev pub who_comes : View → View
who_comes v = record { made = None; parts = blank (unwrap_or v.made 0) ∷ [] }

-- the maker takes in a seat's part, in front of those that it has
abbrev pub takes_in : View → View → View
takes_in v w = record v { parts = w.parts ++ v.parts }
