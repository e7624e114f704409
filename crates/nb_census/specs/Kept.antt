-- The rule of a headcount: its word and all views show one list of parts, one for each bucket (this project's own).
use Rattle.std.specs.Prelude.{◌≡◌, ℕ, suc, ◌+◌, ◌*◌, ◌/◌, ◌%◌, ◌^◌, ◌<◌, ◌≤◌, List, [], ◌∷◌, length, Some, IfSome}
use Rattle.std.specs.List.{AllByRecursion as Each}
use mathlib.Core.Option.{some}
use lib.ListN.{get_elem?}
use Rattle.change_order.specs.declared.part.Part.{Part}
use Rattle.change_order.specs.Ticks.{total_by, share_of, IsLater}
use Rattle.change_order.specs.Counted.{changes_in, AreCounted}
use Rattle.nb_census.specs.declared.view.View.{View}

-- the sum of all shares
abbrev pub shares_in : List Part → ℕ
shares_in parts = total_by (λ p. share_of p.changes) parts

-- a bucket's share and number of changes are within their limits
pub record IsSmall (p : Part) : Type 0 where
  pub share : share_of p.changes ≤ 2 ^ 22
  pub count : length p.changes ≤ 2 ^ 22

-- a view's part is that of its bucket, and stands at the seat that has the bucket's part
pub record IsPlaced (parts : List Part) (seat_of : ℕ → ℕ) (at : ℕ) (p : Part) : Type 0 where
  pub seat : seat_of p.bucket ≡ at
  pub there : get_elem? parts p.bucket ≡ some p

-- what the token of this seat shows: the maker's the number of buckets, and each its parts
pub record Shows (parts : List Part) (desk : ℕ) (seat_of : ℕ → ℕ) (at : ℕ) (v : View) : Type 0 where
  pub making : IfSome v.made (λ n. (at ≡ desk) × (n ≡ length parts))
  pub placed : Each (IsPlaced parts seat_of at) v.parts

-- a part stands in the view of this seat
pub record Stands (views : List View) (at : ℕ) (p : Part) : Type 0 where
  pub holder : View
  pub there : get_elem? views at ≡ some holder
  pub place : ℕ
  pub held : get_elem? holder.parts place ≡ some p

-- the rule:
-- * the word is 2^32 times the number of all changes, plus the sum of all shares;
-- * each number below that of all changes is the tick of exactly one, and each bucket's ticks and looks' values are in order;
-- * there are at most 64 buckets, each with a share and a number of changes of at most 2^22, so that the word stays below 2^64;
-- * each bucket's part stands in exactly one view, that of the seat which seat_of names; a spent view has none
pub record Kept (cells : List ℕ) (views : List View) : Type 0 where
  pub parts : List Part
  pub desk : ℕ
  pub seat_of : ℕ → ℕ
  pub word : cells ≡ (changes_in parts * 2 ^ 32 + shares_in parts) ∷ []
  pub counted : AreCounted parts
  pub few : length parts ≤ 64
  pub small : (b : ℕ) (p : Part) → get_elem? parts b ≡ some p → IsSmall p
  pub shown : (at : ℕ) (v : View) → get_elem? views at ≡ some v → Shows parts desk seat_of at v
  pub stands : (b : ℕ) (p : Part) → get_elem? parts b ≡ some p → Stands views (seat_of b) p

-- what a step of a seat tells, where the word was n: its tick is behind all that the seat did, and the sum is at least the seat's share
pub record StepTells (n : ℕ) (p : Part) : Type 0 where
  pub later : IsLater (n / 2 ^ 32) p.changes p.looks
  pub share : share_of p.changes ≤ n % 2 ^ 32

-- these parts are those of the buckets from this one on
abbrev pub AreNumbered : ℕ → List Part → Type 0
AreNumbered b [] = Unit {0}
AreNumbered b (p ∷ ps) = (p.bucket ≡ b) × AreNumbered (suc b) ps

-- what the maker's look tells: where it has taken in the parts of all buckets, in order of number, these are the rule's
abbrev pub LookTells : View → Type 0
LookTells v = IfSome v.made (λ n. AreNumbered 0 v.parts → length v.parts ≡ n → AreCounted v.parts)

-- this may be added for a bucket with these changes: one more change, and a share within its limits
pub record CanChange (k : ℕ) (changes : List (ℕ × ℕ)) : Type 0 where
  pub count : length changes < 2 ^ 22
  pub most : k ≤ 2 ^ 32 + 2 ^ 22
  pub least : 2 ^ 32 ≤ share_of changes + k
  pub share : share_of changes ≤ 2 ^ 22 → share_of changes + k ≤ 2 ^ 32 + 2 ^ 22

-- the maker has made fewer than 64 seats
abbrev pub IsRoom : View → Type 0
IsRoom v = (n : ℕ) × (v.made ≡ Some n) × (n < 64)
