use Rattle.std.proofs.Common.{◌≡◌, ℕ, ◌≤◌, vec_len, vec_capacity}
use Rattle.slot_links.specs.Places.{place_at}
use Rattle.slot_links.proofs.places.extend.Given as goal

abbrev pub invariant-loop-at : goal.invariant-loop-at
invariant-loop-at l = record {
  len : vec_len l.places ≡ l.at;
  room : l.len ≤ vec_capacity l.places;
  place : (i : ℕ) → place_at l.places.items i ≡ place_at l.fn.places.items i;
}
