-- The fields of a census that one bucket has alone, as contracts see them.
use Rattle.std.specs.Prelude.{◌≡◌, ◌+◌, ◌-◌, ◌^◌, ◌≤◌, length}
use Rattle.nb_census.specs.declared.plain.PlainCensus.TheInside as plain
use Rattle.change_order.specs.Ticks.{IsLater}
use Rattle.nb_census.specs.Shown.{PlainShown}

abbrev pub plain_shown : plain.Inside → PlainShown
plain_shown p = record { share = p.share; others = p.total - p.share; changes = p.changes.items; looks = p.looks.items }

-- the share is within its limits, and the next tick is behind all changes and looks, of which it counts the changes
pub record IsPlain (p : plain.Inside) : Type 0 where
  pub small : p.share ≤ 2 ^ 22
  pub within : p.share ≤ p.total
  pub others : p.total ≤ p.share + 2 ^ 28
  pub count : length p.changes.items ≡ p.made
  pub later : IsLater p.made p.changes.items p.looks.items
