-- What the fold over a journal keeps: equations of lists over the lines that were taken. This project's own.
use Rattle.std.specs.Prelude.{◌≡◌, ◌-◌, ◌&&◌, nat_lt, is_some, IfSome, map, vec_len, vec_capacity}
use Rattle.std.specs.List.{AllByRecursion}
use Rattle.indexmap.specs.IndexSet.{spare}
use Rattle.nb_base.specs.Params.{InRange}
use Rattle.nud_machine.specs.State.{absent}
use Rattle.nb_journal.specs.Fold.{state_of, known_keys, present_count}
use Rattle.nb_journal.specs.Steps.{IsKept, state_in}
use Rattle.journal_fold.specs.declared.fold.Fold.TheInside.{Inside}
use Rattle.journal_fold.specs.Taken.{Taken}

abbrev pub taken_by : Inside → Taken
taken_by f = record {
  params = f.params;
  lines = f.lines.items;
  room = vec_capacity f.lines - vec_len f.lines;
  has_place = is_some f.next && nat_lt (vec_len f.kept) (vec_capacity f.kept) && nat_lt 0 (spare f.keys);
}

-- the keys are those that the lines make known, by rank; each has its state, and what holds of a state between lines; so many entries are present
pub record IsFold (f : Inside) : Type 0 where
  pub params : InRange f.params
  pub keys : f.keys.keys ≡ known_keys f.lines.items
  pub states : map state_in f.kept.items ≡ map (state_of f.params f.lines.items) (known_keys f.lines.items)
  pub kept : AllByRecursion (IsKept f.params) f.kept.items
  pub present : f.present ≡ present_count f.params f.lines.items
  -- the entry of a key that isn't known
  pub blank : IsKept f.params f.blank × (state_in f.blank ≡ absent)
  -- the parts of the next key lie ready
  pub next : IfSome f.next (λ kept. IsKept f.params kept × (state_in kept ≡ absent))
