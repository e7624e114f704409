-- What the tokens of the header cell's two forms show, one beside the other (this project's own).
use Rattle.std.specs.Prelude.{◌≡◌, ℕ, if◌then◌else◌, List, map, Option, Some, None}
use Rattle.std.specs.List.{filter}
use Rattle.nb_base.specs.declared.record.Record.{Record}
use Rattle.hh_core.specs.Step.{is_good}
use Rattle.hh_cell.specs.Shown.{Seen, PassShown, WriterShown}

-- a record's number, and its header where the record may be used
abbrev pub numbered : ℕ × Record → ℕ × Option (List ℕ)
numbered k = (k.0, if k.1.usable then Some k.1.header else None)

-- the same records and the same good tries were seen; tries of the running form may have failed between
pub record SawTheSame (s t : Seen) : Type 0 where
  pub known : map numbered s.known ≡ map numbered t.known
  pub tries : filter is_good s.tries ≡ filter is_good t.tries

-- two passes
pub record ReadTheSame (p q : PassShown) : Type 0 where
  pub floor : p.floor ≡ q.floor
  pub seen : SawTheSame p.seen q.seen

-- what two writers took in last
abbrev pub LodgedTheSame : Option Seen → Option Seen → Type 0
LodgedTheSame None None = Unit {0}
LodgedTheSame (Some s) (Some t) = SawTheSame s t
LodgedTheSame _ _ = ⊥

-- two writers
pub record PublishedTheSame (v w : WriterShown) : Type 0 where
  pub published : v.published ≡ w.published
  pub lodged : LodgedTheSame v.lodged w.lodged
