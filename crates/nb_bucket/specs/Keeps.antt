-- What a bucket's fields are between its calls: they follow from its journal. This project's own.
use Rattle.std.specs.Prelude.{◌≡◌, ℕ, ◌<◌, ◌≤◌, List, length, vec_capacity}
use Rattle.nb_base.specs.declared.params.Params.{Params}
use Rattle.nb_base.specs.declared.line.Line.{Line}
use Rattle.nb_base.specs.Params.{InRange}
use Rattle.nud_machine.specs.Asked.{greatest}
use Rattle.nb_journal.specs.Lawful.{IsSweepMoment, before_sweep, HasSweep, last_pass}
use Rattle.nb_bucket.specs.Bucket.{Journal, Stands, most_lines}
use Rattle.nb_bucket.specs.Dues.{AreArmed}
use Rattle.nb_bucket.specs.Making.{HoldsOrder}
use Rattle.nb_bucket.specs.declared.bucket.Bucket.TheInside.{Inside}

abbrev pub journal_of : Inside → Journal
journal_of b = record { params = b.fold.params; limit = b.limit; lines = b.fold.lines; clock = b.clock }

-- the next sweep's moment: a multiple of the interval, before which all lines stand; each multiple below it has its sweep, and isn't behind the clock
pub record IsNextSweep (p : Params) (lines : List Line) (clock next : ℕ) : Type 0 where
  pub moment : IsSweepMoment p next
  pub before : lines ≡ before_sweep next lines
  pub swept : (u : ℕ) → IsSweepMoment p u → u < next → HasSweep u lines
  pub passed : (u : ℕ) → IsSweepMoment p u → u < next → u ≤ clock

-- what holds of a bucket's fields between its calls
pub record FollowsJournal (p : Params) (limit : ℕ) (lines : List Line) (clock next_sweep pass : ℕ) : Type 0 where
  pub params : InRange p
  pub few : length lines ≤ limit
  pub most : limit ≤ most_lines
  pub in_run : clock ≤ greatest
  pub stands : Stands p lines clock
  pub next : IsNextSweep p lines clock next_sweep
  -- the moment of the last forced pass
  pub last : pass ≡ last_pass p lines
  pub early : pass ≤ greatest

-- and the order of making; there is room for all keys that a forced pass can take, and for all ranks that a sweep goes over
pub record IsBucket (b : Inside) : Type 0 where
  pub follows : FollowsJournal b.fold.params b.limit b.fold.lines b.clock b.next_sweep b.last_pass
  pub order : HoldsOrder b.fold.params b.fold.lines b.order
  pub victims : b.order.nodes ≤ vec_capacity b.victims
  pub ranks : b.order.nodes ≤ vec_capacity b.ranks
  -- the timers are those of the known keys, and their moment isn't behind the clock
  pub armed : AreArmed b.fold.params b.fold.lines b.timers
  pub passed : b.timers.now ≤ b.clock
