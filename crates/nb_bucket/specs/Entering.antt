-- What a bucket's helpers promise one another while an operation is entered. This project's own.
use Rattle.std.specs.Prelude.{◌≡◌, ℕ, ◌+◌, ◌<◌, ◌≤◌, true, List, ◌++◌, length, Option, is_some, IsTrue}
use Rattle.nb_base.specs.declared.key.Key.{Key}
use Rattle.nb_base.specs.declared.time.OpId.{OpId}
use Rattle.nb_base.specs.declared.params.Params.{Params}
use Rattle.nb_base.specs.declared.op.Op.{Op}
use Rattle.nb_base.specs.declared.line.Line.{Line}
use Rattle.nb_base.specs.declared.line.Reply.{Reply}
use Rattle.nb_journal.specs.Keys.{is_own}
use Rattle.nb_journal.specs.Fold.{state_of, known_keys}
use Rattle.nb_journal.specs.Lawful.{base_of, making, is_collectable, collected, asked_of_pass, IsLawful}
use Rattle.nb_journal.specs.Steps.{is_line_of_run}
use Rattle.journal_fold.specs.Taken.{Taken}
use Rattle.slot_links.specs.Lists.{Linked}
use Rattle.nb_bucket.specs.Making.{HoldsOrder}
use Rattle.nb_bucket.specs.Bucket.{Journal, most_lines, operation_line, brought, IsReplyTo}

-- those of the keys that a forced pass takes, where so many entries were seen
abbrev pub victims_of : Params → List Line → ℕ → ℕ → List Key → List Key
victims_of p lines seen at keys = collected p.gc_thresh2 seen (λ key. is_collectable at (state_of p lines key)) keys

-- an operation's line, which looked exactly where it is to make an entry, the key for which it does and the keys that its forced pass takes are known; there is room for its lines, and a node for its key
pub record IsReadyToWrite (fold : Taken) (order : Linked) (line : Line) (made : Option Key) (victims : List Key) : Type 0 where
  pub own : is_own line.op ≡ true
  pub step : IsTrue (is_line_of_run line)
  pub base : base_of fold.lines ≡ fold.lines
  pub made_is : made ≡ making fold.params fold.lines line
  pub there : is_some line.seen ≡ is_some (making fold.params fold.lines line)
  pub victims_are : victims ≡ asked_of_pass fold.params fold.lines line
  pub order_is : HoldsOrder fold.params fold.lines order
  pub node : length (known_keys fold.lines) < order.nodes
  pub few : length fold.lines + (length victims + 1) ≤ most_lines
  pub room : length victims < fold.room
  pub place : fold.has_place ≡ true

-- an operation is entered behind a lawful journal, at its clock
pub record IsEntered (old new : Journal) (at : ℕ) (id : OpId) (o : Op) (place : ℕ) (reply : Reply) : Type 0 where
  pub lawful_before : IsLawful old.params old.lines at
  pub seen : Option ℕ
  pub new_is : new ≡ record old { lines = old.lines ++ brought old.params old.lines (operation_line at id o seen); clock = at }
  pub lawful : IsLawful old.params new.lines at
  pub place_is : place + 1 ≡ length new.lines
  pub reply_is : IsReplyTo old.params old.lines (operation_line at id o seen) reply
