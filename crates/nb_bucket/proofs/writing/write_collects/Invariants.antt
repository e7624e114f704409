use Rattle.std.proofs.Common.{◌≡◌, ◌+◌, ◌≤◌, ◌++◌, true, take, length}
use Rattle.std.specs.Prelude.{map}
use Rattle.nb_journal.specs.Fold.{known_keys}
use Rattle.nb_journal.specs.Lawful.{collect_line}
use Rattle.nb_bucket.specs.Counting.{shown, CountsCollects}
use Rattle.nb_bucket.specs.Dues.{AreArmed}
use Rattle.nb_bucket.specs.Making.{HoldsOrder}
use Rattle.nb_bucket.proofs.writing.write_collects.Given as goal

abbrev pub invariant-loop-key : goal.invariant-loop-key
invariant-loop-key g l = record {
  lines : l.fold.lines ≡ l.fn.fold.lines ++ map (collect_line l.at) (take l.key-index l.victims);
  params : l.fold.params ≡ l.fn.fold.params;
  room : l.fn.fold.room ≤ l.fold.room + l.key-index;
  place : l.fold.has_place ≡ true;
  order : HoldsOrder l.fold.params l.fold.lines l.order;
  nodes : l.order.nodes ≡ l.fn.order.nodes;
  known : length (known_keys l.fold.lines) ≡ length (known_keys l.fn.fold.lines);
  armed : AreArmed l.fold.params l.fold.lines l.timers;
  passed : l.timers.now ≡ l.fn.timers.now;
  timers : length l.timers.dues ≡ length l.fn.timers.dues;
  counted : CountsCollects l.fn.fold.params l.fn.fold.lines (map (collect_line l.at) (take l.key-index l.victims)) (shown g.C.Census.name g.C.Census.share g.C.Census.changes g.C.Census.looks g.C.Census.others l.fn.census) (shown g.C.Census.name g.C.Census.share g.C.Census.changes g.C.Census.looks g.C.Census.others l.census);
}
