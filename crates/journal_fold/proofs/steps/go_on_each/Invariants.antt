use Rattle.std.proofs.Common.{◌≡◌, [], ◌∷◌, ◌++◌, map, take}
use Rattle.std.specs.List.{AllByRecursion, flat_map}
use Rattle.nb_journal.specs.Steps.{IsKept, state_in}
use Rattle.nb_journal.specs.Fold.{state_of, acts_of}
use Rattle.journal_fold.specs.Kept.{number_present}
use Rattle.journal_fold.specs.Hearing.{Hears}
use Rattle.journal_fold.proofs.PartWay.{part_way}
use Rattle.journal_fold.proofs.steps.go_on_each.Given as goal

abbrev pub invariant-loop-rank : goal.invariant-loop-rank
invariant-loop-rank g l = record {
  states : map state_in l.kept.items ≡ part_way (state_of l.params (l.past ++ l.line ∷ [])) (state_of l.params l.past) l.rank l.keys;
  each : AllByRecursion (IsKept l.params) l.kept.items;
  present : l.present ≡ number_present l.kept.items;
  heard : Hears (g.H.Hearer.heard l.fn.hearer) (g.H.Hearer.room l.fn.hearer) (g.H.Hearer.heard l.hearer) (g.H.Hearer.room l.hearer) (flat_map (acts_of l.params l.past l.line) (take l.rank l.keys));
}
