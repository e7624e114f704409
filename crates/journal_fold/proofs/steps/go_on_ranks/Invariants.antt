use Rattle.std.proofs.Common.{◌≡◌, [], ◌∷◌, ◌++◌, map, take}
use Rattle.std.specs.Prelude.{vec_len, vec_capacity}
use Rattle.std.specs.List.{AllByRecursion}
use Rattle.nb_journal.specs.Keys.{place_among}
use Rattle.nb_journal.specs.Steps.{IsKept, state_in}
use Rattle.nb_journal.specs.Fold.{state_of}
use Rattle.journal_fold.specs.Kept.{number_present}
use Rattle.journal_fold.proofs.Mixed.{mixed}
use Rattle.journal_fold.proofs.steps.go_on_ranks.Given as goal

abbrev pub invariant-loop-rank : goal.invariant-loop-rank
invariant-loop-rank l = record {
  states : map state_in l.kept.items ≡ map (mixed (take l.rank-index l.ranks) (place_among l.keys) (state_of l.params (l.past ++ l.line ∷ [])) (state_of l.params l.past)) l.keys;
  each : AllByRecursion (IsKept l.params) l.kept.items;
  present : l.present ≡ number_present l.kept.items;
  len : vec_len l.kept ≡ vec_len l.fn.kept;
  capacity : vec_capacity l.kept ≡ vec_capacity l.fn.kept;
}
