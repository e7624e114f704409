-- In a table of one bucket a line sees the entries that are present in it.
use Rattle.std.proofs.Common.{◌≡◌, ◌+◌, [], ◌∷◌, ◌∙◌, arith}
use Rattle.std.specs.Prelude.{sum_by}
use Rattle.std.proofs.lemmas.List.Sums.{sum_by-cons}
use Rattle.nb_journal.specs.Fold.{present_count}
use Rattle.neigh_run.specs.Seen.{sees}
use Rattle.neigh_run.specs.Laws.{OneBucketSeesItself}

pub sees-one : OneBucketSeesItself
unfolding sees
sees-one plan journal lines =
    let sum : sum_by (present_count plan.params) (lines ∷ []) ≡ present_count plan.params lines + sum_by (present_count plan.params) [] = sum_by-cons (present_count plan.params) lines [] in
    sum ∙ omega arith
