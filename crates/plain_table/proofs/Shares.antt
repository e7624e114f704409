-- How many entries are present in a table: what its buckets hold together, and what becomes of that where one bucket changes.
use Rattle.std.proofs.Common.{◌≡◌, ℕ, zero, suc, ◌+◌, ◌*◌, ◌<◌, ◌≤◌, List, [], ◌∷◌, length, set, replicate, refl, ap, arith}
use Rattle.std.specs.Prelude.{IsTrue}
use Rattle.std.specs.List.{AllByRecursion}
use Rattle.std.proofs.lemmas.Bool.Decides.{nat_tests}
use Rattle.std.proofs.lemmas.List.{length-replicate, get_or-replicate}
use Rattle.std.proofs.lemmas.List.Sums.{sum_by-cons, sum_by-set}
use Rattle.std.proofs.lemmas.List.Folds.{sum_by-replicate}
use Rattle.nb_base.specs.declared.params.Params.{Params}
use Rattle.nb_base.specs.Buckets.{is_bucket_count}
use Rattle.nb_journal.specs.Fold.{present_count, known_keys}
use Rattle.nb_journal.specs.Accounts.{most_lines}
use Rattle.nb_bucket.specs.Bucket.{Journal}
use Rattle.plain_table.specs.Table.{present_in, present_in_all, no_journal, bucket_at, new_journal, params_of, IsNew}
use Rattle.plain_table.specs.Kept.{IsShare}

none_present : (p : Params) → present_count p [] ≡ 0
unfolding present_count known_keys
none_present p = refl

pub bucket_count_few : (n : ℕ) → IsTrue (is_bucket_count n) → n ≤ 64
bucket_count_few n h = grind (arith, nat_tests, h)

-- ---- a table without a line

pub none_in_all : (p : Params) (n : ℕ) → present_in_all (replicate n (new_journal p)) ≡ 0
none_in_all p n = let none = none_present p in let all = sum_by-replicate present_in n (new_journal p) in rw (all, none) (omega arith)

pub shares-new : (p : Params) (n : ℕ) → AllByRecursion IsShare (replicate n (new_journal p))
shares-new p zero = tt
shares-new p (suc n) = let none = none_present p in (omega (arith, none), shares-new p n)

pub new_is : (p : Params) (n : ℕ) → 0 < n → (length (replicate n (new_journal p)) ≡ n) × (params_of (replicate n (new_journal p)) ≡ p) × IsNew (replicate n (new_journal p))
new_is p n some =
    let long = length-replicate n (new_journal p) in
    let params = ap (λ (j : Journal). j.params) (get_or-replicate n 0 (new_journal p) no_journal some) in
    (long, params, rw (long, params) refl)

-- ---- one bucket

-- a bucket holds no more than a journal has lines
pub share_at : (table : List Journal) (b : ℕ) → AllByRecursion IsShare table → b < length table → IsShare (bucket_at table b)
share_at [] b shares lt = absurd (omega (arith, lt))
share_at (j ∷ js) zero shares lt = shares.0
share_at (j ∷ js) (suc b) shares lt = share_at js b shares.1 (omega (arith, lt))

pub shares-set : (table : List Journal) (b : ℕ) (j : Journal) → AllByRecursion IsShare table → IsShare j → AllByRecursion IsShare (set table b j)
shares-set [] b j shares here = tt
shares-set (k ∷ ks) zero j shares here = (here, shares.1)
shares-set (k ∷ ks) (suc b) j shares here = (shares.0, shares-set ks b j shares.1 here)

-- nor more than all
pub part_of_all : (table : List Journal) (b : ℕ) → b < length table → present_in (bucket_at table b) ≤ present_in_all table
part_of_all [] b lt = absurd (omega (arith, lt))
part_of_all (j ∷ js) zero lt = let sum = sum_by-cons present_in j js in omega (arith, sum)
part_of_all (j ∷ js) (suc b) lt = let sum = sum_by-cons present_in j js in let rest = part_of_all js b (omega (arith, lt)) in omega (arith, sum, rest)

-- ---- all buckets

few_in_all : (table : List Journal) → AllByRecursion IsShare table → present_in_all table ≤ length table * most_lines
few_in_all [] shares = omega arith
few_in_all (j ∷ js) shares =
    let sum = sum_by-cons present_in j js in
    let rest = few_in_all js shares.1 in
    omega (arith, sum, rest, shares.0)

-- at most 2^28
pub most_in_all : (table : List Journal) → AllByRecursion IsShare table → length table ≤ 64 → present_in_all table ≤ 268_435_456
most_in_all table shares few = let all = few_in_all table shares in omega (arith, all, few)

-- a bucket's entries come in the place of those that it had
pub all-set : (table : List Journal) (b : ℕ) (j : Journal) → b < length table → present_in_all (set table b j) + present_in (bucket_at table b) ≡ present_in_all table + present_in j
all-set table b j lt = sum_by-set present_in table b j no_journal lt
