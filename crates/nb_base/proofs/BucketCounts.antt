-- A table has a bucket.
use Rattle.std.proofs.Common.{ℕ, zero, suc, ◌<◌, arith}
use Rattle.std.specs.Prelude.{IsTrue}
use Rattle.nb_base.specs.Buckets.{is_bucket_count}

pub bucket_count_some : (n : ℕ) → IsTrue (is_bucket_count n) → 0 < n
bucket_count_some zero h = absurd cc
bucket_count_some (suc n) h = omega arith
