-- Buckets of keys.
use Rattle.std.specs.Prelude.{ℕ, ◌%◌, Bool, ◌||◌, ◌==◌}
use Rattle.nb_base.specs.declared.key.Key.{Key}
use Rattle.nb_base.specs.declared.key.Key.TheVariants.{V4, V6}

-- how many buckets a table may have (this project's own)
abbrev pub is_bucket_count : ℕ → Bool
is_bucket_count n = n == 1 || n == 2 || n == 4 || n == 8 || n == 16 || n == 32 || n == 64

-- a key's bucket is the last byte of its address modulo the number of buckets (this project's own)
abbrev pub bucket_of : ℕ → Key → ℕ
bucket_of buckets (V4 address) = address % 256 % buckets
bucket_of buckets (V6 address) = address % 256 % buckets
