-- Keys that are told apart, and lists of different ones (this project's own).
use Rattle.std.specs.Prelude.{◌==◌, Bool, false, not, if◌then◌else◌, List, [], ◌∷◌, ◌++◌, filter}
use Rattle.std.specs.List.{list_any}
use Rattle.nb_base.specs.declared.key.Key.{Key}
use Rattle.nb_base.specs.declared.key.Key.TheVariants.{V4, V6}

-- two keys are of one family and have one address
unfoldable pub is_key : Key → Key → Bool
is_key (V4 a) (V4 b) = a == b
is_key (V6 a) (V6 b) = a == b
is_key _ _ = false

-- a key stands among keys
abbrev pub has_key : List Key → Key → Bool
has_key keys key = list_any (λ other. is_key other key) keys

-- the keys with one more behind them, unless it is there
abbrev pub with_key : List Key → Key → List Key
with_key keys key = if has_key keys key then keys else keys ++ key ∷ []

-- the keys without one, the others in their order
abbrev pub without_key : List Key → Key → List Key
without_key keys key = filter (λ other. not (is_key other key)) keys
