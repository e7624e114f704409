-- Changes and looks, each a pair of a tick and a number (this project's own). A tick is the number of changes that the counter had before that step.
use Rattle.std.specs.Prelude.{◌≡◌, ℕ, ◌+◌, ◌<◌, ◌≤◌, Bool, cond, ltb, eqb, List, [], ◌∷◌, ◌++◌, map, filter}
use Rattle.std.specs.List.{AllByRecursion as Each}

-- the last number, or the given one where there is none
abbrev pub last_or : ℕ → List ℕ → ℕ
last_or s [] = s
last_or s (x ∷ xs) = last_or x xs

-- how many elements pass
abbrev pub how_many : {A : Type 0} → (A → Bool) → List A → ℕ
how_many p [] = 0
how_many p (x ∷ xs) = cond (p x) 1 0 + how_many p xs

-- the sum of a number of each element
abbrev pub total_by : {A : Type 0} → (A → ℕ) → List A → ℕ
total_by f [] = 0
total_by f (x ∷ xs) = f x + total_by f xs

-- the change or look has a tick below this one
abbrev pub is_before : ℕ → ℕ × ℕ → Bool
is_before t c = ltb c.0 t

-- the change or look has this tick
abbrev pub is_at : ℕ → ℕ × ℕ → Bool
is_at t c = eqb c.0 t

-- the number of a change or look: the share behind it, or its value
abbrev pub second : ℕ × ℕ → ℕ
second c = c.1

-- a bucket's share: the one behind its last change, or 0 where it has none
abbrev pub share_of : List (ℕ × ℕ) → ℕ
share_of changes = last_or 0 (map second changes)

-- the share behind the last change with a tick below this one, or 0 where there is none
abbrev pub share_before : ℕ → List (ℕ × ℕ) → ℕ
share_before t changes = share_of (filter (is_before t) changes)

-- each tick is at least this one, and above the one before
abbrev pub Rise : ℕ → List (ℕ × ℕ) → Type 0
Rise low [] = Unit {0}
Rise low (c ∷ cs) = (low ≤ c.0) × Rise (c.0 + 1) cs

-- each tick is at least this one, and at least the one before
abbrev pub NeverFall : ℕ → List (ℕ × ℕ) → Type 0
NeverFall low [] = Unit {0}
NeverFall low (c ∷ cs) = (low ≤ c.0) × NeverFall c.0 cs

-- a tick of a step behind all these: at least that of each look, and above that of each change
pub record IsLater (tick : ℕ) (changes looks : List (ℕ × ℕ)) : Type 0 where
  pub above : Each (λ c. c.0 < tick) changes
  pub behind : Each (λ l. l.0 ≤ tick) looks

-- the list has grown by a pair of this number, at a tick behind these changes and looks
pub record IsNext (old new changes looks : List (ℕ × ℕ)) (number : ℕ) : Type 0 where
  pub tick : ℕ
  pub grown : new ≡ old ++ (tick, number) ∷ []
  pub later : IsLater tick changes looks
