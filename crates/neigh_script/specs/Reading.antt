-- Reading the words of a line from left to right, with the first refusal that is met.
use Rattle.std.specs.Prelude.{ℕ, Bool, true, false, if◌then◌else◌, List, [], ◌∷◌, Option, Some, None, Result, Ok, Err, bytes_eq}
use Rattle.text_codes.specs.Lines.{Words}
use Rattle.neigh_script.specs.declared.why.ScriptWhy.{ScriptWhy}
use Rattle.neigh_script.specs.declared.why.ScriptWhy.TheVariants as why

infixl 10 ◌>>=◌
-- what the second makes of the first's value, or the first's refusal
abbrev pub ◌>>=◌ : {A B E : Type 0} → Result A E → (A → Result B E) → Result B E
(Ok x) >>= f = f x
(Err e) >>= f = Err e

-- the value, or this refusal where there is none
abbrev pub or_refuse : {A : Type 0} → ScriptWhy → Option A → Result A ScriptWhy
or_refuse w None = Err w
or_refuse w (Some a) = Ok a

-- another value in place of the one read
abbrev pub read_as : {A B : Type 0} → (A → B) → Result A ScriptWhy → Result B ScriptWhy
read_as f (Ok a) = Ok (f a)
read_as f (Err w) = Err w

-- the words behind this one; another word is unknown there, and so is the line's end
abbrev pub word : List ℕ → Words → Result Words ScriptWhy
word w [] = Err why.UnknownWord
word w (x ∷ xs) = if bytes_eq x w then Ok xs else Err why.UnknownWord

-- whether this word stands there, and the words behind it, or all of them where it doesn't
abbrev pub taken : List ℕ → Words → Bool × Words
taken w [] = (false, [])
taken w (x ∷ xs) = if bytes_eq x w then (true, xs) else (false, x ∷ xs)

-- what the next word is read as, and the words behind it; a missing word is unknown
abbrev pub field : {A : Type 0} → (List ℕ → Result A ScriptWhy) → Words → Result (A × Words) ScriptWhy
field f [] = Err why.UnknownWord
field f (x ∷ xs) = f x >>= λ a. Ok (a, xs)

-- what the word behind this one is read as, where this one stands there, and the words behind it
abbrev pub optional : {A : Type 0} → List ℕ → (List ℕ → Result A ScriptWhy) → Words → Result (Option A × Words) ScriptWhy
optional w f [] = Ok (None, [])
optional w f (x ∷ xs) = if bytes_eq x w then (field f xs >>= λ a. Ok (Some a.0, a.1)) else Ok (None, x ∷ xs)

-- a value where no word is left; a needless word is unknown
abbrev pub last : {A : Type 0} → A → Words → Result A ScriptWhy
last a [] = Ok a
last a (x ∷ xs) = Err why.UnknownWord
