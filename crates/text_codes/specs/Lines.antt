-- Texts of lines, and lines of words: how this project's script is read, and how its script and its report are written. All of it is this project's own.
use Rattle.std.specs.Prelude.{◌≡◌, ℕ, ◌<◌, Bool, true, false, not, ◌&&◌, ◌||◌, ◌==◌, nat_lt, List, [], ◌∷◌, ◌++◌, length, map}
use Rattle.std.specs.List.{slice_split, filter, flat_map, join_with_byte, list_any, list_all, AllByRecursion}
use Rattle.std.specs.Str.Lines.{lines}

-- the words of a line, each a list of bytes
abbrev pub Words : Type 0
Words = List (List ℕ)

-- the lines of a text, as std's `lines` has them: a line ends with LF, and a CR right before the LF is dropped; the last line may lack its LF, and a final LF opens no line
unfoldable pub lines_of : List ℕ → List (List ℕ)
lines_of text = lines text

-- a space or a tab
abbrev pub is_blank : ℕ → Bool
is_blank b = b == 32 || b == 9

-- whether a space or a tab stands in the text
abbrev pub has_blank : List ℕ → Bool
has_blank text = list_any is_blank text

-- the words of a line: what stands between its spaces and tabs and isn't empty
unfoldable pub words_of : List ℕ → Words
words_of line = filter (λ part. nat_lt 0 (length part)) (slice_split is_blank line)

-- a written line: its words joined by single spaces, and LF
unfoldable pub line_text : Words → List ℕ
line_text words = join_with_byte 32 words ++ 10 ∷ []

-- whether a row is set in: its first word is empty, so its line begins with a space
abbrev pub is_set_in : Words → Bool
is_set_in [] = false
is_set_in ([] ∷ words) = true
is_set_in ((b ∷ word) ∷ words) = false

-- a written text: its rows as lines
abbrev pub text_of : List Words → List ℕ
text_of rows = flat_map line_text rows

-- all of a list but its last part
abbrev pub before_last : List (List ℕ) → List (List ℕ)
before_last [] = []
before_last (part ∷ []) = []
before_last (part ∷ next ∷ more) = part ∷ before_last (next ∷ more)

-- the rows of a written text: every line ends with LF, and each space separates two words, so two spaces in front are two empty words
unfoldable pub rows_of : List ℕ → List Words
rows_of text = map (slice_split (λ b. b == 32)) (before_last (slice_split (λ b. b == 10) text))

-- whether none of these bytes stands in the text
abbrev pub lacks : List ℕ → List ℕ → Bool
lacks bytes text = list_all (λ b. not (list_any (λ c. b == c) bytes)) text

-- a proper word: not empty, and without tab, LF, CR and space
abbrev pub IsWord : List ℕ → Type 0
IsWord word = (nat_lt 0 (length word) && lacks (9 ∷ 10 ∷ 13 ∷ 32 ∷ []) word) ≡ true

-- a word of a row, which may be empty: without LF and space
abbrev pub IsClean : List ℕ → Type 0
IsClean word = lacks (10 ∷ 32 ∷ []) word ≡ true

-- a row: at least one word, and each clean
abbrev pub IsCleanRow : Words → Type 0
IsCleanRow row = (0 < length row) × AllByRecursion IsClean row

-- a line without LF and CR
abbrev pub IsLine : List ℕ → Type 0
IsLine line = lacks (10 ∷ 13 ∷ []) line ≡ true
