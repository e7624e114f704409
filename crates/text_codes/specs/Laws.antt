-- The laws of texts, as statements of every text.
use Rattle.std.specs.Prelude.{◌≡◌, ℕ, ◌*◌, ◌<◌, ◌^◌, true, false, decimal, List, [], ◌∷◌, ◌++◌, length, map, Some}
use Rattle.std.specs.List.{join_with_byte, AllByRecursion}
use Rattle.std.specs.Char.{is_ascii_digit, is_ascii_hexdigit}
use Rattle.std.specs.Str.Lines.{strip_carriage_return}
use Rattle.nb_base.specs.Parts.{number_of}
use Rattle.text_codes.specs.Lines.{Words, lines_of, words_of, is_blank, line_text, text_of, rows_of, lacks, has_blank, IsWord, IsCleanRow, IsLine}
use Rattle.text_codes.specs.HexText.{hex_text, hex_bytes_of, AreBytes}
use Rattle.text_codes.specs.Codes.{IsCode, IsCodeBefore, IsInjective, BeginsWithout}

-- the lines of a text, by what stands at its front: nothing; a last line that lacks its LF; a line with its LF, of which a CR before the LF is dropped, and the lines behind it
pub record LinesByFront : Type 0 where
  pub none : lines_of [] ≡ []
  pub last : (line : List ℕ) → 0 < length line → lacks (10 ∷ []) line ≡ true → lines_of line ≡ line ∷ []
  pub ended : (line rest : List ℕ) → lacks (10 ∷ []) line ≡ true → lines_of (line ++ 10 ∷ rest) ≡ strip_carriage_return line ∷ lines_of rest

-- the words of a line, by what stands at its front: nothing; a space or a tab; a last word; a word with a space or a tab behind it
pub record WordsByFront : Type 0 where
  pub none : words_of [] ≡ []
  pub blank : (b : ℕ) (rest : List ℕ) → is_blank b ≡ true → words_of (b ∷ rest) ≡ words_of rest
  pub last : (word : List ℕ) → 0 < length word → has_blank word ≡ false → words_of word ≡ word ∷ []
  pub first : (word : List ℕ) (b : ℕ) (rest : List ℕ) → 0 < length word → has_blank word ≡ false → is_blank b ≡ true → words_of (word ++ b ∷ rest) ≡ word ∷ words_of rest

-- proper words that single spaces join are the words of their line
abbrev pub WordsAgain : Type 0
WordsAgain = (words : Words) → AllByRecursion IsWord words → words_of (join_with_byte 32 words) ≡ words

-- the lines of a written text are its rows' words joined by single spaces
abbrev pub LinesAgain : Type 0
LinesAgain = (rows : List Words) → AllByRecursion (AllByRecursion IsLine) rows → lines_of (text_of rows) ≡ map (join_with_byte 32) rows

-- a written text of proper words gives its rows back where it is read
abbrev pub WordsOfLinesAgain : Type 0
WordsOfLinesAgain = (rows : List Words) → AllByRecursion (AllByRecursion IsWord) rows → map words_of (lines_of (text_of rows)) ≡ rows

-- a written text gives its rows back: splitting at LF and at the space undoes joining
abbrev pub RowsAgain : Type 0
RowsAgain = (rows : List Words) → AllByRecursion IsCleanRow rows → rows_of (text_of rows) ≡ rows

-- two lists of rows with one text are one
abbrev pub TextsTellRows : Type 0
TextsTellRows = IsInjective (AllByRecursion IsCleanRow) text_of

-- a written line in front tells its row
abbrev pub LinesAreCodes : Type 0
LinesAreCodes = IsCode IsCleanRow line_text

-- a written number of up to ten digits is read again
abbrev pub NumbersAgain : Type 0
NumbersAgain = (n : ℕ) → n < 10 ^ 10 → number_of (decimal n) ≡ Some n

-- a number that is read has up to ten digits
abbrev pub NumbersAreSmall : Type 0
NumbersAreSmall = (text : List ℕ) (n : ℕ) → number_of text ≡ Some n → n < 10 ^ 10

-- two numbers with one text are one, below 10 ^ 64: so far std's `decimal` writes every digit
abbrev pub TextsTellNumbers : Type 0
TextsTellNumbers = IsInjective (λ n. n < 10 ^ 64) decimal

-- a written number in front of anything but a digit tells the number
abbrev pub NumbersAreCodes : Type 0
NumbersAreCodes = IsCodeBefore (λ n. n < 10 ^ 64) (BeginsWithout is_ascii_digit) decimal

-- a written number is a proper word
abbrev pub NumbersAreWords : Type 0
NumbersAreWords = (n : ℕ) → n < 10 ^ 64 → IsWord (decimal n)

-- bytes that are written in hexadecimal are read again
abbrev pub BytesAgain : Type 0
BytesAgain = (bytes : List ℕ) → AreBytes bytes → hex_bytes_of (hex_text bytes) ≡ Some bytes

-- what is read in hexadecimal are bytes, one for each two digits
abbrev pub BytesByPairs : Type 0
BytesByPairs = (text bytes : List ℕ) → hex_bytes_of text ≡ Some bytes → AreBytes bytes × (length text ≡ 2 * length bytes)

-- two lists of bytes with one text are one
abbrev pub TextsTellBytes : Type 0
TextsTellBytes = IsInjective AreBytes hex_text

-- bytes in hexadecimal, before anything but a hexadecimal digit
abbrev pub BytesAreCodes : Type 0
BytesAreCodes = IsCodeBefore AreBytes (BeginsWithout is_ascii_hexdigit) hex_text

-- and as many bytes as are known, before anything
abbrev pub CountedBytesAreCodes : Type 0
CountedBytesAreCodes = (n : ℕ) → IsCode (λ bytes. (length bytes ≡ n) × AreBytes bytes) hex_text

-- a list of bytes that isn't empty is a proper word
abbrev pub BytesAreWords : Type 0
BytesAreWords = (bytes : List ℕ) → 0 < length bytes → AreBytes bytes → IsWord (hex_text bytes)
