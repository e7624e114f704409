-- The definitions at texts that are written out.
use Rattle.std.specs.Prelude.{◌≡◌, false, [], ◌∷◌, ◌++◌, Some, None, codes}
use Rattle.std.proofs.Common.{refl}
use Rattle.nb_base.specs.Parts.{number_of}
use Rattle.text_codes.specs.Lines.{lines_of, words_of, line_text, text_of, rows_of, IsWord, IsClean, IsLine, lacks}
use Rattle.text_codes.specs.HexText.{hex_text, hex_bytes_of}

-- three lines, of which the second is empty, and a final LF
lines_with_final_newline : lines_of (codes "host dev" ++ 10 ∷ 10 ∷ codes "end" ++ 10 ∷ []) ≡ codes "host dev" ∷ [] ∷ codes "end" ∷ []
unfolding lines_of
lines_with_final_newline = refl

-- the last line may lack its LF
lines_without_final_newline : lines_of (codes "a" ++ 10 ∷ codes "b") ≡ codes "a" ∷ codes "b" ∷ []
unfolding lines_of
lines_without_final_newline = refl

-- a text of one LF is one empty line, and the empty text has none
lines_of_one_newline : lines_of (10 ∷ []) ≡ [] ∷ []
unfolding lines_of
lines_of_one_newline = refl

lines_of_nothing : lines_of [] ≡ []
unfolding lines_of
lines_of_nothing = refl

-- a CR before an LF is dropped, but one, and none elsewhere
lines_with_returns : lines_of (codes "a" ++ 13 ∷ 10 ∷ 13 ∷ 13 ∷ 10 ∷ 13 ∷ 98 ∷ 10 ∷ 13 ∷ []) ≡ codes "a" ∷ (13 ∷ []) ∷ (13 ∷ 98 ∷ []) ∷ (13 ∷ []) ∷ []
unfolding lines_of
lines_with_returns = refl

-- spaces and tabs separate words, however many, and none begins or ends with one
words_between_blanks : words_of (9 ∷ 32 ∷ codes "@0" ++ 32 ∷ 32 ∷ codes "neigh" ++ 9 ∷ codes "show" ++ 32 ∷ []) ≡ codes "@0" ∷ codes "neigh" ∷ codes "show" ∷ []
unfolding words_of
words_between_blanks = refl

words_of_blanks : words_of (32 ∷ 9 ∷ 32 ∷ []) ≡ []
unfolding words_of
words_of_blanks = refl

-- the first word of a comment, and of a line with one behind
words_of_a_comment : words_of (32 ∷ codes "#note 1") ≡ codes "#note" ∷ codes "1" ∷ []
unfolding words_of
words_of_a_comment = refl

words_with_a_sign_behind : words_of (codes "senders 2 # two") ≡ codes "senders" ∷ codes "2" ∷ codes "#" ∷ codes "two" ∷ []
unfolding words_of
words_with_a_sign_behind = refl

-- other bytes, CR and LF among them, separate no words
words_with_a_return : words_of (97 ∷ 13 ∷ 32 ∷ 98 ∷ 10 ∷ 99 ∷ []) ≡ (97 ∷ 13 ∷ []) ∷ (98 ∷ 10 ∷ 99 ∷ []) ∷ []
unfolding words_of
words_with_a_return = refl

-- numbers of one to ten digits, with leading zeros
number_with_zeros : number_of (codes "0000000007") ≡ Some 7
number_with_zeros = refl

number_of_ten_digits : number_of (codes "9999999999") ≡ Some 9999999999
number_of_ten_digits = refl

number_of_eleven_digits : number_of (codes "00000000007") ≡ None
number_of_eleven_digits = refl

number_of_nothing : number_of [] ≡ None
number_of_nothing = refl

number_with_a_letter : number_of (codes "12a") ≡ None
number_with_a_letter = refl

number_with_a_sign : number_of (codes "+1") ≡ None
number_with_a_sign = refl

-- pairs of digits of either case
bytes_of_pairs : hex_bytes_of (codes "0aFf10") ≡ Some (10 ∷ 255 ∷ 16 ∷ [])
unfolding hex_bytes_of
bytes_of_pairs = refl

bytes_of_nothing : hex_bytes_of [] ≡ Some []
unfolding hex_bytes_of
bytes_of_nothing = refl

bytes_of_an_odd_digit : hex_bytes_of (codes "0a1") ≡ None
unfolding hex_bytes_of
bytes_of_an_odd_digit = refl

bytes_with_a_letter : hex_bytes_of (codes "0g") ≡ None
unfolding hex_bytes_of
bytes_with_a_letter = refl

text_of_bytes : hex_text (0 ∷ 10 ∷ 255 ∷ []) ≡ codes "000aff"
text_of_bytes = refl

-- a row that is set in by two empty words begins with two spaces
line_of_an_act : line_text ([] ∷ [] ∷ codes "wait" ∷ codes "33" ∷ []) ≡ codes "  wait 33" ++ 10 ∷ []
unfolding line_text
line_of_an_act = refl

text_of_two_rows : text_of ((codes "marks" ∷ codes "0" ∷ []) ∷ (codes "end" ∷ []) ∷ []) ≡ codes "marks 0" ++ 10 ∷ codes "end" ++ 10 ∷ []
unfolding line_text
text_of_two_rows = refl

rows_of_an_act : rows_of (codes "sweep" ++ 10 ∷ codes "  wait 33" ++ 10 ∷ []) ≡ (codes "sweep" ∷ []) ∷ ([] ∷ [] ∷ codes "wait" ∷ codes "33" ∷ []) ∷ []
unfolding rows_of
rows_of_an_act = refl

-- what is a proper word, a word of a row, a line
proper_word : IsWord (codes "10.0.0.1")
proper_word = refl

empty_word_is_clean : IsClean []
empty_word_is_clean = refl

tab_is_clean : IsClean (9 ∷ [])
tab_is_clean = refl

tab_in_a_word : lacks (9 ∷ 10 ∷ 13 ∷ 32 ∷ []) (codes "a" ++ 9 ∷ []) ≡ false
tab_in_a_word = refl

line_with_spaces : IsLine (codes "table 0")
line_with_spaces = refl
