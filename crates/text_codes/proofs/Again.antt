-- Written texts, read again.
use Rattle.std.proofs.Common.{◌≡◌, ℕ, ◌<◌, not, true, eqb, List, [], ◌∷◌, ◌++◌, length, map, refl, sym, ap, ◌∙◌, append_assoc, arith}
use Rattle.std.specs.List.{slice_split, join_with_byte, list_all, list_any, AllByRecursion}
use Rattle.std.proofs.lemmas.List.Splits.{slice_split_at}
use Rattle.std.proofs.lemmas.Bool.{or_parts, not-true, not_from_false}
use Rattle.nb_base.proofs.Joined.{split-join, Lacks}
use Rattle.text_codes.specs.Lines.{Words, lines_of, words_of, line_text, text_of, rows_of, before_last, lacks, IsWord, IsClean, IsCleanRow, IsLine}
use Rattle.text_codes.specs.Laws.{WordsAgain, LinesAgain, WordsOfLinesAgain, RowsAgain, TextsTellRows, LinesAreCodes}
use Rattle.text_codes.proofs.Lacking.{Each-weaker, list_all-weaker, list_all-join, word-some, word-no_blank, word-line, line-newline, line-kept, lacks-newline, clean-newline, clean-space}
use Rattle.text_codes.proofs.Combining.{front-tells}
use Rattle.text_codes.proofs.Fronts.{parts-some, lines_of-nil, lines_of-ended, words_of-nil, words_of-last, words_of-first}

pub words_again : WordsAgain
words_again [] h = words_of-nil
words_again (w ∷ []) h = words_of-last w (word-some w h.0) (word-no_blank w h.0)
words_again (w ∷ v ∷ words) h =
    words_of-first w 32 (join_with_byte 32 (v ∷ words)) (word-some w h.0) (word-no_blank w h.0) refl
    ∙ ap (λ (ws : Words). w ∷ ws) (words_again (v ∷ words) h.1)

-- a written line in front of a text
pub line_text-front : (row : Words) (rest : List ℕ) → line_text row ++ rest ≡ join_with_byte 32 row ++ 10 ∷ rest
unfolding line_text
line_text-front row rest = append_assoc (join_with_byte 32 row) (10 ∷ []) rest

-- a row of lines' words is a line
pub row-line : (row : Words) → AllByRecursion IsLine row → IsLine (join_with_byte 32 row)
row-line row h = list_all-join _ 32 refl row h

pub lines_again : LinesAgain
lines_again [] h = lines_of-nil
lines_again (row ∷ rows) h =
    let line = row-line row h.0 in
    ap lines_of (line_text-front row (text_of rows))
    ∙ lines_of-ended (join_with_byte 32 row) (text_of rows) (line-newline (join_with_byte 32 row) line)
    ∙ ap (λ (l : List ℕ). l ∷ lines_of (text_of rows)) (line-kept (join_with_byte 32 row) line)
    ∙ ap (λ (ls : List (List ℕ)). join_with_byte 32 row ∷ ls) (lines_again rows h.1)

each_words : (rows : List Words) → AllByRecursion (AllByRecursion IsWord) rows → map words_of (map (join_with_byte 32) rows) ≡ rows
each_words [] h = refl
each_words (row ∷ rows) h = rw (words_again row h.0, each_words rows h.1) refl

pub words_of_lines_again : WordsOfLinesAgain
words_of_lines_again rows h =
    ap (map words_of) (lines_again rows (Each-weaker (AllByRecursion IsWord) (AllByRecursion IsLine) (Each-weaker IsWord IsLine word-line) rows h)) ∙ each_words rows h

-- a row's words, joined by single spaces, have no LF
pub row-newline : (row : Words) → AllByRecursion IsClean row → lacks (10 ∷ []) (join_with_byte 32 row) ≡ true
row-newline row h = list_all-join _ 32 refl row (Each-weaker IsClean (λ w. lacks (10 ∷ []) w ≡ true) clean-newline row h)

-- and split at spaces they are the row again
pub row-split : (row : Words) → IsCleanRow row → slice_split (λ b. eqb b 32) (join_with_byte 32 row) ≡ row
row-split row h = split-join 32 row h.0 (Each-weaker IsClean (Lacks 32) clean-space row h.1)

row-no_newline : (row : Words) → AllByRecursion IsClean row → list_all (λ b. not (eqb b 10)) (join_with_byte 32 row) ≡ true
row-no_newline row h = list_all-weaker (λ b. not (list_any (λ c. eqb b c) (10 ∷ []))) (λ b. not (eqb b 10)) (λ b g. not_from_false _ (or_parts (eqb b 10) (list_any (λ c. eqb b c) []) (not-true _ g)).0) (join_with_byte 32 row) (row-newline row h)

before_last-front : (part : List ℕ) (parts : List (List ℕ)) → 0 < length parts → before_last (part ∷ parts) ≡ part ∷ before_last parts
before_last-front part [] some = absurd (omega arith)
before_last-front part (next ∷ parts) some = refl

pub rows_again : RowsAgain
unfolding rows_of
rows_again [] h = refl
rows_again (row ∷ rows) h =
    let cut = ap (slice_split (λ b. eqb b 10)) (line_text-front row (text_of rows)) ∙ slice_split_at (λ b. eqb b 10) (join_with_byte 32 row) 10 (text_of rows) (lacks-newline (join_with_byte 32 row) (row-newline row h.0.1)) refl in
    rw (cut, before_last-front (join_with_byte 32 row) (slice_split (λ b. eqb b 10) (text_of rows)) (parts-some (λ b. eqb b 10) (text_of rows)), row-split row h.0)
    (ap (λ (rs : List Words). row ∷ rs) (rows_again rows h.1))

-- a written line in front tells its row
pub lines_are_codes : LinesAreCodes
lines_are_codes = record {
  tells = λ row other r s h g open_end other_end e.
      let front : join_with_byte 32 row ++ 10 ∷ r ≡ join_with_byte 32 other ++ 10 ∷ s = sym (line_text-front row r) ∙ e ∙ line_text-front other s in
      let parts = front-tells (λ b. not (eqb b 10)) (join_with_byte 32 row) (join_with_byte 32 other) (10 ∷ r) (10 ∷ s) (row-no_newline row h.1) (row-no_newline other g.1) refl refl front in
      let rest : r ≡ s = cc (parts.1) in
      (sym (row-split row h) ∙ ap (slice_split (λ b. eqb b 32)) parts.0 ∙ row-split other g, rest);
}

pub texts_tell_rows : TextsTellRows
texts_tell_rows = record { tells = λ rows other h g e. sym (rows_again rows h) ∙ ap rows_of e ∙ rows_again other g }
