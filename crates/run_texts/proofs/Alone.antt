-- In a table of one bucket the order of all changes tells what each line saw: the number present before it and its collect lines.
use Rattle.std.proofs.Common.{◌≡◌, ℕ, ◌+◌, Bool, true, false, if◌then◌else◌, List, [], ◌∷◌, ◌++◌, length, map, take, refl, sym, ◌∙◌, ap, append_assoc, append-nil, arith}
use Rattle.std.specs.Prelude.{◌==◌, Option, Some, None, IfSome}
use Rattle.std.specs.List.{AllZip}
use Rattle.std.proofs.lemmas.Bool.{eqb-true}
use Rattle.std.proofs.Math.Seq.{take-append_seam}
use Rattle.nb_base.specs.declared.params.Params.{Params}
use Rattle.nb_base.specs.declared.line.Line.{Line}
use Rattle.nb_journal.specs.Fold.{present_count}
use Rattle.nb_journal.specs.Lawful.{EachLine, each_line, base_of}
use Rattle.nb_journal.specs.Laws.{Saw}
use Rattle.nb_journal.proofs.Folds.{present_count-within}
use Rattle.nb_journal.proofs.Takes.{base_of-front}
use Rattle.change_order.specs.Ticks.{last_or}
use Rattle.change_order.specs.Orders.{how_often, present_behind, IsSeenAt, HaveOneOrder}
use Rattle.journal_counts.specs.Counts.{if_changed, behind_line, behind_lines, looked_at, looked_in, counts_of}
use Rattle.journal_counts.proofs.Joins.{behind_lines-append}

last_or-append : (s : ℕ) (xs ys : List ℕ) → last_or s (xs ++ ys) ≡ last_or (last_or s xs) ys
last_or-append s [] ys = refl
last_or-append s (x ∷ xs) ys = last_or-append x xs ys

last_changed : (was now : ℕ) → last_or was (if_changed was now) ≡ now
last_changed was now = by_test (was == now) refl where
  by_test : (t : Bool) → (was == now) ≡ t → last_or was (if t then [] else now ∷ []) ≡ now
  by_test true e = eqb-true was now e
  by_test false e = refl

-- the number behind the last changing line is that of all lines
last_behind : (p : Params) (past lines : List Line) → last_or (present_count p past) (behind_lines p past lines) ≡ present_count p (past ++ lines)
last_behind p past [] = ap (present_count p) (sym (append-nil past))
last_behind p past (l ∷ ls) =
    last_or-append (present_count p past) (behind_line p past l) (behind_lines p (past ++ l ∷ []) ls)
    ∙ ap (λ n. last_or n (behind_lines p (past ++ l ∷ []) ls)) (last_changed (present_count p past) (present_count p (past ++ l ∷ [])))
    ∙ last_behind p (past ++ l ∷ []) ls
    ∙ ap (present_count p) (append_assoc past (l ∷ []) ls)

none_present : (p : Params) → present_count p [] ≡ 0
none_present p = let few = present_count-within p [] in omega (arith, few)

-- so the number behind the changing lines of a journal's beginning is that of these lines
front_present : (p : Params) (front journal rest : List Line) → journal ≡ front ++ rest → present_behind (length (behind_lines p [] front)) (behind_lines p [] journal) ≡ present_count p front
front_present p front journal rest e =
    ap (λ xs. last_or 0 (take (length (behind_lines p [] front)) xs)) (ap (behind_lines p []) e ∙ behind_lines-append p [] front rest)
    ∙ ap (last_or 0) (take-append_seam (behind_lines p [] front) (behind_lines p front rest))
    ∙ ap (λ n. last_or n (behind_lines p [] front)) (sym (none_present p))
    ∙ last_behind p [] front

-- what a line saw at its place in the order
seen_alone : (p : Params) (journal front rest : List Line) (order : List ℕ) (n seen : ℕ) → journal ≡ base_of front ++ rest
    → IsSeenAt (counts_of p journal ∷ []) order 0 n (record { before = length (behind_lines p [] (base_of front)); seen = seen }) → seen ≡ present_count p (base_of front)
seen_alone p journal front rest order n seen e h =
    h.sum ∙ none (present_behind (how_often 0 (take n order)) (behind_lines p [] journal)) ∙ ap (λ k. present_behind k (behind_lines p [] journal)) h.mine ∙ front_present p (base_of front) journal rest e
  where
    none : (k : ℕ) → k + 0 ≡ k
    none k = omega arith

lines_alone : (p : Params) (journal : List Line) (order lengths : List ℕ) (front lines : List Line) → journal ≡ front ++ lines → AllZip (IsSeenAt (counts_of p journal ∷ []) order 0) lengths (looked_in p [] front lines)
    → each_line (Saw (present_count p)) front lines
lines_alone p journal order lengths front [] e h = tt
lines_alone p journal order lengths front (l ∷ ls) e h = by_seen l.seen lengths h (λ ns. lines_alone p journal order ns (front ++ l ∷ []) ls (e ∙ sym (append_assoc front (l ∷ []) ls))) where
  base : (rest : List Line) × (journal ≡ base_of front ++ rest)
  base =
      let cut = base_of-front front in
      (cut.0 ++ l ∷ ls, e ∙ ap (λ xs. xs ++ l ∷ ls) cut.1 ∙ append_assoc (base_of front) cut.0 (l ∷ ls))

  by_seen : (o : Option ℕ) (ns : List ℕ) → AllZip (IsSeenAt (counts_of p journal ∷ []) order 0) ns (looked_at (length (behind_lines p [] (base_of front))) o ++ looked_in p [] (front ++ l ∷ []) ls)
      → ((ns : List ℕ) → AllZip (IsSeenAt (counts_of p journal ∷ []) order 0) ns (looked_in p [] (front ++ l ∷ []) ls) → each_line (Saw (present_count p)) (front ++ l ∷ []) ls)
      → IfSome o (λ seen. seen ≡ present_count p (base_of front)) × each_line (Saw (present_count p)) (front ++ l ∷ []) ls
  by_seen None ns h rest = (tt, rest ns h)
  by_seen (Some seen) [] h rest = absurd h
  by_seen (Some seen) (n ∷ ns) h rest = (seen_alone p journal front base.0 order n seen base.1 h.0, rest ns h.1)

pub order_alone : (p : Params) (journal : List Line) → HaveOneOrder (map (counts_of p) (journal ∷ [])) → EachLine (Saw (present_count p)) journal
order_alone p journal h = let places = h.each 0 (counts_of p journal) refl in lines_alone p journal h.order places.lengths [] journal refl places.lines
