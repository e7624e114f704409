-- What the rows of journals tell: the moment and the number of each line, and what it saw, where that is printed.
use Rattle.std.proofs.Common.{◌≡◌, ℕ, ◌+◌, true, List, [], ◌∷◌, ◌++◌, length, map, refl, sym, ◌∙◌, ap, arith, append_assoc}
use Rattle.std.specs.Prelude.{codes, decimal, nat_le, Option, Some, None, IfSome}
use Rattle.std.specs.List.{AllByRecursion}
use Rattle.nb_base.specs.declared.time.OpId.{OpId}
use Rattle.nb_base.specs.declared.line.Line.{Line}
use Rattle.nb_base.specs.declared.plan.Plan.{Plan}
use Rattle.nb_journal.specs.Fold.{reply_of}
use Rattle.text_codes.specs.Lines.{Words, is_set_in}
use Rattle.text_codes.specs.Codes.{BeginsWithout}
use Rattle.text_codes.proofs.Combining.{cons-same, front-tells}
use Rattle.text_codes.proofs.Numerals.{decimal-apart}
use Rattle.neigh_run.specs.Spelling.{dash, op_words, id_word, reply_part}
use Rattle.neigh_run.specs.Report.{all_below, line_words, journal_lines, bucket_lines}
use Rattle.neigh_run.proofs.SetIn.{only_below}
use Rattle.run_texts.specs.Told.{Small}
use Rattle.run_texts.specs.Laws.{SawFew}
use Rattle.run_texts.proofs.Lists.{all_pass, heads}
use Rattle.run_texts.proofs.Named.{stamp}
use Rattle.run_texts.proofs.Numbers.{number-told}
use Rattle.run_texts.proofs.Seen.{saw-tells}

-- ---- a line

-- a line's moment is told by its text, and so is what it saw
pub record IsTimed (line : Line) : Type 0 where
  pub at : Small line.at
  pub seen : SawFew line

-- a line's number is
abbrev pub IsNumbered : Line → Type 0
IsNumbered line = IfSome line.id (λ (id : OpId). Small id.0)

id-tells : (a b : Option OpId) → IfSome a (λ (id : OpId). Small id.0) → IfSome b (λ (id : OpId). Small id.0) → id_word a ≡ id_word b → a ≡ b
id-tells None None h g e = refl
id-tells None (Some b) h g e = absurd (decimal-apart b.0 dash (omega (arith, g)) refl (sym e))
id-tells (Some a) None h g e = absurd (decimal-apart a.0 dash (omega (arith, h)) refl e)
id-tells (Some a) (Some b) h g e = ap (λ (n : ℕ). Some (let id : OpId = record { 0 = n } in id)) (number-told a.0 b.0 h e)

second : (a b c x y z : List ℕ) (r s : Words) → a ∷ b ∷ c ∷ r ≡ x ∷ y ∷ z ∷ s → (b ≡ y) × (c ≡ z)
second a b c x y z r s e = (cc, cc)

stamp-is : (a b : ℕ) (i j : Option OpId) → a ≡ b → i ≡ j → (let x : ℕ × Option OpId = (a, i) in let y : ℕ × Option OpId = (b, j) in x ≡ y)
stamp-is a b i j e f = λ k. (e k, f k)

line-tells : (plan : Plan) (past other : List Line) (l m : Line) → IsTimed l → IsNumbered l → IsNumbered m → line_words plan past l ≡ line_words plan other m → stamp l ≡ stamp m
line-tells plan past other l m t h g e =
    let parts = second (decimal (length past)) (decimal l.at) (id_word l.id) (decimal (length other)) (decimal m.at) (id_word m.id) (op_words l.op ++ codes "->" ∷ reply_part (reply_of plan.params past l)) (op_words m.op ++ codes "->" ∷ reply_part (reply_of plan.params other m)) e in
    stamp-is l.at m.at l.id m.id (number-told l.at m.at t.at parts.0) (id-tells l.id m.id h g parts.1)

-- ---- a journal

-- rows of which the first isn't set in
abbrev pub Starts : List Words → Type 0
Starts rows = BeginsWithout is_set_in rows

lines-start : (plan : Plan) (past lines : List Line) (r : List Words) → Starts r → Starts (journal_lines plan past lines ++ r)
lines-start plan past [] r h = h
lines-start plan past (l ∷ ls) r h = only_below.line plan past l

-- what each line saw
abbrev pub seens : List Line → List (Option ℕ)
seens lines = map (λ (l : Line). l.seen) lines

-- two journals with the same moments and numbers, whose lines saw the same where that is printed
pub record HaveStamps (plan : Plan) (lines more : List Line) : Type 0 where
  pub stamps : map stamp lines ≡ map stamp more
  pub seen : nat_le 2 plan.buckets ≡ true → seens lines ≡ seens more

-- as many lines behind any pasts
journal-tells : (plan : Plan) (past other lines more : List Line) (r s : List Words) → length lines ≡ length more → AllByRecursion IsTimed lines → AllByRecursion IsNumbered lines → AllByRecursion IsNumbered more → Starts r → Starts s
    → journal_lines plan past lines ++ r ≡ journal_lines plan other more ++ s → HaveStamps plan lines more × (r ≡ s)
journal-tells plan past other [] [] r s n t h g rr rs e = (record { stamps = refl; seen = λ many. refl }, e)
journal-tells plan past other [] (m ∷ ms) r s n t h g rr rs e = absurd (omega (arith, n))
journal-tells plan past other (l ∷ ls) [] r s n t h g rr rs e = absurd (omega (arith, n))
journal-tells plan past other (l ∷ ls) (m ∷ ms) r s n t h g rr rs e =
    let below = all_below plan past l in
    let under = all_below plan other m in
    let rest = journal_lines plan (past ++ l ∷ []) ls in
    let more = journal_lines plan (other ++ m ∷ []) ms in
    let parts = heads (line_words plan past l) (line_words plan other m) ((below ++ rest) ++ r) ((under ++ more) ++ s) e in
    let both = front-tells is_set_in below under (rest ++ r) (more ++ s) (all_pass is_set_in below (only_below.below plan past l)) (all_pass is_set_in under (only_below.below plan other m))
    (lines-start plan (past ++ l ∷ []) ls r rr) (lines-start plan (other ++ m ∷ []) ms s rs) (sym (append_assoc below rest r) ∙ parts.1 ∙ append_assoc under more s) in
    let behind = journal-tells plan (past ++ l ∷ []) (other ++ m ∷ []) ls ms r s (omega (arith, n)) t.1 h.1 g.1 rr rs both.1 in (
      record {
        stamps = cons-same (line-tells plan past other l m t.0 h.0 g.0 parts.0) behind.0.stamps;
        seen = λ many. cons-same (saw-tells plan past other l m many t.0.seen both.0) (behind.0.seen many);
      },
      behind.1,
    )

-- ---- buckets

fourth : (a b c d x : List ℕ) → a ∷ b ∷ c ∷ d ∷ [] ≡ a ∷ b ∷ c ∷ x ∷ [] → d ≡ x
fourth a b c d x e = cc

buckets-start : (plan : Plan) (b : ℕ) (journals : List (List Line)) (r : List Words) → Starts r → Starts (bucket_lines plan b journals ++ r)
buckets-start plan b [] r h = h
buckets-start plan b (j ∷ js) r h = refl

-- a journal's length and its lines' moments are told by their texts
abbrev pub IsTimedJournal : List Line → Type 0
IsTimedJournal journal = Small (length journal) × AllByRecursion IsTimed journal

abbrev pub IsNumberedJournal : List Line → Type 0
IsNumberedJournal journal = AllByRecursion IsNumbered journal

-- as many journals, each with the stamps of the other
abbrev pub AreStamped : Plan → List (List Line) → List (List Line) → Type 0
AreStamped plan [] [] = Unit {0}
AreStamped plan [] (k ∷ ks) = ⊥
AreStamped plan (j ∷ js) [] = ⊥
AreStamped plan (j ∷ js) (k ∷ ks) = HaveStamps plan j k × AreStamped plan js ks

pub buckets-tell : (plan : Plan) (b : ℕ) (js ks : List (List Line)) (r s : List Words) → length js ≡ length ks → AllByRecursion IsTimedJournal js → AllByRecursion IsNumberedJournal js → AllByRecursion IsNumberedJournal ks → Starts r → Starts s
    → bucket_lines plan b js ++ r ≡ bucket_lines plan b ks ++ s → AreStamped plan js ks × (r ≡ s)
buckets-tell plan b [] [] r s n t h g rr rs e = (tt, e)
buckets-tell plan b [] (y ∷ ys) r s n t h g rr rs e = absurd (omega (arith, n))
buckets-tell plan b (x ∷ xs) [] r s n t h g rr rs e = absurd (omega (arith, n))
buckets-tell plan b (x ∷ xs) (y ∷ ys) r s n t h g rr rs e =
    let here = journal_lines plan [] x in
    let there = journal_lines plan [] y in
    let rest = bucket_lines plan (b + 1) xs in
    let more = bucket_lines plan (b + 1) ys in
    let parts = heads (codes "bucket" ∷ decimal b ∷ codes "lines" ∷ decimal (length x) ∷ []) (codes "bucket" ∷ decimal b ∷ codes "lines" ∷ decimal (length y) ∷ []) ((here ++ rest) ++ r) ((there ++ more) ++ s) e in
    let long = number-told (length x) (length y) t.0.0 (fourth (codes "bucket") (decimal b) (codes "lines") (decimal (length x)) (decimal (length y)) parts.0) in
    let both = journal-tells plan [] [] x y (rest ++ r) (more ++ s) long t.0.1 h.0 g.0 (buckets-start plan (b + 1) xs r rr) (buckets-start plan (b + 1) ys s rs)
    (sym (append_assoc here rest r) ∙ parts.1 ∙ append_assoc there more s) in
    let behind = buckets-tell plan (b + 1) xs ys r s (omega (arith, n)) t.1 h.1 g.1 rr rs both.1 in
    ((both.0, behind.0), behind.1)
