-- In a journal only what stands below a line begins with a space.
use Rattle.std.proofs.Common.{◌≡◌, ℕ, zero, suc, ◌<◌, ◌/◌, ◌%◌, Bool, true, false, eqb, if◌then◌else◌, List, [], ◌∷◌, ◌++◌, length, refl, arith}
use Rattle.std.specs.Prelude.{codes, decimal, nat_le, Option, Some, None}
use Rattle.std.specs.List.{AllByRecursion}
use Rattle.std.specs.Fmt.{digit_glyph, digits_onto, digits}
use Rattle.nb_base.specs.declared.key.Key.{Key}
use Rattle.nb_base.specs.declared.op.Op.{Op}
use Rattle.nb_base.specs.declared.op.Op.TheVariants as op
use Rattle.nb_base.specs.declared.line.Line.{Line}
use Rattle.nb_base.specs.declared.plan.Plan.{Plan}
use Rattle.nb_journal.specs.Fold.{acts_of, known_keys, reply_of}
use Rattle.text_codes.specs.Lines.{Words, is_set_in}
use Rattle.text_codes.proofs.Each.{Each-append, row-not_set_in}
use Rattle.neigh_run.specs.Spelling.{op_words, id_word, reply_part}
use Rattle.neigh_run.specs.Entries.{entries_after}
use Rattle.neigh_run.specs.Report.{set_in, act_line, key_lines, lines_below, seen_lines}
use Rattle.neigh_run.specs.Laws.{OnlyBelowIsSetIn}
use Rattle.neigh_run.proofs.CleanWords.{all-flat_map, all-map}

-- a number has a digit
onto-some : (k n : ℕ) (d : ℕ) (acc : List ℕ) → 0 < length (digits_onto k 10 false n (d ∷ acc))
onto-some zero n d acc = omega arith
onto-some (suc k) n d acc = either (eqb (n / 10) 0) (onto-some k (n / 10) (digit_glyph false (n % 10)) (d ∷ acc)) where
  either : (t : Bool) → 0 < length (digits_onto k 10 false (n / 10) (digit_glyph false (n % 10) ∷ d ∷ acc)) → 0 < length (if t then digit_glyph false (n % 10) ∷ d ∷ acc else digits_onto k 10 false (n / 10) (digit_glyph false (n % 10) ∷ d ∷ acc))
  either true h = omega arith
  either false h = h

first-some : (k n : ℕ) → 0 < length (digits_onto (suc k) 10 false n [])
first-some k n = either (eqb (n / 10) 0) (onto-some k (n / 10) (digit_glyph false (n % 10)) []) where
  either : (t : Bool) → 0 < length (digits_onto k 10 false (n / 10) (digit_glyph false (n % 10) ∷ [])) → 0 < length (if t then digit_glyph false (n % 10) ∷ [] else digits_onto k 10 false (n / 10) (digit_glyph false (n % 10) ∷ []))
  either true h = omega arith
  either false h = h

pub some-decimal : (n : ℕ) → 0 < length (decimal n)
unfolding digits
some-decimal n = first-some 63 n

-- each of these rows is set in
abbrev AreSetIn : List Words → Type 0
AreSetIn rows = AllByRecursion (λ row. is_set_in row ≡ true) rows

key-set_in : (plan : Plan) (past : List Line) (line : Line) (key : Key) → AreSetIn (key_lines plan past line key)
key-set_in plan past line key = all-map (λ row. is_set_in row ≡ true) (act_line plan key) (λ a. refl) (acts_of plan.params past line key)

below-set_in : (plan : Plan) (past : List Line) (line : Line) (o : Op) → AreSetIn (lines_below plan past line o)
below-set_in plan past line op.Show = all-map (λ row. is_set_in row ≡ true) (λ words. set_in (codes "entry" ∷ words)) (λ words. refl) (entries_after plan.host plan.params past)
below-set_in plan past line _ = all-flat_map (λ row. is_set_in row ≡ true) (key_lines plan past line) (key-set_in plan past line) (known_keys (past ++ line ∷ []))

seen-set_in : (buckets : ℕ) (seen : Option ℕ) → AreSetIn (seen_lines buckets seen)
seen-set_in buckets None = tt
seen-set_in buckets (Some seen) = by_test (nat_le 2 buckets) where
  by_test : (many : Bool) → AreSetIn (if many then set_in (codes "seen" ∷ decimal seen ∷ []) ∷ [] else [])
  by_test true = (refl, tt)
  by_test false = tt

pub only_below : OnlyBelowIsSetIn
only_below = record {
  below = λ plan past line. Each-append (λ row. is_set_in row ≡ true) (seen_lines plan.buckets line.seen) (lines_below plan past line line.op) (seen-set_in plan.buckets line.seen) (below-set_in plan past line line.op);
  line = λ plan past line. row-not_set_in (decimal (length past)) (decimal line.at ∷ id_word line.id ∷ (op_words line.op ++ codes "->" ∷ reply_part (reply_of plan.params past line))) (some-decimal (length past));
}
