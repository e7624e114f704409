-- What is printed of what a line saw, told from the acts and entries behind it.
use Rattle.std.proofs.Common.{◌≡◌, ℕ, ◌<◌, ◌^◌, Bool, true, false, if◌then◌else◌, List, [], ◌∷◌, ◌++◌, refl, sym, ◌∙◌, ap, subst, arith}
use Rattle.std.specs.Prelude.{◌==◌, nat_le, codes, decimal, Option, Some, None, IfSome}
use Rattle.std.specs.List.{AllByRecursion}
use Rattle.std.proofs.lemmas.Bool.{true≢false}
use Rattle.nb_base.specs.declared.key.Key.{Key}
use Rattle.nb_base.specs.declared.op.Op.{Op}
use Rattle.nb_base.specs.declared.op.Op.TheVariants as op
use Rattle.nb_base.specs.declared.line.Line.{Line}
use Rattle.nb_base.specs.declared.plan.Plan.{Plan}
use Rattle.nud_machine.specs.declared.act.Act.{Act}
use Rattle.nud_machine.specs.declared.act.Act.TheVariants as act
use Rattle.nb_journal.specs.Fold.{acts_of, known_keys}
use Rattle.text_codes.specs.Lines.{Words}
use Rattle.text_codes.specs.Codes.{BeginsWithout}
use Rattle.neigh_run.specs.Entries.{entries_after}
use Rattle.neigh_run.specs.Report.{set_in, act_line, key_lines, lines_below, seen_lines, all_below}
use Rattle.neigh_run.proofs.CleanWords.{all-flat_map, all-map}
use Rattle.run_texts.specs.Laws.{SawFew}
use Rattle.run_texts.proofs.Lists.{heads}
use Rattle.run_texts.proofs.Numbers.{number-told}

-- the second letter of the first word behind the two spaces, by which `seen` differs from the words of acts and entries
abbrev is_seen_row : Words → Bool
is_seen_row (s ∷ t ∷ (a ∷ b ∷ word) ∷ words) = b == 101
is_seen_row _ = false

act-other : (plan : Plan) (key : Key) (a : Act) → is_seen_row (act_line plan key a) ≡ false
act-other plan key (act.Transmit id mac) = refl
act-other plan key (act.Wait id) = refl
act-other plan key (act.Drop id why) = refl
act-other plan key act.SolicitGroup = refl
act-other plan key (act.SolicitUnicast mac) = refl

below-other : (plan : Plan) (past : List Line) (line : Line) (o : Op) → AllByRecursion (λ row. is_seen_row row ≡ false) (lines_below plan past line o)
below-other plan past line op.Show = all-map (λ row. is_seen_row row ≡ false) (λ words. set_in (codes "entry" ∷ words)) (λ words. refl) (entries_after plan.host plan.params past)
below-other plan past line _ =
    all-flat_map (λ row. is_seen_row row ≡ false) (key_lines plan past line) (λ key. all-map (λ row. is_seen_row row ≡ false) (act_line plan key) (act-other plan key) (acts_of plan.params past line key)) (known_keys (past ++ line ∷ []))

begins : (rows : List Words) → AllByRecursion (λ row. is_seen_row row ≡ false) rows → BeginsWithout is_seen_row rows
begins [] h = tt
begins (row ∷ rows) h = h.0

abbrev seen_row : ℕ → Words
seen_row n = set_in (codes "seen" ∷ decimal n ∷ [])

no_seen : (n : ℕ) (r s : List Words) → BeginsWithout is_seen_row r → r ≡ seen_row n ∷ s → ⊥
no_seen n r s h e = let other = subst (BeginsWithout is_seen_row) e h in true≢false other

number_of : (a b x y s t u v : List ℕ) → a ∷ b ∷ s ∷ x ∷ [] ≡ t ∷ u ∷ v ∷ y ∷ [] → x ≡ y
number_of a b x y s t u v e = cc

-- the rows of what a line saw, where they are printed
printed : (buckets : ℕ) (n : ℕ) → nat_le 2 buckets ≡ true → seen_lines buckets (Some n) ≡ seen_row n ∷ []
printed buckets n e = ap (λ (t : Bool). if t then seen_row n ∷ [] else []) e

seen-told : (buckets : ℕ) (a b : Option ℕ) (r s : List Words) → nat_le 2 buckets ≡ true → IfSome a (λ n. n < 2 ^ 32) → BeginsWithout is_seen_row r → BeginsWithout is_seen_row s → seen_lines buckets a ++ r ≡ seen_lines buckets b ++ s → a ≡ b
seen-told buckets None None r s many few hr hs e = refl
seen-told buckets None (Some n) r s many few hr hs e = absurd (no_seen n r s hr (e ∙ ap (λ (rows : List Words). rows ++ s) (printed buckets n many)))
seen-told buckets (Some m) None r s many few hr hs e = absurd (no_seen m s r hs (sym e ∙ ap (λ (rows : List Words). rows ++ r) (printed buckets m many)))
seen-told buckets (Some m) (Some n) r s many few hr hs e =
    let rows = sym (ap (λ (rows : List Words). rows ++ r) (printed buckets m many)) ∙ e ∙ ap (λ (rows : List Words). rows ++ s) (printed buckets n many) in
    let words = (heads (seen_row m) (seen_row n) r s rows).0 in
    ap (λ (k : ℕ). Some k) (number-told m n (omega (arith, few)) (number_of [] [] (decimal m) (decimal n) (codes "seen") [] [] (codes "seen") words))

-- with two or more buckets, what stands below two lines tells what the first one saw
pub saw-tells : (plan : Plan) (past other : List Line) (l m : Line) → nat_le 2 plan.buckets ≡ true → SawFew l → all_below plan past l ≡ all_below plan other m → l.seen ≡ m.seen
saw-tells plan past other l m many few e =
    seen-told plan.buckets l.seen m.seen (lines_below plan past l l.op) (lines_below plan other m m.op) many few
    (begins (lines_below plan past l l.op) (below-other plan past l l.op))
    (begins (lines_below plan other m m.op) (below-other plan other m m.op)) e
