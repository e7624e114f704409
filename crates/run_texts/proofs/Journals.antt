-- Lawful journals that keep to one plan are one where they have the same moments and numbers and their lines saw the same.
use Rattle.std.proofs.Common.{◌≡◌, ℕ, ◌≤◌, max, Bool, true, false, is_some, List, [], ◌∷◌, ◌++◌, length, map, refl, sym, ◌∙◌, ap, subst, arith, append-nil}
use Rattle.std.specs.Prelude.{drop, nat_le, Option, Some, None, IfSome}
use Rattle.std.specs.List.{AllByRecursion}
use Rattle.std.proofs.lemmas.Bool.{false≢true}
use Rattle.std.proofs.lemmas.Bool.Decides.{nat_tests}
use Rattle.nb_base.specs.declared.key.Key.{Key}
use Rattle.nb_base.specs.declared.time.OpId.{OpId}
use Rattle.nb_base.specs.declared.params.Params.{Params}
use Rattle.nb_base.specs.declared.op.Op.{Op}
use Rattle.nb_base.specs.declared.op.Op.TheVariants as op
use Rattle.nb_base.specs.declared.line.Line.{Line}
use Rattle.nb_base.specs.declared.plan.Plan.{Plan}
use Rattle.nb_base.specs.Params.{InRange}
use Rattle.nb_journal.specs.Keys.{is_own, is_sweep}
use Rattle.nb_journal.specs.Fold.{present_count}
use Rattle.nb_journal.specs.Lawful.{EachLine, IsLawful, IsOrderly, last_moment, base_of, is_collect, collect_line, looks, HasSeen, HasItsPass}
use Rattle.nb_journal.specs.Laws.{Saw}
use Rattle.nb_journal.proofs.Lines.{each-at, each-of}
use Rattle.nb_journal.proofs.Passes.{looks-none, collects_keys}
use Rattle.nb_journal.proofs.Unique.{lawful_are_one}
use Rattle.run_texts.specs.Told.{IsToldJournal}
use Rattle.run_texts.proofs.Lists.{each_line-all}
use Rattle.run_texts.proofs.Named.{stamp, AreNumbered, operations-same}
use Rattle.run_texts.proofs.Rows.{seens, HaveStamps, AreStamped}

-- ---- what a journal's lines saw, by the lines before them

-- the first number that was seen
abbrev first_seen : List (Option ℕ) → ℕ
first_seen [] = 0
first_seen (None ∷ more) = first_seen more
first_seen (Some n ∷ more) = n

-- the one behind these lines
abbrev seen_behind : List (Option ℕ) → List Line → ℕ
seen_behind saw lines = first_seen (drop (length lines) saw)

-- a line that looks stands right behind its collect lines
pass-is : (p : Params) (past : List Line) (l : Line) (o : Op) → HasItsPass p past l o → is_collect o ≡ false → (keys : List Key) × (past ≡ base_of past ++ map (collect_line l.at) keys)
pass-is p past l (op.Timer key) h e = ([], sym h ∙ sym (append-nil (base_of past)))
pass-is p past l op.Sweep h e = ([], sym h ∙ sym (append-nil (base_of past)))
pass-is p past l (op.Collect key) h e = cc
pass-is p past l _ h e = let made = collects_keys p (base_of past) l in (made.0, h ∙ ap (λ (ls : List Line). base_of past ++ ls) made.1)

-- a collect line didn't look
no_collect : (p : Params) (base : List Line) (l : Line) (o : Op) → l.op ≡ o → looks p base l ≡ true → is_collect o ≡ false
no_collect p base l (op.Collect key) e look = absurd (false≢true (sym (looks-none p base l (ap is_own e) (ap is_sweep e)) ∙ look))
no_collect p base l _ e look = refl

skip-collects : (at : ℕ) (base : List Line) (keys : List Key) (l : Line) (rest : List Line) (n : ℕ) → l.seen ≡ Some n → seen_behind (seens ((base ++ map (collect_line at) keys) ++ l ∷ rest)) base ≡ n
skip-collects at [] [] l rest n e = rw e refl
skip-collects at [] (key ∷ keys) l rest n e = skip-collects at [] keys l rest n e
skip-collects at (b ∷ base) keys l rest n e = skip-collects at base keys l rest n e

-- in an orderly journal the lines before a line and its collect lines determine what it saw
saw-itself : (p : Params) (journal : List Line) → IsOrderly p journal → EachLine (Saw (seen_behind (seens journal))) journal
saw-itself p journal orderly = each-of (Saw (seen_behind (seens journal))) journal at_line where
  at_line : (past rest : List Line) (l : Line) → journal ≡ past ++ l ∷ rest → Saw (seen_behind (seens journal)) past l
  at_line past rest l e = by_seen l.seen refl where
    has : HasSeen p (base_of past) l
    has = each-at (λ past line. HasSeen p (base_of past) line) past rest l (subst (EachLine (λ past line. HasSeen p (base_of past) line)) e orderly.seen)

    pass : HasItsPass p past l l.op
    pass = each-at (λ past line. HasItsPass p past line line.op) past rest l (subst (EachLine (λ past line. HasItsPass p past line line.op)) e orderly.passes)

    by_seen : (seen : Option ℕ) → l.seen ≡ seen → IfSome seen (λ n. n ≡ seen_behind (seens journal) (base_of past))
    by_seen None is = tt
    by_seen (Some n) is =
        let look = sym has.there ∙ ap (λ (o : Option ℕ). is_some o) is in
        let behind = pass-is p past l l.op pass (no_collect p (base_of past) l l.op refl look) in
        sym (skip-collects l.at (base_of past) behind.0 l rest n is)
        ∙ ap (λ (ls : List Line). seen_behind (seens (ls ++ l ∷ rest)) (base_of past)) (sym behind.1)
        ∙ ap (λ (ls : List Line). seen_behind (seens ls) (base_of past)) (sym e)

-- ---- the last moment

-- the last of these moments
abbrev last_stamp : List (ℕ × Option OpId) → ℕ
last_stamp [] = 0
last_stamp (s ∷ []) = s.0
last_stamp (s ∷ next ∷ ss) = last_stamp (next ∷ ss)

last-is : (lines : List Line) → last_moment lines ≡ last_stamp (map stamp lines)
last-is [] = refl
last-is (l ∷ []) = refl
last-is (l ∷ next ∷ lines) = last-is (next ∷ lines)

last-same : (xs ys : List Line) → map stamp xs ≡ map stamp ys → last_moment xs ≡ last_moment ys
last-same xs ys e = last-is xs ∙ ap last_stamp e ∙ sym (last-is ys)

-- ---- the journals

numbered : (plan : Plan) (start : ℕ) (journal : List Line) → IsToldJournal plan start journal → AreNumbered journal
numbered plan start journal h = each_line-all (λ past line. is_some line.id ≡ is_own line.op) (λ (l : Line). is_some l.id ≡ is_own l.op) [] journal (λ past line e. e) h.lawful.orderly.ids

journal-one : (plan : Plan) (start : ℕ) (j k : List Line) → InRange plan.params → IsToldJournal plan start j → IsToldJournal plan start k → HaveStamps plan j k → j ≡ k
journal-one plan start j k r h g e = by_test (nat_le 2 plan.buckets) refl where
  by : (sees : List Line → ℕ) → EachLine (Saw sees) j → EachLine (Saw sees) k → j ≡ k
  by sees saw other =
      lawful_are_one plan.params sees j k (max start (last_moment j)) r h.lawful
      (subst (λ m. IsLawful plan.params k (max start m)) (sym (last-same j k e.stamps)) g.lawful) saw other
      (operations-same plan j k (numbered plan start j h) (numbered plan start k g) h.named g.named e.stamps)

  by_test : (t : Bool) → nat_le 2 plan.buckets ≡ t → j ≡ k
  by_test true many = by (seen_behind (seens j)) (saw-itself plan.params j h.lawful.orderly) (subst (λ (saw : List (Option ℕ)). EachLine (Saw (seen_behind saw)) k) (sym (e.seen many)) (saw-itself plan.params k g.lawful.orderly))
  by_test false one = let alone : plan.buckets ≤ 1 = grind (arith, nat_tests, one) in by (present_count plan.params) (h.alone alone) (g.alone alone)

pub journals-one : (plan : Plan) (start : ℕ) (js ks : List (List Line)) → InRange plan.params → AllByRecursion (IsToldJournal plan start) js → AllByRecursion (IsToldJournal plan start) ks → AreStamped plan js ks → js ≡ ks
journals-one plan start [] [] r h g e = refl
journals-one plan start [] (k ∷ ks) r h g e = absurd e
journals-one plan start (j ∷ js) [] r h g e = absurd e
journals-one plan start (j ∷ js) (k ∷ ks) r h g e =
    let first = journal-one plan start j k r h.0 g.0 e.0 in
    let rest = journals-one plan start js ks r h.1 g.1 e.1 in
    λ i. first i ∷ rest i
