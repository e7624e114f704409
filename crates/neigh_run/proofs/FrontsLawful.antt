-- The front of a lawful journal up to an operation's line is lawful at that line's moment.
use Rattle.std.proofs.Common.{◌≡◌, ℕ, ◌+◌, ◌<◌, ◌≤◌, true, false, List, [], ◌∷◌, ◌++◌, length, refl, sym, ◌∙◌, ap, subst, arith, append_assoc, append-nil}
use Rattle.std.proofs.lemmas.List.{length-append}
use Rattle.std.proofs.lemmas.List.Elements.{filter-append}
use Rattle.nb_base.specs.declared.params.Params.{Params}
use Rattle.nb_base.specs.declared.line.Line.{Line}
use Rattle.nb_base.specs.Params.{InRange}
use Rattle.nb_journal.specs.Keys.{is_own, is_timer}
use Rattle.nb_journal.specs.Lawful.{each_line, EachLine, last_moment, IsSweepMoment, is_before_sweep, before_sweep, sweep_line, HasSweep, is_collect, IsLawful}
use Rattle.nb_journal.proofs.Lines.{by_last, each-at, each-front, each-behind, each-map, last_moment-snoc, base_of-other}
use Rattle.nb_journal.proofs.Dues.{dues_from-snoc}
use Rattle.nb_journal.proofs.Folds.{filter_within}
use Rattle.nb_journal.proofs.Fits.{Fits, Runs, IsTimely, timely, dues_behind, before_other, over-first, over-none, before-off, runs-lawful, lawful-runs, moment-within}
use Rattle.nb_journal.proofs.Appends.{lawful-nil}
use Rattle.nb_journal.proofs.Unique.{own_kind}
use Rattle.neigh_run.specs.Inline.{ends_own}

-- of two splits of a list, the longer front has the line behind the shorter one
longer_front : (xs rest ys zs : List Line) (s : Line) → xs ++ rest ≡ ys ++ s ∷ zs → length ys < length xs → (more : List Line) × (xs ≡ ys ++ s ∷ more)
longer_front [] rest ys zs s e lt = absurd (omega (arith, lt))
longer_front (x ∷ xs) rest [] zs s e lt = let same : x ≡ s = cc in (xs, ap (λ (y : Line). y ∷ xs) same)
longer_front (x ∷ xs) rest (y ∷ ys) zs s e lt =
    let same : x ≡ y = cc in
    let tail : xs ++ rest ≡ ys ++ s ∷ zs = cc in
    let more = longer_front xs rest ys zs s tail (omega (arith, lt)) in
    (more.0, ap (λ (z : Line). z ∷ xs) same ∙ ap (λ (ws : List Line). y ∷ ws) more.1)

-- up to an operation's line
up_to : (p : Params) (past rest : List Line) (l : Line) (clock : ℕ) → InRange p → is_own l.op ≡ true → IsLawful p ((past ++ l ∷ []) ++ rest) clock → IsLawful p (past ++ l ∷ []) l.at
up_to p past rest l clock r own lawful = runs-lawful p (past ++ l ∷ []) l.at r
    (record {
      within = rw (last_moment-snoc past l) (omega arith);
      each = each-front (Fits p) (past ++ l ∷ []) rest runs.each;
      dues = dues_from-snoc p past l (l.at + 1) r (omega arith) (dues_behind p past l.at l.op kind.0 here.due);
      sweeps = sweeps;
    })
    (base_of-other past l kind.1) where
      kind : (is_timer l.op ≡ false) × (is_collect l.op ≡ false)
      kind = own_kind l.op own

      runs : Runs p ((past ++ l ∷ []) ++ rest) clock (clock + 1) (clock + 1)
      runs = lawful-runs p ((past ++ l ∷ []) ++ rest) clock lawful

      split : (past ++ l ∷ []) ++ rest ≡ past ++ l ∷ rest
      split = append_assoc past (l ∷ []) rest

      here : Fits p past l
      here = each-at (Fits p) past rest l (subst (EachLine (Fits p)) split runs.each)

      late : l.at ≤ clock
      late = let last = lawful.within in let le = moment-within ((past ++ l ∷ []) ++ rest) past rest l lawful.orderly.moments split in omega (arith, last, le)

      behind : each_line (IsTimely p) (past ++ l ∷ []) rest
      behind = each-behind (IsTimely p) (past ++ l ∷ []) rest (each-map (Fits p) (IsTimely p) ((past ++ l ∷ []) ++ rest) (timely p) runs.each)

      sweeps : (u : ℕ) → IsSweepMoment p u → u < l.at + 1 → HasSweep u (past ++ l ∷ [])
      sweeps u is lt =
          let off = before_other u l (omega (arith, lt)) kind.0 in
          let none = over-none p (past ++ l ∷ []) rest u r behind (over-first p past l u r (timely p past l here) off) in
          let front : before_sweep u ((past ++ l ∷ []) ++ rest) ≡ before_sweep u (past ++ l ∷ []) =
          filter-append (is_before_sweep u) (past ++ l ∷ []) rest ∙ ap (λ (xs : List Line). before_sweep u (past ++ l ∷ []) ++ xs) none ∙ append-nil (before_sweep u (past ++ l ∷ [])) in
          let le = late in
          let has = lawful.sweeps u is (omega (arith, lt, le)) in
          let short = filter_within (is_before_sweep u) past in
          let same = ap (λ (xs : List Line). length xs) (before-off u past l off) in
          let long = length-append past (l ∷ []) in
          let more = longer_front (past ++ l ∷ []) rest (before_sweep u (past ++ l ∷ [])) has.1 (sweep_line u has.0)
          (has.2 ∙ ap (λ (xs : List Line). xs ++ sweep_line u has.0 ∷ has.1) front) (omega (arith, short, same, long)) in
          (has.0, more.0, more.1)

pub ends-last : (lines : List Line) (l : Line) → ends_own (lines ++ l ∷ []) ≡ is_own l.op
ends-last [] l = refl
ends-last (x ∷ []) l = refl
ends-last (x ∷ y ∷ ys) l = ends-last (y ∷ ys) l

pub front-lawful : (p : Params) (front rest : List Line) (clock : ℕ) → InRange p → ends_own front ≡ true → IsLawful p (front ++ rest) clock → IsLawful p front (last_moment front)
front-lawful p front rest clock r = by_last (λ (xs : List Line). ends_own xs ≡ true → IsLawful p (xs ++ rest) clock → IsLawful p xs (last_moment xs)) (λ ends lawful. lawful-nil p r) more front where
  more : (xs : List Line) (x : Line) → (ends_own xs ≡ true → IsLawful p (xs ++ rest) clock → IsLawful p xs (last_moment xs)) → ends_own (xs ++ x ∷ []) ≡ true → IsLawful p ((xs ++ x ∷ []) ++ rest) clock → IsLawful p (xs ++ x ∷ []) (last_moment (xs ++ x ∷ []))
  more xs x shorter ends lawful = subst (IsLawful p (xs ++ x ∷ [])) (sym (last_moment-snoc xs x)) (up_to p xs rest x clock r (sym (ends-last xs x) ∙ ends) lawful)
