-- The collects of a forced pass.
use Rattle.std.proofs.Common.{◌≡◌, ℕ, ◌≤◌, ◌-◌, Bool, true, false, ◌&&◌, is_some, nat_lt, if◌then◌else◌, List, [], ◌∷◌, ◌++◌, length, Option, None, refl, sym, ◌∙◌, ap, arith, append_assoc, append-nil}
use Rattle.std.specs.Prelude.{map}
use Rattle.nb_base.specs.declared.key.Key.{Key}
use Rattle.nb_base.specs.declared.params.Params.{Params}
use Rattle.nb_base.specs.declared.line.Line.{Line}
use Rattle.nb_journal.specs.Fold.{seen_of, state_of}
use Rattle.nb_journal.specs.Lawful.{making, is_pass_due, last_pass, making_order, is_collectable, collected, collect_line}
use Rattle.nb_journal.specs.Lawful.{has_pass, taken_by_pass, asked_of_pass}
use Rattle.nb_journal.proofs.Folds.{known_keys-within}
use Rattle.nb_bucket.specs.Entering.{victims_of}
use Rattle.nb_bucket.proofs.Makes.{pass-same}
use Rattle.nb_bucket.proofs.Ranks.{order_few}

-- ---- one after another

one_more : (lines : List Line) (at : ℕ) (key : Key) (keys : List Key) → lines ++ map (collect_line at) (key ∷ keys) ≡ (lines ++ collect_line at key ∷ []) ++ map (collect_line at) keys
one_more lines at key keys = sym (append_assoc lines (collect_line at key ∷ []) (map (collect_line at) keys))

-- no pass is between them
pub pass-collects : (p : Params) (lines : List Line) (at : ℕ) (keys : List Key) → last_pass p (lines ++ map (collect_line at) keys) ≡ last_pass p lines
pass-collects p lines at [] = ap (last_pass p) (append-nil lines)
pass-collects p lines at (k ∷ ks) = ap (last_pass p) (one_more lines at k ks) ∙ pass-collects p (lines ++ collect_line at k ∷ []) at ks ∙ pass-same p lines (collect_line at k) refl

-- ---- what a pass takes

collected-few : (limit present : ℕ) (takes : Key → Bool) (keys : List Key) → length (collected limit present takes keys) ≤ length keys
collected-few limit present takes [] = omega arith
collected-few limit present takes (k ∷ ks) = by_test (nat_lt present limit) (takes k) (collected-few limit (present - 1) takes ks) (collected-few limit present takes ks) where
  by_test : (t u : Bool) → length (collected limit (present - 1) takes ks) ≤ length ks → length (collected limit present takes ks) ≤ length ks
      → length (if t then [] else (if u then k ∷ collected limit (present - 1) takes ks else collected limit present takes ks)) ≤ length (k ∷ ks)
  by_test true u a b = omega arith
  by_test false true a b = omega (arith, a)
  by_test false false a b = omega (arith, b)

-- no more keys than are known, which are no more than the lines
pub asked-few : (p : Params) (base : List Line) (l : Line) → length (asked_of_pass p base l) ≤ length base
asked-few p base l = by_test (has_pass p base l) where
  by_test : (t : Bool) → length (if t then taken_by_pass p base l else []) ≤ length base
  by_test true =
      let few = collected-few p.gc_thresh2 (seen_of l) (λ (key : Key). is_collectable l.at (state_of p base key)) (making_order p base) in
      let within = order_few p base in
      let known = known_keys-within base in
      omega (arith, few, within, known)
  by_test false = omega arith

-- the victims of the order of making are those that a due pass takes
pub victims-asked : (p : Params) (base : List Line) (l : Line) (seen : ℕ) (order : List Key) → has_pass p base l ≡ true → seen ≡ seen_of l → order ≡ making_order p base → victims_of p base seen l.at order ≡ asked_of_pass p base l
victims-asked p base l seen order on same e =
    ap (λ (n : ℕ). victims_of p base n l.at order) same ∙ ap (victims_of p base (seen_of l) l.at) e ∙ ap (λ (t : Bool). if t then taken_by_pass p base l else []) (sym on)

pub none-asked : (p : Params) (base : List Line) (l : Line) → has_pass p base l ≡ false → asked_of_pass p base l ≡ []
none-asked p base l off = ap (λ (t : Bool). if t then taken_by_pass p base l else []) off

-- a line that makes no entry asks for none
pub none-made : (p : Params) (base : List Line) (l : Line) → making p base l ≡ None → asked_of_pass p base l ≡ []
none-made p base l e = none-asked p base l (ap (λ (made : Option Key). is_some made && is_pass_due p (seen_of l) (last_pass p base) l.at) e)
