-- What contracts see of the tokens, before a step and behind it.
use Rattle.std.proofs.Common.{◌≡◌, ℕ, ◌+◌, List, [], ◌∷◌, ◌++◌, length, Option, None, Some, refl, sym, ap, ◌∙◌, append_assoc, append-nil, length-append}
use Rattle.std.specs.Prelude.{IsSome}
use Rattle.std.specs.Option.{option_map}
use Rattle.atomic_table.specs.Seated.{TableId}
use Rattle.nb_base.specs.declared.key.Key.{Key}
use Rattle.nb_base.specs.declared.time.OpId.{OpId}
use Rattle.nb_base.specs.declared.line.Line.{Line}
use Rattle.bucket_stamps.specs.declared.view.Part.{Part}
use Rattle.bucket_stamps.specs.declared.view.View.{View}
use Rattle.nb_base.specs.Ids.{participant_of}
use Rattle.bucket_stamps.specs.Own.{pair_by, pairs_from}
use Rattle.bucket_stamps.specs.Views.{owns, owns_all}
use Rattle.bucket_stamps.specs.Shown.{StamperShown, after_line, after_plain, after_lines, IsOfLodged, lodged_participant}
use Rattle.bucket_stamps.proofs.Lists.{if_some_more}
use Rattle.bucket_stamps.proofs.Owning.{pairs_from-append}

abbrev first_or : View → List View → View
first_or v [] = v
first_or v (x ∷ xs) = x

-- the one view
pub same_view : (views : List View) (v w : View) → views ≡ v ∷ [] → views ≡ w ∷ [] → v ≡ w
same_view views v w e f = ap (first_or v) (sym e ∙ f)

-- ---- lines one after another

lodged_more : (x : Line) (ls : List Line) (n : ℕ) (o : Option Part) → option_map (owns x (n + length ls)) (option_map (owns_all ls n) o) ≡ option_map (owns_all (ls ++ x ∷ []) n) o
lodged_more x ls n None = refl
lodged_more x ls n (Some m) =
    let F : List (ℕ × OpId) → Option Part = λ ps. Some (record m { pairs = ps }) in
    let one : pairs_from m.participant (n + length ls) (x ∷ []) ≡ pair_by x.id m.participant (n + length ls) = append-nil (pair_by x.id m.participant (n + length ls)) in
    ap F (append_assoc m.pairs (pairs_from m.participant n ls) (pair_by x.id m.participant (n + length ls)) ∙ ap (λ (l : List (ℕ × OpId)). m.pairs ++ l) (ap (λ (l : List (ℕ × OpId)). pairs_from m.participant n ls ++ l) (sym one) ∙ sym (pairs_from-append m.participant n ls (x ∷ []))))

pub lines_more : (x : Line) (ls : List Line) (s : StamperShown) → after_plain x (after_lines ls s) ≡ after_lines (ls ++ x ∷ []) s
lines_more x ls s =
    let F : List Line × Option Part → StamperShown = λ y. record s { lines = y.0; lodged = y.1 } in
    let lodged : option_map (owns x (length (s.lines ++ ls))) (option_map (owns_all ls (length s.lines)) s.lodged) ≡ option_map (owns_all (ls ++ x ∷ []) (length s.lines)) s.lodged =
    ap (λ (n : ℕ). option_map (owns x n) (option_map (owns_all ls (length s.lines)) s.lodged)) (length-append s.lines ls) ∙ lodged_more x ls (length s.lines) s.lodged in
    let lines : (s.lines ++ ls) ++ x ∷ [] ≡ s.lines ++ (ls ++ x ∷ []) = append_assoc s.lines ls (x ∷ []) in
    ap F (λ i. (lines i, lodged i))

-- the same for a line by which keys become known
pub first_more : (x : Line) (cells : List (Key × TableId)) (ls : List Line) (s : StamperShown) → after_line x cells (after_lines ls s) ≡ record (after_lines (ls ++ x ∷ []) s) { cells = s.cells ++ cells }
first_more x cells ls s = ap (λ (y : StamperShown). record y { cells = s.cells ++ cells }) (lines_more x ls s)

lodged_none : (n : ℕ) (o : Option Part) → o ≡ option_map (owns_all [] n) o
lodged_none n None = refl
lodged_none n (Some m) = ap (λ (ps : List (ℕ × OpId)). Some (record m { pairs = ps })) (sym (append-nil m.pairs))

pub lines_none : (s : StamperShown) → s ≡ after_lines [] s
lines_none s =
    let F : List Line × Option Part → StamperShown = λ y. record s { lines = y.0; lodged = y.1 } in
    let lines : s.lines ≡ s.lines ++ [] = sym (append-nil s.lines) in
    let lodged : s.lodged ≡ option_map (owns_all [] (length s.lines)) s.lodged = lodged_none (length s.lines) s.lodged in
    ap F (λ i. (lines i, lodged i))

participant_stays : (ls : List Line) (n : ℕ) (o : Option Part) → option_map (λ (m : Part). m.participant) (option_map (owns_all ls n) o) ≡ option_map (λ (m : Part). m.participant) o
participant_stays ls n None = refl
participant_stays ls n (Some m) = refl

pub of_lodged_still : (ls : List Line) (s : StamperShown) (l : Line) → IsOfLodged s l → IsOfLodged (after_lines ls s) l
of_lodged_still ls s l h =
    if_some_more (λ (id : OpId). lodged_participant s ≡ Some (participant_of id)) (λ (id : OpId). lodged_participant (after_lines ls s) ≡ Some (participant_of id)) l.id (λ id _ e. participant_stays ls (length s.lines) s.lodged ∙ e) h

some_still : (ls : List Line) (n : ℕ) (o : Option Part) → IsSome o → IsSome (option_map (owns_all ls n) o)
some_still ls n None h = h
some_still ls n (Some m) h = h

pub lodged_still : (ls : List Line) (s : StamperShown) → IsSome s.lodged → IsSome (after_lines ls s).lodged
lodged_still ls s h = some_still ls (length s.lines) s.lodged h
