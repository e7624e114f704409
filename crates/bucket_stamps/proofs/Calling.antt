-- What a call of a stamp's participant shows.
use Rattle.std.proofs.Common.{◌≡◌, ℕ, Bool, List, [], ◌∷◌, ◌++◌, length, IfSome, refl, sym, ap, ◌∙◌, subst, append-nil}
use Rattle.atomic_table.specs.Seated.{TableId}
use Rattle.nb_base.specs.declared.key.Key.{Key}
use Rattle.nb_base.specs.declared.line.Line.{Line}
use Rattle.bucket_stamps.specs.declared.view.Turn.{Turn}
use Rattle.bucket_stamps.specs.declared.view.Part.{Part}
use Rattle.std.specs.Prelude.{All}
use Rattle.bucket_stamps.specs.Own.{pairs_from, AreTurnsOf, IsWithin, IsSettled}
use Rattle.bucket_stamps.specs.Shown.{StamperShown, StampShown, stamp_of, part_of, history_of, Agrees, SeesMore, lodging, after_lines, after_turn, after_call, stamp_after, turn_behind}
use Rattle.bucket_stamps.specs.Views.{met}
use Rattle.bucket_stamps.proofs.Lists.{begins_longer}
use Rattle.bucket_stamps.proofs.Owning.{length_behind-push, turns_within}

-- behind its turn every line belongs to one
pub call_settled : (s now : StamperShown) (m : Part) (ls : List Line) (at : ℕ) (ok : Bool) → now ≡ after_turn at ok (after_lines ls (lodging m s)) → IsSettled now.lines now.turns
call_settled s now m ls at ok e =
    let F : StamperShown → Type 0 = λ x. IsSettled x.lines x.turns in
    subst F (sym e) (sym (length_behind-push 0 s.turns (turn_behind m.participant at ok (s.lines ++ ls))))

pub call_more : (s : StamperShown) (stamp new : StampShown) (ls : List Line) (cells : List (Key × TableId)) (at : ℕ) (ok : Bool) → stamp.id ≡ s.id → Agrees s stamp → AreTurnsOf s.lines s.turns
    → new ≡ stamp_after (after_call stamp.participant ls cells at ok s) stamp (pairs_from stamp.participant (length s.lines) ls) → SeesMore stamp new ls (turn_behind stamp.participant at ok (s.lines ++ ls) ∷ [])
call_more s stamp new ls cells at ok id agrees order e =
    let t : Turn = turn_behind stamp.participant at ok (s.lines ++ ls) in
    let F : StampShown → Type 0 = λ x. SeesMore stamp x ls (t ∷ []) in
    let W : List Turn → Type 0 = λ ts. All (IsWithin (length s.lines)) ts in
    let more : SeesMore stamp (stamp_after (after_call stamp.participant ls cells at ok s) stamp (pairs_from stamp.participant (length s.lines) ls)) ls (t ∷ []) = record {
      id = sym id;
      participant = refl;
      before = s.lines;
      past = agrees.past;
      grown = refl;
      pairs = refl;
      cells = begins_longer stamp.cells s.cells cells (s.cells ++ cells) refl agrees.cells;
      others = agrees.turns.rest;
      no_own = agrees.turns.no_other;
      turns = ap (λ (l : List Turn). l ++ t ∷ []) (sym agrees.turns.more);
      within = subst W (sym agrees.turns.more) (turns_within s.lines s.turns order);
    } in
    subst F (sym e) more

-- a meeting makes no line and no turn
pub meet_more : (s : StamperShown) (stamp new : StampShown) → stamp.id ≡ s.id → Agrees s stamp → AreTurnsOf s.lines s.turns → new ≡ stamp_of s.id (met (history_of s) (part_of stamp)) → SeesMore stamp new [] []
meet_more s stamp new id agrees order e =
    let F : StampShown → Type 0 = λ x. SeesMore stamp x [] [] in
    let W : List Turn → Type 0 = λ ts. All (IsWithin (length s.lines)) ts in
    let more : SeesMore stamp (stamp_of s.id (met (history_of s) (part_of stamp))) [] [] = record {
      id = sym id;
      participant = refl;
      before = s.lines;
      past = agrees.past;
      grown = sym (append-nil s.lines);
      pairs = sym (append-nil stamp.pairs);
      cells = agrees.cells;
      others = agrees.turns.rest;
      no_own = agrees.turns.no_other;
      turns = sym agrees.turns.more ∙ sym (append-nil (stamp.turns ++ agrees.turns.rest));
      within = subst W (sym agrees.turns.more) (turns_within s.lines s.turns order);
    } in
    subst F (sym e) more

-- ---- a call by whose last line a key became known

abbrev pub wrote_all : List Line → List (Key × TableId) → Part → StamperShown → StamperShown
wrote_all ls cells m s = record (after_lines ls (lodging m s)) { cells = s.cells ++ cells }

pub first_settled : (s now : StamperShown) (m : Part) (ls : List Line) (cells : List (Key × TableId)) (at : ℕ) (ok : Bool) → now ≡ after_turn at ok (wrote_all ls cells m s) → IsSettled now.lines now.turns
first_settled s now m ls cells at ok e =
    let F : StamperShown → Type 0 = λ x. IsSettled x.lines x.turns in
    subst F (sym e) (sym (length_behind-push 0 s.turns (turn_behind m.participant at ok (s.lines ++ ls))))

pub first_stamp : (s wrote : StamperShown) (stamp new : StampShown) (ls : List Line) (cells : List (Key × TableId)) (at : ℕ) (ok : Bool) → wrote ≡ after_turn at ok (wrote_all ls cells (part_of stamp) s) → IfSome wrote.lodged (λ (m : Part). new ≡ stamp_of wrote.id (met (history_of wrote) m))
    → new ≡ stamp_after (after_call stamp.participant ls cells at ok s) stamp (pairs_from stamp.participant (length s.lines) ls)
first_stamp s wrote stamp new ls cells at ok e h =
    let F : StamperShown → Type 0 = λ x. IfSome x.lodged (λ (m : Part). new ≡ stamp_of x.id (met (history_of x) m)) in
    subst F e h
