-- Own lines and turns of a grown history.
use Rattle.std.proofs.Common.{◌≡◌, ◌≢◌, ℕ, suc, ◌+◌, ◌≤◌, ◌<◌, Bool, true, false, List, [], ◌∷◌, ◌++◌, length, Option, Some, None, IfSome, refl, sym, ap, ◌∙◌, subst, arith, append_assoc, append-nil, length-append}
use Rattle.std.specs.Prelude.{if◌then◌else◌, ◌==◌, All, IsSome}
use Rattle.std.proofs.lemmas.List.Elements.{All-head, All-tail, All-nil, All-cons, All-push}
use Rattle.std.proofs.lemmas.Bool.{eq-eqb, ne_eqb}
use Rattle.std.proofs.lemmas.Option.{same_Some}
use Rattle.atomic_table.specs.Seated.{TableId}
use Rattle.nb_base.specs.declared.key.Key.{Key}
use Rattle.nb_base.specs.declared.time.OpId.{OpId}
use Rattle.nb_base.specs.declared.line.Line.{Line}
use Rattle.bucket_stamps.specs.declared.view.Turn.{Turn}
use Rattle.bucket_stamps.specs.declared.view.History.{History}
use Rattle.bucket_stamps.specs.declared.view.Part.{Part}
use Rattle.bucket_stamps.specs.declared.view.View.{View}
use Rattle.nb_base.specs.Ids.{participant_of}
use Rattle.bucket_stamps.specs.Own.{pair_by, pairs_from, own_pairs, turns_of, length_behind, NeverFall, AreTurnsOf, IsWithin, IsTurnOfOne}
use Rattle.bucket_stamps.specs.Kept.{HasAllOf, AgreesWith}
use Rattle.bucket_stamps.specs.Views.{with_line, with_turn, met, owns, turn_by, turned}
use Rattle.bucket_stamps.proofs.Lists.{begins_longer, begins_self, the_some, if_some_at}

-- ---- own lines

pub pairs_from-append : (p n : ℕ) (xs ys : List Line) → pairs_from p n (xs ++ ys) ≡ pairs_from p n xs ++ pairs_from p (n + length xs) ys
pairs_from-append p n [] ys = let e : n ≡ n + 0 = omega arith in ap (λ (k : ℕ). pairs_from p k ys) e
pairs_from-append p n (x ∷ xs) ys =
    let e : (n + 1) + length xs ≡ n + suc (length xs) = omega arith in
    ap (λ (l : List (ℕ × OpId)). pair_by x.id p n ++ l) (pairs_from-append p (n + 1) xs ys ∙ ap (λ (k : ℕ). pairs_from p (n + 1) xs ++ pairs_from p k ys) e)
    ∙ sym (append_assoc (pair_by x.id p n) (pairs_from p (n + 1) xs) (pairs_from p (n + suc (length xs)) ys))

-- one more line
pub own_pairs-push : (p : ℕ) (xs : List Line) (x : Line) → own_pairs p (xs ++ x ∷ []) ≡ own_pairs p xs ++ pair_by x.id p (length xs)
own_pairs-push p xs x =
    let e : 0 + length xs ≡ length xs = omega arith in
    pairs_from-append p 0 xs (x ∷ []) ∙ ap (λ (k : ℕ). pairs_from p 0 xs ++ (pair_by x.id p k ++ [])) e ∙ ap (λ (l : List (ℕ × OpId)). pairs_from p 0 xs ++ l) (append-nil (pair_by x.id p (length xs)))

-- the line isn't another's
pub not_anothers : (o : Option OpId) (p q place : ℕ) → IfSome o (λ (id : OpId). Some p ≡ Some (participant_of id)) → q ≢ p → pair_by o q place ≡ []
not_anothers None p q place h n = refl
not_anothers (Some id) p q place h n = ap (λ (b : Bool). if b then (place, id) ∷ [] else []) (ne_eqb (participant_of id) q (λ e. n (sym e ∙ sym (same_Some p (participant_of id) h))))

-- lines without ids are nobody's
pub nobodys : (p n : ℕ) (ls : List Line) → All (λ (l : Line). l.id ≡ None) ls → pairs_from p n ls ≡ []
nobodys p n [] h = refl
nobodys p n (l ∷ ls) h =
    let first : pair_by l.id p n ≡ [] = ap (λ (o : Option OpId). pair_by o p n) (All-head (λ (x : Line). x.id ≡ None) l ls h) in
    ap (λ (xs : List (ℕ × OpId)). xs ++ pairs_from p (n + 1) ls) first ∙ nobodys p (n + 1) ls (All-tail (λ (x : Line). x.id ≡ None) l ls h)

-- lines without ids, and one of the participant behind them
pub own_last_line : (p n : ℕ) (ls : List Line) (x : Line) (id : OpId) → All (λ (l : Line). l.id ≡ None) ls → x.id ≡ Some id → participant_of id ≡ p → pairs_from p n (ls ++ x ∷ []) ≡ (n + length ls, id) ∷ []
own_last_line p n ls x id none is own =
    let k : ℕ = n + length ls in
    let its : pair_by x.id p k ≡ (k, id) ∷ [] = ap (λ (o : Option OpId). pair_by o p k) is ∙ ap (λ (b : Bool). if b then (k, id) ∷ [] else []) (eq-eqb (participant_of id) p own) in
    pairs_from-append p n ls (x ∷ []) ∙ (ap (λ (xs : List (ℕ × OpId)). xs ++ (pair_by x.id p k ++ [])) (nobodys p n ls none) ∙ (append-nil (pair_by x.id p k) ∙ its))

-- ---- turns

picks : (b : Bool) (t : Turn) (xs ys : List Turn) → (if b then t ∷ (xs ++ ys) else xs ++ ys) ≡ (if b then t ∷ xs else xs) ++ ys
picks true t xs ys = refl
picks false t xs ys = refl

pub turns_of-append : (p : ℕ) (xs ys : List Turn) → turns_of p (xs ++ ys) ≡ turns_of p xs ++ turns_of p ys
turns_of-append p [] ys = refl
turns_of-append p (t ∷ xs) ys =
    ap (λ (l : List Turn). if t.participant == p then t ∷ l else l) (turns_of-append p xs ys) ∙ picks (t.participant == p) t (turns_of p xs) (turns_of p ys)

-- one participant's turn isn't another's
pub no_turn : (t : Turn) (q : ℕ) → q ≢ t.participant → turns_of q (t ∷ []) ≡ []
no_turn t q n = ap (λ (b : Bool). if b then t ∷ [] else []) (ne_eqb t.participant q (λ e. n (sym e)))

pub length_behind-push : (n : ℕ) (ts : List Turn) (t : Turn) → length_behind n (ts ++ t ∷ []) ≡ t.length
length_behind-push n [] t = refl
length_behind-push n (x ∷ ts) t = length_behind-push x.length ts t

-- ---- turns in order

behind_least : (n : ℕ) (ts : List Turn) → NeverFall n ts → n ≤ length_behind n ts
behind_least n [] h = omega arith
behind_least n (t ∷ ts) h = let rest = behind_least t.length ts h.1 in let first = h.0 in omega (arith, rest, first)

all_within : (n most : ℕ) (ts : List Turn) → NeverFall n ts → length_behind n ts ≤ most → All (IsWithin most) ts
all_within n most [] h e = All-nil (IsWithin most)
all_within n most (t ∷ ts) h e =
    let rest = behind_least t.length ts h.1 in
    All-cons (IsWithin most) t ts (omega (arith, rest, e)) (all_within t.length most ts h.1 e)

never_fall-push : (n : ℕ) (ts : List Turn) (t : Turn) → NeverFall n ts → length_behind n ts ≤ t.length → NeverFall n (ts ++ t ∷ [])
never_fall-push n [] t h e = (e, tt)
never_fall-push n (x ∷ ts) t h e = (h.0, never_fall-push x.length ts t h.1 e)

-- no turn has more lines behind it than the journal
pub turns_within : (lines : List Line) (turns : List Turn) → AreTurnsOf lines turns → All (IsWithin (length lines)) turns
turns_within lines turns h = all_within 0 (length lines) turns h.rising h.within

-- a journal with one more line
pub order_line : (lines new : List Line) (l : Line) (turns : List Turn) → new ≡ lines ++ l ∷ [] → AreTurnsOf lines turns → AreTurnsOf new turns
order_line lines new l turns e h = record {
  rising = h.rising;
  within = (let within = h.within in let long : length new ≡ length lines + 1 = ap length e ∙ length-append lines (l ∷ []) in omega (arith, within, long));
}

-- a turn behind all lines
order_turn : (lines : List Line) (turns : List Turn) (t : Turn) → t.length ≡ length lines → AreTurnsOf lines turns → AreTurnsOf lines (turns ++ t ∷ [])
order_turn lines turns t long h = record {
  rising = never_fall-push 0 turns t h.rising (let within = h.within in omega (arith, within, long));
  within = (let last = length_behind-push 0 turns t in omega (arith, last, long));
}

-- a turn of the participant that stands here
pub order_turned : (at : ℕ) (ok : Bool) (v : View) → IsSome v.part → AreTurnsOf v.history.lines v.history.turns → AreTurnsOf (turned at ok v).history.lines (turned at ok v).history.turns
order_turned at ok v some h =
    let there = the_some v.part some in
    let F : Option Part → Type 0 = λ o. AreTurnsOf v.history.lines (v.history.turns ++ turn_by o at ok (length v.history.lines)) in
    let t : Turn = record { participant = there.0.participant; at = at; ok = ok; length = length v.history.lines } in
    subst F (sym there.1) (order_turn v.history.lines v.history.turns t refl h)

-- it is of one of the participants
pub turned_of_one : (at : ℕ) (ok : Bool) (v : View) → IsSome v.part → IfSome v.part (λ (m : Part). m.participant < v.participants) → All (IsTurnOfOne v.participants) v.history.turns → All (IsTurnOfOne v.participants) (turned at ok v).history.turns
turned_of_one at ok v some below h =
    let there = the_some v.part some in
    let F : Option Part → Type 0 = λ o. All (IsTurnOfOne v.participants) (v.history.turns ++ turn_by o at ok (length v.history.lines)) in
    let t : Turn = record { participant = there.0.participant; at = at; ok = ok; length = length v.history.lines } in
    subst F (sym there.1) (All-push (IsTurnOfOne v.participants) v.history.turns t h (if_some_at (λ (m : Part). m.participant < v.participants) v.part there.0 there.1 below))

-- ---- a history that grows by lines and turns of one participant, or of none

pub record Grows (p : ℕ) (old new : History) : Type 0 where
  pub lines : List Line
  pub lines_are : new.lines ≡ old.lines ++ lines
  pub no_lines : (q : ℕ) → q ≢ p → pairs_from q (length old.lines) lines ≡ []
  pub turns : List Turn
  pub turns_are : new.turns ≡ old.turns ++ turns
  pub no_turns : (q : ℕ) → q ≢ p → turns_of q turns ≡ []
  pub cells : List (Key × TableId)
  pub cells_are : new.cells ≡ old.cells ++ cells

pub has_all_longer : (q : ℕ) (seen all more new : List Turn) → new ≡ all ++ more → turns_of q more ≡ [] → HasAllOf q seen all → HasAllOf q seen new
has_all_longer q seen all more new e none h = record {
  rest = h.rest ++ more;
  more = sym (append_assoc seen h.rest more) ∙ (ap (λ (l : List Turn). l ++ more) h.more ∙ sym e);
  no_other = turns_of-append q h.rest more ∙ (ap (λ (l : List Turn). l ++ turns_of q more) h.no_other ∙ none);
}

-- what agrees with a history agrees with it when it has grown by another's
pub agrees_longer : (p : ℕ) (old new : History) (m : Part) → Grows p old new → m.participant ≢ p → AgreesWith old m → AgreesWith new m
agrees_longer p old new m g n h = record {
  pairs = h.pairs ∙ (sym (append-nil (own_pairs m.participant old.lines)) ∙ (ap (λ (l : List (ℕ × OpId)). own_pairs m.participant old.lines ++ l) (sym (none_here p old new m g n)) ∙ (sym (pairs_from-append m.participant 0 old.lines g.lines) ∙ ap (λ (l : List Line). own_pairs m.participant l) (sym g.lines_are))));
  past = begins_longer m.seen.lines old.lines g.lines new.lines g.lines_are h.past;
  turns = has_all_longer m.participant m.seen.turns old.turns g.turns new.turns g.turns_are (g.no_turns m.participant n) h.turns;
  cells = begins_longer m.seen.cells old.cells g.cells new.cells g.cells_are h.cells;
}
  where
    none_here : (p : ℕ) (old new : History) (m : Part) (g : Grows p old new) → m.participant ≢ p → pairs_from m.participant (0 + length old.lines) g.lines ≡ []
    none_here p old new m g n = let e : 0 + length old.lines ≡ length old.lines = omega arith in ap (λ (k : ℕ). pairs_from m.participant k g.lines) e ∙ g.no_lines m.participant n

-- a line of this participant, or of none
pub grows_line : (l : Line) (cells : List (Key × TableId)) (history : History) (m : Part) → IfSome l.id (λ (id : OpId). Some m.participant ≡ Some (participant_of id)) → Grows m.participant history (with_line l cells history)
grows_line l cells history m own = record {
  lines = l ∷ [];
  lines_are = refl;
  no_lines = λ q n. ap (λ (xs : List (ℕ × OpId)). xs ++ []) (not_anothers l.id m.participant q (length history.lines) own n);
  turns = [];
  turns_are = sym (append-nil history.turns);
  no_turns = λ q n. refl;
  cells = cells;
  cells_are = refl;
}

pub agrees_line : (l : Line) (cells : List (Key × TableId)) (history : History) (m : Part) → AgreesWith history m → AgreesWith (with_line l cells history) (owns l (length history.lines) m)
agrees_line l cells history m h = record {
  pairs = ap (λ (xs : List (ℕ × OpId)). xs ++ pair_by l.id m.participant (length history.lines)) h.pairs ∙ sym (own_pairs-push m.participant history.lines l);
  past = begins_longer m.seen.lines history.lines (l ∷ []) (history.lines ++ l ∷ []) refl h.past;
  turns = h.turns;
  cells = begins_longer m.seen.cells history.cells cells (history.cells ++ cells) refl h.cells;
}

-- a turn of this participant
pub grows_turn : (at : ℕ) (ok : Bool) (history : History) (m : Part) → Grows m.participant history (with_turn at ok (Some m) history)
grows_turn at ok history m = record {
  lines = [];
  lines_are = sym (append-nil history.lines);
  no_lines = λ q ne. refl;
  turns = turn_by (Some m) at ok (length history.lines);
  turns_are = refl;
  no_turns = λ q ne. no_turn (record { participant = m.participant; at = at; ok = ok; length = length history.lines }) q ne;
  cells = [];
  cells_are = sym (append-nil history.cells);
}

-- a participant that has seen all agrees
pub agrees_met : (history : History) (m : Part) → m.pairs ≡ own_pairs m.participant history.lines → AgreesWith history (met history m)
agrees_met history m same = record {
  pairs = same;
  past = begins_self history.lines history.lines refl;
  turns = record { rest = []; more = append-nil history.turns; no_other = refl };
  cells = begins_self history.cells history.cells refl;
}
