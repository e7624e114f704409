-- An operation's line stands at the later of its item's moment and that of the last operation's line before it.
use Rattle.std.proofs.Common.{◌≡◌, ℕ, ◌*◌, ◌<◌, ◌≤◌, max, Bool, true, false, if◌then◌else◌, List, [], ◌∷◌, ◌++◌, length, refl, sym, ◌∙◌, ap, subst, append_assoc, append-nil, arith}
use Rattle.std.specs.List.{AllByRecursion}
use Rattle.std.specs.Prelude.{Option}
use Rattle.std.proofs.lemmas.List.Elements.{filter-append}
use Rattle.std.proofs.Math.Nat.{le-max_left, le-max_right}
use Rattle.nb_base.specs.declared.line.Line.{Line}
use Rattle.nb_base.specs.declared.plan.Plan.{Plan}
use Rattle.nb_journal.specs.Keys.{is_own}
use Rattle.nb_journal.specs.Lawful.{EachLine, last_moment}
use Rattle.nb_journal.specs.Accounts.{own_lines}
use Rattle.nb_journal.proofs.Lines.{by_last, each-last, each-at, each-front, last_moment-snoc}
use Rattle.nb_journal.proofs.Fits.{moment-within}
use Rattle.run_evidence.specs.Tokens.{AllOk, greatest_of, Shown, nothing_shown, Call, turn_by}
use Rattle.bucket_stamps.specs.declared.view.Turn.{Turn}
use Rattle.run_evidence.specs.Stamps.{StampWindow, advances, AreStampWindows, BucketEvidence, IsBucketEvidence}
use Rattle.run_evidence.proofs.Lists.{all_map, all_front, all_begins}
use Rattle.run_evidence.proofs.Turns.{greatest-snoc, greatest-above, greatest-within}
use Rattle.run_evidence.proofs.Histories.{IsAdvance, advances_are, made_all}
use Rattle.run_evidence.proofs.Buckets.{HoldsOfMade, kept_turns, kept_ok, kept_lawful}
use Rattle.run_evidence.proofs.Calls.{IsDone, spans_done}
use Rattle.run_evidence.proofs.Marks.{IsEarly, IsBetween, marks_of}

-- ---- two cuts of one list

pub cut_shorter : (xs ys r s : List Line) (x y : Line) → xs ++ x ∷ r ≡ ys ++ y ∷ s → length xs < length ys → (more : List Line) × (ys ≡ xs ++ x ∷ more)
cut_shorter [] [] r s x y e lt = absurd (omega arith)
cut_shorter [] (z ∷ ys) r s x y e lt = let head : x ≡ z = cc in (ys, ap (λ (l : Line). l ∷ ys) (sym head))
cut_shorter (z ∷ xs) [] r s x y e lt = absurd (omega arith)
cut_shorter (z ∷ xs) (w ∷ ys) r s x y e lt =
    let head : z ≡ w = cc in
    let tail : xs ++ x ∷ r ≡ ys ++ y ∷ s = cc in
    let rest = cut_shorter xs ys r s x y tail (omega arith) in
    let behind = rest.1 in
    (rest.0, cc)

pub cut_same : (xs ys r s : List Line) (x y : Line) → xs ++ x ∷ r ≡ ys ++ y ∷ s → length xs ≡ length ys → (xs ≡ ys) × (x ≡ y)
cut_same [] [] r s x y e l = (refl, cc)
cut_same [] (z ∷ ys) r s x y e l = absurd (omega arith)
cut_same (z ∷ xs) [] r s x y e l = absurd (omega arith)
cut_same (z ∷ xs) (w ∷ ys) r s x y e l =
    let head : z ≡ w = cc in
    let tail : xs ++ x ∷ r ≡ ys ++ y ∷ s = cc in
    let rest = cut_same xs ys r s x y tail (omega arith) in
    let front = rest.0 in
    (cc, rest.1)

-- ---- moments of operations' lines

abbrev pub NeverFall : List Line → Type 0
NeverFall journal = EachLine (λ past line. last_moment past ≤ line.at) journal

own_lines-snoc : (lines : List Line) (l : Line) → own_lines (lines ++ l ∷ []) ≡ own_lines lines ++ (if is_own l.op then l ∷ [] else [])
own_lines-snoc lines l = filter-append (λ (line : Line). is_own line.op) lines (l ∷ [])

-- the last operation's line isn't behind the last line
pub own-within : (lines : List Line) → NeverFall lines → last_moment (own_lines lines) ≤ last_moment lines
own-within lines = by_last (λ xs. NeverFall xs → last_moment (own_lines xs) ≤ last_moment xs) (λ h. omega arith) more lines where
  more : (xs : List Line) (x : Line) → (NeverFall xs → last_moment (own_lines xs) ≤ last_moment xs) → NeverFall (xs ++ x ∷ []) → last_moment (own_lines (xs ++ x ∷ [])) ≤ last_moment (xs ++ x ∷ [])
  more xs x rest h =
      let parts = each-last (λ past line. last_moment past ≤ line.at) xs x h in
      rw (own_lines-snoc xs x, last_moment-snoc xs x) (by_test (is_own x.op) (rest parts.0) parts.1) where
        by_test : (b : Bool) → last_moment (own_lines xs) ≤ last_moment xs → last_moment xs ≤ x.at → last_moment (own_lines xs ++ (if b then x ∷ [] else [])) ≤ x.at
        by_test true le last = let e = last_moment-snoc (own_lines xs) x in omega (arith, e)
        by_test false le last = rw append-nil (omega (arith, le, last))

-- an operation's line isn't behind the last of those up to it and behind it
pub own-behind : (past more : List Line) (line : Line) → is_own line.op ≡ true → NeverFall (past ++ line ∷ more) → line.at ≤ last_moment (own_lines (past ++ line ∷ more))
own-behind past more line own = by_last (λ xs. NeverFall (past ++ line ∷ xs) → line.at ≤ last_moment (own_lines (past ++ line ∷ xs))) one next more where
  one : NeverFall (past ++ line ∷ []) → line.at ≤ last_moment (own_lines (past ++ line ∷ []))
  one h = rw (own_lines-snoc past line, own, last_moment-snoc (own_lines past) line) (omega arith)

  next : (xs : List Line) (x : Line) → (NeverFall (past ++ line ∷ xs) → line.at ≤ last_moment (own_lines (past ++ line ∷ xs))) → NeverFall (past ++ line ∷ (xs ++ x ∷ [])) → line.at ≤ last_moment (own_lines (past ++ line ∷ (xs ++ x ∷ [])))
  next xs x rest h = subst (λ ys. line.at ≤ last_moment (own_lines ys)) assoc (rw (own_lines-snoc (past ++ line ∷ xs) x) (by_test (is_own x.op) (rest parts.0))) where
    assoc : (past ++ line ∷ xs) ++ x ∷ [] ≡ past ++ line ∷ (xs ++ x ∷ [])
    assoc = append_assoc past (line ∷ xs) (x ∷ [])

    parts : NeverFall (past ++ line ∷ xs) × (last_moment (past ++ line ∷ xs) ≤ x.at)
    parts = each-last (λ past line. last_moment past ≤ line.at) (past ++ line ∷ xs) x (subst NeverFall (sym assoc) h)

    by_test : (b : Bool) → line.at ≤ last_moment (own_lines (past ++ line ∷ xs)) → line.at ≤ last_moment (own_lines (past ++ line ∷ xs) ++ (if b then x ∷ [] else []))
    by_test true le =
        let e = last_moment-snoc (own_lines (past ++ line ∷ xs)) x in
        let within = moment-within (past ++ line ∷ xs) past xs line parts.0 refl in
        let last = parts.1 in
        omega (arith, e, within, last)
    by_test false le = rw append-nil le

-- ---- turns before a call's

-- a turn behind which no more lines stand than before the place has a moment that isn't behind this one
abbrev pub IsSettled : ℕ → ℕ → Turn → Type 0
IsSettled place at t = t.length ≤ place → t.at ≤ at

-- a call whose line stands before
call_settled : (p : ℕ) (plan : Plan) (journal : List Line) (turns : List Turn) (q : ℕ) (call other : Call) → NeverFall journal → IsDone p plan.params journal turns call → IsDone q plan.params journal turns other
    → IsSettled call.place (max call.entered.at (last_moment (own_lines call.past))) (turn_by q other)
call_settled p plan journal turns q call other never c o le =
    let lt : other.place < call.place = omega (arith, le) in
    let a = c.place in
    let b = o.place in
    let cut = cut_shorter other.past call.past o.rest c.rest other.line call.line (sym o.stands ∙ c.stands) (omega (arith, lt, a, b)) in
    let front = each-front (λ past line. last_moment past ≤ line.at) call.past (call.line ∷ c.rest) (subst NeverFall c.stands never) in
    let behind = subst (λ xs. other.line.at ≤ last_moment (own_lines xs)) (sym cut.1) (own-behind other.past cut.0 other.line o.own (subst NeverFall cut.1 front)) in
    let above = greatest-above other.after.turns in
    let mine = (all_back_one (λ (t : Turn). t.at ≤ greatest_of other.after.turns) other.earlier (turn_by q other) (subst (AllByRecursion (λ (t : Turn). t.at ≤ greatest_of other.after.turns)) o.turn above)) in
    let moment = o.moment in
    let right = le-max_right call.entered.at (last_moment (own_lines call.past)) in
    omega (arith, behind, mine, moment, right)
  where
    all_back_one : (P : Turn → Type 0) (xs : List Turn) (x : Turn) → AllByRecursion P (xs ++ x ∷ []) → P x
    all_back_one P [] x h = h.0
    all_back_one P (y ∷ xs) x h = all_back_one P xs x h.1

-- every turn is settled for a call that stands between its marks
made_settled : (p : ℕ) (plan : Plan) (told : List (Option ℕ × ℕ)) (kept : BucketEvidence) (call : Call) → NeverFall kept.journal → AllOk kept.turns → IsDone p plan.params kept.journal kept.turns call → IsBetween plan told call
    → HoldsOfMade (IsSettled call.place (max call.entered.at (last_moment (own_lines call.past)))) plan told kept.journal kept.turns
made_settled p plan told kept call never ok c between q history is given marks =
    made_all (IsSettled call.place bound) q plan history.windows
    (go nothing_shown history.windows is (subst (AllByRecursion (IsEarly call.place call.entered.at)) (sym marks) between.early) (spans_done q plan nothing_shown history.windows history.ended history.after kept.journal kept.turns is given.past given.begins ok)) where
      bound : ℕ
      bound = max call.entered.at (last_moment (own_lines call.past))

      by_mark : (start told : ℕ) (ts : List Turn) → (told ≤ call.place → start ≤ call.entered.at) → AllByRecursion (IsAdvance start told) ts → AllByRecursion (IsSettled call.place (max call.entered.at (last_moment (own_lines call.past)))) ts
      by_mark start told ts early all = all_map (IsAdvance start told) (IsSettled call.place (max call.entered.at (last_moment (own_lines call.past)))) ts
          (λ t a le. let from = a.length in let at = a.at in let begun = early (omega (arith, from, le)) in let left = le-max_left call.entered.at (last_moment (own_lines call.past)) in omega (arith, at, begun, left)) all

      go : (old : Shown) (spans : List StampWindow) → AreStampWindows q plan old spans history.ended history.after → AllByRecursion (IsEarly call.place call.entered.at) (marks_of plan spans history.ended)
          → AllByRecursion (λ (span : StampWindow). AllByRecursion (IsDone q plan.params kept.journal kept.turns) span.calls) spans
          → AllByRecursion (λ (span : StampWindow). AllByRecursion (IsSettled call.place (max call.entered.at (last_moment (own_lines call.past)))) (advances q plan span) × AllByRecursion (λ (other : Call). IsSettled call.place (max call.entered.at (last_moment (own_lines call.past))) (turn_by q other)) span.calls) spans
      go old [] is early done = tt
      go old (span ∷ spans) is early done = (
        (
          by_mark (span.number * plan.window) span.mark (advances q plan span) early.0 (advances_are q plan span),
          all_map (IsDone q plan.params kept.journal kept.turns) (λ (other : Call). IsSettled call.place (max call.entered.at (last_moment (own_lines call.past))) (turn_by q other)) span.calls (λ other o. call_settled p plan kept.journal kept.turns q call other never c o) done.0,
        ),
        go span.closed spans is.1 early.1 done.1,
      )

-- ---- a call's moment

settled_within : (place at : ℕ) (ts : List Turn) → AllByRecursion (IsSettled place at) ts → AllByRecursion (λ (t : Turn). t.length ≤ place) ts → AllByRecursion (λ (t : Turn). t.at ≤ at) ts
settled_within place at [] s b = tt
settled_within place at (t ∷ ts) s b = (s.0 b.0, settled_within place at ts s.1 b.1)

-- the line stands at the later of the item's moment and that of the last operation's line before it
pub call_moment : (p : ℕ) (plan : Plan) (told : List (Option ℕ × ℕ)) (kept : BucketEvidence) (call : Call) → IsBucketEvidence plan told kept → IsDone p plan.params kept.journal kept.turns call → IsBetween plan told call
    → call.line.at ≡ max call.entered.at (last_moment (own_lines call.past))
call_moment p plan told kept call h c between =
    let never = (kept_lawful plan told kept h).orderly.moments in
    let ok = kept_ok plan told kept h in
    let before = last_moment (own_lines call.past) in
    let bound = max call.entered.at before in
    let all = kept_turns (IsSettled call.place bound) plan told kept h (made_settled p plan told kept call never ok c between) in
    let shown = all_begins (IsSettled call.place bound) call.after.turns kept.turns c.shown all in
    let earlier = all_front (IsSettled call.place bound) call.earlier (turn_by p call ∷ []) (subst (AllByRecursion (IsSettled call.place bound)) c.turn shown) in
    let within = greatest-within bound call.earlier (settled_within call.place bound call.earlier earlier c.behind) in
    let is = c.moment ∙ ap greatest_of c.turn ∙ greatest-snoc call.earlier (turn_by p call) in
    let at = each-at (λ past line. last_moment past ≤ line.at) call.past c.rest call.line (subst NeverFall c.stands never) in
    let front = each-front (λ past line. last_moment past ≤ line.at) call.past (call.line ∷ c.rest) (subst NeverFall c.stands never) in
    let own = own-within call.past front in
    equal call.line.at call.entered.at before (greatest_of call.earlier) is within (omega (arith, at, own))
  where
    equal : (m at before g : ℕ) → m ≡ max g at → g ≤ max at before → before ≤ m → m ≡ max at before
    equal m at before g e le last = omega arith
