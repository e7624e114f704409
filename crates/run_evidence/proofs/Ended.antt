-- A bucket's journal ends with its last operation, or with the last window's advance: no turn has a later moment.
use Rattle.std.proofs.Common.{◌≡◌, ℕ, suc, ◌*◌, ◌<◌, ◌≤◌, max, List, [], ◌∷◌, ◌++◌, length, get_or, map, sym, ap, subst, arith}
use Rattle.std.specs.List.{AllByRecursion}
use Rattle.std.specs.Prelude.{Option, Some, None, fold, unwrap_or}
use Rattle.nb_base.specs.declared.line.Line.{Line}
use Rattle.nb_base.specs.declared.plan.Plan.{Plan}
use Rattle.nb_journal.specs.Lawful.{last_moment}
use Rattle.nb_journal.specs.Accounts.{own_lines}
use Rattle.neigh_run.specs.Windows.{last_start}
use Rattle.run_evidence.specs.Tokens.{greatest_of, turn_by, nothing_shown, Shown, Call}
use Rattle.bucket_stamps.specs.declared.view.Turn.{Turn}
use Rattle.run_evidence.specs.Stamps.{StampWindow, StampHistory, advances, AreStampWindows, marks_in, BucketEvidence, IsBucketEvidence}
use Rattle.run_evidence.specs.Evidence.{column, bucket_at}
use Rattle.run_evidence.specs.Laws.{ShowsEnds}
use Rattle.run_evidence.proofs.Lists.{all_map}
use Rattle.run_evidence.proofs.Turns.{greatest-above, greatest-within}
use Rattle.run_evidence.proofs.Histories.{IsAdvance, advances_are, made_all}
use Rattle.run_evidence.proofs.Buckets.{kept_turns, kept_ok, kept_lawful, last_opened}
use Rattle.run_evidence.proofs.Calls.{IsDone, spans_done}
use Rattle.run_evidence.proofs.Marks.{Climbs, starts_of}
use Rattle.run_evidence.proofs.Moments.{NeverFall, own-behind}
use Rattle.run_evidence.proofs.Windows.{history_climbs}
use Rattle.run_evidence.proofs.Assembled.{opened-start}

-- ---- the last window begins last

abbrev opened_behind : Plan → ℕ → ℕ → List StampWindow → ℕ
opened_behind plan ended at spans = fold (λ (at : ℕ) (m : Option ℕ × ℕ). unwrap_or m.0 at) at (map (λ (span : StampWindow). (Some (span.number * plan.window), span.mark)) spans ++ (None, ended) ∷ [])

grows : (plan : Plan) (ended at : ℕ) (spans : List StampWindow) → AllByRecursion (λ y. at < y) (starts_of plan spans) → Climbs (starts_of plan spans) → at ≤ opened_behind plan ended at spans
grows plan ended at [] all climbs = omega arith
grows plan ended at (span ∷ spans) all climbs =
    let first = all.0 in
    let rest = grows plan ended (span.number * plan.window) spans climbs.0 climbs.1 in
    omega (arith, first, rest)

begins-before : (plan : Plan) (ended at : ℕ) (spans : List StampWindow) → Climbs (starts_of plan spans) → AllByRecursion (λ (span : StampWindow). span.number * plan.window ≤ opened_behind plan ended at spans) spans
begins-before plan ended at [] climbs = tt
begins-before plan ended at (span ∷ spans) climbs = (grows plan ended (span.number * plan.window) spans climbs.0 climbs.1, begins-before plan ended (span.number * plan.window) spans climbs.1)

-- ---- turns

-- a call's moment isn't behind that of the last operation's line
call-within : (q : ℕ) (plan : Plan) (journal : List Line) (turns : List Turn) (call : Call) → NeverFall journal → IsDone q plan.params journal turns call → call.entered.at ≤ last_moment (own_lines journal)
call-within q plan journal turns call never c =
    let behind = subst (λ xs. call.line.at ≤ last_moment (own_lines xs)) (sym c.stands) (own-behind call.past c.rest call.line c.own (subst NeverFall c.stands never)) in
    let above = back_one (λ (t : Turn). t.at ≤ greatest_of call.after.turns) call.earlier (turn_by q call) (subst (AllByRecursion (λ (t : Turn). t.at ≤ greatest_of call.after.turns)) c.turn (greatest-above call.after.turns)) in
    let moment = c.moment in
    omega (arith, behind, above, moment)
  where
    back_one : (P : Turn → Type 0) (xs : List Turn) (x : Turn) → AllByRecursion P (xs ++ x ∷ []) → P x
    back_one P [] x h = h.0
    back_one P (y ∷ xs) x h = back_one P xs x h.1

pub kept_ends_own : (plan : Plan) (told : List (Option ℕ × ℕ)) (kept : BucketEvidence) → IsBucketEvidence plan told kept → ((history : StampHistory) → marks_in plan history ≡ told → Climbs (starts_of plan history.windows))
    → last_moment kept.journal ≤ max (last_opened told) (last_moment (own_lines kept.journal))
kept_ends_own plan told kept h climbs =
    let lawful = kept_lawful plan told kept h in
    let within = lawful.within in
    let never = lawful.orderly.moments in
    let ok = kept_ok plan told kept h in
    let all = kept_turns (λ (t : Turn). t.at ≤ max (last_opened told) (last_moment (own_lines kept.journal))) plan told kept h (λ q history is given marks.
    made_all (λ (t : Turn). t.at ≤ max (last_opened told) (last_moment (own_lines kept.journal))) q plan history.windows
    (go q history nothing_shown history.windows is
    (subst (λ (n : ℕ). AllByRecursion (λ (span : StampWindow). span.number * plan.window ≤ n) history.windows) (ap last_opened marks) (begins-before plan history.ended 0 history.windows (climbs history marks)))
    (spans_done q plan nothing_shown history.windows history.ended history.after kept.journal kept.turns is given.past given.begins ok) never)) in
    let most = greatest-within (max (last_opened told) (last_moment (own_lines kept.journal))) kept.turns all in
    omega (arith, within, most)
  where
    left : (n s m x : ℕ) → x ≡ s → s ≤ n → x ≤ max n m
    left n s m x e le = omega (arith, e, le)

    right : (n m x : ℕ) → x ≤ m → x ≤ max n m
    right n m x le = omega (arith, le)

    by_mark : (start told_at : ℕ) (ts : List Turn) → start ≤ last_opened told → AllByRecursion (IsAdvance start told_at) ts → AllByRecursion (λ (t : Turn). t.at ≤ max (last_opened told) (last_moment (own_lines kept.journal))) ts
    by_mark start told_at ts le all = all_map (IsAdvance start told_at) (λ (t : Turn). t.at ≤ max (last_opened told) (last_moment (own_lines kept.journal))) ts (λ t a. left (last_opened told) start (last_moment (own_lines kept.journal)) t.at a.at le) all

    go : (q : ℕ) (history : StampHistory) (old : Shown) (spans : List StampWindow) → AreStampWindows q plan old spans history.ended history.after → AllByRecursion (λ (span : StampWindow). span.number * plan.window ≤ last_opened told) spans
        → AllByRecursion (λ (span : StampWindow). AllByRecursion (IsDone q plan.params kept.journal kept.turns) span.calls) spans → NeverFall kept.journal
        → AllByRecursion (λ (span : StampWindow). AllByRecursion (λ (t : Turn). t.at ≤ max (last_opened told) (last_moment (own_lines kept.journal))) (advances q plan span) × AllByRecursion (λ (call : Call). call.entered.at ≤ max (last_opened told) (last_moment (own_lines kept.journal))) span.calls) spans
    go q history old [] is begun done never = tt
    go q history old (span ∷ spans) is begun done never = (
      (
        by_mark (span.number * plan.window) span.mark (advances q plan span) begun.0 (advances_are q plan span),
        all_map (IsDone q plan.params kept.journal kept.turns) (λ (call : Call). call.entered.at ≤ max (last_opened told) (last_moment (own_lines kept.journal))) span.calls
            (λ call c. right (last_opened told) (last_moment (own_lines kept.journal)) call.entered.at (call-within q plan kept.journal kept.turns call never c)) done.0,
      ),
      go q history span.closed spans is.1 begun.1 done.1 never,
    )

-- ---- all buckets

each-there : (P : List Line → Type 0) (journals : List (List Line)) → ((b : ℕ) → b < length journals → P (get_or journals b [])) → AllByRecursion P journals
each-there P [] h = tt
each-there P (j ∷ js) h = (h 0 (omega arith), each-there P js (λ b lt. h (suc b) (omega (arith, lt))))

pub shows_ends : ShowsEnds
shows_ends plan e some bucket h = each-there (λ (journal : List Line). last_moment journal ≤ max (last_start e.marks) (last_moment (own_lines journal))) e.journals (λ b lt.
    let kept = h.each_bucket b (let all = h.buckets in omega (arith, lt, all)) in
    subst (λ at. last_moment (get_or e.journals b []) ≤ max at (last_moment (own_lines (get_or e.journals b [])))) (opened-start b e.marks)
    (kept_ends_own plan (column b e.marks) (bucket_at b e) kept (λ history marks. history_climbs plan b e.marks history some h.starts marks)))
