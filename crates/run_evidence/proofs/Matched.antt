-- A participant's lines in a bucket are those of its calls there, each at its moment and between its marks.
use Rattle.std.proofs.Common.{◌≡◌, ℕ, ◌*◌, max, List, [], ◌∷◌, length, sym, ◌∙◌, ap, arith}
use Rattle.std.specs.List.{AllByRecursion}
use Rattle.std.specs.Prelude.{map, Option}
use Rattle.nb_base.specs.declared.time.OpId.{OpId}
use Rattle.nb_base.specs.declared.line.Line.{Line}
use Rattle.nb_base.specs.declared.plan.Plan.{Plan}
use Rattle.nb_base.specs.declared.host_line.Mark.{Mark}
use Rattle.nb_journal.specs.Fold.{id_of}
use Rattle.nb_journal.specs.Lawful.{last_moment}
use Rattle.neigh_run.specs.Merged.{Entered}
use Rattle.nb_journal.specs.Accounts.{own_lines}
use Rattle.neigh_run.specs.Windows.{window_of}
use Rattle.neigh_run.specs.Threaded.{Standing, lines_of, IsLineFor}
use Rattle.std.specs.List.{AllZip}
use Rattle.run_evidence.specs.Tokens.{nothing_shown, Call, IsGivenUp}
use Rattle.run_evidence.specs.Stamps.{StampHistory, IsStampHistory, marks_in, calls_in, BucketEvidence, IsBucketEvidence}
use Rattle.run_evidence.specs.Evidence.{column}
use Rattle.run_evidence.proofs.Buckets.{kept_ok}
use Rattle.run_evidence.proofs.Calls.{IsDone, pairs-are, spans_done, all_calls, pair_of, spans_pairs, StandsIn, lines_in}
use Rattle.run_evidence.proofs.Marks.{first_told, second_told, pairs_from, own_length-told, next_length-told, Climbs, starts_of, IsBetween, calls_between}
use Rattle.run_evidence.proofs.Moments.{cut_same, call_moment}

abbrev pub entered_by : Call → Entered
entered_by call = call.entered

abbrev first_of : Plan → Call → List (Option ℕ × ℕ) → ℕ
first_of plan call ms = first_told (pairs_from (window_of plan call.entered.at * plan.window) ms)

abbrev second_of : Plan → Call → List (Option ℕ × ℕ) → ℕ
second_of plan call ms = second_told (pairs_from (window_of plan call.entered.at * plan.window) ms)

no_pair : (x : ℕ × OpId) (xs : List (ℕ × OpId)) → [] ≡ x ∷ xs → ⊥
no_pair x xs e = cc

heads : (x y : ℕ × OpId) (xs ys : List (ℕ × OpId)) → x ∷ xs ≡ y ∷ ys → (x ≡ y) × (xs ≡ ys)
heads x y xs ys e = (cc, cc)

-- a line and a call at one place are one
standing_call : (p : ℕ) (plan : Plan) (marks : List Mark) (told : List (Option ℕ × ℕ)) (b : ℕ) (kept : BucketEvidence) (s : Standing) (call : Call) → column b marks ≡ told → IsBucketEvidence plan told kept
    → length s.past ≡ call.place → StandsIn kept.journal s → IsDone p plan.params kept.journal kept.turns call → IsBetween plan told call → IsLineFor plan marks b s call.entered
standing_call p plan marks told b kept s call c h at stands d between =
    let place = d.place in
    let same = cut_same s.past call.past stands.0 d.rest s.line call.line (sym stands.1 ∙ d.stands) (omega (arith, at, place)) in
    let moment = ap (λ (l : Line). l.at) same.1 ∙ call_moment p plan told kept call h d between ∙ ap (λ (xs : List Line). max call.entered.at (last_moment (own_lines xs))) (sym same.0) in
    let own = own_length-told plan marks b call.entered.at ∙ ap (λ ms. first_of plan call ms) c in
    let next = next_length-told plan marks b call.entered.at ∙ ap (λ ms. second_of plan call ms) c in
    let low = between.own in
    let high = between.next in
    record {
      id = ap (λ (l : Line). l.id) same.1 ∙ d.id;
      op = ap (λ (l : Line). l.op) same.1 ∙ d.op;
      moment = moment;
      behind = omega (arith, own, low, at);
      before = omega (arith, next, high, at);
    }

matched : (p : ℕ) (plan : Plan) (marks : List Mark) (told : List (Option ℕ × ℕ)) (b : ℕ) (kept : BucketEvidence) (standings : List Standing) (calls : List Call) → column b marks ≡ told → IsBucketEvidence plan told kept
    → map (λ (s : Standing). (length s.past, id_of s.line)) standings ≡ map pair_of calls → AllByRecursion (StandsIn kept.journal) standings → AllByRecursion (IsDone p plan.params kept.journal kept.turns) calls → AllByRecursion (IsBetween plan told) calls
    → AllZip (IsLineFor plan marks b) standings (map entered_by calls)
matched p plan marks told b kept [] [] c h e s d between = tt
matched p plan marks told b kept [] (call ∷ calls) c h e s d between = absurd (no_pair (pair_of call) (map pair_of calls) e)
matched p plan marks told b kept (s ∷ standings) [] c h e st d between = absurd (no_pair (length s.past, id_of s.line) (map (λ (s : Standing). (length s.past, id_of s.line)) standings) (sym e))
matched p plan marks told b kept (s ∷ standings) (call ∷ calls) c h e st d between =
    let parts = heads (length s.past, id_of s.line) (pair_of call) (map (λ (s : Standing). (length s.past, id_of s.line)) standings) (map pair_of calls) e in
    (standing_call p plan marks told b kept s call c h (ap (λ (z : ℕ × OpId). z.0) parts.0) st.0 d.0 between.0, matched p plan marks told b kept standings calls c h parts.1 st.1 d.1 between.1)

-- a participant's lines are those of its calls
pub history_lines : (p : ℕ) (plan : Plan) (marks : List Mark) (told : List (Option ℕ × ℕ)) (b : ℕ) (kept : BucketEvidence) (history : StampHistory) → column b marks ≡ told → IsBucketEvidence plan told kept → Climbs (starts_of plan history.windows)
    → IsStampHistory p plan history → IsGivenUp p kept.journal kept.turns history.after → marks_in plan history ≡ told
    → AllZip (IsLineFor plan marks b) (lines_of p [] kept.journal) (map entered_by (calls_in history.windows))
history_lines p plan marks told b kept history c h climbs is given m =
    matched p plan marks told b kept (lines_of p [] kept.journal) (calls_in history.windows) c h
    (pairs-are p kept.journal ∙ given.own_lines ∙ spans_pairs p plan nothing_shown history.windows history.ended history.after is)
    (lines_in p kept.journal)
    (all_calls (IsDone p plan.params kept.journal kept.turns) history.windows (spans_done p plan nothing_shown history.windows history.ended history.after kept.journal kept.turns is given.past given.begins (kept_ok plan told kept h)))
    (all_calls (IsBetween plan told) history.windows (calls_between p plan told [] nothing_shown history.windows history.ended history.after is (sym m) tt climbs))
