-- A participant's calls in a bucket, seen from the journal and from all turns; and its lines, which are those of the calls.
use Rattle.std.proofs.Common.{◌≡◌, ℕ, ◌+◌, ◌≤◌, Bool, true, false, if◌then◌else◌, List, [], ◌∷◌, ◌++◌, length, refl, sym, ◌∙◌, ap, append_assoc, append-nil}
use Rattle.std.specs.List.{AllByRecursion}
use Rattle.std.specs.Prelude.{map, ◌==◌, Option, Some, None, unwrap_or}
use Rattle.std.specs.Option.{option_map_or}
use Rattle.std.proofs.lemmas.List.{map-append, length-append}
use Rattle.nb_base.specs.declared.params.Params.{Params}
use Rattle.nb_base.specs.declared.time.OpId.{OpId}
use Rattle.nb_base.specs.declared.line.Line.{Line}
use Rattle.nb_base.specs.declared.plan.Plan.{Plan}
use Rattle.nb_journal.specs.Keys.{is_own}
use Rattle.nb_journal.specs.Fold.{reply_of, id_of}
use Rattle.neigh_run.specs.Threaded.{Standing, is_line_of, lines_of}
use Rattle.nb_base.specs.Ids.{participant_of}
use Rattle.bucket_stamps.specs.Own.{pair_by, pairs_from, own_pairs}
use Rattle.run_evidence.specs.Tokens.{AllOk, greatest_of, Shown, Begins, Call, turn_by, IsCall}
use Rattle.bucket_stamps.specs.declared.view.Turn.{Turn}
use Rattle.run_evidence.specs.Stamps.{StampWindow, AreCalls, AreStampWindows, calls_in}
use Rattle.run_evidence.proofs.Lists.{begins_trans, all_append, all_begins}
use Rattle.run_evidence.proofs.Histories.{calls_past, spans_past}

-- ---- turns only grow

call_shows : (p : ℕ) (params : Params) (old : Shown) (call : Call) → IsCall p params old call → Begins old.turns call.after.turns
call_shows p params old call h = begins_trans old.turns call.earlier call.after.turns (h.turns.0, h.turns.1) (turn_by p call ∷ [], h.turn)

calls_show : (p : ℕ) (params : Params) (old : Shown) (calls : List Call) (met : ℕ) (closed : Shown) → AreCalls p params old calls met closed → Begins old.turns closed.turns
calls_show p params old [] met closed h = (h.turns.0, h.turns.1)
calls_show p params old (call ∷ calls) met closed h = begins_trans old.turns call.after.turns closed.turns (call_shows p params old call h.0) (calls_show p params call.after calls met closed h.1)

spans_show : (p : ℕ) (plan : Plan) (old : Shown) (spans : List StampWindow) (ended : ℕ) (left : Shown) → AreStampWindows p plan old spans ended left → Begins old.turns left.turns
spans_show p plan old [] ended left h = (h.turns.0, h.turns.1)
spans_show p plan old (span ∷ spans) ended left h =
    begins_trans old.turns span.opened.turns left.turns (h.0.marked.turns.0, h.0.marked.turns.1)
    (begins_trans span.opened.turns span.closed.turns left.turns (calls_show p plan.params span.opened span.calls span.met span.closed h.0.calls) (spans_show p plan span.closed spans ended left h.1))

-- ---- a call, seen from the whole journal and all turns

pub record IsDone (p : ℕ) (params : Params) (journal : List Line) (turns : List Turn) (call : Call) : Type 0 where
  pub rest : List Line
  pub stands : journal ≡ call.past ++ call.line ∷ rest
  pub shown : Begins call.after.turns turns
  pub place : call.place ≡ length call.past
  pub id : call.line.id ≡ Some call.entered.id
  pub op : call.line.op ≡ call.entered.op
  pub own : is_own call.line.op ≡ true
  pub participant : participant_of call.entered.id ≡ p
  pub reply : reply_of params call.past call.line ≡ Some call.reply
  pub turn : call.after.turns ≡ call.earlier ++ turn_by p call ∷ []
  pub behind : AllByRecursion (λ (t : Turn). t.length ≤ call.place) call.earlier
  pub moment : call.line.at ≡ greatest_of call.after.turns

done : (p : ℕ) (params : Params) (old : Shown) (call : Call) (journal : List Line) (turns : List Turn) → IsCall p params old call → Begins call.after.past journal → Begins call.after.turns turns → AllOk turns → IsDone p params journal turns call
done p params old call journal turns h past shown ok = record {
  rest = past.0;
  stands = past.1 ∙ ap (λ (xs : List Line). xs ++ past.0) h.grown ∙ append_assoc call.past (call.line ∷ []) past.0;
  shown = shown;
  place = h.place;
  id = h.id;
  op = h.op;
  own = h.own;
  participant = h.participant;
  reply = h.reply;
  turn = h.turn;
  behind = h.within;
  moment = h.moment (all_begins (λ (t : Turn). t.ok ≡ true) call.after.turns turns shown ok);
}

pub calls_done : (p : ℕ) (params : Params) (old : Shown) (calls : List Call) (met : ℕ) (closed : Shown) (journal : List Line) (turns : List Turn) → AreCalls p params old calls met closed → Begins closed.past journal → Begins closed.turns turns → AllOk turns
    → AllByRecursion (IsDone p params journal turns) calls
calls_done p params old [] met closed journal turns h past shown ok = tt
calls_done p params old (call ∷ calls) met closed journal turns h past shown ok = (
  done p params old call journal turns h.0 (begins_trans call.after.past closed.past journal (calls_past p params call.after calls met closed h.1) past) (begins_trans call.after.turns closed.turns turns (calls_show p params call.after calls met closed h.1) shown) ok,
  calls_done p params call.after calls met closed journal turns h.1 past shown ok,
)

pub spans_done : (p : ℕ) (plan : Plan) (old : Shown) (spans : List StampWindow) (ended : ℕ) (left : Shown) (journal : List Line) (turns : List Turn) → AreStampWindows p plan old spans ended left → Begins left.past journal → Begins left.turns turns → AllOk turns
    → AllByRecursion (λ (span : StampWindow). AllByRecursion (IsDone p plan.params journal turns) span.calls) spans
spans_done p plan old [] ended left journal turns h past shown ok = tt
spans_done p plan old (span ∷ spans) ended left journal turns h past shown ok = (
  calls_done p plan.params span.opened span.calls span.met span.closed journal turns h.0.calls (begins_trans span.closed.past left.past journal (spans_past p plan span.closed spans ended left h.1) past) (begins_trans span.closed.turns left.turns turns (spans_show p plan span.closed spans ended left h.1) shown) ok,
  spans_done p plan span.closed spans ended left journal turns h.1 past shown ok,
)

-- what holds of each window's calls holds of all calls
pub all_calls : (P : Call → Type 0) (spans : List StampWindow) → AllByRecursion (λ (span : StampWindow). AllByRecursion P span.calls) spans → AllByRecursion P (calls_in spans)
all_calls P [] h = tt
all_calls P (span ∷ spans) h = all_append P span.calls (calls_in spans) h.0 (all_calls P spans h.1)

-- ---- the lines of the calls

abbrev pub pair_of : Call → ℕ × OpId
pair_of call = (call.place, call.entered.id)

calls_pairs : (p : ℕ) (params : Params) (old : Shown) (calls : List Call) (met : ℕ) (closed : Shown) → AreCalls p params old calls met closed → closed.pairs ≡ old.pairs ++ map pair_of calls
calls_pairs p params old [] met closed h = h.pairs ∙ sym (append-nil old.pairs)
calls_pairs p params old (call ∷ calls) met closed h =
    calls_pairs p params call.after calls met closed h.1 ∙ ap (λ ps. ps ++ map pair_of calls) h.0.pairs ∙ append_assoc old.pairs (pair_of call ∷ []) (map pair_of calls)

pub spans_pairs : (p : ℕ) (plan : Plan) (old : Shown) (spans : List StampWindow) (ended : ℕ) (left : Shown) → AreStampWindows p plan old spans ended left → left.pairs ≡ old.pairs ++ map pair_of (calls_in spans)
spans_pairs p plan old [] ended left h = h.pairs ∙ sym (append-nil old.pairs)
spans_pairs p plan old (span ∷ spans) ended left h =
    spans_pairs p plan span.closed spans ended left h.1
    ∙ ap (λ ps. ps ++ map pair_of (calls_in spans)) (calls_pairs p plan.params span.opened span.calls span.met span.closed h.0.calls ∙ ap (λ ps. ps ++ map pair_of span.calls) h.0.marked.pairs)
    ∙ append_assoc old.pairs (map pair_of span.calls) (map pair_of (calls_in spans))
    ∙ ap (λ ps. old.pairs ++ ps) (sym (map-append pair_of span.calls (calls_in spans)))

-- a participant's lines stand in the journal
abbrev pub StandsIn : List Line → Standing → Type 0
StandsIn journal s = (rest : List Line) × (journal ≡ s.past ++ s.line ∷ rest)

lines_stand : (p : ℕ) (journal past lines : List Line) → journal ≡ past ++ lines → AllByRecursion (StandsIn journal) (lines_of p past lines)
lines_stand p journal past [] e = tt
lines_stand p journal past (line ∷ lines) e = by_test (is_line_of p line) (lines_stand p journal (past ++ line ∷ []) lines (e ∙ sym (append_assoc past (line ∷ []) lines))) where
  by_test : (b : Bool) → AllByRecursion (StandsIn journal) (lines_of p (past ++ line ∷ []) lines)
      → AllByRecursion (StandsIn journal) ((if b then record { past = past; line = line } ∷ [] else []) ++ lines_of p (past ++ line ∷ []) lines)
  by_test true h = ((lines, e), h)
  by_test false h = h

pub lines_in : (p : ℕ) (journal : List Line) → AllByRecursion (StandsIn journal) (lines_of p [] journal)
lines_in p journal = lines_stand p journal [] journal refl

-- and their places and ids are the participant's own
pairs_behind : (p : ℕ) (past lines : List Line) → map (λ (s : Standing). (length s.past, id_of s.line)) (lines_of p past lines) ≡ pairs_from p (length past) lines
pairs_behind p past [] = refl
pairs_behind p past (line ∷ lines) = by_id line.id refl (pairs_behind p (past ++ line ∷ []) lines ∙ ap (λ n. pairs_from p n lines) (length-append past (line ∷ []))) where
  by_id : (o : Option OpId) → unwrap_or o (record { 0 = 0 }) ≡ id_of line → map (λ (s : Standing). (length s.past, id_of s.line)) (lines_of p (past ++ line ∷ []) lines) ≡ pairs_from p (length past + 1) lines
      → map (λ (s : Standing). (length s.past, id_of s.line)) ((if option_map_or (λ id. participant_of id == p) o false then record { past = past; line = line } ∷ [] else []) ++ lines_of p (past ++ line ∷ []) lines)
      ≡ pair_by o p (length past) ++ pairs_from p (length past + 1) lines
  by_id None is rest = rest
  by_id (Some id) is rest = by_test (participant_of id == p) where
    by_test : (t : Bool)
        → map (λ (s : Standing). (length s.past, id_of s.line)) ((if t then record { past = past; line = line } ∷ [] else []) ++ lines_of p (past ++ line ∷ []) lines)
        ≡ (if t then (length past, id) ∷ [] else []) ++ pairs_from p (length past + 1) lines
    by_test true = λ i. (length past, (sym is) i) ∷ rest i
    by_test false = rest

pub pairs-are : (p : ℕ) (journal : List Line) → map (λ (s : Standing). (length s.past, id_of s.line)) (lines_of p [] journal) ≡ own_pairs p journal
pairs-are p journal = pairs_behind p [] journal
