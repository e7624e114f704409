-- A participant's history with its stamp of a bucket: its past only grows, the lengths that it was told never fall, its calls' places lie between them, and its turns are those that it made.
use Rattle.std.proofs.Common.{◌≡◌, ℕ, zero, suc, ◌+◌, ◌<◌, ◌≤◌, true, List, [], ◌∷◌, ◌++◌, length, refl, ◌∙◌, ap, append_assoc, append-nil, arith}
use Rattle.std.specs.List.{AllByRecursion}
use Rattle.std.specs.Prelude.{map, flat_map}
use Rattle.std.proofs.lemmas.List.{length-append}
use Rattle.nb_base.specs.declared.params.Params.{Params}
use Rattle.nb_base.specs.declared.plan.Plan.{Plan}
use Rattle.neigh_run.specs.Plan.{RisesFrom}
use Rattle.run_evidence.specs.Tokens.{AllOk, Shown, Begins, Call, turn_by, IsCall}
use Rattle.bucket_stamps.specs.declared.view.Turn.{Turn}
use Rattle.bucket_stamps.specs.Own.{turns_of}
use Rattle.run_evidence.specs.Stamps.{StampWindow, start_of, advances, AreCalls, IsStampWindow, AreStampWindows}
use Rattle.run_evidence.proofs.Lists.{begins_trans, begins_length, all_map, all_append, all_mapped, rises_less}
use Rattle.run_evidence.proofs.Turns.{turns_of-append, turns_of-one, adds_turns}

-- ---- pasts

-- the lines before a call's line and the line are the first of what the stamp then shows
pub call_left : (p : ℕ) (params : Params) (old : Shown) (call : Call) → IsCall p params old call → Begins old.past call.after.past
call_left p params old call h = begins_trans old.past call.past call.after.past h.past (call.line ∷ [], h.grown)

pub calls_past : (p : ℕ) (params : Params) (old : Shown) (calls : List Call) (met : ℕ) (closed : Shown) → AreCalls p params old calls met closed → Begins old.past closed.past
calls_past p params old [] met closed h = h.past
calls_past p params old (call ∷ calls) met closed h = begins_trans old.past call.after.past closed.past (call_left p params old call h.0) (calls_past p params call.after calls met closed h.1)

pub span_past : (p : ℕ) (plan : Plan) (old : Shown) (span : StampWindow) → IsStampWindow p plan old span → Begins old.past span.closed.past
span_past p plan old span h = begins_trans old.past span.opened.past span.closed.past h.marked.past (calls_past p plan.params span.opened span.calls span.met span.closed h.calls)

pub spans_past : (p : ℕ) (plan : Plan) (old : Shown) (spans : List StampWindow) (ended : ℕ) (left : Shown) → AreStampWindows p plan old spans ended left → Begins old.past left.past
spans_past p plan old [] ended left h = h.past
spans_past p plan old (span ∷ spans) ended left h = begins_trans old.past span.closed.past left.past (span_past p plan old span h.0) (spans_past p plan span.closed spans ended left h.1)

-- ---- lengths

-- a call's place isn't among the lines that were shown, and is among those that are shown then
pub call_place : (p : ℕ) (params : Params) (old : Shown) (call : Call) → IsCall p params old call → (length old.past ≤ call.place) × (length call.after.past ≡ call.place + 1)
call_place p params old call h =
    let le = begins_length old.past call.past h.past in
    let at = h.place in
    let e = ap length h.grown in
    let l = length-append call.past (call.line ∷ []) in
    (omega (arith, le, at), omega (arith, at, e, l))

-- the calls' places lie between what was shown before and the next length that was told
pub calls_places : (p : ℕ) (params : Params) (old : Shown) (calls : List Call) (met : ℕ) (closed : Shown) (lo : ℕ) → lo ≤ length old.past → AreCalls p params old calls met closed
    → (length old.past ≤ met) × AllByRecursion (λ (call : Call). (lo ≤ call.place) × (call.place < met)) calls
calls_places p params old [] met closed lo le h = (h.counted, tt)
calls_places p params old (call ∷ calls) met closed lo le h =
    let at = call_place p params old call h.0 in
    let from = at.0 in
    let to = at.1 in
    let rest = calls_places p params call.after calls met closed lo (omega (arith, le, from, to)) h.1 in
    let within = rest.0 in
    (omega (arith, from, to, within), ((omega (arith, le, from), omega (arith, to, within)), rest.1))

pub calls_told : (p : ℕ) (params : Params) (old : Shown) (calls : List Call) (met : ℕ) (closed : Shown) → AreCalls p params old calls met closed → met ≤ length closed.past
calls_told p params old [] met closed h = h.seen
calls_told p params old (call ∷ calls) met closed h = calls_told p params call.after calls met closed h.1

-- the lengths at the marks
abbrev pub lengths_of : List StampWindow → ℕ → List ℕ
lengths_of spans ended = map (λ (span : StampWindow). span.mark) spans ++ ended ∷ []

-- what a mark tells isn't more than what is shown behind its window
pub span_rises : (p : ℕ) (plan : Plan) (old : Shown) (span : StampWindow) → IsStampWindow p plan old span → (length old.past ≤ span.mark) × (span.mark ≤ length span.opened.past) × (length span.opened.past ≤ span.met) × (span.met ≤ length span.closed.past)
span_rises p plan old span h =
    let some = calls_places p plan.params span.opened span.calls span.met span.closed 0 (omega arith) h.calls in
    (h.marked.counted, h.marked.seen, some.0, calls_told p plan.params span.opened span.calls span.met span.closed h.calls)

-- the lengths never fall
pub spans_rise : (p : ℕ) (plan : Plan) (old : Shown) (spans : List StampWindow) (ended : ℕ) (left : Shown) → AreStampWindows p plan old spans ended left → RisesFrom (length old.past) (lengths_of spans ended)
spans_rise p plan old [] ended left h = (h.counted, tt)
spans_rise p plan old (span ∷ spans) ended left h =
    let r = span_rises p plan old span h.0 in
    let a = r.1 in let b = r.2 in let c = r.3 in
    (r.0, rises_less span.mark (length span.closed.past) (lengths_of spans ended) (omega (arith, a, b, c)) (spans_rise p plan span.closed spans ended left h.1))

-- what is shown isn't more than the last length, and that isn't more than what is shown in the end
pub spans_ended : (p : ℕ) (plan : Plan) (old : Shown) (spans : List StampWindow) (ended : ℕ) (left : Shown) → AreStampWindows p plan old spans ended left → (length old.past ≤ ended) × (ended ≤ length left.past)
spans_ended p plan old [] ended left h = (h.counted, h.seen)
spans_ended p plan old (span ∷ spans) ended left h =
    let r = span_rises p plan old span h.0 in
    let a = r.0 in let b = r.1 in let c = r.2 in let d = r.3 in
    let rest = spans_ended p plan span.closed spans ended left h.1 in
    let from = rest.0 in
    (omega (arith, a, b, c, d, from), rest.1)

-- ---- turns

-- the turns that the participant made
abbrev pub made_in : ℕ → Plan → List StampWindow → List Turn
made_in p plan spans = flat_map (λ (span : StampWindow). advances p plan span ++ map (turn_by p) span.calls) spans

pub call_turns : (p : ℕ) (params : Params) (old : Shown) (call : Call) → IsCall p params old call → turns_of p call.after.turns ≡ turns_of p old.turns ++ turn_by p call ∷ []
call_turns p params old call h =
    ap (turns_of p) h.turn ∙ turns_of-append p call.earlier (turn_by p call ∷ [])
    ∙ ap (λ ts. ts ++ turns_of p (turn_by p call ∷ [])) (adds_turns p old.turns call.earlier [] h.turns ∙ append-nil (turns_of p old.turns))
    ∙ ap (λ ts. turns_of p old.turns ++ ts) (turns_of-one p (turn_by p call) refl)

pub calls_turns : (p : ℕ) (params : Params) (old : Shown) (calls : List Call) (met : ℕ) (closed : Shown) → AreCalls p params old calls met closed → turns_of p closed.turns ≡ turns_of p old.turns ++ map (turn_by p) calls
calls_turns p params old [] met closed h = adds_turns p old.turns closed.turns [] h.turns
calls_turns p params old (call ∷ calls) met closed h =
    calls_turns p params call.after calls met closed h.1
    ∙ ap (λ ts. ts ++ map (turn_by p) calls) (call_turns p params old call h.0)
    ∙ append_assoc (turns_of p old.turns) (turn_by p call ∷ []) (map (turn_by p) calls)

pub spans_turns : (p : ℕ) (plan : Plan) (old : Shown) (spans : List StampWindow) (ended : ℕ) (after : Shown) → AreStampWindows p plan old spans ended after → turns_of p after.turns ≡ turns_of p old.turns ++ made_in p plan spans
spans_turns p plan old [] ended after h = adds_turns p old.turns after.turns [] h.turns
spans_turns p plan old (span ∷ spans) ended after h =
    let made = advances p plan span ++ map (turn_by p) span.calls in
    spans_turns p plan span.closed spans ended after h.1
    ∙ ap (λ ts. ts ++ made_in p plan spans)
    (calls_turns p plan.params span.opened span.calls span.met span.closed h.0.calls
    ∙ ap (λ ts. ts ++ map (turn_by p) span.calls) (adds_turns p old.turns span.opened.turns (advances p plan span) h.0.marked.turns)
    ∙ append_assoc (turns_of p old.turns) (advances p plan span) (map (turn_by p) span.calls))
    ∙ append_assoc (turns_of p old.turns) made (made_in p plan spans)

-- ---- what holds of the turns that it made

-- a turn that a mark made: it answered Ok at the window's first moment, with as many lines behind it as the mark tells
pub record IsAdvance (start told : ℕ) (t : Turn) : Type 0 where
  pub ok : t.ok ≡ true
  pub at : t.at ≡ start
  pub length : t.length ≡ told

pub advances_are : (p : ℕ) (plan : Plan) (span : StampWindow) → AllByRecursion (IsAdvance (start_of plan span) span.mark) (advances p plan span)
advances_are zero plan span = (record { ok = refl; at = refl; length = refl }, tt)
advances_are (suc p) plan span = tt

-- P holds of the turns of marks and of those of calls
pub made_all : (P : Turn → Type 0) (p : ℕ) (plan : Plan) (spans : List StampWindow) → AllByRecursion (λ (span : StampWindow). AllByRecursion P (advances p plan span) × AllByRecursion (λ (call : Call). P (turn_by p call)) span.calls) spans → AllByRecursion P (made_in p plan spans)
made_all P p plan [] h = tt
made_all P p plan (span ∷ spans) h = all_append P (advances p plan span ++ map (turn_by p) span.calls) (made_in p plan spans) (all_append P (advances p plan span) (map (turn_by p) span.calls) h.0.0 (all_mapped P (turn_by p) span.calls h.0.1)) (made_all P p plan spans h.1)

all_true : (p : ℕ) (calls : List Call) → AllByRecursion (λ (call : Call). (turn_by p call).ok ≡ true) calls
all_true p [] = tt
all_true p (call ∷ calls) = (refl, all_true p calls)

-- they answered Ok
pub made_ok : (p : ℕ) (plan : Plan) (spans : List StampWindow) → AllOk (made_in p plan spans)
made_ok p plan spans = made_all (λ (t : Turn). t.ok ≡ true) p plan spans (go spans) where
  go : (spans : List StampWindow) → AllByRecursion (λ (span : StampWindow). AllByRecursion (λ (t : Turn). t.ok ≡ true) (advances p plan span) × AllByRecursion (λ (call : Call). (turn_by p call).ok ≡ true) span.calls) spans
  go [] = tt
  go (span ∷ spans) = ((all_map (IsAdvance (start_of plan span) span.mark) (λ (t : Turn). t.ok ≡ true) (advances p plan span) (λ t a. a.ok) (advances_are p plan span), all_true p span.calls), go spans)

-- no more lines stand behind them than the last length tells
pub made_within : (p : ℕ) (plan : Plan) (old : Shown) (spans : List StampWindow) (ended : ℕ) (after : Shown) → AreStampWindows p plan old spans ended after → AllByRecursion (λ (t : Turn). t.length ≤ ended) (made_in p plan spans)
made_within p plan old spans ended after h = made_all (λ (t : Turn). t.length ≤ ended) p plan spans (go old spans h) where
  go : (old : Shown) (spans : List StampWindow) → AreStampWindows p plan old spans ended after → AllByRecursion (λ (span : StampWindow). AllByRecursion (λ (t : Turn). t.length ≤ ended) (advances p plan span) × AllByRecursion (λ (call : Call). (turn_by p call).length ≤ ended) span.calls) spans
  go old [] h = tt
  go old (span ∷ spans) h =
      let r = span_rises p plan old span h.0 in
      let opened = r.1 in let met = r.2 in let seen = r.3 in
      let end = (spans_ended p plan span.closed spans ended after h.1).0 in
      let places = (calls_places p plan.params span.opened span.calls span.met span.closed 0 (omega arith) h.0.calls).1 in (
        (
          all_map (IsAdvance (start_of plan span) span.mark) (λ (t : Turn). t.length ≤ ended) (advances p plan span) (λ t a. let w = a.length in omega (arith, w, opened, met, seen, end)) (advances_are p plan span),
          all_map (λ (call : Call). (0 ≤ call.place) × (call.place < span.met)) (λ (call : Call). (turn_by p call).length ≤ ended) span.calls (λ call a. let w = a.1 in omega (arith, w, seen, end)) places,
        ),
        go span.closed spans h.1,
      )
