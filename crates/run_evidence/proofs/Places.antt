-- A call's place and reply are those that its number finds in its bucket's journal.
use Rattle.std.proofs.Common.{◌≡◌, ℕ, ◌%◌, Bool, true, false, if◌then◌else◌, List, [], ◌∷◌, ◌++◌, length, refl, sym, ◌∙◌, ap, subst, arith, eq-eqb}
use Rattle.std.specs.List.{AllByRecursion}
use Rattle.std.specs.Option.{option_map_or}
use Rattle.std.specs.Prelude.{map, ◌==◌, Option, Some, None, option_map, unwrap_or}
use Rattle.std.proofs.lemmas.Bool.{eqb-true, false≢true}
use Rattle.nb_base.specs.declared.params.Params.{Params}
use Rattle.nb_base.specs.declared.time.OpId.{OpId}
use Rattle.nb_base.specs.declared.line.Line.{Line}
use Rattle.nb_base.specs.declared.line.Reply.{Reply}
use Rattle.nb_base.specs.declared.line.Reply.TheVariants as reply
use Rattle.nb_base.specs.declared.host_line.Placed.{Placed}
use Rattle.nb_base.specs.declared.plan.Plan.{Plan}
use Rattle.nb_journal.specs.Fold.{id_of, reply_of}
use Rattle.neigh_run.specs.Inline.{find_place, journal_at, placed_at}
use Rattle.neigh_run.specs.Threaded.{Standing, lines_of}
use Rattle.nb_base.specs.Ids.{participant_of}
use Rattle.run_evidence.specs.Tokens.{nothing_shown, Call, IsGivenUp}
use Rattle.bucket_stamps.specs.declared.view.Turn.{Turn}
use Rattle.run_evidence.specs.Stamps.{StampHistory, IsStampHistory, calls_in, BucketEvidence, IsBucketEvidence}
use Rattle.run_evidence.proofs.Buckets.{kept_ok}
use Rattle.run_evidence.proofs.Calls.{IsDone, pairs-are, spans_done, all_calls, pair_of, spans_pairs, StandsIn, lines_in}
use Rattle.run_evidence.proofs.Moments.{cut_same}

-- ---- by a participant's lines

abbrev has_id : OpId → Standing → Bool
has_id id s = (id_of s.line).0 == id.0

-- the first line with the number
abbrev find_standing : OpId → List Standing → Option Standing
find_standing id [] = None
find_standing id (s ∷ ss) = if has_id id s then Some s else find_standing id ss

abbrev found : Params → Standing → ℕ × Option Reply
found params s = (length s.past, reply_of params s.past s.line)

-- what an id finds in a journal it finds among the lines of its participant
find_is : (params : Params) (p : ℕ) (id : OpId) (past lines : List Line) → participant_of id ≡ p → find_place params past lines id ≡ option_map (found params) (find_standing id (lines_of p past lines))
find_is params p id past [] e = refl
find_is params p id past (line ∷ lines) e = by_id line.id refl (find_is params p id (past ++ line ∷ []) lines e) where
  by_id : (o : Option OpId) → unwrap_or o (record { 0 = 0 }) ≡ id_of line → find_place params (past ++ line ∷ []) lines id ≡ option_map (found params) (find_standing id (lines_of p (past ++ line ∷ []) lines))
      → (if option_map_or (λ (other : OpId). other.0 == id.0) o false then Some (length past, reply_of params past line) else find_place params (past ++ line ∷ []) lines id)
      ≡ option_map (found params) (find_standing id ((if option_map_or (λ id. participant_of id == p) o false then record { past = past; line = line } ∷ [] else []) ++ lines_of p (past ++ line ∷ []) lines))
  by_id None at rest = rest
  by_id (Some i) at rest = by_tests (i.0 == id.0) refl (participant_of i == p) refl where
    is : id_of line ≡ i
    is = sym at

    by_tests : (same : Bool) → (i.0 == id.0) ≡ same → (mine : Bool) → (participant_of i == p) ≡ mine
        → (if same then Some (length past, reply_of params past line) else find_place params (past ++ line ∷ []) lines id)
        ≡ option_map (found params) (find_standing id ((if mine then record { past = past; line = line } ∷ [] else []) ++ lines_of p (past ++ line ∷ []) lines))
    by_tests true s true m = ap (λ (b : Bool). option_map (found params) (if b then Some (record { past = past; line = line }) else find_standing id (lines_of p (past ++ line ∷ []) lines))) (sym (ap (λ (j : OpId). j.0 == id.0) is ∙ s))
    by_tests true s false m = absurd (false≢true (sym m ∙ eq-eqb (participant_of i) p (ap (λ n. n % 32) (eqb-true i.0 id.0 s) ∙ e)))
    by_tests false s true m = rest ∙ ap (λ (b : Bool). option_map (found params) (if b then Some (record { past = past; line = line }) else find_standing id (lines_of p (past ++ line ∷ []) lines))) (sym (ap (λ (j : OpId). j.0 == id.0) is ∙ s))
    by_tests false s false m = rest

-- ---- by a participant's calls

no_pair : (x : ℕ × OpId) (xs : List (ℕ × OpId)) → [] ≡ x ∷ xs → ⊥
no_pair x xs e = cc

heads : (x y : ℕ × OpId) (xs ys : List (ℕ × OpId)) → x ∷ xs ≡ y ∷ ys → (x ≡ y) × (xs ≡ ys)
heads x y xs ys e = (cc, cc)

abbrev standing_pair : Standing → ℕ × OpId
standing_pair s = (length s.past, id_of s.line)

-- the first line with a call's number is the call's
find_call : (p : ℕ) (params : Params) (journal : List Line) (turns : List Turn) (call : Call) (xs ys : List Call) (standings : List Standing) → IsDone p params journal turns call
    → map standing_pair standings ≡ map pair_of (xs ++ call ∷ ys) → AllByRecursion (StandsIn journal) standings → AllByRecursion (λ (other : Call). other.entered.id.0 ≡ call.entered.id.0 → ⊥) xs
    → option_map (found params) (find_standing call.entered.id standings) ≡ Some (call.place, Some call.reply)
find_call p params journal turns call [] ys [] d e st differ = absurd (no_pair (pair_of call) (map pair_of ys) e)
find_call p params journal turns call (x ∷ xs) ys [] d e st differ = absurd (no_pair (pair_of x) (map pair_of (xs ++ call ∷ ys)) e)
find_call p params journal turns call [] ys (s ∷ standings) d e st differ =
    let parts = heads (standing_pair s) (pair_of call) (map standing_pair standings) (map pair_of ys) e in
    let at = ap (λ (z : ℕ × OpId). z.0) parts.0 in
    let id = ap (λ (z : ℕ × OpId). z.1.0) parts.0 in
    let place = d.place in
    let same = cut_same s.past call.past st.0.0 d.rest s.line call.line (sym st.0.1 ∙ d.stands) (omega (arith, at, place)) in
    rw (eq-eqb (id_of s.line).0 call.entered.id.0 id)
    (ap (λ (z : ℕ × Option Reply). Some z) (pair (length s.past) call.place (reply_of params s.past s.line) (Some call.reply) at (ap (λ xs. reply_of params xs s.line) same.0 ∙ ap (reply_of params call.past) same.1 ∙ d.reply))) where
      pair : (a b : ℕ) (r t : Option Reply) → a ≡ b → r ≡ t → (let x : ℕ × Option Reply = (a, r) in let y : ℕ × Option Reply = (b, t) in x ≡ y)
      pair a b r t e f = λ i. (e i, f i)
find_call p params journal turns call (x ∷ xs) ys (s ∷ standings) d e st differ =
    let parts = heads (standing_pair s) (pair_of x) (map standing_pair standings) (map pair_of (xs ++ call ∷ ys)) e in
    let id = ap (λ (z : ℕ × OpId). z.1.0) parts.0 in
    rw (other (id_of s.line).0 call.entered.id.0 (λ same. differ.0 (sym id ∙ same))) (find_call p params journal turns call xs ys standings d parts.1 st.1 differ.1) where
      other : (a b : ℕ) → (a ≡ b → ⊥) → (a == b) ≡ false
      other a b n = by_test (a == b) refl where
        by_test : (t : Bool) → (a == b) ≡ t → (a == b) ≡ false
        by_test false e = e
        by_test true e = absurd (n (eqb-true a b e))

-- a participant's call is found by its number, where no earlier call of the bucket has it
pub call_found : (p : ℕ) (plan : Plan) (told : List (Option ℕ × ℕ)) (kept : BucketEvidence) (history : StampHistory) (call : Call) (xs ys : List Call) → IsBucketEvidence plan told kept → IsStampHistory p plan history → IsGivenUp p kept.journal kept.turns history.after
    → calls_in history.windows ≡ xs ++ call ∷ ys → AllByRecursion (λ (other : Call). other.entered.id.0 ≡ call.entered.id.0 → ⊥) xs
    → find_place plan.params [] kept.journal call.entered.id ≡ Some (call.place, Some call.reply)
call_found p plan told kept history call xs ys h is given e differ =
    let all = all_calls (IsDone p plan.params kept.journal kept.turns) history.windows (spans_done p plan nothing_shown history.windows history.ended history.after kept.journal kept.turns is given.past given.begins (kept_ok plan told kept h)) in
    let d = in_midst xs (subst (AllByRecursion (IsDone p plan.params kept.journal kept.turns)) e all) in
    let pairs = pairs-are p kept.journal ∙ given.own_lines ∙ spans_pairs p plan nothing_shown history.windows history.ended history.after is ∙ ap (map pair_of) e in
    find_is plan.params p call.entered.id [] kept.journal d.participant
    ∙ find_call p plan.params kept.journal kept.turns call xs ys (lines_of p [] kept.journal) d pairs (lines_in p kept.journal) differ
  where
    in_midst : (xs : List Call) → AllByRecursion (IsDone p plan.params kept.journal kept.turns) (xs ++ call ∷ ys) → IsDone p plan.params kept.journal kept.turns call
    in_midst [] a = a.0
    in_midst (x ∷ xs) a = in_midst xs a.1

-- so its place and its reply are what the journals say of the number
pub placed_there : (plan : Plan) (journals : List (List Line)) (b place : ℕ) (r : Reply) (id : OpId) → find_place plan.params [] (journal_at journals b) id ≡ Some (place, Some r) → placed_at plan journals id b ≡ record { bucket = b; place = place; reply = r }
placed_there plan journals b place r id e = ap (λ (o : Option (ℕ × Option Reply)). placed_by_found b (unwrap_or o (0, None))) e where
  placed_by_found : ℕ → ℕ × Option Reply → Placed
  placed_by_found b z = record { bucket = b; place = z.0; reply = unwrap_or z.1 reply.Ignored }
