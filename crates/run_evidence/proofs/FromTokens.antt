-- What stamps and passes say of themselves gives what evidence asks.
use Rattle.std.proofs.Common.{◌≡◌, ℕ, suc, ◌+◌, ◌-◌, ◌*◌, ◌<◌, ◌≤◌, true, false, get_or, List, [], ◌∷◌, ◌++◌, length, refl, sym, ◌∙◌, ap, subst, append_assoc, append-nil, arith}
use Rattle.std.specs.List.{AllByRecursion}
use Rattle.std.specs.Prelude.{Some, slice_get}
use Rattle.std.specs.List.Sorted.{IsNonDecreasing}
use Rattle.std.proofs.lemmas.Option.{slice_get_within}
use Rattle.std.proofs.lemmas.List.{length-append}
use Rattle.std.proofs.lemmas.List.Elements.{recursion_from_All}
use mathlib.Core.List.{IsPrefix}
use Rattle.nb_base.specs.declared.record.Record.{Record}
use Rattle.nb_base.specs.declared.time.OpId.{OpId}
use Rattle.bucket_stamps.specs.declared.view.Turn.{Turn}
use Rattle.bucket_stamps.specs.Own.{turns_of, IsWithin}
use Rattle.bucket_stamps.proofs.Owning.{nobodys, own_last_line}
use Rattle.nb_journal.specs.Accounts.{published}
use Rattle.hh_core.specs.Step.{is_good}
use Rattle.hh_core.specs.Safe.{both_numbers}
use Rattle.hh_cell.specs.Shown.{PassShown, IsFailed}
use Rattle.neigh_run.specs.Plan.{RisesFrom}
use Rattle.run_evidence.specs.Tokens.{Shown, greatest_of, Begins}
use Rattle.run_evidence.specs.FromTokens.{CallsAreEvidence, MeetingsAreEvidence, MeetingsJoin, AgreementIsEvidence, IsMetPass, ReadsAreEvidence, SuspectsAreEvidence, AgainsAreEvidence, MetPassesAreEvidence, LodgedPassesAreEvidence, PassesAreEvidence}
use Rattle.run_evidence.proofs.Lists.{begins_self, begins_trans, begins_length, all_map}
use Rattle.run_evidence.proofs.Numbers.{counted_last}
use Rattle.run_evidence.proofs.Turns.{turns_of-append}

begins_by : {A : Type 0} (xs ys : List A) → IsPrefix xs ys → Begins xs ys
begins_by xs ys p = (p.0, sym p.1)

-- ---- calls

turn_same : (p at m n : ℕ) → m ≡ n → (let x : Turn = record { participant = p; at = at; ok = true; length = m } in let y : Turn = record { participant = p; at = at; ok = true; length = n } in x ≡ y)
turn_same p at m n e = λ i. record { participant = p; at = at; ok = true; length = e i }

pub calls_are_evidence : CallsAreEvidence
calls_are_evidence params old new call h =
    let s = h.sees in
    let grown : new.past ≡ call.past ++ call.line ∷ [] = s.grown ∙ sym (append_assoc s.before h.front (call.line ∷ [])) ∙ ap (λ xs. xs ++ call.line ∷ []) (sym h.past) in
    let longer = length-append s.before h.front in
    let at = ap length h.past in
    let place = h.place in
    let one = length-append call.past (call.line ∷ []) in
    let whole = ap length grown in
    let count : length new.past ≡ call.place + 1 = omega (arith, whole, one, place) in
    record {
      past = subst (Begins old.past) (sym h.past) (begins_trans old.past s.before (s.before ++ h.front) (begins_by old.past s.before s.past) (h.front, refl));
      grown = ap (λ (x : Shown). x.past) h.after ∙ grown;
      place = h.place;
      id = h.id;
      op = h.op;
      own = h.own;
      participant = h.participant;
      reply = h.reply;
      pairs = ap (λ (x : Shown). x.pairs) h.after ∙ s.pairs ∙ ap (λ ps. old.pairs ++ ps) (own_last_line old.participant (length s.before) h.front call.line call.entered.id h.own_front h.id h.participant ∙ pair (length s.before + length h.front) call.place call.entered.id (omega (arith, longer, at, place)));
      turns = (s.others, h.earlier, s.no_own);
      turn = ap (λ (x : Shown). x.turns) h.after ∙ s.turns ∙ (λ i. (sym h.earlier) i ++ turn_same old.participant call.entered.at (length new.past) (call.place + 1) count i ∷ []);
      within = subst (AllByRecursion (λ (t : Turn). t.length ≤ call.place)) (sym h.earlier)
          (all_map (IsWithin (length s.before)) (λ (t : Turn). t.length ≤ call.place) (old.turns ++ s.others) (λ t le. omega (arith, le, longer, at, place)) (recursion_from_All (IsWithin (length s.before)) (old.turns ++ s.others) s.within));
      moment = λ ok. h.moment (subst (AllByRecursion (λ (t : Turn). t.ok ≡ true)) (ap (λ (x : Shown). x.turns) h.after) ok) ∙ ap greatest_of (sym (ap (λ (x : Shown). x.turns) h.after));
    }
  where
    pair : (m n : ℕ) (id : OpId) → m ≡ n → (let xs : List (ℕ × OpId) = (m, id) ∷ [] in let ys : List (ℕ × OpId) = (n, id) ∷ [] in xs ≡ ys)
    pair m n id e = λ i. (e i, id) ∷ []

-- ---- meetings

pub meetings_are_evidence : MeetingsAreEvidence
meetings_are_evidence old new made last own mine s =
    let past = begins_trans old.past s.before new.past (begins_by old.past s.before s.past) (made, s.grown) in
    record {
      past = past;
      turns = (s.others ++ last, s.turns ∙ append_assoc old.turns s.others last, turns_of-append old.participant s.others last ∙ ap (λ ts. ts ++ turns_of old.participant last) s.no_own ∙ mine);
      pairs = s.pairs ∙ ap (λ ps. old.pairs ++ ps) (nobodys old.participant (length s.before) made own) ∙ append-nil old.pairs;
      counted = begins_length old.past new.past past;
      seen = omega arith;
    }

pub meetings_join : MeetingsJoin
meetings_join p old mid new told again made h g =
    let longer = begins_length mid.past new.past g.past in
    let seen = h.seen in
    record {
      past = begins_trans old.past mid.past new.past h.past g.past;
      turns = (
        h.turns.0 ++ g.turns.0,
        g.turns.1 ∙ ap (λ ts. ts ++ g.turns.0) h.turns.1 ∙ append_assoc old.turns h.turns.0 g.turns.0,
        turns_of-append p h.turns.0 g.turns.0 ∙ (λ i. h.turns.2 i ++ g.turns.2 i) ∙ append-nil made,
      );
      pairs = g.pairs ∙ h.pairs;
      counted = h.counted;
      seen = omega (arith, seen, longer);
    }

-- ---- the end

pub agreement_is_evidence : AgreementIsEvidence
agreement_is_evidence s stamp h = record {
  past = begins_by stamp.past s.lines h.past;
  begins = (h.turns.rest, sym h.turns.more);
  own_turns = ap (turns_of stamp.participant) (sym h.turns.more) ∙ turns_of-append stamp.participant stamp.turns h.turns.rest ∙ ap (λ ts. turns_of stamp.participant stamp.turns ++ ts) h.turns.no_other ∙ append-nil (turns_of stamp.participant stamp.turns);
  own_lines = sym h.pairs;
}

-- ---- passes

reads_are_evidence : ReadsAreEvidence
reads_are_evidence old new number header h =
    let r = h.1 in
    record { from = r.above; floor = r.floor; known = r.known; tries = (h.0 ++ (2 * number, 2 * number) ∷ [], r.tries) }

floor_of : (records : List Record) (old new : PassShown) → IsMetPass records old new → new.floor ≡ length records - 1
floor_of records old new m = ap (λ (x : PassShown). x.floor) m.met

known_of : (records : List Record) (old new : PassShown) → IsMetPass records old new → new.seen.known ≡ old.seen.known
known_of records old new m = ap (λ (x : PassShown). x.seen.known) m.met

tries_of : (records : List Record) (old new : PassShown) → IsMetPass records old new → new.seen.tries ≡ old.seen.tries
tries_of records old new m = ap (λ (x : PassShown). x.seen.tries) m.met

suspects_are_evidence : SuspectsAreEvidence
suspects_are_evidence p host key past old mid new number h m =
    let r = h.2 in
    let above = r.above in
    let mine = r.floor in
    let low = m.agrees.floor in
    let at = floor_of (published p host past key) mid new m in
    record {
      left = record { at = at; rises = omega (arith, above, mine, low, at); tries = (h.0 ++ (2 * number, 2 * number) ∷ [], tries_of (published p host past key) mid new m ∙ r.tries) };
      from = above;
      to = omega (arith, mine, low, at);
      read = record { usable = false; header = h.1 };
      unusable = refl;
      known = known_of (published p host past key) mid new m ∙ r.known;
    }

-- ---- numbers that never fall

-- numbers that never fall rise from any that isn't above the first
rises_from : (low : ℕ) (ns : List ℕ) → (0 < length ns → low ≤ get_or ns 0 0) → IsNonDecreasing ns → RisesFrom low ns
rises_from low [] first h = tt
rises_from low (n ∷ ns) first h = (first (omega arith), rises_from n ns (λ some. h 0 1 0 (omega arith) (omega (arith, some))) (λ i j d le lt. h (suc i) (suc j) d (omega (arith, le)) (omega (arith, lt))))

-- and so do the last of them
last_rise : (xs ys : List ℕ) → IsNonDecreasing (xs ++ ys) → IsNonDecreasing ys
last_rise [] ys h = h
last_rise (x ∷ xs) ys h = last_rise xs ys (λ i j d le lt. h (suc i) (suc j) d (omega (arith, le)) (omega (arith, lt)))

both_numbers-append : (xs ys : List (ℕ × ℕ)) → both_numbers (xs ++ ys) ≡ both_numbers xs ++ both_numbers ys
both_numbers-append [] ys = refl
both_numbers-append (x ∷ xs) ys = ap (λ (ns : List ℕ). x.0 ∷ x.1 ∷ ns) (both_numbers-append xs ys)

-- failed tries aren't good, and their numbers are at least twice the floor
bad_tries : (floor : ℕ) (tries : List (ℕ × ℕ)) → AllByRecursion (IsFailed floor) tries → AllByRecursion (λ (read : ℕ × ℕ). is_good read ≡ false) tries
bad_tries floor tries h = all_map (IsFailed floor) (λ (read : ℕ × ℕ). is_good read ≡ false) tries (λ t f. f.bad) h

above_floor : (floor : ℕ) (tries : List (ℕ × ℕ)) → AllByRecursion (IsFailed floor) tries → AllByRecursion (λ (n : ℕ). 2 * floor ≤ n) (both_numbers tries)
above_floor floor [] h = tt
above_floor floor (t ∷ ts) h = let above = h.0.above in let order = h.0.order in (above, (omega (arith, above, order), above_floor floor ts h.1))

agains_are_evidence : AgainsAreEvidence
agains_are_evidence p host key past old mid new tries h rises m =
    let f = h.1 in
    let mine = f.floor in
    let low = m.agrees.floor in
    let at = floor_of (published p host past key) mid new m in
    let taken = tries_of (published p host past key) mid new m ∙ f.tries in
    let each = recursion_from_All (IsFailed old.floor) tries f.each in
    record {
      left = record { at = at; rises = omega (arith, mine, low, at); tries = (tries, taken) };
      four = h.0;
      failed = bad_tries old.floor tries each;
      rises = rises_from 0 (both_numbers tries) (λ some. omega arith) (last_rise (both_numbers old.seen.tries) (both_numbers tries) (subst IsNonDecreasing (ap both_numbers f.tries ∙ both_numbers-append old.seen.tries tries) rises));
      from = above_floor old.floor tries each;
      known = known_of (published p host past key) mid new m ∙ f.known;
      taken = taken;
    }

-- ---- a pass that was met, or given up

known_before : (records : List Record) (known : List (ℕ × Record)) → AllByRecursion (λ (k : ℕ × Record). slice_get records k.0 ≡ Some k.1) known → AllByRecursion (λ (k : ℕ × Record). k.0 ≤ length records - 1) known
known_before records known h = all_map (λ (k : ℕ × Record). slice_get records k.0 ≡ Some k.1) (λ (k : ℕ × Record). k.0 ≤ length records - 1) known (λ k e. let lt = slice_get_within records k.0 k.1 e in omega (arith, lt)) h

met_passes_are_evidence : MetPassesAreEvidence
met_passes_are_evidence p host key past told old new counted m =
    let records = published p host past key in
    let at = floor_of records old new m in
    let up = counted_last p host key past past told (begins_self past) counted in
    let known = known_of records old new m in
    let tries = tries_of records old new m in
    record {
      known = known;
      tries = tries;
      low = omega (arith, up, at);
      high = omega (arith, at);
      numbers = all_map (λ (k : ℕ × Record). k.0 ≤ length records - 1) (λ (k : ℕ × Record). k.0 ≤ new.floor) new.seen.known (λ k le. omega (arith, le, at))
          (subst (AllByRecursion (λ (k : ℕ × Record). k.0 ≤ length records - 1)) (sym known) (known_before records old.seen.known (recursion_from_All (λ (k : ℕ × Record). slice_get records k.0 ≡ Some k.1) old.seen.known m.agrees.known)));
      halves = all_map (λ (n : ℕ). n ≤ 2 * (length records - 1)) (λ (n : ℕ). n ≤ 2 * new.floor) (both_numbers new.seen.tries) (λ n le. omega (arith, le, at))
          (subst (λ (ts : List (ℕ × ℕ)). AllByRecursion (λ (n : ℕ). n ≤ 2 * (length records - 1)) (both_numbers ts)) (sym tries) (recursion_from_All (λ (n : ℕ). n ≤ 2 * (length records - 1)) (both_numbers old.seen.tries) m.agrees.tries));
    }

lodged_passes_are_evidence : LodgedPassesAreEvidence
lodged_passes_are_evidence records pass h = recursion_from_All (λ (k : ℕ × Record). slice_get records k.0 ≡ Some k.1) pass.seen.known h.known

pub passes_are_evidence : PassesAreEvidence
passes_are_evidence = record {
  reads = reads_are_evidence;
  suspects = suspects_are_evidence;
  agains = agains_are_evidence;
  met = met_passes_are_evidence;
  lodged = lodged_passes_are_evidence;
}
