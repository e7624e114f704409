-- The numbers of an inline run's acts and waiting packets are those of its packets' fates: no number of fates is more than that of its acts, and both add up to the packets.
use Rattle.std.proofs.Common.{◌≡◌, ℕ, zero, suc, ◌+◌, ◌<◌, ◌≤◌, Bool, true, false, ◌||◌, ◌==◌, if◌then◌else◌, List, [], ◌∷◌, ◌++◌, length, map, refl, sym, ◌∙◌, ap, subst, arith, length-append}
use Rattle.std.specs.Prelude.{filter, slice_index_or, sum_by}
use Rattle.std.specs.List.{flat_map, list_any, AllByRecursion}
use Rattle.std.proofs.lemmas.List.Elements.{filter-append}
use Rattle.std.proofs.lemmas.List.Sums.{sum_by-cons}
use Rattle.nb_base.specs.declared.key.Key.{Key}
use Rattle.nb_base.specs.declared.time.OpId.{OpId}
use Rattle.nb_base.specs.declared.params.Params.{Params}
use Rattle.nb_base.specs.declared.line.Line.{Line}
use Rattle.nb_base.specs.declared.plan.Plan.{Plan}
use Rattle.nb_base.specs.declared.plan.SendItem.{SendItem}
use Rattle.nud_machine.specs.declared.act.Act.{Act}
use Rattle.nud_machine.specs.declared.act.Act.TheVariants as act
use Rattle.nb_base.specs.declared.outcome.Outcome.{Outcome}
use Rattle.nb_journal.specs.Keys.{is_send}
use Rattle.nb_journal.specs.Fold.{state_of, known_keys, is_transmit}
use Rattle.nud_machine.specs.Laws.{ids_of}
use Rattle.nb_journal.specs.Accounts.{Fate, Waits, is_id, fate_by_act, acts_at, ends_behind, is_waiting, fates_of, is_drop, acts_behind, waiting_behind}
use Rattle.neigh_run.specs.declared.run.Run.{Run}
use Rattle.neigh_run.specs.Control.{host_start}
use Rattle.neigh_run.specs.Merged.{Entered, control_ops, sender_ops, senders_ops, is_sending}
use Rattle.neigh_run.specs.Inline.{IsInlineRun, journal_at}
use Rattle.neigh_run.specs.Report.{is_fast, all_acts, journal_acts, waiting_after, sent_count, fast_count, dropped_count, waiting_count}
use Rattle.neigh_run.specs.Fates.{PacketFate, Fast, By, bucket_for, journal_fates, packet_fates, is_fast_fate, is_sent_fate, is_dropped_fate, is_waiting_fate, fate_count, CountFates}
use Rattle.neigh_run.proofs.Counting.{Each, count, count_append}
use Rattle.neigh_run.proofs.Numbers.{has_id, each_id_once}
use Rattle.neigh_run.proofs.InlineFates.{inline_fates, logs-slow}
use Rattle.neigh_run.proofs.PacketFates.{inline_packet_fates, one_fate_for_each, packet_goes, senders_send}

-- ---- lists of ids

-- how often an id stands in a list
abbrev times : OpId → List OpId → ℕ
times id ids = length (filter (is_id id) ids)

times_append : (id : OpId) (xs ys : List OpId) → times id (xs ++ ys) ≡ times id xs + times id ys
times_append id xs ys = ap length (filter-append (is_id id) xs ys) ∙ length-append (filter (is_id id) xs) (filter (is_id id) ys)

-- the ids of operations, each as often as it stands in a list
abbrev times_all : List Entered → List OpId → ℕ
times_all [] ids = 0
times_all (x ∷ xs) ids = times x.id ids + times_all xs ids

times_none : (xs : List Entered) → times_all xs [] ≡ 0
times_none [] = refl
times_none (x ∷ xs) = let rest = times_none xs in omega (arith, rest)

-- one id more
times_first : (id i : OpId) (ids : List OpId) → times id (i ∷ ids) ≡ times id (i ∷ []) + times id ids
times_first id i ids = by_test (is_id id i) where
  by_test : (t : Bool) → length (if t then i ∷ filter (is_id id) ids else filter (is_id id) ids) ≡ length (if t then i ∷ [] else []) + times id ids
  by_test true = omega arith
  by_test false = omega arith

flip_id : (id : OpId) (x : Entered) → is_id x.id id ≡ has_id id x
flip_id id x = refl

times_one : (i : OpId) (x : Entered) → times x.id (i ∷ []) ≡ count (has_id i) (x ∷ [])
times_one i x = by_test (x.id.0 == i.0) where
  by_test : (t : Bool) → length (if t then i ∷ [] else []) ≡ length (if t then x ∷ [] else [])
  by_test true = refl
  by_test false = refl

count_first : (test : Entered → Bool) (x : Entered) (xs : List Entered) → count test (x ∷ xs) ≡ count test (x ∷ []) + count test xs
count_first test x xs = by_test (test x) where
  by_test : (t : Bool) → length (if t then x ∷ filter test xs else filter test xs) ≡ length (if t then x ∷ [] else []) + count test xs
  by_test true = omega arith
  by_test false = omega arith

times_more : (xs : List Entered) (i : OpId) (ids : List OpId) → times_all xs (i ∷ ids) ≡ count (has_id i) xs + times_all xs ids
times_more [] i ids = refl
times_more (x ∷ xs) i ids =
    let rest = times_more xs i ids in
    let first = times_first x.id i ids in
    let one = times_one i x in
    let cut = count_first (has_id i) x xs in
    omega (arith, rest, first, one, cut)

-- operations of different ids have no more places in a list than it has
times_few : (xs : List Entered) (ids : List OpId) → ((id : OpId) → count (has_id id) xs ≤ 1) → times_all xs ids ≤ length ids
times_few xs [] once = let none = times_none xs in omega (arith, none)
times_few xs (i ∷ ids) once =
    let more = times_more xs i ids in
    let one = once i in
    let rest = times_few xs ids once in
    omega (arith, more, one, rest)

-- ---- of one kind

-- the ids that acts of a kind end
abbrev sent_id : Act → List OpId
sent_id (act.Transmit id mac) = id ∷ []
sent_id _ = []

abbrev dropped_id : Act → List OpId
dropped_id (act.Drop id cause) = id ∷ []
dropped_id _ = []

sent_long : (acts : List Act) → length (flat_map sent_id acts) ≡ length (filter is_transmit acts)
sent_long [] = refl
sent_long (act.Transmit id mac ∷ acts) = ap suc (sent_long acts)
sent_long (act.Drop id cause ∷ acts) = sent_long acts
sent_long (act.Wait id ∷ acts) = sent_long acts
sent_long (act.SolicitGroup ∷ acts) = sent_long acts
sent_long (act.SolicitUnicast mac ∷ acts) = sent_long acts

dropped_long : (acts : List Act) → length (flat_map dropped_id acts) ≡ length (filter is_drop acts)
dropped_long [] = refl
dropped_long (act.Drop id cause ∷ acts) = ap suc (dropped_long acts)
dropped_long (act.Transmit id mac ∷ acts) = dropped_long acts
dropped_long (act.Wait id ∷ acts) = dropped_long acts
dropped_long (act.SolicitGroup ∷ acts) = dropped_long acts
dropped_long (act.SolicitUnicast mac ∷ acts) = dropped_long acts

-- how many fates pass a test
abbrev passing : (PacketFate → Bool) → List Fate → ℕ
passing test fates = length (filter test (map By fates))

passing_append : (test : PacketFate → Bool) (xs ys : List Fate) → passing test (xs ++ ys) ≡ passing test xs + passing test ys
passing_append test [] ys = omega arith
passing_append test (x ∷ xs) ys = by_test (test (By x)) (passing_append test xs ys) where
  by_test : (t : Bool) → passing test (xs ++ ys) ≡ passing test xs + passing test ys → length (if t then By x ∷ filter test (map By (xs ++ ys)) else filter test (map By (xs ++ ys))) ≡ length (if t then By x ∷ filter test (map By xs) else filter test (map By xs)) + passing test ys
  by_test true rest = omega (arith, rest)
  by_test false rest = rest

-- the fates of a kind are told by the acts of that kind
abbrev IsKind : (Act → List OpId) → (PacketFate → Bool) → Type 0
IsKind kind test = (place : ℕ) (id : OpId) (a : Act) → passing test (fate_by_act place id a) ≡ times id (kind a)

sent_kind : IsKind sent_id is_sent_fate
sent_kind place id (act.Transmit other mac) = by_test (is_id id other) where
  by_test : (t : Bool) → passing is_sent_fate (if t then Fate.Sent place mac ∷ [] else []) ≡ length (if t then other ∷ [] else [])
  by_test true = refl
  by_test false = refl
sent_kind place id (act.Drop other cause) = by_test (is_id id other) where
  by_test : (t : Bool) → passing is_sent_fate (if t then Fate.Dropped place cause ∷ [] else []) ≡ 0
  by_test true = refl
  by_test false = refl
sent_kind place id (act.Wait other) = refl
sent_kind place id act.SolicitGroup = refl
sent_kind place id (act.SolicitUnicast mac) = refl

dropped_kind : IsKind dropped_id is_dropped_fate
dropped_kind place id (act.Drop other cause) = by_test (is_id id other) where
  by_test : (t : Bool) → passing is_dropped_fate (if t then Fate.Dropped place cause ∷ [] else []) ≡ length (if t then other ∷ [] else [])
  by_test true = refl
  by_test false = refl
dropped_kind place id (act.Transmit other mac) = by_test (is_id id other) where
  by_test : (t : Bool) → passing is_dropped_fate (if t then Fate.Sent place mac ∷ [] else []) ≡ 0
  by_test true = refl
  by_test false = refl
dropped_kind place id (act.Wait other) = refl
dropped_kind place id act.SolicitGroup = refl
dropped_kind place id (act.SolicitUnicast mac) = refl

kind_append : (kind : Act → List OpId) (xs ys : List Act) (id : OpId) → times id (flat_map kind (xs ++ ys)) ≡ times id (flat_map kind xs) + times id (flat_map kind ys)
kind_append kind [] ys id = omega arith
kind_append kind (x ∷ xs) ys id =
    let rest = kind_append kind xs ys id in
    let long = times_append id (kind x) (flat_map kind (xs ++ ys)) in
    let short = times_append id (kind x) (flat_map kind xs) in
    omega (arith, rest, long, short)

kind_acts : (kind : Act → List OpId) (test : PacketFate → Bool) → IsKind kind test → (place : ℕ) (id : OpId) (acts : List Act) → passing test (flat_map (fate_by_act place id) acts) ≡ times id (flat_map kind acts)
kind_acts kind test is place id [] = refl
kind_acts kind test is place id (a ∷ acts) =
    let rest = kind_acts kind test is place id acts in
    let here = is place id a in
    let both = passing_append test (fate_by_act place id a) (flat_map (fate_by_act place id) acts) in
    let cut = times_append id (kind a) (flat_map kind acts) in
    omega (arith, rest, here, both, cut)

kind_lines : (kind : Act → List OpId) (test : PacketFate → Bool) → IsKind kind test → (p : Params) (id : OpId) (past lines : List Line) → passing test (ends_behind p id past lines) ≡ times id (flat_map kind (acts_behind p past lines))
kind_lines kind test is p id past [] = refl
kind_lines kind test is p id past (l ∷ ls) =
    let rest = kind_lines kind test is p id (past ++ l ∷ []) ls in
    let here = kind_acts kind test is (length past) id (acts_at p past l) in
    let both = passing_append test (flat_map (fate_by_act (length past) id) (acts_at p past l)) (ends_behind p id (past ++ l ∷ []) ls) in
    let cut = kind_append kind (acts_at p past l) (acts_behind p (past ++ l ∷ []) ls) id in
    omega (arith, rest, here, both, cut)

fates_are : (p : Params) (journal : List Line) (id : OpId) → fates_of p journal id ≡ ends_behind p id [] journal ++ (if is_waiting p journal id then Waits ∷ [] else [])
unfolding fates_of
fates_are p journal id = refl

-- a kind that no waiting packet is of
kind_journal : (kind : Act → List OpId) (test : PacketFate → Bool) → IsKind kind test → test (By Waits) ≡ false → (p : Params) (journal : List Line) (id : OpId) → passing test (fates_of p journal id) ≡ times id (flat_map kind (acts_behind p [] journal))
kind_journal kind test is none p journal id =
    let lines = kind_lines kind test is p id [] journal in
    let both = ap (passing test) (fates_are p journal id) ∙ passing_append test (ends_behind p id [] journal) (if is_waiting p journal id then Waits ∷ [] else []) in
    let rest = by_test (is_waiting p journal id) in
    omega (arith, lines, both, rest) where
      by_test : (t : Bool) → passing test (if t then Waits ∷ [] else []) ≡ 0
      by_test true = rw none refl
      by_test false = refl

-- ---- all journals

acts_at_place : (kind : Act → List OpId) (plan : Plan) (id : OpId) (journals : List (List Line)) (k : ℕ) → k < length journals
    → times id (flat_map kind (journal_acts plan [] (slice_index_or journals k []))) ≤ times id (flat_map kind (flat_map (journal_acts plan []) journals))
acts_at_place kind plan id [] k lt = absurd (omega (arith, lt))
acts_at_place kind plan id (j ∷ js) zero lt = let both = kind_append kind (journal_acts plan [] j) (flat_map (journal_acts plan []) js) id in omega (arith, both)
acts_at_place kind plan id (j ∷ js) (suc k) lt =
    let rest = acts_at_place kind plan id js k (omega (arith, lt)) in
    let both = kind_append kind (journal_acts plan [] j) (flat_map (journal_acts plan []) js) id in
    omega (arith, rest, both)

-- ---- those that wait

waits_kind : (p : Params) (id : OpId) (past lines : List Line) → passing is_waiting_fate (ends_behind p id past lines) ≡ 0
waits_kind p id past [] = refl
waits_kind p id past (l ∷ ls) =
    let rest = waits_kind p id (past ++ l ∷ []) ls in
    let here = none (acts_at p past l) in
    let both = passing_append is_waiting_fate (flat_map (fate_by_act (length past) id) (acts_at p past l)) (ends_behind p id (past ++ l ∷ []) ls) in
    omega (arith, rest, here, both) where
      one : (a : Act) → passing is_waiting_fate (fate_by_act (length past) id a) ≡ 0
      one (act.Transmit other mac) = by_test (is_id id other) where
        by_test : (t : Bool) → passing is_waiting_fate (if t then Fate.Sent (length past) mac ∷ [] else []) ≡ 0
        by_test true = refl
        by_test false = refl
      one (act.Drop other cause) = by_test (is_id id other) where
        by_test : (t : Bool) → passing is_waiting_fate (if t then Fate.Dropped (length past) cause ∷ [] else []) ≡ 0
        by_test true = refl
        by_test false = refl
      one (act.Wait other) = refl
      one act.SolicitGroup = refl
      one (act.SolicitUnicast mac) = refl

      none : (acts : List Act) → passing is_waiting_fate (flat_map (fate_by_act (length past) id) acts) ≡ 0
      none [] = refl
      none (a ∷ acts) =
          let rest = none acts in
          let here = one a in
          let both = passing_append is_waiting_fate (fate_by_act (length past) id a) (flat_map (fate_by_act (length past) id) acts) in
          omega (arith, rest, here, both)

some_times : (id : OpId) (ids : List OpId) → list_any (is_id id) ids ≡ true → 1 ≤ times id ids
some_times id [] e = cc
some_times id (x ∷ xs) e = by_test (is_id id x) refl (some_times id xs) where
  by_test : (t : Bool) → is_id id x ≡ t → (list_any (is_id id) xs ≡ true → 1 ≤ times id xs) → 1 ≤ length (if t then x ∷ filter (is_id id) xs else filter (is_id id) xs)
  by_test true h rest = omega arith
  by_test false h rest = rest (by_rest (is_id id x) (list_any (is_id id) xs) h e) where
    by_rest : (a b : Bool) → a ≡ false → (a || b) ≡ true → b ≡ true
    by_rest false b h e = e
    by_rest true b h e = cc

some_queue : (id : OpId) (queue : Key → List OpId) (keys : List Key) → list_any (λ key. list_any (is_id id) (queue key)) keys ≡ true → 1 ≤ times id (flat_map queue keys)
some_queue id queue [] e = cc
some_queue id queue (k ∷ ks) e = by_test (list_any (is_id id) (queue k)) refl (some_queue id queue ks) where
  both : times id (queue k ++ flat_map queue ks) ≡ times id (queue k) + times id (flat_map queue ks)
  both = times_append id (queue k) (flat_map queue ks)

  by_test : (t : Bool) → list_any (is_id id) (queue k) ≡ t → (list_any (λ key. list_any (is_id id) (queue key)) ks ≡ true → 1 ≤ times id (flat_map queue ks)) → 1 ≤ times id (queue k ++ flat_map queue ks)
  by_test true h rest = let some = some_times id (queue k) h in let sum = both in omega (arith, some, sum)
  by_test false h rest = let some = rest (by_rest (list_any (is_id id) (queue k)) (list_any (λ key. list_any (is_id id) (queue key)) ks) h e) in let sum = both in omega (arith, some, sum) where
    by_rest : (a b : Bool) → a ≡ false → (a || b) ≡ true → b ≡ true
    by_rest false b h e = e
    by_rest true b h e = cc

waits_journal : (p : Params) (journal : List Line) (id : OpId) → passing is_waiting_fate (fates_of p journal id) ≤ times id (waiting_behind p journal)
waits_journal p journal id =
    let lines = waits_kind p id [] journal in
    let both = ap (passing is_waiting_fate) (fates_are p journal id) ∙ passing_append is_waiting_fate (ends_behind p id [] journal) (if is_waiting p journal id then Waits ∷ [] else []) in
    let rest = by_test (is_waiting p journal id) refl in
    omega (arith, lines, both, rest) where
      by_test : (t : Bool) → is_waiting p journal id ≡ t → passing is_waiting_fate (if t then Waits ∷ [] else []) ≤ times id (waiting_behind p journal)
      by_test true e = let some = some_queue id (λ key. ids_of (state_of p journal key).waiting) (known_keys journal) e in omega (arith, some)
      by_test false e = omega arith

waits_at_place : (plan : Plan) (id : OpId) (journals : List (List Line)) (k : ℕ) → k < length journals
    → times id (waiting_after plan (slice_index_or journals k [])) ≤ times id (flat_map (waiting_after plan) journals)
waits_at_place plan id [] k lt = absurd (omega (arith, lt))
waits_at_place plan id (j ∷ js) zero lt = let both = times_append id (waiting_after plan j) (flat_map (waiting_after plan) js) in omega (arith, both)
waits_at_place plan id (j ∷ js) (suc k) lt =
    let rest = waits_at_place plan id js k (omega (arith, lt)) in
    let both = times_append id (waiting_after plan j) (flat_map (waiting_after plan) js) in
    omega (arith, rest, both)

-- ---- the numbers

-- the fates of a packet by its journal that pass a test are no more than its places in a list
abbrev HasPlaces : Run → (PacketFate → Bool) → List OpId → Entered → Type 0
HasPlaces run test ids x = length (filter test (journal_fates run x)) ≤ times x.id ids

bucket_there : (run : Run) (x : Entered) → 0 < run.plan.buckets → IsInlineRun run.plan run → is_send x.op ≡ true → bucket_for run.plan.buckets x.op < length run.journals
bucket_there run x some h send = let long = h.buckets in let small = (packet_goes run.plan x.id x.op some send).2 in omega (arith, long, small)

kind_places : (kind : Act → List OpId) (test : PacketFate → Bool) → IsKind kind test → test (By Waits) ≡ false → (run : Run) (x : Entered) → 0 < run.plan.buckets → IsInlineRun run.plan run → is_send x.op ≡ true
    → HasPlaces run test (flat_map kind (all_acts run)) x
kind_places kind test is none run x some h send =
    let here = kind_journal kind test is none run.plan.params (journal_at run.journals (bucket_for run.plan.buckets x.op)) x.id in
    let all = acts_at_place kind run.plan x.id run.journals (bucket_for run.plan.buckets x.op) (bucket_there run x some h send) in
    omega (arith, here, all)

waits_places : (run : Run) (x : Entered) → 0 < run.plan.buckets → IsInlineRun run.plan run → is_send x.op ≡ true → HasPlaces run is_waiting_fate (flat_map (waiting_after run.plan) run.journals) x
waits_places run x some h send =
    let here = waits_journal run.plan.params (journal_at run.journals (bucket_for run.plan.buckets x.op)) x.id in
    let all = waits_at_place run.plan x.id run.journals (bucket_for run.plan.buckets x.op) (bucket_there run x some h send) in
    omega (arith, here, all)

each_has : (P : Entered → Type 0) (xs : List Entered) → ((x : Entered) → is_send x.op ≡ true → P x) → Each (λ x. is_send x.op ≡ true) xs → Each P xs
each_has P [] all h = tt
each_has P (x ∷ xs) all h = (all x h.0, each_has P xs all h.1)

-- the fates of packets that pass a test
abbrev passing_all : Run → (PacketFate → Bool) → List Entered → ℕ
passing_all run test xs = length (filter test (flat_map (λ fates. fates) (map (journal_fates run) xs)))

filter_long : (test : PacketFate → Bool) (xs ys : List PacketFate) → length (filter test (xs ++ ys)) ≡ length (filter test xs) + length (filter test ys)
filter_long test xs ys = ap length (filter-append test xs ys) ∙ length-append (filter test xs) (filter test ys)

passing_few : (run : Run) (test : PacketFate → Bool) (ids : List OpId) (xs : List Entered) → Each (HasPlaces run test ids) xs → passing_all run test xs ≤ times_all xs ids
passing_few run test ids [] h = omega arith
passing_few run test ids (x ∷ xs) h =
    let here = h.0 in
    let rest = passing_few run test ids xs h.1 in
    let both = filter_long test (journal_fates run x) (flat_map (λ fates. fates) (map (journal_fates run) xs)) in
    omega (arith, here, rest, both)

once_each : (plan : Plan) (id : OpId) → length plan.senders ≤ 16 → count (has_id id) (senders_ops 1 plan.senders) ≤ 1
once_each plan id few =
    let both = count_append (has_id id) (control_ops plan host_start 1 plan.control) (senders_ops 1 plan.senders) in
    let once = each_id_once plan host_start plan.control plan.senders id few in
    omega (arith, both, once)

passing_most : (run : Run) (test : PacketFate → Bool) (ids : List OpId) → length run.plan.senders ≤ 16 → ((x : Entered) → is_send x.op ≡ true → HasPlaces run test ids x) → passing_all run test (senders_ops 1 run.plan.senders) ≤ length ids
passing_most run test ids few places =
    let here = passing_few run test ids (senders_ops 1 run.plan.senders) (each_has (HasPlaces run test ids) (senders_ops 1 run.plan.senders) places (senders_send 1 run.plan.senders)) in
    let most = times_few (senders_ops 1 run.plan.senders) ids (λ id. once_each run.plan id few) in
    omega (arith, here, most)

-- every fate is of one of the four kinds
kinds : (fates : List PacketFate) → length (filter is_sent_fate fates) + length (filter is_fast_fate fates) + length (filter is_dropped_fate fates) + length (filter is_waiting_fate fates) ≡ length fates
kinds [] = refl
kinds (Fast number ∷ fates) = let rest = kinds fates in omega (arith, rest)
kinds (By (Fate.Sent place mac) ∷ fates) = let rest = kinds fates in omega (arith, rest)
kinds (By (Fate.Dropped place cause) ∷ fates) = let rest = kinds fates in omega (arith, rest)
kinds (By Waits ∷ fates) = let rest = kinds fates in omega (arith, rest)

no_fast : (run : Run) (xs : List Entered) → passing_all run is_fast_fate xs ≡ 0
no_fast run [] = refl
no_fast run (x ∷ xs) =
    let rest = no_fast run xs in
    let here = none (fates_of run.plan.params (journal_at run.journals (bucket_for run.plan.buckets x.op)) x.id) in
    let both = filter_long is_fast_fate (journal_fates run x) (flat_map (λ fates. fates) (map (journal_fates run) xs)) in
    omega (arith, rest, here, both) where
      none : (fates : List Fate) → length (filter is_fast_fate (map By fates)) ≡ 0
      none [] = refl
      none (fate ∷ fates) = none fates

ones_long : (fates : List (List PacketFate)) → AllByRecursion (λ one. (fate : PacketFate) × (one ≡ fate ∷ [])) fates → length (flat_map (λ one. one) fates) ≡ length fates
ones_long [] h = refl
ones_long (one ∷ fates) h =
    let rest = ones_long fates h.1 in
    let first = ap length h.0.1 in
    let both = length-append one (flat_map (λ other. other) fates) in
    omega (arith, rest, first, both)

sender_long : (p n : ℕ) (items : List SendItem) → length (sender_ops p n items) ≡ length items
sender_long p n [] = refl
sender_long p n (item ∷ items) = ap suc (sender_long p (n + 1) items)

senders_long : (p : ℕ) (senders : List (List SendItem)) → length (senders_ops p senders) ≡ sum_by length senders
senders_long p [] = refl
senders_long p (items ∷ senders) =
    let both = length-append (sender_ops p 1 items) (senders_ops (p + 1) senders) in
    let first = sender_long p 1 items in
    let rest = senders_long (p + 1) senders in
    let sum = sum_by-cons length items senders in
    omega (arith, both, first, rest, sum)

map_long : (run : Run) (xs : List Entered) → length (map (journal_fates run) xs) ≡ length xs
map_long run [] = refl
map_long run (x ∷ xs) = ap suc (map_long run xs)

counted : (run : Run) → 0 < run.plan.buckets → length run.plan.senders ≤ 16 → list_any is_sending run.plan.control ≡ false → IsInlineRun run.plan run → CountFates run (sent_count run) (fast_count run) (dropped_count run) (waiting_count run)
counted run some few quiet h =
    let packets = senders_ops 1 run.plan.senders in
    let are = inline_packet_fates run.plan run h in
    let of_test : (test : PacketFate → Bool) → fate_count test run ≡ passing_all run test packets = λ test. ap (λ (fates : List (List PacketFate)). length (filter test (flat_map (λ one. one) fates))) are in
    let long : length (flat_map (λ one. one) (packet_fates run)) ≡ length packets = ones_long (packet_fates run) (one_fate_for_each run.plan run some few h) ∙ (ap length are ∙ map_long run packets) in
    let all = kinds (flat_map (λ one. one) (packet_fates run)) in
    let sent_is = of_test is_sent_fate in
    let dropped_is = of_test is_dropped_fate in
    let waiting_is = of_test is_waiting_fate in
    let fast_is = of_test is_fast_fate in
    let many = senders_long 1 run.plan.senders in
    let total = inline_fates run.plan run some quiet h in
    let none = no_fast run packets in
    let fast : fast_count run ≡ 0 = ap (λ (logs : List (List Outcome)). length (flat_map (filter is_fast) logs)) h.logs ∙ ap length (logs-slow run.plan run.journals 1 run.plan.senders) in
    let sent = passing_most run is_sent_fate (flat_map sent_id (all_acts run)) few (λ x send. kind_places sent_id is_sent_fate sent_kind refl run x some h send) in
    let sent_ids = sent_long (all_acts run) in
    let dropped = passing_most run is_dropped_fate (flat_map dropped_id (all_acts run)) few (λ x send. kind_places dropped_id is_dropped_fate dropped_kind refl run x some h send) in
    let dropped_ids = dropped_long (all_acts run) in
    let waiting = passing_most run is_waiting_fate (flat_map (waiting_after run.plan) run.journals) few (λ x send. waits_places run x some h send) in
    record {
      sent_are = omega (arith, long, all, sent_is, dropped_is, waiting_is, fast_is, many, total, none, fast, sent, sent_ids, dropped, dropped_ids, waiting);
      fast_are = omega (arith, fast_is, none, fast);
      dropped_are = omega (arith, long, all, sent_is, dropped_is, waiting_is, fast_is, many, total, none, fast, sent, sent_ids, dropped, dropped_ids, waiting);
      waiting_are = omega (arith, long, all, sent_is, dropped_is, waiting_is, fast_is, many, total, none, fast, sent, sent_ids, dropped, dropped_ids, waiting);
    }

pub inline_counted : (plan : Plan) (run : Run) → 0 < plan.buckets → length plan.senders ≤ 16 → list_any is_sending plan.control ≡ false → IsInlineRun plan run → CountFates run (sent_count run) (fast_count run) (dropped_count run) (waiting_count run)
inline_counted plan run some few quiet h =
    counted run (subst (λ (w : Plan). 0 < w.buckets) (sym h.plan) some) (subst (λ (w : Plan). length w.senders ≤ 16) (sym h.plan) few)
    (subst (λ (w : Plan). list_any is_sending w.control ≡ false) (sym h.plan) quiet) (subst (λ (w : Plan). IsInlineRun w run) (sym h.plan) h)
