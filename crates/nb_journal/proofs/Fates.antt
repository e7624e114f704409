-- A packet that was sent once has one fate: its places in the queues and its ends are as many as its sends.
use Rattle.std.proofs.Common.{◌≡◌, ⊎_elim, ℕ, ◌+◌, ◌≤◌, Bool, true, false, ◌||◌, if◌then◌else◌, List, [], ◌∷◌, ◌++◌, length, refl, sym, ◌∙◌, ap, arith, length-append}
use Rattle.std.specs.Prelude.{filter}
use Rattle.std.specs.List.{flat_map, list_any}
use Rattle.std.proofs.lemmas.Bool.{or_parts, or_cases}
use Rattle.nb_base.specs.declared.key.Key.{Key}
use Rattle.nb_base.specs.declared.time.OpId.{OpId}
use Rattle.nb_base.specs.declared.params.Params.{Params}
use Rattle.nb_base.specs.declared.op.Op.{Op}
use Rattle.nb_base.specs.declared.op.Op.TheVariants as op
use Rattle.nb_base.specs.declared.line.Line.{Line}
use Rattle.nud_machine.specs.declared.act.Act.{Act}
use Rattle.nud_machine.specs.declared.act.Act.TheVariants as act
use Rattle.nud_machine.specs.Laws.{leaving, ids_of}
use Rattle.nb_journal.specs.Fold.{id_of, state_of, known_keys}
use Rattle.nb_journal.specs.Lawful.{EachLine}
use Rattle.nb_journal.specs.Accounts.{Fate, Waits, is_id, fate_by_act, acts_at, acts_behind, ends_behind, is_waiting, fates_of, ended, sends_packet, times_sent}
use Rattle.nb_journal.specs.Laws.{EachSendHasOneFate}
use Rattle.nb_journal.proofs.Fits.{Fits, lawful-runs}
use Rattle.nb_journal.proofs.PacketCounts.{count, count-append, ended-append, waits_at, packet_of, packets_of, balance}
use Rattle.nb_journal.proofs.Sums.{sum_over}

-- ---- ends are as many as their places

fate_count : (place : ℕ) (id : OpId) (a : Act) → length (fate_by_act place id a) ≡ count (is_id id) (leaving a)
fate_count place id (act.Transmit other mac) = by_test (is_id id other) where
  by_test : (t : Bool) → length (if t then Fate.Sent place mac ∷ [] else []) ≡ length (if t then other ∷ [] else [])
  by_test true = refl
  by_test false = refl
fate_count place id (act.Drop other cause) = by_test (is_id id other) where
  by_test : (t : Bool) → length (if t then Fate.Dropped place cause ∷ [] else []) ≡ length (if t then other ∷ [] else [])
  by_test true = refl
  by_test false = refl
fate_count place id (act.Wait other) = refl
fate_count place id act.SolicitGroup = refl
fate_count place id (act.SolicitUnicast mac) = refl

fates_count : (place : ℕ) (id : OpId) (acts : List Act) → length (flat_map (fate_by_act place id) acts) ≡ count (is_id id) (ended acts)
fates_count place id [] = refl
fates_count place id (a ∷ acts) =
    length-append (fate_by_act place id a) (flat_map (fate_by_act place id) acts)
    ∙ (let here = fate_count place id a in let rest = fates_count place id acts in let sum : length (fate_by_act place id a) + length (flat_map (fate_by_act place id) acts) ≡ count (is_id id) (leaving a) + count (is_id id) (ended acts) = omega (arith, here, rest) in sum)
    ∙ sym (count-append (is_id id) (leaving a) (ended acts))

-- ---- the journal

ends_count : (p : Params) (id : OpId) (past lines : List Line) → length (ends_behind p id past lines) ≡ count (is_id id) (ended (acts_behind p past lines))
ends_count p id past [] = refl
ends_count p id past (x ∷ xs) =
    let here = fates_count (length past) id (acts_at p past x) in
    let rest = ends_count p id (past ++ x ∷ []) xs in
    let long = length-append (flat_map (fate_by_act (length past) id) (acts_at p past x)) (ends_behind p id (past ++ x ∷ []) xs) in
    let both = ap (count (is_id id)) (ended-append (acts_at p past x) (acts_behind p (past ++ x ∷ []) xs)) ∙ count-append (is_id id) (ended (acts_at p past x)) (ended (acts_behind p (past ++ x ∷ []) xs)) in
    omega (arith, here, rest, long, both)

sends_count : (id : OpId) (l : Line) (o : Op) (more : List Line) (ids : List OpId) → length (filter (λ line. sends_packet id line line.op) more) ≡ count (is_id id) ids
    → length (if sends_packet id l o then l ∷ filter (λ line. sends_packet id line line.op) more else filter (λ line. sends_packet id line line.op) more) ≡ count (is_id id) (packet_of l o ++ ids)
sends_count id l (op.Send key len) more ids e = by_test (is_id id (id_of l)) where
  by_test : (t : Bool) → length (if t then l ∷ filter (λ line. sends_packet id line line.op) more else filter (λ line. sends_packet id line line.op) more) ≡ length (if t then id_of l ∷ filter (is_id id) ids else filter (is_id id) ids)
  by_test true = omega (arith, e)
  by_test false = e
sends_count id l _ more ids e = e

times_count : (id : OpId) (lines : List Line) → times_sent lines id ≡ count (is_id id) (packets_of lines)
times_count id [] = refl
times_count id (x ∷ xs) = sends_count id x x.op xs (packets_of xs) (times_count id xs)

-- the ends of a packet and its places in queues are as many as its sends
places : (p : Params) (id : OpId) (lines : List Line) → EachLine (Fits p) lines → length (ends_behind p id [] lines) + sum_over (waits_at p lines (is_id id)) (known_keys lines) ≡ times_sent lines id
places p id lines all =
    let ends = ends_count p id [] lines in
    let sent = times_count id lines in
    let both = balance p (is_id id) lines all in
    omega (arith, ends, sent, both)

-- ---- whether it waits

count_some : (id : OpId) (ids : List OpId) → list_any (is_id id) ids ≡ true → 1 ≤ count (is_id id) ids
count_some id [] e = cc
count_some id (x ∷ xs) e = by_test (is_id id x) refl (count_some id xs) where
  by_test : (t : Bool) → is_id id x ≡ t → (list_any (is_id id) xs ≡ true → 1 ≤ count (is_id id) xs) → 1 ≤ length (if t then x ∷ filter (is_id id) xs else filter (is_id id) xs)
  by_test true h rest = omega arith
  by_test false h rest = rest (ap (λ (b : Bool). b || list_any (is_id id) xs) (sym h) ∙ e)

count_none : (id : OpId) (ids : List OpId) → list_any (is_id id) ids ≡ false → count (is_id id) ids ≡ 0
count_none id [] e = refl
count_none id (x ∷ xs) e = let parts = or_parts (is_id id x) (list_any (is_id id) xs) e in rw parts.0 (count_none id xs parts.1)

any_some : (id : OpId) (w : Key → List OpId) (keys : List Key) → list_any (λ key. list_any (is_id id) (w key)) keys ≡ true → 1 ≤ sum_over (λ key. count (is_id id) (w key)) keys
any_some id w [] e = cc
any_some id w (k ∷ ks) e = ⊎_elim
    (λ (here : list_any (is_id id) (w k) ≡ true). let some = count_some id (w k) here in omega (arith, some))
    (λ (more : list_any (λ (key : Key). list_any (is_id id) (w key)) ks ≡ true). let rest = any_some id w ks more in omega (arith, rest))
    (or_cases (list_any (is_id id) (w k)) (list_any (λ (key : Key). list_any (is_id id) (w key)) ks) e)

any_none : (id : OpId) (w : Key → List OpId) (keys : List Key) → list_any (λ key. list_any (is_id id) (w key)) keys ≡ false → sum_over (λ key. count (is_id id) (w key)) keys ≡ 0
any_none id w [] e = refl
any_none id w (k ∷ ks) e =
    let parts = or_parts (list_any (is_id id) (w k)) (list_any (λ (key : Key). list_any (is_id id) (w key)) ks) e in
    let here = count_none id (w k) parts.0 in
    let rest = any_none id w ks parts.1 in
    (let sum : count (is_id id) (w k) + sum_over (λ key. count (is_id id) (w key)) ks ≡ 0 = omega (arith, here, rest) in sum)

only_one : (fates : List Fate) → length fates ≡ 1 → (fate : Fate) × (fates ≡ fate ∷ [])
only_one [] e = absurd (omega (arith, e))
only_one (f ∷ []) e = (f, refl)
only_one (f ∷ g ∷ more) e = absurd (omega (arith, e))

fates-are : (p : Params) (lines : List Line) (id : OpId) → fates_of p lines id ≡ ends_behind p id [] lines ++ (if is_waiting p lines id then Waits ∷ [] else [])
unfolding fates_of
fates-are p lines id = refl

one_fate : (p : Params) (lines : List Line) (id : OpId) → EachLine (Fits p) lines → times_sent lines id ≡ 1 → length (fates_of p lines id) ≡ 1
one_fate p lines id all once = ap length (fates-are p lines id) ∙ by_test (is_waiting p lines id) refl where
  by_test : (t : Bool) → is_waiting p lines id ≡ t → length (ends_behind p id [] lines ++ (if t then Waits ∷ [] else [])) ≡ 1
  by_test true e =
      let some = any_some id (λ (key : Key). ids_of (state_of p lines key).waiting) (known_keys lines) e in
      let long = length-append (ends_behind p id [] lines) (Waits ∷ []) in
      let all_of = places p id lines all in
      omega (arith, some, long, all_of, once)
  by_test false e =
      let none = any_none id (λ (key : Key). ids_of (state_of p lines key).waiting) (known_keys lines) e in
      let long = length-append (ends_behind p id [] lines) [] in
      let all_of = places p id lines all in
      omega (arith, none, long, all_of, once)

pub one_fate_each : EachSendHasOneFate
one_fate_each p journal clock id lawful once = only_one (fates_of p journal id) (one_fate p journal id (lawful-runs p journal clock lawful).each once)
