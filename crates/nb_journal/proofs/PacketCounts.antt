-- The packets that pass a test: those that end at lines and those that wait behind them are as many as those that the lines send.
use Rattle.std.proofs.Common.{◌≡◌, ⊎_elim, ℕ, ◌+◌, Bool, true, false, ◌||◌, if◌then◌else◌, List, [], ◌∷◌, ◌++◌, length, Option, Some, None, refl, sym, ◌∙◌, ap, subst, arith, length-append, append-nil, append_assoc}
use Rattle.std.specs.Prelude.{filter}
use Rattle.std.specs.List.{flat_map}
use Rattle.std.proofs.lemmas.Bool.{or_parts}
use Rattle.std.proofs.lemmas.Grind.{flat_map-append}
use Rattle.std.proofs.lemmas.List.Elements.{filter-append}
use Rattle.nb_base.specs.declared.key.Key.{Key}
use Rattle.nb_base.specs.declared.time.OpId.{OpId}
use Rattle.nb_base.specs.declared.params.Params.{Params}
use Rattle.nb_base.specs.declared.op.Op.{Op}
use Rattle.nb_base.specs.declared.op.Op.TheVariants as op
use Rattle.nb_base.specs.declared.line.Line.{Line}
use Rattle.nud_machine.specs.declared.act.Act.{Act}
use Rattle.nud_machine.specs.State.{State}
use Rattle.nud_machine.specs.Laws.{leaving, ids_of}
use Rattle.nb_journal.specs.Keys.{is_key, made_known}
use Rattle.nb_journal.specs.Fold.{id_of, change, state_of, acts_of, known_keys, with_key}
use Rattle.nb_journal.specs.Lawful.{EachLine}
use Rattle.nb_journal.specs.Accounts.{acts_at, ended, sent_by, acts_behind}
use Rattle.nb_journal.proofs.Lines.{by_last, each-last}
use Rattle.nb_journal.proofs.Folds.{state_of-snoc, known_keys-nil, known_keys-snoc}
use Rattle.nb_journal.proofs.Changes.{is_key-same}
use Rattle.nb_journal.proofs.Grows.{has_key}
use Rattle.nb_journal.proofs.Counts.{AreDistinct, key_cases, is_key-flip, has_key-snoc, known_keys-distinct, state_of-unknown, sum_over-append}
use Rattle.nb_journal.proofs.Fits.{Fits}
use Rattle.nb_journal.proofs.Queues.{line_order}
use Rattle.nb_journal.proofs.Sums.{sum_over}

-- how many packets of a list pass a test
abbrev pub count : (OpId → Bool) → List OpId → ℕ
count test ids = length (filter test ids)

pub count-append : (test : OpId → Bool) (xs ys : List OpId) → count test (xs ++ ys) ≡ count test xs + count test ys
count-append test xs ys = ap length (filter-append test xs ys) ∙ length-append (filter test xs) (filter test ys)

pub ended-append : (xs ys : List Act) → ended (xs ++ ys) ≡ ended xs ++ ended ys
ended-append [] ys = refl
ended-append (a ∷ xs) ys = ap (λ (ids : List OpId). leaving a ++ ids) (ended-append xs ys) ∙ sym (append_assoc (leaving a) (ended xs) (ended ys))

keys_count : (test : OpId → Bool) (f : Key → List Act) (keys : List Key) → count test (ended (flat_map f keys)) ≡ sum_over (λ key. count test (ended (f key))) keys
keys_count test f [] = refl
keys_count test f (k ∷ ks) =
    ap (count test) (ended-append (f k) (flat_map f ks)) ∙ count-append test (ended (f k)) (ended (flat_map f ks)) ∙ ap (λ (n : ℕ). count test (ended (f k)) + n) (keys_count test f ks)

-- ---- sums

sum-same : (f g : Key → ℕ) (keys : List Key) → ((key : Key) → f key ≡ g key) → sum_over f keys ≡ sum_over g keys
sum-same f g [] h = refl
sum-same f g (k ∷ ks) h = let here = h k in let rest = sum-same f g ks h in omega (arith, here, rest)

sum-plus : (f g : Key → ℕ) (keys : List Key) → sum_over (λ key. f key + g key) keys ≡ sum_over f keys + sum_over g keys
sum-plus f g [] = refl
sum-plus f g (k ∷ ks) = let rest = sum-plus f g ks in omega (arith, rest)

sum-none : (f : Key → ℕ) (keys : List Key) → ((key : Key) → f key ≡ 0) → sum_over f keys ≡ 0
sum-none f [] h = refl
sum-none f (k ∷ ks) h = let here = h k in let rest = sum-none f ks h in omega (arith, here, rest)

-- a number that only one key has
abbrev only_for : Key → ℕ → Key → ℕ
only_for key n other = if is_key key other then n else 0

only_off : (key other : Key) (n : ℕ) → is_key key other ≡ false → only_for key n other ≡ 0
only_off key other n e = rw e refl

only_on : (key : Key) (n : ℕ) → only_for key n key ≡ n
only_on key n = rw (is_key-same key) refl

sum-apart : (key : Key) (n : ℕ) (keys : List Key) → has_key keys key ≡ false → sum_over (only_for key n) keys ≡ 0
sum-apart key n [] h = refl
sum-apart key n (k ∷ ks) h =
    let parts = or_parts (is_key k key) (has_key ks key) h in
    let here = only_off key k n (is_key-flip k key parts.0) in
    let rest = sum-apart key n ks parts.1 in
    omega (arith, here, rest)

sum-once : (key : Key) (n : ℕ) (keys : List Key) → AreDistinct keys → has_key keys key ≡ true → sum_over (only_for key n) keys ≡ n
sum-once key n [] d there = cc
sum-once key n (k ∷ ks) d there = ⊎_elim
    (λ (same : key ≡ k).
    let here = ap (only_for key n) (sym same) ∙ only_on key n in
    let rest = sum-apart key n ks (ap (has_key ks) same ∙ d.0) in
    (let sum : only_for key n k + sum_over (only_for key n) ks ≡ n = omega (arith, here, rest) in sum))
    (λ (off : is_key key k ≡ false).
    let here = only_off key k n off in
    let more : has_key ks key ≡ true = ap (λ (b : Bool). b || has_key ks key) (sym (is_key-flip key k off)) ∙ there in
    let rest = sum-once key n ks d.1 more in
    (let sum : only_for key n k + sum_over (only_for key n) ks ≡ n = omega (arith, here, rest) in sum))
    (key_cases key k)

with_key-has : (keys : List Key) (key : Key) → has_key (with_key keys (Some key)) key ≡ true
with_key-has keys key = by_test (has_key keys key) refl where
  by_test : (t : Bool) → has_key keys key ≡ t → has_key (if t then keys else keys ++ key ∷ []) key ≡ true
  by_test true e = e
  by_test false e = has_key-snoc keys key key ∙ rw (e, is_key-same key) refl

-- a number that no unknown key has
sum-known : (f : Key → ℕ) (keys : List Key) (new : Option Key) → ((key : Key) → has_key keys key ≡ false → f key ≡ 0) → sum_over f (with_key keys new) ≡ sum_over f keys
sum-known f keys None h = refl
sum-known f keys (Some key) h = by_test (has_key keys key) refl where
  by_test : (t : Bool) → has_key keys key ≡ t → sum_over f (if t then keys else keys ++ key ∷ []) ≡ sum_over f keys
  by_test true e = refl
  by_test false e = let zero = h key e in let sum = sum_over-append f keys (key ∷ []) in omega (arith, zero, sum)

-- ---- one line

-- the packets that wait for a key
abbrev pub waits_at : Params → List Line → (OpId → Bool) → Key → ℕ
waits_at p lines test key = count test (ids_of (state_of p lines key).waiting)

-- the key that an operation sends to
abbrev send_key : Op → Option Key
send_key (op.Send key len) = Some key
send_key _ = None

abbrev sent_to : Line → Key → Option Key → List OpId
sent_to l key None = []
sent_to l key (Some named) = if is_key named key then id_of l ∷ [] else []

sent_is : (l : Line) (key : Key) (o : Op) → sent_by l key o ≡ sent_to l key (send_key o)
sent_is l key (op.Send named len) = refl
sent_is l key _ = refl

abbrev packet_to : Line → Option Key → List OpId
packet_to l None = []
packet_to l (Some key) = id_of l ∷ []

-- the packet that a line sends, if it does
abbrev pub packet_of : Line → Op → List OpId
packet_of l (op.Send key len) = id_of l ∷ []
packet_of l _ = []

packet_is : (l : Line) (o : Op) → packet_of l o ≡ packet_to l (send_key o)
packet_is l (op.Send key len) = refl
packet_is l _ = refl

send_made : (o : Op) (key : Key) → send_key o ≡ Some key → made_known o ≡ Some key
send_made (op.Send named len) key e = e
send_made _ key e = cc

sent_for : (test : OpId → Bool) (l : Line) (key other : Key) → count test (sent_to l other (Some key)) ≡ only_for key (count test (id_of l ∷ [])) other
sent_for test l key other = by_test (is_key key other) where
  by_test : (t : Bool) → count test (if t then id_of l ∷ [] else []) ≡ (if t then count test (id_of l ∷ []) else 0)
  by_test true = refl
  by_test false = refl

sent_once : (test : OpId → Bool) (l : Line) (keys : List Key) (o : Op) → AreDistinct (with_key keys (made_known o)) → sum_over (λ key. count test (sent_by l key o)) (with_key keys (made_known o)) ≡ count test (packet_of l o)
sent_once test l keys o d = by_key (send_key o) refl where
  by_key : (k : Option Key) → send_key o ≡ k → sum_over (λ key. count test (sent_by l key o)) (with_key keys (made_known o)) ≡ count test (packet_of l o)
  by_key None e =
      sum-none (λ (key : Key). count test (sent_by l key o)) (with_key keys (made_known o)) (λ key. ap (count test) (sent_is l key o ∙ ap (sent_to l key) e))
      ∙ sym (ap (count test) (packet_is l o ∙ ap (packet_to l) e))
  by_key (Some key) e =
      sum-same (λ (other : Key). count test (sent_by l other o)) (only_for key (count test (id_of l ∷ []))) (with_key keys (made_known o)) (λ other. ap (count test) (sent_is l other o ∙ ap (sent_to l other) e) ∙ sent_for test l key other)
      ∙ sum-once key (count test (id_of l ∷ [])) (with_key keys (made_known o)) d (subst (λ (m : Option Key). has_key (with_key keys m) key ≡ true) (sym (send_made o key e)) (with_key-has keys key))
      ∙ sym (ap (count test) (packet_is l o ∙ ap (packet_to l) e))

key_line : (p : Params) (past : List Line) (l : Line) (test : OpId → Bool) (key : Key) → Fits p past l → waits_at p past test key + count test (sent_by l key l.op) ≡ count test (ended (acts_of p past l key)) + waits_at p (past ++ l ∷ []) test key
key_line p past l test key fits =
    sym (count-append test (ids_of (state_of p past key).waiting) (sent_by l key l.op))
    ∙ ap (count test) (line_order p past l key fits)
    ∙ count-append test (ended (acts_of p past l key)) (ids_of (change p l key (state_of p past key)).state.waiting)
    ∙ ap (λ (s : State). count test (ended (acts_of p past l key)) + count test (ids_of s.waiting)) (sym (state_of-snoc p past l key))

-- all keys at a line
line_sum : (p : Params) (past : List Line) (l : Line) (test : OpId → Bool) → Fits p past l
    → sum_over (waits_at p past test) (known_keys past) + count test (packet_of l l.op) ≡ count test (ended (acts_at p past l)) + sum_over (waits_at p (past ++ l ∷ []) test) (known_keys (past ++ l ∷ []))
line_sum p past l test fits =
    let all = known_keys (past ++ l ∷ []) in
    let grown = known_keys-snoc past l in
    let before : sum_over (waits_at p past test) all ≡ sum_over (waits_at p past test) (known_keys past) =
    ap (sum_over (waits_at p past test)) grown ∙ sum-known (waits_at p past test) (known_keys past) (made_known l.op) (λ key off. ap (λ (s : State). count test (ids_of s.waiting)) (state_of-unknown p past key off)) in
    let sent : sum_over (λ key. count test (sent_by l key l.op)) all ≡ count test (packet_of l l.op) =
    ap (sum_over (λ (key : Key). count test (sent_by l key l.op))) grown ∙ sent_once test l (known_keys past) l.op (subst AreDistinct grown (known_keys-distinct (past ++ l ∷ []))) in
    let ends = keys_count test (acts_of p past l) all in
    let lines : sum_over (λ key. waits_at p past test key + count test (sent_by l key l.op)) all ≡ sum_over (λ key. count test (ended (acts_of p past l key)) + waits_at p (past ++ l ∷ []) test key) all =
    sum-same (λ (key : Key). waits_at p past test key + count test (sent_by l key l.op)) (λ (key : Key). count test (ended (acts_of p past l key)) + waits_at p (past ++ l ∷ []) test key) all (λ key. key_line p past l test key fits) in
    let left = sum-plus (waits_at p past test) (λ (key : Key). count test (sent_by l key l.op)) all in
    let right = sum-plus (λ (key : Key). count test (ended (acts_of p past l key))) (waits_at p (past ++ l ∷ []) test) all in
    omega (arith, before, sent, ends, lines, left, right)

-- ---- the journal

-- the packets that lines send
abbrev pub packets_of : List Line → List OpId
packets_of lines = flat_map (λ line. packet_of line line.op) lines

pub acts_behind-snoc : (p : Params) (past lines : List Line) (l : Line) → acts_behind p past (lines ++ l ∷ []) ≡ acts_behind p past lines ++ acts_at p (past ++ lines) l
acts_behind-snoc p past [] l = append-nil (acts_at p past l) ∙ ap (λ (xs : List Line). acts_at p xs l) (sym (append-nil past))
acts_behind-snoc p past (x ∷ xs) l =
    ap (λ (acts : List Act). acts_at p past x ++ acts) (acts_behind-snoc p (past ++ x ∷ []) xs l)
    ∙ ap (λ (ys : List Line). acts_at p past x ++ (acts_behind p (past ++ x ∷ []) xs ++ acts_at p ys l)) (append_assoc past (x ∷ []) xs)
    ∙ sym (append_assoc (acts_at p past x) (acts_behind p (past ++ x ∷ []) xs) (acts_at p (past ++ x ∷ xs) l))

packets_of-snoc : (test : OpId → Bool) (lines : List Line) (l : Line) → count test (packets_of (lines ++ l ∷ [])) ≡ count test (packets_of lines) + count test (packet_of l l.op)
packets_of-snoc test lines l =
    ap (count test) (flat_map-append (λ (x : Line). packet_of x x.op) lines (l ∷ []) ∙ ap (λ (ids : List OpId). packets_of lines ++ ids) (append-nil (packet_of l l.op)))
    ∙ count-append test (packets_of lines) (packet_of l l.op)

-- the packets that end and those that wait are as many as those that were sent
pub balance : (p : Params) (test : OpId → Bool) (lines : List Line) → EachLine (Fits p) lines
    → count test (ended (acts_behind p [] lines)) + sum_over (waits_at p lines test) (known_keys lines) ≡ count test (packets_of lines)
balance p test = by_last (λ (xs : List Line). EachLine (Fits p) xs → count test (ended (acts_behind p [] xs)) + sum_over (waits_at p xs test) (known_keys xs) ≡ count test (packets_of xs))
    (λ all. let none = ap (sum_over (waits_at p [] test)) known_keys-nil in omega (arith, none)) more where
      more : (xs : List Line) (x : Line) → (EachLine (Fits p) xs → count test (ended (acts_behind p [] xs)) + sum_over (waits_at p xs test) (known_keys xs) ≡ count test (packets_of xs))
          → EachLine (Fits p) (xs ++ x ∷ []) → count test (ended (acts_behind p [] (xs ++ x ∷ []))) + sum_over (waits_at p (xs ++ x ∷ []) test) (known_keys (xs ++ x ∷ [])) ≡ count test (packets_of (xs ++ x ∷ []))
      more xs x before all =
          let parts = each-last (Fits p) xs x all in
          let so_far = before parts.0 in
          let line = line_sum p xs x test parts.1 in
          let ends =
          ap (λ (acts : List Act). count test (ended acts)) (acts_behind-snoc p [] xs x) ∙ ap (count test) (ended-append (acts_behind p [] xs) (acts_at p xs x))
          ∙ count-append test (ended (acts_behind p [] xs)) (ended (acts_at p xs x)) in
          let sent = packets_of-snoc test xs x in
          omega (arith, so_far, line, ends, sent)
