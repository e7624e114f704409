-- A sender's hold of a key: what it knows only grows, its floor is at least what the sender has seen, and what a packet read lies between.
use Rattle.std.proofs.Common.{◌≡◌, ℕ, ◌+◌, ◌*◌, ◌≤◌, max, Bool, true, false, ◌||◌, not, is_some, if◌then◌else◌, List, [], ◌∷◌, ◌++◌, length, refl, sym, ◌∙◌, ap, subst, append-nil, arith}
use Rattle.std.specs.List.{AllByRecursion, list_any}
use Rattle.std.specs.Prelude.{Option, Some, None, IfSome, slice_get}
use Rattle.std.proofs.lemmas.Bool.{false≢true}
use Rattle.std.proofs.lemmas.List.Folds.{list_any-append}
use Rattle.std.proofs.lemmas.List.Sums.{fold-append}
use Rattle.std.proofs.Math.Nat.{max-le}
use Rattle.nb_base.specs.declared.key.Key.{Key}
use Rattle.nb_base.specs.declared.host.Host.{Host}
use Rattle.nb_base.specs.declared.params.Params.{Params}
use Rattle.nb_base.specs.declared.record.Record.{Record}
use Rattle.nb_base.specs.declared.line.Line.{Line}
use Rattle.nb_base.specs.declared.outcome.Why.TheVariants as why
use Rattle.nb_base.specs.declared.outcome.Outcome.{Outcome}
use Rattle.nb_base.specs.declared.outcome.Outcome.TheVariants as outcome
use Rattle.nb_journal.specs.Keys.{is_key}
use Rattle.nb_journal.specs.Accounts.{published, last_number}
use Rattle.neigh_run.specs.Bounds.{Handled, number_at, number_seen, known_number, IsInBounds, IsBounded, is_first, is_inline}
use Rattle.hh_core.specs.Safe.{both_numbers}
use Rattle.run_evidence.specs.Tokens.{Begins}
use Rattle.run_evidence.specs.Holds.{Hold, IsRead, MeetsHold, AreKnown}
use Rattle.run_evidence.proofs.Lists.{begins_self, all_map, all_both, all_front, all_back, all_begins}
use Rattle.run_evidence.proofs.Numbers.{last_begins, last_counted, counted_same}

-- ---- what a hold knows only grows

abbrev pub floor_of : Option Hold → ℕ
floor_of None = 0
floor_of (Some hold) = hold.floor

abbrev pub Grows : Option Hold → Option Hold → Type 0
Grows None new = Unit {0}
Grows (Some old) None = ⊥
Grows (Some old) (Some new) = Begins old.known new.known × Begins old.tries new.tries

grows_self : (h : Option Hold) → Grows h h
grows_self None = tt
grows_self (Some hold) = (begins_self hold.known, begins_self hold.tries)

pub read_grows : (p : Params) (host : Host) (key : Key) (past : List Line) (old : Option Hold) (o : Outcome) (new : Option Hold) → IsRead p host key past old o new → Grows old new
read_grows p host key past None o new h = tt
read_grows p host key past (Some old) (outcome.Fast number header) (Some new) h = (((number, record { usable = true; header = header }) ∷ [], h.known), h.tries)
read_grows p host key past (Some old) (outcome.Slow (why.Suspect number) place reply) (Some new) h = (((number, h.read) ∷ [], h.known), h.left.tries)
read_grows p host key past (Some old) (outcome.Slow (why.Again tries) place reply) (Some new) h = (([], h.known ∙ sym (append-nil old.known)), (tries, h.taken))
read_grows p host key past (Some old) (outcome.Slow why.First place reply) (Some new) h = absurd h
read_grows p host key past (Some old) (outcome.Slow why.Inline place reply) (Some new) h = absurd h
read_grows p host key past (Some old) (outcome.Fast number header) None h = absurd h
read_grows p host key past (Some old) (outcome.Slow (why.Suspect number) place reply) None h = absurd h
read_grows p host key past (Some old) (outcome.Slow (why.Again tries) place reply) None h = absurd h
read_grows p host key past (Some old) (outcome.Slow why.First place reply) None h = absurd h
read_grows p host key past (Some old) (outcome.Slow why.Inline place reply) None h = absurd h

pub meets_grows : (p : Params) (host : Host) (key : Key) (past : List Line) (told : ℕ) (named : Bool) (old new : Option Hold) → MeetsHold p host key past told named old new → Grows old new
meets_grows p host key past told false old new h = subst (Grows old) (sym h) (grows_self old)
meets_grows p host key past told true None new h = tt
meets_grows p host key past told true (Some old) None h = absurd h
meets_grows p host key past told true (Some old) (Some new) h = (([], h.known ∙ sym (append-nil old.known)), ([], h.tries ∙ sym (append-nil old.tries)))

pub same_grows : (old new : Option Hold) → new ≡ old → Grows old new
same_grows old new e = subst (Grows old) (sym e) (grows_self old)

-- so what is published of it in the end was published of it before
pub known_back : (records : List Record) (old new : Option Hold) → Grows old new → AreKnown records new → AreKnown records old
known_back records None new g k = tt
known_back records (Some old) None g k = absurd g
known_back records (Some old) (Some new) g k = all_begins (λ (pair : ℕ × Record). slice_get records pair.0 ≡ Some pair.1) old.known new.known g.0 k

-- no number that a hold knows is above n
abbrev pub UpTo : ℕ → Option Hold → Type 0
UpTo n None = Unit {0}
UpTo n (Some hold) = AllByRecursion (λ (pair : ℕ × Record). pair.0 ≤ n) hold.known

-- nor half of one that its tries met
abbrev pub Within : ℕ → Option Hold → Type 0
Within n None = Unit {0}
Within n (Some hold) = AllByRecursion (λ (pair : ℕ × Record). pair.0 ≤ n) hold.known × AllByRecursion (λ (m : ℕ). m ≤ 2 * n) (both_numbers hold.tries)

both-append : (xs ys : List (ℕ × ℕ)) → both_numbers (xs ++ ys) ≡ both_numbers xs ++ both_numbers ys
both-append [] ys = refl
both-append (t ∷ ts) ys = ap (λ ns. t.0 ∷ t.1 ∷ ns) (both-append ts ys)

all_numbers : (P : ℕ → Type 0) (xs ys : List (ℕ × ℕ)) → Begins xs ys → AllByRecursion P (both_numbers ys) → AllByRecursion P (both_numbers xs)
all_numbers P xs ys b h = all_front P (both_numbers xs) (both_numbers b.0) (subst (AllByRecursion P) (ap both_numbers b.1 ∙ both-append xs b.0) h)

pub within_back : (n : ℕ) (old new : Option Hold) → Grows old new → Within n new → Within n old
within_back n None new g w = tt
within_back n (Some old) None g w = absurd g
within_back n (Some old) (Some new) g w = (all_begins (λ (pair : ℕ × Record). pair.0 ≤ n) old.known new.known g.0 w.0, all_numbers (λ (m : ℕ). m ≤ 2 * n) old.tries new.tries g.1 w.1)

-- what a barrier met is within the key's last number then
pub met_within : (p : Params) (host : Host) (key : Key) (past : List Line) (told hi : ℕ) (old new : Option Hold) → MeetsHold p host key past told true old new → last_number p host past key ≤ hi → Within hi old
met_within p host key past told hi None new h le = tt
met_within p host key past told hi (Some old) None h le = absurd h
met_within p host key past told hi (Some old) (Some new) h le =
    let high = h.high in (
      subst (AllByRecursion (λ (pair : ℕ × Record). pair.0 ≤ hi)) h.known (all_map (λ (pair : ℕ × Record). pair.0 ≤ new.floor) (λ (pair : ℕ × Record). pair.0 ≤ hi) new.known (λ pair lt. omega (arith, lt, high, le)) h.numbers),
      subst (λ (ts : List (ℕ × ℕ)). AllByRecursion (λ (m : ℕ). m ≤ 2 * hi) (both_numbers ts)) h.tries (all_map (λ (m : ℕ). m ≤ 2 * new.floor) (λ (m : ℕ). m ≤ 2 * hi) (both_numbers new.tries) (λ m lt. omega (arith, lt, high, le)) h.halves),
    )

-- ---- what a sender has seen

known-snoc : (p : Params) (host : Host) (journal : List Line) (key : Key) (earlier : List Handled) (done : Handled)
    → known_number p host journal key (earlier ++ done ∷ []) ≡ (if is_key done.key key then max (known_number p host journal key earlier) (number_seen p host journal key done.outcome) else known_number p host journal key earlier)
known-snoc p host journal key earlier done = fold-append (λ (known : ℕ) (done : Handled). if is_key done.key key then max known (number_seen p host journal key done.outcome) else known) 0 earlier (done ∷ [])

abbrev pub is_there : Key → List Handled → Bool
is_there key earlier = list_any (λ (other : Handled). is_key other.key key) earlier

there-snoc : (key : Key) (earlier : List Handled) (done : Handled) → is_there key (earlier ++ done ∷ []) ≡ (is_there key earlier || (is_key done.key key || false))
there-snoc key earlier done = list_any-append (λ (other : Handled). is_key other.key key) earlier (done ∷ [])

or_true : (b : Bool) → (b || true) ≡ true
or_true true = refl
or_true false = refl

or_false : (b : Bool) → (b || false) ≡ b
or_false true = refl
or_false false = refl

-- the hold is there where the sender has sent to the key, its floor is at least what the sender has seen,
-- and at most every number that is at least those that it knows and the last one of what is shown
pub record IsUpheld (p : Params) (host : Host) (key : Key) (journal : List Line) (earlier : List Handled) (shown : List Line) (h : Option Hold) : Type 0 where
  pub there : is_some h ≡ is_there key earlier
  pub seen : known_number p host journal key earlier ≤ floor_of h
  pub least : (n : ℕ) → UpTo n h → last_number p host shown key ≤ n → floor_of h ≤ n

-- at first
known_nil : (p : Params) (host : Host) (journal : List Line) (key : Key) → known_number p host journal key [] ≡ 0
known_nil p host journal key = refl

pub upheld-nil : (p : Params) (host : Host) (key : Key) (journal shown : List Line) → IsUpheld p host key journal [] shown None
upheld-nil p host key journal shown = record { there = refl; seen = omega (arith, known_nil p host journal key); least = λ n upto le. omega arith }

-- where more is shown
pub upheld-more : (p : Params) (host : Host) (key : Key) (journal : List Line) (earlier : List Handled) (old new : List Line) (h : Option Hold) → Begins old new → IsUpheld p host key journal earlier old h → IsUpheld p host key journal earlier new h
upheld-more p host key journal earlier old new h b u = record { there = u.there; seen = u.seen; least = λ n upto le. u.least n upto (let more = last_begins p host key old new b in omega (arith, more, le)) }

-- behind a packet to another key
pub upheld-other : (p : Params) (host : Host) (key : Key) (journal : List Line) (earlier : List Handled) (done : Handled) (shown : List Line) (h : Option Hold) → is_key done.key key ≡ false → IsUpheld p host key journal earlier shown h → IsUpheld p host key journal (earlier ++ done ∷ []) shown h
upheld-other p host key journal earlier done shown h other u = record {
  there = u.there ∙ sym (there-snoc key earlier done ∙ ap (λ b. is_there key earlier || (b || false)) other ∙ or_false (is_there key earlier));
  seen = subst (λ n. n ≤ floor_of h) (sym (known-snoc p host journal key earlier done ∙ ap (λ (b : Bool). if b then max (known_number p host journal key earlier) (number_seen p host journal key done.outcome) else known_number p host journal key earlier) other)) u.seen;
  least = u.least;
}

-- a barrier keeps it, and lifts a named hold to the lines that it counted
pub upheld-met : (p : Params) (host : Host) (key : Key) (journal : List Line) (earlier : List Handled) (old new : List Line) (told : ℕ) (named : Bool) (h met : Option Hold)
    → Begins old new → length old ≤ told → told ≤ length new → Begins new journal → MeetsHold p host key new told named h met → IsUpheld p host key journal earlier old h
    → IsUpheld p host key journal earlier new met × (named ≡ true → IfSome met (λ hold. number_at p host journal key told ≤ hold.floor))
upheld-met p host key journal earlier old new told false h met b counted seen whole m u = (subst (IsUpheld p host key journal earlier new) (sym m) (upheld-more p host key journal earlier old new h b u), λ t. absurd (false≢true t))
upheld-met p host key journal earlier old new told true None None b counted seen whole m u = (upheld-more p host key journal earlier old new None b u, λ t. tt)
upheld-met p host key journal earlier old new told true None (Some hold) b counted seen whole m u = absurd m
upheld-met p host key journal earlier old new told true (Some before) None b counted seen whole m u = absurd m
upheld-met p host key journal earlier old new told true (Some before) (Some hold) b counted seen whole m u =
    let last = last_counted p host key old new told b counted in
    let low = m.low in
    let high = m.high in
    let rises = u.least hold.floor (subst (AllByRecursion (λ (pair : ℕ × Record). pair.0 ≤ hold.floor)) m.known m.numbers) (omega (arith, last, low)) in
    let known = u.seen in
    let same = counted_same p host key new journal told whole seen in
    (record { there = u.there; seen = omega (arith, known, rises); least = λ n upto le. omega (arith, high, le) }, λ t. omega (arith, same, low))

-- ---- what a packet to the key has read, and what it leaves

-- the lines that are shown behind it
abbrev pub IsShownBehind : Params → Host → Key → List Line → ℕ → List Line → List Line → Outcome → List Line → Type 0
IsShownBehind p host key journal low old past (outcome.Fast number header) shown = shown ≡ old
IsShownBehind p host key journal low old past (outcome.Slow why place reply) shown = (shown ≡ past) × (number_at p host journal key (place + 1) ≡ last_number p host past key) × (low ≤ last_number p host past key)

last_pair : (P : ℕ × Record → Type 0) (xs : List (ℕ × Record)) (x : ℕ × Record) → AllByRecursion P (xs ++ x ∷ []) → P x
last_pair P [] x h = h.0
last_pair P (y ∷ xs) x h = last_pair P xs x h.1

-- the bounds
pub read_bounded : (p : Params) (host : Host) (key : Key) (journal : List Line) (earlier : List Handled) (old past : List Line) (low high : ℕ) (h : Option Hold) (o : Outcome) (new : Option Hold)
    → IsRead p host key past h o new → IsUpheld p host key journal earlier old h → IfSome h (λ hold. low ≤ hold.floor) → Within high new → AreKnown (published p host journal key) new
    → IsBounded (published p host journal key) low (known_number p host journal key earlier) high o
read_bounded p host key journal earlier old past low high None (outcome.Slow why.First place reply) (Some new) r u from within known = tt
read_bounded p host key journal earlier old past low high (Some hold) (outcome.Fast number header) (Some new) r u from within known =
    let some = r.from in
    let seen = u.seen in
    let top = last_pair (λ (pair : ℕ × Record). pair.0 ≤ high) hold.known (number, record { usable = true; header = header }) (subst (AllByRecursion (λ (pair : ℕ × Record). pair.0 ≤ high)) r.known within.0) in
    let is = last_pair (λ (pair : ℕ × Record). slice_get (published p host journal key) pair.0 ≡ Some pair.1) hold.known (number, record { usable = true; header = header }) (subst (AllByRecursion (λ (pair : ℕ × Record). slice_get (published p host journal key) pair.0 ≡ Some pair.1)) r.known known) in
    (record { marked = omega (arith, from, some); known = omega (arith, seen, some); next = top }, (record { usable = true; header = header }, is, refl))
read_bounded p host key journal earlier old past low high (Some hold) (outcome.Slow (why.Suspect number) place reply) (Some new) r u from within known =
    let some = r.from in
    let seen = u.seen in
    let top = last_pair (λ (pair : ℕ × Record). pair.0 ≤ high) hold.known (number, r.read) (subst (AllByRecursion (λ (pair : ℕ × Record). pair.0 ≤ high)) r.known within.0) in
    let is = last_pair (λ (pair : ℕ × Record). slice_get (published p host journal key) pair.0 ≡ Some pair.1) hold.known (number, r.read) (subst (AllByRecursion (λ (pair : ℕ × Record). slice_get (published p host journal key) pair.0 ≡ Some pair.1)) r.known known) in
    (record { marked = omega (arith, from, some); known = omega (arith, seen, some); next = top }, (r.read, is, r.unusable))
read_bounded p host key journal earlier old past low high (Some hold) (outcome.Slow (why.Again tries) place reply) (Some new) r u from within known =
    let seen = u.seen in
    let mine = all_back (λ (m : ℕ). m ≤ 2 * high) (both_numbers hold.tries) (both_numbers tries) (subst (AllByRecursion (λ (m : ℕ). m ≤ 2 * high)) (ap both_numbers r.taken ∙ both-append hold.tries tries) within.1) in
    record {
      four = r.four;
      failed = r.failed;
      rises = r.rises;
      within = all_map (λ (n : ℕ). (2 * hold.floor ≤ n) × (n ≤ 2 * high)) (λ (n : ℕ). IsInBounds (2 * low) (2 * known_number p host journal key earlier) (2 * high) n) (both_numbers tries)
          (λ n both. let a = both.0 in record { marked = omega (arith, a, from); known = omega (arith, a, seen); next = both.1 })
          (all_both (λ (n : ℕ). 2 * hold.floor ≤ n) (λ (n : ℕ). n ≤ 2 * high) (both_numbers tries) r.from mine);
    }
read_bounded p host key journal earlier old past low high None (outcome.Slow why.First place reply) None r u from within known = absurd r
read_bounded p host key journal earlier old past low high None (outcome.Fast number header) new r u from within known = absurd r
read_bounded p host key journal earlier old past low high None (outcome.Slow why.Inline place reply) new r u from within known = absurd r
read_bounded p host key journal earlier old past low high None (outcome.Slow (why.Suspect number) place reply) new r u from within known = absurd r
read_bounded p host key journal earlier old past low high None (outcome.Slow (why.Again tries) place reply) new r u from within known = absurd r
read_bounded p host key journal earlier old past low high (Some hold) (outcome.Fast number header) None r u from within known = absurd r
read_bounded p host key journal earlier old past low high (Some hold) (outcome.Slow (why.Suspect number) place reply) None r u from within known = absurd r
read_bounded p host key journal earlier old past low high (Some hold) (outcome.Slow (why.Again tries) place reply) None r u from within known = absurd r
read_bounded p host key journal earlier old past low high (Some hold) (outcome.Slow why.First place reply) new r u from within known = absurd r
read_bounded p host key journal earlier old past low high (Some hold) (outcome.Slow why.Inline place reply) new r u from within known = absurd r

-- the cause
pub read_cause : (p : Params) (host : Host) (key : Key) (past : List Line) (h : Option Hold) (o : Outcome) (new : Option Hold) → IsRead p host key past h o new → (is_first o ≡ not (is_some h)) × (is_inline o ≡ false)
read_cause p host key past None (outcome.Slow why.First place reply) new r = (refl, refl)
read_cause p host key past (Some hold) (outcome.Fast number header) new r = (refl, refl)
read_cause p host key past (Some hold) (outcome.Slow (why.Suspect number) place reply) new r = (refl, refl)
read_cause p host key past (Some hold) (outcome.Slow (why.Again tries) place reply) new r = (refl, refl)
read_cause p host key past None (outcome.Fast number header) new r = absurd r
read_cause p host key past None (outcome.Slow why.Inline place reply) new r = absurd r
read_cause p host key past None (outcome.Slow (why.Suspect number) place reply) new r = absurd r
read_cause p host key past None (outcome.Slow (why.Again tries) place reply) new r = absurd r
read_cause p host key past (Some hold) (outcome.Slow why.First place reply) new r = absurd r
read_cause p host key past (Some hold) (outcome.Slow why.Inline place reply) new r = absurd r

-- a hold that is there behind a packet to its key
upheld_by : (p : Params) (host : Host) (key : Key) (journal : List Line) (earlier : List Handled) (done : Handled) (shown : List Line) (old : Option Hold) (new : Hold) → is_key done.key key ≡ true
    → known_number p host journal key earlier ≤ new.floor → number_seen p host journal key done.outcome ≤ new.floor → ((n : ℕ) → UpTo n (Some new) → last_number p host shown key ≤ n → new.floor ≤ n)
    → IsUpheld p host key journal (earlier ++ done ∷ []) shown (Some new)
upheld_by p host key journal earlier done shown old new same known seen least = record {
  there = sym (there-snoc key earlier done ∙ ap (λ b. is_there key earlier || (b || false)) same ∙ or_true (is_there key earlier));
  seen = subst (λ n. n ≤ new.floor) (sym (known-snoc p host journal key earlier done ∙ ap (λ (b : Bool). if b then max (known_number p host journal key earlier) (number_seen p host journal key done.outcome) else known_number p host journal key earlier) same)) (max-le known seen);
  least = least;
}

-- what it leaves
pub read_upheld : (p : Params) (host : Host) (key : Key) (journal : List Line) (earlier : List Handled) (done : Handled) (old past shown : List Line) (low : ℕ) (h : Option Hold) (o : Outcome) (new : Option Hold)
    → done.outcome ≡ o → is_key done.key key ≡ true → IsRead p host key past h o new → IsUpheld p host key journal earlier old h → IfSome h (λ hold. low ≤ hold.floor) → IsShownBehind p host key journal low old past o shown
    → IsUpheld p host key journal (earlier ++ done ∷ []) shown new × IfSome new (λ hold. low ≤ hold.floor)
read_upheld p host key journal earlier done old past shown low None (outcome.Slow why.First place reply) (Some new) e same r u from s =
    let at = r.at in
    let here = s.1 in
    let above = s.2 in
    let seen = ap (number_seen p host journal key) e in
    let known = u.seen in
    (upheld_by p host key journal earlier done shown None new same (omega (arith, known)) (omega (arith, seen, at, here)) (λ n upto le. let is = ap (λ xs. last_number p host xs key) s.0 in omega (arith, at, is, le)), omega (arith, at, above))
read_upheld p host key journal earlier done old past shown low (Some hold) (outcome.Fast number header) (Some new) e same r u from s =
    let some = r.from in
    let at = r.floor in
    let known = u.seen in
    let seen = ap (number_seen p host journal key) e in (
      upheld_by p host key journal earlier done shown (Some hold) new same (omega (arith, known, some, at)) (omega (arith, seen, at))
          (λ n upto le. let top = last_pair (λ (pair : ℕ × Record). pair.0 ≤ n) hold.known (number, record { usable = true; header = header }) (subst (AllByRecursion (λ (pair : ℕ × Record). pair.0 ≤ n)) r.known upto) in omega (arith, at, top)),
      omega (arith, from, some, at),
    )
read_upheld p host key journal earlier done old past shown low (Some hold) (outcome.Slow (why.Suspect number) place reply) (Some new) e same r u from s =
    let at = r.left.at in
    let rises = r.left.rises in
    let to = r.to in
    let here = s.1 in
    let known = u.seen in
    let seen = ap (number_seen p host journal key) e in (
      upheld_by p host key journal earlier done shown (Some hold) new same (omega (arith, known, rises))
          (subst (λ m. m ≤ new.floor) (sym seen) (max-le to (omega (arith, at, here))))
          (λ n upto le. let is = ap (λ xs. last_number p host xs key) s.0 in omega (arith, at, is, le)),
      omega (arith, from, rises),
    )
read_upheld p host key journal earlier done old past shown low (Some hold) (outcome.Slow (why.Again tries) place reply) (Some new) e same r u from s =
    let at = r.left.at in
    let rises = r.left.rises in
    let here = s.1 in
    let known = u.seen in
    let seen = ap (number_seen p host journal key) e in (
      upheld_by p host key journal earlier done shown (Some hold) new same (omega (arith, known, rises)) (omega (arith, seen, at, here)) (λ n upto le. let is = ap (λ xs. last_number p host xs key) s.0 in omega (arith, at, is, le)),
      omega (arith, from, rises),
    )
read_upheld p host key journal earlier done old past shown low None (outcome.Slow why.First place reply) None e same r u from s = absurd r
read_upheld p host key journal earlier done old past shown low None (outcome.Fast number header) new e same r u from s = absurd r
read_upheld p host key journal earlier done old past shown low None (outcome.Slow why.Inline place reply) new e same r u from s = absurd r
read_upheld p host key journal earlier done old past shown low None (outcome.Slow (why.Suspect number) place reply) new e same r u from s = absurd r
read_upheld p host key journal earlier done old past shown low None (outcome.Slow (why.Again tries) place reply) new e same r u from s = absurd r
read_upheld p host key journal earlier done old past shown low (Some hold) (outcome.Fast number header) None e same r u from s = absurd r
read_upheld p host key journal earlier done old past shown low (Some hold) (outcome.Slow (why.Suspect number) place reply) None e same r u from s = absurd r
read_upheld p host key journal earlier done old past shown low (Some hold) (outcome.Slow (why.Again tries) place reply) None e same r u from s = absurd r
read_upheld p host key journal earlier done old past shown low (Some hold) (outcome.Slow why.First place reply) new e same r u from s = absurd r
read_upheld p host key journal earlier done old past shown low (Some hold) (outcome.Slow why.Inline place reply) new e same r u from s = absurd r
