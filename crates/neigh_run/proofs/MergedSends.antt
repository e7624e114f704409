-- The operations in merged order that send are as many as the plan's packets, and each of them goes to one bucket.
use Rattle.std.proofs.Common.{◌≡◌, ℕ, ◌+◌, ◌<◌, ◌≤◌, Bool, true, false, ◌&&◌, ◌==◌, nat_le, if◌then◌else◌, List, [], ◌∷◌, ◌++◌, length, refl, ◌∙◌, ap, arith, length-append}
use Rattle.std.specs.Prelude.{fold, filter, sum_by, Option, Some, None, IfSome}
use Rattle.std.specs.Option.{option_map, option_to_list}
use Rattle.std.specs.List.{list_any}
use Rattle.std.proofs.lemmas.Bool.{or_parts}
use Rattle.std.proofs.lemmas.Bool.Decides.{nat_tests}
use Rattle.std.proofs.lemmas.List.Elements.{filter-append}
use Rattle.std.proofs.lemmas.List.Sums.{sum_by-cons}
use Rattle.nb_base.specs.declared.key.Key.{Key}
use Rattle.nb_base.specs.declared.key.Key.TheVariants.{V4, V6}
use Rattle.nb_base.specs.declared.op.Op.{Op}
use Rattle.nb_base.specs.declared.op.Op.TheVariants as op
use Rattle.nb_base.specs.declared.line.Line.{Line}
use Rattle.nb_base.specs.declared.plan.Plan.{Plan}
use Rattle.nb_base.specs.declared.plan.SendItem.{SendItem}
use Rattle.nb_base.specs.declared.plan.ControlItem.{ControlItem}
use Rattle.nb_base.specs.declared.plan.ControlItem.TheVariants as control
use Rattle.nb_base.specs.Buckets.{bucket_of}
use Rattle.nb_journal.specs.Keys.{is_send}
use Rattle.nb_queues.specs.SameKey.{has_key}
use Rattle.heard_frames.proofs.Learnt.{IsTold, heard-told}
use Rattle.heard_frames.proofs.Learnt as told
use Rattle.neigh_run.specs.Control.{HostState, host_start, heard, answered, turn}
use Rattle.neigh_run.specs.Merged.{Entered, id_for, control_ops, sender_ops, senders_ops, insert, merged, goes_to, packet_count, is_sending}

-- how many operations send
abbrev pub sends_in : List Entered → ℕ
sends_in xs = length (filter (λ (x : Entered). is_send x.op) xs)

abbrev one_if : Bool → ℕ
one_if b = if b then 1 else 0

sends-cons : (x : Entered) (xs : List Entered) → sends_in (x ∷ xs) ≡ one_if (is_send x.op) + sends_in xs
sends-cons x xs = by_test (is_send x.op) where
  by_test : (t : Bool) → length (if t then x ∷ filter (λ (y : Entered). is_send y.op) xs else filter (λ (y : Entered). is_send y.op) xs) ≡ one_if t + sends_in xs
  by_test true = omega arith
  by_test false = omega arith

sends-append : (xs ys : List Entered) → sends_in (xs ++ ys) ≡ sends_in xs + sends_in ys
sends-append xs ys =
    ap length (filter-append (λ (x : Entered). is_send x.op) xs ys)
    ∙ length-append (filter (λ (x : Entered). is_send x.op) xs) (filter (λ (x : Entered). is_send x.op) ys)

-- ---- merging

insert-sends : (x : Entered) (ys : List Entered) → sends_in (insert x ys) ≡ one_if (is_send x.op) + sends_in ys
insert-sends x [] = sends-cons x []
insert-sends x (y ∷ ys) = by_test (nat_le y.at x.at) (insert-sends x ys) where
  by_test : (t : Bool) → sends_in (insert x ys) ≡ one_if (is_send x.op) + sends_in ys → sends_in (if t then y ∷ insert x ys else x ∷ y ∷ ys) ≡ one_if (is_send x.op) + sends_in (y ∷ ys)
  by_test true rest = let long = sends-cons y (insert x ys) in let short = sends-cons y ys in omega (arith, long, short, rest)
  by_test false rest = sends-cons x (y ∷ ys)

sorted-sends : (sorted xs : List Entered) → sends_in (fold (λ (ys : List Entered) (x : Entered). insert x ys) sorted xs) ≡ sends_in sorted + sends_in xs
sorted-sends sorted [] = omega arith
sorted-sends sorted (x ∷ xs) =
    let rest = sorted-sends (insert x sorted) xs in
    let here = insert-sends x sorted in
    let long = sends-cons x xs in
    omega (arith, rest, here, long)

control-sends : (plan : Plan) (s : HostState) (n : ℕ) (items : List ControlItem) → list_any is_sending items ≡ false → sends_in (control_ops plan s n items) ≡ 0
control-sends plan s n [] h = refl
control-sends plan s n (control.Neigh at o ∷ items) h =
    let parts = or_parts (is_send o) (list_any is_sending items) h in
    let behind = (turn plan s n (control.Neigh at o)).behind in
    let first = sends-cons (record { at = at; id = id_for 0 n; op = o }) (control_ops plan behind (n + 1) items) in
    let none = ap one_if parts.0 in
    let rest = control-sends plan behind (n + 1) items parts.1 in
    omega (arith, first, none, rest)
control-sends plan s n (control.Frame at bytes ∷ items) h =
    by_op (heard plan (answered s (control.Frame at bytes)) bytes).op (heard-told plan.host (has_key s.proxies) bytes) (control-sends plan (turn plan s n (control.Frame at bytes)).behind (n + 1) items h) where
      rest : List Entered
      rest = control_ops plan (turn plan s n (control.Frame at bytes)).behind (n + 1) items

      by_op : (o : Option Op) → IfSome o (IsTold plan.host) → sends_in rest ≡ 0
          → sends_in (option_to_list (option_map (λ (given : Op). record { at = at; id = id_for 0 n; op = given }) o) ++ rest) ≡ 0
      by_op None is none = none
      by_op (Some _) (told.by_arp key mac make solicited e) none = none
      by_op (Some _) (told.by_solicitation key mac e) none = none
      by_op (Some _) (told.by_advert key mac router solicited overrides e) none = none
control-sends plan s n (control.Proxy at key add ∷ items) h = control-sends plan (turn plan s n (control.Proxy at key add)).behind (n + 1) items h

sender-sends : (p n : ℕ) (items : List SendItem) → sends_in (sender_ops p n items) ≡ length items
sender-sends p n [] = refl
sender-sends p n (item ∷ items) = let rest = sender-sends p (n + 1) items in omega (arith, rest)

senders-sends : (p : ℕ) (senders : List (List SendItem)) → sends_in (senders_ops p senders) ≡ sum_by length senders
senders-sends p [] = refl
senders-sends p (items ∷ senders) =
    let both = sends-append (sender_ops p 1 items) (senders_ops (p + 1) senders) in
    let first = sender-sends p 1 items in
    let rest = senders-sends (p + 1) senders in
    let sum = sum_by-cons length items senders in
    omega (arith, both, first, rest, sum)

pub merged-sends : (plan : Plan) → list_any is_sending plan.control ≡ false → sends_in (merged plan) ≡ packet_count plan
merged-sends plan h =
    let sorted = sorted-sends [] (control_ops plan host_start 1 plan.control ++ senders_ops 1 plan.senders) in
    let both = sends-append (control_ops plan host_start 1 plan.control) (senders_ops 1 plan.senders) in
    let host = control-sends plan host_start 1 plan.control h in
    let senders = senders-sends 1 plan.senders in
    omega (arith, sorted, both, host, senders)

-- ---- buckets

-- the sum over the buckets from b on, one for each journal
abbrev pub over : ℕ → List Entered → ℕ → List (List Line) → ℕ
over buckets ops b [] = 0
over buckets ops b (journal ∷ journals) = sends_in (filter (λ (x : Entered). goes_to buckets b x.op) ops) + over buckets ops (b + 1) journals

-- how many of these buckets an operation that sends goes to
abbrev hits : ℕ → Op → ℕ → List (List Line) → ℕ
hits buckets o b [] = 0
hits buckets o b (journal ∷ journals) = one_if (is_send o && goes_to buckets b o) + hits buckets o (b + 1) journals

bucket-cons : (buckets b : ℕ) (x : Entered) (xs : List Entered) → sends_in (filter (λ (y : Entered). goes_to buckets b y.op) (x ∷ xs)) ≡ one_if (is_send x.op && goes_to buckets b x.op) + sends_in (filter (λ (y : Entered). goes_to buckets b y.op) xs)
bucket-cons buckets b x xs = by_test (goes_to buckets b x.op) where
  off : (t : Bool) → one_if (t && false) ≡ 0
  off true = refl
  off false = refl

  on : (t : Bool) → one_if (t && true) ≡ one_if t
  on true = refl
  on false = refl

  by_test : (t : Bool) → sends_in (if t then x ∷ filter (λ (y : Entered). goes_to buckets b y.op) xs else filter (λ (y : Entered). goes_to buckets b y.op) xs) ≡ one_if (is_send x.op && t) + sends_in (filter (λ (y : Entered). goes_to buckets b y.op) xs)
  by_test true = let long = sends-cons x (filter (λ (y : Entered). goes_to buckets b y.op) xs) in let same = on (is_send x.op) in omega (arith, long, same)
  by_test false = let none = off (is_send x.op) in omega (arith, none)

over-cons : (buckets : ℕ) (x : Entered) (xs : List Entered) (b : ℕ) (journals : List (List Line)) → over buckets (x ∷ xs) b journals ≡ hits buckets x.op b journals + over buckets xs b journals
over-cons buckets x xs b [] = refl
over-cons buckets x xs b (journal ∷ journals) = let here = bucket-cons buckets b x xs in let rest = over-cons buckets x xs (b + 1) journals in omega (arith, here, rest)

over-nil : (buckets b : ℕ) (journals : List (List Line)) → over buckets [] b journals ≡ 0
over-nil buckets b [] = refl
over-nil buckets b (journal ∷ journals) = let rest = over-nil buckets (b + 1) journals in omega (arith, rest)

hits-before : (buckets : ℕ) (key : Key) (len : ℕ) (b : ℕ) (journals : List (List Line)) → bucket_of buckets key < b → hits buckets (op.Send key len) b journals ≡ 0
hits-before buckets key len b [] h = refl
hits-before buckets key len b (journal ∷ journals) h =
    let rest = hits-before buckets key len (b + 1) journals (omega (arith, h)) in
    let off : (bucket_of buckets key == b) ≡ false = grind (arith, nat_tests, h) in
    let none = ap one_if off in
    omega (arith, rest, none)

hits-one : (buckets : ℕ) (key : Key) (len : ℕ) (b : ℕ) (journals : List (List Line)) → b ≤ bucket_of buckets key → bucket_of buckets key < b + length journals → hits buckets (op.Send key len) b journals ≡ 1
hits-one buckets key len b [] le lt = absurd (omega (arith, le, lt))
hits-one buckets key len b (journal ∷ journals) le lt = by_test (bucket_of buckets key == b) refl (λ more. hits-one buckets key len (b + 1) journals more (omega (arith, lt))) where
  by_test : (t : Bool) → (bucket_of buckets key == b) ≡ t → (b + 1 ≤ bucket_of buckets key → hits buckets (op.Send key len) (b + 1) journals ≡ 1) → one_if t + hits buckets (op.Send key len) (b + 1) journals ≡ 1
  by_test true e rest = let same : bucket_of buckets key ≡ b = grind (arith, nat_tests, e) in let none = hits-before buckets key len (b + 1) journals (omega (arith, same)) in omega (arith, none)
  by_test false e rest = let more : b + 1 ≤ bucket_of buckets key = grind (arith, nat_tests, e, le) in let one = rest more in omega (arith, one)

bucket-small : (buckets : ℕ) (key : Key) → 0 < buckets → bucket_of buckets key < buckets
bucket-small buckets (V4 address) some = omega arith
bucket-small buckets (V6 address) some = omega arith

hits-none : (buckets : ℕ) (o : Op) (b : ℕ) (journals : List (List Line)) → is_send o ≡ false → hits buckets o b journals ≡ 0
hits-none buckets o b [] e = refl
hits-none buckets o b (journal ∷ journals) e = let rest = hits-none buckets o (b + 1) journals e in rw e (omega (arith, rest))

hits-are : (buckets : ℕ) (o : Op) (journals : List (List Line)) → 0 < buckets → length journals ≡ buckets → hits buckets o 0 journals ≡ one_if (is_send o)
hits-are buckets (op.Send key len) journals some long = let small = bucket-small buckets key some in hits-one buckets key len 0 journals (omega arith) (omega (arith, small, long))
hits-are buckets o journals some long = hits-none buckets o 0 journals refl

-- each sending operation goes to one bucket
pub over-all : (buckets : ℕ) (ops : List Entered) (journals : List (List Line)) → 0 < buckets → length journals ≡ buckets → over buckets ops 0 journals ≡ sends_in ops
over-all buckets [] journals some long = over-nil buckets 0 journals
over-all buckets (x ∷ xs) journals some long =
    let both = over-cons buckets x xs 0 journals in
    let one = hits-are buckets x.op journals some long in
    let rest = over-all buckets xs journals some long in
    let sum = sends-cons x xs in
    omega (arith, both, one, rest, sum)
