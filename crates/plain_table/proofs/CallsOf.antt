-- The calls of operations: which buckets they are of, and what each bucket gets.
use Rattle.std.proofs.Common.{◌≡◌, ℕ, zero, suc, ◌<◌, ◌≤◌, ◌+◌, Bool, true, false, ◌==◌, if◌then◌else◌, List, [], ◌∷◌, ◌++◌, length, map, Option, Some, None, refl, sym, ◌∙◌, ap, arith, append_assoc, append-nil, take, get_or}
use Rattle.std.specs.Prelude.{filter}
use Rattle.std.specs.List.{flat_map}
use Rattle.std.specs.Option.{option_map_or}
use Rattle.std.proofs.lemmas.List.{map-append, take_more}
use Rattle.std.proofs.lemmas.List.Elements.{filter-append}
use Rattle.std.proofs.lemmas.Bool.Decides.{nat_tests}
use Rattle.nb_base.specs.declared.key.Key.{Key}
use Rattle.nb_base.specs.declared.key.Key.TheVariants.{V4, V6}
use Rattle.nb_base.specs.declared.line.Line.{Line}
use Rattle.nb_base.specs.declared.op.Op.{Op}
use Rattle.nb_base.specs.Buckets.{bucket_of}
use Rattle.nb_journal.specs.Keys.{key_of}
use Rattle.neigh_run.specs.Merged.{Entered, goes_to}
use Rattle.neigh_run.specs.Seen.{called, buckets_from}
use Rattle.neigh_run.specs.Inline.{entered_line}
use Rattle.plain_table.specs.Calls.{Call, call_to, calls_for, calls_of, calls_on, buckets_called, entered_at}

called-map : (x : Entered) (bs : List ℕ) → buckets_called (map (call_to x) bs) ≡ bs
called-map x [] = refl
called-map x (b ∷ bs) = ap (λ (cs : List ℕ). b ∷ cs) (called-map x bs)

pub calls_of-nil : (n : ℕ) → calls_of n [] ≡ []
unfolding calls_of
calls_of-nil n = refl

pub calls_of-cons : (n : ℕ) (x : Entered) (xs : List Entered) → calls_of n (x ∷ xs) ≡ calls_for n x ++ calls_of n xs
unfolding calls_of
calls_of-cons n x xs = refl

pub calls_of-append : (n : ℕ) (xs ys : List Entered) → calls_of n (xs ++ ys) ≡ calls_of n xs ++ calls_of n ys
calls_of-append n [] ys = ap (λ (cs : List Call). cs ++ calls_of n ys) (sym (calls_of-nil n))
calls_of-append n (x ∷ xs) ys =
    calls_of-cons n x (xs ++ ys)
    ∙ ap (λ (cs : List Call). calls_for n x ++ cs) (calls_of-append n xs ys)
    ∙ sym (append_assoc (calls_for n x) (calls_of n xs) (calls_of n ys))
    ∙ ap (λ (cs : List Call). cs ++ calls_of n ys) (sym (calls_of-cons n x xs))

-- one line more
pub calls_on-more : (n : ℕ) (lines : List Line) (i : ℕ) (line : Line) → i < length lines → line ≡ get_or lines i line → calls_on n (take (i + 1) lines) ≡ calls_on n (take i lines) ++ calls_for n (entered_line line)
calls_on-more n lines i line lt is =
    ap (calls_on n) (take_more lines i line lt ∙ ap (λ (l : Line). take i lines ++ l ∷ []) (sym is))
    ∙ ap (calls_of n) (map-append entered_line (take i lines) (line ∷ []))
    ∙ calls_of-append n (map entered_line (take i lines)) (entered_line line ∷ [])
    ∙ ap (λ (cs : List Call). calls_on n (take i lines) ++ cs) (calls_of-cons n (entered_line line) [] ∙ ap (λ (cs : List Call). calls_for n (entered_line line) ++ cs) (calls_of-nil n) ∙ append-nil (calls_for n (entered_line line)))

pub called-for : (n : ℕ) (x : Entered) → buckets_called (calls_for n x) ≡ buckets_from n 0 n x.op
called-for n x = called-map x (buckets_from n 0 n x.op)

pub called-all : (n : ℕ) (xs : List Entered) → buckets_called (calls_of n xs) ≡ flat_map (λ (x : Entered). buckets_from n 0 n x.op) xs
called-all n [] = ap buckets_called (calls_of-nil n)
called-all n (x ∷ xs) =
    ap buckets_called (calls_of-cons n x xs)
    ∙ map-append (λ (c : Call). c.bucket) (calls_for n x) (calls_of n xs)
    ∙ ap (λ (bs : List ℕ). bs ++ buckets_called (calls_of n xs)) (called-for n x)
    ∙ ap (λ (bs : List ℕ). buckets_from n 0 n x.op ++ bs) (called-all n xs)

-- the calls of an operation that goes to a bucket are one of this bucket
at_lesser : (n c k b : ℕ) (x : Entered) → b < c → entered_at b (map (call_to x) (buckets_from n c k x.op)) ≡ []
at_lesser n c zero b x lt = refl
at_lesser n c (suc k) b x lt = by_test (goes_to n c x.op) (at_lesser n (c + 1) k b x (omega (arith, lt))) where
  by_test : (t : Bool) → entered_at b (map (call_to x) (buckets_from n (c + 1) k x.op)) ≡ [] → entered_at b (map (call_to x) ((if t then c ∷ [] else []) ++ buckets_from n (c + 1) k x.op)) ≡ []
  by_test true rest = let other : (c == b) ≡ false = grind (arith, nat_tests, lt) in rw other rest
  by_test false rest = rest

at_bucket : (n c k b : ℕ) (x : Entered) → c ≤ b → b < c + k → entered_at b (map (call_to x) (buckets_from n c k x.op)) ≡ (if goes_to n b x.op then x ∷ [] else [])
at_bucket n c zero b x le lt = absurd (omega (arith, le, lt))
at_bucket n c (suc k) b x le lt = by_here (c == b) refl (λ ahead. at_bucket n (c + 1) k b x ahead (omega (arith, lt))) where
  by_here : (h : Bool) → (c == b) ≡ h → (c + 1 ≤ b → entered_at b (map (call_to x) (buckets_from n (c + 1) k x.op)) ≡ (if goes_to n b x.op then x ∷ [] else []))
      → entered_at b (map (call_to x) ((if goes_to n c x.op then c ∷ [] else []) ++ buckets_from n (c + 1) k x.op)) ≡ (if goes_to n b x.op then x ∷ [] else [])
  by_here true e rest =
      let same : c ≡ b = grind (arith, nat_tests, e) in
      by_test (goes_to n c x.op) ∙ ap (λ (d : ℕ). if goes_to n d x.op then x ∷ [] else []) same where
        none : entered_at b (map (call_to x) (buckets_from n (c + 1) k x.op)) ≡ []
        none = let same : c ≡ b = grind (arith, nat_tests, e) in at_lesser n (c + 1) k b x (omega (arith, same))

        by_test : (t : Bool) → entered_at b (map (call_to x) ((if t then c ∷ [] else []) ++ buckets_from n (c + 1) k x.op)) ≡ (if t then x ∷ [] else [])
        by_test true = rw e (ap (λ (xs : List Entered). x ∷ xs) none)
        by_test false = none
  by_here false e rest = by_test (goes_to n c x.op) where
    ahead : c + 1 ≤ b
    ahead = let apart : c ≡ b → ⊥ = λ same. (let yes : (c == b) ≡ true = grind (arith, nat_tests, same) in absurd cc) in omega (arith, le, apart)

    by_test : (t : Bool) → entered_at b (map (call_to x) ((if t then c ∷ [] else []) ++ buckets_from n (c + 1) k x.op)) ≡ (if goes_to n b x.op then x ∷ [] else [])
    by_test true = rw e (rest ahead)
    by_test false = rest ahead

entered-append : (b : ℕ) (cs ds : List Call) → entered_at b (cs ++ ds) ≡ entered_at b cs ++ entered_at b ds
entered-append b cs ds =
    ap (map (λ (c : Call). c.entered)) (filter-append (λ (c : Call). c.bucket == b) cs ds)
    ∙ map-append (λ (c : Call). c.entered) (filter (λ (c : Call). c.bucket == b) cs) (filter (λ (c : Call). c.bucket == b) ds)

pub entered-all : (n b : ℕ) (xs : List Entered) → b < n → entered_at b (calls_of n xs) ≡ filter (λ (x : Entered). goes_to n b x.op) xs
entered-all n b [] lt = ap (entered_at b) (calls_of-nil n)
entered-all n b (x ∷ xs) lt =
    ap (entered_at b) (calls_of-cons n x xs)
    ∙ entered-append b (calls_for n x) (calls_of n xs)
    ∙ ap (λ (ys : List Entered). ys ++ entered_at b (calls_of n xs)) (at_bucket n 0 n b x (omega arith) (omega (arith, lt)))
    ∙ ap (λ (ys : List Entered). (if goes_to n b x.op then x ∷ [] else []) ++ ys) (entered-all n b xs lt)
    ∙ by_test (goes_to n b x.op) where
      by_test : (t : Bool) → (if t then x ∷ [] else []) ++ filter (λ (y : Entered). goes_to n b y.op) xs ≡ (if t then x ∷ filter (λ (y : Entered). goes_to n b y.op) xs else filter (λ (y : Entered). goes_to n b y.op) xs)
      by_test true = refl
      by_test false = refl

-- ---- calls and operations

-- a bucket's operations among calls are as many as its calls
pub entered-many : (b : ℕ) (done : List Call) → length (entered_at b done) ≡ called b (buckets_called done)
entered-many b [] = refl
entered-many b (c ∷ cs) = by_test (c.bucket == b) (entered-many b cs) where
  by_test : (t : Bool) → length (entered_at b cs) ≡ called b (buckets_called cs)
      → length (map (λ (call : Call). call.entered) (if t then c ∷ filter (λ (call : Call). call.bucket == b) cs else filter (λ (call : Call). call.bucket == b) cs)) ≡ (if t then 1 else 0) + called b (buckets_called cs)
  by_test true rest = omega (arith, rest)
  by_test false rest = omega (arith, rest)

pub entered-more : (c : ℕ) (done : List Call) (next : Call) → entered_at c (done ++ next ∷ []) ≡ entered_at c done ++ (if next.bucket == c then next.entered ∷ [] else [])
entered-more c done next =
    ap (map (λ (call : Call). call.entered)) (filter-append (λ (call : Call). call.bucket == c) done (next ∷ []))
    ∙ map-append (λ (call : Call). call.entered) (filter (λ (call : Call). call.bucket == c) done) (filter (λ (call : Call). call.bucket == c) (next ∷ []))
    ∙ ap (λ (xs : List Entered). entered_at c done ++ xs) (by_test (next.bucket == c)) where
      by_test : (t : Bool) → map (λ (call : Call). call.entered) (if t then next ∷ [] else []) ≡ (if t then next.entered ∷ [] else [])
      by_test true = refl
      by_test false = refl

-- ---- which buckets an operation goes to

pub bucket_there : (n : ℕ) (key : Key) → 0 < n → bucket_of n key < n
bucket_there n (V4 a) some = omega arith
bucket_there n (V6 a) some = omega arith

-- one that names a key goes to the key's bucket
goes_by : (n c : ℕ) (key : Key) (o : Option Key) → o ≡ Some key → option_map_or (λ (k : Key). bucket_of n k == c) o true ≡ (bucket_of n key == c)
goes_by n c key o e = ap (λ (k : Option Key). option_map_or (λ (k : Key). bucket_of n k == c) k true) e

behind_key : (n c k : ℕ) (o : Op) (key : Key) → key_of o ≡ Some key → bucket_of n key < c → buckets_from n c k o ≡ []
behind_key n c zero o key e lt = refl
behind_key n c (suc k) o key e lt =
    let other : (bucket_of n key == c) ≡ false = grind (arith, nat_tests, lt) in
    ap (λ (t : Bool). (if t then c ∷ [] else []) ++ buckets_from n (c + 1) k o) (goes_by n c key (key_of o) e ∙ other) ∙ behind_key n (c + 1) k o key e (omega (arith, lt))

to_key : (n c k : ℕ) (o : Op) (key : Key) → key_of o ≡ Some key → c ≤ bucket_of n key → bucket_of n key < c + k → buckets_from n c k o ≡ bucket_of n key ∷ []
to_key n c zero o key e le lt = absurd (omega (arith, le, lt))
to_key n c (suc k) o key e le lt =
    ap (λ (t : Bool). (if t then c ∷ [] else []) ++ buckets_from n (c + 1) k o) (goes_by n c key (key_of o) e) ∙ by_test (bucket_of n key == c) refl (λ ahead. to_key n (c + 1) k o key e ahead (omega (arith, lt))) where
      by_test : (t : Bool) → (bucket_of n key == c) ≡ t → (c + 1 ≤ bucket_of n key → buckets_from n (c + 1) k o ≡ bucket_of n key ∷ []) → (if t then c ∷ [] else []) ++ buckets_from n (c + 1) k o ≡ bucket_of n key ∷ []
      by_test true is rest =
          let same : c ≡ bucket_of n key = grind (arith, nat_tests, is) in
          ap (λ (xs : List ℕ). c ∷ xs) (behind_key n (c + 1) k o key e (omega (arith, same))) ∙ ap (λ (b : ℕ). b ∷ []) same
      by_test false is rest = rest (grind (arith, nat_tests, is, le))

pub calls-key : (n : ℕ) (x : Entered) (key : Key) → key_of x.op ≡ Some key → 0 < n → calls_for n x ≡ call_to x (bucket_of n key) ∷ []
calls-key n x key e some = ap (map (call_to x)) (let there = bucket_there n key some in to_key n 0 n x.op key e (omega arith) (omega (arith, there)))

-- one that names none goes to each, one more at a time
buckets-more : (n c k : ℕ) (o : Op) → key_of o ≡ None → buckets_from n c (suc k) o ≡ buckets_from n c k o ++ (c + k) ∷ []
buckets-more n c zero o e =
    let here : c + 0 ≡ c = omega arith in
    ap (λ (k : Option Key). (if option_map_or (λ (key : Key). bucket_of n key == c) k true then c ∷ [] else []) ++ []) e ∙ ap (λ (b : ℕ). b ∷ []) (sym here)
buckets-more n c (suc k) o e =
    let next : c + 1 + k ≡ c + suc k = omega arith in
    ap (λ (bs : List ℕ). (if goes_to n c o then c ∷ [] else []) ++ bs) (buckets-more n (c + 1) k o e ∙ ap (λ (b : ℕ). buckets_from n (c + 1) k o ++ b ∷ []) next)
    ∙ sym (append_assoc (if goes_to n c o then c ∷ [] else []) (buckets_from n (c + 1) k o) ((c + suc k) ∷ []))

pub calls-next : (n k : ℕ) (x : Entered) → key_of x.op ≡ None → map (call_to x) (buckets_from n 0 (k + 1) x.op) ≡ map (call_to x) (buckets_from n 0 k x.op) ++ call_to x k ∷ []
calls-next n k x e =
    let next : k + 1 ≡ suc k = omega arith in
    let here : 0 + k ≡ k = omega arith in
    ap (λ (m : ℕ). map (call_to x) (buckets_from n 0 m x.op)) next
    ∙ ap (map (call_to x)) (buckets-more n 0 k x.op e ∙ ap (λ (b : ℕ). buckets_from n 0 k x.op ++ b ∷ []) here)
    ∙ map-append (call_to x) (buckets_from n 0 k x.op) (k ∷ [])
