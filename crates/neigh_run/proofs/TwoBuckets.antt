-- A worked run of two buckets, in which a line saw what another bucket holds; and two buckets that each count their own entries alone, which no order of changes fits.
use Rattle.std.proofs.Common.{◌≡◌, ⊎_elim, ℕ, zero, suc, ◌+◌, ◌*◌, ◌<◌, ◌≤◌, List, [], ◌∷◌, map, take, refl, sym, ap, subst, arith}
use Rattle.std.specs.Prelude.{Some, None}
use Rattle.std.specs.List.{AllZip}
use Rattle.std.proofs.lemmas.Bool.{cases_lt}
use lib.ListN.{get_elem?}
use mathlib.Core.Option.{some}
use Rattle.nb_base.specs.declared.key.Key.{Key}
use Rattle.nb_base.specs.declared.key.Key.TheVariants.{V4}
use Rattle.nb_base.specs.declared.nud.Nud.TheVariants as nud
use Rattle.nb_base.specs.declared.op.Op.TheVariants as op
use Rattle.nb_base.specs.declared.line.Line.{Line}
use Rattle.nb_base.specs.declared.line.Reply.TheVariants as reply
use Rattle.nb_base.specs.declared.host_line.Mark.{Mark}
use Rattle.nb_base.specs.declared.host_line.HostLine.TheVariants as host_line
use Rattle.nb_base.specs.declared.plan.Mode.TheVariants as mode
use Rattle.nb_base.specs.declared.plan.Plan.{Plan}
use Rattle.nb_base.specs.declared.plan.ControlItem.{ControlItem}
use Rattle.nb_base.specs.declared.plan.ControlItem.TheVariants as control
use Rattle.nb_base.specs.Params.{default_params}
use Rattle.nb_journal.specs.Keys.{is_key}
use Rattle.nb_journal.specs.Fold.{change, state_of, known_keys, present_count, reply_of}
use Rattle.nb_journal.specs.Lawful.{IsLawful, last_pass, making_order}
use Rattle.nb_journal.proofs.Passes.{goes_on}
use Rattle.change_order.specs.Orders.{JournalCounts, how_often, present_behind, HasPlaces, IsSeenAt, HaveOneOrder}
use Rattle.journal_counts.specs.Counts.{counts_of}
use Rattle.neigh_run.specs.declared.run.Run.{Run}
use Rattle.neigh_run.specs.Plan.{RisesFrom}
use Rattle.neigh_run.specs.Windows.{windows, length_at}
use Rattle.neigh_run.specs.Threaded.{IsThreadedRun}
use Rattle.neigh_run.proofs.ThreadedRows.{mac_a, host}
use Rattle.nb_base.proofs.Defaults.{default_in_range}
use Rattle.neigh_run.proofs.ThreadedRuns.{nil_lawful}

-- ---- what both have in common

-- 10.0.0.N, whose bucket is the last bit of N
abbrev ten : ℕ → Key
ten n = V4 (167772160 + n)

abbrev adds : ℕ → ControlItem
adds n = control.Neigh 0 (op.Add (ten n) (Some mac_a) nud.Permanent)

abbrev two_buckets : List ControlItem → Plan
two_buckets items = record { host = host; params = default_params; buckets = 2; window = 50; control = items; senders = [] }

-- the line of the item of this number
abbrev added_by : ℕ → ℕ → ℕ → Line
added_by item n seen = record { at = 0; id = Some (record { 0 = 32 * item }); op = op.Add (ten n) (Some mac_a) nud.Permanent; seen = Some seen; full = None }

-- ---- an entry in each bucket, of which the second saw the first

abbrev one_each : Plan
one_each = two_buckets (adds 1 ∷ adds 4 ∷ [])

abbrev even_bucket : List Line
even_bucket = added_by 2 4 1 ∷ []

abbrev odd_bucket : List Line
odd_bucket = added_by 1 1 0 ∷ []

abbrev marks : List Mark
marks = record { start = Some 0; lengths = 0 ∷ 0 ∷ [] } ∷ record { start = None; lengths = 1 ∷ 1 ∷ [] } ∷ []

abbrev run : Run
run = record {
  mode = mode.Threads;
  plan = one_each;
  journals = even_bucket ∷ odd_bucket ∷ [];
  host_lines =
      host_line.Neigh 1 0 (record { bucket = 1; place = 0; reply = reply.Done } ∷ [])
      ∷ host_line.Neigh 2 0 (record { bucket = 0; place = 0; reply = reply.Done } ∷ [])
      ∷ [];
  logs = [];
  marks = marks;
}

even_lawful : IsLawful default_params even_bucket 0
unfolding present_count known_keys state_of change is_key last_pass making_order
even_lawful = goes_on default_params [] (added_by 2 4 1) default_in_range nil_lawful refl refl (record { there = refl; enough = omega arith }) refl

odd_lawful : IsLawful default_params odd_bucket 0
unfolding present_count known_keys state_of change is_key last_pass making_order
odd_lawful = goes_on default_params [] (added_by 1 1 0) default_in_range nil_lawful refl refl (record { there = refl; enough = omega arith }) refl

-- a bucket whose one change is behind a look
abbrev looked_first : ℕ → JournalCounts
looked_first seen = record { behind = 1 ∷ []; looked = record { before = 0; seen = seen } ∷ [] }

-- the odd bucket's change comes first
ordered : (a b : JournalCounts) → a ≡ looked_first 1 → b ≡ looked_first 0 → HaveOneOrder (a ∷ b ∷ [])
ordered a b even odd = subst (λ (x : JournalCounts). HaveOneOrder (x ∷ b ∷ [])) (sym even) (subst (λ (x : JournalCounts). HaveOneOrder (looked_first 1 ∷ x ∷ [])) (sym odd) two) where
  some_is : (x y : JournalCounts) → some x ≡ some y → x ≡ y
  some_is x y e = cc

  all : List JournalCounts
  all = looked_first 1 ∷ looked_first 0 ∷ []

  by_bucket : (k : ℕ) (j : JournalCounts) → get_elem? all k ≡ some j → HasPlaces all (1 ∷ 0 ∷ []) k j
  by_bucket zero j e = subst (HasPlaces all (1 ∷ 0 ∷ []) 0) (some_is (looked_first 1) j e) (record { often = refl; lengths = 1 ∷ []; rising = (omega arith, tt); lines = (record { within = omega arith; mine = refl; sum = refl }, tt) })
  by_bucket (suc zero) j e = subst (HasPlaces all (1 ∷ 0 ∷ []) 1) (some_is (looked_first 0) j e) (record { often = refl; lengths = 0 ∷ []; rising = (omega arith, tt); lines = (record { within = omega arith; mine = refl; sum = refl }, tt) })
  by_bucket (suc (suc k)) j e = cc

  two : HaveOneOrder all
  two = record { order = 1 ∷ 0 ∷ []; buckets = (omega arith, (omega arith, tt)); each = by_bucket }

each_bucket_sees_the_other : IsThreadedRun one_each run
unfolding windows state_of change is_key known_keys reply_of present_count
each_bucket_sees_the_other = record {
  mode = refl;
  plan = refl;
  buckets = refl;
  logs = tt;
  marks = record { starts_are = refl; buckets = (refl, (refl, tt)); rises = rises; last = refl };
  lawful = (record { marked = (nil_lawful, (tt, tt)); whole = even_lawful }, (record { marked = (nil_lawful, (tt, tt)); whole = odd_lawful }, tt));
  lines = (
    record { control = (record { id = refl; op = refl; moment = refl; behind = omega arith; before = omega arith }, tt); senders = tt; only = (omega arith, tt) },
    (record { control = (record { id = refl; op = refl; moment = refl; behind = omega arith; before = omega arith }, tt); senders = tt; only = (omega arith, tt) }, tt),
  );
  places = tt;
  causes = tt;
  bounds = tt;
  host_lines = refl;
  order = ordered (counts_of default_params even_bucket) (counts_of default_params odd_bucket) refl refl;
  ends = (omega arith, (omega arith, tt));
} where
  rises : (b : ℕ) → RisesFrom 0 (map (length_at b) marks)
  rises zero = (omega arith, (omega arith, tt))
  rises (suc zero) = (omega arith, (omega arith, tt))
  rises (suc (suc b)) = (omega arith, (omega arith, tt))

-- ---- two entries in each bucket, which each bucket saw alone

-- a longer beginning of an order has no fewer of a bucket
more_often : (b m n : ℕ) (order : List ℕ) → m ≤ n → how_often b (take m order) ≤ how_often b (take n order)
more_often b zero n order le = omega arith
more_often b (suc m) zero order le = absurd (omega (arith, le))
more_often b (suc m) (suc n) [] le = omega arith
more_often b (suc m) (suc n) (o ∷ os) le = let rest = more_often b m n os (omega (arith, le)) in omega (arith, rest)

-- two changes, each behind a look that saw what the bucket itself holds
abbrev alone : JournalCounts
alone = record { behind = 1 ∷ 2 ∷ []; looked = record { before = 0; seen = 0 } ∷ record { before = 1; seen = 1 } ∷ [] }

-- nothing is present only behind no change
none_behind : (k : ℕ) → present_behind k (1 ∷ 2 ∷ []) ≡ 0 → k ≡ 0
none_behind zero e = refl
none_behind (suc zero) e = absurd (let f : 1 ≡ 0 = e in omega (arith, f))
none_behind (suc (suc zero)) e = absurd (let f : 2 ≡ 0 = e in omega (arith, f))
none_behind (suc (suc (suc k))) e = absurd (let f : 2 ≡ 0 = e in omega (arith, f))

-- the place of the second line of a bucket
second_place : (all : List JournalCounts) (order ns : List ℕ) (b : ℕ) → AllZip (IsSeenAt all order b) ns alone.looked → (n : ℕ) × IsSeenAt all order b n (record { before = 1; seen = 1 })
second_place all order [] b h = absurd h
second_place all order (m ∷ []) b h = absurd h.1
second_place all order (m ∷ n ∷ ns) b h = (n, h.1.0)

counted_alone : HaveOneOrder (alone ∷ alone ∷ []) → ⊥
counted_alone h = ⊎_elim
    (λ (lt : even.0 < odd.0). let more = more_often 0 even.0 odd.0 h.order (omega (arith, lt)) in let one = even.1.mine in omega (arith, more, one, odd_none))
    (λ (le : odd.0 ≤ even.0). let more = more_often 1 odd.0 even.0 h.order le in let one = odd.1.mine in omega (arith, more, one, even_none))
    (cases_lt even.0 odd.0)
  where
    even : (n : ℕ) × IsSeenAt (alone ∷ alone ∷ []) h.order 0 n (record { before = 1; seen = 1 })
    even = let p = h.each 0 alone refl in second_place (alone ∷ alone ∷ []) h.order p.lengths 0 p.lines

    odd : (n : ℕ) × IsSeenAt (alone ∷ alone ∷ []) h.order 1 n (record { before = 1; seen = 1 })
    odd = let p = h.each 1 alone refl in second_place (alone ∷ alone ∷ []) h.order p.lengths 1 p.lines

    even_none : how_often 1 (take even.0 h.order) ≡ 0
    even_none =
        let sum : 1 ≡ present_behind (how_often 0 (take even.0 h.order)) (1 ∷ 2 ∷ []) + (present_behind (how_often 1 (take even.0 h.order)) (1 ∷ 2 ∷ []) + 0) = even.1.sum in
        let own : present_behind (how_often 0 (take even.0 h.order)) (1 ∷ 2 ∷ []) ≡ 1 = ap (λ (k : ℕ). present_behind k (1 ∷ 2 ∷ [])) even.1.mine in
        none_behind (how_often 1 (take even.0 h.order)) (omega (arith, sum, own))

    odd_none : how_often 0 (take odd.0 h.order) ≡ 0
    odd_none =
        let sum : 1 ≡ present_behind (how_often 0 (take odd.0 h.order)) (1 ∷ 2 ∷ []) + (present_behind (how_often 1 (take odd.0 h.order)) (1 ∷ 2 ∷ []) + 0) = odd.1.sum in
        let own : present_behind (how_often 1 (take odd.0 h.order)) (1 ∷ 2 ∷ []) ≡ 1 = ap (λ (k : ℕ). present_behind k (1 ∷ 2 ∷ [])) odd.1.mine in
        none_behind (how_often 0 (take odd.0 h.order)) (omega (arith, sum, own))

abbrev two_each : Plan
two_each = two_buckets (adds 4 ∷ adds 6 ∷ adds 1 ∷ adds 3 ∷ [])

abbrev alone_run : Run
alone_run = record run {
  plan = two_each;
  journals = (added_by 1 4 0 ∷ added_by 2 6 1 ∷ []) ∷ (added_by 3 1 0 ∷ added_by 4 3 1 ∷ []) ∷ [];
  marks = record { start = Some 0; lengths = 0 ∷ 0 ∷ [] } ∷ record { start = None; lengths = 2 ∷ 2 ∷ [] } ∷ [];
}

each_counted_alone : IsThreadedRun two_each alone_run → ⊥
unfolding present_count known_keys state_of change is_key
each_counted_alone h = counted_alone h.order
