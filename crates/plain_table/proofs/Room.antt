-- A bucket with room for an operation is never full: what comes next stays below the line bound.
use Rattle.std.proofs.Common.{◌≡◌, ℕ, ◌<◌, ◌≤◌, Bool, true, false, if◌then◌else◌, max, List, [], ◌∷◌, ◌++◌, length, Option, ◌∙◌, ap, subst, arith, append-nil}
use Rattle.std.proofs.lemmas.List.{length-append}
use Rattle.nb_base.specs.declared.time.OpId.{OpId}
use Rattle.nb_base.specs.declared.op.Op.{Op}
use Rattle.nb_base.specs.declared.line.Line.{Line}
use Rattle.nb_base.specs.declared.params.Params.{Params}
use Rattle.nb_base.specs.Params.{InRange}
use Rattle.nb_journal.specs.Keys.{is_own}
use Rattle.nb_journal.specs.Lawful.{collects, sweep_line}
use Rattle.nb_journal.specs.Accounts.{timer_line, line_bound, own_lines}
use Rattle.nb_journal.proofs.Bound.{lawful_in_bound, broken_off_in_bound}
use Rattle.nb_bucket.specs.Bucket.{Journal, GoesOn, operation_line, full_line, brought, ComesNext, Timer, Sweep, EntersNext, ByTime, Operation, Refuses}
use Rattle.nb_bucket.specs.declared.fail.BucketFail.{BucketFail}
use Rattle.nb_bucket.specs.declared.fail.BucketFail.TheVariants.{JournalFull}
use Rattle.plain_table.specs.Calling.{HasRoom}
use Rattle.plain_table.proofs.Entering.{own-append, own_by_time, own_pass}

-- the operations so far, with what comes next
own_next : (old new : Journal) (next : List Line) (operations : ℕ) → GoesOn old new → length (own_lines next) ≤ 1 → length (own_lines old.lines) < operations → length (own_lines (new.lines ++ next)) ≤ operations
own_next old new next operations on few lt =
    let lines = ap (λ (j : Journal). j.lines) on.new_is in
    let own =
    ap (λ (xs : List Line). length (own_lines (xs ++ next))) lines
    ∙ ap (λ (xs : List Line). length xs) (
    own-append (old.lines ++ on.more) next
    ∙ ap (λ (xs : List Line). xs ++ own_lines next) (own-append old.lines on.more ∙ ap (λ (xs : List Line). own_lines old.lines ++ xs) (own_by_time on.more on.by_time) ∙ append-nil (own_lines old.lines))
    ) ∙ length-append (own_lines old.lines) (own_lines next) in
    omega (arith, few, lt, own)

one_own : (w : Line) → length (own_lines (w ∷ [])) ≤ 1
one_own w = by_test (is_own w.op) where
  by_test : (b : Bool) → length (if b then w ∷ [] else []) ≤ 1
  by_test true = omega arith
  by_test false = omega arith

-- what comes next stays below the line bound
comes_in_bound : (p : Params) (lines next : List Line) (to moment operations : ℕ) → InRange p → ComesNext p lines to next → to ≤ moment → (length (own_lines next) ≤ 1 → length (own_lines (lines ++ next)) ≤ operations)
    → length (lines ++ next) < line_bound p operations moment
comes_in_bound p lines next to moment operations r (Timer key at le due broken) upto few =
    broken_off_in_bound p (lines ++ timer_line at key ∷ []) at moment operations r broken (omega (arith, le, upto)) (few (one_own (timer_line at key)))
comes_in_bound p lines next to moment operations r (Sweep u seen le is lawful) upto few =
    lawful_in_bound p (lines ++ sweep_line u seen ∷ []) u moment operations r lawful (omega (arith, le, upto)) (few (one_own (sweep_line u seen)))

enters_in_bound : (p : Params) (lines next : List Line) (to moment operations : ℕ) (id : OpId) (o : Op) (others : Option ℕ) → InRange p → EntersNext p lines to id o others next → to ≤ moment
    → (length (own_lines next) ≤ 1 → length (own_lines (lines ++ next)) ≤ operations) → length (lines ++ next) < line_bound p operations moment
enters_in_bound p lines next to moment operations id o others r (ByTime by comes) upto few = comes_in_bound p lines next to moment operations r comes upto few
enters_in_bound p lines next to moment operations id o others r (Operation seen total before lawful) upto few =
    lawful_in_bound p (lines ++ brought p lines bare) to moment operations r lawful upto (few own) where
      bare : Line
      bare = operation_line to id o seen

      w : Line
      w = full_line p lines bare

      own : length (own_lines (brought p lines bare)) ≤ 1
      own =
          let one = one_own w in
          let same = ap (λ (xs : List Line). length xs) (own-append (collects p lines bare) (w ∷ []) ∙ ap (λ (xs : List Line). xs ++ own_lines (w ∷ [])) (own_pass p lines bare)) in
          omega (arith, one, same)

-- a bucket without room for an operation would have as many lines as the line bound allows
never_full_at : (line : Line) (old new : Journal) (to has needs : ℕ) (id : OpId) (others : Option ℕ) → to ≡ max line.at old.clock → HasRoom line old → Refuses old new to (EntersNext old.params new.lines to id line.op others) (JournalFull has needs) → ⊥
never_full_at line old new to has needs id others to_is room e =
    let cause = e.cause in
    let later = room.later in
    let upto = room.upto in
    let within : to ≤ room.moment = omega (arith, to_is, later, upto) in
    let bound = enters_in_bound old.params new.lines cause.next to room.moment room.operations id line.op others room.params cause.comes within
    (λ one. own_next old new cause.next room.operations e.goes_on one room.fewer) in
    let all = cause.too_many in
    let has_is = cause.has_is in
    let needs_is = cause.needs_is in
    let limit = ap (λ (j : Journal). j.limit) e.goes_on.new_is ∙ room.limit in
    let both = length-append new.lines cause.next in
    let below = room.bound in
    omega (arith, bound, all, has_is, needs_is, limit, both, below)

pub never_full : (line : Line) (old new : Journal) (to has needs : ℕ) (id : OpId) (fail : BucketFail) (others : Option ℕ) → to ≡ max line.at old.clock → fail ≡ JournalFull has needs → HasRoom line old
    → Refuses old new to (EntersNext old.params new.lines to id line.op others) fail → ⊥
never_full line old new to has needs id fail others to_is full room refused =
    never_full_at line old new to has needs id others to_is room (subst (λ (f : BucketFail). Refuses old new to (EntersNext old.params new.lines to id line.op others) f) full refused)
