-- Journals that go on by time, one after another.
use Rattle.std.proofs.Common.{◌≡◌, ℕ, ◌≤◌, List, [], ◌∷◌, ◌++◌, refl, sym, ◌∙◌, ap, subst, arith, append_assoc, append-nil, Result, Ok, Err}
use Rattle.std.specs.Prelude.{OnOk, OnErr}
use Rattle.std.proofs.lemmas.List.Folds.{list_all-append}
use Rattle.nb_base.specs.declared.params.Params.{Params}
use Rattle.nb_base.specs.declared.line.Line.{Line}
use Rattle.nb_journal.specs.Lawful.{last_moment}
use Rattle.nb_bucket.specs.declared.fail.BucketFail.{BucketFail}
use Rattle.nb_bucket.specs.declared.fail.BucketFail.TheVariants.{JournalFull, Memory}
use Rattle.nb_bucket.specs.Bucket.{Journal, is_by_time, GoesOn, ComesNext, Timer, Sweep, HasCause, clock_behind, Refuses}
use Rattle.nb_bucket.specs.Going.{GoesOneOn, GoesAlong}

last_moment-append : (xs ys : List Line) (y : Line) → last_moment (xs ++ y ∷ ys) ≡ last_moment (y ∷ ys)
last_moment-append [] ys y = refl
last_moment-append (x ∷ []) ys y = refl
last_moment-append (x ∷ z ∷ zs) ys y = last_moment-append (z ∷ zs) ys y

behind_some : (clock : ℕ) (xs ys : List Line) (y : Line) → clock_behind clock (xs ++ y ∷ ys) ≡ last_moment (y ∷ ys)
behind_some clock [] ys y = refl
behind_some clock (x ∷ xs) ys y = last_moment-append (x ∷ xs) ys y

clock_behind-append : (clock : ℕ) (xs ys : List Line) → clock_behind clock (xs ++ ys) ≡ clock_behind (clock_behind clock xs) ys
clock_behind-append clock xs [] = ap (clock_behind clock) (append-nil xs)
clock_behind-append clock xs (y ∷ ys) = behind_some clock xs ys y

-- ---- going on

pub goes_on-lines : (old new : Journal) (g : GoesOn old new) → new.lines ≡ old.lines ++ g.more
goes_on-lines old new g = ap (λ (j : Journal). j.lines) g.new_is

pub goes_on-params : (old new : Journal) → GoesOn old new → new.params ≡ old.params
goes_on-params old new g = ap (λ (j : Journal). j.params) g.new_is

-- the clock may be set
pub goes_on-clock : (old new : Journal) (clock : ℕ) → GoesOn old new → GoesOn old (record new { clock = clock })
goes_on-clock old new clock g = record { more = g.more; by_time = g.by_time; new_is = ap (λ (j : Journal). (let set : Journal = record j { clock = clock } in set)) g.new_is }

-- ---- going along

pub along-same : (journal : Journal) (until : ℕ) → GoesAlong journal journal until
along-same journal until = record {
  goes_on = record { more = []; by_time = refl; new_is = ap (λ (xs : List Line). (let same : Journal = record journal { lines = xs } in same)) (sym (append-nil journal.lines)) };
  clock = refl;
  within = omega arith;
}

pub along-then : (old mid new : Journal) (until to : ℕ) → until ≤ to → GoesAlong old mid until → GoesAlong mid new to → GoesAlong old new to
along-then old mid new until to le a b = record {
  goes_on = record {
    more = a.goes_on.more ++ b.goes_on.more;
    by_time = list_all-append (λ (line : Line). is_by_time line.op) a.goes_on.more b.goes_on.more ∙ rw (a.goes_on.by_time, b.goes_on.by_time) refl;
    new_is = b.goes_on.new_is
        ∙ ap (λ (j : Journal). (let on : Journal = record j { lines = j.lines ++ b.goes_on.more; clock = new.clock } in on)) a.goes_on.new_is
        ∙ ap (λ (xs : List Line). (let on : Journal = record old { lines = xs; clock = new.clock } in on)) (append_assoc old.lines a.goes_on.more b.goes_on.more);
  };
  clock = b.clock ∙ ap (λ (c : ℕ). clock_behind c b.goes_on.more) a.clock ∙ sym (clock_behind-append old.clock a.goes_on.more b.goes_on.more);
  within = let x = a.within in let y = b.within in omega (arith, x, y, le);
}

pub along-further : (old new : Journal) (until to : ℕ) → until ≤ to → GoesAlong old new until → GoesAlong old new to
along-further old new until to le a = along-then old new new until to le a (along-same new to)

pub along-one : (old new : Journal) (until : ℕ) → GoesOneOn old new until → GoesAlong old new until
along-one old new until one = subst (λ (j : Journal). GoesAlong old j until) (sym one.grown) (record {
  goes_on = record { more = one.line ∷ []; by_time = rw one.by_time refl; new_is = refl };
  clock = refl;
  within = let due = one.due in omega (arith, due);
})

pub along-one_more : (old mid new : Journal) (until : ℕ) → GoesAlong old mid until → GoesOneOn mid new until → GoesAlong old new until
along-one_more old mid new until a one = along-then old mid new until until (omega arith) a (along-one mid new until one)

-- a call that writes one line more or leaves the journal as before
pub along-either : {A : Type 0} (result : Result A BucketFail) (old mid new : Journal) (until : ℕ) → GoesAlong old mid until → OnOk result (GoesOneOn mid new until) → OnErr result (new ≡ mid) → GoesAlong old new until
along-either (Ok x) old mid new until a one same = along-one_more old mid new until a one
along-either (Err fail) old mid new until a one same = subst (λ (j : Journal). GoesAlong old j until) (sym same) a

pub on_ok-then : {A : Type 0} {P Q : Type 0} (result : Result A BucketFail) → (P → Q) → OnOk result P → OnOk result Q
on_ok-then (Ok x) f h = f h
on_ok-then (Err fail) f h = tt

-- ---- causes

comes-further : (p : Params) (lines next : List Line) (until to : ℕ) → until ≤ to → ComesNext p lines until next → ComesNext p lines to next
comes-further p lines next until to le (Timer key at due is broken) = Timer key at (omega (arith, due, le)) is broken
comes-further p lines next until to le (Sweep u seen due is lawful) = Sweep u seen (omega (arith, due, le)) is lawful

-- what comes next up to a moment comes next up to a later one
pub cause-further : (journal : Journal) (until to : ℕ) (fail : BucketFail) → until ≤ to → HasCause journal (ComesNext journal.params journal.lines until) fail → HasCause journal (ComesNext journal.params journal.lines to) fail
cause-further journal until to (JournalFull has needs) le cause = record {
  has_is = cause.has_is;
  next = cause.next;
  comes = comes-further journal.params journal.lines cause.next until to le cause.comes;
  needs_is = cause.needs_is;
  too_many = cause.too_many;
}
cause-further journal until to Memory le cause = tt

-- ---- at the end of a call

pub along-refuses : (old new : Journal) (to : ℕ) (fail : BucketFail) → old.clock ≤ to → GoesAlong old new to → HasCause new (ComesNext new.params new.lines to) fail → Refuses old new to (ComesNext old.params new.lines to) fail
along-refuses old new to fail le a cause = record {
  goes_on = a.goes_on;
  clock = a.clock;
  within = let within = a.within in omega (arith, within, le);
  cause = subst (λ (p : Params). HasCause new (ComesNext p new.lines to) fail) (goes_on-params old new a.goes_on) cause;
}
