-- What an operation's call answers, from the way to its moment and its lines at it.
use Rattle.std.proofs.Common.{◌≡◌, ℕ, ◌≤◌, ◌++◌, max, Option, Result, Ok, Err, sym, ◌∙◌, ap, subst, arith}
use Rattle.std.specs.Prelude.{IfErr, OnErr}
use Rattle.nb_base.specs.declared.time.OpId.{OpId}
use Rattle.nb_base.specs.declared.params.Params.{Params}
use Rattle.nb_base.specs.declared.op.Op.{Op}
use Rattle.nb_base.specs.declared.line.Reply.{Reply}
use Rattle.nb_journal.specs.Lawful.{IsLawful}
use Rattle.nb_bucket.specs.declared.fail.BucketFail.{BucketFail}
use Rattle.nb_bucket.specs.declared.fail.BucketFail.TheVariants.{JournalFull, Memory}
use Rattle.nb_bucket.specs.Bucket.{Journal, ComesNext, EntersNext, ByTime, HasCause, Refuses, Enters, operation_line, brought, IsReplyTo}
use Rattle.nb_bucket.specs.Going.{GoesAlong}
use Rattle.nb_bucket.specs.Entering.{IsEntered}
use Rattle.nb_bucket.proofs.Along.{goes_on-clock, goes_on-params}

-- what comes next by time comes next on an operation's way
cause-by_time : (journal : Journal) (p : Params) (to : ℕ) (id : OpId) (o : Op) (others : Option ℕ) (fail : BucketFail) → HasCause journal (ComesNext p journal.lines to) fail → HasCause journal (EntersNext p journal.lines to id o others) fail
cause-by_time journal p to id o others (JournalFull has needs) cause = record { has_is = cause.has_is; next = cause.next; comes = ByTime cause.next cause.comes; needs_is = cause.needs_is; too_many = cause.too_many }
cause-by_time journal p to id o others Memory cause = tt

-- refused on the way to its moment
pub refuses-by_time : (old new : Journal) (to : ℕ) (id : OpId) (o : Op) (others : Option ℕ) (fail : BucketFail) → old.clock ≤ to → GoesAlong old new to → HasCause new (ComesNext new.params new.lines to) fail → Refuses old new to (EntersNext old.params new.lines to id o others) fail
refuses-by_time old new to id o others fail le a cause = record {
  goes_on = a.goes_on;
  clock = a.clock;
  within = let within = a.within in omega (arith, within, le);
  cause = cause-by_time new old.params to id o others fail (subst (λ (p : Params). HasCause new (ComesNext p new.lines to) fail) (goes_on-params old new a.goes_on) cause);
}

refuses-at : (old mid new : Journal) (to : ℕ) (id : OpId) (o : Op) (others : Option ℕ) (fail : BucketFail) → old.clock ≤ to → GoesAlong old mid to → new ≡ mid → HasCause mid (EntersNext mid.params mid.lines to id o others) fail → Refuses old new to (EntersNext old.params new.lines to id o others) fail
refuses-at old mid new to id o others fail le a same cause = subst (λ (j : Journal). Refuses old j to (EntersNext old.params j.lines to id o others) fail) (sym same) (record {
  goes_on = a.goes_on;
  clock = a.clock;
  within = let within = a.within in omega (arith, within, le);
  cause = subst (λ (p : Params). HasCause mid (EntersNext p mid.lines to id o others) fail) (goes_on-params old mid a.goes_on) cause;
})

-- refused at its moment
pub refused_at : {A : Type 0} (result : Result A BucketFail) (old mid new : Journal) (to : ℕ) (id : OpId) (o : Op) (others : Option ℕ) → old.clock ≤ to → GoesAlong old mid to → OnErr result (new ≡ mid) → IfErr result (HasCause mid (EntersNext mid.params mid.lines to id o others))
    → IfErr result (Refuses old new to (EntersNext old.params new.lines to id o others))
refused_at (Ok x) old mid new to id o others le a same cause = tt
refused_at (Err fail) old mid new to id o others le a same cause = refuses-at old mid new to id o others fail le a same cause

-- entered
pub enters : (old mid new : Journal) (at to : ℕ) (id : OpId) (o : Op) (place : ℕ) (reply : Reply) → to ≡ max at old.clock → GoesAlong old mid to → IsEntered mid new to id o place reply → Enters old new at id o place reply
enters old mid new at to id o place reply later a e =
    let params = goes_on-params old mid a.goes_on in
    let clock : to ≡ new.clock = sym (ap (λ (j : Journal). j.clock) e.new_is) in
    record {
      advanced = record mid { clock = to };
      goes_on = goes_on-clock old mid to a.goes_on;
      moment = later;
      lawful_before = subst (λ (p : Params). IsLawful p mid.lines to) params e.lawful_before;
      seen = e.seen;
      new_is = e.new_is ∙ ap (λ (p : Params). (let made : Journal = record mid { lines = mid.lines ++ brought p mid.lines (operation_line to id o e.seen); clock = to } in made)) params;
      lawful = subst (λ (c : ℕ). IsLawful old.params new.lines c) clock (subst (λ (p : Params). IsLawful p new.lines to) params e.lawful);
      place_is = e.place_is;
      reply_is = subst (λ (p : Params). IsReplyTo p mid.lines (operation_line to id o e.seen) reply) params e.reply_is;
    }
