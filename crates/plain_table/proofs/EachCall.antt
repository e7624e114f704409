-- Calls one after the other: what each keeps, all of them keep, and the calls of two lists are those of the lists joined.
use Rattle.std.proofs.Common.{◌≡◌, ℕ, ◌<◌, List, [], ◌∷◌, ◌++◌, length, refl, sym, ◌∙◌, ap, subst, append_assoc, append-nil}
use Rattle.std.proofs.lemmas.List.{length-set, get_or-set_other, get_or-replicate, map-append}
use Rattle.nb_base.specs.declared.params.Params.{Params}
use Rattle.nb_base.specs.Params.{InRange}
use Rattle.nb_journal.proofs.Appends.{lawful-nil}
use Rattle.nb_bucket.specs.Bucket.{Journal}
use Rattle.neigh_run.specs.Seen.{called}
use Rattle.plain_table.specs.declared.answer.Answer.{Answer}
use Rattle.plain_table.specs.Calls.{Call, buckets_called}
use Rattle.plain_table.specs.Table.{journals_of, bucket_at, no_journal, new_journal, params_of, IsNew, IsCalled, AreCalled}
use Rattle.plain_table.specs.Calling.{CallsOne, CallsEach}
use Rattle.plain_table.proofs.OneCall.{one_call}

-- ---- joined

pub calls-join : (xs ys : List Call) (old between new : List Journal) (answers so_far more : List Answer) → CallsEach xs old between answers so_far → CallsEach ys between new so_far more → CallsEach (xs ++ ys) old new answers more
calls-join [] ys old between new answers so_far more first next = subst (λ (told : List Answer). CallsEach ys old new told more) first.1 (subst (λ (t : List Journal). CallsEach ys t new so_far more) first.0 next)
calls-join (x ∷ xs) ys old between new answers so_far more first next = record {
  between = first.between;
  so_far = first.so_far;
  one = first.one;
  behind = calls-join xs ys first.between between new first.so_far so_far more first.behind next;
}

pub calls-one : (x : Call) (old new : List Journal) (answers more : List Answer) → CallsOne x old new answers more → CallsEach (x ∷ []) old new answers more
calls-one x old new answers more h = record { between = new; so_far = more; one = h; behind = (refl, refl) }

-- ---- what stays

pub long-one : (x : Call) (old new : List Journal) (answers more : List Answer) → CallsOne x old new answers more → length new ≡ length old
long-one x old new answers more h = ap (λ (t : List Journal). length t) h.new_is ∙ length-set old x.bucket h.journal

pub long-each : (xs : List Call) (old new : List Journal) (answers more : List Answer) → CallsEach xs old new answers more → length new ≡ length old
long-each [] old new answers more h = ap (λ (t : List Journal). length t) h.0
long-each (x ∷ xs) old new answers more h = long-each xs h.between new h.so_far more h.behind ∙ long-one x old h.between answers h.so_far h.one

-- a call changes its bucket alone
pub other-one : (x : Call) (old new : List Journal) (answers more : List Answer) (b : ℕ) → CallsOne x old new answers more → (b ≡ x.bucket → ⊥) → bucket_at new b ≡ bucket_at old b
other-one x old new answers more b h apart = ap (λ (t : List Journal). bucket_at t b) h.new_is ∙ get_or-set_other old x.bucket b h.journal no_journal apart

-- ---- all calls

pub each_call : (p : Params) (order rest : List ℕ) (done xs : List Call) (old new : List Journal) (answers more : List Answer) → order ≡ buckets_called (done ++ xs) ++ rest
    → CallsEach xs old new answers more → AreCalled p order done answers old → AreCalled p order (done ++ xs) more new
each_call p order rest done [] old new answers more is h called =
    subst (λ (cs : List Call). AreCalled p order cs more new) (sym (append-nil done))
    (subst (λ (told : List Answer). AreCalled p order done told new) (sym h.1) (subst (λ (t : List Journal). AreCalled p order done answers t) (sym h.0) called))
each_call p order rest done (x ∷ xs) old new answers more is h called =
    let joined = append_assoc done (x ∷ []) xs in
    subst (λ (cs : List Call). AreCalled p order cs more new) joined
    (each_call p order rest (done ++ x ∷ []) xs h.between new h.so_far more (is ∙ ap (λ (cs : List Call). buckets_called cs ++ rest) (sym joined)) h.behind
    (one_call p order (buckets_called xs ++ rest) done answers h.so_far old h.between x (is ∙ behind) h.one called)) where
      behind : buckets_called (done ++ x ∷ xs) ++ rest ≡ buckets_called done ++ x.bucket ∷ (buckets_called xs ++ rest)
      behind = ap (λ (bs : List ℕ). bs ++ rest) (map-append (λ (call : Call). call.bucket) done (x ∷ xs)) ∙ append_assoc (buckets_called done) (x.bucket ∷ buckets_called xs) rest

-- ---- a table without a line

pub new_at : (table : List Journal) (b : ℕ) → IsNew table → b < length table → bucket_at table b ≡ new_journal (params_of table)
new_at table b new lt = ap (λ (t : List Journal). bucket_at t b) new ∙ get_or-replicate (length table) b (new_journal (params_of table)) no_journal lt

called-none : (order : List ℕ) (table : List Journal) → InRange (params_of table) → IsNew table → AreCalled (params_of table) order [] [] table
called-none order table r new = record {
  each = λ b lt. subst (IsCalled (params_of table) order [] [] (journals_of table) b) (sym (new_at table b new lt))
      (record { params = refl; limit = refl; clock = refl; lawful = lawful-nil (params_of table) r; ends = refl; entered = refl; saw = tt; answered = refl });
  aligned = refl;
  ids = refl;
}

-- all calls of a new table
pub all_called : (calls : List Call) (old new : List Journal) (answers : List Answer) → InRange (params_of old) → IsNew old → CallsEach calls old new [] answers → AreCalled (params_of old) (buckets_called calls) calls answers new
all_called calls old new answers r fresh h =
    each_call (params_of old) (buckets_called calls) [] [] calls old new [] answers (sym (append-nil (buckets_called calls))) h (called-none (buckets_called calls) old r fresh)
