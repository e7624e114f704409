-- An operation that names a key is one call, of the key's bucket.
use Rattle.std.proofs.Common.{◌≡◌, ℕ, ◌∙◌, List, [], ◌∷◌, length, sym, ap, subst, arith}
use Rattle.std.proofs.lemmas.Result.{on_ok_weaker}
use Rattle.nb_base.specs.Buckets.{bucket_of}
use Rattle.nb_base.proofs.BucketCounts.{bucket_count_some}
use Rattle.neigh_run.specs.Inline.{entered_line}
use Rattle.plain_table.specs.Calls.{Call, call_to}
use Rattle.plain_table.specs.Calling.{CallsOne, CallsEach}
use Rattle.plain_table.proofs.CallsOf.{bucket_there, calls-key}
use Rattle.plain_table.proofs.EachCall.{calls-one}
use Rattle.plain_table.proofs.table.PlainTable.enter.Goals as goal

pub call-requires-clause-room : goal.call-requires-clause-room
call-requires-clause-room c =
    let n = length c.args.self.now in
    let is : c.bucket_of.result ≡ bucket_of n c.in-Some.key = c.bucket_of.ensures ∙ ap (λ (m : ℕ). bucket_of m c.in-Some.key) c.buckets.ensures in
    let there = bucket_there n c.in-Some.key (bucket_count_some n c.requires.buckets) in
    c.requires.room c.bucket_of.result (omega (arith, is, there))

pub returns-in-Some-clause-called : goal.returns-in-Some-clause-called
returns-in-Some-clause-called c =
    let old = c.args.self.now in
    let n = length c.args.self.now in
    let x = entered_line c.args.line.now in
    let is : c.bucket_of.result ≡ bucket_of n c.in-Some.key = c.bucket_of.ensures ∙ ap (λ (m : ℕ). bucket_of m c.in-Some.key) c.buckets.ensures in
    on_ok_weaker c.call.result
    (λ (one : CallsOne (call_to x c.bucket_of.result) old c.call.new.self c.args.answers.now c.call.new.answers).
    subst (λ (calls : List Call). CallsEach calls old c.call.new.self c.args.answers.now c.call.new.answers)
    (ap (λ (b : ℕ). call_to x b ∷ []) is ∙ sym (calls-key n x c.in-Some.key (sym c.key_of.ensures ∙ c.in-Some.is) (bucket_count_some n c.requires.buckets)))
    (calls-one (call_to x c.bucket_of.result) old c.call.new.self c.args.answers.now c.call.new.answers one)) c.call.ensures.called
