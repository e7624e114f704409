-- The bucket comes in the place of the one that it was, and the number of all present entries follows it.
use Rattle.std.proofs.Common.{◌≡◌, ◌++◌, [], ◌∷◌, arith}
use Rattle.std.proofs.lemmas.Result.{on_ok_weaker}
use Rattle.plain_table.proofs.Shares.{most_in_all}
use Rattle.plain_table.proofs.OneBucket.{calls_found}
use Rattle.plain_table.proofs.table.PlainTable.call.Goals as goal

pub enter_among-entered-requires-clause-others : goal.enter_among-entered-requires-clause-others
enter_among-entered-requires-clause-others c = omega (arith, most_in_all c.self.inside.buckets.items c.self.invariant.shares c.self.invariant.few, c.self.invariant.present)

pub overflow_add-self : goal.overflow_add-self
overflow_add-self c = omega (arith, most_in_all c.self.inside.buckets.items c.self.invariant.shares c.self.invariant.few, c.self.invariant.present, c.present.ensures.few)

pub returns-clause-called : goal.returns-clause-called
returns-clause-called c =
    on_ok_weaker c.push.result
    (λ (told : c.push.new.self ≡ c.args.answers.now ++ record { id = c.id_of.result; at = c.args.line.now.at; placed = record { bucket = c.args.number; place = c.in_ok-place.place; reply = c.in_ok-place.reply } } ∷ []).
    calls_found c.self.inside.buckets.items c.args.self.now c.args.number c.self.inside.present c.args.line.now c.index_mut-bucket.result.now c.enter_among-entered.new.bucket c.id_of.result c.in_ok-place.place c.in_ok-place.reply c.args.answers.now
    c.push.new.self c.self.view_is c.requires.number c.index_mut-bucket.ensures.value c.self.invariant.present c.requires.task c.requires.room c.in_ok-place.ensures c.id_of.ensures told) c.push.ensures.ok
