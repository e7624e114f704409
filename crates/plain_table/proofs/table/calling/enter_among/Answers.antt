-- What the bucket did, beside what the others hold; it isn't full.
use Rattle.std.proofs.Common.{ℕ, ◌-◌, Some, max, refl, ap, ◌∙◌}
use Rattle.nb_census.specs.Shown.{PlainShown}
use Rattle.plain_table.specs.Table.{present_in}
use Rattle.plain_table.proofs.OneBucket.{enters_among}
use Rattle.plain_table.proofs.Room.{never_full}
use Rattle.plain_table.proofs.table.calling.enter_among.Goals as goal

pub unreachable-requires : goal.unreachable-requires
unreachable-requires c =
    never_full c.args.line.now c.args.bucket.now c.enter.new.self (max c.args.line.now.at c.args.bucket.now.clock) c.in-Err-JournalFull.field-0-0 c.in-Err-JournalFull.field-0-1 c.id_of.result c.in-Err-JournalFull.field-0 _ refl
    c.in-Err-JournalFull.field-0-is c.requires.room c.in-Err-JournalFull.ensures.refused

pub returns-in-Ok : goal.returns-in-Ok
returns-in-Ok c =
    enters_among (c.args.total - present_in c.args.bucket.now) c.args.line.now c.args.bucket.now c.enter.new.self c.id_of.result c.in-Ok.answered.0 c.in-Ok.answered.1 _ _ c.id_of.ensures c.in-Ok.ensures.entered c.in-Ok.ensures.counted
    (ap Some (ap (λ (s : PlainShown). s.others) c.new-census.ensures ∙ ap (λ (n : ℕ). c.args.total - n) c.present.ensures.count))
