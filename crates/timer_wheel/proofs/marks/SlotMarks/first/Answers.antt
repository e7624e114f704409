use Rattle.std.proofs.Common.{rules, ◌≡◌, ◌<◌, length, arith}
use Rattle.timer_wheel.proofs.Marking.{word_at, first_mark}
use Rattle.timer_wheel.proofs.marks.SlotMarks.first.Goals as goal

pub returns-then-word-ne0 : goal.returns-then-word-ne0
returns-then-word-ne0 c =
    let same : c.self.inside.words.items ≡ c.args.self.now = search rules in
    let long : length c.args.self.now ≡ 11 = search rules in
    let was = word_at c.self.inside.words.items c.args.self.now c.loop-level.level c.index-word.result.now same (let small = c.loop-level-test.true in omega (arith, small, long)) c.index-word.ensures in
    let fits : c.index-word.result.now < 18446744073709551616 = search rules in
    first_mark c.args.self.now c.loop-level.level c.index-word.result.now c.loop-level-test.true was (search rules) fits c.loop-level.invariant
