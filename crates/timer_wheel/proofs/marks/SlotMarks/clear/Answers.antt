use Rattle.std.proofs.Common.{rules, ◌≡◌, ◌/◌, length, arith}
use Rattle.timer_wheel.proofs.Marking.{word_at, clear_marks}
use Rattle.timer_wheel.proofs.marks.SlotMarks.clear.Goals as goal

pub returns : goal.returns
returns c =
    let same : c.self.inside.words.items ≡ c.args.self.now = search rules in
    let long : length c.args.self.now ≡ 11 = search rules in
    let was = word_at c.self.inside.words.items c.args.self.now (c.args.slot / 64) c.index_mut.result.now same (let small = c.requires in omega (arith, small, long)) c.index_mut.ensures.value in
    clear_marks c.self.inside.words.items c.args.self.now c.args.slot c.index_mut.result.now same long c.requires was
