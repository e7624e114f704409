use Rattle.std.proofs.Common.{rules, ◌≡◌, List, [], ◌∷◌, ◌++◌, length, subst, sym}
use Rattle.nb_base.specs.declared.line.Line.{Line}
use Rattle.bucket_stamps.specs.Own.{pairs_from}
use Rattle.bucket_stamps.specs.Shown.{StampShown, part_of, lodging, after_lines, after_turn, after_call, stamp_after, turn_behind, SeesMore}
use Rattle.bucket_stamps.specs.Tokens.{stamp_shown}
use Rattle.bucket_stamps.proofs.Calling.{call_settled, call_more}
use Rattle.bucket_stamps.proofs.stamper.Stamper.call.Goals as goal

pub leave-requires-clause-settled : goal.leave-requires-clause-settled
leave-requires-clause-settled c =
    let wrote : c.write.new.self ≡ after_turn c.args.at c.args.ok (after_lines c.args.lines.now (lodging (part_of c.args.stamp.now) c.args.self.now)) = search rules in
    call_settled c.args.self.now c.write.new.self (part_of c.args.stamp.now) c.args.lines.now c.args.at c.args.ok wrote

pub returns-clause-more : goal.returns-clause-more
returns-clause-more c =
    let own = pairs_from c.args.stamp.now.participant (length c.args.self.now.lines) c.args.lines.now in
    let new : StampShown = stamp_shown (record { badge = c.badge.inside.badge }) in
    let is : new ≡ stamp_after (after_call c.args.stamp.now.participant c.args.lines.now [] c.args.at c.args.ok c.args.self.now) c.args.stamp.now own = search rules in
    let lines : c.leave.new.self.lines ≡ c.args.self.now.lines ++ c.args.lines.now = search rules in
    let F : List Line → Type 0 = λ ls. SeesMore c.args.stamp.now new c.args.lines.now (turn_behind c.args.stamp.now.participant c.args.at c.args.ok ls ∷ []) in
    subst F (sym lines) (call_more c.args.self.now c.args.stamp.now new c.args.lines.now [] c.args.at c.args.ok c.requires.id (search rules) c.lodge.ensures.order is)
