use Rattle.std.proofs.Common.{rules, ◌≡◌, List, [], ◌∷◌, ◌++◌, length, true, None, ap, subst, sym, ◌∙◌}
use Rattle.atomic_table.specs.Seated.{TableId}
use Rattle.nb_base.specs.declared.key.Key.{Key}
use Rattle.nb_base.specs.declared.line.Line.{Line}
use Rattle.bucket_stamps.specs.Own.{pairs_from}
use Rattle.bucket_stamps.specs.Shown.{StamperShown, StampShown, part_of, lodging, after_line, after_lines, after_turn, after_call, stamp_after, turn_behind, SeesMore}
use Rattle.bucket_stamps.specs.Tokens.{stamp_shown}
use Rattle.bucket_stamps.proofs.Tokens.{first_more}
use Rattle.bucket_stamps.proofs.Calling.{wrote_all, first_settled, first_stamp, call_more}
use Rattle.bucket_stamps.proofs.stamper.Stamper.first_call.Goals as goal

pub leave-requires-clause-settled : goal.leave-requires-clause-settled
leave-requires-clause-settled g c =
    let cells : List (Key × TableId) = (c.args.key.now, g.C.HasCell.cell_of c.args.cell.now) ∷ [] in
    let m = part_of c.args.stamp.now in
    let before : c.lines.new.self ≡ after_lines c.args.before.now (lodging m c.args.self.now) = search rules in
    let wrote : c.first_line.new.self ≡ wrote_all (c.args.before.now ++ c.args.last.now ∷ []) cells m c.args.self.now =
    c.first_line.ensures ∙ (ap (after_line c.args.last.now cells) before ∙ first_more c.args.last.now cells c.args.before.now (lodging m c.args.self.now)) in
    first_settled c.args.self.now c.turn.new.self m (c.args.before.now ++ c.args.last.now ∷ []) cells c.args.at true (c.turn.ensures ∙ ap (after_turn c.args.at true) wrote)

pub returns-clause-stamp : goal.returns-clause-stamp
returns-clause-stamp g c =
    let cells : List (Key × TableId) = (c.args.key.now, g.C.HasCell.cell_of c.args.cell.now) ∷ [] in
    let ls = c.args.before.now ++ c.args.last.now ∷ [] in
    let m = part_of c.args.stamp.now in
    let s = c.args.self.now in
    let before : c.lines.new.self ≡ after_lines c.args.before.now (lodging m c.args.self.now) = search rules in
    let wrote : c.first_line.new.self ≡ wrote_all ls cells m s = c.first_line.ensures ∙ (ap (after_line c.args.last.now cells) before ∙ first_more c.args.last.now cells c.args.before.now (lodging m s)) in
    let turned : c.turn.new.self ≡ after_turn c.args.at true (wrote_all ls cells m s) = c.turn.ensures ∙ ap (after_turn c.args.at true) wrote in
    let new : c.leave.result ≡ stamp_after (after_call c.args.stamp.now.participant ls cells c.args.at true s) c.args.stamp.now (pairs_from c.args.stamp.now.participant (length s.lines) ls) =
    first_stamp s c.turn.new.self c.args.stamp.now c.leave.result ls cells c.args.at true turned c.leave.ensures.stamp in
    let F : StamperShown → Type 0 = λ x. stamp_shown (record { badge = c.badge.inside.badge }) ≡ stamp_after x c.args.stamp.now (pairs_from c.args.stamp.now.participant (length s.lines) ls) in
    subst F (sym (c.leave.ensures.stamper ∙ ap (λ (x : StamperShown). record x { lodged = None }) turned)) (c.badge.view_is ∙ new)

pub returns-clause-more : goal.returns-clause-more
returns-clause-more g c =
    let cells : List (Key × TableId) = (c.args.key.now, g.C.HasCell.cell_of c.args.cell.now) ∷ [] in
    let ls = c.args.before.now ++ c.args.last.now ∷ [] in
    let m = part_of c.args.stamp.now in
    let s = c.args.self.now in
    let before : c.lines.new.self ≡ after_lines c.args.before.now (lodging m c.args.self.now) = search rules in
    let wrote : c.first_line.new.self ≡ wrote_all ls cells m s = c.first_line.ensures ∙ (ap (after_line c.args.last.now cells) before ∙ first_more c.args.last.now cells c.args.before.now (lodging m s)) in
    let turned : c.turn.new.self ≡ after_turn c.args.at true (wrote_all ls cells m s) = c.turn.ensures ∙ ap (after_turn c.args.at true) wrote in
    let own = pairs_from c.args.stamp.now.participant (length s.lines) ls in
    let new : c.leave.result ≡ stamp_after (after_call c.args.stamp.now.participant ls cells c.args.at true s) c.args.stamp.now own =
    first_stamp s c.turn.new.self c.args.stamp.now c.leave.result ls cells c.args.at true turned c.leave.ensures.stamp in
    let shown : StampShown = stamp_shown (record { badge = c.badge.inside.badge }) in
    let lines : c.leave.new.self.lines ≡ s.lines ++ ls = ap (λ (x : StamperShown). x.lines) c.leave.ensures.stamper ∙ ap (λ (x : StamperShown). x.lines) turned in
    let F : List Line → Type 0 = λ xs. SeesMore c.args.stamp.now shown ls (turn_behind c.args.stamp.now.participant c.args.at true xs ∷ []) in
    subst F (sym lines) (call_more s c.args.stamp.now shown ls cells c.args.at true c.requires.id (search rules) c.lodge.ensures.order (c.badge.view_is ∙ new))
