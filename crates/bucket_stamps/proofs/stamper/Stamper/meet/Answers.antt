use Rattle.std.proofs.Common.{rules, ◌≡◌}
use Rattle.bucket_stamps.specs.Shown.{StampShown, stamp_of, history_of, part_of}
use Rattle.bucket_stamps.specs.Views.{met}
use Rattle.bucket_stamps.specs.Tokens.{stamp_shown}
use Rattle.bucket_stamps.proofs.Calling.{meet_more}
use Rattle.bucket_stamps.proofs.stamper.Stamper.meet.Goals as goal

pub returns-clause-more : goal.returns-clause-more
returns-clause-more c =
    let new : StampShown = stamp_shown (record { badge = c.badge.inside.badge }) in
    let is : new ≡ stamp_of c.args.self.now.id (met (history_of c.args.self.now) (part_of c.args.stamp.now)) = search rules in
    meet_more c.args.self.now c.args.stamp.now new c.requires.id (search rules) c.lodge.ensures.order is
