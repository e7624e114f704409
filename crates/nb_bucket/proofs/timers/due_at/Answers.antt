use Rattle.std.proofs.Common.{◌<◌, length, get_or}
use Rattle.std.proofs.lemmas.Option.{slice_get-get_or}
use Rattle.nb_bucket.proofs.NextTimer.{same_length, kept_due}
use Rattle.nb_bucket.proofs.timers.due_at.Goals as goal

pub returns : goal.returns
returns c =
    let kept = c.kept.result.now in
    let one = c.index-kept-rank.result in
    let within : c.args.rank < length kept = rw (same_length c.args.fold.now.params c.args.fold.now.lines kept c.kept.ensures.states) c.requires in
    λ key e. kept_due c.args.fold.now.params c.args.fold.now.lines kept c.args.rank (get_or kept c.args.rank one) key c.kept.ensures.states (slice_get-get_or kept c.args.rank one within) e
