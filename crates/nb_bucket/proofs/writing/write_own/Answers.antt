use Rattle.std.proofs.Common.{is_some, sym, ap, ◌∙◌}
use Rattle.std.proofs.lemmas.Bool.{false≢true}
use Rattle.nb_bucket.proofs.Entered.{own_reply}
use Rattle.nb_bucket.proofs.writing.write_own.Goals as goal

pub unreachable-requires : goal.unreachable-requires
unreachable-requires g c = false≢true (ap is_some (sym c.in-None.is ∙ c.write_line.ensures.reply) ∙ own_reply c.args.fold.now.params c.args.fold.now.lines c.args.line.now c.requires.own)
