use Rattle.std.proofs.Common.{sym, ◌∙◌}
use Rattle.nb_bucket.proofs.Ranks.{each_unnamed}
use Rattle.nb_bucket.proofs.writing.write_line.Goals as goal

pub write_each-requires-clause-names : goal.write_each-requires-clause-names
write_each-requires-clause-names g c = each_unnamed c.args.line.now c.requires.own (sym c.goes_to_each.ensures ∙ c.if-goes_to_each.true)
