use Rattle.neigh_run.proofs.InlineFates.{inline_fates}
use Rattle.neigh_run.proofs.laws.fates_add_up_inline.Goals as goal

pub returns : goal.returns
returns c = inline_fates
