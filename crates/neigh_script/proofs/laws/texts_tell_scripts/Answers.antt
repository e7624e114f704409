use Rattle.neigh_script.proofs.WrittenScripts.{scripts_again, texts_tell_scripts}
use Rattle.neigh_script.proofs.laws.texts_tell_scripts.Goals as goal

pub returns-clause-again : goal.returns-clause-again
returns-clause-again c = scripts_again

pub returns-clause-tells : goal.returns-clause-tells
returns-clause-tells c = texts_tell_scripts
