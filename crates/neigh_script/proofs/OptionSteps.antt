-- The options of a line, one by one.
use Rattle.std.proofs.Common.{◌≡◌, ℕ, List, [], ◌∷◌, refl}
use Rattle.std.specs.Prelude.{Ok, Err}
use Rattle.nb_base.specs.declared.host.Host.{Host}
use Rattle.neigh_script.specs.declared.options.Options.{Options}
use Rattle.neigh_script.specs.declared.why.ScriptWhy.{ScriptWhy}
use Rattle.neigh_script.specs.declared.why.ScriptWhy.TheVariants as why
use Rattle.neigh_script.specs.Forms.{option, options}

pub options_end : (host : Host) (met : Options) → options host met [] ≡ Ok met
unfolding options
options_end host met = refl

pub options_alone : (host : Host) (met : Options) (name : List ℕ) → options host met (name ∷ []) ≡ Err why.UnknownWord
unfolding options
options_alone host met name = refl

pub options_more : (host : Host) (met more : Options) (name value : List ℕ) (words : List (List ℕ)) → option host met name value ≡ Ok more → options host met (name ∷ value ∷ words) ≡ options host more words
unfolding options
options_more host met more name value words e = rw e refl

pub options_bad : (host : Host) (met : Options) (name value : List ℕ) (words : List (List ℕ)) (w : ScriptWhy) → option host met name value ≡ Err w → options host met (name ∷ value ∷ words) ≡ Err w
unfolding options
options_bad host met name value words w e = rw e refl
