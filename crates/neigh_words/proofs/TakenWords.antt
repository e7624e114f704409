-- The words that the command takes are those of which `clap` names no fault.
use Rattle.std.proofs.Common.{◌≡◌, ◌∙◌, Bool, cond, true, false, refl, sym, ap, List, [], ◌∷◌}
use Rattle.std.proofs.lemmas.Bool.{false_from_ne_true}
use Rattle.clap.specs.Walk.{Row, Text, finished, nothing_held, walk, walk_from}
use Rattle.clap.specs.Simple.{App, Shape, built, is_simple, matches_of}
use Rattle.clap.specs.Takes.{level_passes, takes}
use Rattle.clap.specs.Faults.{fault_of, is_simple_and_free, level_fault}
use Rattle.clap.specs.declared.error.kind.ErrorKind.{ErrorKind}
use Rattle.clap.specs.declared.error.kind.ErrorKind.TheVariants.{MissingRequiredArgument, OutOfMemory}
use Rattle.clap.proofs.FaultLemmas.{leaf_fault}
use Rattle.clap.proofs.TakesLemmas.{leaf_takes}
use Rattle.neigh_words.specs.Settings.{given, is_taken, neigh_command}
use Rattle.neigh_words.proofs.Faultless.{all_true, no_kind, none_missing, settle_fits, walk_fits}

abbrev shape : Shape
shape = (built neigh_command).top

not_missing : (b : Bool) → cond b (MissingRequiredArgument ∷ []) [] ≡ [] → b ≡ false
not_missing true e = cc
not_missing false e = refl

level_fits : (words : List Text) → level_fault shape [] nothing_held words false [] ≡ [] → level_passes shape [] nothing_held words false ≡ true
level_fits words e =
    let end = (walk shape.rules [] nothing_held words).held in
    let p = no_kind _ _ e in
    let q = no_kind _ _ p.1 in
    let r = no_kind _ _ q.1 in
    all_true _ _ (walk_fits shape [] (walk_from nothing_held) words p.0)
    (all_true _ _ (settle_fits shape.rules shape.args_override_self end q.0)
    (none_missing shape.rules (finished shape.rules end) (not_missing _ r.1)))

-- words without a fault are taken
pub faultless_taken : (words : List Text) → fault_of neigh_command words ≡ [] → is_taken words ≡ true
unfolding is_taken
faultless_taken words e =
    leaf_takes (built neigh_command) nothing_held words refl (level_fits words (sym (leaf_fault (built neigh_command) nothing_held words refl) ∙ e))

-- the command's own definition, for what is made of it
pub parsed_taken : (app : App) (words : List Text) → app ≡ neigh_command → (is_simple_and_free app ≡ true → fault_of app words ≡ []) → is_taken words ≡ true
parsed_taken app words is h = faultless_taken words (ap (λ a. fault_of a words) (sym is) ∙ h (ap is_simple_and_free is))

pub parsed_given : (app : App) (words : List Text) (rows : List Row) → app ≡ neigh_command → (is_simple app ≡ true → rows ≡ matches_of app words) → rows ≡ given words
unfolding given
parsed_given app words rows is h = h (ap is_simple is) ∙ ap (λ a. matches_of a words) is

pub refused_untaken : (app : App) (words : List Text) (k : ErrorKind) → app ≡ neigh_command → (takes app words ≡ true → k ≡ OutOfMemory) → (k ≡ OutOfMemory → ⊥)
    → is_taken words ≡ false
unfolding is_taken
refused_untaken app words k is h other = false_from_ne_true (takes neigh_command words) (λ t. other (h (ap (λ a. takes a words) is ∙ t)))
