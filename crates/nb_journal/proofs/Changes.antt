-- What a line does to the key that it names, and to another.
use Rattle.std.proofs.Common.{◌≡◌, true, false, Some, None, refl}
use Rattle.std.proofs.lemmas.Bool.{eq-eqb}
use Rattle.nb_base.specs.declared.key.Key.{Key}
use Rattle.nb_base.specs.declared.key.Key.TheVariants.{V4, V6}
use Rattle.nb_base.specs.declared.params.Params.{Params}
use Rattle.nb_base.specs.declared.line.Line.{Line}
use Rattle.nud_machine.specs.State.{State, stays}
use Rattle.nb_journal.specs.Keys.{is_key, key_of}
use Rattle.nb_journal.specs.Fold.{effect, change, meet}

pub is_key-same : (k : Key) → is_key k k ≡ true
unfolding is_key
is_key-same (V4 a) = eq-eqb a a refl
is_key-same (V6 a) = eq-eqb a a refl

-- a line that names the key and isn't full is its operation
pub change-named : (p : Params) (line : Line) (named key : Key) (s : State) → key_of line.op ≡ Some named → is_key named key ≡ true → line.full ≡ None → change p line key s ≡ meet p line s (effect p line s line.op)
unfolding change
change-named p line named key s e same f = rw (e, same, f) refl

-- a line that names another key changes nothing
pub change-other : (p : Params) (line : Line) (named key : Key) (s : State) → key_of line.op ≡ Some named → is_key named key ≡ false → change p line key s ≡ stays s
unfolding change
change-other p line named key s e other = rw (e, other) refl
