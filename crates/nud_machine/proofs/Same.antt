-- Addresses and states that are the same.
use Rattle.std.proofs.Common.{◌≡◌, true, Option, Some, None, refl}
use Rattle.std.proofs.lemmas.Slice.Eq.{bytes_eq-Decides}
use Rattle.nb_base.specs.declared.mac.Mac.{Mac}
use Rattle.nud_machine.specs.State.{same_mac}

pub same_mac-same : (m : Option Mac) → same_mac m m ≡ true
same_mac-same None = refl
same_mac-same (Some m) = (bytes_eq-Decides m.0 m.0).1 refl
