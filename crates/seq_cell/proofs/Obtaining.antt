-- What a good try gives.
use Rattle.std.proofs.Common.{◌≡◌, ℕ, true, false, [], refl, sym, subst}
use Rattle.nb_base.specs.declared.record.Record.{Record}
use Rattle.nb_base.proofs.RecordWords.{record_is}
use Rattle.hh_cell.specs.declared.cell.Obtained.{Obtained}
use Rattle.hh_cell.specs.declared.cell.Obtained.TheVariants.{Fresh, Suspect, Again}
use Rattle.hh_cell.specs.Shown.{PassShown, Reads}
use Rattle.hh_cell.specs.Obtaining.{ObtainedOf}
use Rattle.seq_cell.specs.Obtaining.{ObtainsAtOnce}

as_read : (old new : PassShown) (n m : ℕ) (r q : Record) → m ≡ n → q ≡ r → Reads old new [] n r → Reads old new [] m q
as_read old new n m r q same is h = subst (λ (x : ℕ × Record). Reads old new [] x.0 x.1) (λ i. (sym same i, sym is i)) h

pub obtained_at_once : (old new : PassShown) (o : Obtained) (n : ℕ) (r : Record) → ObtainedOf n r o → Reads old new [] n r → ObtainsAtOnce old new o
obtained_at_once old new (Fresh m header) n r of h = as_read old new n m r (record { usable = true; header = header }) of.0 (record_is true header r (sym of.1) of.2) h
obtained_at_once old new (Suspect m) n r of h = (r.header, as_read old new n m r (record { usable = false; header = r.header }) of.0 (record_is false r.header r (sym of.1) refl) h)
obtained_at_once old new (Again tries) n r of h = absurd of
