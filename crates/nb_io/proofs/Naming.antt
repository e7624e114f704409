-- What opening one number, and then reads of it, do to the names.
use Rattle.std.proofs.Common.{◌≡◌, ℕ, List, Some, sym, ap}
use Rattle.std.specs.Prelude.{◌↔◌}
use Rattle.nb_io.specs.Names.{OpensOne}

pub opens_one : (old opened new : ℕ → List ℕ → Type 0) (file : ℕ) → ((f : ℕ) (name : List ℕ) → old f name → opened f name) → ((f : ℕ) (name : List ℕ) → (f ≡ file → ⊥) → opened f name → old f name)
    → ((f : ℕ) (name : List ℕ) → opened f name ↔ new f name) → OpensOne old new
opens_one old opened new file kept only same = record {
  kept = λ f name h. (same f name).0 (kept f name h);
  number = Some file;
  others = λ f name apart h. only f name (λ e. apart (ap Some (sym e))) ((same f name).1 h);
}
