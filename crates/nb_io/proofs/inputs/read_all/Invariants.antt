use Rattle.std.proofs.Common.{◌≡◌, ◌≤◌, ◌-◌, ℕ, List}
use Rattle.std.specs.Prelude.{vec_len}
use Rattle.std.specs.Io.KnownBytes.{Consumes}
use Rattle.nb_io.proofs.inputs.read_all.Given as goal

abbrev pub invariant-loop-count : goal.invariant-loop-count
invariant-loop-count g l =
    let held = g.I.Inputs.held in
    let faults = g.I.Inputs.faults in
    let left = g.I.Inputs.left in
    let name_of = g.I.Inputs.name_of in
    record {
      within : vec_len l.bytes ≤ l.limit;
      opened : name_of l.inputs l.file l.name;
      done : Consumes (held l.fn.inputs l.name) (left l.inputs l.file) l.bytes.items;
      held : (other : List ℕ) → held l.inputs other ≡ held l.fn.inputs other;
      names : (file : ℕ) (name : List ℕ) → name_of l.fn.inputs file name → name_of l.inputs file name;
      only : (file : ℕ) (name : List ℕ) → (file ≡ l.file → ⊥) → name_of l.inputs file name → name_of l.fn.inputs file name;
      places : (file : ℕ) → (name_of l.inputs file l.name → ⊥) → left l.inputs file ≡ left l.fn.inputs file;
      later : (other : List ℕ) → faults l.fn.inputs other ≤ faults l.inputs other;
    }

abbrev pub decreases-loop-count : goal.decreases-loop-count
decreases-loop-count g l = l.limit - vec_len l.bytes
