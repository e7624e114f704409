-- What is heard of one key's acts after the other's.
use Rattle.std.proofs.Common.{ℕ, List, [], ◌++◌, Option, Some, None, ap, subst, sym, ◌∙◌, arith, append_assoc, append-nil}
use Rattle.std.proofs.lemmas.List.{length-append}
use Rattle.nud_machine.specs.declared.act.Act.{Act}
use Rattle.journal_fold.specs.Hearing.{Hears}

pub hears-none : (before : Option (List Act)) (room : ℕ) → Hears before room before room []
hears-none None room = tt
hears-none (Some before) room = λ fits. (ap (λ (acts : List Act). Some acts) (sym (append-nil before)), omega arith)

pub hears-more : (before : Option (List Act)) (room : ℕ) (middle : Option (List Act)) (left : ℕ) (after : Option (List Act)) (rest : ℕ) (first more : List Act)
    → Hears before room middle left first → Hears middle left after rest more → Hears before room after rest (first ++ more)
hears-more None room middle left after rest first more one two = tt
hears-more (Some before) room middle left after rest first more one two = λ fits.
    let size = length-append first more in
    let here = one (omega (arith, size, fits)) in
    let there = subst (λ (heard : Option (List Act)). Hears heard left after rest more) here.0 two in
    let next = there (omega (arith, size, fits, here.1)) in
    (next.0 ∙ ap (λ (acts : List Act). Some acts) (append_assoc before first more), omega (arith, size, here.1, next.1))
