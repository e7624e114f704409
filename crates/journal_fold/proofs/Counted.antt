-- Tests of states count the same over entries and over their keys.
use Rattle.std.proofs.Common.{◌≡◌, Bool, List, [], ◌∷◌, map, length, refl, sym, ap, ◌∙◌, arith}
use Rattle.std.specs.Prelude.{filter}
use Rattle.nb_base.specs.declared.key.Key.{Key}
use Rattle.nb_base.specs.declared.params.Params.{Params}
use Rattle.nb_base.specs.declared.line.Line.{Line}
use Rattle.nud_machine.specs.State.{State}
use Rattle.nb_journal.specs.declared.kept.Kept.{Kept}
use Rattle.nb_journal.specs.Fold.{state_of, known_keys, present_count, is_loose}
use Rattle.nb_journal.specs.Steps.{state_in}
use Rattle.nb_journal.proofs.Folds.{present_count-is}
use Rattle.journal_fold.specs.Kept.{AreKept, number_present}
use Rattle.journal_fold.specs.Kept as kept_in
use Rattle.journal_fold.proofs.Places.{size_one}

count_map : {X Y : Type 0} (f : X → Y) (test : Y → Bool) (xs : List X) → length (filter test (map f xs)) ≡ length (filter (λ x. test (f x)) xs)
count_map f test [] = refl
count_map f test (x ∷ xs) =
    let over = size_one (test (f x)) (f x) (filter test (map f xs)) in
    let under = size_one (test (f x)) x (filter (λ y. test (f y)) xs) in
    let rest = count_map f test xs in
    omega (arith, over, under, rest)

pub count_alike : (f : Key → State) (test : State → Bool) (keys : List Key) (kept : List Kept) → map state_in kept ≡ map f keys → length (filter (λ (one : Kept). test (state_in one)) kept) ≡ length (filter (λ (key : Key). test (f key)) keys)
count_alike f test keys kept e = sym (count_map state_in test kept) ∙ ap (λ (states : List State). length (filter test states)) e ∙ count_map f test keys

pub number_is : (p : Params) (lines : List Line) (kept : List Kept) → AreKept p lines (known_keys lines) kept → number_present kept ≡ present_count p lines
number_is p lines kept are = count_alike (state_of p lines) (λ (s : State). s.entry.present) (known_keys lines) kept are.states ∙ sym (present_count-is p lines)

pub loose_is : (p : Params) (lines : List Line) (kept : List Kept) → AreKept p lines (known_keys lines) kept → length (filter kept_in.is_loose kept) ≡ length (filter (λ (key : Key). is_loose (state_of p lines key)) (known_keys lines))
loose_is p lines kept are = count_alike (state_of p lines) is_loose (known_keys lines) kept are.states
