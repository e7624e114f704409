-- For callers of `keys` and `kept`: what stands at one rank in both.
use Rattle.std.proofs.Common.{◌≡◌, ℕ, List, map, length, slice_get, Some, sym, ap, ◌∙◌}
use Rattle.std.proofs.lemmas.List.{length-map}
use Rattle.std.proofs.lemmas.Option.{slice_get-map}
use Rattle.std.specs.Option.{option_map}
use Rattle.nb_base.specs.declared.key.Key.{Key}
use Rattle.nud_machine.specs.State.{State}
use Rattle.nb_journal.specs.declared.kept.Kept.{Kept}
use Rattle.nb_journal.specs.Steps.{state_in}

-- there are as many entries as keys
pub as_many : (f : Key → State) (keys : List Key) (kept : List Kept) → map state_in kept ≡ map f keys → length kept ≡ length keys
as_many f keys kept e = sym (length-map kept state_in) ∙ ap length e ∙ length-map keys f

-- and the entry of a rank has the state of the rank's key
pub state_at_rank : (f : Key → State) (keys : List Key) (kept : List Kept) (rank : ℕ) (key : Key) (one : Kept) → map state_in kept ≡ map f keys → slice_get keys rank ≡ Some key → slice_get kept rank ≡ Some one → state_in one ≡ f key
state_at_rank f keys kept rank key one e at here =
    let same : Some (state_in one) ≡ Some (f key) = ap (option_map state_in) (sym here) ∙ sym (slice_get-map state_in kept rank) ∙ ap (λ (states : List State). slice_get states rank) e ∙ slice_get-map f keys rank ∙ ap (option_map f) at in
    cc
