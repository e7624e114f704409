-- One record more, and one packet more.
use Rattle.std.proofs.Common.{◌≡◌, ℕ, ◌+◌, ◌*◌, [], ◌∷◌, ◌++◌, map, refl, ap, ◌∙◌, arith}
use Rattle.std.specs.List.{range_with_len}
use Rattle.std.proofs.lemmas.List.FromFn.{map-range_with_len_more}
use Rattle.generated_input.specs.Draws.{next_state, state_after, drawn}
use Rattle.generated_input.specs.Heard.{heard, heard_at, heard_by}
use Rattle.generated_input.specs.Sent.{sent, sent_at, sent_by}
use Rattle.generated_input.proofs.States.{one_more}

pub none_heard : (x : ℕ) → heard 0 x ≡ []
unfolding heard
none_heard x = refl

pub heard_more : (n x : ℕ)
    → heard (n + 1) x ≡ heard n x ++ heard_by n (drawn (next_state (state_after (2 * n) x))) (drawn (next_state (next_state (state_after (2 * n) x)))) ∷ []
unfolding heard
heard_more n x =
    map-range_with_len_more (heard_at x) 0 n n (omega arith)
    ∙ ap (λ (s : ℕ). map (heard_at x) (range_with_len 0 n) ++ heard_by n (drawn (next_state (state_after (2 * n) x))) (drawn (next_state s)) ∷ []) (one_more (2 * n) x)

pub none_sent : (x : ℕ) → sent 0 x ≡ []
unfolding sent
none_sent x = refl

pub sent_more : (n x : ℕ) → sent (n + 1) x ≡ sent n x ++ sent_by n (drawn (next_state (state_after n x))) ∷ []
unfolding sent
sent_more n x = map-range_with_len_more (sent_at x) 0 n n (omega arith)
