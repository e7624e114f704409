-- The states of the draws.
use Rattle.std.proofs.Common.{◌≡◌, ℕ, suc, ◌+◌, ◌*◌, ◌%◌, ◌^◌, refl, arith}
use Rattle.std.proofs.Math.Nat.{mod-add-mod}
use Rattle.generated_input.specs.Draws.{next_state, state_after}

-- the product and the sum, each cut to 64 bits
pub next_wrapped : (x : ℕ) → (x * 6364136223846793005 % 2 ^ 64 + 1442695040888963407) % 2 ^ 64 ≡ next_state x
unfolding next_state
next_wrapped x = mod-add-mod (x * 6364136223846793005) (2 ^ 64) 1442695040888963407

pub none_drawn : (x : ℕ) → state_after 0 x ≡ x
unfolding state_after
none_drawn x = refl

pub one_more : (n x : ℕ) → state_after (n + 1) x ≡ next_state (state_after n x)
unfolding state_after
one_more n x = let e : n + 1 ≡ suc n = omega arith in rw e refl

pub two_more : (n x : ℕ) → state_after (2 * (n + 1)) x ≡ next_state (next_state (state_after (2 * n) x))
two_more n x =
    let parts : 2 * (n + 1) ≡ (2 * n + 1) + 1 = omega arith in
    rw (parts, one_more (2 * n + 1) x, one_more (2 * n) x) refl
