-- Tests of numbers, and the facts that they stand for.
use Rattle.std.proofs.Common.{◌≡◌, ℕ, ◌≤◌, Bool, true, false, refl, arith}
use Rattle.std.specs.Prelude.{◌&&◌, nat_le}
use Rattle.std.proofs.lemmas.Bool.Decides.{nat_tests}

pub and_both : (x y : Bool) → x ≡ true → y ≡ true → (x && y) ≡ true
and_both true true a b = refl
and_both true false a b = b
and_both false y a b = a

pub le_from : (m n : ℕ) → nat_le m n ≡ true → m ≤ n
le_from m n e = grind (arith, nat_tests)

pub le_to : (m n : ℕ) → m ≤ n → nat_le m n ≡ true
le_to m n le = grind (arith, nat_tests)
