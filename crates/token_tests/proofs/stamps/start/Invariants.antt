use Rattle.std.specs.Prelude.{[], ◌∷◌}
use Rattle.token_tests.proofs.stamps.start.Given as goal

abbrev pub ghosts-enter_in_two_threads : goal.ghosts-enter_in_two_threads
ghosts-enter_in_two_threads g a = record { words = a.stamper.id ∷ [] }
