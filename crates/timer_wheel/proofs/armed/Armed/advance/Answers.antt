use Rattle.std.proofs.Common.{rules, ◌≡◌, ◌≤◌, ℕ, List, Option, Some, subst}
use Rattle.timer_wheel.specs.Map.{due_of}
use Rattle.timer_wheel.proofs.armed.Armed.advance.Goals as goal

pub spread-requires-clause-none : goal.spread-requires-clause-none
spread-requires-clause-none c =
    let same : c.args.self.now.dues ≡ c.deref.result.now = search rules in
    let F : List (Option ℕ) → Type 0 = λ ds. (node due : ℕ) → due_of ds node ≡ Some due → c.args.to ≤ due in
    subst F same c.requires.none
