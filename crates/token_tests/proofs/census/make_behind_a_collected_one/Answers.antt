use Rattle.std.proofs.Common.{◌≡◌, ◌+◌, ◌-◌, ◌≤◌, ℕ, length, ap, subst, arith}
use Rattle.change_order.specs.Orders.{LookingLine, HasCounts}
use Rattle.change_order.specs.Growing.{part_of, with_changing_line, with_looking_line}
use Rattle.change_order.proofs.Growing.{look_awaits, change_awaits, line_counts}
use Rattle.token_tests.proofs.census.make_behind_a_collected_one.Goals as goal

pub returns-clause-told : goal.returns-clause-told
returns-clause-told g c t told =
    let start = c.args.census.now in
    let one = c.look-seen.new.self in
    let two = c.shrink.new.self in
    let last = c.grow.new.self in
    let line : LookingLine = record { before = length (g.C.Census.changes start); seen = c.look-seen.result } in
    let looked = look_awaits 0 t (g.C.Census.changes start) (g.C.Census.changes one) (g.C.Census.looks start) (g.C.Census.looks one) c.look-seen.result c.look-seen.ensures.look c.look-seen.ensures.changes told in
    let collected = change_awaits 0 t (g.C.Census.changes one) (g.C.Census.changes two) (g.C.Census.looks one) (g.C.Census.looks two) (g.C.Census.share one - 1) line c.shrink.ensures.change c.shrink.ensures.looks looked in
    let made = change_awaits 0 (with_changing_line (g.C.Census.share one - 1) t) (g.C.Census.changes two) (g.C.Census.changes last) (g.C.Census.looks two) (g.C.Census.looks last) (g.C.Census.share two + 1) line c.grow.ensures.change c.grow.ensures.looks collected in
    let all = line_counts (part_of 0 (g.C.Census.changes last) (g.C.Census.looks last)) (with_changing_line (g.C.Census.share two + 1) (with_changing_line (g.C.Census.share one - 1) t)) line made in
    let first : g.C.Census.share one - 1 ≡ g.C.Census.share start - 1 = ap (λ (n : ℕ). n - 1) c.look-seen.ensures.share in
    let a = c.look-seen.ensures.share in
    let b = c.shrink.ensures.share in
    let some : 1 ≤ g.C.Census.share start = c.requires.some in
    let second : g.C.Census.share two + 1 ≡ g.C.Census.share start = omega (arith, a, b, some) in
    let F : ℕ × ℕ → Type 0 = λ x. HasCounts (part_of 0 (g.C.Census.changes last) (g.C.Census.looks last)) (with_looking_line line (with_changing_line x.0 (with_changing_line x.1 t))) in
    subst F (λ i. (second i, first i)) all
