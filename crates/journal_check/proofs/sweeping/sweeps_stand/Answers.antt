use Rattle.std.proofs.Common.{◌≡◌, ⊎_elim, ℕ, ◌<◌, ◌≤◌, true, length, sym, ◌∙◌, subst, arith, rules}
use Rattle.std.proofs.lemmas.Grind.{common_steps}
use Rattle.std.proofs.lemmas.Bool.{cases_lt}
use Rattle.nb_journal.specs.Lawful.{before_sweep, IsSweepMoment}
use Rattle.journal_check.specs.Evaluated.{sweep_stands}
use Rattle.nb_journal.proofs.Meets.{moments_apart, moment_after}
use Rattle.journal_check.proofs.sweeping.sweeps_stand.Goals as goal

pub loop-clock-preserved : goal.loop-clock-preserved
loop-clock-preserved c =
    let p = c.args.params.now in
    let next = c.after-moment.ensures in
    let within : c.loop-clock.moment ≤ c.args.clock = first_of (search rules, grind (arith, common_steps, c.loop-clock-test.ensures)) in
    let some = c.requires.params.gc_interval.0 in
    let stands = λ (u : ℕ). sweep_stands u c.args.lines.now (length (before_sweep u c.args.lines.now)) ≡ true in
    let here : stands c.loop-clock.moment = sym c.sweep_stands.ensures ∙ c.if-not-sweep_stands.false in
    record {
      is = subst (IsSweepMoment p) (sym next) (moment_after p c.loop-clock.moment c.loop-clock.invariant.is);
      within = omega (arith, next, within);
      stand = λ u is lt. ⊎_elim
          (λ (below : u < c.loop-clock.moment). c.loop-clock.invariant.stand u is below)
          (λ (above : c.loop-clock.moment ≤ u). subst stands (sym (moments_apart p u c.loop-clock.moment (omega (arith, some)) is c.loop-clock.invariant.is above (omega (arith, lt, next)))) here)
          (cases_lt u c.loop-clock.moment);
    }
