-- The four loads of a try, one after another.
use Rattle.std.proofs.Common.{◌≡◌, ℕ, Option, Some, None, IfSome, refl, ap}
use Rattle.std.specs.Option.{option_map}
use Rattle.std.proofs.lemmas.Option.{same_Some}
use Rattle.hh_core.specs.declared.reader.ReaderPhase.{ReaderPhase}
use Rattle.hh_core.specs.declared.reader.ReaderPhase.TheVariants.{Rest, HasFirst, HasA, HasB}
use Rattle.hh_core.specs.Step.{to_phase, loads_a, loads_b, ends_try}
use Rattle.hh_cell.specs.declared.view.View.{View}
use Rattle.hh_cell.specs.declared.view.Reading.{Reading}
use Rattle.hh_cell.specs.Views.{changed, reads, phase_in, loads_first, loads_word_a, loads_word_b, loads_second}
use Rattle.hh_cell.specs.Kept.{TryTells, SecondTells}

-- the phase after each load
first_by : (o : Option Reading) (n : ℕ) → option_map (λ (r : Reading). r.phase) o ≡ Some Rest → option_map (λ (r : Reading). r.phase) (option_map (changed (to_phase (HasFirst n))) o) ≡ Some (HasFirst n)
first_by None n e = cc
first_by (Some r) n e = refl

pub phase_first : (v : View) (n : ℕ) → phase_in v ≡ Some Rest → phase_in (loads_first n v) ≡ Some (HasFirst n)
phase_first v n e = first_by v.reader n e

a_by : (o : Option Reading) (n a : ℕ) → option_map (λ (r : Reading). r.phase) o ≡ Some (HasFirst n) → option_map (λ (r : Reading). r.phase) (option_map (changed (λ x. to_phase (loads_a a x.phase) x)) o) ≡ Some (HasA n a)
a_by None n a e = cc
a_by (Some r) n a e = ap (λ (p : ReaderPhase). Some (loads_a a p)) (same_Some r.phase (HasFirst n) e)

pub phase_a : (v : View) (n a : ℕ) → phase_in v ≡ Some (HasFirst n) → phase_in (loads_word_a a v) ≡ Some (HasA n a)
phase_a v n a e = a_by v.reader n a e

b_by : (o : Option Reading) (n a b : ℕ) → option_map (λ (r : Reading). r.phase) o ≡ Some (HasA n a) → option_map (λ (r : Reading). r.phase) (option_map (changed (λ x. to_phase (loads_b b x.phase) x)) o) ≡ Some (HasB n a b)
b_by None n a b e = cc
b_by (Some r) n a b e = ap (λ (p : ReaderPhase). Some (loads_b b p)) (same_Some r.phase (HasA n a) e)

pub phase_b : (v : View) (n a b : ℕ) → phase_in v ≡ Some (HasA n a) → phase_in (loads_word_b b v) ≡ Some (HasB n a b)
phase_b v n a b e = b_by v.reader n a b e

-- all four together
tried_by : (o : Option Reading) (n a b m : ℕ) → option_map (changed (λ x. ends_try m x.phase x)) (option_map (changed (λ x. to_phase (loads_b b x.phase) x)) (option_map (changed (λ x. to_phase (loads_a a x.phase) x)) (option_map (changed (to_phase (HasFirst n))) o)))
    ≡ option_map (changed (ends_try m (HasB n a b))) o
tried_by None n a b m = refl
tried_by (Some r) n a b m = refl

pub tried : (v : View) (n a b m : ℕ) → loads_second m (loads_word_b b (loads_word_a a (loads_first n v))) ≡ reads (ends_try m (HasB n a b)) v
tried v n a b m = ap (λ (o : Option Reading). record v { reader = o }) (tried_by v.reader n a b m)

told_by : (o : Option Reading) (n a b m : ℕ) → IfSome (option_map (changed (λ x. to_phase (loads_b b x.phase) x)) (option_map (changed (λ x. to_phase (loads_a a x.phase) x)) (option_map (changed (to_phase (HasFirst n))) o))) (SecondTells m)
    → IfSome o (λ (r : Reading). TryTells r.floor r.tries n a b m)
told_by None n a b m h = h
told_by (Some r) n a b m h = h

pub told : (v : View) (n a b m : ℕ) → IfSome (loads_word_b b (loads_word_a a (loads_first n v))).reader (SecondTells m) → IfSome v.reader (λ (r : Reading). TryTells r.floor r.tries n a b m)
told v n a b m h = told_by v.reader n a b m h
