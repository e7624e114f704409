use Rattle.std.proofs.Common.{◌≡◌, ℕ, List, map, ap, ◌∙◌, arith}
use Rattle.hh_core.specs.declared.lock.Core.TheInside.{Inside}
use Rattle.hh_core.specs.State.{State, ReaderState}
use Rattle.hh_core.specs.Shown.{reader_state}
use Rattle.hh_core.specs.Lock.{state_in}
use Rattle.hh_core.proofs.Taken.{kept_safe}
use Rattle.hh_core.proofs.lock.Core.grow.Goals as goal

pub invariant_of-self-in_err-reserve_all : goal.invariant_of-self-in_err-reserve_all
invariant_of-self-in_err-reserve_all c =
    let s : State = state_in c.self.inside in
    let next : Inside = record c.self.inside { published = c.reserve.new.self; readers = c.reserve_all.new.readers } in
    let same : state_in next ≡ s =
    ap (λ (xs : List (ℕ × ℕ)). (let made : State = record s { published = xs; readers = map reader_state next.readers.items } in made)) c.reserve.ensures.items
    ∙ ap (λ (rs : List ReaderState). (let made : State = record s { readers = rs } in made)) c.reserve_all.ensures.same in
    record {
      safe = kept_safe c.self.inside next same c.self.invariant;
      published = omega (arith, c.self.invariant.published, c.reserve.ensures.len, c.reserve.ensures.capacity);
      readers = c.reserve_all.ensures.kept c.self.inside.spare c.self.invariant.readers;
    }
