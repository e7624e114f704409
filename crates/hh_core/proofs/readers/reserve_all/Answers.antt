use Rattle.std.proofs.Common.{◌<◌, length, ap, ◌∙◌, arith}
use Rattle.std.proofs.lemmas.List.Elements.{All-set, AllWithin-more_set}
use Rattle.std.proofs.Math.Seq.{map-set_same}
use Rattle.hh_core.specs.Shown.{reader_state, HasRoom}
use Rattle.hh_core.proofs.Slots.{room_found}
use Rattle.hh_core.proofs.readers.reserve_all.Goals as goal

pub returns-in_err-reserve-clause-same : goal.returns-in_err-reserve-clause-same
returns-in_err-reserve-clause-same c = map-set_same reader_state c.loop-place.readers.items c.loop-place.place c.reserve.new.self c.index_mut-found.result.now (c.reserve.ensures.same ∙ ap reader_state c.index_mut-found.ensures.value) ∙ c.loop-place.invariant.same

pub returns-in_err-reserve-clause-kept : goal.returns-in_err-reserve-clause-kept
returns-in_err-reserve-clause-kept c = λ n h.
    let was = c.loop-place.invariant.kept n h in
    let small : c.loop-place.place < length c.loop-place.readers.items = omega (arith, c.loop-place-test.true, c.loop-place.invariant.len, c.loop-place.readers.ok.0, c.len-place-end.ensures) in
    All-set (HasRoom n) c.loop-place.readers.items c.loop-place.place c.reserve.new.self (c.reserve.ensures.kept n (room_found n c.loop-place.readers.items c.loop-place.place c.index_mut-found.result.now small c.index_mut-found.ensures.value was)) was

pub loop-place-preserved : goal.loop-place-preserved
loop-place-preserved c =
    let small : c.loop-place.place < length c.loop-place.readers.items = omega (arith, c.loop-place-test.true, c.loop-place.invariant.len, c.loop-place.readers.ok.0, c.len-place-end.ensures) in
    record {
      len = c.loop-place.invariant.len;
      same = map-set_same reader_state c.loop-place.readers.items c.loop-place.place c.reserve.new.self c.index_mut-found.result.now (c.reserve.ensures.same ∙ ap reader_state c.index_mut-found.ensures.value) ∙ c.loop-place.invariant.same;
      room = AllWithin-more_set c.loop-place.readers.items c.loop-place.place c.reserve.new.self small (HasRoom c.args.more) c.loop-place.invariant.room c.in_ok-reserve.ensures.room;
      kept = λ n h.
          let was = c.loop-place.invariant.kept n h in
          All-set (HasRoom n) c.loop-place.readers.items c.loop-place.place c.reserve.new.self (c.reserve.ensures.kept n (room_found n c.loop-place.readers.items c.loop-place.place c.index_mut-found.result.now small c.index_mut-found.ensures.value was)) was;
    }
