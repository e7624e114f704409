use Rattle.std.proofs.Common.{◌+◌, ◌<◌, length, arith}
use Rattle.hh_core.specs.declared.reader.ReaderPhase.TheVariants.{HasB}
use Rattle.std.proofs.lemmas.List.Elements.{All-set, All-weaker}
use Rattle.hh_core.specs.Step.{ends_try}
use Rattle.hh_core.specs.Shown.{HasRoom}
use Rattle.hh_core.proofs.Slots.{map-set-change, HasRoom-less, room_found}
use Rattle.hh_core.proofs.readers.end_try.Goals as goal

pub returns-clause-changed : goal.returns-clause-changed
returns-clause-changed c = map-set-change (ends_try c.args.second (HasB c.args.first c.args.words.0 c.args.words.1)) c.args.readers.now.items c.args.reader c.index_mut-found.result.now c.end_try.new.self (omega (arith, c.requires.within, c.args.readers.now.ok.0)) c.index_mut-found.ensures.value c.end_try.ensures.ended

pub returns-clause-room : goal.returns-clause-room
returns-clause-room c = λ n h.
    let small : c.args.reader < length c.args.readers.now.items = omega (arith, c.requires.within, c.args.readers.now.ok.0) in
    All-set (HasRoom n) c.args.readers.now.items c.args.reader c.end_try.new.self (c.end_try.ensures.room n (room_found (n + 1) c.args.readers.now.items c.args.reader c.index_mut-found.result.now small c.index_mut-found.ensures.value h)) (All-weaker (HasRoom (n + 1)) (HasRoom n) (HasRoom-less (n + 1) n (omega arith)) c.args.readers.now.items h)
