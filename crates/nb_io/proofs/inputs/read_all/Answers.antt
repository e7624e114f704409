use Rattle.std.proofs.Common.{◌≡◌, ℕ, ◌+◌, ◌≤◌, ◌++◌, length, take, arith, length-append}
use Rattle.std.proofs.lemmas.List.{length-take, length-take-le}
use Rattle.nb_io.proofs.Known.{Consumes-then, Consumes-left}
use Rattle.nb_io.proofs.Naming.{opens_one}
use Rattle.nb_io.proofs.inputs.read_all.Goals as goal

pub returns-then-count-room-clause-stopped : goal.returns-then-count-room-clause-stopped
returns-then-count-room-clause-stopped g c =
    let before = c.loop-count.bytes.items in
    let count = c.in-Ok-read.count in
    let into = c.read.new.into in
    let within : count ≤ length into = c.in-Ok-read.ensures.count in
    let long : length (before ++ take count into) ≡ c.args.limit + 1 = omega (arith, length-append before (take count into), length-take-le count into within, c.read.auto.into, c.min.array_long, length-take {A = ℕ}) in
    λ _. (c.in-Ok.file, ((c.in-Ok-read.ensures.names _ _).0 c.loop-count.invariant.opened, Consumes-left _ _ (before ++ take count into) (c.args.limit + 1) (Consumes-then _ _ _ _ _ c.loop-count.invariant.done c.in-Ok-read.ensures.bytes.0) long))

pub returns-in_default-read-clause-names : goal.returns-in_default-read-clause-names
returns-in_default-read-clause-names g c = opens_one _ _ _ c.in-Ok.file c.loop-count.invariant.names c.loop-count.invariant.only c.in_default-read.ensures.names

pub returns-then-count-eq0-clause-names : goal.returns-then-count-eq0-clause-names
returns-then-count-eq0-clause-names g c = opens_one _ _ _ c.in-Ok.file c.loop-count.invariant.names c.loop-count.invariant.only c.in-Ok-read.ensures.names

pub returns-then-count-room-clause-names : goal.returns-then-count-room-clause-names
returns-then-count-room-clause-names g c = opens_one _ _ _ c.in-Ok.file c.loop-count.invariant.names c.loop-count.invariant.only c.in-Ok-read.ensures.names

pub returns-then-is_err-clause-names : goal.returns-then-is_err-clause-names
returns-then-is_err-clause-names g c = opens_one _ _ _ c.in-Ok.file c.loop-count.invariant.names c.loop-count.invariant.only c.in-Ok-read.ensures.names
