use Rattle.std.proofs.Common.{refl}
use Rattle.nb_io.proofs.Readers.{opened_name}
use Rattle.nb_io.proofs.memory.MemoryInputsInputs.open.Goals as goal

pub returns-in-Some-clause-opened : goal.returns-in-Some-clause-opened
returns-in-Some-clause-opened c =
    opened_name c.args.self.now.files.items c.set_reader.new.readers.items c.in-Some.place _ c.args.name.now c.set_reader.ensures.set.at (rw c.at_front.ensures refl) (rw c.deref.ensures.value at c.in-Some.ensures.within) (rw (c.deref.ensures.value, c.as_bytes.ensures.value) at c.in-Some.ensures.named)
