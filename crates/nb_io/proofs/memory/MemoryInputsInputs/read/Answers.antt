use Rattle.std.proofs.Common.{◌≡◌, ◌<◌, length, refl, arith, sym, ap}
use Rattle.std.proofs.lemmas.Option.{slice_get_read}
use Rattle.std.proofs.lemmas.List.{get_or_read}
use Rattle.nb_io.specs.declared.memory.Reader.{Reader}
use Rattle.nb_io.specs.Kept.{reader_at, blank}
use Rattle.nb_io.proofs.Readers.{read_on, opened_within}
use Rattle.nb_io.proofs.memory.MemoryInputsInputs.read.Goals as goal

pub returns-clause-bytes : goal.returns-clause-bytes
returns-clause-bytes c =
    let files = c.args.self.now.files.items in
    let readers = c.args.self.now.readers.items in
    let within : c.args.file < length files = opened_within files readers c.args.file (rw c.requires.opened.1) in
    let here = slice_get_read files (length files) c.args.file c.index-2.result.now refl within c.index-2.ensures in
    let in_readers : c.args.file < length readers = omega (arith, c.args.self.now.one_each, c.args.self.now.readers.ok.0, c.args.self.now.files.ok.0) in
    let was : reader_at readers c.args.file ≡ c.index-reader.result.now = sym (get_or_read readers c.args.file _ in_readers c.index-reader.ensures blank) in
    let taken = rw c.as_slice.ensures at c.copy_from-count.ensures.copied in
    let end = rw c.as_slice.ensures at c.copy_from-count.ensures.end in
    read_on files readers c.set_reader.new.readers.items c.args.file c.copy_from-count.result c.index-2.result.now c.index-reader.result.now c.behind.result c.copy_from-count.new.into here was c.set_reader.ensures.set.at (ap (λ (r : Reader). r.place) c.behind.ensures) taken end
