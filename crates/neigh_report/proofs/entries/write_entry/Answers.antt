use Rattle.std.proofs.Common.{[], ◌∷◌, ◌++◌, if◌then◌else◌}
use Rattle.std.specs.Prelude.{string_bytes, codes}
use Rattle.nb_base.specs.Address.{key_text}
use Rattle.neigh_run.specs.Spelling.{state_name}
use Rattle.neigh_run.specs.Entries.{address_words}
use Rattle.neigh_report.proofs.SpacedWords.{line_one}
use Rattle.neigh_report.proofs.entries.write_entry.Goals as goal

pub returns : goal.returns
returns c =
    rw (c.in_ok-writeln.ensures.bytes, c.in_ok-add_entry.ensures, c.in_ok-write.ensures.bytes)
    (line_one (string_bytes c.args.report.now) (key_text c.args.key.now) [] (codes "dev" ∷ c.args.host.now.dev ∷ (address_words c.args.entry.now.mac ++ (if c.args.entry.now.router then codes "router" ∷ [] else []) ++ state_name c.args.entry.now.nud ∷ [])))
