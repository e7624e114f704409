-- The table of a run, and its proxies, as the report lists them.
use Rattle.std.specs.Prelude.{if◌then◌else◌, List, [], ◌∷◌, ◌++◌, Option, Some, None, codes}
use Rattle.std.specs.List.{flat_map}
use Rattle.nb_base.specs.declared.mac.Mac.{Mac}
use Rattle.nb_base.specs.declared.key.Key.{Key}
use Rattle.nb_base.specs.declared.host.Host.{Host}
use Rattle.nb_base.specs.declared.params.Params.{Params}
use Rattle.nb_base.specs.declared.line.Line.{Line}
use Rattle.nb_base.specs.Address.{mac_text, key_text}
use Rattle.nud_machine.specs.declared.entry.Entry.{Entry}
use Rattle.nb_journal.specs.Fold.{state_of, known_keys}
use Rattle.text_codes.specs.Lines.{Words}
use Rattle.neigh_run.specs.Spelling.{state_name}

abbrev pub address_words : Option Mac → Words
address_words None = []
address_words (Some mac) = codes "lladdr" ∷ mac_text mac ∷ []

-- `KEY dev NAME lladdr MAC STATE`, without the address where none is known, and with the router mark where it is set
abbrev pub entry_words : Host → Key → Entry → Words
entry_words h key e = key_text key ∷ codes "dev" ∷ h.dev ∷ (address_words e.mac ++ (if e.router then codes "router" ∷ [] else []) ++ state_name e.nud ∷ [])

abbrev pub entry_if_present : Host → Key → Entry → List Words
entry_if_present h key e = if e.present then entry_words h key e ∷ [] else []

-- the present entries behind a journal, by rank
abbrev pub entries_after : Host → Params → List Line → List Words
entries_after h p journal = flat_map (λ key. entry_if_present h key (state_of p journal key).entry) (known_keys journal)

abbrev pub proxy_words : Host → Key → Words
proxy_words h key = key_text key ∷ codes "dev" ∷ h.dev ∷ codes "proxy" ∷ []
