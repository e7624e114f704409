-- What a line changes of what is shown of the keys (after the messages of ip-monitor(8); this project's own).
use Rattle.std.specs.Prelude.{Bool, true, false, ◌&&◌, not, if◌then◌else◌, List, [], ◌∷◌, ◌++◌, Option, Some, None}
use Rattle.std.specs.List.{flat_map}
use Rattle.nb_base.specs.declared.key.Key.{Key}
use Rattle.nb_base.specs.declared.params.Params.{Params}
use Rattle.nb_base.specs.declared.line.Line.{Line}
use Rattle.nud_machine.specs.State.{State, same_mac, same_nud}
use Rattle.nb_journal.specs.Fold.{state_of, known_keys}
use Rattle.journal_fold.specs.declared.touched.Shown.{Shown}
use Rattle.journal_fold.specs.declared.touched.Touch.{Touch}

-- what is shown of a present entry
abbrev pub shown_of : State → Option Shown
shown_of s = if s.entry.present then Some (record { mac = s.entry.mac; nud = s.entry.nud; router = s.entry.router }) else None

-- both are shown, and alike, or neither is
abbrev pub same_shown : Option Shown → Option Shown → Bool
same_shown None None = true
same_shown (Some a) (Some b) = same_mac a.mac b.mac && same_nud a.nud b.nud && (if a.router then b.router else not b.router)
same_shown _ _ = false

-- the key with what is shown of it now, where that changed
abbrev pub touch_of : Key → Option Shown → Option Shown → List Touch
touch_of key before now = if same_shown before now then [] else record { key = key; shown = now } ∷ []

-- the same between the states before and behind a line
abbrev pub touch_by : Params → List Line → Line → Key → List Touch
touch_by p past line key = touch_of key (shown_of (state_of p past key)) (shown_of (state_of p (past ++ line ∷ []) key))

-- the keys of which a line changes what is shown, by rank, with what is shown of them behind it
abbrev pub touched_by : Params → List Line → Line → List Touch
touched_by p past line = flat_map (touch_by p past line) (known_keys (past ++ line ∷ []))
