-- Lines that name no key only remove entries. This project's own.
use Rattle.std.specs.Prelude.{ℕ, ◌+◌, ◌-◌, Bool, if◌then◌else◌, List, [], ◌∷◌, ◌++◌, length, Option, Some, None}
use Rattle.nb_base.specs.declared.key.Key.{Key}
use Rattle.nb_base.specs.declared.params.Params.{Params}
use Rattle.nb_base.specs.declared.op.Op.{Op}
use Rattle.nb_base.specs.declared.op.Op.TheVariants as op
use Rattle.nb_base.specs.declared.line.Line.{Line}
use Rattle.nb_base.specs.declared.line.Reply.{Reply}
use Rattle.nb_base.specs.declared.line.Reply.TheVariants.{Counted}
use Rattle.nud_machine.specs.State.{State}
use Rattle.nb_journal.specs.declared.kept.Kept.{Kept}
use Rattle.nb_journal.specs.Fold.{effect}
use Rattle.nb_journal.specs.Lawful.{brings_event}
use Rattle.journal_fold.specs.declared.touched.Touch.{Touch}

-- a line that names no key removes an entry in this state
abbrev pub removes : Params → Line → State → Bool
removes p line s = brings_event (effect p line s line.op)

-- the key, where its entry in this state is removed
abbrev pub gone : Params → Line → Key → State → List Touch
gone p line key s = if removes p line s then record { key = key; shown = None } ∷ [] else []

-- the keys whose entries are removed, by rank, where each has its state
abbrev pub gone_rows : Params → Line → List Key → List State → List Touch
gone_rows p line (key ∷ keys) (s ∷ states) = gone p line key s ++ gone_rows p line keys states
gone_rows p line _ _ = []

-- how many packets wait
abbrev pub number_waiting : List Kept → ℕ
number_waiting [] = 0
number_waiting (one ∷ more) = length one.waiting + number_waiting more

-- the reply to a line that names no key, where so many entries were present before it, and so many are behind it
abbrev pub reply_to_each : Op → ℕ → ℕ → Option Reply
reply_to_each op.Show was now = Some (Counted was)
reply_to_each op.Flush was now = Some (Counted (was - now))
reply_to_each _ was now = None
