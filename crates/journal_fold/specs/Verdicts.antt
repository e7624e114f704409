-- What is known of a line's reply before its acts. This project's own.
use Rattle.std.specs.Prelude.{◌≡◌, List, Some, None}
use Rattle.nb_base.specs.declared.params.Params.{Params}
use Rattle.nb_base.specs.declared.line.Line.{Line}
use Rattle.nb_journal.specs.Accounts.{acts_at}
use Rattle.nb_journal.specs.Fold.{Effect, Passes, Refuses, Brings, reply_after, reply_of}
use Rattle.journal_fold.specs.declared.verdict.Verdict.{Verdict}
use Rattle.journal_fold.specs.declared.verdict.Verdict.TheVariants.{Told, ByActs}

-- an effect that brings no event tells the reply
abbrev pub verdict_by : Effect → Verdict
verdict_by Passes = Told None
verdict_by (Refuses r) = Told (Some r)
verdict_by (Brings e) = ByActs

-- the line's reply is the one that is told, or comes by its acts
abbrev pub IsVerdict : Params → List Line → Line → Verdict → Type 0
IsVerdict p past line (Told r) = reply_of p past line ≡ r
IsVerdict p past line ByActs = reply_of p past line ≡ Some (reply_after line.op (acts_at p past line))
