use Rattle.std.proofs.Common.{◌≡◌, ◌≤◌, take}
use Rattle.nud_machine.specs.Asked.{greatest}
use Rattle.nb_journal.specs.Lawful.{last_pass}
use Rattle.journal_check.proofs.forcing.last_pass.Given as goal

abbrev pub invariant-loop-place : goal.invariant-loop-place
invariant-loop-place l = record {
  value : l.last ≡ last_pass l.params (take l.place l.lines);
  within : l.last ≤ greatest;
}
