use Rattle.std.proofs.Common.{◌≡◌, [], take, drop}
use Rattle.nb_journal.specs.Lawful.{EachLine}
use Rattle.nb_journal.specs.Steps.{IsStep}
use Rattle.journal_check.specs.Evaluated.{all_fit}
use Rattle.journal_check.proofs.deciding.all_fit.Given as goal

abbrev pub invariant-loop-place : goal.invariant-loop-place
invariant-loop-place l = record {
  fits : all_fit l.params (take l.place l.lines) (drop l.place l.lines) ≡ all_fit l.params [] l.lines;
  steps : EachLine (IsStep l.params) (take l.place l.lines);
}
