use Rattle.std.proofs.Common.{◌≡◌, [], take, drop}
use Rattle.nb_journal.specs.Lawful.{EachLine}
use Rattle.nb_journal.specs.Steps.{IsStep}
use Rattle.journal_check.specs.Evaluated.{all_steps}
use Rattle.journal_check.proofs.evaluate.are_steps.Given as goal

abbrev pub invariant-loop-place : goal.invariant-loop-place
invariant-loop-place l = record {
  all : all_steps l.params (take l.place l.lines) (drop l.place l.lines) ≡ all_steps l.params [] l.lines;
  steps : EachLine (IsStep l.params) (take l.place l.lines);
}
