-- An operation on its way into the journal. This project's own.
use Rattle.std.specs.Prelude.{◌≡◌, is_some, List}
use Rattle.nb_base.specs.declared.key.Key.{Key}
use Rattle.nb_base.specs.declared.params.Params.{Params}
use Rattle.nb_base.specs.declared.line.Line.{Line}
use Rattle.nb_journal.specs.Lawful.{making, has_pass, asked_of_pass}
use Rattle.nb_bucket.specs.declared.passing.Planned.{Planned}

-- the bare line with what it saw
abbrev pub planned_line : Line → Planned → Line
planned_line bare plan = record bare { seen = plan.seen }

-- the line looks exactly where it is to make an entry; the key for which it does, its forced pass, and the keys that this takes
pub record IsPlanned (p : Params) (lines : List Line) (bare : Line) (plan : Planned) (victims : List Key) : Type 0 where
  pub there : is_some plan.seen ≡ is_some plan.made
  pub made_is : plan.made ≡ making p lines (planned_line bare plan)
  pub pass_is : plan.pass ≡ has_pass p lines (planned_line bare plan)
  pub victims_are : victims ≡ asked_of_pass p lines (planned_line bare plan)
