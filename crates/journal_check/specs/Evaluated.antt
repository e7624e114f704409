-- The journals that the plain evaluator takes, and the tests by which it decides whether they are lawful (this project's own).
use Rattle.std.specs.Prelude.{◌≡◌, ◌+◌, ◌%◌, ◌<◌, ◌≤◌, ◌^◌, ℕ, Bool, true, false, ◌&&◌, ◌||◌, not, ◌==◌, nat_le, nat_lt, is_none, is_some, if◌then◌else◌, List, [], ◌∷◌, ◌++◌, length, drop, Option, Some, None}
use Rattle.std.specs.List.{list_all}
use Rattle.std.specs.Option.{option_map_or}
use Rattle.nb_base.specs.declared.key.Key.{Key}
use Rattle.nb_base.specs.declared.params.Params.{Params}
use Rattle.nb_base.specs.declared.op.Op.{Op}
use Rattle.nb_base.specs.declared.op.Op.TheVariants as op
use Rattle.nb_base.specs.declared.line.Line.{Line}
use Rattle.nud_machine.specs.Asked.{greatest}
use Rattle.nb_journal.specs.Keys.{is_key, is_own}
use Rattle.nb_journal.specs.Fold.{effect, state_of, known_keys, rank_of, is_present, present_count}
use Rattle.nb_journal.specs.Lawful.{EachLine, due_of, last_moment, IsSweepMoment, is_before_sweep, before_sweep, base_of, brings_event, looks, asked_of_pass, full_of}
use Rattle.nb_journal.specs.Steps.{is_line_of_run, IsStep}

-- lines of a run, of which there are fewer than 2^32, and a clock of one
abbrev pub is_of_run : List Line → ℕ → Bool
is_of_run lines clock = nat_le clock greatest && (nat_lt (length lines) (2 ^ 32) && list_all is_line_of_run lines)

-- the journals that can be evaluated: the machine can step over each line, and they are fewer than 2^32
pub record IsEvaluable (p : Params) (lines : List Line) : Type 0 where
  pub few : length lines < 2 ^ 32
  pub steps : EachLine (IsStep p) lines

-- ---- the tests by which the clauses of a lawful journal are decided, line by line

-- a due is there, at the moment
abbrev pub is_at : Option ℕ → ℕ → Bool
is_at None moment = false
is_at (Some at) moment = at == moment

-- two numbers, which may not be there, are one
abbrev pub same_number : Option ℕ → Option ℕ → Bool
same_number None None = true
same_number (Some a) (Some b) = a == b
same_number _ _ = false

-- ---- dues

-- a due, where it is there, lies at the moment or behind it
abbrev pub is_from : ℕ → Option ℕ → Bool
is_from moment due = option_map_or (λ at. nat_le moment at) due true

-- no known key has a due before the moment
abbrev pub none_before : Params → List Line → ℕ → Bool
none_before p lines moment = list_all (λ key. is_from moment (due_of p lines key)) (known_keys lines)

-- a key whose due is at the moment doesn't stand before another of this rank
abbrev pub yields : ℕ → ℕ → Option ℕ → ℕ → Bool
yields rank moment due other_rank = not (is_at due moment) || nat_le rank other_rank

-- the key's timer is the next
abbrev pub next_due : Params → List Line → Key → ℕ → Bool
next_due p lines key moment =
    is_at (due_of p lines key) moment
    && (none_before p lines moment && list_all (λ other. yields (rank_of lines key) moment (due_of p lines other) (rank_of lines other)) (known_keys lines))

-- a timer's line is the next
abbrev pub timer_test : Params → List Line → ℕ → Op → Bool
timer_test p past at (op.Timer key) = next_due p past key at
timer_test p past at _ = true

-- before every other line nothing is due any more
abbrev pub due_test : Params → List Line → ℕ → Op → Bool
due_test p past at (op.Timer key) = true
due_test p past at _ = none_before p past (at + 1)

-- ---- lines that the machine can step over

-- a timer's line stands at its key's due
abbrev pub at_due_test : Params → List Line → ℕ → Op → Bool
at_due_test p past at (op.Timer key) = is_at (due_of p past key) at
at_due_test p past at _ = true

-- the machine can step over the line
abbrev pub step_test : Params → List Line → Line → Bool
step_test p past line = is_line_of_run line && at_due_test p past line.at line.op

-- and over each line, behind those before it
abbrev pub all_steps : Params → List Line → List Line → Bool
all_steps p past [] = true
all_steps p past (line ∷ lines) = step_test p past line && all_steps p (past ++ line ∷ []) lines

-- ---- sweeps

-- a multiple of the interval, from one times on
abbrev pub is_sweep_moment : Params → ℕ → Bool
is_sweep_moment p u = (u % p.gc_interval == 0) && nat_lt 0 u

-- a line without an id and without `full`
abbrev pub is_bare : Line → Bool
is_bare line = is_none line.id && is_none line.full

-- a sweep's line stands at a sweep's moment, is bare but for what it saw, and has only lines before it that stand before a sweep
abbrev pub sweep_test : Params → List Line → Line → Op → Bool
sweep_test p past line op.Sweep = (is_sweep_moment p line.at && (is_bare line && is_some line.seen)) && list_all (is_before_sweep line.at) past
sweep_test p past line _ = true

-- the line of a sweep at the moment
abbrev pub is_sweep_at : ℕ → Line → Op → Bool
is_sweep_at u line op.Sweep = (line.at == u) && (is_bare line && is_some line.seen)
is_sweep_at u line _ = false

-- the first of the lines is a sweep's at the moment
abbrev pub begins_with_sweep : ℕ → List Line → Bool
begins_with_sweep u [] = false
begins_with_sweep u (line ∷ lines) = is_sweep_at u line line.op

-- behind the first so many lines a sweep at the moment stands
abbrev pub sweep_stands : ℕ → List Line → ℕ → Bool
sweep_stands u lines n = begins_with_sweep u (drop n lines)

-- at each multiple of the interval up to the clock a sweep stands behind the lines before it
abbrev pub SweepsStand : Params → List Line → ℕ → Type 0
SweepsStand p lines clock = (u : ℕ) → IsSweepMoment p u → u ≤ clock → sweep_stands u lines (length (before_sweep u lines)) ≡ true

-- ---- what lines saw

-- two answers are one
abbrev pub same_answer : Bool → Bool → Bool
same_answer a b = if a then b else not b

-- what was seen, where it is there, is at least the number
abbrev pub is_enough : ℕ → Option ℕ → Bool
is_enough present seen = option_map_or (λ n. nat_le present n) seen true

-- exactly a line that looks at the table has what it saw, at least the number present behind the base
abbrev pub seen_test : Params → List Line → Line → Bool
seen_test p past line = same_answer (is_some line.seen) (looks p (base_of past) line) && is_enough (present_count p (base_of past)) line.seen

-- ---- forced passes

-- an own line would make an entry for the key behind the base
abbrev pub makes : Params → List Line → Line → Key → Bool
makes p base line key = is_own line.op && not (is_present p base key) && brings_event (effect p line (state_of p base key) line.op)

-- an operation that collects the key
abbrev pub collects_key : Key → Op → Bool
collects_key key (op.Collect named) = is_key named key
collects_key key _ = false

-- a line is the collect of the key at the moment
abbrev pub is_collect_of : ℕ → Key → Line → Bool
is_collect_of at key line = (line.at == at) && ((is_bare line && is_none line.seen) && collects_key key line.op)

-- the lines are the collects of the keys
abbrev pub are_collects : ℕ → List Line → List Key → Bool
are_collects at [] [] = true
are_collects at (line ∷ lines) (key ∷ keys) = is_collect_of at key line && are_collects at lines keys
are_collects at _ _ = false

-- how many lines there are without the collect lines at their end
abbrev pub base_length : List Line → ℕ
base_length lines = length (base_of lines)

-- no collect line stands at the end
abbrev pub ends_bare : List Line → Bool
ends_bare lines = base_length lines == length lines

-- before an own line stand exactly its collect lines; before a timer and a sweep none
abbrev pub pass_test : Params → List Line → Line → Op → Bool
pass_test p past line (op.Timer key) = ends_bare past
pass_test p past line op.Sweep = ends_bare past
pass_test p past line (op.Collect key) = true
pass_test p past line _ = are_collects line.at (drop (base_length past) past) (asked_of_pass p (base_of past) line)

-- ---- a line, and all lines

-- what is asked of a line by its moment and its id
abbrev pub stamp_test : List Line → Line → Bool
stamp_test past line = nat_le (last_moment past) line.at && (if is_own line.op then is_some line.id else is_none line.id)

-- by its moment, its id, its timer and the dues
abbrev pub time_test : Params → List Line → Line → Bool
time_test p past line = stamp_test past line && (timer_test p past line.at line.op && due_test p past line.at line.op)

-- by the sweeps, by what it saw, the forced passes and `full`
abbrev pub number_test : Params → List Line → Line → Bool
number_test p past line = (sweep_test p past line line.op && seen_test p past line) && (pass_test p past line line.op && same_number line.full (full_of p past line))

-- a line fits behind the past
abbrev pub fit_test : Params → List Line → Line → Bool
fit_test p past line = time_test p past line && number_test p past line

-- each line fits behind those before it
abbrev pub all_fit : Params → List Line → List Line → Bool
all_fit p past [] = true
all_fit p past (line ∷ lines) = fit_test p past line && all_fit p (past ++ line ∷ []) lines

-- no collect line stands at the end, the moments are at most the clock, and no due is
abbrev pub ends_by : Params → List Line → ℕ → Bool
ends_by p lines clock = (ends_bare lines && nat_le (last_moment lines) clock) && none_before p lines (clock + 1)

-- all of these tests pass
pub record PassesTests (p : Params) (lines : List Line) (clock : ℕ) : Type 0 where
  pub fits : all_fit p [] lines ≡ true
  pub ends : ends_by p lines clock ≡ true
  pub sweeps : SweepsStand p lines clock
