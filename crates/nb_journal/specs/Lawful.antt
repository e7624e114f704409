-- The journals that a bucket may have, in six clauses (the rules of a bucket are this project's own, after Linux: neigh_timer_handler, neigh_periodic_work, neigh_forced_gc).
use Rattle.std.specs.Prelude.{◌≡◌, ℕ, ◌+◌, ◌-◌, ◌*◌, ◌<◌, ◌≤◌, Bool, true, false, ◌||◌, ◌&&◌, not, ◌==◌, nat_lt, nat_le, if◌then◌else◌, is_some, List, [], ◌∷◌, ◌++◌, map, filter, length, Option, Some, None, IfSome}
use Rattle.std.specs.Option.{option_to_list}
use Rattle.nb_base.specs.declared.key.Key.{Key}
use Rattle.nb_base.specs.declared.nud.Nud.TheVariants as nud
use Rattle.nb_base.specs.declared.params.Params.{Params}
use Rattle.nb_base.specs.declared.op.Op.{Op}
use Rattle.nb_base.specs.declared.op.Op.TheVariants as op
use Rattle.nb_base.specs.declared.line.Line.{Line}
use Rattle.nud_machine.specs.State.{State, same_nud}
use Rattle.nb_journal.specs.Keys.{key_of, is_own, is_timer, is_sweep}
use Rattle.nb_journal.specs.Fold.{Effect, Brings, effect, seen_of, is_loose, has_waiting, is_past, state_of, rank_of, is_present, present_count}

-- P holds of each of the lines with the lines before it, of which the past are the first
abbrev pub each_line : (List Line → Line → Type 0) → List Line → List Line → Type 0
each_line P past [] = Unit {0}
each_line P past (line ∷ lines) = P past line × each_line P (past ++ line ∷ []) lines

-- P holds of each line of a journal with the lines before it
abbrev pub EachLine : (List Line → Line → Type 0) → List Line → Type 0
EachLine P journal = each_line P [] journal

-- a value that each line changes, seen with the lines before it, of which the past are the first
abbrev pub fold_lines : {A : Type 0} → (A → List Line → Line → A) → A → List Line → List Line → A
fold_lines f a past [] = a
fold_lines f a past (line ∷ lines) = fold_lines f (f a past line) (past ++ line ∷ []) lines

-- the moment of the last line, or 0
abbrev pub last_moment : List Line → ℕ
last_moment [] = 0
last_moment (line ∷ []) = line.at
last_moment (line ∷ next ∷ lines) = last_moment (next ∷ lines)

-- a line of the bucket's own, which has no id and makes nothing
abbrev pub bare_line : ℕ → Op → Option ℕ → Line
bare_line at o seen = record { at = at; id = None; op = o; seen = seen; full = None }

-- ---- dues

-- a key's due behind a journal
abbrev pub due_of : Params → List Line → Key → Option ℕ
due_of p journal key = (state_of p journal key).entry.due

-- every due lies behind the moment
abbrev pub NothingDue : Params → List Line → ℕ → Type 0
NothingDue p journal moment = (key : Key) → IfSome (due_of p journal key) (λ due. moment < due)

-- every due lies at the moment or behind it
abbrev pub NothingOverdue : Params → List Line → ℕ → Type 0
NothingOverdue p journal moment = (key : Key) → IfSome (due_of p journal key) (λ due. moment ≤ due)

-- the key's timer is the next: it has the least due, and among equal dues the least rank
pub record IsNextDue (p : Params) (journal : List Line) (key : Key) (moment : ℕ) : Type 0 where
  pub due : due_of p journal key ≡ Some moment
  pub least : NothingOverdue p journal moment
  pub first : (other : Key) → due_of p journal other ≡ Some moment → rank_of journal key ≤ rank_of journal other

-- a timer's line is the next
abbrev pub IsTimersTurn : Params → List Line → ℕ → Op → Type 0
IsTimersTurn p past at (op.Timer key) = IsNextDue p past key at
IsTimersTurn p past at _ = Unit {0}

-- before every other line nothing is due any more
abbrev pub PassesNoDue : Params → List Line → ℕ → Op → Type 0
PassesNoDue p past at (op.Timer key) = Unit {0}
PassesNoDue p past at _ = NothingDue p past at

-- ---- sweeps

-- a multiple of the sweep interval, from one times on
abbrev pub IsSweepMoment : Params → ℕ → Type 0
IsSweepMoment p u = (n : ℕ) × (u ≡ (n + 1) * p.gc_interval)

-- a line below the moment, or a timer's line at it, stands before a sweep at it
abbrev pub is_before_sweep : ℕ → Line → Bool
is_before_sweep u line = nat_lt line.at u || (line.at == u && is_timer line.op)

-- the lines that stand before a sweep at the moment
abbrev pub before_sweep : ℕ → List Line → List Line
before_sweep u journal = filter (is_before_sweep u) journal

-- a sweep's line, with what it saw
abbrev pub sweep_line : ℕ → ℕ → Line
sweep_line u seen = bare_line u op.Sweep (Some seen)

-- a sweep at the moment stands right behind the lines before it
abbrev pub HasSweep : ℕ → List Line → Type 0
HasSweep u journal = (seen : ℕ) × (rest : List Line) × (journal ≡ before_sweep u journal ++ sweep_line u seen ∷ rest)

-- a sweep line is one of those, at its moment
pub record IsSweepInPlace (p : Params) (journal past : List Line) (line : Line) : Type 0 where
  pub moment : IsSweepMoment p line.at
  pub line_is : line ≡ sweep_line line.at (seen_of line)
  pub behind : past ≡ before_sweep line.at journal

-- no sweep line stands elsewhere
abbrev pub HasNoOtherSweep : Params → List Line → Type 0
HasNoOtherSweep p journal = (past rest : List Line) (line : Line) → journal ≡ past ++ line ∷ rest → line.op ≡ op.Sweep → IsSweepInPlace p journal past line

-- ---- making and forced passes

-- a collect line
abbrev pub is_collect : Op → Bool
is_collect (op.Collect key) = true
is_collect _ = false

-- the lines without the collect lines at their end
abbrev pub base_of : List Line → List Line
base_of [] = []
base_of (line ∷ lines) = add_to line (base_of lines)
  where
    add_to : Line → List Line → List Line
    add_to line [] = if is_collect line.op then [] else line ∷ []
    add_to line (next ∷ rest) = line ∷ next ∷ rest

-- an effect that brings an event
abbrev pub brings_event : Effect → Bool
brings_event (Brings e) = true
brings_event _ = false

-- the key for which an own line would make an entry, where its entry is absent behind the base
abbrev pub made_by : Params → List Line → Line → Option Key → Option Key
made_by p base line None = None
made_by p base line (Some key) =
    if is_own line.op && not (is_present p base key) && brings_event (effect p line (state_of p base key) line.op) then Some key else None

-- the same for the key that the line names
abbrev pub making : Params → List Line → Line → Option Key
making p base line = made_by p base line (key_of line.op)

-- a line that looks at the whole table: a sweep's, or one that is to make an entry
abbrev pub looks : Params → List Line → Line → Bool
looks p base line = is_sweep line.op || is_some (making p base line)

-- exactly such a line has what it saw, at least the number present before it and its collect lines
pub record HasSeen (p : Params) (base : List Line) (line : Line) : Type 0 where
  pub there : is_some line.seen ≡ looks p base line
  pub enough : IfSome line.seen (λ seen. present_count p base ≤ seen)

-- how long no forced pass follows another one in a table that isn't full, and how long an entry that changed is kept by one
abbrev pub pass_millis : ℕ
pass_millis = 5_000

-- a forced pass is due, from what the line saw and the moment of the last pass
abbrev pub is_pass_due : Params → ℕ → ℕ → ℕ → Bool
is_pass_due p seen last at = nat_le p.gc_thresh3 seen || (nat_le p.gc_thresh2 seen && nat_lt (last + pass_millis) at)

-- a making line whose pass was due
abbrev pub pass_after : Params → ℕ → List Line → Line → ℕ
pass_after p last past line = if is_some (making p (base_of past) line) && is_pass_due p (seen_of line) last line.at then line.at else last

-- the moment of the last one, or 0
unfoldable pub last_pass : Params → List Line → ℕ
last_pass p journal = fold_lines (pass_after p) 0 [] journal

-- a line takes away what it removes, and a key that it makes goes last
abbrev pub order_after : Params → List Key → List Line → Line → List Key
order_after p keys past line =
    filter (is_present p (past ++ line ∷ [])) keys ++ (if is_some line.full then [] else option_to_list (making p (base_of past) line))

-- the present keys in the order in which they were last made
unfoldable pub making_order : Params → List Line → List Key
making_order p journal = fold_lines (order_after p) [] [] journal

-- a forced pass removes the entry: loose, no packet waits, and FAILED or unchanged for more than five seconds
abbrev pub is_collectable : ℕ → State → Bool
is_collectable at s = is_loose s && not (has_waiting s) && (same_nud s.entry.nud nud.Failed || is_past at (Some s.entry.updated) pass_millis)

-- those that it takes, in order, until fewer than the limit are left of those that were seen; the number is tested before each
abbrev pub collected : ℕ → ℕ → (Key → Bool) → List Key → List Key
collected limit seen takes [] = []
collected limit seen takes (key ∷ keys) =
    if nat_lt seen limit then []
    else (if takes key then key ∷ collected limit (seen - 1) takes keys else collected limit seen takes keys)

-- the pass of a line behind the base is due
abbrev pub has_pass : Params → List Line → Line → Bool
has_pass p base line = is_some (making p base line) && is_pass_due p (seen_of line) (last_pass p base) line.at

-- the keys that the pass before a line takes
abbrev pub taken_by_pass : Params → List Line → Line → List Key
taken_by_pass p base line = collected p.gc_thresh2 (seen_of line) (λ key. is_collectable line.at (state_of p base key)) (making_order p base)

-- the keys of the collect lines that a line asks for
abbrev pub asked_of_pass : Params → List Line → Line → List Key
asked_of_pass p base line = if has_pass p base line then taken_by_pass p base line else []

-- the line by which a forced pass removes a key
abbrev pub collect_line : ℕ → Key → Line
collect_line at key = bare_line at (op.Collect key) None

-- the collect lines that stand right before an own line
abbrev pub collects : Params → List Line → Line → List Line
collects p base line = map (collect_line line.at) (asked_of_pass p base line)

-- before an own line stand exactly its collect lines; before a timer and a sweep none
abbrev pub HasItsPass : Params → List Line → Line → Op → Type 0
HasItsPass p past line (op.Timer key) = base_of past ≡ past
HasItsPass p past line op.Sweep = base_of past ≡ past
HasItsPass p past line (op.Collect key) = Unit {0}
HasItsPass p past line _ = past ≡ base_of past ++ collects p (base_of past) line

-- what a line saw, less its collect lines, which stand at the end of the lines before it
abbrev pub left_of_seen : List Line → Line → ℕ
left_of_seen past line = seen_of line - (length past - length (base_of past))

-- that number, where it is in the way of a making line
abbrev pub full_of : Params → List Line → Line → Option ℕ
full_of p past line =
    if is_some (making p (base_of past) line) && nat_le p.gc_thresh3 (left_of_seen past line) then Some (left_of_seen past line) else None

-- ---- lawful journals

-- what holds of a journal whatever the clock
pub record IsOrderly (p : Params) (journal : List Line) : Type 0 where
  -- 1. moments never fall, and exactly the bucket's own lines have no id
  pub moments : EachLine (λ past line. last_moment past ≤ line.at) journal
  pub ids : EachLine (λ past line. is_some line.id ≡ is_own line.op) journal
  -- 2. a timer's line names the key whose due is the next, at its due
  pub timers : EachLine (λ past line. IsTimersTurn p past line.at line.op) journal
  -- 3. before every other line no key has a due of at most its moment
  pub dues : EachLine (λ past line. PassesNoDue p past line.at line.op) journal
  -- 4. no sweep line stands but in its place
  pub sweeps_only : HasNoOtherSweep p journal
  -- 4. and 5. sweep lines and making lines, and no others, have what they saw, at least the number present before them and their collect lines
  pub seen : EachLine (λ past line. HasSeen p (base_of past) line) journal
  -- 5. before a making line whose pass is due stand its collect lines, and there are no others
  pub passes : EachLine (λ past line. HasItsPass p past line line.op) journal
  pub passes_only : base_of journal ≡ journal
  -- 6. `full` is there exactly on a making line that saw too many entries, its collect lines taken off, and is their number
  pub full : EachLine (λ past line. line.full ≡ full_of p past line) journal

-- a journal is lawful at a clock
pub record IsLawful (p : Params) (journal : List Line) (clock : ℕ) : Type 0 where
  pub orderly : IsOrderly p journal
  -- 1. moments are at most the clock
  pub within : last_moment journal ≤ clock
  -- 3. no key has a due of at most the clock
  pub none_left : NothingDue p journal clock
  -- 4. a sweep stands at each multiple of the interval up to the clock
  pub sweeps : (u : ℕ) → IsSweepMoment p u → u ≤ clock → HasSweep u journal

-- the last line is a timer's, at the moment
abbrev pub EndsAtTimer : List Line → ℕ → Type 0
EndsAtTimer journal clock = (past : List Line) × (line : Line) × (journal ≡ past ++ line ∷ []) × (is_timer line.op ≡ true) × (line.at ≡ clock)

-- a call was refused between two lines of one moment: a key may still be due at the clock, and no sweep stands at it though its multiple of the interval may be one
pub record IsBrokenOff (p : Params) (journal : List Line) (clock : ℕ) : Type 0 where
  pub orderly : IsOrderly p journal
  pub within : last_moment journal ≤ clock
  pub ends : EndsAtTimer journal clock
  pub none_overdue : NothingOverdue p journal clock
  pub sweeps : (u : ℕ) → IsSweepMoment p u → u < clock → HasSweep u journal
  pub no_sweep_yet : HasSweep clock journal → ⊥

-- the journal is lawful at the clock, or was broken off at it by a refused call
pub data Stands (p : Params) (journal : List Line) (clock : ℕ) : Type 0 where
  Lawful : IsLawful p journal clock → Stands p journal clock
  BrokenOff : IsBrokenOff p journal clock → Stands p journal clock
