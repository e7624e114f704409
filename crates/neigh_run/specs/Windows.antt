-- The windows of a plan that have items, and the marks of a run with a thread for each participant (this project's own).
use Rattle.std.specs.Prelude.{◌≡◌, ℕ, ◌*◌, ◌/◌, false, ◌==◌, nat_lt, if◌then◌else◌, List, [], ◌∷◌, ◌++◌, map, flat_map, fold, length, Option, Some, None, unwrap_or, slice_index_or}
use Rattle.std.specs.Option.{option_map_or}
use Rattle.std.specs.List.{AllByRecursion}
use Rattle.nb_base.specs.declared.line.Line.{Line}
use Rattle.nb_base.specs.declared.host_line.Mark.{Mark}
use Rattle.nb_base.specs.declared.plan.Plan.{Plan}
use Rattle.neigh_run.specs.Plan.{RisesFrom, control_at, send_at}

-- ---- windows

-- a moment's window: the moment divided by the window's length, rounded down
abbrev pub window_of : Plan → ℕ → ℕ
window_of plan at = at / plan.window

-- the first moment of a moment's window
abbrev pub window_start : Plan → ℕ → ℕ
window_start plan at = window_of plan at * plan.window

-- one number more among rising ones, unless it is there
abbrev pub insert_once : ℕ → List ℕ → List ℕ
insert_once x [] = x ∷ []
insert_once x (y ∷ ys) = if x == y then y ∷ ys else (if nat_lt x y then x ∷ y ∷ ys else y ∷ insert_once x ys)

-- the moments of all items, whether they have an operation or not
abbrev pub item_moments : Plan → List ℕ
item_moments plan = map control_at plan.control ++ flat_map (map send_at) plan.senders

-- the numbers of the windows that have items, rising
unfoldable pub windows : Plan → List ℕ
windows plan = fold (λ ws at. insert_once (window_of plan at) ws) [] (item_moments plan)

-- their first moments
abbrev pub starts : Plan → List ℕ
starts plan = map (λ w. w * plan.window) (windows plan)

-- the moments of the marks of a run: one for each window that has items, and none for the mark at the end
abbrev pub mark_starts : Plan → List (Option ℕ)
mark_starts plan = map Some (starts plan) ++ None ∷ []

-- ---- marks

-- how many lines bucket b's journal has at a mark
abbrev pub length_at : ℕ → Mark → ℕ
length_at b mark = slice_index_or mark.lengths b 0

-- the lengths at the last mark
abbrev pub last_lengths : List Mark → List ℕ
last_lengths [] = []
last_lengths (mark ∷ []) = mark.lengths
last_lengths (mark ∷ next ∷ marks) = last_lengths (next ∷ marks)

-- the moment at which the last window begins, or 0
abbrev pub last_start : List Mark → ℕ
last_start marks = fold (λ (at : ℕ) (mark : Mark). unwrap_or mark.start at) 0 marks

-- the marks from the one with this moment on
abbrev pub marks_from : ℕ → List Mark → List Mark
marks_from start [] = []
marks_from start (mark ∷ marks) = if option_map_or (λ at. at == start) mark.start false then mark ∷ marks else marks_from start marks

-- bucket b's length at the first of these marks, and at the one behind it
abbrev pub first_length : ℕ → List Mark → ℕ
first_length b [] = 0
first_length b (mark ∷ marks) = length_at b mark

abbrev pub second_length : ℕ → List Mark → ℕ
second_length b [] = 0
second_length b (mark ∷ marks) = first_length b marks

-- the marks from that of an item's window on: a window's two marks are the first, its own, and the next
abbrev pub marks_of : Plan → List Mark → ℕ → List Mark
marks_of plan marks at = marks_from (window_start plan at) marks

-- how many lines bucket b has at the own mark of an item's window, and at the next
abbrev pub own_length : Plan → List Mark → ℕ → ℕ → ℕ
own_length plan marks b at = first_length b (marks_of plan marks at)

abbrev pub next_length : Plan → List Mark → ℕ → ℕ → ℕ
next_length plan marks b at = second_length b (marks_of plan marks at)

-- a mark for each window that has items, in order, at the window's first moment, and one at the end; each has a length for each bucket, which never fall from mark to mark, and the last are the journals'
pub record AreMarks (plan : Plan) (journals : List (List Line)) (marks : List Mark) : Type 0 where
  pub starts_are : map (λ (mark : Mark). mark.start) marks ≡ mark_starts plan
  pub buckets : AllByRecursion (λ (mark : Mark). length mark.lengths ≡ plan.buckets) marks
  pub rises : (b : ℕ) → RisesFrom 0 (map (length_at b) marks)
  pub last : last_lengths marks ≡ map length journals
