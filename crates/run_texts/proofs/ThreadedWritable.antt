-- A run with a thread for each participant, of a plan that can be played, can be written.
use Rattle.std.proofs.Common.{◌≡◌, ℕ, ◌+◌, ◌*◌, ◌≤◌, max, Bool, true, false, is_some, if◌then◌else◌, List, [], ◌∷◌, ◌++◌, map, refl, sym, ◌∙◌, ap, subst, arith, append-nil}
use Rattle.std.specs.Prelude.{◌==◌, nat_lt, Option, Some, None, IfSome, flat_map, fold, unwrap_or}
use Rattle.std.specs.List.{AllByRecursion}
use Rattle.std.proofs.Math.Nat.{div-mul-le_self}
use Rattle.std.proofs.lemmas.Bool.{false≢true}
use Rattle.std.proofs.lemmas.List.Elements.{filter-append}
use Rattle.nb_base.specs.declared.time.OpId.{OpId}
use Rattle.nb_base.specs.declared.op.Op.{Op}
use Rattle.nb_base.specs.declared.line.Line.{Line}
use Rattle.nb_base.specs.declared.host_line.Mark.{Mark}
use Rattle.nb_base.specs.declared.plan.Plan.{Plan}
use Rattle.nb_base.specs.declared.plan.SendItem.{SendItem}
use Rattle.nud_machine.specs.Asked.{greatest}
use Rattle.nb_journal.specs.Keys.{is_own, may_be_asked}
use Rattle.nb_journal.specs.Lawful.{each_line, last_moment}
use Rattle.nb_journal.specs.Accounts.{own_lines}
use Rattle.nb_journal.proofs.Lines.{last_moment-snoc}
use Rattle.neigh_run.specs.declared.run.Run.{Run}
use Rattle.neigh_run.specs.Plan.{control_at, send_at}
use Rattle.neigh_run.specs.Windows.{window_of, insert_once, item_moments, windows, starts, mark_starts, last_start}
use Rattle.neigh_run.specs.Threaded.{EachJournal, IsLawfulAtMarks, HasItsLines, EndsWithOperations, IsThreadedRun}
use Rattle.run_texts.specs.Laws.{IsPlayable, ThreadedRunsAreWritable}
use Rattle.run_texts.proofs.Lists.{all-append, each_line-all}
use Rattle.run_texts.proofs.Named.{AreNumbered}
use Rattle.run_texts.proofs.Participants.{IsFrom, HasSource, each-source, own-few}
use Rattle.run_texts.proofs.Played.{IsPlayed, ops-played, ops-few}
use Rattle.run_texts.proofs.Writable.{IsPlayedLine, played-moments, IsPlayedJournal, played-writable}
use Rattle.run_texts.proofs.Threaded.{last-is}

-- ---- operations' lines

-- the operations' lines among these are of played operations, and so are those before them, whose last moment isn't late
lines-played : (plan : Plan) (marks : List Mark) (b : ℕ) (past lines : List Line) → last_moment (own_lines past) ≤ greatest → AreNumbered lines → each_line (HasSource plan marks b IsPlayed) past lines → AllByRecursion IsPlayedLine (own_lines lines)
lines-played plan marks b past [] early ids h = tt
lines-played plan marks b past (l ∷ ls) early ids h = by_test (is_own l.op) refl (λ before. lines-played plan marks b (past ++ l ∷ []) ls before ids.1 h.1) where
  from : (o : Option OpId) → is_some o ≡ true → IfSome o (λ id. IsFrom plan marks b IsPlayed (record { past = past; line = l })) → IsPlayedLine l
  from None numbered source = absurd (false≢true numbered)
  from (Some id) numbered source =
      let moment : l.at ≡ max source.0.at (last_moment (own_lines past)) = source.1.moment in
      let given = source.2.at in
      let at : l.at ≤ greatest = omega (arith, moment, given, early) in
      record { at = at; asked = subst (λ (o : Op). may_be_asked o ≡ true) (sym source.1.op) source.2.asked }

  own_then : (own : Bool) → is_own l.op ≡ own → own_lines (past ++ l ∷ []) ≡ own_lines past ++ (if own then l ∷ [] else [])
  own_then own e = filter-append (λ (line : Line). is_own line.op) past (l ∷ []) ∙ ap (λ (t : Bool). own_lines past ++ (if t then l ∷ [] else [])) e

  by_test : (own : Bool) → is_own l.op ≡ own → (last_moment (own_lines (past ++ l ∷ [])) ≤ greatest → AllByRecursion IsPlayedLine (own_lines ls)) → AllByRecursion IsPlayedLine (if own then l ∷ own_lines ls else own_lines ls)
  by_test true e rest =
      let here = from l.id (ids.0 ∙ e) h.0 in
      let last = ap last_moment (own_then true e) ∙ last_moment-snoc (own_lines past) l in
      let at : l.at ≤ greatest = here.at in
      (here, rest (omega (arith, last, at)))
  by_test false e rest =
      let last = ap last_moment (own_then false e ∙ append-nil (own_lines past)) in
      rest (omega (arith, last, early))

last-early : (lines : List Line) → AllByRecursion (λ (l : Line). l.at ≤ greatest) lines → last_moment lines ≤ greatest
last-early [] h = omega arith
last-early (l ∷ []) h = h.0
last-early (l ∷ next ∷ lines) h = last-early (next ∷ lines) h.1

-- ---- marks

abbrev IsEarly : ℕ → Type 0
IsEarly at = at ≤ greatest

-- a window that starts early
abbrev StartsEarly : Plan → ℕ → Type 0
StartsEarly plan w = w * plan.window ≤ greatest

insert-early : (plan : Plan) (w : ℕ) (ws : List ℕ) → StartsEarly plan w → AllByRecursion (StartsEarly plan) ws → AllByRecursion (StartsEarly plan) (insert_once w ws)
insert-early plan w [] le all = (le, tt)
insert-early plan w (x ∷ ws) le all = by_tests (w == x) (nat_lt w x) (insert-early plan w ws le all.1) where
  by_tests : (same less : Bool) → AllByRecursion (StartsEarly plan) (insert_once w ws) → AllByRecursion (StartsEarly plan) (if same then x ∷ ws else (if less then w ∷ x ∷ ws else x ∷ insert_once w ws))
  by_tests true less rest = all
  by_tests false true rest = (le, all)
  by_tests false false rest = (all.0, rest)

windows-from : (plan : Plan) (ws moments : List ℕ) → AllByRecursion (StartsEarly plan) ws → AllByRecursion IsEarly moments → AllByRecursion (StartsEarly plan) (fold (λ (ws : List ℕ) (at : ℕ). insert_once (window_of plan at) ws) ws moments)
windows-from plan ws [] all early = all
windows-from plan ws (at ∷ moments) all early =
    let le = early.0 in
    let start = div-mul-le_self at plan.window in
    windows-from plan (insert_once (window_of plan at) ws) moments (insert-early plan (window_of plan at) ws (omega (arith, le, start)) all) early.1

map-early : {A : Type 0} (f : A → ℕ) (xs : List A) → AllByRecursion (λ x. f x ≤ greatest) xs → AllByRecursion IsEarly (map f xs)
map-early f [] h = tt
map-early f (x ∷ xs) h = (h.0, map-early f xs h.1)

senders-early : (senders : List (List SendItem)) → AllByRecursion (AllByRecursion (λ (item : SendItem). item.at ≤ greatest)) senders → AllByRecursion IsEarly (flat_map (map send_at) senders)
senders-early [] h = tt
senders-early (items ∷ senders) h = all-append IsEarly (map send_at items) (flat_map (map send_at) senders) (map-early send_at items h.0) (senders-early senders h.1)

moments-early : (plan : Plan) → IsPlayable plan → AllByRecursion IsEarly (item_moments plan)
moments-early plan play = all-append IsEarly (map control_at plan.control) (flat_map (map send_at) plan.senders) (map-early control_at plan.control play.control) (senders-early plan.senders play.senders)

windows-early : (plan : Plan) → IsPlayable plan → AllByRecursion (StartsEarly plan) (windows plan)
unfolding windows
windows-early plan play = windows-from plan [] (item_moments plan) tt (moments-early plan play)

last_of-early : (m : ℕ) (ats : List ℕ) → m ≤ greatest → AllByRecursion IsEarly ats → fold (λ (at : ℕ) (start : Option ℕ). unwrap_or start at) m (map Some ats ++ None ∷ []) ≤ greatest
last_of-early m [] le all = le
last_of-early m (at ∷ ats) le all = last_of-early at ats all.0 all.1

-- the last window begins at a moment of a run
start-early : (plan : Plan) (run : Run) → IsPlayable plan → IsThreadedRun plan run → last_start run.marks ≤ greatest
start-early plan run play h =
    subst (λ at. at ≤ greatest) (sym (last-is run.marks (mark_starts plan) h.marks.starts_are))
    (last_of-early 0 (starts plan) (omega arith) (map-early (λ w. w * plan.window) (windows plan) (windows-early plan play)))

-- ---- the run

-- a journal is lawful at the later of its last moment and that at which the last window begins, and ends with its operations
journal-played : (plan : Plan) (run : Run) (b : ℕ) (journal : List Line) → IsPlayable plan → last_start run.marks ≤ greatest → IsLawfulAtMarks plan.params run.marks b journal → HasItsLines plan run b journal → EndsWithOperations run.marks journal
    → IsPlayedJournal plan.params journal
journal-played plan run b journal play start lawful lines ends =
    let ids = each_line-all (λ past line. is_some line.id ≡ is_own line.op) (λ (l : Line). is_some l.id ≡ is_own l.op) [] journal (λ past line e. e) lawful.whole.orderly.ids in
    let played = lines-played plan run.marks b [] journal (omega arith) ids (each-source IsPlayed plan run b journal (ops-played plan play) lines) in
    let last = last-early (own_lines journal) (played-moments (own_lines journal) played) in
    let own = own-few plan run b journal ids lines in
    let few = ops-few plan play.limits in
    record {
      clock = max (last_start run.marks) (last_moment journal);
      lawful = lawful.whole;
      early = omega (arith, start, last, ends);
      few = omega (arith, own, few);
      played = played;
    }

each-played : (plan : Plan) (run : Run) (b : ℕ) (js : List (List Line)) → IsPlayable plan → last_start run.marks ≤ greatest → EachJournal (IsLawfulAtMarks plan.params run.marks) b js → EachJournal (HasItsLines plan run) b js
    → AllByRecursion (EndsWithOperations run.marks) js → AllByRecursion (IsPlayedJournal plan.params) js
each-played plan run b [] play start lawful lines ends = tt
each-played plan run b (j ∷ js) play start lawful lines ends = (journal-played plan run b j play start lawful.0 lines.0 ends.0, each-played plan run (b + 1) js play start lawful.1 lines.1 ends.1)

pub threaded_writable : ThreadedRunsAreWritable
threaded_writable plan run play h = played-writable plan run play h.plan h.buckets (each-played plan run 0 run.journals play (start-early plan run play h) h.lawful h.lines h.ends) h.order
