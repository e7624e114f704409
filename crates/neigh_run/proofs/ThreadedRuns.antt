-- Worked runs with a thread for each participant, which the definition accepts.
use Rattle.std.proofs.Common.{◌≡◌, ℕ, zero, suc, ◌+◌, ◌*◌, ◌<◌, ◌≤◌, true, List, [], ◌∷◌, map, Bool, false, refl, sym, ◌∙◌, ap, subst, arith}
use Rattle.std.specs.Prelude.{Some, None, IfSome}
use Rattle.nb_base.specs.declared.nud.Nud.TheVariants as nud
use Rattle.nb_base.specs.declared.key.Key.{Key}
use Rattle.nb_base.specs.declared.record.Record.{Record}
use Rattle.nb_base.specs.declared.line.Line.{Line}
use Rattle.nb_base.specs.declared.host_line.Mark.{Mark}
use Rattle.nb_base.specs.declared.plan.Plan.{Plan}
use Rattle.nb_base.specs.declared.op.Op.TheVariants as op
use Rattle.nb_base.specs.declared.line.Reply.TheVariants as reply
use Rattle.nb_base.specs.declared.outcome.Why.TheVariants as why
use Rattle.nb_base.specs.declared.outcome.Outcome.TheVariants as outcome
use Rattle.nb_base.specs.declared.host_line.HostLine.TheVariants as host_line
use Rattle.nb_base.specs.declared.plan.ControlItem.TheVariants as control
use Rattle.nb_base.specs.Params.{default_params}
use Rattle.nb_base.proofs.Defaults.{default_in_range}
use Rattle.nud_machine.specs.State.{State}
use Rattle.nud_machine.specs.Record.{unusable}
use Rattle.nb_journal.specs.Keys.{is_key, has_key}
use Rattle.nb_journal.specs.Fold.{change, state_of, known_keys, present_count, reply_of}
use Rattle.nb_journal.specs.Lawful.{due_of, NothingDue, IsLawful, last_pass, making_order}
use Rattle.nb_journal.specs.Accounts.{published}
use Rattle.nb_journal.specs.Laws.{Lawful, NoSweepBetween}
use Rattle.nb_journal.proofs.Appends.{lawful-nil}
use Rattle.nb_journal.proofs.Counts.{state_of-unknown}
use Rattle.nb_journal.proofs.GoesOn.{on_in_time}
use Rattle.nb_journal.proofs.Grows.{is_key-one}
use Rattle.nb_journal.proofs.Passes.{goes_on}
use Rattle.change_order.specs.Orders.{JournalCounts, HasPlaces, HaveOneOrder}
use Rattle.journal_counts.specs.Counts.{counts_of}
use lib.ListN.{get_elem?}
use mathlib.Core.Option.{some}
use Rattle.neigh_run.specs.declared.run.Run.{Run}
use Rattle.neigh_run.specs.Plan.{RisesFrom}
use Rattle.neigh_run.specs.Windows.{windows, length_at}
use Rattle.neigh_run.specs.Bounds.{IsInBounds}
use Rattle.neigh_run.specs.Threaded.{IsThreadedRun}
use Rattle.neigh_run.proofs.ThreadedRows.{k1, mac_a, header, send, plan_with, add_line, send_line, mark, slow, fast, suspect, run_of, permanent, two_sends, log_at, two_marks, stale, stale_sends, three_marks, own_number, own_sends, own_marks}

-- ---- what the rows have in common

-- what is due of the one key is due of all
nothing_due : (lines : List Line) (clock : ℕ) → known_keys lines ≡ k1 ∷ [] → IfSome (due_of default_params lines k1) (λ due. clock < due) → NothingDue default_params lines clock
nothing_due lines clock known here key = by_test (is_key k1 key) refl where
  by_test : (t : Bool) → is_key k1 key ≡ t → IfSome (due_of default_params lines key) (λ due. clock < due)
  by_test true e = subst (λ (k : Key). IfSome (due_of default_params lines k) (λ due. clock < due)) (is_key-one k1 key e) here
  by_test false e = subst (λ (s : State). IfSome s.entry.due (λ due. clock < due)) (sym (state_of-unknown default_params lines key (ap (λ (ks : List Key). has_key ks key) known ∙ unknown))) tt where
    unknown : has_key (k1 ∷ []) key ≡ false
    unknown = rw e refl

-- a lawful journal of the one key is so later too, before it is due and before the first sweep
later : (lines : List Line) (from clock : ℕ) → from ≤ clock → clock < 30_000 → IsLawful default_params lines from → known_keys lines ≡ k1 ∷ [] → IfSome (due_of default_params lines k1) (λ due. clock < due) → IsLawful default_params lines clock
later lines from clock le early lawful known here =
    let within = lawful.within in
    on_in_time default_params lines (from + 1) clock default_in_range (Lawful from lawful) (omega (arith, within, le)) (nothing_due lines clock known here) none
  where
    none : NoSweepBetween default_params (from + 1) (clock + 1)
    none u is low high = let at : u ≡ (is.0 + 1) * 30_000 = is.1 in omega (arith, at, high, early)

pub nil_lawful : IsLawful default_params [] 0
nil_lawful = lawful-nil default_params default_in_range

-- ---- lawful journals of the rows

permanent_one : (clock : ℕ) → clock < 30_000 → IsLawful default_params (add_line nud.Permanent ∷ []) clock
unfolding present_count known_keys state_of change is_key last_pass making_order
permanent_one clock early =
    let made = goes_on default_params [] (add_line nud.Permanent) default_in_range nil_lawful refl refl (record { there = refl; enough = omega arith }) refl in
    later (add_line nud.Permanent ∷ []) 0 clock (omega arith) early made refl tt

-- a packet to the permanent entry
permanent_two : (at id clock : ℕ) → at ≤ clock → clock < 30_000 → IsLawful default_params (add_line nud.Permanent ∷ send_line at id ∷ []) clock
unfolding present_count known_keys state_of change is_key last_pass making_order
permanent_two at id clock le early =
    let made = goes_on default_params (add_line nud.Permanent ∷ []) (send_line at id) default_in_range (permanent_one at (omega (arith, le, early))) refl refl (record { there = refl; enough = tt }) refl in
    later (add_line nud.Permanent ∷ send_line at id ∷ []) at clock le early made refl tt

-- and another one
permanent_three : (at id then next : ℕ) → at ≤ then → then < 30_000 → IsLawful default_params (add_line nud.Permanent ∷ send_line at id ∷ send_line then next ∷ []) then
unfolding present_count known_keys state_of change is_key last_pass making_order
permanent_three at id then next le early =
    goes_on default_params (add_line nud.Permanent ∷ send_line at id ∷ []) (send_line then next) default_in_range (permanent_two at id then le early) refl refl (record { there = refl; enough = tt }) refl

pub stale_one : (clock : ℕ) → clock < 30_000 → IsLawful default_params (add_line nud.Stale ∷ []) clock
unfolding present_count known_keys state_of change is_key last_pass making_order
stale_one clock early =
    let made = goes_on default_params [] (add_line nud.Stale) default_in_range nil_lawful refl refl (record { there = refl; enough = omega arith }) refl in
    later (add_line nud.Stale ∷ []) 0 clock (omega arith) early made refl tt

-- a packet to the stale entry, whose delay then runs until 5,050
pub stale_two : (clock : ℕ) → 50 ≤ clock → clock < 5_050 → IsLawful default_params (add_line nud.Stale ∷ send_line 50 33 ∷ []) clock
unfolding present_count known_keys state_of change is_key last_pass making_order
stale_two clock le early =
    let made = goes_on default_params (add_line nud.Stale ∷ []) (send_line 50 33) default_in_range (stale_one 50 (omega arith)) refl refl (record { there = refl; enough = tt }) refl in
    later (add_line nud.Stale ∷ send_line 50 33 ∷ []) 50 clock le (omega (arith, early)) made refl early

pub stale_three : IsLawful default_params stale_sends 100
unfolding present_count known_keys state_of change is_key last_pass making_order
stale_three = goes_on default_params (add_line nud.Stale ∷ send_line 50 33 ∷ []) (send_line 100 65) default_in_range (stale_two 100 (omega arith) (omega arith)) refl refl (record { there = refl; enough = tt }) refl

exactly : (n : ℕ) → IsInBounds n n n n
exactly n = record { marked = omega arith; known = omega arith; next = omega arith }

abbrev usable : Record
usable = record { usable = true; header = header }

-- one bucket, whose number of entries one line changes, and which looked before it
ordered : (counts : JournalCounts) → counts ≡ record { behind = 1 ∷ []; looked = record { before = 0; seen = 0 } ∷ [] } → HaveOneOrder (counts ∷ [])
ordered counts is = record { order = 0 ∷ []; buckets = (omega arith, tt); each = by_bucket } where
  by_bucket : (b : ℕ) (j : JournalCounts) → get_elem? (counts ∷ []) b ≡ some j → HasPlaces (counts ∷ []) (0 ∷ []) b j
  by_bucket zero j e = subst (HasPlaces (counts ∷ []) (0 ∷ []) 0) (some_is counts j e) (subst (λ (c : JournalCounts). HasPlaces (c ∷ []) (0 ∷ []) 0 c) (sym is) (record { often = refl; lengths = 0 ∷ []; rising = (omega arith, tt); lines = (record { within = omega arith; mine = refl; sum = refl }, tt) })) where
    some_is : (a b : JournalCounts) → some a ≡ some b → a ≡ b
    some_is a b e = cc
  by_bucket (suc b) j e = cc

-- ---- two senders to a permanent entry: the first packet of each goes by the lock, and two go fast

two_senders_two_fast_frames_each : IsThreadedRun permanent (run_of permanent two_sends (log_at 1 ∷ log_at 2 ∷ []) two_marks)
unfolding windows state_of change is_key known_keys reply_of published present_count last_pass making_order
two_senders_two_fast_frames_each = record {
  mode = refl;
  plan = refl;
  buckets = refl;
  logs = (refl, (refl, tt));
  marks = record { starts_are = refl; buckets = (refl, (refl, (refl, tt))); rises = rises; last = refl };
  lawful = (record { marked = (nil_lawful, (permanent_one 50 (omega arith), (tt, tt))); whole = permanent_three 50 33 50 34 (omega arith) (omega arith) }, tt);
  lines = (
    record {
      control = (record { id = refl; op = refl; moment = refl; behind = omega arith; before = omega arith }, tt);
      senders = ((record { id = refl; op = refl; moment = refl; behind = omega arith; before = omega arith }, tt), ((record { id = refl; op = refl; moment = refl; behind = omega arith; before = omega arith }, tt), tt));
      only = (omega arith, (omega arith, (omega arith, tt)));
    },
    tt,
  );
  places = ((refl, (tt, (tt, tt))), ((refl, (tt, (tt, tt))), tt));
  causes = (
    (record { first = refl; inline = refl }, (record { first = refl; inline = refl }, (record { first = refl; inline = refl }, tt))),
    ((record { first = refl; inline = refl }, (record { first = refl; inline = refl }, (record { first = refl; inline = refl }, tt))), tt),
  );
  bounds = (
    (tt, ((exactly 1, (usable, refl, refl)), ((exactly 1, (usable, refl, refl)), tt))),
    ((tt, ((exactly 1, (usable, refl, refl)), ((exactly 1, (usable, refl, refl)), tt))), tt),
  );
  host_lines = refl;
  order = ordered (counts_of default_params two_sends) refl;
  ends = (omega arith, tt);
} where
  rises : (b : ℕ) → RisesFrom 0 (map (length_at b) two_marks)
  rises zero = (omega arith, (omega arith, (omega arith, tt)))
  rises (suc b) = (omega arith, (omega arith, (omega arith, tt)))

-- ---- a stale entry, whose record isn't usable: the second packet reads that it isn't

stale_entry_is_suspect : IsThreadedRun stale (run_of stale stale_sends ((slow 1 ∷ suspect 0 2 ∷ []) ∷ []) three_marks)
unfolding windows state_of change is_key known_keys reply_of published present_count last_pass making_order
stale_entry_is_suspect = record {
  mode = refl;
  plan = refl;
  buckets = refl;
  logs = (refl, tt);
  marks = record { starts_are = refl; buckets = (refl, (refl, (refl, (refl, tt)))); rises = rises; last = refl };
  lawful = (
    record {
      marked = (nil_lawful, (stale_one 50 (omega arith), (stale_two 100 (omega arith) (omega arith), (tt, tt))));
      whole = stale_three;
    },
    tt,
  );
  lines = (
    record {
      control = (record { id = refl; op = refl; moment = refl; behind = omega arith; before = omega arith }, tt);
      senders = ((record { id = refl; op = refl; moment = refl; behind = omega arith; before = omega arith }, (record { id = refl; op = refl; moment = refl; behind = omega arith; before = omega arith }, tt)), tt);
      only = (omega arith, (omega arith, (omega arith, tt)));
    },
    tt,
  );
  places = ((refl, (refl, tt)), tt);
  causes = ((record { first = refl; inline = refl }, (record { first = refl; inline = refl }, tt)), tt);
  bounds = ((tt, ((exactly 0, (unusable, refl, refl)), tt)), tt);
  host_lines = refl;
  order = ordered (counts_of default_params stale_sends) refl;
  ends = (omega arith, tt);
} where
  rises : (b : ℕ) → RisesFrom 0 (map (length_at b) three_marks)
  rises zero = (omega arith, (omega arith, (omega arith, (omega arith, tt))))
  rises (suc b) = (omega arith, (omega arith, (omega arith, (omega arith, tt))))

-- ---- the number that its own slow send left, though the window began at 0

number_of_its_own_slow_send : IsThreadedRun own_number (run_of own_number own_sends ((slow 1 ∷ fast 1 ∷ []) ∷ []) own_marks)
unfolding windows state_of change is_key known_keys reply_of published present_count last_pass making_order
number_of_its_own_slow_send = record {
  mode = refl;
  plan = refl;
  buckets = refl;
  logs = (refl, tt);
  marks = record { starts_are = refl; buckets = (refl, (refl, tt)); rises = rises; last = refl };
  lawful = (record { marked = (nil_lawful, (tt, tt)); whole = permanent_two 0 33 0 (omega arith) (omega arith) }, tt);
  lines = (
    record {
      control = (record { id = refl; op = refl; moment = refl; behind = omega arith; before = omega arith }, tt);
      senders = ((record { id = refl; op = refl; moment = refl; behind = omega arith; before = omega arith }, tt), tt);
      only = (omega arith, (omega arith, tt));
    },
    tt,
  );
  places = ((refl, (tt, tt)), tt);
  causes = ((record { first = refl; inline = refl }, (record { first = refl; inline = refl }, tt)), tt);
  bounds = ((tt, ((record { marked = omega arith; known = omega arith; next = omega arith }, (usable, refl, refl)), tt)), tt);
  host_lines = refl;
  order = ordered (counts_of default_params own_sends) refl;
  ends = (omega arith, tt);
} where
  rises : (b : ℕ) → RisesFrom 0 (map (length_at b) own_marks)
  rises zero = (omega arith, (omega arith, tt))
  rises (suc b) = (omega arith, (omega arith, tt))

-- ---- two windows: a sender's second packet goes fast, and another sender's first by the lock

abbrev two_windows : Plan
two_windows = plan_with nud.Permanent ((send 0 17 ∷ send 50 18 ∷ []) ∷ (send 50 19 ∷ []) ∷ [])

abbrev window_sends : List Line
window_sends = add_line nud.Permanent ∷ send_line 0 33 ∷ send_line 50 34 ∷ []

abbrev window_marks : List Mark
window_marks = mark (Some 0) 0 ∷ mark (Some 50) 2 ∷ mark None 3 ∷ []

marks_of_three_windows : IsThreadedRun two_windows (run_of two_windows window_sends ((slow 1 ∷ fast 1 ∷ []) ∷ (slow 2 ∷ []) ∷ []) window_marks)
unfolding windows state_of change is_key known_keys reply_of published present_count last_pass making_order
marks_of_three_windows = record {
  mode = refl;
  plan = refl;
  buckets = refl;
  logs = (refl, (refl, tt));
  marks = record { starts_are = refl; buckets = (refl, (refl, (refl, tt))); rises = rises; last = refl };
  lawful = (
    record {
      marked = (nil_lawful, (permanent_two 0 33 50 (omega arith) (omega arith), (tt, tt)));
      whole = permanent_three 0 33 50 34 (omega arith) (omega arith);
    },
    tt,
  );
  lines = (
    record {
      control = (record { id = refl; op = refl; moment = refl; behind = omega arith; before = omega arith }, tt);
      senders = ((record { id = refl; op = refl; moment = refl; behind = omega arith; before = omega arith }, tt), ((record { id = refl; op = refl; moment = refl; behind = omega arith; before = omega arith }, tt), tt));
      only = (omega arith, (omega arith, (omega arith, tt)));
    },
    tt,
  );
  places = ((refl, (tt, tt)), ((refl, tt), tt));
  causes = ((record { first = refl; inline = refl }, (record { first = refl; inline = refl }, tt)), ((record { first = refl; inline = refl }, tt), tt));
  bounds = ((tt, ((exactly 1, (usable, refl, refl)), tt)), ((tt, tt), tt));
  host_lines = refl;
  order = ordered (counts_of default_params window_sends) refl;
  ends = (omega arith, tt);
} where
  rises : (b : ℕ) → RisesFrom 0 (map (length_at b) window_marks)
  rises zero = (omega arith, (omega arith, (omega arith, tt)))
  rises (suc b) = (omega arith, (omega arith, (omega arith, tt)))

-- ---- four tries that failed in a window in which the entry's first usable record was published

abbrev changed_meanwhile : Plan
changed_meanwhile = record (plan_with nud.Stale ((send 50 17 ∷ send 70 18 ∷ []) ∷ [])) { control = control.Neigh 0 (op.Add k1 (Some mac_a) nud.Stale) ∷ control.Neigh 60 (op.Change k1 (Some mac_a) nud.Permanent) ∷ [] }

abbrev change_line : Line
change_line = record { at = 60; id = Some (record { 0 = 64 }); op = op.Change k1 (Some mac_a) nud.Permanent; seen = None; full = None }

abbrev sends_meanwhile : List Line
sends_meanwhile = add_line nud.Stale ∷ send_line 50 33 ∷ change_line ∷ send_line 70 65 ∷ []

abbrev marks_meanwhile : List Mark
marks_meanwhile = mark (Some 0) 0 ∷ mark (Some 50) 1 ∷ mark None 4 ∷ []

abbrev run_meanwhile : Run
run_meanwhile = record (run_of changed_meanwhile sends_meanwhile ((slow 1 ∷ outcome.Slow (why.Again ((0, 1) ∷ (1, 1) ∷ (1, 1) ∷ (1, 2) ∷ [])) 3 reply.Sent ∷ []) ∷ []) marks_meanwhile) {
  host_lines =
      host_line.Neigh 1 0 (record { bucket = 0; place = 0; reply = reply.Done } ∷ [])
      ∷ host_line.Neigh 2 60 (record { bucket = 0; place = 2; reply = reply.Done } ∷ [])
      ∷ [];
}

lawful_meanwhile : IsLawful default_params sends_meanwhile 70
unfolding present_count known_keys state_of change is_key last_pass making_order
lawful_meanwhile =
    let changed = goes_on default_params (add_line nud.Stale ∷ send_line 50 33 ∷ []) change_line default_in_range (stale_two 60 (omega arith) (omega arith)) refl refl (record { there = refl; enough = tt }) refl in
    let waited = later (add_line nud.Stale ∷ send_line 50 33 ∷ change_line ∷ []) 60 70 (omega arith) (omega arith) changed refl tt in
    goes_on default_params (add_line nud.Stale ∷ send_line 50 33 ∷ change_line ∷ []) (send_line 70 65) default_in_range waited refl refl (record { there = refl; enough = tt }) refl

within : (n : ℕ) → n ≤ 2 → IsInBounds 0 0 2 n
within n le = record { marked = omega arith; known = omega arith; next = le }

four_tries_failed : IsThreadedRun changed_meanwhile run_meanwhile
unfolding windows state_of change is_key known_keys reply_of published present_count last_pass making_order
four_tries_failed = record {
  mode = refl;
  plan = refl;
  buckets = refl;
  logs = (refl, tt);
  marks = record { starts_are = refl; buckets = (refl, (refl, (refl, tt))); rises = rises; last = refl };
  lawful = (record { marked = (nil_lawful, (stale_one 50 (omega arith), (tt, tt))); whole = lawful_meanwhile }, tt);
  lines = (
    record {
      control = (record { id = refl; op = refl; moment = refl; behind = omega arith; before = omega arith }, (record { id = refl; op = refl; moment = refl; behind = omega arith; before = omega arith }, tt));
      senders = ((record { id = refl; op = refl; moment = refl; behind = omega arith; before = omega arith }, (record { id = refl; op = refl; moment = refl; behind = omega arith; before = omega arith }, tt)), tt);
      only = (omega arith, (omega arith, (omega arith, (omega arith, tt))));
    },
    tt,
  );
  places = ((refl, (refl, tt)), tt);
  causes = ((record { first = refl; inline = refl }, (record { first = refl; inline = refl }, tt)), tt);
  bounds = (
    (
      tt,
      (
        record {
          four = refl;
          failed = (refl, (refl, (refl, (refl, tt))));
          rises = (omega arith, (omega arith, (omega arith, (omega arith, (omega arith, (omega arith, (omega arith, (omega arith, tt))))))));
          within = (
            within 0 (omega arith),
            (within 1 (omega arith), (within 1 (omega arith), (within 1 (omega arith), (within 1 (omega arith), (within 1 (omega arith), (within 1 (omega arith), (within 2 (omega arith), tt))))))),
          );
        },
        tt,
      ),
    ),
    tt,
  );
  host_lines = refl;
  order = ordered (counts_of default_params sends_meanwhile) refl;
  ends = (omega arith, tt);
} where
  rises : (b : ℕ) → RisesFrom 0 (map (length_at b) marks_meanwhile)
  rises zero = (omega arith, (omega arith, (omega arith, tt)))
  rises (suc b) = (omega arith, (omega arith, (omega arith, tt)))
