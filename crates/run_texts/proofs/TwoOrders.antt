-- What the law for runs with threads asks for is met, and the texts are needed: a plan of two senders with a packet each has two such runs, by whose packet is first, and these have two texts.
use Rattle.std.proofs.Common.{◌≡◌, ℕ, zero, suc, List, [], ◌∷◌, map, refl, sym, ap, subst, arith}
use Rattle.std.specs.Prelude.{Option, Some, None}
use lib.ListN.{get_elem?}
use mathlib.Core.Option.{some}
use Rattle.nb_base.specs.declared.time.OpId.{OpId}
use Rattle.nb_base.specs.declared.line.Line.{Line}
use Rattle.nb_base.specs.declared.line.Reply.TheVariants as reply
use Rattle.nb_base.specs.declared.op.Op.TheVariants as op
use Rattle.nb_base.specs.declared.outcome.Why.TheVariants as why
use Rattle.nb_base.specs.declared.outcome.Outcome.{Outcome}
use Rattle.nb_base.specs.declared.outcome.Outcome.TheVariants as outcome
use Rattle.nb_base.specs.declared.host_line.Mark.{Mark}
use Rattle.nb_base.specs.declared.plan.Mode.TheVariants as mode
use Rattle.nb_base.specs.declared.plan.Plan.{Plan}
use Rattle.nb_base.specs.Params.{default_params}
use Rattle.nb_base.proofs.Defaults.{default_in_range}
use Rattle.nb_journal.specs.Keys.{is_key}
use Rattle.nb_journal.specs.Fold.{change, state_of, known_keys, present_count, reply_of}
use Rattle.nb_journal.specs.Lawful.{IsLawful, last_pass, making_order}
use Rattle.nb_journal.specs.Accounts.{published}
use Rattle.nb_journal.proofs.Appends.{lawful-nil}
use Rattle.nb_journal.proofs.Passes.{goes_on}
use Rattle.change_order.specs.Orders.{JournalCounts, HasPlaces, HaveOneOrder}
use Rattle.journal_counts.specs.Counts.{counts_of}
use Rattle.neigh_run.specs.declared.run.Run.{Run}
use Rattle.neigh_run.specs.Plan.{RisesFrom}
use Rattle.neigh_run.specs.Windows.{windows, length_at}
use Rattle.neigh_run.specs.Threaded.{IsThreadedRun}
use Rattle.neigh_run.specs.Report.{report_text}
use Rattle.neigh_run.proofs.ThreadedRows.{k1, host, send, mark}
use Rattle.run_texts.specs.Laws.{IsPlayable}
use Rattle.run_texts.proofs.Texts.{threaded_runs_tell}

-- two senders, each with a packet at 0 to one key
abbrev two_senders : Plan
two_senders = record { host = host; params = default_params; buckets = 1; window = 50; control = []; senders = (send 0 17 ∷ []) ∷ (send 0 18 ∷ []) ∷ [] }

two_senders_playable : IsPlayable two_senders
two_senders_playable = record {
  dev = refl;
  params = default_in_range;
  buckets = refl;
  limits = record {
    control = record { rises = tt; few = omega arith };
    senders = (
      record { list = record { rises = (omega arith, tt); few = omega arith }; packets = ((omega arith, omega arith), tt) },
      (record { list = record { rises = (omega arith, tt); few = omega arith }; packets = ((omega arith, omega arith), tt) }, tt),
    );
    few = omega arith;
  };
  asked = tt;
  control = tt;
  senders = ((omega arith, tt), ((omega arith, tt), tt));
}

-- the packet that makes the entry looks at the table; the next one waits behind it
abbrev line_of : ℕ → Option ℕ → Line
line_of id seen = record { at = 0; id = Some (record { 0 = id }); op = op.Send k1 1; seen = seen; full = None }

abbrev lines_of_two : ℕ → ℕ → List Line
lines_of_two first second = line_of first (Some 0) ∷ line_of second None ∷ []

two_lawful : (first second : ℕ) → IsLawful default_params (lines_of_two first second) 0
unfolding present_count known_keys state_of change is_key last_pass making_order
two_lawful first second =
    let made = goes_on default_params [] (line_of first (Some 0)) default_in_range (lawful-nil default_params default_in_range) refl refl (record { there = refl; enough = omega arith }) refl in
    goes_on default_params (line_of first (Some 0) ∷ []) (line_of second None) default_in_range made refl refl (record { there = refl; enough = tt }) refl

abbrev waits_at : ℕ → List Outcome
waits_at place = outcome.Slow why.First place (reply.Waits 0) ∷ []

abbrev marks_of_two : List Mark
marks_of_two = mark (Some 0) 0 ∷ mark None 2 ∷ []

abbrev run_of_two : List Line → List (List Outcome) → Run
run_of_two journal logs = record { mode = mode.Threads; plan = two_senders; journals = journal ∷ []; host_lines = []; logs = logs; marks = marks_of_two }

rises_of_two : (b : ℕ) → RisesFrom 0 (map (length_at b) marks_of_two)
rises_of_two zero = (omega arith, (omega arith, tt))
rises_of_two (suc b) = (omega arith, (omega arith, tt))

-- one bucket, whose number of entries one line changes, and which looked before it
one_change : (counts : JournalCounts) → counts ≡ record { behind = 1 ∷ []; looked = record { before = 0; seen = 0 } ∷ [] } → HaveOneOrder (counts ∷ [])
one_change counts is = record { order = 0 ∷ []; buckets = (omega arith, tt); each = by_bucket } where
  by_bucket : (b : ℕ) (j : JournalCounts) → get_elem? (counts ∷ []) b ≡ some j → HasPlaces (counts ∷ []) (0 ∷ []) b j
  by_bucket zero j e = subst (HasPlaces (counts ∷ []) (0 ∷ []) 0) (some_is counts j e) (subst (λ (c : JournalCounts). HasPlaces (c ∷ []) (0 ∷ []) 0 c) (sym is) (record { often = refl; lengths = 0 ∷ []; rising = (omega arith, tt); lines = (record { within = omega arith; mine = refl; sum = refl }, tt) })) where
    some_is : (a b : JournalCounts) → some a ≡ some b → a ≡ b
    some_is a b e = cc
  by_bucket (suc b) j e = cc

-- sender 1 is first
abbrev first_run : Run
first_run = run_of_two (lines_of_two 33 34) (waits_at 0 ∷ waits_at 1 ∷ [])

first_is_run : IsThreadedRun two_senders first_run
unfolding windows state_of change is_key known_keys reply_of published present_count last_pass making_order
first_is_run = record {
  mode = refl;
  plan = refl;
  buckets = refl;
  logs = (refl, (refl, tt));
  marks = record { starts_are = refl; buckets = (refl, (refl, tt)); rises = rises_of_two; last = refl };
  lawful = (record { marked = (lawful-nil default_params default_in_range, (tt, tt)); whole = two_lawful 33 34 }, tt);
  lines = (
    record {
      control = tt;
      senders = ((record { id = refl; op = refl; moment = refl; behind = omega arith; before = omega arith }, tt), ((record { id = refl; op = refl; moment = refl; behind = omega arith; before = omega arith }, tt), tt));
      only = (omega arith, (omega arith, tt));
    },
    tt,
  );
  places = ((refl, tt), ((refl, tt), tt));
  causes = ((record { first = refl; inline = refl }, tt), ((record { first = refl; inline = refl }, tt), tt));
  bounds = ((tt, tt), ((tt, tt), tt));
  host_lines = refl;
  order = one_change (counts_of default_params (lines_of_two 33 34)) refl;
  ends = (omega arith, tt);
}

-- sender 2 is first
abbrev second_run : Run
second_run = run_of_two (lines_of_two 34 33) (waits_at 1 ∷ waits_at 0 ∷ [])

second_is_run : IsThreadedRun two_senders second_run
unfolding windows state_of change is_key known_keys reply_of published present_count last_pass making_order
second_is_run = record {
  mode = refl;
  plan = refl;
  buckets = refl;
  logs = (refl, (refl, tt));
  marks = record { starts_are = refl; buckets = (refl, (refl, tt)); rises = rises_of_two; last = refl };
  lawful = (record { marked = (lawful-nil default_params default_in_range, (tt, tt)); whole = two_lawful 34 33 }, tt);
  lines = (
    record {
      control = tt;
      senders = ((record { id = refl; op = refl; moment = refl; behind = omega arith; before = omega arith }, tt), ((record { id = refl; op = refl; moment = refl; behind = omega arith; before = omega arith }, tt), tt));
      only = (omega arith, (omega arith, tt));
    },
    tt,
  );
  places = ((refl, tt), ((refl, tt), tt));
  causes = ((record { first = refl; inline = refl }, tt), ((record { first = refl; inline = refl }, tt), tt));
  bounds = ((tt, tt), ((tt, tt), tt));
  host_lines = refl;
  order = one_change (counts_of default_params (lines_of_two 34 33)) refl;
  ends = (omega arith, tt);
}

-- they aren't one, and so their texts are two
not_one : first_run ≡ second_run → ⊥
not_one e = numbers (ap (λ (run : Run). ids run.journals) e) where
  ids : List (List Line) → ℕ
  ids ((line ∷ lines) ∷ journals) = number line.id where
    number : Option OpId → ℕ
    number None = 0
    number (Some id) = id.0
  ids _ = 0

  numbers : ◌≡◌ {A = ℕ} 33 34 → ⊥
  numbers e = omega (arith, e)

two_texts : report_text first_run ≡ report_text second_run → ⊥
two_texts text = not_one (threaded_runs_tell two_senders first_run second_run two_senders_playable first_is_run second_is_run text)
