-- What every bucket tells makes the run's marks, its lawful journals, and its operations' lines.
use Rattle.std.proofs.Common.{◌≡◌, ⊎_elim, ℕ, suc, ◌+◌, ◌<◌, ◌≤◌, List, [], ◌∷◌, ◌++◌, length, take, get_or, refl, sym, ◌∙◌, ap, subst, arith}
use Rattle.std.specs.List.{AllByRecursion}
use Rattle.std.specs.Prelude.{map, fold, filter, Option, Some, None, unwrap_or, IfSome}
use Rattle.std.proofs.lemmas.Bool.{cases_lt}
use Rattle.std.proofs.lemmas.List.{ext_get_or, get_or_past, get_or-map, length-map}
use Rattle.std.proofs.lemmas.List.Folds.{fold-map}
use Rattle.nb_base.specs.declared.time.OpId.{OpId}
use Rattle.nb_base.specs.Ids.{participant_of}
use Rattle.bucket_stamps.specs.Own.{IsLineOfOne}
use Rattle.neigh_run.specs.Control.{host_start}
use Rattle.run_evidence.proofs.Lists.{all_map}
use Rattle.nb_base.specs.declared.line.Line.{Line}
use Rattle.nb_base.specs.declared.host_line.Mark.{Mark}
use Rattle.nb_base.specs.declared.plan.Plan.{Plan}
use Rattle.nb_base.specs.declared.plan.SendItem.{SendItem}
use Rattle.nb_base.specs.declared.plan.ControlItem.{ControlItem}
use Rattle.neigh_run.specs.Merged.{Entered, goes_to, control_ops}
use Rattle.neigh_run.specs.Plan.{RisesFrom}
use Rattle.neigh_run.specs.Windows.{starts, length_at, last_lengths, last_start}
use Rattle.neigh_run.specs.Threaded.{EachJournal, EachSender, IsLawfulFrom, IsLawfulAtMarks, lines_of, IsLineFor, HasLinesFor, slow_ops, HasItsLines}
use Rattle.std.specs.List.{AllZip}
use Rattle.run_evidence.specs.Stamps.{StampHistory, marks_in, calls_in, AreStampHistories, IsBucketEvidence}
use Rattle.run_evidence.specs.Evidence.{ParticipantRun, PacketDone, control_calls, sender_calls, all_done_items, stamp_window_at, history_at, Evidence, bucket_at, column, run_of, AreSenderRuns, IsEvidence}
use Rattle.run_evidence.specs.Laws.{ShowsMarks, ShowsLawful, ShowsLines}
use Rattle.run_evidence.proofs.Buckets.{last_told, kept_ends, kept_rises, IsMarkedLawful, kept_marked, last_opened, kept_whole}
use Rattle.run_evidence.proofs.Windows.{history_climbs}
use Rattle.run_evidence.proofs.Matched.{entered_by, history_lines}
use Rattle.run_evidence.proofs.Projected.{calls_at, control_projected, sender_projected}

-- ---- journals, one by one

each_from : (P : ℕ → List Line → Type 0) (b : ℕ) (journals : List (List Line)) → ((k : ℕ) → k < length journals → P (b + k) (get_or journals k [])) → EachJournal P b journals
each_from P b [] h = tt
each_from P b (journal ∷ journals) h = (
  subst (λ n. P n journal) (zero_more b) (h 0 (omega arith)),
  each_from P (b + 1) journals (λ k lt. subst (λ n. P n (get_or journals k [])) (one_more b k) (h (suc k) (omega (arith, lt)))),
) where
  zero_more : (b : ℕ) → b + 0 ≡ b
  zero_more b = omega arith

  one_more : (b k : ℕ) → b + suc k ≡ b + 1 + k
  one_more b k = omega arith

pub each_journal : (P : ℕ → List Line → Type 0) (journals : List (List Line)) → ((b : ℕ) → b < length journals → P b (get_or journals b [])) → EachJournal P 0 journals
each_journal P journals h = each_from P 0 journals (λ k lt. subst (λ n. P n (get_or journals k [])) (plus k) (h k lt)) where
  plus : (k : ℕ) → k ≡ 0 + k
  plus k = omega arith

-- ---- 1. marks

numbers_column : (b : ℕ) (marks : List Mark) → map (λ (m : Option ℕ × ℕ). m.1) (column b marks) ≡ map (length_at b) marks
numbers_column b [] = refl
numbers_column b (mark ∷ marks) = ap (λ ns. length_at b mark ∷ ns) (numbers_column b marks)

-- a bucket that isn't there has no lines at any mark
none_there : (n b : ℕ) (marks : List Mark) → n ≤ b → AllByRecursion (λ (mark : Mark). length mark.lengths ≡ n) marks → RisesFrom 0 (map (length_at b) marks)
none_there n b [] le all = tt
none_there n b (mark ∷ marks) le all =
    let e = get_or_past mark.lengths b 0 (let l = all.0 in omega (arith, l, le)) in
    (omega arith, subst (λ x. RisesFrom x (map (length_at b) marks)) (sym e) (none_there n b marks le all.1))

last_column : (b n : ℕ) (marks : List Mark) (mark : Mark) → get_or (last_lengths (mark ∷ marks)) b 0 ≡ fold (λ (n : ℕ) (m : Option ℕ × ℕ). m.1) n (column b (mark ∷ marks))
last_column b n [] mark = refl
last_column b n (next ∷ marks) mark = last_column b (length_at b mark) marks next

last_there : (n : ℕ) (marks : List Mark) (mark : Mark) → AllByRecursion (λ (mark : Mark). length mark.lengths ≡ n) (mark ∷ marks) → length (last_lengths (mark ∷ marks)) ≡ n
last_there n [] mark all = all.0
last_there n (next ∷ marks) mark all = last_there n marks next all.1

-- there is a mark
some_mark : (os : List (Option ℕ)) (marks : List Mark) → map (λ (mark : Mark). mark.start) marks ≡ os ++ None ∷ [] → (mark : Mark) × (rest : List Mark) × (marks ≡ mark ∷ rest)
some_mark os [] e = absurd (nothing os e) where
  nothing : (os : List (Option ℕ)) → [] ≡ os ++ None ∷ [] → ⊥
  nothing [] e = cc
  nothing (o ∷ os) e = cc
some_mark os (mark ∷ marks) e = (mark, marks, refl)

pub shows_marks : ShowsMarks
shows_marks plan e some bucket h = record { starts_are = h.starts; buckets = h.lengths; rises = rises; last = last } where
  rises : (b : ℕ) → RisesFrom 0 (map (length_at b) e.marks)
  rises b = ⊎_elim (λ (lt : b < plan.buckets). subst (RisesFrom 0) (numbers_column b e.marks) (kept_rises plan (column b e.marks) (bucket_at b e) (h.each_bucket b lt))) (λ (le : plan.buckets ≤ b). none_there plan.buckets b e.marks le h.lengths) (cases_lt b plan.buckets)

  ends : (b : ℕ) → b < plan.buckets → last_told (column b e.marks) ≡ length (get_or e.journals b [])
  ends b lt = kept_ends plan (column b e.marks) (bucket_at b e) (h.each_bucket b lt)

  of_some : (mark : Mark) (rest : List Mark) → e.marks ≡ mark ∷ rest → last_lengths e.marks ≡ map length e.journals
  of_some mark rest is =
      let n = subst (λ ms. length (last_lengths ms) ≡ plan.buckets) (sym is) (last_there plan.buckets rest mark (subst (AllByRecursion (λ (mark : Mark). length mark.lengths ≡ plan.buckets)) is h.lengths)) in
      let m = length-map e.journals length in
      let all = h.buckets in
      ext_get_or 0 (last_lengths e.marks) (map length e.journals) (omega (arith, n, m, all)) (λ b lt.
      ap (λ ms. get_or (last_lengths ms) b 0) is ∙ last_column b 0 rest mark ∙ sym (ap (λ ms. last_told (column b ms)) is) ∙ ends b (omega (arith, lt, n)) ∙ sym (get_or-map length e.journals b [] 0 (omega (arith, lt, n, all))))

  last : last_lengths e.marks ≡ map length e.journals
  last = let found = some_mark (map Some (starts plan)) e.marks h.starts in of_some found.0 found.1 found.2

-- ---- 2. lawful journals

unmarked : (plan : Plan) (b : ℕ) (journal : List Line) (marks : List Mark) → AllByRecursion (IsMarkedLawful plan journal) (column b marks) → AllByRecursion (λ (mark : Mark). IfSome mark.start (λ start. IsLawfulFrom plan.params start (take (length_at b mark) journal))) marks
unmarked plan b journal [] h = tt
unmarked plan b journal (mark ∷ marks) h = (h.0, unmarked plan b journal marks h.1)

pub opened-start : (b : ℕ) (marks : List Mark) → last_opened (column b marks) ≡ last_start marks
opened-start b marks = fold-map (λ (at : ℕ) (m : Option ℕ × ℕ). unwrap_or m.0 at) (λ (mark : Mark). (mark.start, length_at b mark)) 0 marks

pub shows_lawful : ShowsLawful
shows_lawful plan e some bucket h = each_journal (IsLawfulAtMarks plan.params e.marks) e.journals (λ b lt.
    let kept = h.each_bucket b (let all = h.buckets in omega (arith, lt, all)) in
    record {
      marked = unmarked plan b (get_or e.journals b []) e.marks (kept_marked plan (column b e.marks) (bucket_at b e) kept);
      whole = subst (λ at. IsLawfulFrom plan.params at (get_or e.journals b [])) (opened-start b e.marks) (kept_whole plan (column b e.marks) (bucket_at b e) kept);
    })

-- ---- 3. operations' lines

-- a sender's lines in a bucket
senders_lines : (plan : Plan) (e : Evidence) (b p : ℕ) (lists : List (List SendItem)) (runs : List (ParticipantRun PacketDone)) → 0 < plan.window → IsEvidence plan e → IsBucketEvidence plan (column b e.marks) (bucket_at b e)
    → AreStampHistories plan (bucket_at b e).journal (bucket_at b e).turns p (map (history_at sender_calls b) runs) → AllByRecursion (λ (history : StampHistory). marks_in plan history ≡ column b e.marks) (map (history_at sender_calls b) runs)
    → AreSenderRuns plan e.journals p lists runs
    → EachSender (λ p items log. HasLinesFor plan e.marks p (slow_ops p 1 items log) b (bucket_at b e).journal) p lists (map (λ (run : ParticipantRun PacketDone). map (λ (done_item : PacketDone). done_item.outcome) (all_done_items run.windows)) runs)
senders_lines plan e b p [] [] some h kept histories marks runs = tt
senders_lines plan e b p [] (run ∷ runs) some h kept histories marks is = absurd is
senders_lines plan e b p (items ∷ lists) [] some h kept histories marks is = absurd is
senders_lines plan e b p (items ∷ lists) (run ∷ runs) some h kept histories marks is = (
  subst (AllZip (IsLineFor plan e.marks b) (lines_of p [] (bucket_at b e).journal)) same
      (history_lines p plan e.marks (column b e.marks) b (bucket_at b e) history refl kept (history_climbs plan b e.marks history some h.starts marks.0) histories.0.0 histories.0.1 marks.0),
  senders_lines plan e b (p + 1) lists runs some h kept histories.1 marks.1 is.1,
) where
  history : StampHistory
  history = history_at sender_calls b run

  same : map entered_by (calls_in (map (stamp_window_at sender_calls b) run.windows)) ≡ filter (λ (entered : Entered). goes_to plan.buckets b entered.op) (slow_ops p 1 items (map (λ (done_item : PacketDone). done_item.outcome) (all_done_items run.windows)))
  same =
      ap (map entered_by) (calls_at sender_calls b run.windows)
      ∙ sender_projected plan p b 1 (all_done_items run.windows) is.0.done
      ∙ ap (λ (xs : List SendItem). filter (λ (entered : Entered). goes_to plan.buckets b entered.op) (slow_ops p 1 xs (map (λ (done_item : PacketDone). done_item.outcome) (all_done_items run.windows)))) is.0.items

one_of : (o : Option OpId) (n : ℕ) → IfSome o (λ id. participant_of id < n + 1) → IfSome o (λ id. participant_of id ≤ n)
one_of None n h = tt
one_of (Some id) n h = omega (arith, h)

pub shows_lines : ShowsLines
shows_lines plan e some bucket h = each_journal (HasItsLines plan (run_of plan e)) e.journals (λ b lt. one b (let all = h.buckets in omega (arith, lt, all))) where
  one : (b : ℕ) → b < plan.buckets → HasItsLines plan (run_of plan e) b (get_or e.journals b [])
  one b lt =
      let kept = h.each_bucket b lt in
      let history = history_at control_calls b e.control in
      let same : map entered_by (calls_in (map (stamp_window_at control_calls b) e.control.windows)) ≡ filter (λ (entered : Entered). goes_to plan.buckets b entered.op) (control_ops plan host_start 1 plan.control) =
      ap (map entered_by) (calls_at control_calls b e.control.windows)
      ∙ control_projected plan b host_start 1 (all_done_items e.control.windows) lt h.control.done
      ∙ ap (λ (xs : List ControlItem). filter (λ (entered : Entered). goes_to plan.buckets b entered.op) (control_ops plan host_start 1 xs)) h.control.items in
      record {
        control = subst (AllZip (IsLineFor plan e.marks b) (lines_of 0 [] (bucket_at b e).journal)) same
            (history_lines 0 plan e.marks (column b e.marks) b (bucket_at b e) history refl kept (history_climbs plan b e.marks history some h.starts kept.marks.0) kept.histories.0.0 kept.histories.0.1 kept.marks.0);
        senders = senders_lines plan e b 1 plan.senders e.senders some h kept kept.histories.1 kept.marks.1 h.senders;
        only = all_map (IsLineOfOne (length plan.senders + 1)) (λ (line : Line). IfSome line.id (λ id. participant_of id ≤ length plan.senders)) (get_or e.journals b []) (λ line. one_of line.id (length plan.senders)) kept.whole.only_lines;
      }
