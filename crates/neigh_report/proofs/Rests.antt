-- What is left to write of lists that are written from the front.
use Rattle.std.proofs.Common.{◌≡◌, ℕ, ◌+◌, ◌<◌, ◌≤◌, List, [], ◌∷◌, ◌++◌, drop, length, get_or, min, zero, suc, refl, sym, ap, ◌∙◌, arith}
use Rattle.std.specs.Prelude.{decimal, codes}
use Rattle.std.proofs.Math.Seq.{drop-cons, drop-nil}
use Rattle.nb_base.specs.declared.outcome.Outcome.{Outcome}
use Rattle.nb_base.specs.declared.plan.SendItem.{SendItem}
use Rattle.neigh_run.specs.Report.{outcome_words, log_lines, sender_lines}

-- the element at the place, and those behind it
pub drop_at : {X : Type 0} (xs : List X) (i : ℕ) (x : X) → i < length xs → x ≡ get_or xs i x → drop i xs ≡ x ∷ drop (i + 1) xs
drop_at {X = X} xs i x lt is =
    let next : suc i ≡ i + 1 = omega arith in
    drop-cons xs i x lt ∙ ap (λ (y : X). y ∷ drop (suc i) xs) (sym is) ∙ ap (λ (n : ℕ). x ∷ drop n xs) next

-- the same where the element is read at a default
pub drop_at_default : {X : Type 0} (xs : List X) (i : ℕ) (d : X) → i < length xs → drop i xs ≡ get_or xs i d ∷ drop (i + 1) xs
drop_at_default {X = X} xs i d lt =
    let next : suc i ≡ i + 1 = omega arith in
    drop-cons xs i d lt ∙ ap (λ (n : ℕ). get_or xs i d ∷ drop n xs) next

pub log_step : (items : List SendItem) (log : List Outcome) (i : ℕ) (item : SendItem) (d : Outcome)
    → i < length items → i < length log → item ≡ get_or items i item
    → log_lines (i + 1) (drop i items) (drop i log) ≡ (decimal (i + 1) ∷ decimal item.at ∷ outcome_words item (get_or log i d)) ∷ log_lines (i + 1 + 1) (drop (i + 1) items) (drop (i + 1) log)
log_step items log i item d lt1 lt2 is1 = rw (drop_at items i item lt1 is1, drop_at_default log i d lt2) refl

log_none : (n : ℕ) (items : List SendItem) → log_lines n items [] ≡ []
log_none n [] = refl
log_none n (item ∷ items) = refl

pub log_end : (items : List SendItem) (log : List Outcome) (i n : ℕ) → min (length items) (length log) ≤ i → log_lines n (drop i items) (drop i log) ≡ []
log_end [] log i n h = rw (drop-nil {A = SendItem} i) refl
log_end (item ∷ items) [] i n h = rw (drop-nil {A = Outcome} i) (log_none n (drop i (item ∷ items)))
log_end (item ∷ items) (o ∷ log) zero n h = absurd (omega (arith, h))
log_end (item ∷ items) (o ∷ log) (suc i) n h = log_end items log i n (omega (arith, h))

pub sender_step : (senders : List (List SendItem)) (logs : List (List Outcome)) (i : ℕ) (items : List SendItem) (log : List Outcome)
    → i < length senders → i < length logs → items ≡ get_or senders i items → log ≡ get_or logs i log
    → sender_lines (i + 1) (drop i senders) (drop i logs) ≡ ((codes "sender" ∷ decimal (i + 1) ∷ codes "items" ∷ decimal (length items) ∷ []) ∷ log_lines 1 items log) ++ sender_lines (i + 1 + 1) (drop (i + 1) senders) (drop (i + 1) logs)
sender_step senders logs i items log lt1 lt2 is1 is2 = rw (drop_at senders i items lt1 is1, drop_at logs i log lt2 is2) refl

sender_none : (k : ℕ) (senders : List (List SendItem)) → sender_lines k senders [] ≡ []
sender_none k [] = refl
sender_none k (items ∷ senders) = refl

pub sender_end : (senders : List (List SendItem)) (logs : List (List Outcome)) (i k : ℕ) → min (length senders) (length logs) ≤ i → sender_lines k (drop i senders) (drop i logs) ≡ []
sender_end [] logs i k h = rw (drop-nil {A = List SendItem} i) refl
sender_end (items ∷ senders) [] i k h = rw (drop-nil {A = List Outcome} i) (sender_none k (drop i (items ∷ senders)))
sender_end (items ∷ senders) (log ∷ logs) zero k h = absurd (omega (arith, h))
sender_end (items ∷ senders) (log ∷ logs) (suc i) k h = sender_end senders logs i k (omega (arith, h))
