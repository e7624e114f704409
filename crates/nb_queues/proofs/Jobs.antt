-- Jobs in the order of their dues.
use Rattle.std.proofs.Common.{◌≡◌, ◌≤◌, ◌<◌, ℕ, true, nat_le, List, [], ◌∷◌, ◌++◌, Some, None, length, slice_get, refl, arith, length-append}
use Rattle.std.specs.List.{list_all}
use Rattle.circular_buffer.specs.Buffer.{Buffer, buffer}
use Rattle.nb_queues.specs.declared.request.ProxyJob.{ProxyJob}
use Rattle.nb_queues.specs.Proxies.{are_due_by, none_due, are_in_order}

later-snoc : (due : ℕ) (jobs : List ProxyJob) (job : ProxyJob) → list_all (λ later. nat_le due later.due) jobs ≡ true → due ≤ job.due → list_all (λ later. nat_le due later.due) (jobs ++ job ∷ []) ≡ true
later-snoc due [] job h le = grind arith
later-snoc due (j ∷ jobs) job h le = grind (arith, later-snoc due jobs job)

-- a job behind those that are due by its due keeps the order
in_order-snoc : (jobs : List ProxyJob) (job : ProxyJob) → are_in_order jobs ≡ true → are_due_by job.due jobs ≡ true → are_in_order (jobs ++ job ∷ []) ≡ true
in_order-snoc [] job order due = refl
in_order-snoc (j ∷ jobs) job order due = grind (arith, in_order-snoc jobs job, later-snoc j.due jobs job)

-- so a buffer in which there is room keeps it
pub pushed : (old new : Buffer ProxyJob) (job : ProxyJob) → are_in_order old.items ≡ true → are_due_by job.due old.items ≡ true → length old.items < old.capacity → new ≡ buffer (old.items ++ job ∷ []) old.capacity → (are_in_order new.items ≡ true) × (length new.items ≤ new.capacity)
pushed old new job order due room is = rw is (in_order-snoc old.items job order due, omega (arith, length-append {A = ProxyJob} old.items (job ∷ [])))

none_before : (at due : ℕ) (jobs : List ProxyJob) → at < due → list_all (λ later. nat_le due later.due) jobs ≡ true → none_due at jobs ≡ true
none_before at due [] less h = refl
none_before at due (j ∷ jobs) less h = grind (arith, none_before at due jobs)

-- where the first job isn't due, none is
pub none_behind : (at : ℕ) (jobs : List ProxyJob) (job : ProxyJob) → are_in_order jobs ≡ true → slice_get jobs 0 ≡ Some job → at < job.due → none_due at jobs ≡ true
none_behind at [] job order first less = cc
none_behind at (j ∷ jobs) job order first less =
    let same : j ≡ job = cc in
    let behind : at < j.due = rw same less in
    grind (arith, none_before at j.due jobs)

pub none_there : (at : ℕ) (jobs : List ProxyJob) → slice_get jobs 0 ≡ None → none_due at jobs ≡ true
none_there at [] first = refl
none_there at (j ∷ jobs) first = cc
