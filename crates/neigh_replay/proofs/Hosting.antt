-- The walk over participant 0's items: one item more, and what it comes to.
use Rattle.std.proofs.Common.{◌≡◌, ⊎_elim, ℕ, zero, suc, ◌+◌, ◌<◌, ◌≤◌, Bool, true, false, List, [], ◌∷◌, ◌++◌, length, map, take, drop, get_or, Option, Some, refl, sym, ◌∙◌, ap, subst, arith, append_assoc, append-nil}
use Rattle.std.specs.Prelude.{IsTrue, nat_le, nat_lt, if◌then◌else◌, ◌↔◌, Result, Ok, Err, is_ok, IsErr, OnOk, OnErr}
use Rattle.std.proofs.lemmas.Bool.{and_parts, cases_lt, lt-leb, lt-ltb, le-ltb, ltb-true}
use Rattle.std.proofs.lemmas.List.{length-append}
use Rattle.nb_journal.proofs.Tests.{and_both, le_from, le_to}
use Rattle.nb_base.specs.declared.key.Key.{Key}
use Rattle.nb_base.specs.declared.plan.Plan.{Plan}
use Rattle.nb_base.specs.declared.plan.ControlItem.{ControlItem}
use Rattle.nb_base.specs.declared.plan.ControlItem.TheVariants as control
use Rattle.nb_base.specs.declared.host_line.Placed.{Placed}
use Rattle.nb_base.specs.declared.host_line.HostLine.{HostLine}
use Rattle.nb_base.specs.declared.host_line.HostLine.TheVariants as host_line
use Rattle.heard_frames.specs.declared.heard.Heard.{Heard}
use Rattle.std.specs.Option.{option_map}
use Rattle.nb_queues.specs.declared.request.ProxyJob.{ProxyJob}
use Rattle.nb_queues.specs.declared.request.ProxyRequest.{ProxyRequest}
use Rattle.nb_queues.specs.Proxies.{Proxies, are_due_by, none_due}
use Rattle.neigh_run.specs.Control.{HostState, host_start, control_at, item_turn, turn, due_by, waiting_behind, answer_lines, is_queued, with_request, first_of, frame_turn, heard}
use Rattle.neigh_run.specs.Plan.{RisesFrom}
use Rattle.neigh_plan.specs.Inline.{greatest_of}
use Rattle.plain_table.specs.declared.answer.Answer.{Answer}
use Rattle.neigh_replay.specs.Hosting.{Point, places_by, rest_by, at_point, state_in, table_in, start_table, after_due, after_turn, after_own, after, walked, lines_by, IsReady}

-- ---- requests that are due

-- one answer more
pub one_due : (plan : Plan) (at : ℕ) (job : ProxyJob) (old new : List ProxyJob) (lines : List HostLine) → job ∷ new ≡ old → job.due ≤ at
    → (due_by at old ≡ job ∷ due_by at new) × (waiting_behind at old ≡ waiting_behind at new)
one_due plan at job old new lines e le = (
  ap (due_by at) (sym e) ∙ ap (λ (b : Bool). if b then job ∷ due_by at new else []) (le_to job.due at le),
  ap (waiting_behind at) (sym e) ∙ ap (λ (b : Bool). if b then waiting_behind at new else job ∷ new) (le_to job.due at le),
)

none_is : (at : ℕ) (jobs : List ProxyJob) → IsTrue (none_due at jobs) → (due_by at jobs ≡ []) × (waiting_behind at jobs ≡ jobs)
none_is at [] h = (refl, refl)
none_is at (job ∷ jobs) h =
    let later = lt-leb job.due at (ltb-true at job.due (and_parts (nat_lt at job.due) (none_due at jobs) h).0) in
    (ap (λ (b : Bool). if b then job ∷ due_by at jobs else []) later, ap (λ (b : Bool). if b then waiting_behind at jobs else job ∷ jobs) later)

-- where none is due, nothing is answered
pub nothing_due : (plan : Plan) (at : ℕ) (old new : Proxies) (answers : List Answer) (lines : List HostLine) → new ≡ record old { jobs = new.jobs } → new.jobs ≡ old.jobs → IsTrue (none_due at old.jobs)
    → at_point new answers lines ≡ after_due plan at (at_point old answers lines)
nothing_due plan at old new answers lines is same none =
    let parts = none_is at old.jobs none in
    ap (λ (t : Proxies). at_point t answers lines) (is ∙ ap (λ (js : List ProxyJob). (let made : Proxies = record old { jobs = js } in made)) (same ∙ sym parts.1))
    ∙ ap (λ (ls : List HostLine). at_point (record old { jobs = waiting_behind at old.jobs }) answers ls) (sym (ap (λ (js : List ProxyJob). lines ++ answer_lines plan js) parts.0 ∙ append-nil lines))

-- later moments let requests wait as well
pub due_later : (m n : ℕ) (jobs : List ProxyJob) → m ≤ n → IsTrue (are_due_by m jobs) → IsTrue (are_due_by n jobs)
due_later m n [] le h = h
due_later m n (job ∷ jobs) le h =
    let parts = and_parts (nat_le job.due m) (are_due_by m jobs) h in
    let here = le_from job.due m parts.0 in
    and_both (nat_le job.due n) (are_due_by n jobs) (le_to job.due n (omega (arith, here, le))) (due_later m n jobs le parts.1)

pub due_behind : (at m : ℕ) (jobs : List ProxyJob) → IsTrue (are_due_by m jobs) → IsTrue (are_due_by m (waiting_behind at jobs))
due_behind at m [] h = h
due_behind at m (job ∷ jobs) h = by_test (nat_le job.due at) (due_behind at m jobs (and_parts (nat_le job.due m) (are_due_by m jobs) h).1) where
  by_test : (b : Bool) → IsTrue (are_due_by m (waiting_behind at jobs)) → IsTrue (are_due_by m (if b then waiting_behind at jobs else job ∷ jobs))
  by_test true rest = rest
  by_test false rest = h

pub due_with : (m : ℕ) (jobs : List ProxyJob) (job : ProxyJob) → job.due ≤ m → IsTrue (are_due_by m jobs) → IsTrue (are_due_by m (jobs ++ job ∷ []))
due_with m [] job le h = and_both (nat_le job.due m) true (le_to job.due m le) refl
due_with m (x ∷ xs) job le h =
    let parts = and_parts (nat_le x.due m) (are_due_by m xs) h in
    and_both (nat_le x.due m) (are_due_by m (xs ++ job ∷ [])) parts.0 (due_with m xs job le parts.1)

-- ---- items

-- an item's turn is what is due by its moment, and then its own
pub after_is : (plan : Plan) (n : ℕ) (item : ControlItem) (w : Point) → after plan n item w ≡ after_turn plan (turn plan (state_in w.table) n item) w
after_is plan n item w =
    let t = item_turn plan (state_in (after_due plan (control_at item) w).table) n item in
    ap (λ (ls : List HostLine). (let made : Point = record { table = table_in w.table t.behind; answers = rest_by plan.buckets t.operation w.answers; lines = ls } in made))
    (append_assoc w.lines (answer_lines plan (due_by (control_at item) w.table.jobs)) (t.lines (places_by plan.buckets t.operation w.answers)))

-- what the walk leaves of the host's lines
pub walked_lines : (plan : Plan) (n : ℕ) (items : List ControlItem) (w : Point) → (walked plan n items w).lines ≡ w.lines ++ lines_by plan (state_in w.table) n items w.answers
walked_lines plan n [] w = sym (append-nil w.lines)
walked_lines plan n (item ∷ items) w =
    let here = turn plan (state_in w.table) n item in
    ap (λ (x : Point). (walked plan (n + 1) items x).lines) (after_is plan n item w)
    ∙ walked_lines plan (n + 1) items (after_turn plan here w)
    ∙ append_assoc w.lines (here.lines _) (lines_by plan here.behind (n + 1) items _)

-- one item more
pub walked_more : (plan : Plan) (items : List ControlItem) (i : ℕ) (item : ControlItem) (w : Point) → i < length items → item ≡ get_or items i item → walked plan (i + 1) (drop i items) w ≡ walked plan (i + 1 + 1) (drop (i + 1) items) (after plan (i + 1) item w)
walked_more plan items i item w lt at =
    let next : suc i ≡ i + 1 = omega arith in
    ap (λ (xs : List ControlItem). walked plan (i + 1) xs w) (drop_at items i item lt at ∙ ap (λ (n : ℕ). item ∷ drop n items) next) where
      drop_at : (xs : List ControlItem) (j : ℕ) (x : ControlItem) → j < length xs → x ≡ get_or xs j x → drop j xs ≡ x ∷ drop (suc j) xs
      drop_at [] j x small is = absurd (omega (arith, small))
      drop_at (y ∷ ys) zero x small is = ap (λ (z : ControlItem). z ∷ ys) (sym is)
      drop_at (y ∷ ys) (suc j) x small is = drop_at ys j x (omega (arith, small)) is

-- no item lies before those that it follows
pub upto_item : (m : ℕ) (items : List ControlItem) (i : ℕ) (item : ControlItem) → RisesFrom m (map control_at items) → i < length items → item ≡ get_or items i item → greatest_of (map control_at (take i items)) ≤ control_at item
upto_item m [] i item h lt at = absurd (omega (arith, lt))
upto_item m (x ∷ xs) zero item h lt at = omega arith
upto_item m (x ∷ xs) (suc i) item h lt at =
    let rest = upto_item (control_at x) xs i item h.1 (omega (arith, lt)) at in
    let first = from_first (control_at x) xs i item h.1 (omega (arith, lt)) at in
    omega (arith, rest, first) where
      from_first : (m : ℕ) (ys : List ControlItem) (j : ℕ) (y : ControlItem) → RisesFrom m (map control_at ys) → j < length ys → y ≡ get_or ys j y → m ≤ control_at y
      from_first m [] j y rises small is = absurd (omega (arith, small))
      from_first m (z ∷ zs) zero y rises small is = subst (λ (w : ControlItem). m ≤ control_at w) (sym is) rises.0
      from_first m (z ∷ zs) (suc j) y rises small is = let le = rises.0 in let more = from_first (control_at z) zs j y rises.1 (omega (arith, small)) is in omega (arith, le, more)

-- ---- the requests that wait

few_behind : (at : ℕ) (jobs : List ProxyJob) → length (waiting_behind at jobs) ≤ length jobs
few_behind at [] = omega arith
few_behind at (job ∷ jobs) = by_test (nat_le job.due at) (few_behind at jobs) where
  by_test : (b : Bool) → length (waiting_behind at jobs) ≤ length jobs → length (if b then waiting_behind at jobs else job ∷ jobs) ≤ suc (length jobs)
  by_test true rest = omega (arith, rest)
  by_test false rest = omega arith

-- the answers that are due leave the table ready
pub ready_behind : (plan : Plan) (at m : ℕ) (table : Proxies) → IsReady plan m table → IsReady plan m (record table { jobs = waiting_behind at table.jobs })
ready_behind plan at m table r = record {
  delay = r.delay;
  most = r.most;
  due = due_behind at (m + table.delay) table.jobs r.due;
  few = (let fewer = few_behind at table.jobs in let few = r.few in omega (arith, fewer, few));
  short = r.short;
}

pub ready_later : (plan : Plan) (m n : ℕ) (table : Proxies) → m ≤ n → IsReady plan m table → IsReady plan n table
ready_later plan m n table le r = record { delay = r.delay; most = r.most; due = due_later (m + table.delay) (n + table.delay) table.jobs (omega (arith, le)) r.due; few = r.few; short = r.short }

pub ready_keys : (plan : Plan) (m : ℕ) (table : Proxies) (keys : List Key) → IsReady plan m table → IsReady plan m (record table { keys = keys })
ready_keys plan m table keys r = record { delay = r.delay; most = r.most; due = r.due; few = r.few; short = r.short }

-- ---- an item, behind what was due

pub on_ok : {A E : Type 0} (r : Result A E) (P Q : Type 0) → (P → Q) → OnOk r P → OnOk r Q
on_ok (Ok x) P Q f h = f h
on_ok (Err e) P Q f h = tt

pub taken_by : (plan : Plan) (n : ℕ) (item other : ControlItem) (old mid new : Point) → item ≡ other → mid ≡ after_due plan (control_at other) old → new ≡ after_own plan n other mid → new ≡ after plan n item old
taken_by plan n item other old mid new is due own =
    own ∙ ap (after_own plan n other) due ∙ ap (λ (i : ControlItem). after plan n i old) (sym is)

pub ready_due : (plan : Plan) (item other : ControlItem) (old mid : Point) → item ≡ other → mid ≡ after_due plan (control_at other) old → IsReady plan (control_at item) old.table → IsReady plan (control_at other) mid.table
ready_due plan item other old mid is due r =
    subst (IsReady plan (control_at other)) (sym (ap (λ (p : Point). p.table) due)) (ready_behind plan (control_at other) (control_at other) old.table (subst (λ (i : ControlItem). IsReady plan (control_at i) old.table) is r))

-- ---- the loop over the items

pub next_item : (plan : Plan) (items : List ControlItem) (i : ℕ) (item : ControlItem) → items ≡ plan.control → i < length items → item ≡ get_or items i item → (i < length plan.control) × (item ≡ get_or plan.control i item)
next_item plan items i item e lt at = subst (λ (xs : List ControlItem). (i < length xs) × (item ≡ get_or xs i item)) e (lt, at)

pub upto_all : (items : List ControlItem) (i : ℕ) (item : ControlItem) → i < length items → item ≡ get_or items i item → control_at item ≤ greatest_of (map control_at items)
upto_all [] i item lt at = absurd (omega (arith, lt))
upto_all (x ∷ xs) zero item lt at = let same = ap control_at at in omega (arith, same)
upto_all (x ∷ xs) (suc i) item lt at = let rest = upto_all xs i item (omega (arith, lt)) at in omega (arith, rest)

upto_suc : (items : List ControlItem) (i : ℕ) (item : ControlItem) → i < length items → item ≡ get_or items i item → control_at item ≤ greatest_of (map control_at (take (suc i) items))
upto_suc [] i item lt at = absurd (omega (arith, lt))
upto_suc (x ∷ xs) zero item lt at = let same = ap control_at at in omega (arith, same)
upto_suc (x ∷ xs) (suc i) item lt at = let rest = upto_suc xs i item (omega (arith, lt)) at in omega (arith, rest)

pub upto_taken : (items : List ControlItem) (i : ℕ) (item : ControlItem) → i < length items → item ≡ get_or items i item → control_at item ≤ greatest_of (map control_at (take (i + 1) items))
upto_taken items i item lt at =
    let next : suc i ≡ i + 1 = omega arith in
    subst (λ (n : ℕ). control_at item ≤ greatest_of (map control_at (take n items))) next (upto_suc items i item lt at)

drop_all : (items : List ControlItem) (i : ℕ) → length items ≤ i → drop i items ≡ []
drop_all [] zero le = refl
drop_all [] (suc i) le = refl
drop_all (x ∷ xs) zero le = absurd (omega (arith, le))
drop_all (x ∷ xs) (suc i) le = drop_all xs i (omega (arith, le))

-- behind the last item the walk is whole
pub whole_walk : (plan : Plan) (i : ℕ) (answers : List Answer) (w : Point) → length plan.control ≤ i → walked plan (i + 1) (drop i plan.control) w ≡ walked plan 1 plan.control (at_point (start_table plan) answers [])
    → w.lines ≡ lines_by plan host_start 1 plan.control answers
whole_walk plan i answers w le e =
    ap (λ (p : Point). p.lines) (ap (λ (xs : List ControlItem). walked plan (i + 1) xs w) (sym (drop_all plan.control i le)) ∙ e)
    ∙ walked_lines plan 1 plan.control (at_point (start_table plan) answers [])

pub start_ready : (plan : Plan) (at : ℕ) → plan.params.proxy_delay ≤ 10_000_000 → IsReady plan at (start_table plan)
start_ready plan at le = record { delay = refl; most = refl; due = refl; few = omega arith; short = le }

-- ---- a request that is queued

abbrev job_of : ℕ → ℕ → ProxyRequest → ProxyJob
job_of at delay request = record { due = at + delay; request = request }

-- what the queue does with a request
pub record IsQueue (plan : Plan) (at : ℕ) (table new : Proxies) (request : ProxyRequest) (taken : Bool) : Type 0 where
  pub value : taken ≡ is_queued plan (state_in table)
  pub proxies : new ≡ table_in table (with_request plan (state_in table) at (Some request))
  pub ready : IsReady plan at new

has_room : (n most : ℕ) → n ≤ most → (n ≡ most → ⊥) → n < most
has_room n most le other = ⊎_elim (λ (lt : n < most). lt) (λ (more : most ≤ n). absurd (other (omega (arith, le, more)))) (cases_lt n most)

queue_ok : (plan : Plan) (at : ℕ) (table new : Proxies) (request : ProxyRequest) → IsReady plan at table → (length table.jobs ≡ table.most → ⊥) → new ≡ record table { jobs = table.jobs ++ job_of at table.delay request ∷ [] } → IsQueue plan at table new request true
queue_ok plan at table new request r other is = record {
  value = sym room;
  proxies =
      is
      ∙ ap (λ (d : ℕ). (let made : Proxies = record table { jobs = table.jobs ++ job_of at d request ∷ [] } in made)) r.delay
      ∙ sym (ap (λ (b : Bool). table_in table (if b then record (state_in table) { waiting = table.jobs ++ job_of at plan.params.proxy_delay request ∷ [] } else state_in table)) room);
  ready = subst (IsReady plan at) (sym is) (record {
    delay = r.delay;
    most = r.most;
    due = due_with (at + table.delay) table.jobs (job_of at table.delay request) (omega arith) r.due;
    few = (let one = length-append table.jobs (job_of at table.delay request ∷ []) in omega (arith, one, less));
    short = r.short;
  });
} where
  less : length table.jobs < table.most
  less = has_room (length table.jobs) table.most r.few other

  room : nat_lt (length table.jobs) plan.params.proxy_qlen ≡ true
  room = lt-ltb (length table.jobs) plan.params.proxy_qlen (subst (λ (m : ℕ). length table.jobs < m) r.most less)

queue_full : (plan : Plan) (at : ℕ) (table new : Proxies) (request : ProxyRequest) → IsReady plan at table → length table.jobs ≡ table.most → new ≡ table → IsQueue plan at table new request false
queue_full plan at table new request r full is = record {
  value = sym none;
  proxies = is ∙ sym (ap (λ (b : Bool). table_in table (if b then record (state_in table) { waiting = table.jobs ++ job_of at plan.params.proxy_delay request ∷ [] } else state_in table)) none);
  ready = subst (IsReady plan at) (sym is) r;
} where
  none : nat_lt (length table.jobs) plan.params.proxy_qlen ≡ false
  none = let most = r.most in le-ltb (length table.jobs) plan.params.proxy_qlen (omega (arith, full, most))

pub queue_is : {A E : Type 0} (plan : Plan) (at : ℕ) (table new : Proxies) (request : ProxyRequest) (r : Result A E) → IsReady plan at table → (IsErr r ↔ (length table.jobs ≡ table.most)) → OnOk r (new ≡ record table { jobs = table.jobs ++ job_of at table.delay request ∷ [] }) → OnErr r (new ≡ table) → IsQueue plan at table new request (is_ok r)
queue_is plan at table new request (Ok x) ready full ok err = queue_ok plan at table new request ready (λ e. let bad = full.1 e in cc) ok
queue_is plan at table new request (Err e) ready full ok err = queue_full plan at table new request ready (full.0 refl) err

-- ---- a frame that was heard

pub frame_taken : (plan : Plan) (n at : ℕ) (bytes : List ℕ) (old : Point) (h : Heard) (table : Proxies) (answers : List Answer) (lines : List HostLine) (queued : Option Bool) (op : Option Placed)
    → h ≡ heard plan (state_in old.table) bytes → queued ≡ option_map (λ asked. is_queued plan (state_in old.table)) h.request → op ≡ first_of (places_by plan.buckets h.op old.answers)
    → table ≡ table_in old.table (with_request plan (state_in old.table) at h.request) → answers ≡ rest_by plan.buckets h.op old.answers → lines ≡ old.lines ++ host_line.Frame n at h.class queued h.reply op ∷ []
    → at_point table answers lines ≡ after_own plan n (control.Frame at bytes) old
frame_taken plan n at bytes old h table answers lines queued op eh eq eo et ea el =
    ap (λ (t : Proxies). at_point t answers lines) et
    ∙ ap (λ (rest : List Answer). at_point (table_in old.table (with_request plan s at h.request)) rest lines) ea
    ∙ ap (λ (ls : List HostLine). at_point (table_in old.table (with_request plan s at h.request)) (rest_by plan.buckets h.op old.answers) ls) (
    el
    ∙ ap (λ (q : Option Bool). old.lines ++ host_line.Frame n at h.class q h.reply op ∷ []) eq
    ∙ ap (λ (o : Option Placed). old.lines ++ host_line.Frame n at h.class (option_map (λ asked. is_queued plan s) h.request) h.reply o ∷ []) eo
    )
    ∙ ap (λ (x : Heard). after_turn plan (frame_turn plan s n at x) old) eh where
      s : HostState
      s = state_in old.table

-- an item without a frame leaves the requests that wait
pub ready_own : (plan : Plan) (n : ℕ) (item other : ControlItem) (old mid new : Point) (keys : List Key) → item ≡ other → (after_own plan n other mid).table ≡ record mid.table { keys = keys } → mid ≡ after_due plan (control_at other) old
    → IsReady plan (control_at item) old.table → new ≡ after_own plan n other mid → IsReady plan (control_at item) new.table
ready_own plan n item other old mid new keys is kept due r own =
    subst (λ (i : ControlItem). IsReady plan (control_at i) new.table) (sym is)
    (subst (IsReady plan (control_at other)) (sym (ap (λ (p : Point). p.table) own ∙ kept)) (ready_keys plan (control_at other) mid.table keys (ready_due plan item other old mid is due r)))
