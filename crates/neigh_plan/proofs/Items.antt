-- Taking the next step of a script and a capture, and what participant 0's items keep: their order and their number.
use Rattle.std.proofs.Common.{◌≡◌, ℕ, suc, ◌+◌, ◌≤◌, Bool, true, false, ◌||◌, if◌then◌else◌, List, [], ◌∷◌, ◌++◌, length, map, refl, sym, ◌∙◌, ap, subst, arith, append-nil, append_assoc}
use Rattle.std.specs.Prelude.{nat_le, fold}
use Rattle.std.specs.List.{All}
use Rattle.std.specs.List.Sorted.{IsNonDecreasing}
use Rattle.std.proofs.lemmas.Bool.{le-leb}
use Rattle.std.proofs.lemmas.List.{length-map}
use Rattle.nb_base.specs.declared.plan.Plan.{Plan}
use Rattle.nb_base.specs.declared.plan.ControlItem.{ControlItem}
use Rattle.nb_base.specs.declared.plan.ControlItem.TheVariants as control
use Rattle.pcap_records.specs.declared.capture.Rec.{Rec}
use Rattle.pcap_records.specs.Capture.{AreBounded}
use Rattle.neigh_script.specs.declared.script.Script.{Script}
use Rattle.neigh_script.specs.declared.script.ScriptItem.{ScriptItem}
use Rattle.neigh_script.specs.declared.script.ScriptItem.TheVariants as item
use Rattle.neigh_script.specs.Context.{at_of}
use Rattle.nb_journal.proofs.Tests.{le_from}
use Rattle.neigh_run.specs.Plan.{RisesFrom, control_at, control_of, control_items, plan_of, IsScriptWithinLimits, IsWithinLimits}
use Rattle.neigh_plan.specs.Files.{frame_of, insert_item, with_item, plan_of_files}
use Rattle.neigh_plan.specs.declared.planning.Step.{Step}
use Rattle.neigh_plan.specs.Planning.{is_sent, AreFit, frames_of, insert_items, step_items}
use Rattle.neigh_plan.proofs.Planned.{rises_control, few_control, within_limits}
use Rattle.neigh_plan.proofs.Orders.{le_not}

pub insert_items-nil : (items : List ControlItem) → insert_items items [] ≡ items
unfolding insert_items
insert_items-nil items = refl

pub insert_items-cons : (items more : List ControlItem) (x : ControlItem) → insert_items items (x ∷ more) ≡ insert_items (insert_item x items) more
unfolding insert_items
insert_items-cons items more x = refl

-- ---- records

pub fit-lower : (size from lower : ℕ) (records : List Rec) → lower ≤ from → AreFit size from records → AreFit size lower records
fit-lower size from lower [] le h = tt
fit-lower size from lower (captured ∷ records) le h = let first = h.1 in (h.0, omega (arith, le, first), h.2)

-- what stands behind the first record
pub fit_behind : (size : ℕ) (records later : List Rec) (captured : Rec) → records ≡ captured ∷ later → AreFit size 0 records → AreFit size 0 later
fit_behind size records later captured e h = let parts = subst (AreFit size 0) e h in fit-lower size captured.at 0 later (omega arith) parts.2

pub fit_none : (size : ℕ) (records : List Rec) → records ≡ [] → AreFit size 0 records
fit_none size records e = subst (AreFit size 0) (sym e) tt

pub fit_first : (size : ℕ) (records later : List Rec) (captured : Rec) → records ≡ captured ∷ later → AreFit size 0 records → captured.start + captured.len ≤ size
fit_first size records later captured e h = (subst (AreFit size 0) e h).0

fit_from : (size from : ℕ) (records : List Rec) → All (λ r. r.start + r.len ≤ size) records → IsNonDecreasing (map (λ r. r.at) records) → All (λ at. from ≤ at) (map (λ r. r.at) records) → AreFit size from records
fit_from size from [] within order above = tt
fit_from size from (captured ∷ records) within order above = (
  within 0 captured (omega arith),
  above 0 0 (omega arith),
  fit_from size captured.at records
      (λ k d lt. within (suc k) d (omega (arith, lt)))
      (λ i j d le lt. order (suc i) (suc j) d (omega (arith, le)) (omega (arith, lt)))
      (λ k d lt. order 0 (suc k) d (omega arith) (omega (arith, lt))),
)

-- the records of a capture are fit
pub bounded_fit : (size : ℕ) (records : List Rec) → AreBounded size records → AreFit size 0 records
bounded_fit size records h = fit_from size 0 records h.within h.order (λ k d lt. omega arith)

-- no records are those of a capture that isn't there
pub none_bounded : (size : ℕ) → AreBounded size []
none_bounded size = record {
  within = λ k d lt. absurd (omega (arith, lt));
  order = λ i j d le lt. absurd (omega (arith, lt));
  span = λ k d lt. absurd (omega (arith, lt));
  few = omega arith;
}

-- ---- the next item

-- a first item stays the first where no record lies before it
stays_first : (x : ControlItem) (items : List ControlItem) (bytes : List ℕ) (records : List Rec) (size : ℕ) → AreFit size (control_at x) records
    → insert_items (x ∷ items) (frames_of bytes records) ≡ x ∷ insert_items items (frames_of bytes records)
stays_first x items bytes [] size h = insert_items-nil (x ∷ items) ∙ ap (λ (ys : List ControlItem). x ∷ ys) (sym (insert_items-nil items))
stays_first x items bytes (captured ∷ records) size h =
    let y = frame_of bytes captured in
    insert_items-cons (x ∷ items) (frames_of bytes records) y
    ∙ ap (λ (b : Bool). insert_items (if b then x ∷ insert_item y items else y ∷ x ∷ items) (frames_of bytes records)) (le-leb (control_at x) captured.at h.1)
    ∙ stays_first x (insert_item y items) bytes records size (fit-lower size captured.at (control_at x) records h.1 h.2)
    ∙ ap (λ (zs : List ControlItem). x ∷ zs) (sym (insert_items-cons items (frames_of bytes records) y))

-- a line goes first where it doesn't lie behind the next record, or where it sends
line_first : (bytes : List ℕ) (line : ScriptItem) (behind : List ScriptItem) (captured : Rec) (later : List Rec) (size : ℕ) → (is_sent line || nat_le (at_of line) captured.at) ≡ true → AreFit size 0 (captured ∷ later)
    → insert_items (control_items (line ∷ behind)) (frames_of bytes (captured ∷ later)) ≡ control_of line ++ insert_items (control_items behind) (frames_of bytes (captured ∷ later))
line_first bytes (item.Neigh at o) behind captured later size first h = stays_first (control.Neigh at o) (control_items behind) bytes (captured ∷ later) size (h.0, le_from at captured.at first, h.2)
line_first bytes (item.Proxy at key add) behind captured later size first h = stays_first (control.Proxy at key add) (control_items behind) bytes (captured ∷ later) size (h.0, le_from at captured.at first, h.2)
line_first bytes (item.Send at sender key payload) behind captured later size first h = refl

pub next_is_line : (bytes : List ℕ) (lines behind : List ScriptItem) (line : ScriptItem) (records later : List Rec) (captured : Rec) (size : ℕ)
    → lines ≡ line ∷ behind → records ≡ captured ∷ later → (is_sent line || nat_le (at_of line) captured.at) ≡ true → AreFit size 0 records
    → insert_items (control_items lines) (frames_of bytes records) ≡ control_of line ++ insert_items (control_items behind) (frames_of bytes records)
next_is_line bytes lines behind line records later captured size e f first h = rw (e, f) (line_first bytes line behind captured later size first (subst (AreFit size 0) f h))

-- else the record does
record_first : (bytes : List ℕ) (line : ScriptItem) (behind : List ScriptItem) (captured : Rec) (later : List Rec) (size : ℕ) → (is_sent line || nat_le (at_of line) captured.at) ≡ false → AreFit size 0 (captured ∷ later)
    → insert_items (control_items (line ∷ behind)) (frames_of bytes (captured ∷ later)) ≡ frame_of bytes captured ∷ insert_items (control_items (line ∷ behind)) (frames_of bytes later)
record_first bytes (item.Neigh at o) behind captured later size lt h =
    let y = frame_of bytes captured in
    insert_items-cons (control.Neigh at o ∷ control_items behind) (frames_of bytes later) y
    ∙ ap (λ (b : Bool). insert_items (if b then control.Neigh at o ∷ insert_item y (control_items behind) else y ∷ control.Neigh at o ∷ control_items behind) (frames_of bytes later)) lt
    ∙ stays_first y (control.Neigh at o ∷ control_items behind) bytes later size h.2
record_first bytes (item.Proxy at key add) behind captured later size lt h =
    let y = frame_of bytes captured in
    insert_items-cons (control.Proxy at key add ∷ control_items behind) (frames_of bytes later) y
    ∙ ap (λ (b : Bool). insert_items (if b then control.Proxy at key add ∷ insert_item y (control_items behind) else y ∷ control.Proxy at key add ∷ control_items behind) (frames_of bytes later)) lt
    ∙ stays_first y (control.Proxy at key add ∷ control_items behind) bytes later size h.2
record_first bytes (item.Send at sender key payload) behind captured later size lt h = absurd cc

pub next_is_record : (bytes : List ℕ) (lines behind : List ScriptItem) (line : ScriptItem) (records later : List Rec) (captured : Rec) (size : ℕ)
    → lines ≡ line ∷ behind → records ≡ captured ∷ later → (is_sent line || nat_le (at_of line) captured.at) ≡ false → AreFit size 0 records
    → insert_items (control_items lines) (frames_of bytes records) ≡ frame_of bytes captured ∷ insert_items (control_items lines) (frames_of bytes later)
next_is_record bytes lines behind line records later captured size e f lt h = rw (e, f) (record_first bytes line behind captured later size lt (subst (AreFit size 0) f h))

pub next_record_alone : (bytes : List ℕ) (lines : List ScriptItem) (records later : List Rec) (captured : Rec) (size : ℕ)
    → length lines ≡ 0 → records ≡ captured ∷ later → AreFit size 0 records
    → insert_items (control_items lines) (frames_of bytes records) ≡ frame_of bytes captured ∷ insert_items (control_items lines) (frames_of bytes later)
next_record_alone bytes [] records later captured size e f h =
    let parts = subst (AreFit size 0) f h in
    rw f (insert_items-cons [] (frames_of bytes later) (frame_of bytes captured) ∙ stays_first (frame_of bytes captured) [] bytes later size parts.2)
next_record_alone bytes (line ∷ lines) records later captured size e f h = absurd (omega (arith, e))

pub next_line_alone : (bytes : List ℕ) (lines behind : List ScriptItem) (line : ScriptItem) (records : List Rec)
    → lines ≡ line ∷ behind → records ≡ []
    → insert_items (control_items lines) (frames_of bytes records) ≡ control_of line ++ insert_items (control_items behind) (frames_of bytes records)
next_line_alone bytes lines behind line records e f =
    rw (e, f) (insert_items-nil (control_of line ++ control_items behind) ∙ ap (λ (ys : List ControlItem). control_of line ++ ys) (sym (insert_items-nil (control_items behind))))

pub nothing_left : (bytes : List ℕ) (items : List ControlItem) (lines : List ScriptItem) (records : List Rec) → lines ≡ [] → records ≡ [] → items ++ insert_items (control_items lines) (frames_of bytes records) ≡ items
nothing_left bytes items lines records e f = rw (e, f) (ap (λ (ys : List ControlItem). items ++ ys) (insert_items-nil []) ∙ append-nil items)

-- one step more
pub step_more : (bytes old : List ℕ) (items more : List ControlItem) (taken : Step) (lines behind : List ScriptItem) (records later : List Rec) (whole : List ControlItem)
    → old ≡ bytes → more ≡ items ++ step_items bytes taken
    → insert_items (control_items lines) (frames_of old records) ≡ step_items old taken ++ insert_items (control_items behind) (frames_of old later)
    → items ++ insert_items (control_items lines) (frames_of bytes records) ≡ whole
    → more ++ insert_items (control_items behind) (frames_of bytes later) ≡ whole
step_more bytes old items more taken lines behind records later whole e grows value so_far =
    let rest = insert_items (control_items behind) (frames_of bytes later) in
    let here = subst (λ (b : List ℕ). insert_items (control_items lines) (frames_of b records) ≡ step_items b taken ++ insert_items (control_items behind) (frames_of b later)) e value in
    ap (λ (xs : List ControlItem). xs ++ rest) grows
    ∙ append_assoc items (step_items bytes taken) rest
    ∙ ap (λ (ys : List ControlItem). items ++ ys) (sym here)
    ∙ so_far

-- ---- the plan

with_items : (bytes : List ℕ) (records : List Rec) (plan : Plan) → fold (λ (plan : Plan) (captured : Rec). with_item plan (frame_of bytes captured)) plan records ≡ record plan { control = insert_items plan.control (frames_of bytes records) }
with_items bytes [] plan = ap (λ (items : List ControlItem). (let made : Plan = record plan { control = items } in made)) (sym (insert_items-nil plan.control))
with_items bytes (captured ∷ records) plan =
    with_items bytes records (with_item plan (frame_of bytes captured))
    ∙ ap (λ (items : List ControlItem). (let made : Plan = record plan { control = items } in made)) (sym (insert_items-cons plan.control (frames_of bytes records) (frame_of bytes captured)))

-- the plan of a script, with the frames of the records among participant 0's items
pub plan_of_files_is : (bytes : List ℕ) (records : List Rec) (script : Script) (window buckets : ℕ)
    → plan_of_files bytes records script window buckets ≡ record (plan_of script window buckets) { control = insert_items (control_items script.items) (frames_of bytes records) }
unfolding plan_of
plan_of_files_is bytes records script window buckets = with_items bytes records (plan_of script window buckets)

-- ---- its limits

rises_insert : (m : ℕ) (x : ControlItem) (ys : List ControlItem) → m ≤ control_at x → RisesFrom m (map control_at ys) → RisesFrom m (map control_at (insert_item x ys))
rises_insert m x [] le h = (le, tt)
rises_insert m x (y ∷ ys) le h = by_test (nat_le (control_at y) (control_at x)) refl (λ at. rises_insert (control_at y) x ys at h.1) where
  by_test : (b : Bool) → nat_le (control_at y) (control_at x) ≡ b → (control_at y ≤ control_at x → RisesFrom (control_at y) (map control_at (insert_item x ys)))
      → RisesFrom m (map control_at (if b then y ∷ insert_item x ys else x ∷ y ∷ ys))
  by_test true e rest = (h.0, rest (le_from (control_at y) (control_at x) e))
  by_test false e rest = (le, (later e, h.1)) where
    later : nat_le (control_at y) (control_at x) ≡ false → control_at x ≤ control_at y
    later f = let lt = le_not (control_at y) (control_at x) f in omega (arith, lt)

length_insert : (x : ControlItem) (ys : List ControlItem) → length (insert_item x ys) ≡ length ys + 1
length_insert x [] = omega arith
length_insert x (y ∷ ys) = by_test (nat_le (control_at y) (control_at x)) (length_insert x ys) where
  by_test : (b : Bool) → length (insert_item x ys) ≡ length ys + 1 → length (if b then y ∷ insert_item x ys else x ∷ y ∷ ys) ≡ length (y ∷ ys) + 1
  by_test true rest = omega (arith, rest)
  by_test false rest = omega arith

rises_all : (items more : List ControlItem) → RisesFrom 0 (map control_at items) → RisesFrom 0 (map control_at (insert_items items more))
rises_all items [] h = rw (insert_items-nil items) h
rises_all items (x ∷ more) h = rw (insert_items-cons items more x) (rises_all (insert_item x items) more (rises_insert 0 x items (omega arith) h))

length_all : (items more : List ControlItem) → length (insert_items items more) ≡ length items + length more
length_all items [] = rw (insert_items-nil items) (omega arith)
length_all items (x ∷ more) = rw (insert_items-cons items more x) (let rest = length_all (insert_item x items) more in let one = length_insert x items in omega (arith, rest, one))

pub made_within : (size : ℕ) (bytes : List ℕ) (records : List Rec) (script : Script) (window buckets : ℕ) → AreBounded size records → IsScriptWithinLimits script
    → IsWithinLimits (record (plan_of script window buckets) { control = insert_items (control_items script.items) (frames_of bytes records) })
made_within size bytes records script window buckets bounded h =
    let alone = within_limits script window buckets h in
    let items = control_items script.items in
    let few = h.items.few in
    let fewer = few_control script.items in
    let same = length-map items control_at in
    let captured = bounded.few in
    let frames = length-map records (frame_of bytes) in
    let both = length_all items (frames_of bytes records) in
    let all = length-map (insert_items items (frames_of bytes records)) control_at in
    record {
      control = record {
        rises = rises_all items (frames_of bytes records) (rises_control 0 script.items h.items.rises);
        few = omega (arith, few, fewer, same, captured, frames, both, all);
      };
      senders = alone.senders;
      few = alone.few;
    }

-- a script within its limits and the records of a capture have a plan within its limits
pub files_within : (bytes : List ℕ) (records : List Rec) (script : Script) (window buckets : ℕ) → AreBounded (length bytes) records → IsScriptWithinLimits script → IsWithinLimits (plan_of_files bytes records script window buckets)
files_within bytes records script window buckets bounded h = rw (plan_of_files_is bytes records script window buckets) (made_within (length bytes) bytes records script window buckets bounded h)
