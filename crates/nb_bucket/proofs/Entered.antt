-- An operation's line with what it saw and with its `full`, which change nothing of what it asks for, and its reply.
use Rattle.std.proofs.Common.{◌≡◌, ◌≤◌, ℕ, ◌-◌, Bool, true, false, ◌&&◌, ◌||◌, not, is_some, nat_le, if◌then◌else◌, List, [], ◌++◌, length, Option, Some, None, refl, sym, ◌∙◌, ap, arith}
use Rattle.std.specs.Prelude.{map, IfSome}
use Rattle.std.proofs.lemmas.List.{length-append, length-map}
use Rattle.nb_base.specs.declared.key.Key.{Key}
use Rattle.nb_base.specs.declared.params.Params.{Params}
use Rattle.nb_base.specs.declared.op.Op.{Op}
use Rattle.nb_base.specs.declared.op.Op.TheVariants as op
use Rattle.nb_base.specs.declared.line.Line.{Line}
use Rattle.nud_machine.specs.declared.act.Act.{Act}
use Rattle.nud_machine.specs.State.{State}
use Rattle.nb_journal.specs.Keys.{is_own, is_sweep, key_of}
use Rattle.nb_journal.specs.Fold.{Effect, Passes, Refuses, Brings, effect, seen_of, state_of, is_present, present_count, acts_of, reply_to_effect, reply_for, reply_by, reply_of}
use Rattle.nb_journal.specs.Lawful.{base_of, brings_event, made_by, making, HasSeen, is_pass_due, last_pass, collect_line, has_pass, taken_by_pass, asked_of_pass, collects, left_of_seen, full_of}
use Rattle.nb_journal.proofs.Passes.{base_of-collects, collects_keys}

-- ---- `full`

effect-full : (p : Params) (l : Line) (full : Option ℕ) (s : State) (o : Op) → effect p (record l { full = full }) s o ≡ effect p l s o
effect-full p l full s (op.Send key len) = refl
effect-full p l full s (op.Arp key mac make solicited) = refl
effect-full p l full s (op.Ns key mac) = refl
effect-full p l full s (op.Na key mac router solicited overrides) = refl
effect-full p l full s (op.Add key mac nud) = refl
effect-full p l full s (op.Change key mac nud) = refl
effect-full p l full s (op.Replace key mac nud) = refl
effect-full p l full s (op.Del key) = refl
effect-full p l full s (op.Confirm key) = refl
effect-full p l full s op.Show = refl
effect-full p l full s op.Flush = refl
effect-full p l full s (op.Timer key) = refl
effect-full p l full s op.Sweep = refl
effect-full p l full s (op.Collect key) = refl

pub making-full : (p : Params) (base : List Line) (l : Line) (full : Option ℕ) → making p base (record l { full = full }) ≡ making p base l
making-full p base l full = by_key (key_of l.op) where
  by_key : (o : Option Key) → made_by p base (record l { full = full }) o ≡ made_by p base l o
  by_key None = refl
  by_key (Some key) = ap (λ (e : Effect). if is_own l.op && not (is_present p base key) && brings_event e then Some key else None) (effect-full p l full (state_of p base key) l.op)

pub collects-full : (p : Params) (base : List Line) (l : Line) (full : Option ℕ) → collects p base (record l { full = full }) ≡ collects p base l
collects-full p base l full =
    ap (λ (made : Option Key). map (collect_line l.at) (if is_some made && is_pass_due p (seen_of l) (last_pass p base) l.at then taken_by_pass p base l else [])) (making-full p base l full)

pub full_of-full : (p : Params) (past : List Line) (l : Line) (full : Option ℕ) → full_of p past (record l { full = full }) ≡ full_of p past l
full_of-full p past l full = ap (λ (made : Option Key). if is_some made && nat_le p.gc_thresh3 (left_of_seen past l) then Some (left_of_seen past l) else None) (making-full p (base_of past) l full)

-- ---- what a line saw

effect-seen : (p : Params) (l : Line) (seen : Option ℕ) (s : State) (o : Op) → is_own o ≡ true → effect p (record l { seen = seen }) s o ≡ effect p l s o
effect-seen p l seen s op.Sweep own = cc
effect-seen p l seen s (op.Send key len) own = refl
effect-seen p l seen s (op.Arp key mac make solicited) own = refl
effect-seen p l seen s (op.Ns key mac) own = refl
effect-seen p l seen s (op.Na key mac router solicited overrides) own = refl
effect-seen p l seen s (op.Add key mac nud) own = refl
effect-seen p l seen s (op.Change key mac nud) own = refl
effect-seen p l seen s (op.Replace key mac nud) own = refl
effect-seen p l seen s (op.Del key) own = refl
effect-seen p l seen s (op.Confirm key) own = refl
effect-seen p l seen s op.Show own = refl
effect-seen p l seen s op.Flush own = refl
effect-seen p l seen s (op.Timer key) own = refl
effect-seen p l seen s (op.Collect key) own = refl

-- an operation makes an entry whatever its line saw
pub making-seen : (p : Params) (base : List Line) (l : Line) (seen : Option ℕ) → is_own l.op ≡ true → making p base (record l { seen = seen }) ≡ making p base l
making-seen p base l seen own = by_key (key_of l.op) where
  by_key : (o : Option Key) → made_by p base (record l { seen = seen }) o ≡ made_by p base l o
  by_key None = refl
  by_key (Some key) = ap (λ (e : Effect). if is_own l.op && not (is_present p base key) && brings_event e then Some key else None) (effect-seen p l seen (state_of p base key) l.op own)

-- whether its pass is due is known from what it saw, exactly where it is to make an entry, and from the moment of the last pass
pub has_pass-known : (p : Params) (base : List Line) (l : Line) (seen : Option ℕ) (last : ℕ) → is_own l.op ≡ true → is_some seen ≡ is_some (making p base l) → last ≡ last_pass p base
    → (is_some seen && is_pass_due p (seen_of (record l { seen = seen })) last l.at) ≡ has_pass p base (record l { seen = seen })
has_pass-known p base l seen last own there e =
    let line = record l { seen = seen } in
    ap (λ (t : Bool). t && is_pass_due p (seen_of line) last l.at) (there ∙ sym (ap (λ (made : Option Key). is_some made) (making-seen p base l seen own)))
    ∙ ap (λ (n : ℕ). is_some (making p base line) && is_pass_due p (seen_of line) n l.at) e

own_no_sweep : (o : Op) → is_own o ≡ true → is_sweep o ≡ false
own_no_sweep op.Sweep own = cc
own_no_sweep _ own = refl

-- an operation's line that looks exactly where it is to make an entry, and sees at least what is present
pub has_seen : (p : Params) (base : List Line) (l : Line) → is_own l.op ≡ true → is_some l.seen ≡ is_some (making p base l) → IfSome l.seen (λ seen. present_count p base ≤ seen) → HasSeen p base l
has_seen p base l own there enough = record { there = there ∙ sym (ap (λ (t : Bool). t || is_some (making p base l)) (own_no_sweep l.op own)); enough = enough }

pub seen-full : (p : Params) (base : List Line) (l : Line) (full : Option ℕ) → HasSeen p base l → HasSeen p base (record l { full = full })
seen-full p base l full h = record { there = h.there ∙ ap (λ (made : Option Key). is_sweep l.op || is_some made) (sym (making-full p base l full)); enough = h.enough }

-- ---- the base

-- the base of a journal with the collects before an operation is the journal
pub base_of-behind : (p : Params) (lines : List Line) (l : Line) → base_of lines ≡ lines → base_of (lines ++ collects p lines l) ≡ lines
base_of-behind p lines l bare = let keys = collects_keys p lines l in ap (λ (xs : List Line). base_of (lines ++ xs)) keys.1 ∙ base_of-collects lines l.at keys.0 ∙ bare

-- ---- replies

abbrev passes : Effect → Bool
passes Passes = true
passes _ = false

own_effect : (p : Params) (l : Line) (s : State) (o : Op) (key : Key) → key_of o ≡ Some key → is_own o ≡ true → passes (effect p l s o) ≡ false
own_effect p l s op.Show key e own = cc
own_effect p l s op.Flush key e own = cc
own_effect p l s op.Sweep key e own = cc
own_effect p l s (op.Timer k) key e own = cc
own_effect p l s (op.Collect k) key e own = cc
own_effect p l s _ key e own = grind arith

some_reply : (o : Op) (acts : List Act) (e : Effect) → passes e ≡ false → is_some (reply_to_effect o acts e) ≡ true
some_reply o acts Passes h = cc
some_reply o acts (Refuses r) h = refl
some_reply o acts (Brings e) h = refl

some_reply_for : (p : Params) (past : List Line) (l : Line) (key : Key) (full : Option ℕ) → key_of l.op ≡ Some key → is_own l.op ≡ true → is_some (reply_for p past l key full) ≡ true
some_reply_for p past l key (Some seen) e own = refl
some_reply_for p past l key None e own = some_reply l.op (acts_of p past l key) (effect p l (state_of p past key) l.op) (own_effect p l (state_of p past key) l.op key e own)

some_reply_by : (p : Params) (past : List Line) (l : Line) (o : Op) → l.op ≡ o → is_own o ≡ true → is_some (reply_by p past l o (key_of o)) ≡ true
some_reply_by p past l op.Show e own = refl
some_reply_by p past l op.Flush e own = refl
some_reply_by p past l op.Sweep e own = cc
some_reply_by p past l (op.Timer k) e own = cc
some_reply_by p past l (op.Collect k) e own = cc
some_reply_by p past l (op.Send k len) e own = some_reply_for p past l k l.full (ap key_of e) (ap is_own e ∙ own)
some_reply_by p past l (op.Arp k mac make solicited) e own = some_reply_for p past l k l.full (ap key_of e) (ap is_own e ∙ own)
some_reply_by p past l (op.Ns k mac) e own = some_reply_for p past l k l.full (ap key_of e) (ap is_own e ∙ own)
some_reply_by p past l (op.Na k mac router solicited overrides) e own = some_reply_for p past l k l.full (ap key_of e) (ap is_own e ∙ own)
some_reply_by p past l (op.Add k mac nud) e own = some_reply_for p past l k l.full (ap key_of e) (ap is_own e ∙ own)
some_reply_by p past l (op.Change k mac nud) e own = some_reply_for p past l k l.full (ap key_of e) (ap is_own e ∙ own)
some_reply_by p past l (op.Replace k mac nud) e own = some_reply_for p past l k l.full (ap key_of e) (ap is_own e ∙ own)
some_reply_by p past l (op.Del k) e own = some_reply_for p past l k l.full (ap key_of e) (ap is_own e ∙ own)
some_reply_by p past l (op.Confirm k) e own = some_reply_for p past l k l.full (ap key_of e) (ap is_own e ∙ own)

-- an operation's line has a reply
pub own_reply : (p : Params) (past : List Line) (l : Line) → is_own l.op ≡ true → is_some (reply_of p past l) ≡ true
unfolding reply_of
own_reply p past l own = rw own (some_reply_by p past l l.op refl own)

-- what stands in the way is known before the collects are written
pub full_of-known : (p : Params) (lines : List Line) (l : Line) (collects_many : ℕ) → base_of lines ≡ lines → is_some l.seen ≡ is_some (making p lines l) → collects_many ≡ length (asked_of_pass p lines l)
    → full_of p (lines ++ collects p lines l) l ≡ (if is_some l.seen && nat_le p.gc_thresh3 (seen_of l - collects_many) then Some (seen_of l - collects_many) else None)
full_of-known p lines l many bare there count =
    let past = lines ++ collects p lines l in
    let base = base_of-behind p lines l bare in
    let size = length-append lines (collects p lines l) in
    let some = length-map (asked_of_pass p lines l) (collect_line l.at) in
    let front = ap (λ (xs : List Line). length xs) base in
    let left : left_of_seen past l ≡ seen_of l - many = ap (λ (n : ℕ). seen_of l - n) (let same : length past - length (base_of past) ≡ many = omega (arith, size, some, front, count) in same) in
    let made : is_some (making p (base_of past) l) ≡ is_some l.seen = ap (λ (xs : List Line). is_some (making p xs l)) base ∙ sym there in
    ap (λ (t : Bool). if t && nat_le p.gc_thresh3 (left_of_seen past l) then Some (left_of_seen past l) else None) made
    ∙ ap (λ (n : ℕ). if is_some l.seen && nat_le p.gc_thresh3 n then Some n else None) left
