-- What an address that was heard or given does to an entry: five rules, of which the first that applies decides.
-- (Linux, neigh_update; RFC 4861 section 7.2.5 and the NA and NS rows of appendix C; the admin flag is this project's own.)
use Rattle.std.specs.Prelude.{ℕ, ◌+◌, Bool, true, false, ◌&&◌, not, is_none, if◌then◌else◌, [], Option, Some, None}
use Rattle.nb_base.specs.declared.mac.Mac.{Mac}
use Rattle.nb_base.specs.declared.nud.Nud.{Nud}
use Rattle.nb_base.specs.declared.nud.Nud.TheVariants as nud
use Rattle.nb_base.specs.declared.params.Params.{Params}
use Rattle.nb_base.specs.Nud.{is_connected, is_valid}
use Rattle.nud_machine.specs.declared.entry.Entry.{Entry}
use Rattle.nud_machine.specs.State.{State, Stepped, stays, becomes, empties, transmits, same_mac, same_nud}

-- set by hand: PERMANENT and NOARP
abbrev pub is_fixed : Nud → Bool
is_fixed nud.Permanent = true
is_fixed nud.Noarp = true
is_fixed _ = false

-- how an update is meant: whether it may replace an address, whether one that may not makes a connected entry STALE, and whether it is set by hand
pub record Manner : Type 0 where
  pub overrides : Bool
  pub weak : Bool
  pub admin : Bool

-- an address is given, and isn't the entry's own
abbrev pub differs : Option Mac → Option Mac → Bool
differs None own = false
differs (Some mac) own = not (same_mac (Some mac) own)

-- the address given, or else the entry's own
abbrev pub meant : Option Mac → Option Mac → Option Mac
meant None own = own
meant (Some mac) own = Some mac

-- the five rules
pub data Rule : Type 0 where
  SetByHand : Rule
  NoAddress : Rule
  MayNotReplace : Rule
  NothingNew : Rule
  IsTaken : Rule

-- the first rule that applies
abbrev pub rule_for : Entry → Option Mac → Nud → Manner → Rule
rule_for e given new how =
    if is_fixed e.nud && not how.admin then SetByHand
    else (if is_none given && not (is_valid e.nud) then NoAddress
    else (if is_valid e.nud && differs given e.mac && not how.overrides then MayNotReplace
    else (if is_valid e.nud && not (differs given e.mac) && same_nud new nud.Stale && not how.admin then NothingNew
    else IsTaken)))

-- REACHABLE is confirmed now; otherwise a new address that isn't connected has no confirmation
abbrev pub confirmed_in : ℕ → Entry → Option Mac → Nud → Option ℕ
confirmed_in at e mac nud.Reachable = Some at
confirmed_in at e mac new = if not (same_mac mac e.mac) && not (is_connected new) then None else e.confirmed

-- REACHABLE has a timer; the other states that an update gives have none
abbrev pub due_in : Params → ℕ → Nud → Option ℕ
due_in p at nud.Reachable = Some (at + p.base_reachable_time)
due_in p at _ = None

-- the new state and address are taken, and the probes begin anew
abbrev pub entry_with : Params → ℕ → Entry → Option Mac → Nud → Entry
entry_with p at e mac new = record e { nud = new; mac = mac; probes = 0; confirmed = confirmed_in at e mac new; due = due_in p at new }

-- what waited goes out where the address wasn't known
abbrev pub takes : Params → ℕ → State → Option Mac → Nud → Stepped
takes p at s mac new =
    if is_valid s.entry.nud then becomes s (entry_with p at s.entry mac new) []
    else empties (entry_with p at s.entry mac new) (transmits mac s.waiting)

-- a connected entry whose address is doubted becomes STALE and keeps its address
abbrev pub doubts : State → Manner → Stepped
doubts s how = if how.weak && is_connected s.entry.nud then becomes s (record s.entry { nud = nud.Stale; due = None }) [] else stays s

-- what each rule does
abbrev pub update_by : Rule → Params → ℕ → State → Option Mac → Nud → Manner → Stepped
update_by SetByHand p at s given new how = stays s
update_by NoAddress p at s given new how = stays s
update_by MayNotReplace p at s given new how = doubts s how
update_by NothingNew p at s given new how = stays s
update_by IsTaken p at s given new how = takes p at s (meant given s.entry.mac) new

abbrev pub update : Params → ℕ → State → Option Mac → Nud → Manner → Stepped
update p at s given new how = update_by (rule_for s.entry given new how) p at s given new how

-- an advertisement's router mark is kept where it said nothing new or was taken (RFC 4861 section 7.2.5)
abbrev pub router_by : Rule → Bool → Entry → Entry
router_by NothingNew router e = record e { router = router }
router_by IsTaken router e = record e { router = router }
router_by _ router e = e
