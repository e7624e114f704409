-- Packets that go out, wait or are dropped.
use Rattle.std.proofs.Common.{◌≡◌, ◌⊎◌, inl, inr, List, [], ◌∷◌, ◌++◌, Option, Some, None, refl, ap}
use Rattle.std.specs.Prelude.{flat_map}
use Rattle.nb_base.specs.declared.mac.Mac.{Mac}
use Rattle.nb_base.specs.declared.time.OpId.{OpId}
use Rattle.nb_base.specs.declared.nud.Nud.{Nud}
use Rattle.nb_base.specs.declared.nud.Nud.TheVariants as nud
use Rattle.nb_queues.specs.Queue.{Packet}
use Rattle.nud_machine.specs.declared.act.Cause.{Cause}
use Rattle.nud_machine.specs.State.{transmits, drops, waits_in}
use Rattle.nud_machine.specs.Laws.{leaving, ids_of}

pub transmits_more : (mac : Option Mac) (id : Packet) (ids : List Packet) → transmits mac (id ∷ ids) ≡ transmits mac (id ∷ []) ++ transmits mac ids
transmits_more None id ids = refl
transmits_more (Some mac) id ids = refl

pub leaving_transmits : (mac : Mac) (packets : List Packet) → flat_map leaving (transmits (Some mac) packets) ≡ ids_of packets
leaving_transmits mac [] = refl
leaving_transmits mac (packet ∷ packets) = ap (λ (xs : List OpId). packet.0 ∷ xs) (leaving_transmits mac packets)

pub leaving_drops : (cause : Cause) (packets : List Packet) → flat_map leaving (drops cause packets) ≡ ids_of packets
leaving_drops cause [] = refl
leaving_drops cause (packet ∷ packets) = ap (λ (xs : List OpId). packet.0 ∷ xs) (leaving_drops cause packets)

-- nothing waits, or the state is INCOMPLETE
pub waits_or : (n : Nud) (ids : List Packet) → waits_in n ids → (ids ≡ []) ⊎ (n ≡ nud.Incomplete)
waits_or nud.None ids h = inl h
waits_or nud.Incomplete ids h = inr refl
waits_or nud.Reachable ids h = inl h
waits_or nud.Stale ids h = inl h
waits_or nud.Delay ids h = inl h
waits_or nud.Probe ids h = inl h
waits_or nud.Failed ids h = inl h
waits_or nud.Noarp ids h = inl h
waits_or nud.Permanent ids h = inl h

pub waits_from : (n : Nud) (ids : List Packet) → (ids ≡ []) ⊎ (n ≡ nud.Incomplete) → waits_in n ids
waits_from nud.Incomplete ids h = tt
waits_from nud.None ids (inl h) = h
waits_from nud.None ids (inr e) = cc
waits_from nud.Reachable ids (inl h) = h
waits_from nud.Reachable ids (inr e) = cc
waits_from nud.Stale ids (inl h) = h
waits_from nud.Stale ids (inr e) = cc
waits_from nud.Delay ids (inl h) = h
waits_from nud.Delay ids (inr e) = cc
waits_from nud.Probe ids (inl h) = h
waits_from nud.Probe ids (inr e) = cc
waits_from nud.Failed ids (inl h) = h
waits_from nud.Failed ids (inr e) = cc
waits_from nud.Noarp ids (inl h) = h
waits_from nud.Noarp ids (inr e) = cc
waits_from nud.Permanent ids (inl h) = h
waits_from nud.Permanent ids (inr e) = cc
