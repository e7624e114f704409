-- The bytes that wait, and the room for a further packet.
use Rattle.std.proofs.Common.{◌≡◌, ◌≤◌, ◌<◌, ℕ, ◌+◌, ◌*◌, Bool, true, not, List, [], ◌∷◌, ◌++◌, length, refl, arith}
use Rattle.std.specs.List.{list_all}
use Rattle.nb_base.specs.declared.params.Params.{Params}
use Rattle.nb_base.specs.Params.{InRange}
use Rattle.nb_queues.specs.Queue.{Packet, total_size}
use Rattle.nb_queues.proofs.Sizes.{total_size-append}
use Rattle.nud_machine.specs.State.{HasRoom, is_size, fits_in}
use Rattle.nud_machine.specs.Send.{are_too_many, pushed_out, left_waiting}

abbrev are_sizes : List Packet → Bool
are_sizes packets = list_all (λ packet. is_size packet.1) packets

-- each packet counts for 257 bytes at least
pub total_size-least : (packets : List Packet) → are_sizes packets ≡ true → 257 * length packets ≤ total_size packets
total_size-least [] h = omega arith
total_size-least (x ∷ packets) h = grind (arith, total_size-least packets)

-- at most 64 packets wait
pub few_wait : (p : Params) (packets : List Packet) → InRange p → HasRoom p packets → length packets ≤ 64
few_wait p packets r h = grind (arith, total_size-least packets h.sizes, h.bytes, r.unres_qlen_bytes)

-- no packet waits, or a further one of that size is not too much beside those that wait
abbrev fits_beside : Params → ℕ → List Packet → Bool
fits_beside p size [] = true
fits_beside p size (x ∷ packets) = not (are_too_many p size (x ∷ packets))

-- those that still wait are packets
pub left_sizes : (p : Params) (size : ℕ) (packets : List Packet) → are_sizes packets ≡ true → are_sizes (left_waiting p size packets) ≡ true
left_sizes p size [] h = refl
left_sizes p size (x ∷ packets) h = grind (arith, left_sizes p size packets)

-- none wait any more, or the new one fits beside them
left_room : (p : Params) (size : ℕ) (packets : List Packet) → fits_beside p size (left_waiting p size packets) ≡ true
left_room p size [] = refl
left_room p size (x ∷ packets) = grind (arith, left_room p size packets)

-- where there is room beside all of them, all are left and none is dropped
pub all_left : (p : Params) (size : ℕ) (packets : List Packet) → total_size packets + size ≤ p.unres_qlen_bytes → left_waiting p size packets ≡ packets
all_left p size [] h = refl
all_left p size (x ∷ packets) h = grind (arith, h)

pub none_out : (p : Params) (size : ℕ) (packets : List Packet) → total_size packets + size ≤ p.unres_qlen_bytes → pushed_out p size packets ≡ []
none_out p size [] h = refl
none_out p size (x ∷ packets) h = grind (arith, h)

-- so fewer than 64 wait
pub few_left : (p : Params) (size : ℕ) (packets : List Packet) → InRange p → are_sizes packets ≡ true → 257 ≤ size → length (left_waiting p size packets) < 64
few_left p size packets r h least = fewer (left_waiting p size packets) (left_room p size packets) (total_size-least (left_waiting p size packets) (left_sizes p size packets h))
  where
    fewer : (left : List Packet) → fits_beside p size left ≡ true → 257 * length left ≤ total_size left → length left < 64
    fewer [] f l = omega arith
    fewer (x ∷ left) f l = grind (arith, f, l, r.unres_qlen_bytes)

-- and the new one has room behind them
pub joined_room : (p : Params) (packet : Packet) (packets : List Packet) → is_size packet.1 ≡ true → HasRoom p packets → HasRoom p (left_waiting p packet.1 packets ++ packet ∷ [])
joined_room p packet packets s h = record {
  sizes = joined_sizes (left_waiting p packet.1 packets) (left_sizes p packet.1 packets h.sizes);
  bytes = joined_bytes (left_waiting p packet.1 packets) (left_room p packet.1 packets);
}
  where
    joined_sizes : (left : List Packet) → are_sizes left ≡ true → are_sizes (left ++ packet ∷ []) ≡ true
    joined_sizes [] l = grind (arith, s)
    joined_sizes (x ∷ left) l = grind (arith, joined_sizes left)

    joined_bytes : (left : List Packet) → fits_beside p packet.1 left ≡ true → fits_in p.unres_qlen_bytes (left ++ packet ∷ []) ≡ true
    joined_bytes [] f = grind arith
    joined_bytes (x ∷ left) f = grind (arith, f, total_size-append (x ∷ left) (packet ∷ []))
