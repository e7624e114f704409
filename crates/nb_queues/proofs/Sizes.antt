-- The sizes of packets that wait.
use Rattle.std.proofs.Common.{◌≡◌, ◌≤◌, ◌<◌, ℕ, ◌+◌, ◌*◌, true, List, [], ◌∷◌, ◌++◌, length, ap, ◌∙◌, arith, length-append}
use Rattle.std.proofs.lemmas.Grind.{common_steps}
use Rattle.circular_buffer.specs.Buffer.{Buffer, buffer, keep_last}
use Rattle.nb_queues.specs.Queue.{Packet, total_size, are_small, largest}

-- the sizes of two lists, one behind the other
pub total_size-append : (xs ys : List Packet) → total_size (xs ++ ys) ≡ total_size xs + total_size ys
total_size-append [] ys = omega arith
total_size-append (x ∷ xs) ys = omega (arith, total_size-append xs ys)

-- many small packets aren't large
pub total_size-small : (xs : List Packet) → are_small xs ≡ true → total_size xs ≤ 1_756 * length xs
total_size-small [] h = omega arith
total_size-small (x ∷ xs) h = grind (arith, total_size-small xs)

-- one more small packet
pub are_small-push : (xs : List Packet) (x : Packet) → are_small xs ≡ true → x.1 ≤ largest → are_small (xs ++ x ∷ []) ≡ true
are_small-push [] x h small = grind arith
are_small-push (y ∷ xs) x h small = grind (arith, are_small-push xs x)

-- where there is room, all stay
pub keep_last-room : (n : ℕ) (xs : List Packet) (x : Packet) → length xs < n → keep_last n (xs ++ x ∷ []) ≡ xs ++ x ∷ []
keep_last-room n xs x room = grind (arith, common_steps, length-append {A = Packet} xs (x ∷ []))

-- the items behind a push where there is room
pub pushed_items : (old new : Buffer Packet) (x : Packet) → old.capacity ≡ 64 → length old.items < 64 → new ≡ buffer (keep_last old.capacity (old.items ++ x ∷ [])) old.capacity → new.items ≡ old.items ++ x ∷ []
pushed_items old new x capacity room is =
    let less : length old.items < old.capacity = omega arith in
    ap (λ (b : Buffer Packet). b.items) is ∙ keep_last-room old.capacity old.items x less

pub pushed_capacity : (old new : Buffer Packet) (x : Packet) → old.capacity ≡ 64 → new ≡ buffer (keep_last old.capacity (old.items ++ x ∷ [])) old.capacity → new.capacity ≡ 64
pushed_capacity old new x capacity is = ap (λ (b : Buffer Packet). b.capacity) is ∙ capacity

pub pushed_length : (xs ys : List Packet) (x : Packet) → length xs < 64 → ys ≡ xs ++ x ∷ [] → length ys ≤ 64
pushed_length xs ys x room is = rw is (omega (arith, length-append {A = Packet} xs (x ∷ [])))

pub pushed_small : (xs ys : List Packet) (x : Packet) → are_small xs ≡ true → x.1 ≤ largest → ys ≡ xs ++ x ∷ [] → are_small ys ≡ true
pushed_small xs ys x h small is = rw is (are_small-push xs x h small)

pub pushed_total : (xs ys : List Packet) (x : Packet) (total : ℕ) → total ≡ total_size xs → ys ≡ xs ++ x ∷ [] → total + x.1 ≡ total_size ys
pushed_total xs ys x total h is = rw is (omega (arith, total_size-append xs (x ∷ [])))
