-- A number that is read from a front doesn't change with what follows it.
use Rattle.std.proofs.Common.{◌≡◌, ◌≤◌, ℕ, ◌+◌, List, ◌++◌, length, drop, refl, arith}
use Rattle.std.proofs.lemmas.List.{drop-append-le, length-drop}
use Rattle.byteorder.specs.Numbers.{big_from-append, little_from-append}
use Rattle.pcap_records.specs.declared.form.Order.{Order}
use Rattle.pcap_records.specs.declared.form.Order.TheVariants.{Big, Little}
use Rattle.pcap_records.specs.declared.form.Form.{Form}
use Rattle.pcap_records.specs.Form.{field, stamp_of, captured_len}

pub field-append : (order : Order) (n place : ℕ) (xs ys : List ℕ) → place + n ≤ length xs → field order n place (xs ++ ys) ≡ field order n place xs
unfolding field
field-append Big n place xs ys h =
    let small : place ≤ length xs = omega arith in
    rw (drop-append-le place xs ys small) (big_from-append n (drop place xs) ys (omega (arith, length-drop place xs)))
field-append Little n place xs ys h =
    let small : place ≤ length xs = omega arith in
    rw (drop-append-le place xs ys small) (little_from-append n (drop place xs) ys (omega (arith, length-drop place xs)))

pub stamp_of-append : (form : Form) (xs ys : List ℕ) → 16 ≤ length xs → stamp_of form (xs ++ ys) ≡ stamp_of form xs
unfolding stamp_of
stamp_of-append form xs ys h =
    rw (field-append form.order 4 0 xs ys (omega arith), field-append form.order 4 4 xs ys (omega arith)) refl

pub captured_len-append : (form : Form) (xs ys : List ℕ) → 16 ≤ length xs → captured_len form (xs ++ ys) ≡ captured_len form xs
captured_len-append form xs ys h = field-append form.order 4 8 xs ys (omega arith)
