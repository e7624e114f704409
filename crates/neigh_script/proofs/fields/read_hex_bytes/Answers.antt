use Rattle.std.proofs.Common.{◌≡◌, ◌-◌, ◌∙◌, sym, take, drop, length}
use Rattle.std.proofs.lemmas.List.{take_rest}
use Rattle.text_codes.proofs.HexPairs.{hex_bytes_of-step}
use Rattle.neigh_script.proofs.fields.read_hex_bytes.Goals as goal

pub loop-rest-preserved : goal.loop-rest-preserved
loop-rest-preserved c =
    let xs = c.loop-rest.rest.now in
    let rest : take (length xs - 2) (drop 2 xs) ≡ drop 2 xs = take_rest xs 2 in
    let step = hex_bytes_of-step c.loop-rest.bytes.items xs c.in-Some.byte c.in-len2-up.len_at_least (sym c.in-Some.ensures) in
    rw (c.in_ok-push.ensures.items, rest) (sym step ∙ c.loop-rest.invariant)
