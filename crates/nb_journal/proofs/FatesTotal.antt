-- The fates of all packets are as many as the lines that send.
use Rattle.std.proofs.Common.{◌≡◌, ◌+◌, Bool, true, if◌then◌else◌, List, [], ◌∷◌, ◌++◌, length, refl, arith, length-append}
use Rattle.std.specs.Prelude.{filter}
use Rattle.std.specs.List.{flat_map}
use Rattle.nb_base.specs.declared.key.Key.{Key}
use Rattle.nb_base.specs.declared.time.OpId.{OpId}
use Rattle.nb_base.specs.declared.op.Op.{Op}
use Rattle.nb_base.specs.declared.op.Op.TheVariants as op
use Rattle.nb_base.specs.declared.line.Line.{Line}
use Rattle.nud_machine.specs.declared.act.Act.{Act}
use Rattle.nud_machine.specs.declared.act.Act.TheVariants as act
use Rattle.nud_machine.specs.Laws.{ids_of}
use Rattle.nb_journal.specs.Keys.{is_send}
use Rattle.nb_journal.specs.Fold.{state_of, known_keys, is_transmit}
use Rattle.nb_journal.specs.Accounts.{ended, is_drop, acts_behind, send_lines}
use Rattle.nb_journal.specs.Laws.{FatesAddUp}
use Rattle.nb_journal.proofs.Fits.{lawful-runs}
use Rattle.nb_journal.proofs.PacketCounts.{count, packet_of, packets_of, balance}
use Rattle.nb_journal.proofs.Sums.{sum_over}

-- every packet
abbrev any : OpId → Bool
any id = true

any_count : (ids : List OpId) → count any ids ≡ length ids
any_count [] = refl
any_count (id ∷ ids) = let rest = any_count ids in omega (arith, rest)

-- the packets that end go out or are dropped
ends_count : (acts : List Act) → length (ended acts) ≡ length (filter is_transmit acts) + length (filter is_drop acts)
ends_count [] = refl
ends_count (act.Transmit id mac ∷ acts) = let rest = ends_count acts in omega (arith, rest)
ends_count (act.Drop id cause ∷ acts) = let rest = ends_count acts in omega (arith, rest)
ends_count (act.Wait id ∷ acts) = ends_count acts
ends_count (act.SolicitGroup ∷ acts) = ends_count acts
ends_count (act.SolicitUnicast mac ∷ acts) = ends_count acts

waits_count : (f : Key → List OpId) (keys : List Key) → length (flat_map f keys) ≡ sum_over (λ key. count any (f key)) keys
waits_count f [] = refl
waits_count f (k ∷ ks) =
    let long = length-append (f k) (flat_map f ks) in
    let here = any_count (f k) in
    let rest = waits_count f ks in
    omega (arith, long, here, rest)

sends_more : (l : Line) (o : Op) (more : List Line) (ids : List OpId) → length (send_lines more) ≡ length ids → length (if is_send o then l ∷ send_lines more else send_lines more) ≡ length (packet_of l o ++ ids)
sends_more l (op.Send key len) more ids e = omega (arith, e)
sends_more l _ more ids e = e

sends_count : (lines : List Line) → length (send_lines lines) ≡ length (packets_of lines)
sends_count [] = refl
sends_count (x ∷ xs) = sends_more x x.op xs (packets_of xs) (sends_count xs)

pub fates_sum : FatesAddUp
fates_sum p journal clock lawful =
    let all = balance p any journal (lawful-runs p journal clock lawful).each in
    let ends = any_count (ended (acts_behind p [] journal)) in
    let apart = ends_count (acts_behind p [] journal) in
    let waits = waits_count (λ (key : Key). ids_of (state_of p journal key).waiting) (known_keys journal) in
    let sends = sends_count journal in
    let packets = any_count (packets_of journal) in
    omega (arith, all, ends, apart, waits, sends, packets)
