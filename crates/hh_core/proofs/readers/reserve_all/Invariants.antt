use Rattle.std.proofs.Common.{◌≡◌, ℕ, map, vec_len}
use Rattle.std.specs.List.{All, AllWithin}
use Rattle.hh_core.specs.Shown.{reader_state, HasRoom}
use Rattle.hh_core.proofs.readers.reserve_all.Given as goal

abbrev pub invariant-loop-place : goal.invariant-loop-place
invariant-loop-place l = record {
  len : vec_len l.readers ≡ vec_len l.fn.readers;
  same : map reader_state l.readers.items ≡ map reader_state l.fn.readers.items;
  room : AllWithin (HasRoom l.more) l.readers.items 0 l.place;
  kept : (n : ℕ) → All (HasRoom n) l.fn.readers.items → All (HasRoom n) l.readers.items;
}
