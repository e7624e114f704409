-- What every generated input keeps, as statements.
use Rattle.std.specs.Prelude.{◌≡◌, ℕ, ◌≤◌, Bool, true, false, length}
use Rattle.std.specs.List.{AllByRecursion}
use Rattle.pcap_records.specs.declared.capture.Frame.{Frame}
use Rattle.pcap_records.specs.Writing.{AreFrames, IsCaptureOf, written}
use Rattle.neigh_script.specs.declared.script.ScriptItem.{ScriptItem}
use Rattle.neigh_script.specs.declared.script.ScriptItem.TheVariants as item
use Rattle.neigh_script.specs.Context.{at_of}
use Rattle.neigh_script.specs.Limits.{IsWithinLimits, IsShort}
use Rattle.generated_input.specs.Files.{frames_of, script_of}

-- a packet of a sender
abbrev pub is_packet : ScriptItem → Bool
is_packet (item.Send at sender key payload) = true
is_packet (item.Neigh at op) = false
is_packet (item.Proxy at key add) = false

-- the records of a number: so many, the last at 99,990 ms, and fit for a capture, which holds them once it is written
pub record HasFrames (number : ℕ) : Type 0 where
  pub many : length (frames_of number) ≡ 10_000
  pub until : AllByRecursion (λ (f : Frame). f.at ≤ 99_990) (frames_of number)
  pub fit : AreFrames (frames_of number)
  pub again : IsCaptureOf (written (frames_of number)) (frames_of number)

-- the script of a number: so many items, all of them packets, the last at 99,995 ms, within the limits of scripts
pub record HasPackets (number : ℕ) : Type 0 where
  pub many : length (script_of number).items ≡ 20_000
  pub packets : AllByRecursion (λ item. is_packet item ≡ true) (script_of number).items
  pub until : AllByRecursion (λ item. at_of item ≤ 99_995) (script_of number).items
  pub within : IsWithinLimits (script_of number)
  pub short : IsShort (script_of number)
