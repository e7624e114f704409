-- The written forms of addresses.
use Rattle.std.specs.Prelude.{◌≡◌, ℕ, ◌+◌, ◌≤◌, List, ◌++◌, length, take, drop, replicate, codes}
use Rattle.std.specs.Int.{w128, to_be_bytes}
use Rattle.std.specs.Net.Addr.{segments_of}
use Rattle.std.specs.Net.Text.{groups_text}
use Rattle.nb_base.specs.declared.key.Key.{Key}
use Rattle.nb_base.specs.declared.key.Key.TheVariants.{V4, V6}
use Rattle.nb_base.specs.Address.{ip4_text}

-- the eight groups of an IPv6 address, two bytes each, the most significant first
abbrev pub groups_of : ℕ → List ℕ
groups_of n = segments_of (to_be_bytes w128 n)

-- a run: that many zero groups from that place on
abbrev pub IsZeroRun : List ℕ → ℕ → ℕ → Type 0
IsZeroRun groups place many = (place + many ≤ length groups) × (take many (drop place groups) ≡ replicate many 0)

-- the run that `::` stands for: two zero groups or more, none is longer, and of equals it is the first (RFC 5952 sections 4.2.1 to 4.2.3)
pub record IsShortened (groups : List ℕ) (place many : ℕ) : Type 0 where
  pub zeros : IsZeroRun groups place many
  pub several : 2 ≤ many
  pub longest : (other count : ℕ) → IsZeroRun groups other count → count ≤ many
  pub first : (other : ℕ) → IsZeroRun groups other many → place ≤ other

-- an IPv6 address by RFC 5952 section 4, in hexadecimal groups throughout (its section 5 recommends a dotted tail for some):
-- groups in lower case without leading zeros (sections 4.1 and 4.3) joined by `:`, with `::` in the place of the run, or all eight where no run has two groups
pub record IsIp6Written (text : List ℕ) (n : ℕ) : Type 0 where
  pub shortened : (place many : ℕ) → IsShortened (groups_of n) place many → text ≡ groups_text (take place (groups_of n)) ++ codes "::" ++ groups_text (drop (place + many) (groups_of n))
  pub whole : ((place many : ℕ) → IsZeroRun (groups_of n) place many → many ≤ 1) → text ≡ groups_text (groups_of n)

-- the one written form of a key
abbrev pub IsWritten : List ℕ → Key → Type 0
IsWritten text (V4 n) = text ≡ ip4_text n
IsWritten text (V6 n) = IsIp6Written text n
