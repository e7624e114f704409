-- The options of a neighbour discovery message (RFC 4861 sections 4.6 and 4.6.1).
use Rattle.std.specs.Prelude.{◌≡◌, ℕ, zero, suc, ◌+◌, ◌-◌, ◌*◌, Bool, false, ◌||◌, ◌&&◌, ◌==◌, nat_lt, if◌then◌else◌, List, [], ◌∷◌, length, take, drop, slice_index, Option, Some, None}
use Rattle.std.specs.Option.{option_map, option_and_then, unwrap_or}
use Rattle.std.specs.List.{flat_map, AllByRecursion}
use Rattle.nb_base.specs.declared.mac.Mac.{Mac}
use Rattle.nd_codec.specs.declared.options.OptionView.{OptionView}

-- an option: its type, its length in units of 8 bytes with the type and the length in them, and the bytes behind these two
pub record NdOption : Type 0 where
  pub kind : ℕ
  pub units : ℕ
  pub body : List ℕ

-- the body fills the length; so the length isn't 0
abbrev pub IsOption : NdOption → Type 0
IsOption option = length option.body + 2 ≡ 8 * option.units

abbrev pub option_bytes : NdOption → List ℕ
option_bytes option = option.kind ∷ option.units ∷ option.body

-- the grammar: these bytes are these options, one behind the other, with nothing between or behind them
pub record AreOptions (bytes : List ℕ) (options : List NdOption) : Type 0 where
  pub joined : bytes ≡ flat_map option_bytes options
  pub each : AllByRecursion IsOption options

-- the option that the bytes begin with and the bytes behind it: none where fewer than its first two bytes are there, its length is 0 or it ends past them
unfoldable pub option_at : List ℕ → Option (NdOption × List ℕ)
option_at bytes =
    if nat_lt (length bytes) 2 || slice_index bytes 1 == 0 || nat_lt (length bytes) (8 * slice_index bytes 1) then None
    else Some (record { kind = slice_index bytes 0; units = slice_index bytes 1; body = take (8 * slice_index bytes 1 - 2) (drop 2 bytes) }, drop (8 * slice_index bytes 1) bytes)

-- the options that the bytes are, at most so many
unfoldable pub options_within : ℕ → List ℕ → Option (List NdOption)
options_within n [] = Some []
options_within zero (kind ∷ rest) = None
options_within (suc n) (kind ∷ rest) =
    option_and_then (λ x. option_map (λ more. x.0 ∷ more) (options_within n x.1)) (option_at (kind ∷ rest))

-- the options that the bytes are, or none where they aren't options; bytes are never more options than bytes
unfoldable pub options_in : List ℕ → Option (List NdOption)
options_in bytes = options_within (length bytes) bytes

-- the same as a list, empty where the bytes aren't options
abbrev pub options_of : List ℕ → List NdOption
options_of bytes = unwrap_or (options_in bytes) []

-- some option has this type, whatever its length
abbrev pub has_kind : ℕ → List NdOption → Bool
has_kind kind [] = false
has_kind kind (option ∷ options) = option.kind == kind || has_kind kind options

-- the link address in the first option of this type whose length is 1, one unit of 8 bytes; with another length an option of the type counts as unknown (RFC 2464 section 6)
abbrev pub link_address_of : ℕ → List NdOption → Option Mac
link_address_of kind [] = None
link_address_of kind (option ∷ options) =
    if option.kind == kind && option.units == 1 then Some (record { 0 = option.body }) else link_address_of kind options

-- an option without where it lies in memory
abbrev pub view : OptionView → NdOption
view option = record { kind = option.kind; units = option.units; body = option.body.now }
