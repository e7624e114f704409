-- Ethernet frames.
use Rattle.std.specs.Prelude.{◌≡◌, ℕ, ◌<◌, ◌^◌, List, ◌++◌, length}
use Rattle.std.specs.Int.{w16, to_be_bytes}
use Rattle.nb_base.specs.declared.mac.Mac.{Mac}

-- a header: destination, source, and the type with its most significant byte first (IEEE 802.3 section 3.2, RFC 894)
abbrev pub eth_bytes : Mac → Mac → ℕ → List ℕ
eth_bytes dst src ethertype = dst.0 ++ src.0 ++ to_be_bytes w16 ethertype

-- the bytes are a header with these two addresses of six bytes and this type of 16 bits, and the body
pub record IsFrame (bytes : List ℕ) (dst src : Mac) (ethertype : ℕ) (body : List ℕ) : Type 0 where
  pub spelled : bytes ≡ eth_bytes dst src ethertype ++ body
  pub dst_size : length dst.0 ≡ 6
  pub src_size : length src.0 ≡ 6
  pub type_fits : ethertype < 2 ^ 16
