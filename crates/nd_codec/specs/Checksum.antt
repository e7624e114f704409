-- The checksum of an ICMPv6 message: the Internet checksum (RFC 1071) over a pseudo-header (RFC 8200 section 8.1) and the message (RFC 4443 section 2.3).
use Rattle.std.specs.Prelude.{ℕ, zero, suc, ◌+◌, ◌-◌, ◌*◌, ◌/◌, ◌%◌, ◌^◌, List, [], ◌∷◌, ◌++◌, length, take, drop, sum}
use Rattle.byteorder.specs.Endian.{big_bytes}

-- bytes as 16-bit words, the most significant byte first; behind a last byte that stands alone a zero byte is read (RFC 1071 section 4.1)
unfoldable pub words_of : List ℕ → List ℕ
words_of [] = []
words_of (high ∷ []) = 256 * high ∷ []
words_of (high ∷ low ∷ rest) = (256 * high + low) ∷ words_of rest

-- the ones' complement sum of two words: a carry out of the 16 bits is added at their low end (RFC 1071 section 2)
abbrev pub ones_add : ℕ → ℕ → ℕ
ones_add a b = (a + b) % 2 ^ 16 + (a + b) / 2 ^ 16

-- the ones' complement sum of words
abbrev pub ones_sum : List ℕ → ℕ
ones_sum [] = 0
ones_sum (word ∷ words) = ones_add word (ones_sum words)

-- what is summed in front of the message: source, destination, the message's length in 32 bits, 24 zero bits, the next header 58 (RFC 8200 section 8.1)
unfoldable pub pseudo_header : ℕ → ℕ → ℕ → List ℕ
pseudo_header source destination length = big_bytes 16 source ++ big_bytes 16 destination ++ big_bytes 4 length ++ 0 ∷ 0 ∷ 0 ∷ 58 ∷ []

-- the complement of the ones' complement sum over the pseudo-header and the message (RFC 4443 section 2.3)
unfoldable pub checksum_of : ℕ → ℕ → List ℕ → ℕ
checksum_of source destination message = 2 ^ 16 - 1 - ones_sum (words_of (pseudo_header source destination (length message) ++ message))

-- the message with its checksum, the two bytes at 2, as zero
abbrev pub cleared : List ℕ → List ℕ
cleared message = take 2 message ++ 0 ∷ 0 ∷ drop 4 message

-- the plain sum of the words of these bytes
unfoldable pub word_sum : List ℕ → ℕ
word_sum bytes = sum (words_of bytes)

-- the ones' complement sum of words whose plain sum is this: 0 of 0, else the one number from 1 to 65535 that differs from it by a multiple of 65535
unfoldable pub ones_of : ℕ → ℕ
ones_of zero = 0
ones_of (suc less) = less % 65535 + 1
