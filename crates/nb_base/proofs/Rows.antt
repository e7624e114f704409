-- Worked rows of the written form of IPv6 addresses (the examples of RFC 5952 section 4.2).
use Rattle.std.proofs.Common.{◌≡◌, [], ◌∷◌, refl, arith}
use Rattle.std.specs.Prelude.{codes}
use Rattle.std.specs.Net.Text.{hex, hex_groups_text}
use Rattle.nb_base.specs.declared.key.Key.TheVariants.{V6}
use Rattle.nb_base.specs.Address.{key_text}
use Rattle.nb_base.specs.Written.{groups_of, IsShortened}
use Rattle.nb_base.proofs.Written.{is_shortened}

groups : groups_of 0x20010db8000000000001000000000001 ≡ 0x2001 ∷ 0xdb8 ∷ 0 ∷ 0 ∷ 1 ∷ 0 ∷ 0 ∷ 1 ∷ []
groups = refl

first_of_equals : IsShortened (groups_of 0x20010db8000000000001000000000001) 2 2
first_of_equals = is_shortened (groups_of 0x20010db8000000000001000000000001) (omega arith)

longest : IsShortened (groups_of 0x20010000000000010000000000000001) 4 3
longest = is_shortened (groups_of 0x20010000000000010000000000000001) (omega arith)

written_first : key_text (V6 0x20010db8000000000001000000000001) ≡ codes "2001:db8::1:0:0:1"
unfolding hex_groups_text hex
written_first = refl

written_longest : key_text (V6 0x20010000000000010000000000000001) ≡ codes "2001:0:0:1::1"
unfolding hex_groups_text hex
written_longest = refl

written_single : key_text (V6 0x20010db8000000010001000100010001) ≡ codes "2001:db8:0:1:1:1:1:1"
unfolding hex_groups_text hex
written_single = refl
