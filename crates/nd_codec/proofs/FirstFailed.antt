-- The first check that fails, from the answers of those before it.
use Rattle.std.proofs.Common.{◌≡◌, ℕ, ◌∙◌, Bool, true, false, List, ◌∷◌, drop, Some, Ok, Err, refl, sym, ap}
use Rattle.nd_codec.specs.declared.message.NdFail.{NdFail}
use Rattle.nd_codec.specs.declared.message.NdFail.TheVariants as fail
use Rattle.nd_codec.specs.Checks.{is_short, is_other, has_other_hop_limit, has_other_code, has_other_checksum, has_group_target, has_other_options, is_wrongly_unspecified, is_wrongly_solicited, checks, first_of, first_failed}
use Rattle.nd_codec.specs.Message.{nd_of, read_by, read_of}

first_here : (b : Bool) (why : NdFail) (more : List (Bool × NdFail)) → b ≡ true → first_of ((b, why) ∷ more) ≡ Some why
first_here true why more e = refl
first_here false why more e = absurd cc

first_behind : (b : Bool) (why : NdFail) (more : List (Bool × NdFail)) → b ≡ false → first_of ((b, why) ∷ more) ≡ first_of more
first_behind true why more e = absurd cc
first_behind false why more e = refl

pub fails_is_short : (p : List ℕ) → is_short p ≡ true → Err fail.Short ≡ read_of p
unfolding read_of first_failed
fails_is_short p a = sym (ap (λ r. read_by r (nd_of p)) (first_here (is_short p) fail.Short (drop 1 (checks p)) a))

pub fails_is_other : (p : List ℕ) → is_short p ≡ false → is_other p ≡ true → Err fail.NotIcmp ≡ read_of p
unfolding read_of first_failed
fails_is_other p a b = sym (ap (λ r. read_by r (nd_of p)) (first_behind (is_short p) fail.Short (drop 1 (checks p)) a
    ∙ first_here (is_other p) fail.NotIcmp (drop 2 (checks p)) b))

pub fails_has_other_hop_limit : (p : List ℕ) → is_short p ≡ false → is_other p ≡ false → has_other_hop_limit p ≡ true → Err fail.HopLimit ≡ read_of p
unfolding read_of first_failed
fails_has_other_hop_limit p a b c = sym (ap (λ r. read_by r (nd_of p)) (first_behind (is_short p) fail.Short (drop 1 (checks p)) a
    ∙ first_behind (is_other p) fail.NotIcmp (drop 2 (checks p)) b
    ∙ first_here (has_other_hop_limit p) fail.HopLimit (drop 3 (checks p)) c))

pub fails_has_other_code : (p : List ℕ) → is_short p ≡ false → is_other p ≡ false → has_other_hop_limit p ≡ false → has_other_code p ≡ true → Err fail.Code ≡ read_of p
unfolding read_of first_failed
fails_has_other_code p a b c d = sym (ap (λ r. read_by r (nd_of p)) (first_behind (is_short p) fail.Short (drop 1 (checks p)) a
    ∙ first_behind (is_other p) fail.NotIcmp (drop 2 (checks p)) b
    ∙ first_behind (has_other_hop_limit p) fail.HopLimit (drop 3 (checks p)) c
    ∙ first_here (has_other_code p) fail.Code (drop 4 (checks p)) d))

pub fails_has_other_checksum : (p : List ℕ) → is_short p ≡ false → is_other p ≡ false → has_other_hop_limit p ≡ false → has_other_code p ≡ false → has_other_checksum p ≡ true → Err fail.Checksum ≡ read_of p
unfolding read_of first_failed
fails_has_other_checksum p a b c d e = sym (ap (λ r. read_by r (nd_of p)) (first_behind (is_short p) fail.Short (drop 1 (checks p)) a
    ∙ first_behind (is_other p) fail.NotIcmp (drop 2 (checks p)) b
    ∙ first_behind (has_other_hop_limit p) fail.HopLimit (drop 3 (checks p)) c
    ∙ first_behind (has_other_code p) fail.Code (drop 4 (checks p)) d
    ∙ first_here (has_other_checksum p) fail.Checksum (drop 5 (checks p)) e))

pub fails_has_group_target : (p : List ℕ) → is_short p ≡ false → is_other p ≡ false → has_other_hop_limit p ≡ false → has_other_code p ≡ false → has_other_checksum p ≡ false → has_group_target p ≡ true → Err fail.Target ≡ read_of p
unfolding read_of first_failed
fails_has_group_target p a b c d e f = sym (ap (λ r. read_by r (nd_of p)) (first_behind (is_short p) fail.Short (drop 1 (checks p)) a
    ∙ first_behind (is_other p) fail.NotIcmp (drop 2 (checks p)) b
    ∙ first_behind (has_other_hop_limit p) fail.HopLimit (drop 3 (checks p)) c
    ∙ first_behind (has_other_code p) fail.Code (drop 4 (checks p)) d
    ∙ first_behind (has_other_checksum p) fail.Checksum (drop 5 (checks p)) e
    ∙ first_here (has_group_target p) fail.Target (drop 6 (checks p)) f))

pub fails_has_other_options : (p : List ℕ) → is_short p ≡ false → is_other p ≡ false → has_other_hop_limit p ≡ false → has_other_code p ≡ false → has_other_checksum p ≡ false → has_group_target p ≡ false → has_other_options p ≡ true → Err fail.ZeroOption ≡ read_of p
unfolding read_of first_failed
fails_has_other_options p a b c d e f g = sym (ap (λ r. read_by r (nd_of p)) (first_behind (is_short p) fail.Short (drop 1 (checks p)) a
    ∙ first_behind (is_other p) fail.NotIcmp (drop 2 (checks p)) b
    ∙ first_behind (has_other_hop_limit p) fail.HopLimit (drop 3 (checks p)) c
    ∙ first_behind (has_other_code p) fail.Code (drop 4 (checks p)) d
    ∙ first_behind (has_other_checksum p) fail.Checksum (drop 5 (checks p)) e
    ∙ first_behind (has_group_target p) fail.Target (drop 6 (checks p)) f
    ∙ first_here (has_other_options p) fail.ZeroOption (drop 7 (checks p)) g))

pub fails_is_wrongly_unspecified : (p : List ℕ) → is_short p ≡ false → is_other p ≡ false → has_other_hop_limit p ≡ false → has_other_code p ≡ false → has_other_checksum p ≡ false → has_group_target p ≡ false → has_other_options p ≡ false → is_wrongly_unspecified p ≡ true → Err fail.Unspecified ≡ read_of p
unfolding read_of first_failed
fails_is_wrongly_unspecified p a b c d e f g h = sym (ap (λ r. read_by r (nd_of p)) (first_behind (is_short p) fail.Short (drop 1 (checks p)) a
    ∙ first_behind (is_other p) fail.NotIcmp (drop 2 (checks p)) b
    ∙ first_behind (has_other_hop_limit p) fail.HopLimit (drop 3 (checks p)) c
    ∙ first_behind (has_other_code p) fail.Code (drop 4 (checks p)) d
    ∙ first_behind (has_other_checksum p) fail.Checksum (drop 5 (checks p)) e
    ∙ first_behind (has_group_target p) fail.Target (drop 6 (checks p)) f
    ∙ first_behind (has_other_options p) fail.ZeroOption (drop 7 (checks p)) g
    ∙ first_here (is_wrongly_unspecified p) fail.Unspecified (drop 8 (checks p)) h))

pub fails_is_wrongly_solicited : (p : List ℕ) → is_short p ≡ false → is_other p ≡ false → has_other_hop_limit p ≡ false → has_other_code p ≡ false → has_other_checksum p ≡ false → has_group_target p ≡ false → has_other_options p ≡ false → is_wrongly_unspecified p ≡ false → is_wrongly_solicited p ≡ true → Err fail.SolicitedToGroup ≡ read_of p
unfolding read_of first_failed
fails_is_wrongly_solicited p a b c d e f g h i = sym (ap (λ r. read_by r (nd_of p)) (first_behind (is_short p) fail.Short (drop 1 (checks p)) a
    ∙ first_behind (is_other p) fail.NotIcmp (drop 2 (checks p)) b
    ∙ first_behind (has_other_hop_limit p) fail.HopLimit (drop 3 (checks p)) c
    ∙ first_behind (has_other_code p) fail.Code (drop 4 (checks p)) d
    ∙ first_behind (has_other_checksum p) fail.Checksum (drop 5 (checks p)) e
    ∙ first_behind (has_group_target p) fail.Target (drop 6 (checks p)) f
    ∙ first_behind (has_other_options p) fail.ZeroOption (drop 7 (checks p)) g
    ∙ first_behind (is_wrongly_unspecified p) fail.Unspecified (drop 8 (checks p)) h
    ∙ first_here (is_wrongly_solicited p) fail.SolicitedToGroup (drop 9 (checks p)) i))

pub passes : (p : List ℕ) → is_short p ≡ false → is_other p ≡ false → has_other_hop_limit p ≡ false → has_other_code p ≡ false → has_other_checksum p ≡ false → has_group_target p ≡ false → has_other_options p ≡ false → is_wrongly_unspecified p ≡ false → is_wrongly_solicited p ≡ false → Ok (nd_of p) ≡ read_of p
unfolding read_of first_failed
passes p a b c d e f g h i = sym (ap (λ r. read_by r (nd_of p)) (first_behind (is_short p) fail.Short (drop 1 (checks p)) a
    ∙ first_behind (is_other p) fail.NotIcmp (drop 2 (checks p)) b
    ∙ first_behind (has_other_hop_limit p) fail.HopLimit (drop 3 (checks p)) c
    ∙ first_behind (has_other_code p) fail.Code (drop 4 (checks p)) d
    ∙ first_behind (has_other_checksum p) fail.Checksum (drop 5 (checks p)) e
    ∙ first_behind (has_group_target p) fail.Target (drop 6 (checks p)) f
    ∙ first_behind (has_other_options p) fail.ZeroOption (drop 7 (checks p)) g
    ∙ first_behind (is_wrongly_unspecified p) fail.Unspecified (drop 8 (checks p)) h
    ∙ first_behind (is_wrongly_solicited p) fail.SolicitedToGroup (drop 9 (checks p)) i))
