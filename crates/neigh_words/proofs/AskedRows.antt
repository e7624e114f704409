-- What words of the command ask for, and words that aren't of the command.
use Rattle.std.proofs.Common.{◌≡◌, ◌∙◌, ◌||◌, ◌==◌, ◌++◌, ℕ, Bool, true, false, refl, List, [], ◌∷◌, Option, Some, None, codes}
use Rattle.std.specs.List.{list_any}
use Rattle.std.specs.Option.{option_map}
use Rattle.std.proofs.lemmas.List.Folds.{list_any-append}
use Rattle.clap.proofs.OnLiterals.{clap_on_literals}
use Rattle.clap.specs.Walk.{Text}
use Rattle.nb_base.specs.declared.plan.Mode.TheVariants.{Inline}
use Rattle.neigh_words.specs.Settings.{Wanted, Replay, Generate, asked_in, buckets_of, given, is_dashes, is_taken, mode_of, wanted, wanted_in, window_of}
use Rattle.neigh_words.specs.Settings.{◌>>=◌, generated_of}

abbrev inline : Text → ℕ → Option Wanted
inline script window = Some (Replay (record { script = script; capture = None; mode = Inline; window = window; buckets = 1 }))

-- ---- words of the command

-- a value behind `=` may be any text
pub behind_equals : (script : Text) → wanted ((codes "--script=" ++ script) ∷ []) ≡ inline script 50
unfolding clap_on_literals wanted_in asked_in is_taken given
behind_equals script = refl

-- a value that is the next word may be any text that doesn't begin with `-`
pub next_word : (b : ℕ) (bytes : Text) → (b == 45) ≡ false → wanted (codes "--script" ∷ (b ∷ bytes) ∷ []) ≡ inline (b ∷ bytes) 50
unfolding clap_on_literals wanted_in asked_in is_taken given
next_word b bytes plain = rw (plain, plain) refl

empty_word : wanted (codes "--script" ∷ [] ∷ []) ≡ inline [] 50
unfolding clap_on_literals wanted_in asked_in is_taken given
empty_word = refl

-- each option's value is read
pub all_given : (script mode window buckets : Text) → wanted ((codes "--script=" ++ script) ∷ (codes "--mode=" ++ mode) ∷ (codes "--window=" ++ window) ∷ (codes "--buckets=" ++ buckets) ∷ [])
    ≡ option_map Replay (mode_of mode >>= λ m. window_of window >>= λ w. buckets_of buckets >>= λ b. Some (record { script = script; capture = None; mode = m; window = w; buckets = b }))
unfolding clap_on_literals wanted_in asked_in is_taken given
all_given script mode window buckets = refl

any_order : wanted (codes "--window=60000" ∷ codes "--buckets" ∷ codes "1" ∷ codes "--script" ∷ codes "s" ∷ codes "--mode" ∷ codes "inline" ∷ []) ≡ inline (codes "s") 60000
unfolding clap_on_literals wanted_in asked_in is_taken given
any_order = refl

-- a number stands alone
number_behind_equals : (number : Text) → wanted ((codes "--generate=" ++ number) ∷ []) ≡ option_map Generate (generated_of number)
unfolding clap_on_literals wanted_in asked_in is_taken given
number_behind_equals number = refl

largest_number : wanted (codes "--generate" ∷ codes "18446744073709551615" ∷ []) ≡ Some (Generate 18446744073709551615)
unfolding clap_on_literals wanted_in asked_in is_taken given
largest_number = refl

capture_behind_equals : (script capture : Text) → wanted ((codes "--script=" ++ script) ∷ (codes "--capture=" ++ capture) ∷ [])
    ≡ Some (Replay (record { script = script; capture = Some capture; mode = Inline; window = 50; buckets = 1 }))
unfolding clap_on_literals wanted_in asked_in is_taken given
capture_behind_equals script capture = refl

-- ---- words that aren't

not_beside_a_window : (number window : Text) → wanted ((codes "--generate=" ++ number) ∷ (codes "--window=" ++ window) ∷ []) ≡ None
unfolding clap_on_literals wanted_in asked_in is_taken given
not_beside_a_window number window = refl

not_beside_a_script : (script number : Text) → wanted ((codes "--script=" ++ script) ∷ (codes "--generate=" ++ number) ∷ []) ≡ None
unfolding clap_on_literals wanted_in asked_in is_taken given
not_beside_a_script script number = refl

too_large_a_number : wanted (codes "--generate" ∷ codes "18446744073709551616" ∷ []) ≡ None
unfolding clap_on_literals wanted_in asked_in is_taken given
too_large_a_number = refl

anywhere : (before here after : Bool) → here ≡ true → (before || (here || after)) ≡ true
anywhere true here after e = refl
anywhere false true after e = refl
anywhere false false after e = cc

-- no word is `-` or `--`, wherever it stands
pub no_dashes : (before after : List Text) (word : Text) → is_dashes word ≡ true → wanted (before ++ word ∷ after) ≡ None
no_dashes before after word dashes =
    let has : list_any is_dashes (before ++ word ∷ after) ≡ true =
    list_any-append is_dashes before (word ∷ after) ∙ anywhere (list_any is_dashes before) (is_dashes word) (list_any is_dashes after) dashes in
    rw has refl

-- no option is given twice
pub not_twice : (first second : Text) → wanted ((codes "--script=" ++ first) ∷ (codes "--script=" ++ second) ∷ []) ≡ None
unfolding clap_on_literals wanted_in asked_in is_taken given
not_twice first second = refl

-- the script is given
pub not_without_script : (window : Text) → wanted ((codes "--window=" ++ window) ∷ []) ≡ None
unfolding clap_on_literals wanted_in asked_in is_taken given
not_without_script window = refl

-- nothing stands beside the options
not_one_word_more : wanted (codes "--script" ∷ codes "s" ∷ codes "t" ∷ []) ≡ None
unfolding clap_on_literals wanted_in asked_in is_taken given
not_one_word_more = refl

not_an_empty_word_more : wanted ([] ∷ codes "--script" ∷ codes "s" ∷ []) ≡ None
unfolding clap_on_literals wanted_in asked_in is_taken given
not_an_empty_word_more = refl

-- no value that begins with `-` is the next word
not_a_dash_next : wanted (codes "--script" ∷ codes "-x" ∷ []) ≡ None
unfolding clap_on_literals wanted_in asked_in is_taken given
not_a_dash_next = refl

not_an_option_next : wanted (codes "--script" ∷ codes "--mode" ∷ codes "inline" ∷ []) ≡ None
unfolding clap_on_literals wanted_in asked_in is_taken given
not_an_option_next = refl

no_value : wanted (codes "--script" ∷ []) ≡ None
unfolding clap_on_literals wanted_in asked_in is_taken given
no_value = refl

-- no abbreviation, no help and no version option
no_abbreviation : wanted (codes "--scr" ∷ codes "s" ∷ []) ≡ None
unfolding clap_on_literals wanted_in asked_in is_taken given
no_abbreviation = refl

no_help : wanted (codes "--script" ∷ codes "s" ∷ codes "--help" ∷ []) ≡ None
unfolding clap_on_literals wanted_in asked_in is_taken given
no_help = refl

no_short_help : wanted (codes "--script" ∷ codes "s" ∷ codes "-h" ∷ []) ≡ None
unfolding clap_on_literals wanted_in asked_in is_taken given
no_short_help = refl

no_version : wanted (codes "--script" ∷ codes "s" ∷ codes "--version" ∷ []) ≡ None
unfolding clap_on_literals wanted_in asked_in is_taken given
no_version = refl

-- what isn't built yet
no_threads : wanted (codes "--script" ∷ codes "s" ∷ codes "--mode" ∷ codes "threads" ∷ []) ≡ None
unfolding clap_on_literals wanted_in asked_in is_taken given
no_threads = refl
