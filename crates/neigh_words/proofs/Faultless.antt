-- Where `clap` names no fault of the words, the command takes them.
use Rattle.std.proofs.Common.{◌≡◌, ◌&&◌, ◌||◌, ◌==◌, ◌+◌, min, ℕ, zero, suc, Bool, cond, true, false, not, refl, ap₂, arith, List, [], ◌∷◌, length, drop, Option, Some, None, is_some, nat_lt, nat_le, eqb-true, le-leb, ltb-false, encode_utf8, slice_get, chars, codes}
use Rattle.std.specs.List.{list_all, list_any}
use Rattle.std.specs.Option.{option_map_or}
use Rattle.std.specs.Str.{bytes_eq}
use Rattle.clap.specs.Lexer.{long_of, short_of}
use Rattle.clap.specs.Matches.{count_text}
use Rattle.clap.specs.Facts.{parser_of_value, unwrap_or_range}
use Rattle.clap.specs.Kinds.{Kinds, or_else, range_kinds, value_kinds}
use Rattle.clap.specs.Values.{refused_kind}
use Rattle.clap.specs.ValueTests.{accepts}
use Rattle.clap.specs.Walk.{Held, Names, Row, Rule, Step, Text, Waiting, Walk, action_of, arg_by_id, arg_by_index, arg_by_long, arg_by_short, attached_value, count_of, has_row, is_pending, most_values, next, reacted, settled, subcommand, subcommand_met, takes_several, takes_values, trailing, value, values_or_missing, walked, word_met}
use Rattle.clap.specs.Simple.{Shape}
use Rattle.clap.specs.Takes.{action_passes, bundle_step_passes, flag_word_passes, flags_pass, is_given, long_passes, option_passes, other_passes, positional_passes, react_passes, settle_passes, short_passes, step_passes, turn_passes, use_passes, values_pass, walk_passes, word_passes}
use Rattle.clap.specs.Faults.{action_fault, bundle_step_fault, flag_word_fault, flags_fault, long_fault, option_fault, other_fault, positional_fault, react_fault, settle_fault, short_fault, step_fault, stray_fault, turn_fault, use_fault, values_fault, walk_fault, word_fault}
use Rattle.clap.specs.declared.builder.action.ArgAction.{ArgAction}
use Rattle.clap.specs.declared.builder.action.ArgAction.TheVariants as action
use Rattle.clap.specs.declared.builder.value_parser.ValueParser.{ValueParser}
use Rattle.clap.specs.declared.error.kind.ErrorKind.{ErrorKind}
use Rattle.clap.specs.declared.error.kind.ErrorKind.TheVariants as kind

pub no_kind : (a b : Kinds) → or_else a b ≡ [] → (a ≡ []) × (b ≡ [])
no_kind [] b e = (refl, e)
no_kind (k ∷ ks) b e = cc

pub all_true : (a b : Bool) → a ≡ true → b ≡ true → (a && b) ≡ true
all_true a b p q = ap₂ (λ x y. x && y) p q

-- a test that fails by a kind
failed_not : (b : Bool) (k : ErrorKind) → cond b [] (k ∷ []) ≡ [] → b ≡ true
failed_not true k e = refl
failed_not false k e = cc

excused : (a b : Bool) (ks : Kinds) (k : ErrorKind) → cond (a && not b) (k ∷ ks) [] ≡ [] → (not a || b) ≡ true
excused false b ks k e = refl
excused true true ks k e = refl
excused true false ks k e = cc

-- ---- one use of an option

value_fits : (ignore_case : Bool) (parser : ValueParser) (text : Text) → value_kinds ignore_case parser text ≡ [] → accepts ignore_case parser text ≡ true
value_fits ignore_case parser text e = failed_not (accepts ignore_case parser text) (refused_kind parser) e

values_fit : (a : Rule) (vs : List Text) → values_fault a vs ≡ [] → values_pass a vs ≡ true
values_fit a [] e = refl
values_fit a (v ∷ vs) e =
    let p = no_kind _ _ e in
    all_true _ _ (value_fits a.ignore_case (parser_of_value a.parser) v p.0) (values_fit a vs p.1)

set_fits : (again : Bool) (a : Rule) (vs : List Text) (rows : List Row) → action_fault action.Set again a vs rows ≡ [] → action_passes action.Set again a vs rows ≡ true
set_fits again a vs rows e =
    let p = no_kind _ _ e in
    all_true _ _ (excused (has_row a.id rows) again _ _ p.0) (values_fit a vs p.1)

count_fits : (again : Bool) (a : Rule) (vs : List Text) (rows : List Row) → action_fault action.Count again a vs rows ≡ [] → action_passes action.Count again a vs rows ≡ true
count_fits again a [] rows e = value_fits a.ignore_case (parser_of_value a.parser) (count_text (min (count_of a.id rows + 1) 255)) e
count_fits again a (v ∷ vs) rows e = values_fit a (v ∷ vs) e

action_fits : (x : ArgAction) (again : Bool) (a : Rule) (vs : List Text) (rows : List Row) → action_fault x again a vs rows ≡ [] → action_passes x again a vs rows ≡ true
action_fits action.Set again a vs rows e = set_fits again a vs rows e
action_fits action.SetTrue again a vs rows e = set_fits again a vs rows e
action_fits action.SetFalse again a vs rows e = set_fits again a vs rows e
action_fits action.Append again a vs rows e = values_fit a vs e
action_fits action.Count again a vs rows e = count_fits again a vs rows e
action_fits action.Help again a vs rows e = cc
action_fits action.HelpShort again a vs rows e = cc
action_fits action.HelpLong again a vs rows e = cc
action_fits action.Version again a vs rows e = cc

-- a number of values is in its range
in_range : (least most n : ℕ) → range_kinds least most n ≡ [] → (nat_le least n ≡ true) × (nat_le n most ≡ true)
in_range least most n e = go (nat_lt 0 least && n == 0) (least == most) (least == n) (nat_lt n least) (nat_lt most n) refl refl refl refl e
  where
    go : (none same is few many : Bool) → least == most ≡ same → least == n ≡ is → nat_lt n least ≡ few → nat_lt most n ≡ many
        → cond none (kind.InvalidValue ∷ []) (cond same (cond is [] (kind.WrongNumberOfValues ∷ [])) (cond few (kind.TooFewValues ∷ []) (cond many (kind.TooManyValues ∷ []) []))) ≡ []
        → (nat_le least n ≡ true) × (nat_le n most ≡ true)
    go true same is few many s i f m x = cc
    go false true true few many s i f m x =
        let least_is : least ≡ n = eqb-true least n i in
        let most_is : least ≡ most = eqb-true least most s in
        (le-leb least n (omega (arith, least_is)), le-leb n most (omega (arith, least_is, most_is)))
    go false true false few many s i f m x = cc
    go false false is true many s i f m x = cc
    go false false is false true s i f m x = cc
    go false false is false false s i f m x = (le-leb least n (ltb-false n least f), le-leb n most (ltb-false most n m))

use_fits : (again : Bool) (a : Rule) (vs : List Text) (rows : List Row) → use_fault again a vs rows ≡ [] → use_passes again a vs rows ≡ true
use_fits again a vs rows e =
    let p = no_kind _ _ e in
    let r = in_range (unwrap_or_range a.range).start_inclusive (most_values a) (length vs) p.0 in
    all_true _ _ r.0 (all_true _ _ r.1 (action_fits (action_of a) again a (values_or_missing a vs) rows p.1))

-- ---- a word

pub settle_fits : (c : List Rule) (again : Bool) (h : Held) → settle_fault c again h ≡ [] → settle_passes c again h ≡ true
settle_fits c again h e = go h.pending e
  where
    named : (vs : List Text) (o : Option Rule) → option_map_or (λ a. use_fault again a vs h.rows) o [] ≡ [] → option_map_or (λ a. use_passes again a vs h.rows) o true ≡ true
    named vs None x = refl
    named vs (Some a) x = use_fits again a vs h.rows x

    go : (o : Option (Text × List Text)) → option_map_or (λ p. option_map_or (λ a. use_fault again a p.1 h.rows) (arg_by_id c p.0) []) o [] ≡ []
        → option_map_or (λ p. option_map_or (λ a. use_passes again a p.1 h.rows) (arg_by_id c p.0) true) o true ≡ true
    go None x = refl
    go (Some p) x = named p.1 (arg_by_id c p.0) x

react_fits : (c : List Rule) (again : Bool) (a : Rule) (vs : List Text) (h : Held) → react_fault c again a vs h ≡ [] → react_passes c again a vs h ≡ true
react_fits c again a vs h e =
    let p = no_kind _ _ e in
    all_true _ _ (settle_fits c again h p.0) (use_fits again a vs (settled c h).rows p.1)

option_fits : (c : List Rule) (again : Bool) (a : Rule) (v : Option Text) (h : Held) → option_fault c again a v h ≡ [] → option_passes c again a v h ≡ true
option_fits c again a (Some v) h e = react_fits c again a (v ∷ []) h e
option_fits c again a None h e = settle_fits c again h e

long_fits : (c : List Rule) (again : Bool) (found : Option Rule) (v : Option Text) (h : Held) → long_fault c again found v h ≡ [] → long_passes c again found v h ≡ true
long_fits c again None v h e = cc
long_fits c again (Some a) v h e = go (takes_values a) v e
  where
    go : (takes : Bool) (o : Option Text) → cond takes (option_fault c again a o h) (cond (is_some o) (kind.TooManyValues ∷ []) (react_fault c again a [] h)) ≡ []
        → cond takes (option_passes c again a o h) (not (is_some o) && react_passes c again a [] h) ≡ true
    go true o x = option_fits c again a o h x
    go false (Some w) x = cc
    go false None x = react_fits c again a [] h x

short_fits : (c : List Rule) (again : Bool) (found : Option Rule) (rest : Text) (h : Held) (fault : Held → Kinds) (passes : Held → Bool)
    → ((g : Held) → fault g ≡ [] → passes g ≡ true) → short_fault c again found rest h fault ≡ [] → short_passes c again found rest h passes ≡ true
short_fits c again None rest h fault passes holds e = cc
short_fits c again (Some a) rest h fault passes holds e = go (takes_values a) e
  where
    go : (takes : Bool) → cond takes (option_fault c again a (attached_value rest) h) (or_else (react_fault c again a [] h) (fault (reacted c a [] h))) ≡ []
        → cond takes (option_passes c again a (attached_value rest) h) (react_passes c again a [] h && passes (reacted c a [] h)) ≡ true
    go true x = option_fits c again a (attached_value rest) h x
    go false x =
        let p = no_kind _ _ x in
        all_true _ _ (react_fits c again a [] h p.0) (holds (reacted c a [] h) p.1)

flag_fits : (c : List Rule) (again : Bool) (o : Option ℕ) (flags : Text) (skip : ℕ) (h : Held) (fault : Text → ℕ → Held → Kinds) (passes : Text → ℕ → Held → Bool)
    → ((t : Text) (n : ℕ) (g : Held) → fault t n g ≡ [] → passes t n g ≡ true) → bundle_step_fault c again o flags skip h fault ≡ []
    → bundle_step_passes c again o flags skip h passes ≡ true
flag_fits c again None flags skip h fault passes holds e = refl
flag_fits c again (Some x) flags zero h fault passes holds e =
    let rest = drop (length (encode_utf8 x)) flags in
    short_fits c again (arg_by_short c x) rest h (fault rest 0) (passes rest 0) (holds rest 0) e
flag_fits c again (Some x) flags (suc skip) h fault passes holds e = holds (drop (length (encode_utf8 x)) flags) skip h e

flags_fit : (c : List Rule) (again : Bool) (k : ℕ) (flags : Text) (skip : ℕ) (h : Held) → flags_fault c again k flags skip h ≡ [] → flags_pass c again k flags skip h ≡ true
unfolding flags_fault flags_pass
flags_fit c again zero flags skip h e = refl
flags_fit c again (suc k) flags skip h e = flag_fits c again (slice_get (chars flags) 0) flags skip h (flags_fault c again k) (flags_pass c again k) (flags_fit c again k) e

flag_word_fits : (c : List Rule) (again : Bool) (o : Option (Text × Option Text)) (word : Text) (h : Held) → flag_word_fault c again o word h ≡ []
    → flag_word_passes c again o word h ≡ true
flag_word_fits c again (Some p) word h e = long_fits c again (arg_by_long c p.0) p.1 h e
flag_word_fits c again None word h e = go (short_of word) e
  where
    go : (o : Option Text) → option_map_or (λ flags. flags_fault c again (length flags) flags h.skip (record h { skip = 0 })) o [] ≡ []
        → option_map_or (λ flags. flags_pass c again (length flags) flags h.skip (record h { skip = 0 })) o true ≡ true
    go None x = refl
    go (Some flags) x = flags_fit c again (length flags) flags h.skip (record h { skip = 0 }) x

other_fits : (s : Shape) (o : Option Text) (word : Text) (h : Held) → other_fault s o word h ≡ [] → other_passes s o word h ≡ true
other_fits s (Some name) word h e = excused (bytes_eq name (codes "help")) s.disable_help_subcommand _ _ e
other_fits s None word h e = go (bytes_eq word (45 ∷ 45 ∷ [])) e
  where
    go : (b : Bool) → cond b [] (flag_word_fault s.rules s.args_override_self (long_of word) word h) ≡ []
        → (b || flag_word_passes s.rules s.args_override_self (long_of word) word h) ≡ true
    go true x = refl
    go false x = flag_word_fits s.rules s.args_override_self (long_of word) word h x

word_fits : (s : Shape) (names : Names) (is_trailing : Bool) (waiting : Waiting) (word : Text) (h : Held) → word_fault s names is_trailing waiting word h ≡ []
    → word_passes s names is_trailing waiting word h ≡ true
word_fits s names true waiting word h e = refl
word_fits s names false waiting word h e = other_fits s (subcommand_met names waiting word) word h e

positional_fits : (c : List Rule) (again : Bool) (a : Rule) (h : Held) → positional_fault c again a h ≡ [] → positional_passes c again a h ≡ true
positional_fits c again a h e = go (is_pending a h.pending && takes_several a) e
  where
    go : (b : Bool) → cond b [] (settle_fault c again h) ≡ [] → (b || settle_passes c again h) ≡ true
    go true x = refl
    go false x = settle_fits c again h x

stray_fails : (s : Shape) → stray_fault s ≡ [] → ⊥
stray_fails s e = go s.is_leaf e
  where
    go : (b : Bool) → cond b (kind.UnknownArgument ∷ []) (kind.UnknownArgument ∷ kind.InvalidSubcommand ∷ []) ≡ [] → ⊥
    go true x = cc
    go false x = cc

step_fits : (s : Shape) (position : ℕ) (h : Held) (step : Step) → step_fault s position h step ≡ [] → step_passes s position h step ≡ true
step_fits s position h (next waiting) e = refl
step_fits s position h (trailing place) e = refl
step_fits s position h (subcommand name) e = refl
step_fits s position h value e = go (arg_by_index s.rules position) e
  where
    go : (o : Option Rule) → option_map_or (λ a. positional_fault s.rules s.args_override_self a h) o (stray_fault s) ≡ []
        → option_map_or (λ a. positional_passes s.rules s.args_override_self a h) o false ≡ true
    go None x = absurd (stray_fails s x)
    go (Some a) x = positional_fits s.rules s.args_override_self a h x

turn_fits : (s : Shape) (names : Names) (w : Walk) (word : Text) → turn_fault s names w word ≡ [] → turn_passes s names w word ≡ true
turn_fits s names w word e = go (is_some w.stopped) e
  where
    met : Held × Step
    met = word_met s.rules names w.is_trailing w.waiting w.position word w.held

    go : (b : Bool) → cond b [] (or_else (word_fault s names w.is_trailing w.waiting word w.held) (step_fault s w.position met.0 met.1)) ≡ []
        → (b || (word_passes s names w.is_trailing w.waiting word w.held && step_passes s w.position met.0 met.1)) ≡ true
    go true x = refl
    go false x =
        let p = no_kind _ _ x in
        all_true _ _ (word_fits s names w.is_trailing w.waiting word w.held p.0) (step_fits s w.position met.0 met.1 p.1)

-- ---- all the words

pub walk_fits : (s : Shape) (names : Names) (w : Walk) (words : List Text) → walk_fault s names w words ≡ [] → walk_passes s names w words ≡ true
unfolding walk_fault walk_passes
walk_fits s names w [] e = refl
walk_fits s names w (word ∷ rest) e =
    let p = no_kind _ _ e in
    all_true _ _ (turn_fits s names w word p.0) (walk_fits s names (walked s.rules names w word) rest p.1)

given_or_free : (required given : Bool) (rest : Bool) → ((required && not given) || rest) ≡ false → ((not required || given) ≡ true) × (rest ≡ false)
given_or_free false given rest e = (refl, e)
given_or_free true true rest e = (refl, e)
given_or_free true false rest e = cc

-- what is required is given
pub none_missing : (rules : List Rule) (rows : List Row) → list_any (λ a. a.required && not (is_given a.id rows)) rules ≡ false
    → list_all (λ a. not a.required || is_given a.id rows) rules ≡ true
none_missing [] rows e = refl
none_missing (a ∷ rules) rows e =
    let p = given_or_free a.required (is_given a.id rows) _ e in
    all_true _ _ p.0 (none_missing rules rows p.1)
