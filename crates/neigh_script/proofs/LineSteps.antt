-- The lines of a text, one by one.
use Rattle.std.proofs.Common.{◌≡◌, ℕ, ◌+◌, List, [], ◌∷◌, ◌++◌, length, arith, Option, refl}
use Rattle.std.specs.Prelude.{Ok}
use Rattle.std.specs.Option.{option_to_list}
use Rattle.neigh_script.specs.declared.context.Context.{Context}
use Rattle.neigh_script.specs.declared.script.ScriptItem.{ScriptItem}
use Rattle.neigh_script.specs.declared.why.ScriptFail.{ScriptFail}
use Rattle.neigh_script.specs.declared.why.ScriptFail.TheVariants.{Refused, Memory}
use Rattle.neigh_script.specs.Lines.{at_line, numbered_line, lines_from, script_end, script_of}
use Rattle.neigh_script.specs.Context.{start}
use Rattle.neigh_script.specs.Why.{IsScriptFail}
use Rattle.text_codes.specs.Lines.{lines_of}
use Rattle.text_codes.proofs.Fronts.{lines_of-nil}

pub script_begins : (text : List ℕ) → lines_from 1 start [] (lines_of text) ≡ script_of text
unfolding script_of
script_begins text = refl

pub line_goes_on : (n : ℕ) (c : Context) (items : List ScriptItem) (line : List ℕ) (rest : List (List ℕ)) (said : Context × Option ScriptItem)
    → at_line n (numbered_line n c line) ≡ Ok said → lines_from n c items (line ∷ rest) ≡ lines_from (n + 1) said.0 (items ++ option_to_list said.1) rest
unfolding lines_from
line_goes_on n c items line rest said e = rw e refl

pub line_fails : (n : ℕ) (c : Context) (items : List ScriptItem) (line : List ℕ) (rest : List (List ℕ)) (fail : ScriptFail)
    → IsScriptFail fail (at_line n (numbered_line n c line)) → IsScriptFail fail (lines_from n c items (line ∷ rest))
unfolding lines_from
line_fails n c items line rest (Refused number why) e = rw e refl
line_fails n c items line rest Memory e = e

pub lines_end : (n : ℕ) (c : Context) (items : List ScriptItem) → lines_from n c items [] ≡ script_end n c c.host items
unfolding lines_from
lines_end n c items = refl

pub no_lines : (text : List ℕ) → length text ≡ 0 → lines_of text ≡ []
no_lines [] e = lines_of-nil
no_lines (b ∷ text) e = absurd (omega (arith, e))
