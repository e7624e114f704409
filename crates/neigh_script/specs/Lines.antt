-- What a line says below others, and what a text of lines says.
use Rattle.std.specs.Prelude.{ℕ, ◌+◌, Bool, false, ◌||◌, ◌==◌, if◌then◌else◌, nat_lt, List, [], ◌∷◌, ◌++◌, Option, Some, None, Result, Ok, Err, bytes_eq, codes}
use Rattle.std.specs.Option.{is_some, option_to_list}
use Rattle.std.specs.Str.{is_utf8}
use Rattle.nb_base.specs.declared.host.Host.{Host}
use Rattle.neigh_script.specs.declared.why.ScriptWhy.{ScriptWhy}
use Rattle.neigh_script.specs.declared.why.ScriptWhy.TheVariants as why
use Rattle.neigh_script.specs.declared.why.ScriptFail.{ScriptFail}
use Rattle.neigh_script.specs.declared.why.ScriptFail.TheVariants.{Refused}
use Rattle.neigh_script.specs.declared.context.Context.{Context}
use Rattle.neigh_script.specs.declared.script.Script.{Script}
use Rattle.neigh_script.specs.declared.script.ScriptItem.{ScriptItem}
use Rattle.text_codes.specs.Lines.{Words, lines_of, words_of}
use Rattle.neigh_script.specs.Reading.{◌>>=◌}
use Rattle.neigh_script.specs.Context.{start, behind}
use Rattle.neigh_script.specs.Fields.{moment}
use Rattle.neigh_script.specs.Forms.{host_form, senders_form, param_form, neigh_form, confirm_form, send_form}

-- whether a word begins with this byte
abbrev pub begins_with : ℕ → List ℕ → Bool
begins_with b [] = false
begins_with b (x ∷ xs) = x == b

-- the host line, once and above all items
unfoldable pub host_line : Context → Words → Result Context ScriptWhy
host_line c words = if is_some c.last || is_some c.host then Err why.LateParam else (host_form words >>= λ host. Ok (record c { host = Some host }))

-- a senders line, above all items; a later one replaces an earlier one
unfoldable pub senders_line : Context → Words → Result Context ScriptWhy
senders_line c words = if is_some c.last then Err why.LateParam else (senders_form words >>= λ n. Ok (record c { senders = n }))

-- a parameter's line, above all items; a later one replaces an earlier one
unfoldable pub param_line : Context → Words → Result Context ScriptWhy
param_line c words = if is_some c.last then Err why.LateParam else (param_form c.params words >>= λ params. Ok (record c { params = params }))

-- the item behind its moment
unfoldable pub item_form : Context → Host → ℕ → Words → Result ScriptItem ScriptWhy
item_form c host at [] = Err why.UnknownWord
item_form c host at (kind ∷ words) =
    if bytes_eq kind (codes "neigh") then neigh_form c.shows host at words
    else (if bytes_eq kind (codes "confirm") then confirm_form host at words
    else (if bytes_eq kind (codes "send") then send_form c.senders host at words
    else Err why.UnknownWord))

-- an item's line, below the host line
unfoldable pub item_line : Context → Option Host → List ℕ → Words → Result ScriptItem ScriptWhy
item_line c None first words = Err why.NoHost
item_line c (Some host) first words = moment c.last first >>= λ at. item_form c host at words

-- a line of a script's head, by its first word
unfoldable pub head_line : Context → List ℕ → Words → Result Context ScriptWhy
head_line c first words =
    if bytes_eq first (codes "host") then host_line c words
    else (if bytes_eq first (codes "senders") then senders_line c words
    else (if bytes_eq first (codes "param") then param_line c words
    else Err why.UnknownWord))

-- what a line of words leaves below others, and its item where it has one; a line without words, or whose first word begins with `#`, is a comment
unfoldable pub words_line : Context → Words → Result (Context × Option ScriptItem) ScriptWhy
words_line c [] = Ok (c, None)
words_line c (first ∷ words) =
    if begins_with 35 first then Ok (c, None)
    else (if begins_with 64 first then (item_line c c.host first words >>= λ item. Ok (behind c item, Some item))
    else (head_line c first words >>= λ next. Ok (next, None)))

-- the line of this number: there are at most 131,072, and each is UTF-8, a comment too
unfoldable pub numbered_line : ℕ → Context → List ℕ → Result (Context × Option ScriptItem) ScriptWhy
numbered_line n c line = if nat_lt 131_072 n then Err why.TooMany else (if is_utf8 line then words_line c (words_of line) else Err why.BadUtf8)

-- what is there behind the last line; a script has a host
abbrev pub script_end : ℕ → Context → Option Host → List ScriptItem → Result Script ScriptFail
script_end n c None items = Err (Refused n why.NoHost)
script_end n c (Some host) items = Ok (record { host = host; senders = c.senders; params = c.params; items = items })

-- what the line of this number leaves, or its refusal
abbrev pub at_line : {A : Type 0} → ℕ → Result A ScriptWhy → Result A ScriptFail
at_line n (Ok a) = Ok a
at_line n (Err w) = Err (Refused n w)

-- the lines from this number on, below others that left this context and these items: the first that fails is refused, by the first check that it fails
unfoldable pub lines_from : ℕ → Context → List ScriptItem → List (List ℕ) → Result Script ScriptFail
lines_from n c items [] = script_end n c c.host items
lines_from n c items (line ∷ rest) = at_line n (numbered_line n c line) >>= λ said. lines_from (n + 1) said.0 (items ++ option_to_list said.1) rest

-- what a text says
unfoldable pub script_of : List ℕ → Result Script ScriptFail
script_of text = lines_from 1 start [] (lines_of text)
