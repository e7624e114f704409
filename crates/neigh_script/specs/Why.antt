-- The refusals of a script.
use Rattle.std.specs.Prelude.{◌≡◌, ℕ, Result, Ok, Err}
use Rattle.neigh_script.specs.declared.why.ScriptWhy.{ScriptWhy}
use Rattle.neigh_script.specs.declared.why.ScriptWhy.TheVariants as why
use Rattle.neigh_script.specs.declared.why.LineFail.{LineFail}
use Rattle.neigh_script.specs.declared.why.LineFail.TheVariants as line_fail
use Rattle.neigh_script.specs.declared.why.ScriptFail.{ScriptFail}
use Rattle.neigh_script.specs.declared.why.ScriptFail.TheVariants as script_fail

-- the number that the program prints for a refusal (this project's own)
abbrev pub number_of : ScriptWhy → ℕ
number_of why.BadUtf8 = 1
number_of why.BadMoment = 2
number_of why.UnknownWord = 3
number_of why.BadAddress = 4
number_of why.BadLink = 5
number_of why.BadState = 6
number_of why.BadPayload = 7
number_of why.BadSender = 8
number_of why.OtherDevice = 9
number_of why.ParamRange = 10
number_of why.NoHost = 11
number_of why.TooMany = 12
number_of why.LateParam = 13

-- what a failed line's reading is, unless memory ran out
abbrev pub IsLineFail : {Y : Type 0} → LineFail → Result Y ScriptWhy → Type 0
IsLineFail (line_fail.Refused w) read = read ≡ Err w
IsLineFail line_fail.Memory read = Unit {0}

-- what was answered for a line is what it says, unless memory ran out
abbrev pub LineAnswers : {Y : Type 0} → Result Y LineFail → Result Y ScriptWhy → Type 0
LineAnswers (Ok x) read = read ≡ Ok x
LineAnswers (Err e) read = IsLineFail e read

abbrev pub IsScriptFail : {Y : Type 0} → ScriptFail → Result Y ScriptFail → Type 0
IsScriptFail (script_fail.Refused line w) read = read ≡ Err (script_fail.Refused line w)
IsScriptFail script_fail.Memory read = Unit {0}

-- what was answered for a text is what it says, unless memory ran out
abbrev pub Answers : {Y : Type 0} → Result Y ScriptFail → Result Y ScriptFail → Type 0
Answers (Ok x) read = read ≡ Ok x
Answers (Err e) read = IsScriptFail e read
