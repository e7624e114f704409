use Rattle.std.proofs.Common.{◌≡◌, ◌++◌, take, map}
use Rattle.std.specs.Prelude.{string_bytes}
use Rattle.text_codes.specs.Lines.{text_of}
use Rattle.neigh_script.specs.Written.{param_words}
use Rattle.neigh_script.proofs.writing.write_params.Given as goal

abbrev pub invariant-loop-parameter : goal.invariant-loop-parameter
invariant-loop-parameter l = string_bytes l.text ≡ string_bytes l.fn.text ++ text_of (map (param_words l.params) (take l.parameter-index l.parameters))
