use Rattle.std.proofs.Common.{map, string_bytes}
use Rattle.clap.specs.Matches.{found_of}
use Rattle.clap.specs.Simple.{app_of}
use Rattle.clap.specs.Values.{kind_of}
use Rattle.clap.specs.Walk.{rows_of}
use Rattle.neigh_words.proofs.TakenWords.{parsed_given, parsed_taken, refused_untaken}
use Rattle.neigh_words.proofs.words_of_command.matches.Goals as goal

pub returns-in-Ok-try_get_matches_from-clause-taken : goal.returns-in-Ok-try_get_matches_from-clause-taken
returns-in-Ok-try_get_matches_from-clause-taken c =
    parsed_taken (app_of c.in-Ok.command) (map string_bytes c.args.words.now) c.in-Ok.ensures c.in-Ok-try_get_matches_from.ensures.kinds

pub returns-in-Ok-try_get_matches_from-clause-rows : goal.returns-in-Ok-try_get_matches_from-clause-rows
returns-in-Ok-try_get_matches_from-clause-rows c =
    parsed_given (app_of c.in-Ok.command) (map string_bytes c.args.words.now) (rows_of (found_of c.in-Ok-try_get_matches_from.matches)) c.in-Ok.ensures
    (λ simple. (c.in-Ok-try_get_matches_from.ensures.matches simple).0)

pub returns-in-Err-clause-usage : goal.returns-in-Err-clause-usage
returns-in-Err-clause-usage c e =
    refused_untaken (app_of c.in-Ok.command) (map string_bytes c.args.words.now) (kind_of c.in-Err.error) c.in-Ok.ensures c.in-Err.ensures.passes (c.cause.ensures.usage cc)
