use Rattle.nd_codec.proofs.Grammar.{options-found, options-only}
use Rattle.nd_codec.proofs.options.options_are_those_of_the_grammar.Goals as goal

pub returns-clause-found : goal.returns-clause-found
returns-clause-found c = options-found

pub returns-clause-only : goal.returns-clause-only
returns-clause-only c = options-only
