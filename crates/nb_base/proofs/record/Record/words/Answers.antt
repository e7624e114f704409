use Rattle.std.proofs.Common.{rules, arith}
use Rattle.std.proofs.lemmas.Grind.{common_steps}
use Rattle.nb_base.specs.Words.{AreWords}
use Rattle.nb_base.proofs.RecordWords.{AreWords-one}
use Rattle.nb_base.proofs.record.Record.words.Goals as goal

pub returns-clause-only : goal.returns-clause-only
returns-clause-only c =
    let found : AreWords c.word.result c.word-2.result c.args.self.now = first_of (search rules, grind (arith, common_steps)) in
    λ a b a_fits b_fits h. AreWords-one c.word.result c.word-2.result a b c.args.self.now c.word.ensures.fits c.word-2.ensures.fits a_fits b_fits found h
