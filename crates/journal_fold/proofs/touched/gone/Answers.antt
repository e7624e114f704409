use Rattle.std.proofs.Common.{List, ◌++◌, get_or, sym, ap, ◌∙◌}
use Rattle.std.proofs.lemmas.Option.{slice_get-get_or}
use Rattle.nb_base.specs.declared.key.Key.TheVariants.{V4}
use Rattle.nb_journal.specs.Steps.{state_in}
use Rattle.journal_fold.specs.declared.touched.Touch.{Touch}
use Rattle.journal_fold.specs.Removing as removing
use Rattle.journal_fold.proofs.Touches.{rows_next}
use Rattle.journal_fold.proofs.touched.gone.Goals as goal

pub loop-rank-preserved : goal.loop-rank-preserved
loop-rank-preserved c =
    let p = c.args.params.now in
    let line = c.args.line.now in
    let keys = c.args.keys.now in
    let rank = c.loop-rank.rank in
    let one = c.index-kept-rank.result in
    let key = get_or keys rank (V4 0) in
    record {
      rows = c.in_ok-push_gone.ensures
          ∙ ap (λ (rows : List Touch). rows ++ removing.gone p line key (state_in one)) c.loop-rank.invariant.rows
          ∙ sym (rows_next p line keys c.args.kept.now rank key one c.requires.both (slice_get-get_or keys rank (V4 0) c.loop-rank-test.true) c.index-kept-rank.is);
    }
