use Rattle.std.proofs.Common.{[], ◌∷◌}
use Rattle.std.specs.Prelude.{string_bytes, decimal, codes}
use Rattle.neigh_run.specs.Spelling.{class_word}
use Rattle.neigh_run.specs.Report.{queued_words, tx_words, op_part}
use Rattle.neigh_report.proofs.SpacedWords.{line_four}
use Rattle.neigh_report.proofs.host_journal.write_frame.Goals as goal

pub returns : goal.returns
returns c =
    rw (c.in_ok-writeln.ensures.bytes, c.in_ok-add_op_part.ensures, c.in_ok-add_tx.ensures, c.in_ok-add_queued.ensures, c.in_ok-add_class.ensures, c.in_ok-write.ensures.bytes)
    (line_four (string_bytes c.args.report.now) (decimal c.args.n) (decimal c.args.at ∷ codes "frame" ∷ []) (class_word c.args.class ∷ []) (queued_words c.args.queued) (tx_words c.args.tx.now) (op_part c.args.op.now))
