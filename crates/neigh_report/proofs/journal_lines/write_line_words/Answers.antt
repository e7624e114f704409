use Rattle.std.proofs.Common.{[], ◌∷◌}
use Rattle.std.specs.Prelude.{string_bytes, decimal, codes}
use Rattle.neigh_run.specs.Spelling.{id_word, op_words, reply_part}
use Rattle.neigh_report.proofs.SpacedWords.{line_three}
use Rattle.neigh_report.proofs.journal_lines.write_line_words.Goals as goal

pub returns : goal.returns
returns c =
    rw (c.in_ok-writeln.ensures.bytes, c.in_ok-add_answer.ensures, c.in_ok-add_op.ensures, c.in_ok-add_id.ensures, c.in_ok-write.ensures.bytes)
    (line_three (string_bytes c.args.report.now) (decimal c.args.place) (decimal c.args.line.now.at ∷ []) (id_word c.args.line.now.id ∷ []) (op_words c.args.line.now.op) (codes "->" ∷ reply_part c.args.reply))
