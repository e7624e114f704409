use Rattle.std.proofs.Common.{◌∷◌, append_assoc}
use Rattle.std.specs.Prelude.{decimal, codes}
use Rattle.neigh_run.specs.Spelling.{reply_words}
use Rattle.neigh_report.proofs.SpacedWords.{line_spaced}
use Rattle.neigh_report.proofs.host_journal.write_proxy.Goals as goal

pub returns : goal.returns
returns c = rw (line_spaced (decimal c.args.n) (decimal c.args.at ∷ codes "proxy" ∷ reply_words c.args.reply), c.in_ok-writeln.ensures.bytes, c.in_ok-add_reply.ensures, c.in_ok-write.ensures.bytes)
    (simp append_assoc)
