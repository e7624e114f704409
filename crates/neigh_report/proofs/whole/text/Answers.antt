use Rattle.std.proofs.Common.{◌≡◌, ◌++◌, subst}
use Rattle.std.specs.Prelude.{string_bytes}
use Rattle.text_codes.specs.Lines.{text_of}
use Rattle.neigh_report.specs.Left.{top}
use Rattle.neigh_report.proofs.WholeText.{whole_is}
use Rattle.neigh_report.proofs.whole.text.Goals as goal

pub returns : goal.returns
returns c =
    rw (c.from_vec.ensures, c.into_bytes.ensures.value)
    (whole_is c.args.run.now (string_bytes c.write_top.new.report) (string_bytes c.write_bottom.new.report) (subst (λ bytes. string_bytes c.write_top.new.report ≡ bytes ++ text_of (top c.args.run.now)) c.new-report.ensures.bytes c.in_ok-behind.ensures.written) c.in_ok-write_bottom.ensures)
