use Rattle.std.proofs.Common.{◌≡◌, rules, subst}
use Rattle.nb_base.specs.declared.params.Params.{Params}
use Rattle.nb_journal.specs.Accounts.{acts_at}
use Rattle.nb_journal.specs.Fold.{reply_of}
use Rattle.text_codes.specs.Lines.{text_of}
use Rattle.neigh_report.specs.Left.{look}
use Rattle.std.specs.Prelude.{string_bytes}
use Rattle.neigh_report.proofs.LeftBehind.{on_ok}
use Rattle.neigh_report.proofs.LinesBelow.{written_is}
use Rattle.neigh_report.proofs.below.write_and_take.Goals as goal

pub returns-clause-written : goal.returns-clause-written
returns-clause-written c =
    let lines = c.args.fold.now.lines in
    let line = c.args.line.now in
    let p = c.requires.params in
    on_ok _ _ (written_is c.args.plan.now lines line c.append_with_acts.new.acts.items c.in_ok-reply.reply (string_bytes c.args.report.now) (string_bytes c.write_line.new.report) (string_bytes c.push_str.new.self)
    (string_bytes c.in_ok-below.below) (string_bytes c.write_acts_below.new.below)
    (subst (λ (x : Params). string_bytes c.in_ok-below.below ≡ text_of (look c.args.plan.now.host x lines line.op)) p c.in_ok-below.ensures)
    (subst (λ (x : Params). c.append_with_acts.new.acts.items ≡ acts_at x lines line) p (rw c.new-own.ensures.items at c.in_ok-reply.ensures.acts))
    (search rules)
    (subst (λ (x : Params). c.in_ok-reply.reply ≡ reply_of x lines line) p c.in_ok-reply.ensures.reply)
    (rw c.lines-place.ensures at c.in_ok-write_line.ensures) (search rules))
