use Rattle.std.proofs.Common.{◌≡◌, Some, sym, ap, ◌∙◌}
use Rattle.nb_base.specs.declared.record.Record.{Record}
use Rattle.nb_base.proofs.RecordWords.{AreWords-header, AreWords-usable, AreWords-none, record_is}
use Rattle.nb_base.proofs.record.Record.of_words.Goals as goal

pub returns-in_err-usable-clause-only : goal.returns-in_err-usable-clause-only
returns-in_err-usable-clause-only c = λ r h. absurd (AreWords-none c.args.a c.args.b r c.in_err-usable.ensures h)

pub returns-clause-only : goal.returns-clause-only
returns-clause-only c = λ r h.
    let read = c.in_ok-usable.ensures ∙ AreWords-usable c.args.a c.args.b r h in
    let usable : c.in_ok-usable.usable ≡ r.usable = cc in
    ap (λ (x : Record). Some x) (record_is c.in_ok-usable.usable c.header_of-header.result r usable (c.header_of-header.ensures ∙ sym (AreWords-header c.args.a c.args.b r h)))
