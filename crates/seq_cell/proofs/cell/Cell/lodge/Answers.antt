use Rattle.std.proofs.Common.{◌≡◌, ◌+◌, true, length, Some, IfSome, rules, ap, sym, subst, ◌∙◌}
use Rattle.crossbeam_utils.specs.Seq.{cell_view}
use Rattle.hh_core.specs.declared.reader.ReaderPhase.TheVariants.{Rest}
use Rattle.hh_cell.specs.declared.view.View.{View}
use Rattle.hh_cell.specs.declared.view.Reading.{Reading}
use Rattle.hh_cell.specs.Views.{phase_in, takes_in}
use Rattle.hh_cell.specs.Kept.{LookTells}
use Rattle.hh_cell.proofs.Lists.{if_some_is}
use Rattle.hh_cell.proofs.Seats.{reader_there}
use Rattle.hh_cell.proofs.Passes.{pass_cell, agrees_shown}
use Rattle.seq_cell.proofs.Steps.{cuts, lodges, looks}
use Rattle.seq_cell.proofs.cell.Cell.lodge.Goals as goal

pub split_pass-whole-requires : goal.split_pass-whole-requires
split_pass-whole-requires g c = (
  search rules,
  (
    search rules,
    (
      pass_cell c.pass.inside.token.table_id (cell_view c.pass.inside.token).reader c.args.pass c.pass.view_is ∙ (c.requires.pass ∙ sym c.self.view_is),
      cuts c.pass.inside.token.id (cell_view c.pass.inside.token) c.pass.invariant.rests,
    ),
  ),
)

pub join_pass-requires : goal.join_pass-requires
join_pass-requires g c =
    let cut = c.split_pass-whole.ensures.given in
    let own = ap (λ w. w.cell) c.writer.view_is ∙ (c.requires.writer ∙ sym c.self.view_is) in
    let its = pass_cell c.pass.inside.token.table_id (cell_view c.pass.inside.token).reader c.args.pass c.pass.view_is ∙ (c.requires.pass ∙ sym c.self.view_is) in
    let rests : phase_in (cell_view c.split_pass-whole.result) ≡ Some Rest = ap phase_in cut.1 ∙ c.pass.invariant.rests in (
      search rules,
      (
        search rules,
        (
          (own, cut.0 ∙ (its ∙ sym own), cut.2),
          lodges c.writer.inside.token.id c.writer.inside.last (cell_view c.writer.inside.token) c.split_pass-whole.result.id (cell_view c.split_pass-whole.result) c.writer.invariant.last rests,
        ),
      ),
    )

pub load_as-requires : goal.load_as-requires
load_as-requires g c =
    let cut = c.split_pass-whole.ensures.given in
    let joined = c.join_pass.ensures in
    let there = reader_there (cell_view c.pass.inside.token).reader Rest c.pass.invariant.rests in
    let writes : (cell_view c.join_pass.new.pass).writes ≡ true = ap (λ (v : View). v.writes) joined.1 ∙ c.writer.invariant.writes in
    let last : length (cell_view c.join_pass.new.pass).published ≡ c.writer.inside.last + 1 = ap (λ (v : View). length v.published) joined.1 ∙ c.writer.invariant.last in
    let reader : (cell_view c.join_pass.new.pass).reader ≡ Some there.0 = ap (λ (v : View). v.reader) joined.1 ∙ (ap (λ (v : View). v.reader) cut.1 ∙ there.1) in
    let rests : IfSome (cell_view c.join_pass.new.pass).reader (λ r. r.phase ≡ Rest) = if_some_is (λ (r : Reading). r.phase ≡ Rest) (cell_view c.join_pass.new.pass).reader there.0 reader there.2 in (
      search rules,
      (
        search rules,
        (
          joined.0.0 ∙ (ap (λ w. w.cell) c.writer.view_is ∙ (c.requires.writer ∙ sym c.self.view_is)),
          looks c.join_pass.new.pass.id c.writer.inside.last (cell_view c.join_pass.new.pass) writes last rests,
        ),
      ),
    )

pub returns-clause-agrees : goal.returns-clause-agrees
returns-clause-agrees g c =
    let cut = c.split_pass-whole.ensures.given in
    let joined = c.join_pass.ensures in
    let became : cell_view c.join_pass.new.pass ≡ takes_in (cell_view c.writer.inside.token) (cell_view c.pass.inside.token) = joined.1 ∙ ap (λ (u : View). takes_in (cell_view c.writer.inside.token) u) cut.1 in
    let F : View → Type 0 = λ u. IfSome u.reader (LookTells u.published) in
    let told : IfSome (cell_view c.pass.inside.token).reader (LookTells (cell_view c.writer.inside.token).published) = subst F became c.load_as.ensures.rule.1 in
    agrees_shown c.writer.inside.token.table_id c.pass.inside.token.table_id (cell_view c.writer.inside.token) (cell_view c.pass.inside.token) c.args.writer.now c.args.pass c.writer.view_is c.pass.view_is c.pass.invariant.rests told
