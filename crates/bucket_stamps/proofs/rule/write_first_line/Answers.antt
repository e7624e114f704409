use Rattle.std.proofs.Common.{◌≡◌, Option, sym, subst}
use Rattle.atomic_table.specs.Table.{Allows, State as Table, Me}
use Rattle.nb_base.specs.declared.line.Line.{Line}
use Rattle.bucket_stamps.specs.declared.view.View.{View}
use Rattle.bucket_stamps.specs.Kept.{Kept}
use Rattle.bucket_stamps.specs.Views.{writes_by}
use Rattle.bucket_stamps.proofs.Lists.{the_some}
use Rattle.bucket_stamps.proofs.Steps.{writes_allowed}
use Rattle.bucket_stamps.proofs.rule.write_first_line.Goals as goal

pub store-requires : goal.store-requires
store-requires g c =
    let there = the_some c.args.seat.now.me.0.part c.requires.stamper.1 in
    let me = c.args.seat.now.me in
    let F : Option Line → Type 0 = λ o. Allows (λ (s : Table (Unit {0}) View). Kept s.views) c.args.shared.now.table_id.slots c.args.seat.now.id me 0 (λ n. c.number_of.result) (λ n (w : Me (Unit {0}) View). w ≡ (writes_by o g.N.LineName.cells me.0, me.1)) in (
      c.requires.table.0,
      c.requires.table.1,
      subst F (sym c.requires.named.0) (writes_allowed c.args.shared.now.table_id.slots c.args.seat.now.id c.number_of.result me there.0 c.args.line.now g.N.LineName.cells c.requires.stamper.0 there.1 c.requires.own),
    )
