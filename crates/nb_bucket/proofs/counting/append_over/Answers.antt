use Rattle.std.proofs.Common.{List, [], ◌∷◌, length, ap, ◌∙◌, arith}
use Rattle.std.proofs.lemmas.List.{length-append}
use Rattle.nb_base.specs.declared.line.Line.{Line}
use Rattle.nb_journal.proofs.Folds.{present_count-within}
use Rattle.nb_bucket.proofs.counting.append_over.Goals as goal

pub overflow_cast-was : goal.overflow_cast-was
overflow_cast-was g c = let within = present_count-within c.args.fold.now.params c.args.fold.now.lines in omega (arith, within, c.present-was.ensures, c.requires.few)

pub overflow_cast-present : goal.overflow_cast-present
overflow_cast-present g c =
    let within = present_count-within c.append_over-reply.new.self.params c.append_over-reply.new.self.lines in
    let size = ap (λ (xs : List Line). length xs) c.append_over-reply.ensures.lines ∙ length-append c.args.fold.now.lines (c.args.line.now ∷ []) in
    omega (arith, within, size, c.present.ensures, c.requires.few)

pub count_present-requires-clause-most : goal.count_present-requires-clause-most
count_present-requires-clause-most g c =
    let within = present_count-within c.append_over-reply.new.self.params c.append_over-reply.new.self.lines in
    let size = ap (λ (xs : List Line). length xs) c.append_over-reply.ensures.lines ∙ length-append c.args.fold.now.lines (c.args.line.now ∷ []) in
    omega (arith, within, size, c.present.ensures, c.requires.few)
