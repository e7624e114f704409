-- One line more is entered, into a table that has room for it; and at the end all of them are.
use Rattle.std.proofs.Common.{◌∙◌, List, [], length, take, refl, sym, subst, arith}
use Rattle.std.proofs.lemmas.List.{take_all}
use Rattle.nb_base.specs.declared.line.Line.{Line}
use Rattle.neigh_run.specs.Inline.{entered_line}
use Rattle.plain_table.specs.Calls.{Call, calls_for, calls_on}
use Rattle.plain_table.specs.Calling.{CallsEach}
use Rattle.plain_table.proofs.CallsOf.{calls_of-nil, calls_on-more}
use Rattle.plain_table.proofs.EachCall.{calls-join, all_called}
use Rattle.plain_table.proofs.Ready.{have_room}
use Rattle.plain_table.proofs.table.PlainTable.enter_all.Goals as goal

pub loop-line-init : goal.loop-line-init
loop-line-init c =
    let old = c.args.self.now in
    record {
      buckets = refl;
      called = subst (λ (calls : List Call). CallsEach calls old old [] c.new-answers.result) (sym (calls_of-nil (length old))) (refl, c.new-answers.ensures);
    }

pub enter-requires-clause-room : goal.enter-requires-clause-room
enter-requires-clause-room c =
    have_room c.args.self.now c.loop-line.self c.args.lines.now c.loop-line.line-index c.line-item.result [] c.loop-line.answers c.requires.params c.requires.new c.requires.by_moment c.requires.room (omega arith) c.line-item.is
    c.loop-line.invariant.called

pub loop-line-preserved : goal.loop-line-preserved
loop-line-preserved c =
    let old = c.args.self.now in
    let n = length c.args.self.now in
    let i = c.loop-line.line-index in
    let line = c.line-item.result in
    record {
      buckets = c.enter.ensures.buckets ∙ c.loop-line.invariant.buckets;
      called = subst (λ (calls : List Call). CallsEach calls old c.enter.new.self [] c.enter.new.answers) (sym (calls_on-more n c.args.lines.now i line (omega arith) c.line-item.is))
          (calls-join (calls_on n (take i c.args.lines.now)) (calls_for n (entered_line line)) old c.loop-line.self c.enter.new.self [] c.loop-line.answers c.enter.new.answers c.loop-line.invariant.called
          (subst (λ m. CallsEach (calls_for m (entered_line line)) c.loop-line.self c.enter.new.self c.loop-line.answers c.enter.new.answers) c.loop-line.invariant.buckets c.in_ok-enter.ensures.called));
    }

pub returns-clause-called : goal.returns-clause-called
returns-clause-called c =
    let old = c.args.self.now in
    let n = length c.args.self.now in
    let all = take_all c.loop-line.line-index c.args.lines.now (omega arith) in
    all_called (calls_on n c.args.lines.now) old c.loop-line.self c.loop-line.answers c.requires.params c.requires.new
    (subst (λ (lines : List Line). CallsEach (calls_on n lines) old c.loop-line.self [] c.loop-line.answers) all c.loop-line.invariant.called)
