use Rattle.std.proofs.Common.{◌≡◌, ◌+◌, List, [], ◌∷◌, ◌++◌, set, get_or, slice_get, sym, ap, subst, take, ◌∙◌}
use Rattle.std.proofs.lemmas.List.{flat_map_more, take_more, take_all}
use Rattle.std.specs.List.{flat_map}
use Rattle.std.proofs.lemmas.Option.{slice_get-get_or}
use Rattle.nb_base.specs.declared.key.Key.TheVariants.{V4}
use Rattle.nb_base.specs.declared.key.Key.{Key}
use Rattle.nud_machine.specs.declared.act.Act.{Act}
use Rattle.nud_machine.specs.State.{State}
use Rattle.nb_journal.specs.Fold.{state_of, acts_of}
use Rattle.journal_fold.specs.Hearing.{Hears}
use Rattle.journal_fold.proofs.Looks.{kept_shown, acts_shown}
use Rattle.journal_fold.proofs.PartWay.{next_at, next_set, all_done}
use Rattle.journal_fold.proofs.Heard.{hears-none, hears-more}
use Rattle.journal_fold.proofs.steps.go_on_each.Goals as goal

pub go_on_at-requires-clause-state : goal.go_on_at-requires-clause-state
go_on_at-requires-clause-state g c =
    let p = c.args.params.now in
    let keys = c.args.keys.now in
    let rank = c.loop-rank.rank in
    let key = get_or keys rank (V4 0) in
    ap (λ (x : List State). slice_get x rank) c.loop-rank.invariant.states
    ∙ next_at (state_of p (c.args.past.now ++ c.args.line.now ∷ [])) (state_of p c.args.past.now) rank keys key (slice_get-get_or keys rank (V4 0) c.loop-rank-test.true)

pub loop-rank-init : goal.loop-rank-init
loop-rank-init g c = record {
  states = c.requires.kept.states;
  each = c.requires.kept.each;
  present = c.requires.present;
  heard = hears-none (g.H.Hearer.heard c.args.hearer.now) (g.H.Hearer.room c.args.hearer.now);
}

pub loop-rank-preserved : goal.loop-rank-preserved
loop-rank-preserved g c =
    let p = c.args.params.now in
    let keys = c.args.keys.now in
    let rank = c.loop-rank.rank in
    let key = get_or keys rank (V4 0) in
    let behind = state_of p (c.args.past.now ++ c.args.line.now ∷ []) in
    let acts = acts_of p c.args.past.now c.args.line.now in
    let next : c.as_slice.result.now ≡ acts key = c.as_slice.ensures.acts ∙ c.go_on_at.ensures.acts in
    let all : flat_map acts (take rank keys) ++ acts key ≡ flat_map acts (take (rank + 1) keys) =
    flat_map_more acts [] (take rank keys) key ∙ ap (λ (ks : List Key). flat_map acts ks) (sym (take_more keys rank (V4 0) c.loop-rank-test.true)) in
    record {
      states = c.go_on_at.ensures.states
          ∙ ap (λ (x : List State). set x rank (behind key)) c.loop-rank.invariant.states
          ∙ next_set behind (state_of p c.args.past.now) rank keys key (slice_get-get_or keys rank (V4 0) c.loop-rank-test.true);
      each = c.go_on_at.ensures.each;
      present = c.go_on_at.ensures.present;
      heard = subst (λ (xs : List Act). Hears (g.H.Hearer.heard c.args.hearer.now) (g.H.Hearer.room c.args.hearer.now) (g.H.Hearer.heard c.hear.new.self) (g.H.Hearer.room c.hear.new.self) xs)
          (ap (λ (xs : List Act). flat_map acts (take rank keys) ++ xs) next ∙ all)
          (hears-more (g.H.Hearer.heard c.args.hearer.now) (g.H.Hearer.room c.args.hearer.now) (g.H.Hearer.heard c.loop-rank.hearer) (g.H.Hearer.room c.loop-rank.hearer) (g.H.Hearer.heard c.hear.new.self) (g.H.Hearer.room c.hear.new.self)
          (flat_map acts (take rank keys)) c.as_slice.result.now c.loop-rank.invariant.heard c.hear.ensures);
    }

pub returns-clause-kept : goal.returns-clause-kept
returns-clause-kept g c =
    let p = c.args.params.now in
    record {
      states = c.loop-rank.invariant.states
          ∙ all_done (state_of p (c.args.past.now ++ c.args.line.now ∷ [])) (state_of p c.args.past.now) c.loop-rank.rank c.args.keys.now c.loop-rank-test.false;
      each = c.loop-rank.invariant.each;
    }

pub returns-clause-heard : goal.returns-clause-heard
returns-clause-heard g c =
    let keys = c.args.keys.now in
    let acts = acts_of c.args.params.now c.args.past.now c.args.line.now in
    subst (λ (xs : List Act). Hears (g.H.Hearer.heard c.args.hearer.now) (g.H.Hearer.room c.args.hearer.now) (g.H.Hearer.heard c.loop-rank.hearer) (g.H.Hearer.room c.loop-rank.hearer) xs)
    (ap (λ (ks : List Key). flat_map acts ks) (take_all c.loop-rank.rank keys c.loop-rank-test.false ∙ c.requires.keys))
    c.loop-rank.invariant.heard

pub returns-in-Show-clause-kept : goal.returns-in-Show-clause-kept
returns-in-Show-clause-kept g c = kept_shown c.args.params.now c.args.past.now c.args.line.now c.args.keys.now c.args.kept.now.items c.in-Show.is c.requires.kept

pub returns-in-Show-clause-heard : goal.returns-in-Show-clause-heard
returns-in-Show-clause-heard g c = rw (acts_shown c.args.params.now c.args.past.now c.args.line.now c.in-Show.is) (hears-none (g.H.Hearer.heard c.args.hearer.now) (g.H.Hearer.room c.args.hearer.now))
