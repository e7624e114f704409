use Rattle.std.proofs.Common.{◌≡◌, ◌<◌, ◌+◌, ℕ, List, [], ◌∷◌, ◌++◌, map, set, get_or, slice_get, length, refl, sym, ap, subst, take, ◌∙◌, arith}
use Rattle.std.proofs.lemmas.List.{take_more, take_all}
use Rattle.std.proofs.lemmas.Option.{slice_get-get_or}
use Rattle.nb_base.specs.declared.key.Key.TheVariants.{V4}
use Rattle.nb_base.specs.declared.key.Key.{Key}
use Rattle.nud_machine.specs.State.{State}
use Rattle.nb_journal.specs.Keys.{place_among}
use Rattle.nb_journal.specs.Fold.{state_of, known_keys}
use Rattle.nb_journal.proofs.Counts.{AreDistinct, known_keys-distinct}
use Rattle.journal_fold.specs.Present.{HoldsPresent}
use Rattle.journal_fold.proofs.Places.{each_at}
use Rattle.journal_fold.proofs.Mixed.{mixed, mixed_set, mixed_at, not_before, all_mixed}
use Rattle.journal_fold.proofs.steps.go_on_ranks.Goals as goal

pub offset_bounds-keys-rank : goal.offset_bounds-keys-rank
offset_bounds-keys-rank c =
    let ranks = c.args.ranks.now in
    let here = slice_get-get_or ranks c.loop-rank.rank-index 0 c.loop-rank-test.true in
    let small = each_at (λ (rank : ℕ). rank < length (known_keys c.args.past.now)) ranks c.loop-rank.rank-index (get_or ranks c.loop-rank.rank-index 0) here c.requires.ranks.known in
    let size = ap (λ (keys : List Key). length keys) c.requires.keys in
    omega (arith, small, size)

pub bounds-keys-rank : goal.bounds-keys-rank
bounds-keys-rank c =
    let ranks = c.args.ranks.now in
    let here = slice_get-get_or ranks c.loop-rank.rank-index 0 c.loop-rank-test.true in
    let small = each_at (λ (rank : ℕ). rank < length (known_keys c.args.past.now)) ranks c.loop-rank.rank-index (get_or ranks c.loop-rank.rank-index 0) here c.requires.ranks.known in
    let size = ap (λ (keys : List Key). length keys) c.requires.keys in
    omega (arith, small, size)

pub go_on_at-requires-clause-state : goal.go_on_at-requires-clause-state
go_on_at-requires-clause-state c =
    let p = c.args.params.now in
    let keys = c.args.keys.now in
    let ranks = c.args.ranks.now in
    let i = c.loop-rank.rank-index in
    let rank = get_or ranks i 0 in
    let here = slice_get-get_or ranks i 0 c.loop-rank-test.true in
    let small = each_at (λ (n : ℕ). n < length (known_keys c.args.past.now)) ranks i rank here c.requires.ranks.known in
    let size = ap (λ (ks : List Key). length ks) c.requires.keys in
    let distinct = subst AreDistinct (sym c.requires.keys) (known_keys-distinct c.args.past.now) in
    ap (λ (x : List State). slice_get x rank) c.loop-rank.invariant.states
    ∙ mixed_at (take i ranks) keys (state_of p (c.args.past.now ++ c.args.line.now ∷ [])) (state_of p c.args.past.now) rank (get_or keys rank (V4 0)) distinct (slice_get-get_or keys rank (V4 0) (omega (arith, small, size)))
    (not_before ranks i rank c.requires.ranks.once here)

pub loop-rank-init : goal.loop-rank-init
loop-rank-init c = record { states = c.requires.kept.states; each = c.requires.kept.each; present = c.requires.present; len = refl; capacity = refl }

pub loop-rank-preserved : goal.loop-rank-preserved
loop-rank-preserved c =
    let p = c.args.params.now in
    let keys = c.args.keys.now in
    let ranks = c.args.ranks.now in
    let i = c.loop-rank.rank-index in
    let rank = get_or ranks i 0 in
    let key = get_or keys rank (V4 0) in
    let g = state_of p (c.args.past.now ++ c.args.line.now ∷ []) in
    let f = state_of p c.args.past.now in
    let here = slice_get-get_or ranks i 0 c.loop-rank-test.true in
    let small = each_at (λ (n : ℕ). n < length (known_keys c.args.past.now)) ranks i rank here c.requires.ranks.known in
    let size = ap (λ (ks : List Key). length ks) c.requires.keys in
    let distinct = subst AreDistinct (sym c.requires.keys) (known_keys-distinct c.args.past.now) in
    record {
      states = c.go_on_at.ensures.states
          ∙ ap (λ (x : List State). set x rank (g key)) c.loop-rank.invariant.states
          ∙ mixed_set (take i ranks) keys g f rank key distinct (slice_get-get_or keys rank (V4 0) (omega (arith, small, size)))
          ∙ ap (λ (done : List ℕ). map (mixed done (place_among keys) g f) keys) (sym (take_more ranks i 0 c.loop-rank-test.true));
      each = c.go_on_at.ensures.each;
      present = c.go_on_at.ensures.present;
      len = c.go_on_at.ensures.len ∙ c.loop-rank.invariant.len;
      capacity = c.go_on_at.ensures.capacity ∙ c.loop-rank.invariant.capacity;
    }

pub returns-clause-kept : goal.returns-clause-kept
returns-clause-kept c =
    let p = c.args.params.now in
    let past = c.args.past.now in
    let ranks = c.args.ranks.now in
    let g = state_of p (past ++ c.args.line.now ∷ []) in
    record {
      states = c.loop-rank.invariant.states
          ∙ ap (λ (done : List ℕ). map (mixed done (place_among c.args.keys.now) g (state_of p past)) c.args.keys.now) (take_all c.loop-rank.rank-index ranks c.loop-rank-test.false)
          ∙ ap (λ (keys : List Key). map (mixed ranks (place_among keys) g (state_of p past)) keys) c.requires.keys
          ∙ all_mixed p past c.args.line.now ranks c.requires.names c.requires.ranks
          ∙ ap (λ (keys : List Key). map g keys) (sym c.requires.keys);
      each = c.loop-rank.invariant.each;
    }
