use Rattle.std.proofs.Common.{◌≡◌, ◌++◌, List, [], ◌∷◌, length, sym, ◌∙◌, ap, subst, append_assoc, append-nil, arith}
use Rattle.std.specs.Prelude.{map}
use Rattle.nb_base.specs.declared.key.Key.{Key}
use Rattle.nb_journal.specs.Lawful.{base_of, collect_line, collects, full_of}
use Rattle.nb_bucket.specs.Bucket.{full_line}
use Rattle.nb_bucket.specs.Counting.{shown, CountsCollects}
use Rattle.nb_bucket.proofs.Collects.{none-made}
use Rattle.nb_bucket.proofs.Entered.{making-full, base_of-behind, full_of-known}
use Rattle.nb_bucket.proofs.writing.write.Goals as goal

pub write_own-requires-clause-made : goal.write_own-requires-clause-made
write_own-requires-clause-made g c =
    let fold = c.args.fold.now in
    let line = c.args.line in
    let lines : c.write_collects.new.fold.lines ≡ fold.lines ++ collects fold.params fold.lines line =
    c.write_collects.ensures.lines ∙ ap (λ (keys : List Key). fold.lines ++ map (collect_line line.at) keys) c.requires.ready.victims_are in
    rw (c.write_collects.ensures.params, lines, base_of-behind fold.params fold.lines line c.requires.ready.base) (c.requires.ready.made_is ∙ sym (making-full fold.params fold.lines line c.full_of-full.result))

pub write_own-requires-clause-bare : goal.write_own-requires-clause-bare
write_own-requires-clause-bare g c =
    let fold = c.args.fold.now in
    let line = c.args.line in
    λ none.
    let asked = c.requires.ready.victims_are ∙ none-made fold.params fold.lines line (sym c.requires.ready.made_is ∙ none) in
    rw (c.write_collects.ensures.lines, asked) (ap base_of (append-nil fold.lines) ∙ c.requires.ready.base ∙ sym (append-nil fold.lines))

pub returns-clause-lines : goal.returns-clause-lines
returns-clause-lines g c =
    let fold = c.args.fold.now in
    let line = c.args.line in
    let lines : c.write_collects.new.fold.lines ≡ fold.lines ++ collects fold.params fold.lines line =
    c.write_collects.ensures.lines ∙ ap (λ (keys : List Key). fold.lines ++ map (collect_line line.at) keys) c.requires.ready.victims_are in
    let full_is : c.full_of-full.result ≡ full_of fold.params (fold.lines ++ collects fold.params fold.lines line) line =
    rw (c.full_of-full.ensures, c.params.ensures.params, c.write_collects.ensures.params)
    (sym (full_of-known fold.params fold.lines line (length c.args.victims.now) c.requires.ready.base c.requires.ready.there (ap (λ (keys : List Key). length keys) c.requires.ready.victims_are))) in
    rw (c.write_own.ensures.lines, lines, full_is) (append_assoc fold.lines (collects fold.params fold.lines line) (full_line fold.params fold.lines line ∷ []))

pub returns-clause-reply : goal.returns-clause-reply
returns-clause-reply g c =
    let fold = c.args.fold.now in
    let line = c.args.line in
    let lines : c.write_collects.new.fold.lines ≡ fold.lines ++ collects fold.params fold.lines line =
    c.write_collects.ensures.lines ∙ ap (λ (keys : List Key). fold.lines ++ map (collect_line line.at) keys) c.requires.ready.victims_are in
    let full_is : c.full_of-full.result ≡ full_of fold.params (fold.lines ++ collects fold.params fold.lines line) line =
    rw (c.full_of-full.ensures, c.params.ensures.params, c.write_collects.ensures.params)
    (sym (full_of-known fold.params fold.lines line (length c.args.victims.now) c.requires.ready.base c.requires.ready.there (ap (λ (keys : List Key). length keys) c.requires.ready.victims_are))) in
    rw (c.write_collects.ensures.params, lines, full_is) at c.write_own.ensures.reply

pub returns-clause-counted : goal.returns-clause-counted
returns-clause-counted g c =
    let fold = c.args.fold.now in
    let line = c.args.line in
    let lines : c.write_collects.new.fold.lines ≡ fold.lines ++ collects fold.params fold.lines line =
    c.write_collects.ensures.lines ∙ ap (λ (keys : List Key). fold.lines ++ map (collect_line line.at) keys) c.requires.ready.victims_are in
    record {
      between = (shown g.C.Census.name g.C.Census.share g.C.Census.changes g.C.Census.looks g.C.Census.others c.write_collects.new.census);
      collects = subst (λ (keys : List Key). CountsCollects fold.params fold.lines (map (collect_line line.at) keys) (shown g.C.Census.name g.C.Census.share g.C.Census.changes g.C.Census.looks g.C.Census.others c.args.census.now) (shown g.C.Census.name g.C.Census.share g.C.Census.changes g.C.Census.looks g.C.Census.others c.write_collects.new.census)) c.requires.ready.victims_are c.write_collects.ensures.counted;
      line = rw (c.write_own.ensures.params, c.write_collects.ensures.params, lines) at c.write_own.ensures.counted;
    }

pub write_own-requires-clause-params : goal.write_own-requires-clause-params
write_own-requires-clause-params g c = rw c.write_collects.ensures.params c.requires.params

pub write_own-requires-clause-passed : goal.write_own-requires-clause-passed
write_own-requires-clause-passed g c = omega (arith, c.write_collects.ensures.passed, c.requires.passed)

pub write_own-requires-clause-timer : goal.write_own-requires-clause-timer
write_own-requires-clause-timer g c = omega (arith, c.write_collects.ensures.known, c.write_collects.ensures.timers, c.requires.timer)
