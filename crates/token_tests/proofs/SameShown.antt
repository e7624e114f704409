-- The tokens of both forms show the same behind the same calls and answers.
use Rattle.std.proofs.Common.{◌≡◌, ℕ, ◌-◌, ◌*◌, Bool, true, false, if◌then◌else◌, List, [], ◌∷◌, ◌++◌, length, map, Option, Some, None, refl, sym, ap, ◌∙◌, subst}
use Rattle.std.specs.Option.{unwrap_or}
use Rattle.std.specs.List.{All, filter}
use Rattle.std.proofs.lemmas.List.{map-append}
use Rattle.std.proofs.lemmas.List.Elements.{All-head, All-tail, filter-append}
use Rattle.nb_base.specs.declared.record.Record.{Record}
use Rattle.hh_core.specs.Step.{is_good}
use Rattle.hh_cell.specs.declared.cell.Obtained.{Obtained}
use Rattle.hh_cell.specs.declared.cell.Obtained.TheVariants.{Fresh, Suspect, Again}
use Rattle.hh_cell.specs.Shown.{Seen, nothing_seen, PassShown, WriterShown, IsFailed, Reads}
use Rattle.hh_cell.specs.Obtaining.{Obtains}
use Rattle.seq_cell.specs.Obtaining.{ObtainsAtOnce}
use Rattle.token_tests.specs.SameShown.{numbered, SawTheSame, ReadTheSame, LodgedTheSame, PublishedTheSame}

-- failed tries are no good ones
none_good : (floor : ℕ) (made : List (ℕ × ℕ)) → All (IsFailed floor) made → filter is_good made ≡ []
none_good floor [] h = refl
none_good floor (t ∷ ts) h =
    let F : Bool → Type 0 = λ b. (if b then t ∷ filter is_good ts else filter is_good ts) ≡ [] in
    subst F (sym (All-head (IsFailed floor) t ts h).bad) (none_good floor ts (All-tail (IsFailed floor) t ts h))

-- the good tries of a pass behind one more
good_more : (old new : PassShown) (failed : List (ℕ × ℕ)) (n : ℕ) (r : Record) → Reads old new failed n r → filter is_good new.seen.tries ≡ filter is_good old.seen.tries ++ filter is_good ((2 * n, 2 * n) ∷ [])
good_more old new failed n r h =
    ap (filter is_good) h.tries
    ∙ (filter-append is_good old.seen.tries (failed ++ (2 * n, 2 * n) ∷ [])
    ∙ ap (λ (ts : List (ℕ × ℕ)). filter is_good old.seen.tries ++ ts) (filter-append is_good failed ((2 * n, 2 * n) ∷ []) ∙ ap (λ (ts : List (ℕ × ℕ)). ts ++ filter is_good ((2 * n, 2 * n) ∷ [])) (none_good old.floor failed h.each)))

-- the known records of a pass behind one more
known_more : (old new : PassShown) (failed : List (ℕ × ℕ)) (n : ℕ) (r : Record) → Reads old new failed n r → map numbered new.seen.known ≡ map numbered old.seen.known ++ numbered (n, r) ∷ []
known_more old new failed n r h = ap (map numbered) h.known ∙ map-append numbered old.seen.known ((n, r) ∷ [])

same_read : (p p' q q' : PassShown) (failed : List (ℕ × ℕ)) (n : ℕ) (r s : Record) → numbered (n, r) ≡ numbered (n, s) → Reads p p' [] n r → Reads q q' failed n s → ReadTheSame p q → ReadTheSame p' q'
same_read p p' q q' failed n r s told a b same = record {
  floor = a.floor ∙ sym b.floor;
  seen = record {
    known = known_more p p' [] n r a ∙ (ap (λ (x : List (ℕ × Option (List ℕ)) × (ℕ × Option (List ℕ))). x.0 ++ x.1 ∷ []) (λ i. (same.seen.known i, told i)) ∙ sym (known_more q q' failed n s b));
    tries = good_more p p' [] n r a ∙ (ap (λ (ts : List (ℕ × ℕ)). ts ++ filter is_good ((2 * n, 2 * n) ∷ [])) same.seen.tries ∙ sym (good_more q q' failed n s b));
  };
}

-- behind the same answer
pub same_answer : (p p' q q' : PassShown) (o : Obtained) → ObtainsAtOnce p p' o → Obtains q q' o → ReadTheSame p q → ReadTheSame p' q'
same_answer p p' q q' (Fresh n header) a b same = same_read p p' q q' b.0 n (record { usable = true; header = header }) (record { usable = true; header = header }) refl a b.1 same
same_answer p p' q q' (Suspect n) a b same = same_read p p' q q' b.0 n (record { usable = false; header = a.0 }) (record { usable = false; header = b.1 }) refl a.1 b.2 same
same_answer p p' q q' (Again tries) a b same = absurd a

-- a pass stays its cell's
pub plain_cell : (p p' : PassShown) (o : Obtained) → ObtainsAtOnce p p' o → p'.cell ≡ p.cell
plain_cell p p' (Fresh n header) a = a.cell
plain_cell p p' (Suspect n) a = a.1.cell
plain_cell p p' (Again tries) a = absurd a

pub running_cell : (q q' : PassShown) (o : Obtained) → Obtains q q' o → q'.cell ≡ q.cell
running_cell q q' (Fresh n header) b = b.1.cell
running_cell q q' (Suspect n) b = b.2.cell
running_cell q q' (Again tries) b = b.1.cell

-- behind one more publication
pub same_published : (v w v' w' : WriterShown) (next : Record) → v' ≡ record v { published = v.published ++ next ∷ [] } → w' ≡ record w { published = w.published ++ next ∷ [] } → PublishedTheSame v w → PublishedTheSame v' w'
same_published v w v' w' next a b same =
    let F : WriterShown × WriterShown → Type 0 = λ x. PublishedTheSame x.0 x.1 in
    subst F (λ i. (sym a i, sym b i)) (record { published = ap (λ (xs : List Record). xs ++ next ∷ []) same.published; lodged = same.lodged })

-- behind a pass that was handed out, and of that pass
pub same_kept : (v w v' w' : WriterShown) → v' ≡ record v { lodged = None } → w' ≡ record w { lodged = None } → PublishedTheSame v w → PublishedTheSame v' w'
same_kept v w v' w' a b same =
    let F : WriterShown × WriterShown → Type 0 = λ x. PublishedTheSame x.0 x.1 in
    subst F (λ i. (sym a i, sym b i)) (record { published = same.published; lodged = tt })

handed_same : (o o' : Option Seen) → LodgedTheSame o o' → SawTheSame (unwrap_or o nothing_seen) (unwrap_or o' nothing_seen)
handed_same None None h = record { known = refl; tries = refl }
handed_same (Some s) (Some t) h = h
handed_same None (Some t) h = absurd h
handed_same (Some s) None h = absurd h

pub same_handed : (v w : WriterShown) (p q : PassShown) → p.floor ≡ length v.published - 1 → p.seen ≡ unwrap_or v.lodged nothing_seen → q.floor ≡ length w.published - 1 → q.seen ≡ unwrap_or w.lodged nothing_seen → PublishedTheSame v w → ReadTheSame p q
same_handed v w p q a s b t same =
    let F : Seen × Seen → Type 0 = λ x. SawTheSame x.0 x.1 in
    record { floor = a ∙ (ap (λ (xs : List Record). length xs - 1) same.published ∙ sym b); seen = subst F (λ i. (sym s i, sym t i)) (handed_same v.lodged w.lodged same.lodged) }

-- behind a pass that was given up
pub same_lodged : (v w v' w' : WriterShown) (p q : PassShown) → v' ≡ record v { lodged = Some p.seen } → w' ≡ record w { lodged = Some q.seen } → ReadTheSame p q → PublishedTheSame v w → PublishedTheSame v' w'
same_lodged v w v' w' p q a b read same =
    let F : WriterShown × WriterShown → Type 0 = λ x. PublishedTheSame x.0 x.1 in
    subst F (λ i. (sym a i, sym b i)) (record { published = same.published; lodged = read.seen })
