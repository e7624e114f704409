-- The entries of known keys, one more after the other.
use Rattle.std.proofs.Common.{◌≡◌, ℕ, ◌+◌, ◌<◌, ◌≤◌, zero, suc, List, [], ◌∷◌, ◌++◌, length, get_or, take, refl, sym, ap, ◌∙◌, append-nil, append_assoc, arith}
use Rattle.std.specs.Prelude.{map}
use Rattle.std.specs.List.{flat_map}
use Rattle.std.proofs.lemmas.List.{map-append, length-map, take_all}
use Rattle.std.proofs.lemmas.Grind.{flat_map-append}
use Rattle.nb_base.specs.declared.key.Key.{Key}
use Rattle.nb_base.specs.declared.host.Host.{Host}
use Rattle.nb_base.specs.declared.params.Params.{Params}
use Rattle.nb_base.specs.declared.line.Line.{Line}
use Rattle.nud_machine.specs.State.{State}
use Rattle.nb_journal.specs.declared.kept.Kept.{Kept}
use Rattle.nb_journal.specs.Fold.{state_of, known_keys}
use Rattle.nb_journal.specs.Steps.{state_in}
use Rattle.text_codes.specs.Lines.{Words, line_text, text_of}
use Rattle.neigh_run.specs.Entries.{entry_if_present, entries_after}
use Rattle.neigh_report.specs.Left.{rows, listed}

rows_none : (host : Host) (keys : List Key) → rows host keys [] ≡ []
rows_none host [] = refl
rows_none host (k ∷ ks) = refl

-- those of the first keys, and of one more
rows_suc : (host : Host) (keys : List Key) (kept : List Kept) (i : ℕ) (key : Key) (one : Kept) → length kept ≡ length keys → i < length keys → key ≡ get_or keys i key → one ≡ get_or kept i one
    → rows host (take (suc i) keys) (map state_in (take (suc i) kept)) ≡ rows host (take i keys) (map state_in (take i kept)) ++ entry_if_present host key one.entry
rows_suc host [] kept i key one size lt there here = absurd (omega (arith, lt))
rows_suc host (k ∷ ks) [] i key one size lt there here = absurd (omega (arith, size))
rows_suc host (k ∷ ks) (x ∷ xs) zero key one size lt there here =
    ap (λ (rest : List Words). entry_if_present host k x.entry ++ rest) refl ∙ append-nil (entry_if_present host k x.entry)
    ∙ ap (λ (z : Key). entry_if_present host z x.entry) (sym there) ∙ ap (λ (z : Kept). entry_if_present host key z.entry) (sym here)
rows_suc host (k ∷ ks) (x ∷ xs) (suc i) key one size lt there here =
    ap (λ (rest : List Words). entry_if_present host k x.entry ++ rest) (rows_suc host ks xs i key one (omega (arith, size)) (omega (arith, lt)) there here)
    ∙ sym (append_assoc (entry_if_present host k x.entry) (rows host (take i ks) (map state_in (take i xs))) (entry_if_present host key one.entry))

rows_more : (host : Host) (keys : List Key) (kept : List Kept) (i : ℕ) (key : Key) (one : Kept) → length kept ≡ length keys → i < length keys → key ≡ get_or keys i key → one ≡ get_or kept i one
    → rows host (take (i + 1) keys) (map state_in (take (i + 1) kept)) ≡ rows host (take i keys) (map state_in (take i kept)) ++ entry_if_present host key one.entry
rows_more host keys kept i key one size lt there here =
    let next : i + 1 ≡ suc i = omega arith in
    ap (λ (n : ℕ). rows host (take n keys) (map state_in (take n kept))) next ∙ rows_suc host keys kept i key one size lt there here

pub entries_more : (host : Host) (keys : List Key) (kept : List Kept) (i : ℕ) (key : Key) (one : Kept) (report written more : List ℕ)
    → length kept ≡ length keys → i < length keys → key ≡ get_or keys i key → one ≡ get_or kept i one
    → written ≡ report ++ text_of (rows host (take i keys) (map state_in (take i kept)))
    → more ≡ written ++ text_of (entry_if_present host key one.entry)
    → more ≡ report ++ text_of (rows host (take (i + 1) keys) (map state_in (take (i + 1) kept)))
entries_more host keys kept i key one report written more size lt there here e new =
    let old = rows host (take i keys) (map state_in (take i kept)) in
    new ∙ ap (λ (bytes : List ℕ). bytes ++ text_of (entry_if_present host key one.entry)) e
    ∙ append_assoc report (text_of old) (text_of (entry_if_present host key one.entry))
    ∙ ap (λ (bytes : List ℕ). report ++ bytes) (sym (flat_map-append line_text old (entry_if_present host key one.entry)) ∙ ap text_of (sym (rows_more host keys kept i key one size lt there here)))

-- the same as a look lists them
pub listing_more : (host : Host) (keys : List Key) (kept : List Kept) (i : ℕ) (key : Key) (one : Kept) (report written more : List ℕ)
    → length kept ≡ length keys → i < length keys → key ≡ get_or keys i key → one ≡ get_or kept i one
    → written ≡ report ++ text_of (map listed (rows host (take i keys) (map state_in (take i kept))))
    → more ≡ written ++ text_of (map listed (entry_if_present host key one.entry))
    → more ≡ report ++ text_of (map listed (rows host (take (i + 1) keys) (map state_in (take (i + 1) kept))))
listing_more host keys kept i key one report written more size lt there here e new =
    let old = rows host (take i keys) (map state_in (take i kept)) in
    let last = entry_if_present host key one.entry in
    new ∙ ap (λ (bytes : List ℕ). bytes ++ text_of (map listed last)) e
    ∙ append_assoc report (text_of (map listed old)) (text_of (map listed last))
    ∙ ap (λ (bytes : List ℕ). report ++ bytes)
    (sym (flat_map-append line_text (map listed old) (map listed last)) ∙ ap text_of (sym (map-append listed old last)) ∙ ap (λ (all : List Words). text_of (map listed all)) (sym (rows_more host keys kept i key one size lt there here)))

-- all of them
pub rows_all : (host : Host) (keys : List Key) (kept : List Kept) (i : ℕ) → length kept ≡ length keys → length keys ≤ i → rows host (take i keys) (map state_in (take i kept)) ≡ rows host keys (map state_in kept)
rows_all host keys kept i size end = ap (λ (x : List Key × List Kept). rows host x.0 (map state_in x.1)) (λ j. (take_all i keys end j, take_all i kept (omega (arith, size, end)) j))

-- the rows of known keys are those of the entries behind the journal
pub rows_are : (host : Host) (f : Key → State) (keys : List Key) → rows host keys (map f keys) ≡ flat_map (λ (k : Key). entry_if_present host k (f k).entry) keys
rows_are host f [] = refl
rows_are host f (k ∷ ks) = ap (λ (rest : List Words). entry_if_present host k (f k).entry ++ rest) (rows_are host f ks)

-- what is shown of a fold
pub rows_after : (host : Host) (p : Params) (lines : List Line) (keys : List Key) (kept : List Kept) → keys ≡ known_keys lines → map state_in kept ≡ map (state_of p lines) (known_keys lines) → rows host keys (map state_in kept) ≡ entries_after host p lines
rows_after host p lines keys kept same states = ap (λ (ks : List Key). rows host ks (map state_in kept)) same ∙ ap (rows host (known_keys lines)) states ∙ rows_are host (state_of p lines) (known_keys lines)

pub same_size : (p : Params) (lines : List Line) (keys : List Key) (kept : List Kept) → keys ≡ known_keys lines → map state_in kept ≡ map (state_of p lines) (known_keys lines) → length kept ≡ length keys
same_size p lines keys kept same states =
    sym (length-map kept state_in) ∙ ap (λ (ss : List State). length ss) states ∙ length-map (known_keys lines) (state_of p lines) ∙ ap (λ (ks : List Key). length ks) (sym same)

-- an element that is there is the same at every default
pub at_self : (keys : List Key) (i : ℕ) (d : Key) → i < length keys → get_or keys i d ≡ get_or keys i (get_or keys i d)
at_self [] i d lt = absurd (omega (arith, lt))
at_self (k ∷ ks) zero d lt = refl
at_self (k ∷ ks) (suc i) d lt = at_self ks i d (omega (arith, lt))
