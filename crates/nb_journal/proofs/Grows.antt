-- The known keys only grow, and a rank never changes.
use Rattle.std.proofs.Common.{◌≡◌, Bool, true, false, List, [], ◌∷◌, ◌++◌, Option, Some, None, refl, sym, ◌∙◌, ap, arith, append_assoc, append-nil}
use Rattle.std.proofs.lemmas.Bool.{eqb-true, cond_both}
use Rattle.nb_base.specs.declared.key.Key.{Key}
use Rattle.nb_base.specs.declared.key.Key.TheVariants.{V4, V6}
use Rattle.nb_base.specs.declared.line.Line.{Line}
use Rattle.nb_journal.specs.Keys.{is_key, made_known, place_among}
pub use Rattle.nb_journal.specs.Keys.{has_key}
use Rattle.nb_journal.specs.Fold.{with_key, known_keys, rank_of}
use Rattle.nb_journal.proofs.Lines.{by_last}
use Rattle.nb_journal.proofs.Folds.{known_keys-snoc}

-- keys that are told alike are one
pub is_key-one : (a b : Key) → is_key a b ≡ true → a ≡ b
unfolding is_key
is_key-one (V4 a) (V4 b) e = ap V4 (eqb-true a b e)
is_key-one (V6 a) (V6 b) e = ap V6 (eqb-true a b e)
is_key-one (V4 a) (V6 b) e = cc
is_key-one (V6 a) (V4 b) e = cc

with_key-grows : (keys : List Key) (new : Option Key) → (more : List Key) × (with_key keys new ≡ keys ++ more)
with_key-grows keys None = ([], sym (append-nil keys))
with_key-grows keys (Some key) =
    cond_both (has_key keys key) keys (keys ++ key ∷ []) (λ (ys : List Key). (more : List Key) × (ys ≡ keys ++ more)) (λ e. ([], sym (append-nil keys))) (λ e. (key ∷ [], refl))

-- the keys that a journal knows are the first of those that a longer one knows
pub known_keys-grow : (lines more : List Line) → (keys : List Key) × (known_keys (lines ++ more) ≡ known_keys lines ++ keys)
known_keys-grow lines = by_last (λ (more : List Line). (keys : List Key) × (known_keys (lines ++ more) ≡ known_keys lines ++ keys))
    ([], ap known_keys (append-nil lines) ∙ sym (append-nil (known_keys lines)))
    (λ xs x h.
    let grown = with_key-grows (known_keys (lines ++ xs)) (made_known x.op) in (
      h.0 ++ grown.0,
      ap known_keys (sym (append_assoc lines xs (x ∷ []))) ∙ known_keys-snoc (lines ++ xs) x ∙ grown.1 ∙ ap (λ (ks : List Key). ks ++ grown.0) h.1 ∙ append_assoc (known_keys lines) h.0 grown.0,
    ))

place_among-append : (keys more : List Key) (key : Key) → has_key keys key ≡ true → place_among (keys ++ more) key ≡ place_among keys key
place_among-append [] more key e = cc
place_among-append (k ∷ ks) more key e = by_test (is_key k key) refl (λ there. place_among-append ks more key there) where
  by_test : (t : Bool) → is_key k key ≡ t → (has_key ks key ≡ true → place_among (ks ++ more) key ≡ place_among ks key) → place_among (k ∷ ks ++ more) key ≡ place_among (k ∷ ks) key
  by_test true on next = rw on refl
  by_test false off next = let there : has_key ks key ≡ true = grind arith in rw (off, next there) refl

-- a known key keeps its rank
pub rank_of-stays : (lines more : List Line) (key : Key) → has_key (known_keys lines) key ≡ true → rank_of (lines ++ more) key ≡ rank_of lines key
rank_of-stays lines more key e =
    let grown = known_keys-grow lines more in
    ap (λ (ks : List Key). place_among ks key) grown.1 ∙ place_among-append (known_keys lines) grown.0 key e
