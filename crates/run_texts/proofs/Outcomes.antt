-- What the words of outcomes tell, where the journals are known: the kind, and the numbers that were read.
use Rattle.std.proofs.Common.{◌≡◌, ℕ, ◌+◌, true, false, List, [], ◌∷◌, ◌++◌, length, map, refl, sym, ◌∙◌, ap, append_assoc, eq-eqb}
use Rattle.std.specs.Prelude.{◌==◌, codes, decimal, Some, Option, slice_get}
use Rattle.std.proofs.lemmas.Bool.{false≢true}
use Rattle.std.proofs.lemmas.List.{append_cancel_right}
use Rattle.nb_base.specs.declared.line.Line.{Line}
use Rattle.nb_base.specs.declared.line.Reply.{Reply}
use Rattle.nb_base.specs.declared.record.Record.{Record}
use Rattle.nb_base.specs.declared.outcome.Why.{Why}
use Rattle.nb_base.specs.declared.outcome.Why.TheVariants as why
use Rattle.nb_base.specs.declared.outcome.Outcome.{Outcome}
use Rattle.nb_base.specs.declared.outcome.Outcome.TheVariants as outcome
use Rattle.nb_base.specs.declared.host_line.Placed.{Placed}
use Rattle.nb_base.specs.declared.plan.Plan.{Plan}
use Rattle.nb_base.specs.declared.plan.SendItem.{SendItem}
use Rattle.nb_base.specs.Buckets.{bucket_of}
use Rattle.nb_journal.specs.Accounts.{published}
use Rattle.text_codes.specs.Lines.{Words}
use Rattle.text_codes.specs.HexText.{hex_text}
use Rattle.text_codes.specs.Codes.{IsInjective}
use Rattle.text_codes.proofs.Combining.{cons-same, code-pair, code-behind, injective-from_code}
use Rattle.text_codes.proofs.Listing.{injective-map}
use Rattle.neigh_run.specs.Merged.{id_for}
use Rattle.neigh_run.specs.Inline.{journal_at, placed_at}
use Rattle.neigh_run.specs.Spelling.{reply_words}
use Rattle.neigh_run.specs.Report.{try_word, outcome_words, log_lines, sender_lines}
use Rattle.run_texts.specs.Told.{Small, IsToldWhy, IsToldOutcome, EachOutcome, AreToldLogs}
use Rattle.run_texts.proofs.Lists.{heads}
use Rattle.run_texts.proofs.Numbers.{number-told, number-code}

-- ---- how a packet went

try-tells : IsInjective (λ (z : ℕ × ℕ). Small z.0 × Small z.1) try_word
try-tells = injective-from_code (code-pair number-code (code-behind (47 ∷ []) number-code) (λ y rest small begins. refl)) tt

-- the second letter of the first word, by which the five kinds differ
abbrev letter : Words → ℕ
letter [] = 0
letter ([] ∷ words) = 0
letter ((a ∷ []) ∷ words) = 0
letter ((a ∷ b ∷ word) ∷ words) = b

apart : (v w : Words) → (letter v == letter w) ≡ false → v ≡ w → ⊥
apart v w differ e = false≢true (sym differ ∙ eq-eqb (letter v) (letter w) (ap letter e))

-- the words before the place of a slow packet
abbrev why_words : Why → Words
why_words why.Inline = codes "inline" ∷ []
why_words why.First = codes "first" ∷ []
why_words (why.Suspect number) = codes "suspect" ∷ decimal number ∷ []
why_words (why.Again tries) = codes "again" ∷ map try_word tries

word_two : (a b c d : List ℕ) (r s : Words) → a ∷ c ∷ r ≡ b ∷ d ∷ s → c ≡ d
word_two a b c d r s e = cc

why-tells : (w v : Why) → IsToldWhy w → IsToldWhy v → why_words w ≡ why_words v → w ≡ v
why-tells why.Inline why.Inline h g e = refl
why-tells why.Inline why.First h g e = absurd (apart (why_words why.Inline) (why_words why.First) refl e)
why-tells why.Inline (why.Suspect n) h g e = absurd (apart (why_words why.Inline) (why_words (why.Suspect n)) refl e)
why-tells why.Inline (why.Again ts) h g e = absurd (apart (why_words why.Inline) (why_words (why.Again ts)) refl e)
why-tells why.First why.Inline h g e = absurd (apart (why_words why.First) (why_words why.Inline) refl e)
why-tells why.First why.First h g e = refl
why-tells why.First (why.Suspect n) h g e = absurd (apart (why_words why.First) (why_words (why.Suspect n)) refl e)
why-tells why.First (why.Again ts) h g e = absurd (apart (why_words why.First) (why_words (why.Again ts)) refl e)
why-tells (why.Suspect m) why.Inline h g e = absurd (apart (why_words (why.Suspect m)) (why_words why.Inline) refl e)
why-tells (why.Suspect m) why.First h g e = absurd (apart (why_words (why.Suspect m)) (why_words why.First) refl e)
why-tells (why.Suspect m) (why.Suspect n) h g e = ap (λ (k : ℕ). why.Suspect k) (number-told m n h (word_two (codes "suspect") (codes "suspect") (decimal m) (decimal n) [] [] e))
why-tells (why.Suspect m) (why.Again ts) h g e = absurd (apart (why_words (why.Suspect m)) (why_words (why.Again ts)) refl e)
why-tells (why.Again ss) why.Inline h g e = absurd (apart (why_words (why.Again ss)) (why_words why.Inline) refl e)
why-tells (why.Again ss) why.First h g e = absurd (apart (why_words (why.Again ss)) (why_words why.First) refl e)
why-tells (why.Again ss) (why.Suspect n) h g e = absurd (apart (why_words (why.Again ss)) (why_words (why.Suspect n)) refl e)
why-tells (why.Again ss) (why.Again ts) h g e = ap (λ (tries : List (ℕ × ℕ)). why.Again tries) ((injective-map try-tells).tells ss ts h g (heads (codes "again") (codes "again") (map try_word ss) (map try_word ts) e).1)

-- ---- an outcome

slow-words : (item : SendItem) (w : Why) (place : ℕ) (r : Reply) → outcome_words item (outcome.Slow w place r) ≡ why_words w ++ decimal place ∷ reply_words r
slow-words item why.Inline place r = refl
slow-words item why.First place r = refl
slow-words item (why.Suspect number) place r = refl
slow-words item (why.Again tries) place r = refl

slow-other : (w : Why) (words : Words) → (97 == letter (why_words w ++ words)) ≡ false
slow-other why.Inline words = refl
slow-other why.First words = refl
slow-other (why.Suspect number) words = refl
slow-other (why.Again tries) words = refl

fast-apart : (item : SendItem) (number : ℕ) (header : List ℕ) (w : Why) (place : ℕ) (r : Reply) → outcome_words item (outcome.Fast number header) ≡ outcome_words item (outcome.Slow w place r) → ⊥
fast-apart item number header w place r e =
    apart (outcome_words item (outcome.Fast number header)) (why_words w ++ decimal place ∷ reply_words r) (slow-other w (decimal place ∷ reply_words r)) (e ∙ slow-words item w place r)

same_place : (x : Placed) (b n m : ℕ) (r t : Reply) → x ≡ record { bucket = b; place = n; reply = r } → x ≡ record { bucket = b; place = m; reply = t } → (n ≡ m) × (r ≡ t)
same_place x b n m r t e f = let both = sym e ∙ f in (ap (λ (y : Placed). y.place) both, ap (λ (y : Placed). y.reply) both)

same_slow : (w v : Why) (n m : ℕ) (r t : Reply) → w ≡ v → n ≡ m → r ≡ t → outcome.Slow w n r ≡ outcome.Slow v m t
same_slow w v n m r t e f g = λ i. outcome.Slow (e i) (f i) (g i)

same_header : (x y : List ℕ) → (let a : Record = record { usable = true; header = x } in let b : Record = record { usable = true; header = y } in ◌≡◌ {A = Option Record} (Some a) (Some b)) → x ≡ y
same_header x y e = ap (λ (r : Record). r.header) (inside (record { usable = true; header = x }) (record { usable = true; header = y }) e) where
  inside : (a b : Record) → ◌≡◌ {A = Option Record} (Some a) (Some b) → a ≡ b
  inside a b e = cc

same_fast : (n m : ℕ) (x y : List ℕ) (records : List Record) → n ≡ m → slice_get records n ≡ Some (record { usable = true; header = x }) → slice_get records m ≡ Some (record { usable = true; header = y }) → outcome.Fast n x ≡ outcome.Fast m y
same_fast n m x y records e h g = let header = same_header x y (sym h ∙ ap (slice_get records) e ∙ g) in λ i. outcome.Fast (e i) (header i)

outcome-tells : (plan : Plan) (journals : List (List Line)) (p n : ℕ) (item : SendItem) (o w : Outcome) → IsToldOutcome plan journals p n item o → IsToldOutcome plan journals p n item w → outcome_words item o ≡ outcome_words item w → o ≡ w
outcome-tells plan journals p n item (outcome.Fast m1 h1) (outcome.Fast m2 h2) h g e =
    let number = number-told m1 m2 h.0 (word_two (codes "fast") (codes "fast") (decimal m1) (decimal m2) (hex_text (h1 ++ item.payload) ∷ []) (hex_text (h2 ++ item.payload) ∷ []) e) in
    same_fast m1 m2 h1 h2 (published plan.params plan.host (journal_at journals (bucket_of plan.buckets item.key)) item.key) number h.1 g.1
outcome-tells plan journals p n item (outcome.Fast m1 h1) (outcome.Slow w2 place2 reply2) h g e = absurd (fast-apart item m1 h1 w2 place2 reply2 e)
outcome-tells plan journals p n item (outcome.Slow w1 place1 reply1) (outcome.Fast m2 h2) h g e = absurd (fast-apart item m2 h2 w1 place1 reply1 (sym e))
outcome-tells plan journals p n item (outcome.Slow w1 place1 reply1) (outcome.Slow w2 place2 reply2) h g e =
    let b = bucket_of plan.buckets item.key in
    let parts = same_place (placed_at plan journals (id_for p n) b) b place1 place2 reply1 reply2 h.1 g.1 in
    let behind = sym (slow-words item w1 place1 reply1) ∙ e ∙ slow-words item w2 place2 reply2 in
    let words = append_cancel_right (why_words w1) (why_words w2) (decimal place1 ∷ reply_words reply1)
    (behind ∙ ap (λ (q : ℕ). why_words w2 ++ decimal q ∷ reply_words reply2) (sym parts.0) ∙ ap (λ (r : Reply). why_words w2 ++ decimal place1 ∷ reply_words r) (sym parts.1)) in
    same_slow w1 w2 place1 place2 reply1 reply2 (why-tells w1 w2 h.0 g.0 words) parts.0 parts.1

-- ---- logs

words_two_behind : (a b : List ℕ) (r s : Words) → a ∷ b ∷ r ≡ a ∷ b ∷ s → r ≡ s
words_two_behind a b r s e = cc

log-tells : (plan : Plan) (journals : List (List Line)) (p n : ℕ) (items : List SendItem) (log other : List Outcome) (r s : List Words) → EachOutcome (IsToldOutcome plan journals p) n items log → EachOutcome (IsToldOutcome plan journals p) n items other
    → log_lines n items log ++ r ≡ log_lines n items other ++ s → (log ≡ other) × (r ≡ s)
log-tells plan journals p n [] [] [] r s h g e = (refl, e)
log-tells plan journals p n [] [] (w ∷ other) r s h g e = absurd g
log-tells plan journals p n [] (o ∷ log) other r s h g e = absurd h
log-tells plan journals p n (item ∷ items) [] other r s h g e = absurd h
log-tells plan journals p n (item ∷ items) (o ∷ log) [] r s h g e = absurd g
log-tells plan journals p n (item ∷ items) (o ∷ log) (w ∷ other) r s h g e =
    let parts = heads (decimal n ∷ decimal item.at ∷ outcome_words item o) (decimal n ∷ decimal item.at ∷ outcome_words item w) (log_lines (n + 1) items log ++ r) (log_lines (n + 1) items other ++ s) e in
    let one = outcome-tells plan journals p n item o w h.0 g.0 (words_two_behind (decimal n) (decimal item.at) (outcome_words item o) (outcome_words item w) parts.0) in
    let rest = log-tells plan journals p (n + 1) items log other r s h.1 g.1 parts.1 in
    (cons-same one rest.0, rest.1)

pub senders-tell : (plan : Plan) (journals : List (List Line)) (k : ℕ) (senders : List (List SendItem)) (logs others : List (List Outcome)) (r s : List Words) → AreToldLogs plan journals k senders logs → AreToldLogs plan journals k senders others
    → sender_lines k senders logs ++ r ≡ sender_lines k senders others ++ s → (logs ≡ others) × (r ≡ s)
senders-tell plan journals k [] [] [] r s h g e = (refl, e)
senders-tell plan journals k [] [] (other ∷ others) r s h g e = absurd g
senders-tell plan journals k [] (log ∷ logs) others r s h g e = absurd h
senders-tell plan journals k (items ∷ senders) [] others r s h g e = absurd h
senders-tell plan journals k (items ∷ senders) (log ∷ logs) [] r s h g e = absurd g
senders-tell plan journals k (items ∷ senders) (log ∷ logs) (other ∷ others) r s h g e =
    let front = codes "sender" ∷ decimal k ∷ codes "items" ∷ decimal (length items) ∷ [] in
    let here = log_lines 1 items log in
    let there = log_lines 1 items other in
    let rest = sender_lines (k + 1) senders logs in
    let more = sender_lines (k + 1) senders others in
    let parts = heads front front ((here ++ rest) ++ r) ((there ++ more) ++ s) e in
    let both = log-tells plan journals k 1 items log other (rest ++ r) (more ++ s) h.0 g.0 (sym (append_assoc here rest r) ∙ parts.1 ∙ append_assoc there more s) in
    let behind = senders-tell plan journals (k + 1) senders logs others r s h.1 g.1 both.1 in
    (cons-same both.0 behind.0, behind.1)
