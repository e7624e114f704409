-- What a line is answered, by the states before it and by its acts.
use Rattle.std.proofs.Common.{◌≡◌, ℕ, true, false, if◌then◌else◌, List, [], ◌∷◌, ◌++◌, length, Some, None, refl, sym, ap, ◌∙◌}
use Rattle.std.specs.Prelude.{filter}
use Rattle.nb_base.specs.declared.key.Key.{Key}
use Rattle.nb_base.specs.declared.params.Params.{Params}
use Rattle.nb_base.specs.declared.op.Op.{Op}
use Rattle.nb_base.specs.declared.op.Op.TheVariants as op
use Rattle.nb_base.specs.declared.line.Line.{Line}
use Rattle.nb_base.specs.declared.line.Reply.{Reply}
use Rattle.nb_base.specs.declared.line.Reply.TheVariants.{Counted}
use Rattle.nb_journal.specs.Keys.{key_of, made_known, is_own}
use Rattle.nb_journal.specs.Fold.{Effect, Passes, Refuses, Brings, effect, state_of, acts_of, with_key, known_keys, reply_to_send, reply_after, reply_to_effect, reply_for, reply_by, reply_of, present_count, is_loose}
use Rattle.nb_journal.specs.Accounts.{acts_at}
use Rattle.nb_journal.specs.Keys.{has_key}
use Rattle.nb_journal.proofs.Folds.{known_keys-snoc}
use Rattle.nb_journal.proofs.Counts.{known_keys-distinct}
use Rattle.journal_fold.specs.Verdicts.{verdict_by, IsVerdict}
use Rattle.journal_fold.proofs.Named.{has_with, acts_one}

reply_same : (p : Params) (past : List Line) (line : Line) (key : Key) → key_of line.op ≡ Some key → reply_after line.op (acts_of p past line key) ≡ reply_after line.op (acts_at p past line)
reply_same p past line key names = by_op line.op refl names where
  by_op : (o : Op) → line.op ≡ o → key_of o ≡ Some key → reply_after o (acts_of p past line key) ≡ reply_after o (acts_at p past line)
  by_op (op.Send k len) is e =
      let made : made_known line.op ≡ Some key = ap made_known is ∙ e in
      let there = ap (λ (ks : List Key). has_key ks key) (known_keys-snoc past line ∙ ap (with_key (known_keys past)) made) ∙ has_with (known_keys past) key in
      ap reply_to_send (sym (acts_one p past line key (known_keys (past ++ line ∷ [])) names (known_keys-distinct (past ++ line ∷ [])) there))
  by_op _ is e = refl

pub named_reply : (p : Params) (past : List Line) (line : Line) (key : Key) → is_own line.op ≡ true → key_of line.op ≡ Some key → reply_of p past line ≡ reply_for p past line key line.full
unfolding reply_of
named_reply p past line key own names = by_op line.op own names where
  by_key : (k : Key) → Some k ≡ Some key → reply_for p past line k line.full ≡ reply_for p past line key line.full
  by_key k e = let same : k ≡ key = cc in ap (λ (x : Key). reply_for p past line x line.full) same

  by_op : (o : Op) → is_own o ≡ true → key_of o ≡ Some key → (if is_own o then reply_by p past line o (key_of o) else None) ≡ reply_for p past line key line.full
  by_op (op.Send k len) mine e = by_key k e
  by_op (op.Arp k mac make solicited) mine e = by_key k e
  by_op (op.Ns k mac) mine e = by_key k e
  by_op (op.Na k mac router solicited overrides) mine e = by_key k e
  by_op (op.Add k mac nud) mine e = by_key k e
  by_op (op.Change k mac nud) mine e = by_key k e
  by_op (op.Replace k mac nud) mine e = by_key k e
  by_op (op.Del k) mine e = by_key k e
  by_op (op.Confirm k) mine e = by_key k e
  by_op op.Show mine e = cc
  by_op op.Flush mine e = cc
  by_op (op.Timer k) mine e = cc
  by_op op.Sweep mine e = cc
  by_op (op.Collect k) mine e = cc

pub full_verdict : (p : Params) (past : List Line) (line : Line) (key : Key) (seen : ℕ) → is_own line.op ≡ true → key_of line.op ≡ Some key → line.full ≡ Some seen → reply_of p past line ≡ reply_for p past line key (Some seen)
full_verdict p past line key seen own names full = named_reply p past line key own names ∙ ap (reply_for p past line key) full

pub effect_verdict : (p : Params) (past : List Line) (line : Line) (key : Key) → is_own line.op ≡ true → key_of line.op ≡ Some key → line.full ≡ None → IsVerdict p past line (verdict_by (effect p line (state_of p past key) line.op))
effect_verdict p past line key own names full = by_effect (effect p line (state_of p past key) line.op) (named_reply p past line key own names ∙ ap (reply_for p past line key) full) where
  by_effect : (x : Effect) → reply_of p past line ≡ reply_to_effect line.op (acts_of p past line key) x → IsVerdict p past line (verdict_by x)
  by_effect Passes h = h
  by_effect (Refuses r) h = h
  by_effect (Brings e) h = h ∙ ap (λ (r : Reply). Some r) (reply_same p past line key names)

-- ---- lines that name no key

pub reply_other : (p : Params) (past : List Line) (line : Line) → is_own line.op ≡ false → reply_of p past line ≡ None
unfolding reply_of
reply_other p past line h = rw h refl

pub reply_show : (p : Params) (past : List Line) (line : Line) → line.op ≡ op.Show → reply_of p past line ≡ Some (Counted (present_count p past))
unfolding reply_of
reply_show p past line h = rw h refl

pub reply_flush : (p : Params) (past : List Line) (line : Line) → line.op ≡ op.Flush → reply_of p past line ≡ Some (Counted (length (filter (λ (key : Key). is_loose (state_of p past key)) (known_keys past))))
unfolding reply_of
reply_flush p past line h = rw h refl
