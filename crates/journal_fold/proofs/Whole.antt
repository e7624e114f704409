-- What holds of a whole fold, from its parts.
use Rattle.std.proofs.Common.{◌≡◌, ℕ, List, [], ◌∷◌, ◌++◌, map, slice_get, get_or, Some, None, IfSome, refl, sym, ap, subst, ◌∙◌}
use Rattle.nb_base.specs.declared.key.Key.{Key}
use Rattle.nb_base.specs.declared.params.Params.{Params}
use Rattle.nb_base.specs.declared.op.Op.{Op}
use Rattle.nb_base.specs.declared.op.Op.TheVariants as op
use Rattle.nb_base.specs.declared.line.Line.{Line}
use Rattle.nb_base.specs.Params.{InRange}
use Rattle.nb_journal.specs.declared.kept.Kept.{Kept}
use Rattle.nb_journal.specs.Keys.{key_of, made_known}
use Rattle.nb_journal.specs.Fold.{state_of, with_key, known_keys, present_count}
use Rattle.nb_journal.specs.Steps.{state_in}
use Rattle.nb_journal.proofs.Folds.{known_keys-nil, known_keys-snoc, present_count-is}
use Rattle.journal_fold.specs.declared.fold.Fold.TheInside.{Inside}
use Rattle.journal_fold.specs.Keeps.{IsFold}
use Rattle.journal_fold.specs.Kept.{AreKept, IsReady, number_present}
use Rattle.journal_fold.proofs.Places.{stood}
use Rattle.journal_fold.proofs.Named.{state_at}
use Rattle.journal_fold.proofs.Counted.{number_is}

pub are_kept : (f : Inside) → IsFold f → AreKept f.params f.lines.items (known_keys f.lines.items) f.kept.items
are_kept f h = record { states = h.states; each = h.kept }

pub counts : (f : Inside) → IsFold f → f.present ≡ number_present f.kept.items
counts f h = h.present ∙ sym (number_is f.params f.lines.items f.kept.items (are_kept f h))

-- the parts of a fold make a whole one
pub whole : (f : Inside) (lines : List Line) → f.lines.items ≡ lines → InRange f.params → IsReady f.params f.blank → IfSome f.next (IsReady f.params) → f.keys.keys ≡ known_keys lines
    → AreKept f.params lines f.keys.keys f.kept.items → f.present ≡ number_present f.kept.items → IsFold f
whole f lines are params blank next keys kept present = record {
  params = params;
  keys = keys ∙ ap known_keys (sym are);
  states = rw are (kept.states ∙ ap (map (state_of f.params lines)) keys);
  kept = kept.each;
  present = present ∙ number_is f.params lines f.kept.items (subst (λ (named : List Key). AreKept f.params lines named f.kept.items) keys kept) ∙ ap (present_count f.params) (sym are);
  blank = blank;
  next = next;
}

-- and it is one over no lines
pub none_present : (p : Params) → present_count p [] ≡ 0
none_present p = present_count-is p [] ∙ rw known_keys-nil refl

-- the entry at a key's rank
pub found : (f : Inside) (rank : ℕ) (key : Key) (one : Kept) → IsFold f → slice_get f.keys.keys rank ≡ Some key → one ≡ get_or f.kept.items rank one → (slice_get f.kept.items rank ≡ Some one) × (state_in one ≡ state_of f.params f.lines.items key)
found f rank key one h at is =
    stood f.kept.items rank one (state_of f.params f.lines.items key) is
    (state_at f.params f.lines.items (known_keys f.lines.items) f.kept.items rank key (ap (λ (keys : List Key). slice_get keys rank) (sym h.keys) ∙ at) (are_kept f h))

unnamed_new : (o : Op) → key_of o ≡ None → made_known o ≡ None
unnamed_new (op.Send key len) e = cc
unnamed_new (op.Arp key mac make solicited) e = cc
unnamed_new (op.Ns key mac) e = cc
unnamed_new (op.Na key mac router solicited overrides) e = cc
unnamed_new (op.Add key mac nud) e = cc
unnamed_new (op.Change key mac nud) e = cc
unnamed_new (op.Replace key mac nud) e = cc
unnamed_new (op.Del key) e = cc
unnamed_new (op.Confirm key) e = cc
unnamed_new (op.Timer key) e = cc
unnamed_new (op.Collect key) e = cc
unnamed_new op.Show e = refl
unnamed_new op.Flush e = refl
unnamed_new op.Sweep e = refl

-- a line that names no key makes none known
pub same_keys : (lines : List Line) (line : Line) → key_of line.op ≡ None → known_keys (lines ++ line ∷ []) ≡ known_keys lines
same_keys lines line e = known_keys-snoc lines line ∙ ap (with_key (known_keys lines)) (unnamed_new line.op e)
