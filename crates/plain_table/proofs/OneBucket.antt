-- What a call of one bucket is for the table: its census told what the others hold, and the bucket comes in the place of the one that it was.
use Rattle.std.proofs.Common.{◌≡◌, ℕ, ◌+◌, ◌-◌, ◌<◌, List, [], ◌∷◌, ◌++◌, length, set, get_or, Option, Some, ◌∙◌, ap, subst, arith}
use Rattle.std.specs.Prelude.{IfSome}
use Rattle.std.proofs.lemmas.List.{get_or_default}
use Rattle.nb_base.specs.declared.time.OpId.{OpId}
use Rattle.nb_base.specs.declared.line.Line.{Line}
use Rattle.nb_base.specs.declared.line.Reply.{Reply}
use Rattle.nb_journal.specs.Fold.{id_of, present_count}
use Rattle.nb_journal.specs.Lawful.{each_line}
use Rattle.nb_journal.specs.Laws.{Saw}
use Rattle.nb_bucket.specs.Bucket.{Journal, Enters}
use Rattle.nb_bucket.specs.Counting.{CensusShown, CountsAlong}
use Rattle.neigh_run.specs.Inline.{entered_line}
use Rattle.plain_table.specs.declared.answer.Answer.{Answer}
use Rattle.plain_table.specs.Calls.{call_to}
use Rattle.plain_table.specs.Table.{present_in, present_in_all, no_journal, bucket_at}
use Rattle.plain_table.specs.Entering.{IsTask}
use Rattle.plain_table.specs.Calling.{HasRoom, EntersAmong, CallsOne}
use Rattle.plain_table.proofs.Shares.{part_of_all}

pub enters_among : (others : ℕ) (line : Line) (old new : Journal) (id : OpId) (place : ℕ) (r : Reply) (census counted : CensusShown) → id ≡ id_of line → Enters old new line.at id line.op place r
    → CountsAlong old.params old.lines new.lines census counted → census.others ≡ Some others → EntersAmong others (entered_line line) old new place r
enters_among others line old new id place r census counted same e along told = record {
  entered = subst (λ (i : OpId). Enters old new line.at i line.op place r) same e;
  more = along.more;
  grown = along.grown;
  saw = subst (λ (o : Option ℕ). IfSome o (λ n. each_line (Saw (λ lines. present_count old.params lines + n)) old.lines along.more)) told along.told;
}

-- the bucket that was found at a place
found_at : (table : List Journal) (b : ℕ) (found : Journal) → b < length table → found ≡ get_or table b found → found ≡ bucket_at table b
found_at table b found lt is = is ∙ get_or_default table b found no_journal lt

pub calls_found : (items table : List Journal) (b all : ℕ) (line : Line) (found new : Journal) (id : OpId) (place : ℕ) (r : Reply) (answers more : List Answer) → items ≡ table → b < length table → found ≡ get_or items b found → all ≡ present_in_all items
    → IsTask line → HasRoom line (bucket_at table b) → EntersAmong (all - present_in found) (entered_line line) found new place r
    → id ≡ id_of line → more ≡ answers ++ record { id = id; at = line.at; placed = record { bucket = b; place = place; reply = r } } ∷ []
    → CallsOne (call_to (entered_line line) b) table (set items b new) answers more
calls_found items table b all line found new id place r answers more is lt found_is all_is task room e same told = record {
  within = lt;
  own = task.own;
  later = room.later;
  journal = new;
  new_is = ap (λ (t : List Journal). set t b new) is;
  others = all - present_in found;
  sum =
      let part = part_of_all table b lt in
      let here_count = ap present_in here in
      let all_count = all_is ∙ ap present_in_all is in
      omega (arith, part, here_count, all_count);
  place = place;
  reply = r;
  entered = subst (λ (j : Journal). EntersAmong (all - present_in found) (entered_line line) j new place r) here e;
  answered = told ∙ ap (λ (i : OpId). answers ++ (let made : Answer = record { id = i; at = line.at; placed = record { bucket = b; place = place; reply = r } } in made) ∷ []) same;
} where
  here : found ≡ bucket_at table b
  here = found_at table b found lt (subst (λ (t : List Journal). found ≡ get_or t b found) is found_is)
