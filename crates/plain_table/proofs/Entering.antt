-- One operation more is entered into a bucket: its journal, and its answers.
use Rattle.std.proofs.Common.{◌≡◌, ℕ, ◌≤◌, Bool, true, false, if◌then◌else◌, max, List, [], ◌∷◌, ◌++◌, length, map, Option, Some, unwrap_or, refl, sym, ◌∙◌, ap, subst, arith, append_assoc, append-nil}
use Rattle.std.specs.List.{list_all}
use Rattle.std.proofs.lemmas.Bool.{and_parts}
use Rattle.std.proofs.lemmas.List.{length-append, map-append}
use Rattle.std.proofs.lemmas.List.Elements.{filter-append}
use Rattle.nb_base.specs.declared.key.Key.{Key}
use Rattle.nb_base.specs.declared.time.OpId.{OpId}
use Rattle.nb_base.specs.declared.op.Op.{Op}
use Rattle.nb_base.specs.declared.op.Op.TheVariants as op
use Rattle.nb_base.specs.declared.line.Line.{Line}
use Rattle.nb_base.specs.declared.line.Reply.{Reply}
use Rattle.nb_base.specs.declared.line.Reply.TheVariants as reply
use Rattle.nb_base.specs.declared.params.Params.{Params}
use Rattle.nb_journal.specs.Keys.{is_own}
use Rattle.nb_journal.specs.Fold.{reply_of}
use Rattle.nb_journal.specs.Lawful.{last_moment, IsLawful, collects, collect_line}
use Rattle.nb_journal.specs.Accounts.{own_lines}
use Rattle.nb_journal.proofs.Lines.{last_moment-snoc}
use Rattle.nb_journal.proofs.Passes.{collects_keys}
use Rattle.nb_bucket.specs.Bucket.{Journal, is_by_time, operation_line, full_line, Enters}
use Rattle.neigh_run.specs.Merged.{Entered}
use Rattle.neigh_run.specs.Inline.{entered_line, ends_own}
use Rattle.plain_table.specs.declared.answer.Answer.{Answer}
use Rattle.plain_table.specs.Table.{answer_to, answers_behind}
use Rattle.plain_table.specs.Calling.{answer_from}

-- ---- lines that are no operations

pub own-append : (xs ys : List Line) → own_lines (xs ++ ys) ≡ own_lines xs ++ own_lines ys
own-append xs ys = filter-append (λ (line : Line). is_own line.op) xs ys

by_time-bare : (o : Op) → is_by_time o ≡ true → is_own o ≡ false
by_time-bare (op.Timer key) h = refl
by_time-bare op.Sweep h = refl
by_time-bare _ h = cc

pub own_by_time : (more : List Line) → list_all (λ (line : Line). is_by_time line.op) more ≡ true → own_lines more ≡ []
own_by_time [] h = refl
own_by_time (l ∷ ls) h =
    let parts = and_parts (is_by_time l.op) (list_all (λ (line : Line). is_by_time line.op) ls) h in
    rw (by_time-bare l.op parts.0) (own_by_time ls parts.1)

own_collects : (at : ℕ) (keys : List Key) → own_lines (map (collect_line at) keys) ≡ []
own_collects at [] = refl
own_collects at (key ∷ keys) = own_collects at keys

pub own_pass : (p : Params) (lines : List Line) (w : Line) → own_lines (collects p lines w) ≡ []
own_pass p lines w = let keys = collects_keys p lines w in ap own_lines keys.1 ∙ own_collects w.at keys.0

ends-snoc : (lines : List Line) (l : Line) → is_own l.op ≡ true → ends_own (lines ++ l ∷ []) ≡ true
ends-snoc [] l own = own
ends-snoc (x ∷ []) l own = own
ends-snoc (x ∷ y ∷ ys) l own = ends-snoc (y ∷ ys) l own

-- ---- answers

answers-append : (p : Params) (b : ℕ) (past xs ys : List Line) → answers_behind p b past (xs ++ ys) ≡ answers_behind p b past xs ++ answers_behind p b (past ++ xs) ys
answers-append p b past [] ys = ap (λ (zs : List Line). answers_behind p b zs ys) (sym (append-nil past))
answers-append p b past (x ∷ xs) ys =
    let own = (if is_own x.op then answer_to p b past x ∷ [] else []) in
    ap (λ (rest : List Answer). own ++ rest) (
    answers-append p b (past ++ x ∷ []) xs ys
    ∙ ap (λ (zs : List Line). answers_behind p b (past ++ x ∷ []) xs ++ answers_behind p b zs ys) (append_assoc past (x ∷ []) xs)
    )
    ∙ sym (append_assoc own (answers_behind p b (past ++ x ∷ []) xs) (answers_behind p b (past ++ x ∷ xs) ys))

no_line : (l : Line) (ls : List Line) → l ∷ ls ≡ [] → ⊥
no_line l ls e = cc

-- lines that are no operations have no answers
answers_none : (p : Params) (b : ℕ) (past xs : List Line) → own_lines xs ≡ [] → answers_behind p b past xs ≡ []
answers_none p b past [] none = refl
answers_none p b past (x ∷ xs) none = by_test (is_own x.op) none (λ rest. answers_none p b (past ++ x ∷ []) xs rest) where
  by_test : (t : Bool) → (if t then x ∷ own_lines xs else own_lines xs) ≡ [] → (own_lines xs ≡ [] → answers_behind p b (past ++ x ∷ []) xs ≡ [])
      → (if t then answer_to p b past x ∷ [] else []) ++ answers_behind p b (past ++ x ∷ []) xs ≡ []
  by_test true e rest = absurd (no_line x (own_lines xs) e)
  by_test false e rest = rest e

answers_own : (p : Params) (b : ℕ) (past : List Line) (w : Line) → is_own w.op ≡ true → answers_behind p b past (w ∷ []) ≡ answer_to p b past w ∷ []
answers_own p b past w own = rw own refl

-- ---- one operation more

-- behind a journal, the lines of its own on the way, and those that the operation brings
record Brings (more before : List Line) (w : Line) : Type 0 where
  own_more : own_lines more ≡ []
  own_before : own_lines before ≡ []
  own : is_own w.op ≡ true

abbrev whole : List Line → List Line → List Line → Line → List Line
whole journal more before w = (journal ++ more) ++ (before ++ w ∷ [])

own_whole : (journal more before : List Line) (w : Line) → Brings more before w → own_lines (whole journal more before w) ≡ own_lines journal ++ w ∷ []
own_whole journal more before w b =
    own-append (journal ++ more) (before ++ w ∷ [])
    ∙ ap (λ (xs : List Line). xs ++ own_lines (before ++ w ∷ [])) (own-append journal more ∙ ap (λ (xs : List Line). own_lines journal ++ xs) b.own_more ∙ append-nil (own_lines journal))
    ∙ ap (λ (xs : List Line). own_lines journal ++ xs) (own-append before (w ∷ []) ∙ ap (λ (xs : List Line). xs ++ own_lines (w ∷ [])) b.own_before ∙ rw b.own refl)

answers_whole : (p : Params) (n : ℕ) (journal more before : List Line) (w : Line) → Brings more before w
    → answers_behind p n [] (whole journal more before w) ≡ answers_behind p n [] journal ++ answer_to p n ((journal ++ more) ++ before) w ∷ []
answers_whole p n journal more before w b =
    answers-append p n [] (journal ++ more) (before ++ w ∷ [])
    ∙ ap (λ (zs : List Answer). zs ++ answers_behind p n (journal ++ more) (before ++ w ∷ []))
    (answers-append p n [] journal more ∙ ap (λ (zs : List Answer). answers_behind p n [] journal ++ zs) (answers_none p n journal more b.own_more) ∙ append-nil (answers_behind p n [] journal))
    ∙ ap (λ (zs : List Answer). answers_behind p n [] journal ++ zs)
    (answers-append p n (journal ++ more) before (w ∷ []) ∙ ap (λ (zs : List Answer). zs ++ answers_behind p n ((journal ++ more) ++ before) (w ∷ [])) (answers_none p n (journal ++ more) before b.own_before)
    ∙ answers_own p n ((journal ++ more) ++ before) w b.own)

answer_is : (p : Params) (b : ℕ) (past : List Line) (w : Line) (x : Entered) (place : ℕ) (r : Reply) → w.id ≡ Some x.id → w.at ≡ x.at → place ≡ length past → reply_of p past w ≡ Some r
    → answer_to p b past w ≡ answer_from b x place r
answer_is p b past w x place r ei ea ep er =
    ap (λ (i : Option OpId). (let made : Answer = record { id = unwrap_or i (record { 0 = 0 }); at = w.at; placed = record { bucket = b; place = length past; reply = unwrap_or (reply_of p past w) reply.Ignored } } in made)) ei
    ∙ ap (λ (m : ℕ). (let made : Answer = record { id = x.id; at = m; placed = record { bucket = b; place = length past; reply = unwrap_or (reply_of p past w) reply.Ignored } } in made)) ea
    ∙ ap (λ (n : ℕ). (let made : Answer = record { id = x.id; at = x.at; placed = record { bucket = b; place = n; reply = unwrap_or (reply_of p past w) reply.Ignored } } in made)) (sym ep)
    ∙ ap (λ (o : Option Reply). (let made : Answer = record { id = x.id; at = x.at; placed = record { bucket = b; place = place; reply = unwrap_or o reply.Ignored } } in made)) er

later : (at clock : ℕ) → clock ≤ at → max at clock ≡ at
later at clock le = omega (arith, le)

-- a bucket's journal behind one operation more
pub record EntersOne (p : Params) (b : ℕ) (x : Entered) (place : ℕ) (r : Reply) (old new : Journal) : Type 0 where
  pub params : new.params ≡ old.params
  pub limit : new.limit ≡ old.limit
  pub clock : new.clock ≡ last_moment new.lines
  pub at : new.clock ≡ x.at
  pub lawful : IsLawful p new.lines new.clock
  pub ends : ends_own new.lines ≡ true
  pub entered : map entered_line (own_lines new.lines) ≡ map entered_line (own_lines old.lines) ++ x ∷ []
  pub answered : answers_behind p b [] new.lines ≡ answers_behind p b [] old.lines ++ answer_from b x place r ∷ []

pub enters_one : (p : Params) (b : ℕ) (x : Entered) (place : ℕ) (r : Reply) (old new : Journal) → is_own x.op ≡ true → old.params ≡ p → old.clock ≤ x.at → Enters old new x.at x.id x.op place r → EntersOne p b x place r old new
enters_one p b x place r old new own same le e = record {
  params = ap (λ (j : Journal). j.params) e.new_is ∙ ap (λ (j : Journal). j.params) e.goes_on.new_is;
  limit = ap (λ (j : Journal). j.limit) e.new_is ∙ ap (λ (j : Journal). j.limit) e.goes_on.new_is;
  clock = clock ∙ at_line ∙ sym last ∙ sym (ap last_moment lines);
  at = clock ∙ at_line;
  lawful = subst (λ (q : Params). IsLawful q new.lines new.clock) same e.lawful;
  ends = ap ends_own lines ∙ ap ends_own (sym (append_assoc (old.lines ++ e.goes_on.more) pass (w ∷ []))) ∙ ends-snoc ((old.lines ++ e.goes_on.more) ++ pass) w own;
  entered =
      ap (map entered_line) (ap own_lines lines ∙ own_whole old.lines e.goes_on.more pass w brings)
      ∙ map-append entered_line (own_lines old.lines) (w ∷ [])
      ∙ ap (λ (m : ℕ). map entered_line (own_lines old.lines) ++ (let made : Entered = record { at = m; id = x.id; op = x.op } in made) ∷ []) at_line;
  answered =
      ap (answers_behind p b []) lines
      ∙ answers_whole p b old.lines e.goes_on.more pass w brings
      ∙ ap (λ (a : Answer). answers_behind p b [] old.lines ++ a ∷ []) (answer_is p b ((old.lines ++ e.goes_on.more) ++ pass) w x place r refl at_line here replied);
} where
  bare : Line
  bare = operation_line e.advanced.clock x.id x.op e.seen

  w : Line
  w = full_line old.params e.advanced.lines bare

  pass : List Line
  pass = collects old.params e.advanced.lines bare

  clock : new.clock ≡ e.advanced.clock
  clock = ap (λ (j : Journal). j.clock) e.new_is

  at_line : e.advanced.clock ≡ x.at
  at_line = e.moment ∙ later x.at old.clock le

  advanced : e.advanced.lines ≡ old.lines ++ e.goes_on.more
  advanced = ap (λ (j : Journal). j.lines) e.goes_on.new_is

  lines : new.lines ≡ whole old.lines e.goes_on.more pass w
  lines = ap (λ (j : Journal). j.lines) e.new_is ∙ ap (λ (xs : List Line). xs ++ (pass ++ w ∷ [])) advanced

  last : last_moment (whole old.lines e.goes_on.more pass w) ≡ x.at
  last = ap last_moment (sym (append_assoc (old.lines ++ e.goes_on.more) pass (w ∷ []))) ∙ last_moment-snoc ((old.lines ++ e.goes_on.more) ++ pass) w ∙ at_line

  brings : Brings e.goes_on.more pass w
  brings = record { own_more = own_by_time e.goes_on.more e.goes_on.by_time; own_before = own_pass old.params e.advanced.lines bare; own = own }

  here : place ≡ length ((old.lines ++ e.goes_on.more) ++ pass)
  here =
      let all = e.place_is in
      let long = ap (λ (xs : List Line). length xs) lines in
      let front = length-append (old.lines ++ e.goes_on.more) (pass ++ w ∷ []) in
      let middle = length-append pass (w ∷ []) in
      let back = length-append (old.lines ++ e.goes_on.more) pass in
      omega (arith, all, long, front, middle, back)

  replied : reply_of p ((old.lines ++ e.goes_on.more) ++ pass) w ≡ Some r
  replied = subst (λ (q : Params). reply_of q ((old.lines ++ e.goes_on.more) ++ pass) w ≡ Some r) same (subst (λ (xs : List Line). reply_of old.params (xs ++ pass) w ≡ Some r) advanced e.reply_is)
