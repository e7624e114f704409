-- Where an operation stands in a journal that it was entered into, and what it is answered there.
use Rattle.std.proofs.Common.{◌≡◌, ℕ, suc, ◌≤◌, Bool, true, false, if◌then◌else◌, List, [], ◌∷◌, ◌++◌, length, map, Option, Some, None, is_some, unwrap_or, refl, sym, ◌∙◌, ap, subst, arith, append_assoc, append-nil}
use Rattle.std.specs.Prelude.{◌&&◌, ◌==◌, filter}
use Rattle.std.specs.Option.{option_map_or}
use Rattle.std.proofs.lemmas.Bool.{eq-eqb}
use Rattle.std.proofs.lemmas.List.{map-append}
use Rattle.std.proofs.lemmas.List.Elements.{filter-append}
use Rattle.nb_base.specs.declared.time.OpId.{OpId}
use Rattle.nb_base.specs.declared.line.Line.{Line}
use Rattle.nb_base.specs.declared.line.Reply.{Reply}
use Rattle.nb_base.specs.declared.line.Reply.TheVariants as reply
use Rattle.nb_base.specs.declared.params.Params.{Params}
use Rattle.nb_base.specs.declared.plan.Plan.{Plan}
use Rattle.nb_base.specs.declared.host_line.Placed.{Placed}
use Rattle.nb_journal.specs.Keys.{is_own}
use Rattle.nb_journal.specs.Fold.{id_of, reply_of}
use Rattle.nb_journal.specs.Accounts.{own_lines}
use Rattle.nb_journal.specs.Lawful.{each_line}
use Rattle.neigh_run.specs.Merged.{Entered}
use Rattle.neigh_run.specs.Inline.{entered_line, find_place, journal_at, placed_at}
use Rattle.neigh_plan.proofs.Orders.{count, count_append}
use Rattle.neigh_run.proofs.Numbers.{has_id}

-- the operations of a journal's lines
abbrev pub operations : List Line → List Entered
operations lines = map entered_line (own_lines lines)

-- exactly an operation's line has an id
abbrev pub IsStamped : List Line → Line → Type 0
IsStamped past line = is_some line.id ≡ is_own line.op

-- the test by which a place is found
abbrev bears : OpId → Line → Bool
bears id line = option_map_or (λ (other : OpId). other.0 == id.0) line.id false

bears_by : (o : Option OpId) (own : Bool) (id : OpId) → is_some o ≡ own → option_map_or (λ (other : OpId). other.0 == id.0) o false ≡ (own && ((unwrap_or o (record { 0 = 0 })).0 == id.0))
bears_by None own id e = rw (← e) refl
bears_by (Some i) own id e = rw (← e) refl

bears_is : (id : OpId) (line : Line) → is_some line.id ≡ is_own line.op → bears id line ≡ (is_own line.op && has_id id (entered_line line))
bears_is id line e = bears_by line.id (is_own line.op) id e

some_one : (n : ℕ) → suc n ≡ 0 → ⊥
some_one n e = omega (arith, e)

-- where no operation before bears the id, it is looked for behind them
passed_over : (p : Params) (before past xs : List Line) (id : OpId) → each_line IsStamped before past → count (has_id id) (operations past) ≡ 0 → find_place p before (past ++ xs) id ≡ find_place p (before ++ past) xs id
passed_over p before [] xs id stamped none = ap (λ (ys : List Line). find_place p ys xs id) (sym (append-nil before))
passed_over p before (y ∷ ys) xs id stamped none =
    by_tests (is_own y.op) (has_id id (entered_line y)) refl refl (bears_is id y stamped.0) (λ rest. passed_over p (before ++ y ∷ []) ys xs id stamped.1 rest) none where
      go : bears id y ≡ false → find_place p (before ++ y ∷ []) (ys ++ xs) id ≡ find_place p ((before ++ y ∷ []) ++ ys) xs id → find_place p before (y ∷ (ys ++ xs)) id ≡ find_place p (before ++ y ∷ ys) xs id
      go e rest =
          ap (λ (b : Bool). if b then Some (length before, reply_of p before y) else find_place p (before ++ y ∷ []) (ys ++ xs) id) e ∙ rest
          ∙ ap (λ (zs : List Line). find_place p zs xs id) (append_assoc before (y ∷ []) ys)

      by_tests : (own has : Bool) → is_own y.op ≡ own → has_id id (entered_line y) ≡ has → bears id y ≡ (own && has)
          → (count (has_id id) (operations ys) ≡ 0 → find_place p (before ++ y ∷ []) (ys ++ xs) id ≡ find_place p ((before ++ y ∷ []) ++ ys) xs id)
          → length (filter (has_id id) (map entered_line (if own then y ∷ own_lines ys else own_lines ys))) ≡ 0
          → find_place p before (y ∷ (ys ++ xs)) id ≡ find_place p (before ++ y ∷ ys) xs id
      by_tests true true e f is rest no_one = absurd (some_one (length (filter (has_id id) (operations ys))) (sym (ap (λ (b : Bool). length (if b then entered_line y ∷ filter (has_id id) (operations ys) else filter (has_id id) (operations ys))) f) ∙ no_one))
      by_tests true false e f is rest no_one = go is (rest (sym (ap (λ (b : Bool). length (if b then entered_line y ∷ filter (has_id id) (operations ys) else filter (has_id id) (operations ys))) f) ∙ no_one))
      by_tests false has e f is rest no_one = go is (rest no_one)

operations-append : (xs ys : List Line) → operations (xs ++ ys) ≡ operations xs ++ operations ys
operations-append xs ys = ap (map entered_line) (filter-append (λ (line : Line). is_own line.op) xs ys) ∙ map-append entered_line (own_lines xs) (own_lines ys)

stamped_past : (before past xs : List Line) → each_line IsStamped before (past ++ xs) → each_line IsStamped before past
stamped_past before [] xs all = tt
stamped_past before (y ∷ ys) xs all = (all.0, stamped_past (before ++ y ∷ []) ys xs all.1)

stamped_here : (before past rest : List Line) (x : Line) → each_line IsStamped before (past ++ x ∷ rest) → is_some x.id ≡ is_own x.op
stamped_here before [] rest x all = all.0
stamped_here before (y ∷ ys) rest x all = stamped_here (before ++ y ∷ []) ys rest x all.1

-- an operation whose id stands once is found where it stands
found_here : (p : Params) (past rest : List Line) (x : Line) → is_own x.op ≡ true → each_line IsStamped [] (past ++ x ∷ rest) → count (has_id (id_of x)) (operations (past ++ x ∷ rest)) ≤ 1
    → find_place p [] (past ++ x ∷ rest) (id_of x) ≡ Some (length past, reply_of p past x)
found_here p past rest x own stamped once =
    passed_over p [] past (x ∷ rest) (id_of x) (stamped_past [] past (x ∷ rest) stamped) none
    ∙ ap (λ (b : Bool). if b then Some (length past, reply_of p past x) else find_place p (past ++ x ∷ []) rest (id_of x)) is where
      itself : has_id (id_of x) (entered_line x) ≡ true
      itself = eq-eqb (id_of x).0 (id_of x).0 refl

      is : bears (id_of x) x ≡ true
      is = bears_is (id_of x) x (stamped_here [] past rest x stamped) ∙ ap (λ (b : Bool). b && has_id (id_of x) (entered_line x)) own ∙ itself

      own_first : operations (x ∷ rest) ≡ entered_line x ∷ operations rest
      own_first = rw own refl

      one : count (has_id (id_of x)) (entered_line x ∷ operations rest) ≡ suc (count (has_id (id_of x)) (operations rest))
      one = ap (λ (b : Bool). length (if b then entered_line x ∷ filter (has_id (id_of x)) (operations rest) else filter (has_id (id_of x)) (operations rest))) itself

      none : count (has_id (id_of x)) (operations past) ≡ 0
      none =
          let both = ap (count (has_id (id_of x))) (operations-append past (x ∷ rest)) ∙ count_append (has_id (id_of x)) (operations past) (operations (x ∷ rest)) in
          let here = ap (count (has_id (id_of x))) own_first ∙ one in
          omega (arith, once, both, here)

-- a journal whose operations' lines alone have ids, each once
pub record IsNamedOnce (journal : List Line) : Type 0 where
  pub stamped : each_line IsStamped [] journal
  pub once : (id : OpId) → count (has_id id) (operations journal) ≤ 1

pub placed_is : (plan : Plan) (journals : List (List Line)) (b : ℕ) (past rest : List Line) (x : Line) → is_own x.op ≡ true → IsNamedOnce (journal_at journals b) → journal_at journals b ≡ past ++ x ∷ rest
    → placed_at plan journals (id_of x) b ≡ record { bucket = b; place = length past; reply = unwrap_or (reply_of plan.params past x) reply.Ignored }
placed_is plan journals b past rest x own named e =
    ap (λ (o : Option (ℕ × Option Reply)). (let made : Placed = record { bucket = b; place = (unwrap_or o (0, None)).0; reply = unwrap_or (unwrap_or o (0, None)).1 reply.Ignored } in made)) (
    ap (λ (xs : List Line). find_place plan.params [] xs (id_of x)) e
    ∙ found_here plan.params past rest x own (subst (each_line IsStamped []) e named.stamped) (subst (λ (xs : List Line). count (has_id (id_of x)) (operations xs) ≤ 1) e (named.once (id_of x)))
    )
