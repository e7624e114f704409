-- What stands below a line.
use Rattle.std.proofs.Common.{◌≡◌, ℕ, Bool, true, false, List, [], ◌∷◌, ◌++◌, length, Option, Some, None, refl, sym, ap, ◌∙◌, append-nil, append_assoc}
use Rattle.std.specs.Prelude.{◌&&◌, map, decimal, codes, unwrap_or, if◌then◌else◌}
use Rattle.std.specs.List.{flat_map}
use Rattle.std.proofs.lemmas.Grind.{flat_map-append}
use Rattle.std.proofs.lemmas.List.{map-append}
use Rattle.nb_base.specs.declared.key.Key.{Key}
use Rattle.nb_base.specs.declared.key.Key.TheVariants.{V4}
use Rattle.nb_queues.specs.Queue.{Packet}
use Rattle.nb_base.specs.declared.params.Params.{Params}
use Rattle.nb_base.specs.declared.line.Line.{Line}
use Rattle.nb_base.specs.declared.line.Reply.{Reply}
use Rattle.nb_base.specs.declared.plan.Plan.{Plan}
use Rattle.nb_base.specs.declared.op.Op.{Op}
use Rattle.nb_base.specs.declared.op.Op.TheVariants as op
use Rattle.nud_machine.specs.declared.act.Act.{Act}
use Rattle.nud_machine.specs.declared.act.Act.TheVariants.{Drop}
use Rattle.nud_machine.specs.declared.act.Cause.TheVariants.{Removed}
use Rattle.nud_machine.specs.declared.event.Event.TheVariants as event
use Rattle.nud_machine.specs.State.{State, Stepped, made, drops}
use Rattle.nud_machine.specs.Step.{step}
use Rattle.nb_journal.specs.Keys.{is_key, key_of}
use Rattle.nb_journal.specs.Fold.{effect, meet, if_so, is_loose, saw_enough, is_swept, state_of, acts_of, known_keys, reply_of}
use Rattle.nb_journal.specs.Steps.{concerns}
use Rattle.nb_journal.specs.Accounts.{acts_at}
use Rattle.nb_journal.proofs.Changes.{change-other}
use Rattle.nb_journal.proofs.Changed.{change_met}
use Rattle.nb_journal.proofs.Grows.{is_key-one}
use Rattle.text_codes.specs.Lines.{Words, line_text, text_of}
use Rattle.neigh_run.specs.Spelling.{id_word, op_words, reply_part}
use Rattle.neigh_run.specs.Report.{act_line, key_lines, seen_lines, lines_below, all_below, line_words}
use Rattle.neigh_report.specs.Left.{look, named, acts_below}

-- a line that names a key has no acts for another
none_of : (p : Params) (past : List Line) (line : Line) (key other : Key) → key_of line.op ≡ Some key → is_key key other ≡ false → acts_of p past line other ≡ []
none_of p past line key other names off = ap (λ (d : Stepped). d.acts) (change-other p line key other (state_of p past other) names off)

-- so the lines of its acts are those of its key
lines_of : (plan : Plan) (past : List Line) (line : Line) (key : Key) (keys : List Key) → key_of line.op ≡ Some key → flat_map (key_lines plan past line) keys ≡ map (act_line plan key) (flat_map (acts_of plan.params past line) keys)
lines_of plan past line key [] names = refl
lines_of plan past line key (k ∷ ks) names =
    ap (λ (rows : List Words). key_lines plan past line k ++ rows) (lines_of plan past line key ks names)
    ∙ ap (λ (rows : List Words). rows ++ map (act_line plan key) (flat_map (acts_of plan.params past line) ks)) (by_test (is_key key k) refl)
    ∙ sym (map-append (act_line plan key) (acts_of plan.params past line k) (flat_map (acts_of plan.params past line) ks)) where
      by_test : (t : Bool) → is_key key k ≡ t → key_lines plan past line k ≡ map (act_line plan key) (acts_of plan.params past line k)
      by_test true e = ap (λ (x : Key). map (act_line plan x) (acts_of plan.params past line k)) (sym (is_key-one key k e))
      by_test false e = let none = none_of plan.params past line key k names e in ap (map (act_line plan k)) none ∙ sym (ap (map (act_line plan key)) none)

drops_alike : (plan : Plan) (k other : Key) (packets : List Packet) → map (act_line plan k) (drops Removed packets) ≡ map (act_line plan other) (drops Removed packets)
drops_alike plan k other [] = refl
drops_alike plan k other (packet ∷ packets) = ap (λ (rows : List Words). act_line plan other (Drop packet.0 Removed) ∷ rows) (drops_alike plan k other packets)

removed_alike : (plan : Plan) (k other : Key) (line : Line) (s : State) (b : Bool)
    → map (act_line plan k) (meet plan.params line s (if_so b event.Remove)).acts ≡ map (act_line plan other) (meet plan.params line s (if_so b event.Remove)).acts
removed_alike plan k other line s false = refl
removed_alike plan k other line s true = by_test s.entry.present where
  by_test : (t : Bool) → map (act_line plan k) (step plan.params line.at (if t then s else made line.at) event.Remove).acts ≡ map (act_line plan other) (step plan.params line.at (if t then s else made line.at) event.Remove).acts
  by_test true = drops_alike plan k other s.waiting
  by_test false = refl

-- the acts of a line that names no key are drops, whose lines tell no key
none_named : (plan : Plan) (past : List Line) (line : Line) (k other : Key) → key_of line.op ≡ None → map (act_line plan k) (acts_of plan.params past line k) ≡ map (act_line plan other) (acts_of plan.params past line k)
none_named plan past line k other names =
    let s = state_of plan.params past k in
    let met = ap (λ (d : Stepped). d.acts) (change_met plan.params line k s (ap (concerns line k) names)) in
    ap (map (act_line plan k)) met ∙ by_op line.op names ∙ sym (ap (map (act_line plan other)) met) where
      by_op : (o : Op) → key_of o ≡ None
          → map (act_line plan k) (meet plan.params line (state_of plan.params past k) (effect plan.params line (state_of plan.params past k) o)).acts
          ≡ map (act_line plan other) (meet plan.params line (state_of plan.params past k) (effect plan.params line (state_of plan.params past k) o)).acts
      by_op op.Show e = refl
      by_op op.Flush e = removed_alike plan k other line (state_of plan.params past k) (is_loose (state_of plan.params past k))
      by_op op.Sweep e = removed_alike plan k other line (state_of plan.params past k) (saw_enough plan.params line.seen && is_swept plan.params line.at (state_of plan.params past k))
      by_op (op.Send key len) e = cc
      by_op (op.Arp key mac make solicited) e = cc
      by_op (op.Ns key mac) e = cc
      by_op (op.Na key mac router solicited overrides) e = cc
      by_op (op.Add key mac nud) e = cc
      by_op (op.Change key mac nud) e = cc
      by_op (op.Replace key mac nud) e = cc
      by_op (op.Del key) e = cc
      by_op (op.Confirm key) e = cc
      by_op (op.Timer key) e = cc
      by_op (op.Collect key) e = cc

lines_of_none : (plan : Plan) (past : List Line) (line : Line) (key : Key) (keys : List Key) → key_of line.op ≡ None → flat_map (key_lines plan past line) keys ≡ map (act_line plan key) (flat_map (acts_of plan.params past line) keys)
lines_of_none plan past line key [] names = refl
lines_of_none plan past line key (k ∷ ks) names =
    ap (λ (rows : List Words). key_lines plan past line k ++ rows) (lines_of_none plan past line key ks names)
    ∙ ap (λ (rows : List Words). rows ++ map (act_line plan key) (flat_map (acts_of plan.params past line) ks)) (none_named plan past line k key names)
    ∙ sym (map-append (act_line plan key) (acts_of plan.params past line k) (flat_map (acts_of plan.params past line) ks))

-- the lines of a line's acts, over the known keys, are those of the key that it names
acts_lines : (plan : Plan) (past : List Line) (line : Line) (o : Op) → line.op ≡ o → flat_map (key_lines plan past line) (known_keys (past ++ line ∷ [])) ≡ map (act_line plan (named o)) (acts_at plan.params past line)
acts_lines plan past line o is = by_key (key_of o) (ap key_of is) where
  by_key : (named_key : Option Key) → key_of line.op ≡ named_key → flat_map (key_lines plan past line) (known_keys (past ++ line ∷ [])) ≡ map (act_line plan (unwrap_or named_key (V4 0))) (acts_at plan.params past line)
  by_key None e = lines_of_none plan past line (V4 0) (known_keys (past ++ line ∷ [])) e
  by_key (Some key) e = lines_of plan past line key (known_keys (past ++ line ∷ [])) e

below_is : (plan : Plan) (past : List Line) (line : Line) (o : Op) → line.op ≡ o → look plan.host plan.params past o ++ acts_below plan o (acts_at plan.params past line) ≡ lines_below plan past line o
below_is plan past line op.Show is = append-nil (look plan.host plan.params past op.Show)
below_is plan past line (op.Send key len) is = sym (acts_lines plan past line (op.Send key len) is)
below_is plan past line (op.Arp key mac make solicited) is = sym (acts_lines plan past line (op.Arp key mac make solicited) is)
below_is plan past line (op.Ns key mac) is = sym (acts_lines plan past line (op.Ns key mac) is)
below_is plan past line (op.Na key mac router solicited overrides) is = sym (acts_lines plan past line (op.Na key mac router solicited overrides) is)
below_is plan past line (op.Add key mac nud) is = sym (acts_lines plan past line (op.Add key mac nud) is)
below_is plan past line (op.Change key mac nud) is = sym (acts_lines plan past line (op.Change key mac nud) is)
below_is plan past line (op.Replace key mac nud) is = sym (acts_lines plan past line (op.Replace key mac nud) is)
below_is plan past line (op.Del key) is = sym (acts_lines plan past line (op.Del key) is)
below_is plan past line (op.Confirm key) is = sym (acts_lines plan past line (op.Confirm key) is)
below_is plan past line op.Flush is = sym (acts_lines plan past line op.Flush is)
below_is plan past line (op.Timer key) is = sym (acts_lines plan past line (op.Timer key) is)
below_is plan past line op.Sweep is = sym (acts_lines plan past line op.Sweep is)
below_is plan past line (op.Collect key) is = sym (acts_lines plan past line (op.Collect key) is)

-- a line with what stands below it, as it is put together
pub written_is : (plan : Plan) (past : List Line) (line : Line) (own : List Act) (reply : Option Reply) (report lined pushed below1 below2 : List ℕ)
    → below1 ≡ text_of (look plan.host plan.params past line.op)
    → own ≡ acts_at plan.params past line
    → below2 ≡ below1 ++ text_of (acts_below plan line.op own)
    → reply ≡ reply_of plan.params past line
    → lined ≡ report ++ text_of ((decimal (length past) ∷ decimal line.at ∷ id_word line.id ∷ (op_words line.op ++ codes "->" ∷ reply_part reply)) ∷ seen_lines plan.buckets line.seen)
    → pushed ≡ lined ++ below2
    → pushed ≡ report ++ text_of (line_words plan past line ∷ all_below plan past line)
written_is plan past line own reply report lined pushed below1 below2 e1 acts e2 answer el ep =
    let below : below2 ≡ text_of (lines_below plan past line line.op) =
    e2 ∙ ap (λ (xs : List ℕ). xs ++ text_of (acts_below plan line.op own)) e1
    ∙ ap (λ (xs : List Act). text_of (look plan.host plan.params past line.op) ++ text_of (acts_below plan line.op xs)) acts
    ∙ sym (flat_map-append line_text (look plan.host plan.params past line.op) (acts_below plan line.op (acts_at plan.params past line)))
    ∙ ap text_of (below_is plan past line line.op refl) in
    let first = line_words plan past line ∷ seen_lines plan.buckets line.seen in
    let front = el ∙ ap (λ (r : Option Reply). report ++ text_of ((decimal (length past) ∷ decimal line.at ∷ id_word line.id ∷ (op_words line.op ++ codes "->" ∷ reply_part r)) ∷ seen_lines plan.buckets line.seen)) answer in
    ep ∙ ap (λ (xs : List ℕ). xs ++ below2) front ∙ ap (λ (xs : List ℕ). (report ++ text_of first) ++ xs) below ∙ append_assoc report (text_of first) (text_of (lines_below plan past line line.op))
    ∙ ap (λ (xs : List ℕ). report ++ xs) (sym (flat_map-append line_text first (lines_below plan past line line.op)))
