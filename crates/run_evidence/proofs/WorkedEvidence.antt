-- Evidence of a worked run: what is asked of evidence can be met.
use Rattle.std.proofs.Common.{◌≡◌, ℕ, zero, suc, ◌<◌, ◌≤◌, Bool, true, false, if◌then◌else◌, List, [], ◌∷◌, ◌++◌, length, refl, subst, arith}
use Rattle.std.specs.Prelude.{Option, Some, None, slice_index_or}
use mathlib.Core.Option.{some}
use lib.ListN.{get_elem?}
use Rattle.nb_base.specs.declared.key.Key.{Key}
use Rattle.nb_base.specs.declared.time.OpId.{OpId}
use Rattle.nb_base.specs.declared.nud.Nud.TheVariants as nud
use Rattle.nb_base.specs.declared.op.Op.TheVariants as op
use Rattle.nb_base.specs.declared.line.Line.{Line}
use Rattle.nb_base.specs.declared.line.Reply.TheVariants as reply
use Rattle.nb_base.specs.declared.plan.ControlItem.TheVariants as control
use Rattle.nb_base.specs.Buckets.{bucket_of}
use Rattle.nud_machine.specs.Record.{unusable}
use Rattle.nb_journal.specs.Keys.{is_key}
use Rattle.nb_journal.specs.Fold.{change, state_of, known_keys, present_count, reply_of}
use Rattle.nb_journal.specs.Accounts.{published}
use Rattle.nb_journal.proofs.Grows.{is_key-one}
use Rattle.bucket_stamps.specs.declared.view.Turn.{Turn}
use Rattle.bucket_stamps.specs.Own.{turns_of}
use Rattle.change_order.specs.declared.part.Part.{Part}
use Rattle.change_order.specs.Counted.{AreCounted, IsPart, changes_in, changes_at}
use Rattle.neigh_run.specs.Windows.{windows}
use Rattle.neigh_run.proofs.ThreadedRows.{k1, mac_a, send, add_line, send_line, added, slow, suspect, stale, stale_sends, three_marks}
use Rattle.neigh_run.proofs.ThreadedRuns.{nil_lawful, stale_one, stale_two, stale_three}
use Rattle.run_evidence.specs.Tokens.{Shown, Call, IsMet}
use Rattle.run_evidence.specs.Stamps.{IsStampHistory, IsBucketEvidence}
use Rattle.run_evidence.specs.Holds.{Hold, AreKnown}
use Rattle.run_evidence.specs.Evidence.{Window, ParticipantRun, ControlDone, PacketDone, Evidence, column, bucket_at, control_calls, sender_calls, history_at, WindowsLeaveHold, last_hold, IsEvidence}

-- ---- one bucket: a stale entry is added at 0, and a sender sends to it at 50 and at 100

abbrev turn : ℕ → ℕ → ℕ → Turn
turn p at n = record { participant = p; at = at; ok = true; length = n }

-- the marks' turns and the calls', in order
abbrev t1 : List Turn
t1 = turn 0 0 0 ∷ []

abbrev t2 : List Turn
t2 = turn 0 0 0 ∷ turn 0 0 1 ∷ []

abbrev t3 : List Turn
t3 = turn 0 0 0 ∷ turn 0 0 1 ∷ turn 0 50 1 ∷ []

abbrev t4 : List Turn
t4 = turn 0 0 0 ∷ turn 0 0 1 ∷ turn 0 50 1 ∷ turn 1 50 2 ∷ []

abbrev t5 : List Turn
t5 = turn 0 0 0 ∷ turn 0 0 1 ∷ turn 0 50 1 ∷ turn 1 50 2 ∷ turn 0 100 2 ∷ []

abbrev t6 : List Turn
t6 = turn 0 0 0 ∷ turn 0 0 1 ∷ turn 0 50 1 ∷ turn 1 50 2 ∷ turn 0 100 2 ∷ turn 1 100 3 ∷ []

abbrev j1 : List Line
j1 = add_line nud.Stale ∷ []

abbrev j2 : List Line
j2 = add_line nud.Stale ∷ send_line 50 33 ∷ []

abbrev shown : List Line → List Turn → List (ℕ × OpId) → Shown
shown past turns pairs = record { past = past; turns = turns; pairs = pairs }

abbrev id : ℕ → OpId
id n = record { 0 = n }

abbrev own0 : List (ℕ × OpId)
own0 = (0, id 32) ∷ []

abbrev own1 : List (ℕ × OpId)
own1 = (1, id 33) ∷ []

abbrev own2 : List (ℕ × OpId)
own2 = (1, id 33) ∷ (2, id 65) ∷ []

abbrev no_hold : Key → Option Hold
no_hold key = None

abbrev holds_one : Hold → Key → Option Hold
holds_one h key = if is_key k1 key then Some h else None

abbrev fresh : Hold
fresh = record { floor = 0; known = []; tries = [] }

abbrev read : Hold
read = record { floor = 0; known = (0, unusable) ∷ []; tries = (0, 0) ∷ [] }

abbrev add_call : Call
add_call = record { bucket = 0; entered = record { at = 0; id = id 32; op = op.Add k1 (Some mac_a) nud.Stale }; place = 0; reply = reply.Done; past = []; line = add_line nud.Stale; earlier = t1; after = shown j1 t2 own0 }

abbrev first_call : Call
first_call = record { bucket = 0; entered = record { at = 50; id = id 33; op = op.Send k1 1 }; place = 1; reply = reply.Sent; past = j1; line = send_line 50 33; earlier = t3; after = shown j2 t4 own1 }

abbrev second_call : Call
second_call = record { bucket = 0; entered = record { at = 100; id = id 65; op = op.Send k1 1 }; place = 2; reply = reply.Sent; past = j2; line = send_line 100 65; earlier = t5; after = shown stale_sends t6 own2 }

abbrev window : {D : Type 0} → ℕ → ℕ → Shown → (Key → Option Hold) → List D → ℕ → Shown → (Key → Option Hold) → Window D
window n mark opened opened_holds done_items met closed closed_holds =
    record { number = n; marked = mark ∷ []; opened = opened ∷ []; opened_holds = opened_holds; done_items = done_items; met = met ∷ []; closed = closed ∷ []; closed_holds = closed_holds }

abbrev control_run : ParticipantRun ControlDone
control_run = record {
  windows =
      window 0 0 (shown [] t1 []) no_hold (record { item = control.Neigh 0 (op.Add k1 (Some mac_a) nud.Stale); calls = add_call ∷ []; lines = added } ∷ []) 1 (shown j1 t2 own0) no_hold
      ∷ window 1 1 (shown j1 t3 own0) no_hold [] 2 (shown j2 t4 own0) no_hold
      ∷ window 2 2 (shown j2 t5 own0) no_hold [] 3 (shown stale_sends t6 own0) no_hold
      ∷ [];
  ended = 3 ∷ [];
  after = shown stale_sends t6 own0 ∷ [];
}

abbrev sender_run : ParticipantRun PacketDone
sender_run = record {
  windows =
      window 0 0 (shown [] t1 []) no_hold [] 1 (shown j1 t2 []) no_hold
      ∷ window 1 1 (shown j1 t3 []) no_hold (record { item = send 50 17; outcome = slow 1; calls = first_call ∷ []; holds = holds_one fresh } ∷ []) 2 (shown j2 t4 own1) (holds_one fresh)
      ∷ window 2 2 (shown j2 t5 own1) (holds_one fresh) (record { item = send 100 18; outcome = suspect 0 2; calls = second_call ∷ []; holds = holds_one read } ∷ []) 3 (shown stale_sends t6 own2) (holds_one read)
      ∷ [];
  ended = 3 ∷ [];
  after = shown stale_sends t6 own2 ∷ [];
}

-- the bucket looked before its one change
abbrev part : Part
part = record { bucket = 0; changes = (0, 1) ∷ []; looks = (0, 0) ∷ [] }

abbrev evidence : Evidence
evidence = record { control = control_run; senders = sender_run ∷ []; journals = stale_sends ∷ []; turns = t6 ∷ []; marks = three_marks; parts = part ∷ [] }

-- ---- stamps

-- a stamp that a barrier met
met_by : (p : ℕ) (past more : List Line) (turns others mine : List Turn) (pairs : List (ℕ × OpId)) (told : ℕ) → turns_of p others ≡ mine → length past ≤ told → told ≤ length (past ++ more) → IsMet p (shown past turns pairs) (shown (past ++ more) (turns ++ others) pairs) told mine
met_by p past more turns others mine pairs told e counted seen = record { past = (more, refl); turns = (others, refl, e); pairs = refl; counted = counted; seen = seen }

control_history : IsStampHistory 0 stale (history_at control_calls 0 control_run)
unfolding state_of change is_key known_keys reply_of
control_history = (
  record {
    marked = met_by 0 [] [] [] t1 t1 [] 0 refl (omega arith) (omega arith);
    calls = (
      record { past = ([], refl); grown = refl; place = refl; id = refl; op = refl; own = refl; participant = refl; reply = refl; pairs = refl; turns = ([], refl, refl); turn = refl; within = (omega arith, tt); moment = λ ok. refl },
      met_by 0 j1 [] t2 [] [] own0 1 refl (omega arith) (omega arith),
    );
    items = (refl, tt);
  },
  (
    record {
      marked = met_by 0 j1 [] t2 (turn 0 50 1 ∷ []) (turn 0 50 1 ∷ []) own0 1 refl (omega arith) (omega arith);
      calls = met_by 0 j1 (send_line 50 33 ∷ []) t3 (turn 1 50 2 ∷ []) [] own0 2 refl (omega arith) (omega arith);
      items = tt;
    },
    (
      record {
        marked = met_by 0 j2 [] t4 (turn 0 100 2 ∷ []) (turn 0 100 2 ∷ []) own0 2 refl (omega arith) (omega arith);
        calls = met_by 0 j2 (send_line 100 65 ∷ []) t5 (turn 1 100 3 ∷ []) [] own0 3 refl (omega arith) (omega arith);
        items = tt;
      },
      met_by 0 stale_sends [] t6 [] [] own0 3 refl (omega arith) (omega arith),
    ),
  ),
)

sender_history : IsStampHistory 1 stale (history_at sender_calls 0 sender_run)
unfolding state_of change is_key known_keys reply_of
sender_history = (
  record {
    marked = met_by 1 [] [] [] t1 [] [] 0 refl (omega arith) (omega arith);
    calls = met_by 1 [] j1 t1 (turn 0 0 1 ∷ []) [] [] 1 refl (omega arith) (omega arith);
    items = tt;
  },
  (
    record {
      marked = met_by 1 j1 [] t2 (turn 0 50 1 ∷ []) [] [] 1 refl (omega arith) (omega arith);
      calls = (
        record { past = ([], refl); grown = refl; place = refl; id = refl; op = refl; own = refl; participant = refl; reply = refl; pairs = refl; turns = ([], refl, refl); turn = refl; within = (omega arith, (omega arith, (omega arith, tt))); moment = λ ok. refl },
        met_by 1 j2 [] t4 [] [] own1 2 refl (omega arith) (omega arith),
      );
      items = (refl, tt);
    },
    (
      record {
        marked = met_by 1 j2 [] t4 (turn 0 100 2 ∷ []) [] own1 2 refl (omega arith) (omega arith);
        calls = (
          record { past = ([], refl); grown = refl; place = refl; id = refl; op = refl; own = refl; participant = refl; reply = refl; pairs = refl; turns = ([], refl, refl); turn = refl; within = (omega arith, (omega arith, (omega arith, (omega arith, (omega arith, tt))))); moment = λ ok. refl },
          met_by 1 stale_sends [] t6 [] [] own2 3 refl (omega arith) (omega arith),
        );
        items = (refl, tt);
      },
      met_by 1 stale_sends [] t6 [] [] own2 3 refl (omega arith) (omega arith),
    ),
  ),
)

bucket_evidence : IsBucketEvidence stale (column 0 three_marks) (bucket_at 0 evidence)
unfolding state_of change is_key known_keys reply_of
bucket_evidence = record {
  participants = refl;
  histories = (
    (control_history, record { past = ([], refl); begins = ([], refl); own_turns = refl; own_lines = refl }),
    ((sender_history, record { past = ([], refl); begins = ([], refl); own_turns = refl; own_lines = refl }), tt),
  );
  opens = (nil_lawful, (stale_one 50 (omega arith), (stale_two 100 (omega arith) (omega arith), tt)));
  marks = (refl, (refl, tt));
  whole = record {
    settled = refl;
    only_turns = (omega arith, (omega arith, (omega arith, (omega arith, (omega arith, (omega arith, tt))))));
    only_lines = (omega arith, (omega arith, (omega arith, tt)));
    lawful = λ ok. stale_three;
  };
}

-- ---- the sender's holds

-- what holds of the one key, and of every other, holds of all
by_key : (P : Key → Type 0) → P k1 → ((key : Key) → is_key k1 key ≡ false → P key) → (key : Key) → P key
by_key P same other key = by_test (is_key k1 key) refl where
  by_test : (b : Bool) → is_key k1 key ≡ b → P key
  by_test true e = subst P (is_key-one k1 key e) same
  by_test false e = other key e

holds_here : WindowsLeaveHold stale k1 None sender_run.windows
unfolding state_of change is_key known_keys published
holds_here = (
  refl,
  refl,
  (
    tt,
    (record { at = refl }, record { known = refl; tries = refl; low = omega arith; high = omega arith; numbers = tt; halves = tt }),
    (
      record { known = refl; tries = refl; low = omega arith; high = omega arith; numbers = tt; halves = tt },
      (
        record { left = record { at = refl; rises = omega arith; tries = ((0, 0) ∷ [], refl) }; from = omega arith; to = omega arith; read = unusable; unusable = refl; known = refl },
        record { known = refl; tries = refl; low = omega arith; high = omega arith; numbers = (omega arith, tt); halves = (omega arith, (omega arith, tt)) },
      ),
      tt,
    ),
  ),
)

holds_all : (key : Key) → WindowsLeaveHold stale key None sender_run.windows
holds_all = by_key (λ key. WindowsLeaveHold stale key None sender_run.windows) holds_here (λ key e. rw e (refl, refl, (refl, (rw e refl, refl), (refl, (rw e refl, refl), tt))))

known_here : AreKnown (published stale.params stale.host (slice_index_or (stale_sends ∷ []) (bucket_of stale.buckets k1) []) k1) (last_hold k1 None sender_run.windows)
unfolding state_of change is_key known_keys published
known_here = (refl, tt)

known_all : (key : Key) → AreKnown (published stale.params stale.host (slice_index_or (stale_sends ∷ []) (bucket_of stale.buckets key) []) key) (last_hold key None sender_run.windows)
known_all = by_key (λ key. AreKnown (published stale.params stale.host (slice_index_or (stale_sends ∷ []) (bucket_of stale.buckets key) []) key) (last_hold key None sender_run.windows)) known_here (λ key e. rw e tt)

-- ---- the whole

counted : AreCounted (part ∷ [])
counted = record { once = once; each = each } where
  once : (t : ℕ) → t < changes_in (part ∷ []) → changes_at t (part ∷ []) ≡ 1
  once zero lt = refl
  once (suc t) lt = absurd (omega (arith, lt))

  each : (b : ℕ) (p : Part) → get_elem? (part ∷ []) b ≡ some p → IsPart (part ∷ []) b p
  each zero p e = subst (IsPart (part ∷ []) 0) (some_is part p e) (record { number = refl; order = record { rising = (omega arith, tt); below = (omega arith, tt); standing = (omega arith, tt); within = (omega arith, tt) }; values = (refl, tt) }) where
    some_is : (a b : Part) → some a ≡ some b → a ≡ b
    some_is a b e = cc
  each (suc b) p e = cc

worked_evidence : IsEvidence stale evidence
unfolding windows state_of change is_key known_keys reply_of published present_count
worked_evidence = record {
  buckets = refl;
  starts = refl;
  lengths = (refl, (refl, (refl, (refl, tt))));
  each_bucket = one;
  counted = counted;
  counts = (record { changes = refl; chosen = (0, 0) ∷ []; among = ([], [], refl, tt); lines = (record { value = refl; many = omega arith; behind = tt; ahead = (omega arith, tt) }, tt) }, tt);
  control = record { items = refl; done = (record { entered = record { buckets = refl; each = (refl, tt) }; lines = refl }, tt) };
  senders = (
    record {
      items = refl;
      windows = (tt, ((refl, tt), ((refl, tt), tt)));
      done = (
        record { call = first_call; one = refl; bucket = refl; entered = refl; place_is = refl; reply_is = refl },
        (record { call = second_call; one = refl; bucket = refl; entered = refl; place_is = refl; reply_is = refl }, tt),
      );
      holds = holds_all;
      known = known_all;
    },
    tt,
  );
} where
  one : (b : ℕ) → b < 1 → IsBucketEvidence stale (column b three_marks) (bucket_at b evidence)
  one zero lt = bucket_evidence
  one (suc b) lt = absurd (omega (arith, lt))
