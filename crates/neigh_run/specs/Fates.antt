-- What becomes of each packet of a run.
use Rattle.std.specs.Prelude.{◌≡◌, ℕ, Bool, true, false, List, [], ◌∷◌, ◌++◌, map, filter, length}
use Rattle.std.specs.Option.{option_map_or}
use Rattle.std.specs.List.{flat_map, AllByRecursion}
use Rattle.nb_base.specs.declared.op.Op.{Op}
use Rattle.nb_base.specs.declared.outcome.Outcome.{Outcome}
use Rattle.nb_base.specs.declared.outcome.Outcome.TheVariants as outcome
use Rattle.nb_base.specs.Buckets.{bucket_of}
use Rattle.nb_journal.specs.Keys.{key_of}
use Rattle.nb_journal.specs.Accounts.{Fate, Sent, Dropped, Waits, fates_of}
use Rattle.neigh_run.specs.declared.run.Run.{Run}
use Rattle.neigh_run.specs.Merged.{Entered, senders_ops}
use Rattle.neigh_run.specs.Inline.{journal_at}

-- a packet went out fast, behind the header of this number, or the journal of its key's bucket says what became of it
pub data PacketFate : Type 0 where
  Fast : ℕ → PacketFate
  By : Fate → PacketFate

-- the bucket of an operation's key, and the first one where it names none
abbrev pub bucket_for : ℕ → Op → ℕ
bucket_for buckets o = option_map_or (bucket_of buckets) (key_of o) 0

-- what the journal of its bucket says of a packet, which is given by the operation that sends it
abbrev pub journal_fates : Run → Entered → List PacketFate
journal_fates run x = map By (fates_of run.plan.params (journal_at run.journals (bucket_for run.plan.buckets x.op)) x.id)

-- what its outcome says of it
abbrev pub outcome_fates : Outcome → List PacketFate
outcome_fates (outcome.Fast number header) = Fast number ∷ []
outcome_fates (outcome.Slow why place r) = []

-- all that a run says of packets with these outcomes, packet by packet
abbrev pub fates_with : Run → List Entered → List Outcome → List (List PacketFate)
fates_with run [] outcomes = []
fates_with run (x ∷ xs) [] = journal_fates run x ∷ fates_with run xs []
fates_with run (x ∷ xs) (o ∷ outcomes) = (outcome_fates o ++ journal_fates run x) ∷ fates_with run xs outcomes

-- of the packets of all senders
unfoldable pub packet_fates : Run → List (List PacketFate)
packet_fates run = fates_with run (senders_ops 1 run.plan.senders) (flat_map (λ log. log) run.logs)

-- ---- how many packets have which fate

abbrev pub is_fast_fate : PacketFate → Bool
is_fast_fate (Fast number) = true
is_fast_fate (By fate) = false

abbrev pub is_sent_fate : PacketFate → Bool
is_sent_fate (By (Sent place mac)) = true
is_sent_fate _ = false

abbrev pub is_dropped_fate : PacketFate → Bool
is_dropped_fate (By (Dropped place cause)) = true
is_dropped_fate _ = false

abbrev pub is_waiting_fate : PacketFate → Bool
is_waiting_fate (By Waits) = true
is_waiting_fate _ = false

abbrev pub fate_count : (PacketFate → Bool) → Run → ℕ
fate_count test run = length (filter test (flat_map (λ fates. fates) (packet_fates run)))

-- a run says one thing of each packet
abbrev pub HasOneFateEach : Run → Type 0
HasOneFateEach run = AllByRecursion (λ fates. (fate : PacketFate) × (fates ≡ fate ∷ [])) (packet_fates run)

-- four numbers count the packets of a run that went out by journals, that went out fast, that were dropped, and that wait
pub record CountFates (run : Run) (sent fast dropped waiting : ℕ) : Type 0 where
  pub sent_are : sent ≡ fate_count is_sent_fate run
  pub fast_are : fast ≡ fate_count is_fast_fate run
  pub dropped_are : dropped ≡ fate_count is_dropped_fate run
  pub waiting_are : waiting ≡ fate_count is_waiting_fate run
