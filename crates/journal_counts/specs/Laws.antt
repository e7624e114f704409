-- The laws of what lines say of counts, as statements of every journal.
use Rattle.std.specs.Prelude.{◌≡◌, ℕ, List, ◌++◌}
use Rattle.nb_base.specs.declared.params.Params.{Params}
use Rattle.nb_base.specs.declared.line.Line.{Line}
use Rattle.nb_journal.specs.Lawful.{base_of}
use Rattle.change_order.specs.Orders.{JournalCounts}
use Rattle.change_order.specs.Calls.{with_call}
use Rattle.journal_counts.specs.Counts.{call_of, counts_of}

-- a journal behind a call says what it said before and what the call's lines say; no collect line stood last before
abbrev pub CountsGrowByCalls : Type 0
CountsGrowByCalls =
    (b : ℕ) (p : Params) (past lines : List Line)
    → base_of past ≡ past
    → counts_of p (past ++ lines) ≡ with_call (call_of b p past lines) (counts_of p past)

-- two calls, one after the other, say what one call with the lines of both says; no collect line stands last in the first
abbrev pub CallsJoin : Type 0
CallsJoin =
    (b : ℕ) (p : Params) (past first next : List Line) (j : JournalCounts)
    → base_of first ≡ first
    → with_call (call_of b p (past ++ first) next) (with_call (call_of b p past first) j) ≡ with_call (call_of b p past (first ++ next)) j
