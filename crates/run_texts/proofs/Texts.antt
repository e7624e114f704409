-- Runs of a plan that can be played are told by their texts, by one thread and with a thread for each participant.
use Rattle.std.proofs.Common.{[]}
use Rattle.nb_base.specs.declared.plan.Mode.TheVariants as mode
use Rattle.neigh_run.specs.Windows.{mark_starts}
use Rattle.run_texts.specs.Laws.{InlineRunsAreWritable, TextsTellInlineRuns, TextsTellThreadedRuns}
use Rattle.run_texts.proofs.Whole.{texts_tell_told}
use Rattle.run_texts.proofs.Inline.{inline_told}
use Rattle.run_texts.proofs.Threaded.{threaded_told}
use Rattle.run_texts.proofs.ThreadedWritable.{threaded_writable}

pub inline_runs_tell : InlineRunsAreWritable → TextsTellInlineRuns
inline_runs_tell writable plan run other play h g text = texts_tell_told mode.Inline [] plan run other play.params play.dev (writable plan run play h) (inline_told plan run play.limits h) g text

pub threaded_runs_tell : TextsTellThreadedRuns
threaded_runs_tell plan run other play h g text =
    texts_tell_told mode.Threads (mark_starts plan) plan run other play.params play.dev (threaded_writable plan run play h) (threaded_told plan run play.limits h) (threaded_told plan other play.limits g) text
