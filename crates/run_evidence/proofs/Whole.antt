-- Evidence shows a run with a thread for each participant.
use Rattle.std.proofs.Common.{refl}
use Rattle.run_evidence.specs.Laws.{ShowsOrder, ShowsRun}
use Rattle.change_order.specs.Orders.{CountsGiveOneOrder}
use Rattle.run_evidence.proofs.Assembled.{shows_marks, shows_lawful, shows_lines}
use Rattle.run_evidence.proofs.SenderRuns.{shows_logs, shows_places}
use Rattle.run_evidence.proofs.HostLines.{shows_host_lines}
use Rattle.run_evidence.proofs.Packets.{shows_bounds, shows_causes}
use Rattle.run_evidence.proofs.Ended.{shows_ends}
use Rattle.std.proofs.Common.{map}
use Rattle.journal_counts.specs.Counts.{counts_of}

pub shows_order : CountsGiveOneOrder → ShowsOrder
shows_order give plan e window some h = give e.parts (map (counts_of plan.params) e.journals) h.counted h.counts

pub shows_run : ShowsOrder → ShowsRun
shows_run order plan e window some h = record {
  mode = refl;
  plan = refl;
  buckets = h.buckets;
  logs = shows_logs plan e window some h;
  marks = shows_marks plan e window some h;
  lawful = shows_lawful plan e window some h;
  lines = shows_lines plan e window some h;
  places = shows_places plan e window some h;
  causes = shows_causes plan e window some h;
  bounds = shows_bounds plan e window some h;
  host_lines = shows_host_lines plan e window some h;
  order = order plan e window some h;
  ends = shows_ends plan e window some h;
}
