-- What the laws ask for is met, and the texts are needed: a plan with one look has an inline run, and a run without lines that its text tells too.
use Rattle.std.proofs.Common.{◌≡◌, [], ◌∷◌, List, refl, subst, arith}
use Rattle.std.specs.Prelude.{codes, None}
use Rattle.nb_base.specs.declared.op.Op.TheVariants as op
use Rattle.nb_base.specs.declared.plan.Mode.TheVariants as mode
use Rattle.nb_base.specs.declared.plan.Plan.{Plan}
use Rattle.nb_base.specs.declared.plan.ControlItem.TheVariants as control
use Rattle.nb_base.specs.Params.{default_params, InRange}
use Rattle.nb_journal.proofs.Appends.{lawful-nil}
use Rattle.neigh_run.specs.declared.run.Run.{Run}
use Rattle.neigh_run.specs.Control.{host_start}
use Rattle.neigh_run.specs.Merged.{Entered}
use Rattle.neigh_run.specs.Inline.{host_lines_of, IsInlineRun}
use Rattle.neigh_run.specs.Report.{report_text}
use Rattle.run_texts.specs.Told.{IsToldRun}
use Rattle.run_texts.specs.Laws.{IsPlayable, TextsTellInlineRuns}

defaults_in_range : InRange default_params
defaults_in_range = record {
  gc_thresh1 = (omega arith, omega arith);
  gc_thresh2 = (omega arith, omega arith);
  gc_thresh3 = (omega arith, omega arith);
  gc_interval = (omega arith, omega arith);
  gc_stale_time = (omega arith, omega arith);
  locktime = (omega arith, omega arith);
  retrans_time = (omega arith, omega arith);
  base_reachable_time = (omega arith, omega arith);
  delay_first_probe_time = (omega arith, omega arith);
  mcast_solicit = (omega arith, omega arith);
  ucast_solicit = (omega arith, omega arith);
  proxy_delay = (omega arith, omega arith);
  proxy_qlen = (omega arith, omega arith);
  unres_qlen_bytes = (omega arith, omega arith);
}

-- one look at 5
abbrev look : Plan
look = record {
  host = record { dev = codes "eth0"; mac = record { 0 = 2 ∷ 0 ∷ 0 ∷ 0 ∷ 0 ∷ 2 ∷ [] }; ip4 = None; ip6 = None };
  params = default_params;
  buckets = 1;
  window = 50;
  control = control.Neigh 5 op.Show ∷ [];
  senders = [];
}

look_playable : IsPlayable look
look_playable = record {
  dev = refl;
  params = defaults_in_range;
  buckets = refl;
  limits = record { control = record { rises = (omega arith, tt); few = omega arith }; senders = tt; few = omega arith };
  asked = (refl, tt);
  control = (omega arith, tt);
  senders = tt;
}

-- its run without lines
abbrev without_lines : Run
without_lines = record {
  mode = mode.Inline;
  plan = look;
  journals = [] ∷ [];
  host_lines = host_lines_of look ([] ∷ []) host_start 1 look.control;
  logs = [];
  marks = [];
}

without_lines_told : IsToldRun mode.Inline [] look without_lines
without_lines_told = record {
  mode_is = refl;
  plan = refl;
  buckets = refl;
  journals = (record { lawful = lawful-nil default_params defaults_in_range; named = tt; alone = λ one. tt }, tt);
  logs = λ few. tt;
  host_lines = refl;
  marks = refl;
  lengths = λ few. tt;
}

no_entry : (x : Entered) (xs : List Entered) → [] ≡ x ∷ xs → ⊥
no_entry x xs e = cc

-- it isn't the inline one, and so its text is another
not_inline : IsInlineRun look without_lines → ⊥
not_inline h = no_entry (record { at = 5; id = record { 0 = 32 }; op = op.Show }) [] h.journals.0.entered

other_text : TextsTellInlineRuns → (run : Run) → IsInlineRun look run → report_text run ≡ report_text without_lines → ⊥
other_text law run h text = not_inline (subst (IsInlineRun look) (law look run without_lines look_playable h without_lines_told text) h)
