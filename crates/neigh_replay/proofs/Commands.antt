-- From what words ask for to the command.
use Rattle.std.proofs.Common.{◌≡◌, ℕ, List, Option, Some, None, refl, sym, ◌∙◌, subst}
use Rattle.nb_base.specs.declared.plan.Mode.{Mode}
use Rattle.neigh_words.specs.Settings.{Wanted, Replay, Generate, wanted, asked_by}
use Rattle.neigh_words.specs.declared.options.Settings.{Settings}
use Rattle.neigh_replay.specs.Status.{memory_line, usage_line}
use Rattle.neigh_replay.specs.Replay.{FilesCall, SinkCall, SinkSays, IsUntouched, IsReplay, inline_by}
use Rattle.neigh_replay.specs.Command.{HasEnded, IsCommand}
use Rattle.neigh_replay.proofs.Replays.{memory_replay, replay_not_usage}
use Rattle.neigh_replay.proofs.GeneratedRuns.{generated_without_memory, generated_not_usage}

-- the settings' own mode is `inline`
pub settings_replay : (s : Settings) (files : FilesCall) (out err : SinkCall) (status : ℕ) → IsReplay (inline_by s) files out err status → HasEnded (Replay (asked_by s)) files out err status
settings_replay s files out err status replay = subst (λ (m : Mode). IsReplay (record (asked_by s) { mode = m }) files out err status) (sym s.inline) replay

without_memory : (w : Wanted) (files : FilesCall) (out err : SinkCall) → IsUntouched out → SinkSays err memory_line → HasEnded w files out err 1
without_memory (Replay a) files out err untouched said = memory_replay a files out err untouched said
without_memory (Generate number) files out err untouched said = generated_without_memory number out err untouched said

-- it never has the status of other words
not_usage : (w : Wanted) (files : FilesCall) (out err : SinkCall) (status : ℕ) → HasEnded w files out err status → status ≡ 2 → ⊥
not_usage (Replay a) files out err status h two = replay_not_usage a files out err status h two
not_usage (Generate number) files out err status h two = generated_not_usage number out err status h two

-- words that aren't of the command ask for nothing
nothing_wanted : (words : List (List ℕ)) (w : Wanted) → wanted words ≡ None → wanted words ≡ Some w → ⊥
nothing_wanted words w none e = let both : ◌≡◌ {A = Option Wanted} None (Some w) = sym none ∙ e in cc

same_wanted : (v w : Wanted) → ◌≡◌ {A = Option Wanted} (Some v) (Some w) → v ≡ w
same_wanted v w e = cc

pub command_without_memory : (words : List (List ℕ)) (files : FilesCall) (out err : SinkCall) → IsUntouched out → SinkSays err memory_line → IsCommand words files out err 1
command_without_memory words files out err untouched said = record {
  usage = λ e. absurd cc;
  usage_always = λ none. refl;
  usage_said = λ e. absurd cc;
  usage_untouched = λ none. untouched;
  usage_memory = λ none e. said;
  asked = λ w e. without_memory w files out err untouched said;
}

pub command_refused : (words : List (List ℕ)) (files : FilesCall) (out err : SinkCall) → wanted words ≡ None → IsUntouched out → SinkSays err usage_line → IsCommand words files out err 2
command_refused words files out err none untouched said = record {
  usage = λ e. none;
  usage_always = λ e. refl;
  usage_said = λ e. said;
  usage_untouched = λ e. untouched;
  usage_memory = λ e one. absurd cc;
  asked = λ w e. absurd (nothing_wanted words w none e);
}

pub command_ended : (words : List (List ℕ)) (w : Wanted) (files : FilesCall) (out err : SinkCall) (status : ℕ) → wanted words ≡ Some w → HasEnded w files out err status → IsCommand words files out err status
command_ended words w files out err status e h = record {
  usage = λ two. absurd (not_usage w files out err status h two);
  usage_always = λ none. absurd (nothing_wanted words w none e);
  usage_said = λ two. absurd (not_usage w files out err status h two);
  usage_untouched = λ none. absurd (nothing_wanted words w none e);
  usage_memory = λ none one. absurd (nothing_wanted words w none e);
  asked = λ v ev. subst (λ (x : Wanted). HasEnded x files out err status) (same_wanted w v (sym e ∙ ev)) h;
}
