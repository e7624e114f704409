use Rattle.std.proofs.Common.{◌≡◌, ◌∙◌, sym, ap, subst, List, Ok}
use Rattle.std.specs.List.{AllByRecursion}
use Rattle.pcap_records.specs.declared.capture.Frame.{Frame}
use Rattle.pcap_records.specs.Writing.{AreFrames, IsCaptureOf, written}
use Rattle.neigh_script.specs.declared.script.Script.{Script}
use Rattle.neigh_script.specs.Written.{IsScriptItem, script_text}
use Rattle.neigh_script.specs.Limits.{IsWithinLimits, IsShort}
use Rattle.generated_input.specs.Files.{frames_of, script_from, script_of}
use Rattle.generated_input.proofs.Fitting.{frames_fit, script_written, script_within, script_short}
use Rattle.generated_input.proofs.files.generate.Goals as goal

pub write-requires : goal.write-requires
unfolding frames_of
write-requires c = subst AreFrames (sym (c.as_slice.ensures ∙ c.in_ok-frames.ensures.frames)) (frames_fit c.args.number)

pub write-requires-2 : goal.write-requires-2
unfolding script_of
write-requires-2 c =
    let is : c.in_ok-script.script ≡ script_of c.args.number = c.in_ok-script.ensures ∙ ap script_from c.in_ok-frames.ensures.draws in
    subst (λ (s : Script). AllByRecursion IsScriptItem s.items) (sym is) (script_written c.args.number)

pub returns-clause-capture : goal.returns-clause-capture
unfolding frames_of
returns-clause-capture c = c.in_ok-capture.ensures.text ∙ ap written (c.as_slice.ensures ∙ c.in_ok-frames.ensures.frames)

pub returns-clause-capture_again : goal.returns-clause-capture_again
unfolding frames_of
returns-clause-capture_again c =
    subst (λ (frames : List Frame). IsCaptureOf c.in_ok-capture.capture frames) (c.as_slice.ensures ∙ c.in_ok-frames.ensures.frames) c.in_ok-capture.ensures.again

pub returns-clause-script : goal.returns-clause-script
unfolding script_of
returns-clause-script c = c.in_ok-text.ensures.text ∙ ap script_text (c.in_ok-script.ensures ∙ ap script_from c.in_ok-frames.ensures.draws)

pub returns-clause-script_again : goal.returns-clause-script_again
unfolding script_of
returns-clause-script_again c =
    let is : c.in_ok-script.script ≡ script_of c.args.number = c.in_ok-script.ensures ∙ ap script_from c.in_ok-frames.ensures.draws in
    c.in_ok-text.ensures.again (subst IsWithinLimits (sym is) (script_within c.args.number)) (subst IsShort (sym is) (script_short c.args.number)) ∙ ap Ok is
