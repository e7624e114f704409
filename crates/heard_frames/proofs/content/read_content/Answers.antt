use Rattle.std.proofs.Common.{◌≡◌, ◌<◌, length, rules, arith, sym, ◌∙◌}
use Rattle.heard_frames.specs.Fields.{content_of}
use Rattle.heard_frames.proofs.Readings.{content_of-holds, content_of-only, content_of-frame, content_of-short}
use Rattle.heard_frames.proofs.content.read_content.Goals as goal

pub returns-in-Some-clause-value : goal.returns-in-Some-clause-value
returns-in-Some-clause-value c =
    c.frame_content.ensures
    ∙ sym (content_of-frame c.args.own.now c.args.bytes.now c.in-Some.view.dst c.in-Some.view.src c.in-Some.view.ethertype c.in-Some.view.body.now (λ i. omega (arith, c.type_inv.bytes i)) c.in-Some.ensures.found)

pub returns-in-Some-clause-found : goal.returns-in-Some-clause-found
returns-in-Some-clause-found c =
    let value : c.frame_content.result ≡ content_of c.args.own.now c.args.bytes.now = returns-in-Some-clause-value c in
    rw value (content_of-holds c.args.own.now c.args.bytes.now (λ i. omega (arith, c.type_inv.bytes i)))

pub returns-in-Some-clause-only : goal.returns-in-Some-clause-only
returns-in-Some-clause-only c = λ held h. returns-in-Some-clause-value c ∙ content_of-only c.args.own.now c.args.bytes.now held (λ i. omega (arith, c.type_inv.bytes i)) h

pub returns-in-None-clause-value : goal.returns-in-None-clause-value
returns-in-None-clause-value c = let few : length c.args.bytes.now < 14 = search rules in sym (content_of-short c.args.own.now c.args.bytes.now few)

pub returns-in-None-clause-found : goal.returns-in-None-clause-found
returns-in-None-clause-found c =
    let value = returns-in-None-clause-value c in
    rw value (content_of-holds c.args.own.now c.args.bytes.now (λ i. omega (arith, c.type_inv.bytes i)))

pub returns-in-None-clause-only : goal.returns-in-None-clause-only
returns-in-None-clause-only c = λ held h. returns-in-None-clause-value c ∙ content_of-only c.args.own.now c.args.bytes.now held (λ i. omega (arith, c.type_inv.bytes i)) h
