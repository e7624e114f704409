use Rattle.nb_base.proofs.Keys.{key4-only, key6-only, key-none}
use Rattle.nb_base.proofs.key.read_key.Goals as goal

pub returns-in-Some-clause-only : goal.returns-in-Some-clause-only
returns-in-Some-clause-only c = λ key h. key4-only c.args.text.now c.in-Some.address key c.in-Some.ensures.found c.in-Some.ensures.only h

pub returns-in-Some-read_ip6-clause-only : goal.returns-in-Some-read_ip6-clause-only
returns-in-Some-read_ip6-clause-only c = λ key h. key6-only c.args.text.now c.in-Some-read_ip6.address key c.in-None.ensures.only c.in-Some-read_ip6.ensures.only h

pub returns-in-None-read_ip6-clause-only : goal.returns-in-None-read_ip6-clause-only
returns-in-None-read_ip6-clause-only c = λ key h. key-none c.args.text.now key c.in-None.ensures.only c.in-None-read_ip6.ensures.only h
