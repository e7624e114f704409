use Rattle.std.proofs.Common.{ℕ, ap, Some}
use Rattle.nb_base.proofs.Groups.{HasGroups-found, HasGroups-only, HasGroups-none, groups_value-found, groups_value-none}
use Rattle.nb_base.proofs.key.read_groups.Goals as goal

pub returns-in-Ok-clause-found : goal.returns-in-Ok-clause-found
returns-in-Ok-clause-found c = HasGroups-found c.args.text.now c.in-Ok.address c.to_bits.result c.in-Ok.ensures c.to_bits.ensures

pub returns-in-Ok-clause-only : goal.returns-in-Ok-clause-only
returns-in-Ok-clause-only c = λ m h. ap (λ (x : ℕ). Some x) (HasGroups-only c.args.text.now c.in-Ok.address c.to_bits.result m c.in-Ok.ensures c.to_bits.ensures h)

pub returns-in-Err-clause-only : goal.returns-in-Err-clause-only
returns-in-Err-clause-only c = λ m h. absurd (HasGroups-none c.args.text.now m c.in-Err.ensures h)

pub returns-in-Ok-clause-value : goal.returns-in-Ok-clause-value
returns-in-Ok-clause-value c = groups_value-found c.args.text.now c.in-Ok.address c.to_bits.result c.in-Ok.ensures c.to_bits.ensures

pub returns-in-Err-clause-value : goal.returns-in-Err-clause-value
returns-in-Err-clause-value c = groups_value-none c.args.text.now c.in-Err.ensures
