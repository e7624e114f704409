use Rattle.std.proofs.Common.{◌∙◌, Ok, sym, ap}
use Rattle.nd_codec.proofs.Short.{not_short, not_other}
use Rattle.nd_codec.proofs.FirstFailed.{fails_is_short, fails_is_other, fails_has_other_hop_limit, fails_has_other_code, fails_has_other_checksum, fails_has_group_target, fails_has_other_options, fails_is_wrongly_unspecified, fails_is_wrongly_solicited, passes}
use Rattle.nd_codec.proofs.reading.read_nd.Goals as goal

pub returns-then-is_short : goal.returns-then-is_short
returns-then-is_short c = fails_is_short c.args.packet.now (sym c.is_short.ensures ∙ c.if-is_short.true)

pub returns-then-is_other : goal.returns-then-is_other
returns-then-is_other c = fails_is_other c.args.packet.now (sym c.is_short.ensures ∙ c.if-is_short.false) (sym c.is_other.ensures ∙ c.if-is_other.true)

pub returns-then-has_other_hop_limit : goal.returns-then-has_other_hop_limit
returns-then-has_other_hop_limit c = fails_has_other_hop_limit c.args.packet.now (sym c.is_short.ensures ∙ c.if-is_short.false) (sym c.is_other.ensures ∙ c.if-is_other.false) (sym c.has_other_hop_limit.ensures ∙ c.if-has_other_hop_limit.true)

pub returns-then-has_other_code : goal.returns-then-has_other_code
returns-then-has_other_code c = fails_has_other_code c.args.packet.now (sym c.is_short.ensures ∙ c.if-is_short.false) (sym c.is_other.ensures ∙ c.if-is_other.false) (sym c.has_other_hop_limit.ensures ∙ c.if-has_other_hop_limit.false) (sym c.has_other_code.ensures ∙ c.if-has_other_code.true)

pub returns-then-has_other_checksum : goal.returns-then-has_other_checksum
returns-then-has_other_checksum c = fails_has_other_checksum c.args.packet.now (sym c.is_short.ensures ∙ c.if-is_short.false) (sym c.is_other.ensures ∙ c.if-is_other.false) (sym c.has_other_hop_limit.ensures ∙ c.if-has_other_hop_limit.false) (sym c.has_other_code.ensures ∙ c.if-has_other_code.false) (sym c.has_other_checksum.ensures ∙ c.if-has_other_checksum.true)

pub returns-then-has_group_target : goal.returns-then-has_group_target
returns-then-has_group_target c = fails_has_group_target c.args.packet.now (sym c.is_short.ensures ∙ c.if-is_short.false) (sym c.is_other.ensures ∙ c.if-is_other.false) (sym c.has_other_hop_limit.ensures ∙ c.if-has_other_hop_limit.false) (sym c.has_other_code.ensures ∙ c.if-has_other_code.false) (sym c.has_other_checksum.ensures ∙ c.if-has_other_checksum.false) (sym c.has_group_target.ensures ∙ c.if-has_group_target.true)

pub returns-then-has_other_options : goal.returns-then-has_other_options
returns-then-has_other_options c = fails_has_other_options c.args.packet.now (sym c.is_short.ensures ∙ c.if-is_short.false) (sym c.is_other.ensures ∙ c.if-is_other.false) (sym c.has_other_hop_limit.ensures ∙ c.if-has_other_hop_limit.false) (sym c.has_other_code.ensures ∙ c.if-has_other_code.false) (sym c.has_other_checksum.ensures ∙ c.if-has_other_checksum.false) (sym c.has_group_target.ensures ∙ c.if-has_group_target.false) (sym c.has_other_options.ensures ∙ c.if-has_other_options.true)

pub returns-then-is_wrongly_unspecified : goal.returns-then-is_wrongly_unspecified
returns-then-is_wrongly_unspecified c = fails_is_wrongly_unspecified c.args.packet.now (sym c.is_short.ensures ∙ c.if-is_short.false) (sym c.is_other.ensures ∙ c.if-is_other.false) (sym c.has_other_hop_limit.ensures ∙ c.if-has_other_hop_limit.false) (sym c.has_other_code.ensures ∙ c.if-has_other_code.false) (sym c.has_other_checksum.ensures ∙ c.if-has_other_checksum.false) (sym c.has_group_target.ensures ∙ c.if-has_group_target.false) (sym c.has_other_options.ensures ∙ c.if-has_other_options.false) (sym c.is_wrongly_unspecified.ensures ∙ c.if-is_wrongly_unspecified.true)

pub returns-then-is_wrongly_solicited : goal.returns-then-is_wrongly_solicited
returns-then-is_wrongly_solicited c = fails_is_wrongly_solicited c.args.packet.now (sym c.is_short.ensures ∙ c.if-is_short.false) (sym c.is_other.ensures ∙ c.if-is_other.false) (sym c.has_other_hop_limit.ensures ∙ c.if-has_other_hop_limit.false) (sym c.has_other_code.ensures ∙ c.if-has_other_code.false) (sym c.has_other_checksum.ensures ∙ c.if-has_other_checksum.false) (sym c.has_group_target.ensures ∙ c.if-has_group_target.false) (sym c.has_other_options.ensures ∙ c.if-has_other_options.false) (sym c.is_wrongly_unspecified.ensures ∙ c.if-is_wrongly_unspecified.false) (sym c.is_wrongly_solicited.ensures ∙ c.if-is_wrongly_solicited.true)

pub returns : goal.returns
returns c = ap Ok c.nd_in.ensures ∙ passes c.args.packet.now (sym c.is_short.ensures ∙ c.if-is_short.false) (sym c.is_other.ensures ∙ c.if-is_other.false) (sym c.has_other_hop_limit.ensures ∙ c.if-has_other_hop_limit.false) (sym c.has_other_code.ensures ∙ c.if-has_other_code.false) (sym c.has_other_checksum.ensures ∙ c.if-has_other_checksum.false) (sym c.has_group_target.ensures ∙ c.if-has_group_target.false) (sym c.has_other_options.ensures ∙ c.if-has_other_options.false) (sym c.is_wrongly_unspecified.ensures ∙ c.if-is_wrongly_unspecified.false) (sym c.is_wrongly_solicited.ensures ∙ c.if-is_wrongly_solicited.false)

pub is_other-requires : goal.is_other-requires
is_other-requires c = not_short c.args.packet.now (sym c.is_short.ensures ∙ c.if-is_short.false)

pub has_other_hop_limit-requires : goal.has_other_hop_limit-requires
has_other_hop_limit-requires c = not_other c.args.packet.now (not_short c.args.packet.now (sym c.is_short.ensures ∙ c.if-is_short.false)) (sym c.is_other.ensures ∙ c.if-is_other.false)

pub has_other_code-requires : goal.has_other_code-requires
has_other_code-requires c = not_other c.args.packet.now (not_short c.args.packet.now (sym c.is_short.ensures ∙ c.if-is_short.false)) (sym c.is_other.ensures ∙ c.if-is_other.false)

pub has_other_checksum-requires : goal.has_other_checksum-requires
has_other_checksum-requires c = not_other c.args.packet.now (not_short c.args.packet.now (sym c.is_short.ensures ∙ c.if-is_short.false)) (sym c.is_other.ensures ∙ c.if-is_other.false)

pub has_group_target-requires : goal.has_group_target-requires
has_group_target-requires c = not_other c.args.packet.now (not_short c.args.packet.now (sym c.is_short.ensures ∙ c.if-is_short.false)) (sym c.is_other.ensures ∙ c.if-is_other.false)

pub has_other_options-requires : goal.has_other_options-requires
has_other_options-requires c = not_other c.args.packet.now (not_short c.args.packet.now (sym c.is_short.ensures ∙ c.if-is_short.false)) (sym c.is_other.ensures ∙ c.if-is_other.false)

pub is_wrongly_unspecified-requires-clause-message : goal.is_wrongly_unspecified-requires-clause-message
is_wrongly_unspecified-requires-clause-message c = not_other c.args.packet.now (not_short c.args.packet.now (sym c.is_short.ensures ∙ c.if-is_short.false)) (sym c.is_other.ensures ∙ c.if-is_other.false)

pub is_wrongly_solicited-requires : goal.is_wrongly_solicited-requires
is_wrongly_solicited-requires c = not_other c.args.packet.now (not_short c.args.packet.now (sym c.is_short.ensures ∙ c.if-is_short.false)) (sym c.is_other.ensures ∙ c.if-is_other.false)

pub nd_in-requires-clause-message : goal.nd_in-requires-clause-message
nd_in-requires-clause-message c = not_other c.args.packet.now (not_short c.args.packet.now (sym c.is_short.ensures ∙ c.if-is_short.false)) (sym c.is_other.ensures ∙ c.if-is_other.false)
