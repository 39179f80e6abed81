use Rattle.std.proofs.Common.{sym}
use Rattle.datastream.proofs.InboundData.{one_up, moved, aid_unknown}
use Rattle.datastream.proofs.inbound.inbound_of.Goals as goal

pub returns-in_default-aid_from_byte : goal.returns-in_default-aid_from_byte
returns-in_default-aid_from_byte c =
    aid_unknown _ _ _ _ _ (one_up c.args.bytes.now c.in-len1-up.len_at_least) (sym c.in_default-aid_from_byte.ensures.aid)

pub returns-then-is_alone : goal.returns-then-is_alone
returns-then-is_alone c = moved _ _ _ _ _ (sym (one_up c.args.bytes.now c.in-len1-up.len_at_least)) c.short_read.ensures

pub returns-else-is_alone : goal.returns-else-is_alone
returns-else-is_alone c = moved _ _ _ _ _ (sym (one_up c.args.bytes.now c.in-len1-up.len_at_least)) c.long_inbound.ensures
