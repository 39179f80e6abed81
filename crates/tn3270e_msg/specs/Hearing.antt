-- What an item means for a talk, as the code and as the tables name it (RFC 1647, section 7). Only private contracts
-- and proofs cite it.
use Rattle.tn3270e_msg.specs.declared.hearing.Heard.{Heard}
use Rattle.tn3270e_msg.specs.declared.hearing.Heard.TheVariants as heard
use Rattle.tn3270e_msg.specs.Lent.{message_of}
use Rattle.tn3270e_msg.specs.Talk.{Comes, Will, Wont, Do, Dont, OtherWill, OtherDo, BreaksForm, NoTalk, message_says}

-- the tables' name for what the code heard
abbrev pub heard_says : Heard → Comes
heard_says heard.Will = Will
heard_says heard.Wont = Wont
heard_says heard.Do = Do
heard_says heard.Dont = Dont
heard_says (heard.OtherWill code) = OtherWill code
heard_says (heard.OtherDo code) = OtherDo code
heard_says (heard.Message message) = message_says (message_of message)
heard_says heard.Malformed = BreaksForm
heard_says heard.NoTalk = NoTalk
