use Rattle.tn3270e_msg.proofs.term_talk.TermState.message_transition.Goals as goal

pub returns-in-FunIs : goal.returns-in-FunIs
returns-in-FunIs c = rw (c.in-FunctionsAsked.is, c.in-FunIs.is, ← c.of.ensures) (c.agreement_transition.ensures c.args.model c.args.wanted)

pub returns-in-FunRequest : goal.returns-in-FunRequest
returns-in-FunRequest c = rw (c.in-FunctionsAsked.is, c.in-FunRequest.is, ← c.of-in-FunRequest.ensures) (c.functions_transition.ensures c.args.model c.args.wanted)
