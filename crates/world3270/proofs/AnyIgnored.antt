-- What the ends of a session answer or ignore: of such an item the host makes refusals of options, or nothing, and the terminal nothing. No
-- message of a session is one of these.
use Rattle.std.proofs.Common.{◌≡◌, ◌==◌, ◌&&◌, ◌≤◌, not, cond, ℕ, Bool, true, false, List, [], ◌∷◌, ◌++◌, Option, length, map, refl, ap, sym, subst, ◌∙◌, arith, if◌then◌else◌}
use Rattle.std.specs.Int.{to_be_bytes, w16}
use Rattle.std.specs.List.{AllByRecursion}
use Rattle.std.specs.Prelude.{⊤}
use Rattle.std.proofs.lemmas.Bool.{eqb-true}
use Rattle.codes3270.specs.declared.size.Model.{Model}
use Rattle.shadow.specs.Pairs.{Pairwise}
use Rattle.telnet_wire.specs.Items.{WireItem, Record, Opt as OptItem, Sub as SubItem, Other, CanCome}
use Rattle.telnet_wire.specs.Reading.{Rest}
use Rattle.telnet_wire.specs.declared.wire.Verb.{Verb}
use Rattle.telnet_wire.specs.declared.wire.Verb.TheVariants as verb
use Rattle.tn3270e_msg.specs.Header.{HasFault as HasHeadFault, IsFlag, record_limit, spelling, type_code}
use Rattle.tn3270e_msg.specs.HostTable.{host_transition}
use Rattle.tn3270e_msg.specs.Message.{Message, Spells, SendType, TypeRequest, TypeIs, TypeReject, FunRequest, FunIs}
use Rattle.tn3270e_msg.specs.Talk.{Comes, NegotiationMessage, PayloadSays, follow, option_says}
use Rattle.tn3270e_msg.specs.TermTable.{Term, term_transition}
use Rattle.tn3270e_msg.specs.declared.header.DataType.{DataType}
use Rattle.tn3270e_msg.specs.declared.header.DataType.TheVariants.{Data3270, ScsData, Response, BindImage, Unbind, NvtData, Request, SscpLuData, Unnamed}
use Rattle.tn3270e_msg.specs.declared.header.HeadFault.{HeadFault}
use Rattle.tn3270e_msg.specs.declared.header.HeadFault.TheVariants.{Short, BadFlag}
use Rattle.tn3270e_msg.specs.declared.header.Header.{Header}
use Rattle.tn3270e_msg.specs.declared.hearing.Transition.TheVariants.{Stays}
use Rattle.tn3270e_msg.specs.declared.host_talk.HostState.{HostState}
use Rattle.tn3270e_msg.specs.declared.host_talk.HostState.TheVariants.{Offered, Asked, Asking, Named, Countered, Agreed, Closed}
use Rattle.tn3270e_msg.specs.declared.reply.Reply.TheVariants as reply
use Rattle.tn3270e_msg.specs.declared.term_talk.TermState.{TermState}
use Rattle.tn3270e_msg.specs.declared.term_talk.TermState.TheVariants as at
use Rattle.term_core.specs.Bytes.{before_byte}
use Rattle.term_core.specs.Says.{data_header, outcome_code, response_header}
use Rattle.host_core.specs.Application.{Application}
use Rattle.host_core.specs.Items.{TakesItem, TakesRecord, TakesRecordIf}
use Rattle.host_core.specs.Messages.{ToHost, ToTerminal}
use Rattle.host_core.specs.Rejections.{lu_asked}
use Rattle.host_core.specs.Says.{item_sent}
use Rattle.host_core.specs.Session.{Session, is_agreed}
use Rattle.host_core.specs.Takes.{Answers, HostStep, quiet, talked, talked_on}
use Rattle.keyboard.specs.declared.key.Pressed.{Pressed}
use Rattle.keyboard.specs.declared.key.Pressed.TheVariants.{Done, Refused, Send}
use Rattle.codes3270.specs.Size.{ScreenSize}
use Rattle.datastream.specs.Screen.{Screen}
use Rattle.world3270.specs.model.Link.{Link}
use Rattle.world3270.specs.model.Terminal.{data_of}
use Rattle.world3270.specs.model.TrackedTerminals.{EndTakes}
use Rattle.world3270.specs.refinement.Ignored.{ends_tn3270e, is_ignored_by_host, is_ignored_by_terminal, is_of_other_option, is_of_other_type, refuses_option, without_ignored}
use Rattle.world3270.specs.refinement.Invariant.{ConnectionInvariant}
use Rattle.world3270.specs.refinement.Phases.{IsAt, LinkPhase, NegotiationPhase, SessionPhase, down_at, served_down, served_up, talk_down, talk_up, up_at}
use Rattle.world3270.specs.refinement.Represents.{ByteLink, BytesDown, BytesDownBy, LinkRepresentsBy, RepresentsDown, RepresentsUp, is_nop, without, without_nops}
use Rattle.world3270.specs.refinement.RepresentsEnds.{HaveNoEffect, IsOpen}
use Rattle.world3270.specs.refinement.RepresentsLinks.{ItemsAreSentBy, said_down}
use Rattle.world3270.specs.refinement.View.{view_of}
use Rattle.world3270.proofs.Represents.{no_talk_stays, nop_has_no_effect, saying_talks, side_of, unanswered, unmoved_by}
use Rattle.world3270.proofs.RepresentsLinks.{sent_nothing}
use Rattle.world3270.proofs.TalkStates.{agreed_there}

-- ---- which option a subnegotiation is of, and which type a record has

-- each message of ours begins with the option's code
begins_so : (message : Message) (bytes : List ℕ) → Spells message bytes → (rest : List ℕ) × (bytes ≡ 0x28 ∷ rest)
begins_so SendType bytes is = (_, is)
begins_so (TypeRequest device name) bytes is = (_, is)
begins_so (TypeIs device name) bytes is = (_, is)
begins_so (TypeReject reason) bytes is = (_, is)
begins_so (FunRequest functions) bytes is = (_, is.2)
begins_so (FunIs functions) bytes is = (_, is.2)

not_ours : (rest bytes : List ℕ) → bytes ≡ 0x28 ∷ rest → is_of_other_option bytes ≡ true → ⊥
not_ours rest bytes is other = let wrong : false ≡ true = sym (ap is_of_other_option is) ∙ other in cc

says_no_talk : (bytes : List ℕ) (comes : Comes) → is_of_other_option bytes ≡ true → PayloadSays bytes comes → comes ≡ Comes.NoTalk
says_no_talk bytes comes other (PayloadSays.message_comes message says is) =
    let it = begins_so message bytes says.encoded in absurd (not_ours it.0 bytes it.1 other)
says_no_talk bytes comes other (PayloadSays.others_message_comes fault is) = is
says_no_talk bytes comes other (PayloadSays.malformed_comes fault is) = absurd (not_ours fault.0.0 bytes fault.0.1 other)

-- neither 3270-DATA nor RESPONSE
abbrev other_code : ℕ → Bool
other_code kind = not (kind == 0) && not (kind == 2)

flag_any : (type : DataType) (flag : ℕ) → other_code (type_code type) ≡ true → IsFlag type flag
flag_any Data3270 flag other = absurd (cc)
flag_any ScsData flag other = tt
flag_any Response flag other = absurd (cc)
flag_any BindImage flag other = tt
flag_any Unbind flag other = tt
flag_any NvtData flag other = tt
flag_any Request flag other = tt
flag_any SscpLuData flag other = tt
flag_any (Unnamed code) flag other = tt

-- a record that has a header of another type
record OtherHeader (bytes : List ℕ) : Type 0 where
  kind : ℕ
  more : List ℕ
  is : bytes ≡ kind ∷ more
  other : other_code kind ≡ true
  long : 5 ≤ length bytes

has_header : (bytes : List ℕ) → is_of_other_type bytes ≡ true → OtherHeader bytes
has_header [] other = absurd (cc)
has_header (kind ∷ []) other = absurd (cc)
has_header (kind ∷ request ∷ []) other = absurd (cc)
has_header (kind ∷ request ∷ flag ∷ []) other = absurd (cc)
has_header (kind ∷ request ∷ flag ∷ high ∷ []) other = absurd (cc)
has_header (kind ∷ request ∷ flag ∷ high ∷ low ∷ body) other =
    record { kind = kind; more = request ∷ flag ∷ high ∷ low ∷ body; is = refl; other = other; long = omega arith }

heads : (x y : ℕ) (xs ys : List ℕ) → x ∷ xs ≡ y ∷ ys → x ≡ y
heads x y xs ys e = cc

other_type : (bytes : List ℕ) (header : Header) (body : List ℕ) → OtherHeader bytes → bytes ≡ spelling header ++ body → other_code (type_code header.kind) ≡ true
other_type bytes header body has is = ap other_code (sym (heads has.kind (type_code header.kind) has.more _ (sym has.is ∙ is))) ∙ has.other

record_dropped : (conn : Session) (bytes : List ℕ) (step : HostStep) → OtherHeader bytes → TakesRecord conn bytes step → step ≡ quiet conn
record_dropped conn bytes step has (TakesRecord.no_header fault no_header is) = absurd (by_fault fault no_header)
  where
    by_fault : (fault : HeadFault) → HasHeadFault bytes fault → ⊥
    by_fault Short short = let long = has.long in omega (arith, short, long)
    by_fault BadFlag bad = bad.4 (flag_any bad.0.kind bad.0.flag (other_type bytes bad.0 bad.1 has bad.2))
record_dropped conn bytes step has (TakesRecord.dropped header body begins other is) = is
record_dropped conn bytes step has (TakesRecord.data_is header body begins kind takes) =
    absurd (let wrong : false ≡ true = sym (ap (λ (type : DataType). other_code (type_code type)) kind) ∙ other_type bytes header body has begins.encoded in cc)
record_dropped conn bytes step has (TakesRecord.answered header body begins kind is) =
    absurd (let wrong : false ≡ true = sym (ap (λ (type : DataType). other_code (type_code type)) kind) ∙ other_type bytes header body has begins.encoded in cc)

-- ---- the host

-- the host refuses options, or does nothing
pub record OnlyRefuses (conn : Session) (step : HostStep) : Type 0 where
  pub says : List NegotiationMessage
  pub is : step ≡ record (quiet conn) { sends = map ToTerminal.TalksDown says }
  pub ignored : without is_ignored_by_terminal (map item_sent (map ToTerminal.TalksDown says)) ≡ []
  pub comes : AllByRecursion (CanCome record_limit) (map item_sent (map ToTerminal.TalksDown says))

does_nothing : (conn : Session) (step : HostStep) → step ≡ quiet conn → OnlyRefuses conn step
does_nothing conn step is = record { says = []; is = is; ignored = refl; comes = tt }

refuses_one : (conn : Session) (step : HostStep) (by : Verb) (code : ℕ) → refuses_option by code ≡ true → step ≡ record (quiet conn) { sends = ToTerminal.TalksDown (NegotiationMessage.Opt by code) ∷ [] }
    → OnlyRefuses conn step
refuses_one conn step by code refuses is = record {
  says = NegotiationMessage.Opt by code ∷ [];
  is = is;
  ignored = ap (λ (b : Bool). cond (not b) (OptItem by code ∷ []) []) refuses;
  comes = (tt, tt);
}

module _ (pool : Answers) (conn : Session) where
  -- what the talk makes of an item, at this state
  abbrev made_at : Comes → HostState → HostStep
  made_at what state = let next = follow Closed conn.talk (host_transition state what) in talked_on pool conn (lu_asked what) next.0 next.1

  no_talk : (state : HostState) → conn.talk.state ≡ state → is_agreed state ≡ true → talked pool conn conn.talk Comes.NoTalk ≡ quiet conn
  no_talk (Agreed device lu) same agrees = ap (made_at Comes.NoTalk) same
  no_talk Offered same agrees = absurd (cc)
  no_talk Asked same agrees = absurd (cc)
  no_talk (Asking device) same agrees = absurd (cc)
  no_talk (Named device lu) same agrees = absurd (cc)
  no_talk (Countered device lu) same agrees = absurd (cc)
  no_talk (Closed cause) same agrees = absurd (cc)

  option_at : (by : Verb) (code : ℕ) (state : HostState) → conn.talk.state ≡ state → is_agreed state ≡ true → ends_tn3270e by code ≡ false → OnlyRefuses conn (talked pool conn conn.talk (option_says by code))
  option_at by code (Agreed device lu) same agrees goes_on = by_verb by goes_on
    where
      by_will : (b : Bool) → (code == 40) ≡ b → OnlyRefuses conn (talked pool conn conn.talk (if b then Comes.Will else Comes.OtherWill code))
      by_will true e = does_nothing conn _ (ap (made_at Comes.Will) same)
      by_will false e = refuses_one conn _ verb.Dont code (ap not e) (ap (made_at (Comes.OtherWill code)) same)

      by_wont : (b : Bool) → b ≡ false → OnlyRefuses conn (talked pool conn conn.talk (if b then Comes.Wont else Comes.NoTalk))
      by_wont true e = absurd (cc)
      by_wont false e = does_nothing conn _ (ap (made_at Comes.NoTalk) same)

      by_do : (b : Bool) → OnlyRefuses conn (talked pool conn conn.talk (if b then Comes.Do else Comes.OtherDo code))
      by_do true = refuses_one conn _ verb.Wont 40 refl (ap (made_at Comes.Do) same)
      by_do false = refuses_one conn _ verb.Wont code refl (ap (made_at (Comes.OtherDo code)) same)

      by_dont : (b : Bool) → OnlyRefuses conn (talked pool conn conn.talk (if b then Comes.Dont else Comes.NoTalk))
      by_dont true = does_nothing conn _ (ap (made_at Comes.Dont) same)
      by_dont false = does_nothing conn _ (ap (made_at Comes.NoTalk) same)

      by_verb : (by : Verb) → ends_tn3270e by code ≡ false → OnlyRefuses conn (talked pool conn conn.talk (option_says by code))
      by_verb verb.Will goes_on = by_will (code == 40) refl
      by_verb verb.Wont goes_on = by_wont (code == 40) goes_on
      by_verb verb.Do goes_on = by_do (code == 40)
      by_verb verb.Dont goes_on = by_dont (code == 40)
  option_at by code Offered same agrees goes_on = absurd (cc)
  option_at by code Asked same agrees goes_on = absurd (cc)
  option_at by code (Asking device) same agrees goes_on = absurd (cc)
  option_at by code (Named device lu) same agrees goes_on = absurd (cc)
  option_at by code (Countered device lu) same agrees goes_on = absurd (cc)
  option_at by code (Closed cause) same agrees goes_on = absurd (cc)

  not_false : (b : Bool) → not b ≡ true → b ≡ false
  not_false true e = absurd (cc)
  not_false false e = refl

  -- of an item that it ignores the host of a session makes no more
  pub only_refuses : (item : WireItem) (step : HostStep) → is_ignored_by_host item ≡ true → is_agreed conn.talk.state ≡ true → TakesItem pool conn item step → OnlyRefuses conn step
  only_refuses (Other code) step ignored agrees taken =
      does_nothing conn step (taken.2 ∙ ap (λ (comes : Comes). talked pool conn conn.talk comes) taken.1 ∙ no_talk conn.talk.state refl agrees)
  only_refuses (OptItem by code) step ignored agrees taken =
      subst (OnlyRefuses conn) (sym (taken.2 ∙ ap (λ (comes : Comes). talked pool conn conn.talk comes) taken.1))
      (option_at by code conn.talk.state refl agrees (not_false (ends_tn3270e by code) ignored))
  only_refuses (SubItem bytes) step ignored agrees taken =
      does_nothing conn step
      (taken.2 ∙ ap (λ (comes : Comes). talked pool conn conn.talk comes) (says_no_talk bytes taken.0 ignored taken.1) ∙ no_talk conn.talk.state refl agrees)
  only_refuses (Record bytes) step ignored agrees taken =
      does_nothing conn step
      (record_dropped conn bytes step (has_header bytes ignored) (subst (λ (b : Bool). TakesRecordIf b conn bytes step) agrees taken))

-- ---- the terminal

wont_stays : (model : Model) (wanted : Option (List ℕ)) (state : TermState) → IsOpen state → term_transition model wanted state Comes.Wont ≡ Stays reply.Nothing
wont_stays model wanted at.Waiting is_open = refl
wont_stays model wanted at.Willing is_open = refl
wont_stays model wanted at.TypeAsked is_open = refl
wont_stays model wanted (at.FunctionsAsked lu) is_open = refl
wont_stays model wanted (at.Agreed lu) is_open = refl
wont_stays model wanted (at.Refused reason) is_open = refl
wont_stays model wanted (at.Closed cause) is_open = absurd is_open

refused_stays : (by : Verb) (code : ℕ) → refuses_option by code ≡ true → (model : Model) (wanted : Option (List ℕ)) (state : TermState) → IsOpen state
    → term_transition model wanted state (option_says by code) ≡ Stays reply.Nothing
refused_stays verb.Will code refuses model wanted state is_open = absurd (cc)
refused_stays verb.Do code refuses model wanted state is_open = absurd (cc)
refused_stays verb.Wont code refuses model wanted state is_open = by_test (code == 40)
  where
    by_test : (b : Bool) → term_transition model wanted state (if b then Comes.Wont else Comes.NoTalk) ≡ Stays reply.Nothing
    by_test true = wont_stays model wanted state is_open
    by_test false = no_talk_stays model wanted state is_open
refused_stays verb.Dont code refuses model wanted state is_open = by_test (code == 40) refuses
  where
    by_test : (b : Bool) → not b ≡ true → term_transition model wanted state (if b then Comes.Dont else Comes.NoTalk) ≡ Stays reply.Nothing
    by_test true e = absurd (cc)
    by_test false e = no_talk_stays model wanted state is_open

pub ignored_have_no_effect : HaveNoEffect is_ignored_by_terminal
ignored_have_no_effect (Other code) old end step ignored is_open is taken =
    nop_has_no_effect old end step is_open is (subst (λ (item : WireItem). EndTakes old item step) (ap (λ (n : ℕ). Other n) (eqb-true code 241 ignored)) taken)
ignored_have_no_effect (Record bytes) old end step ignored is_open is taken = absurd (cc)
ignored_have_no_effect (SubItem bytes) old end step ignored is_open is taken = absurd (cc)
ignored_have_no_effect (OptItem by code) old end step ignored is_open is taken =
    let state : old.talk.talk.state ≡ end.talk.talk.state = ap (λ (t : Term). t.talk.state) is.talk_is in
    let talks = saying_talks old.talk.talk.state (NegotiationMessage.Opt by code) old.talk step.end.talk (before_byte old.station) step.end.station step.says step.closes taken.takes in
    unmoved_by (OptItem by code) old end step is taken
    (unanswered (option_says by code) old.talk step.end.talk (before_byte old.station) step.end.station (OptItem by code) end step.says step.closes (side_of old end is) refl (λ comes heard. heard)
    (refused_stays by code ignored old.talk.model old.talk.wanted old.talk.talk.state (subst IsOpen (sym state) is_open)) talks)

-- ---- items that represent messages

-- inbound data, or a response
abbrev pub IsNoTalk : ToHost → Type 0
IsNoTalk (ToHost.TalksUp saying) = ⊥
IsNoTalk (ToHost.Data parts) = ⊤
IsNoTalk (ToHost.Response number verdict) = ⊤

-- it refuses no option
abbrev pub IsNoRefusal : ToTerminal → Type 0
IsNoRefusal (ToTerminal.TalksDown (NegotiationMessage.Opt by code)) = refuses_option by code ≡ false
IsNoRefusal (ToTerminal.TalksDown (NegotiationMessage.Sub sending)) = ⊤
IsNoRefusal (ToTerminal.Paint number wanted over) = ⊤
IsNoRefusal (ToTerminal.ReadBuffer number) = ⊤
IsNoRefusal (ToTerminal.Note number command) = ⊤

our_type : (kind : ℕ) (bytes : List ℕ) → other_code kind ≡ false → is_of_other_type (kind ∷ bytes) ≡ false
our_type kind [] ours = refl
our_type kind (request ∷ []) ours = refl
our_type kind (request ∷ flag ∷ []) ours = refl
our_type kind (request ∷ flag ∷ high ∷ []) ours = refl
our_type kind (request ∷ flag ∷ high ∷ low ∷ body) ours = ours

header_ours : (header : Header) (body : List ℕ) → other_code (type_code header.kind) ≡ false → is_of_other_type (spelling header ++ body) ≡ false
header_ours header body ours = our_type (type_code header.kind) (header.request ∷ header.flag ∷ (to_be_bytes w16 header.seq ++ body)) ours

is_heard : (item : WireItem) (message : ToHost) → IsNoTalk message → RepresentsUp item message → is_ignored_by_host item ≡ false
is_heard item (ToHost.TalksUp saying) none stands = absurd none
is_heard item (ToHost.Data parts) none stands = ap is_ignored_by_host stands.2 ∙ header_ours (data_header stands.0) stands.1 refl
is_heard item (ToHost.Response number verdict) none stands = ap is_ignored_by_host stands.1 ∙ header_ours (response_header number stands.0) (outcome_code stands.0 ∷ []) refl

pub all_heard : (items : List WireItem) (messages : List ToHost) → AllByRecursion IsNoTalk messages → Pairwise RepresentsUp items messages → without_ignored items ≡ items
all_heard [] messages none pairs = refl
all_heard (item ∷ items) [] none pairs = absurd pairs
all_heard (item ∷ items) (message ∷ messages) none pairs =
    ap (λ (b : Bool). cond (not b) (item ∷ without_ignored items) (without_ignored items)) (is_heard item message none.0 pairs.0)
    ∙ ap (λ (l : List WireItem). item ∷ l) (all_heard items messages none.1 pairs.1)

pub is_told : (item : WireItem) (message : ToTerminal) → IsNoRefusal message → RepresentsDown item message → is_ignored_by_terminal item ≡ false
is_told item (ToTerminal.TalksDown (NegotiationMessage.Opt by code)) none stands = ap is_ignored_by_terminal stands ∙ none
is_told item (ToTerminal.TalksDown (NegotiationMessage.Sub sending)) none stands = ap is_ignored_by_terminal stands
is_told item (ToTerminal.Paint number wanted over) none stands = ap is_ignored_by_terminal stands.is_record
is_told item (ToTerminal.ReadBuffer number) none stands = ap is_ignored_by_terminal stands.is_record
is_told item (ToTerminal.Note number command) none stands = ap is_ignored_by_terminal stands.is_record

pub all_told : (items : List WireItem) (messages : List ToTerminal) → AllByRecursion IsNoRefusal messages → Pairwise RepresentsDown items messages → without is_ignored_by_terminal items ≡ items
all_told [] messages none pairs = refl
all_told (item ∷ items) [] none pairs = absurd pairs
all_told (item ∷ items) (message ∷ messages) none pairs =
    ap (λ (b : Bool). cond (not b) (item ∷ without is_ignored_by_terminal items) (without is_ignored_by_terminal items)) (is_told item message none.0 pairs.0)
    ∙ ap (λ (l : List WireItem). item ∷ l) (all_told items messages none.1 pairs.1)

nop_ignored : (item : WireItem) → is_nop item ≡ true → is_ignored_by_terminal item ≡ true
nop_ignored (Other code) is = is
nop_ignored (Record bytes) is = absurd (cc)
nop_ignored (OptItem by code) is = absurd (cc)
nop_ignored (SubItem bytes) is = absurd (cc)

abbrev ignoring : List WireItem → List WireItem
ignoring items = without is_ignored_by_terminal items

-- NOPs are ignored anyway
nops_first : (items : List WireItem) → without is_ignored_by_terminal items ≡ without is_ignored_by_terminal (without_nops items)
nops_first [] = refl
nops_first (item ∷ items) = by_test (is_nop item) refl (nops_first items)
  where
    by_test : (b : Bool) → is_nop item ≡ b → ignoring items ≡ ignoring (without_nops items) → ignoring (item ∷ items) ≡ ignoring (without_nops (item ∷ items))
    by_test true e others =
        ap (λ (b : Bool). cond (not b) (item ∷ ignoring items) (ignoring items)) (nop_ignored item e) ∙ others
        ∙ sym (ap (λ (b : Bool). ignoring (cond (not b) (item ∷ without_nops items) (without_nops items))) e)
    by_test false e others =
        ap (λ (l : List WireItem). cond (not (is_ignored_by_terminal item)) (item ∷ l) l) others
        ∙ sym (ap (λ (b : Bool). ignoring (cond (not b) (item ∷ without_nops items) (without_nops items))) e)

-- bytes to our terminal are bytes to any, if no message refuses an option
pub any_down : (rest : Rest) (bytes : List ℕ) (messages : List ToTerminal) → AllByRecursion IsNoRefusal messages → BytesDown rest bytes messages → BytesDownBy is_ignored_by_terminal rest bytes messages
any_down rest bytes messages none stands = record {
  is_rest = stands.is_rest;
  items = stands.items;
  delivers = stands.delivers;
  each = subst (λ (items : List WireItem). Pairwise RepresentsDown items messages) (sym (nops_first stands.items ∙ all_told (without_nops stands.items) messages none stands.each)) stands.each;
}

-- the host sends what the terminal ignores
pub refusals_stand : {heard : List WireItem → List WireItem} {Up : WireItem → ToHost → Type 0} {ignored : WireItem → Bool} → ItemsAreSentBy heard Up ignored → (bytes : ByteLink) (link : Link) (items : List WireItem)
    → LinkRepresentsBy heard Up ignored bytes link → AllByRecursion (CanCome record_limit) items → without ignored items ≡ [] → LinkRepresentsBy heard Up ignored (said_down link.host items bytes) link
refusals_stand {heard} {Up} {ignored} sends bytes link items stands fit none =
    subst (λ (down : List ToTerminal). LinkRepresentsBy heard Up ignored (said_down link.host items bytes) (record link { down = down })) (sym (sent_nothing link.lost link.down))
    (sends bytes link link.host items [] stands fit (subst (λ (l : List WireItem). Pairwise RepresentsDown l []) (sym none) tt))

-- ---- lists

pub all_front : {X : Type 0} (P : X → Type 0) (front back : List X) → AllByRecursion P (front ++ back) → AllByRecursion P front
all_front P [] back all = tt
all_front P (x ∷ front) back all = (all.0, all_front P front back all.1)

pub all_back : {X : Type 0} (P : X → Type 0) (front back : List X) → AllByRecursion P (front ++ back) → AllByRecursion P back
all_back P [] back all = all
all_back P (x ∷ front) back all = all_back P front back all.1

-- ---- what is under way in a session

served_down_so : (serving : SessionPhase) → AllByRecursion IsNoRefusal (served_down serving)
served_down_so SessionPhase.Deciding = tt
served_down_so (SessionPhase.Reading number) = (tt, tt)
served_down_so (SessionPhase.BufferReturning number parts) = tt
served_down_so (SessionPhase.DecidingNoteSent number command) = (tt, tt)
served_down_so (SessionPhase.DecidingNoteAnswered number command) = tt
served_down_so (SessionPhase.Painting number command wanted over) = (tt, tt)
served_down_so (SessionPhase.AwaitingWriteResponse kind number command) = tt
served_down_so SessionPhase.OperatorTyping = tt
served_down_so (SessionPhase.Noting number command) = (tt, tt)
served_down_so (SessionPhase.KeySent parts) = tt
served_down_so (SessionPhase.KeySentAfterResponse kind number command parts) = tt
served_down_so (SessionPhase.KeyCrossingNote number command parts) = (tt, tt)
served_down_so (SessionPhase.KeyBeforeNoteResponse number command parts) = tt

talk_down_so : (model : Model) (talking : NegotiationPhase) → AllByRecursion IsNoRefusal (talk_down model talking)
talk_down_so model NegotiationPhase.Offering = (refl, tt)
talk_down_so model NegotiationPhase.Accepting = tt
talk_down_so model NegotiationPhase.AskingType = (tt, tt)
talk_down_so model NegotiationPhase.NamingType = tt
talk_down_so model (NegotiationPhase.Granting lu) = (tt, tt)
talk_down_so model (NegotiationPhase.AskingFunctions lu) = tt
talk_down_so model (NegotiationPhase.Agreeing lu) = (tt, tt)
talk_down_so model (NegotiationPhase.Rejecting reason) = (tt, tt)
talk_down_so model (NegotiationPhase.Rejected reason) = tt

down_so : (model : Model) (moment : LinkPhase) → AllByRecursion IsNoRefusal (down_at model moment)
down_so model (LinkPhase.Negotiating talking) = talk_down_so model talking
down_so model (LinkPhase.FirstPaint lu number command wanted over) = (tt, (tt, tt))
down_so model (LinkPhase.InSession lu serving) = served_down_so serving

pub no_refusal_under_way : (app : Application) (link : Link) → ConnectionInvariant app (view_of link) → AllByRecursion IsNoRefusal link.down
no_refusal_under_way app link k =
    all_front IsNoRefusal link.down k.at.goes_down.vanished (subst (AllByRecursion IsNoRefusal) (sym k.at.goes_down.whole) (down_so link.term.display.model k.moment))

served_up_so : (serving : SessionPhase) → AllByRecursion IsNoTalk (served_up serving)
served_up_so SessionPhase.Deciding = tt
served_up_so (SessionPhase.Reading number) = tt
served_up_so (SessionPhase.BufferReturning number parts) = (tt, tt)
served_up_so (SessionPhase.DecidingNoteSent number command) = tt
served_up_so (SessionPhase.DecidingNoteAnswered number command) = (tt, tt)
served_up_so (SessionPhase.Painting number command wanted over) = tt
served_up_so (SessionPhase.AwaitingWriteResponse kind number command) = (tt, tt)
served_up_so SessionPhase.OperatorTyping = tt
served_up_so (SessionPhase.Noting number command) = tt
served_up_so (SessionPhase.KeySent parts) = (tt, tt)
served_up_so (SessionPhase.KeySentAfterResponse kind number command parts) = (tt, (tt, tt))
served_up_so (SessionPhase.KeyCrossingNote number command parts) = (tt, tt)
served_up_so (SessionPhase.KeyBeforeNoteResponse number command parts) = (tt, (tt, tt))

pub no_talk_under_way : (app : Application) (link : Link) → ConnectionInvariant app (view_of link) → is_agreed link.host.talk.state ≡ true → AllByRecursion IsNoTalk link.up
no_talk_under_way app link k agrees =
    all_front IsNoTalk link.up k.at.goes_up.vanished (subst (AllByRecursion IsNoTalk) (sym k.at.goes_up.whole) (by_moment k.moment k.at))
  where
    model : Model
    model = link.term.display.model

    by_moment : (moment : LinkPhase) → IsAt (view_of link) k.wanted moment → AllByRecursion IsNoTalk (up_at model k.wanted moment)
    by_moment (LinkPhase.Negotiating talking) at =
        subst (λ (now : NegotiationPhase). AllByRecursion IsNoTalk (talk_up model k.wanted now)) (sym (agreed_there model talking link.host.talk at.host_talk agrees).1) tt
    by_moment (LinkPhase.FirstPaint lu number command paints over) at = tt
    by_moment (LinkPhase.InSession lu serving) at = served_up_so serving

-- a key's data is no talk
pub data_no_talk : (bound : Bool) (answer : Pressed) (shape : ScreenSize) (screen : Screen) → AllByRecursion IsNoTalk (data_of bound answer shape screen)
data_no_talk true (Send aid) shape screen = (tt, tt)
data_no_talk false (Send aid) shape screen = tt
data_no_talk true Done shape screen = tt
data_no_talk false Done shape screen = tt
data_no_talk true (Refused why) shape screen = tt
data_no_talk false (Refused why) shape screen = tt
