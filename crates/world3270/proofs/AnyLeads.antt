-- While a read is pending few characters lead in a key's data, so that it can't be taken for the read's answer: the screen that the host was told has
-- fields; and one that Clear nulled in the wait isn't sent when it is full.
use Rattle.std.proofs.Common.{◌&&◌, not, map, ◌⊎◌, inl, inr, ◌++◌, ◌≡◌, ◌<◌, ◌≤◌, ◌==◌, ◌||◌, arith, ℕ, suc, Bool, true, false, None, Some, Option, List, [], ◌∷◌, refl, ap, sym, subst, ◌∙◌, if◌then◌else◌, append-nil, length, replicate}
use Rattle.std.specs.Prelude.{⊤, IfSome}
use Rattle.std.specs.Option.{option_and_then}
use Rattle.std.specs.List.{list_all}
use Rattle.std.proofs.lemmas.List.{length-replicate}
use Rattle.codes3270.specs.Size.{ScreenSize, cells_in}
use Rattle.codes3270.specs.declared.attention.Aid.{Aid}
use Rattle.codes3270.specs.declared.attention.Aid.TheVariants.{Clear, NoAid, Enter, Pf, Pa}
use Rattle.codes3270.specs.declared.attribute.Cell.{Cell}
use Rattle.codes3270.specs.declared.attribute.Cell.TheVariants.{Char, Attr}
use Rattle.datastream.specs.Fields.{fields}
use Rattle.datastream.specs.Grammar.{CommandParts}
use Rattle.datastream.specs.Inbound.{without_nulls}
use Rattle.datastream.specs.InboundFields.{Returned, buffer_data, leading_text_of, modified_data, parts_of_fields, returned_of}
use Rattle.datastream.specs.InboundText.{InboundParts, stands_alone}
use Rattle.datastream.specs.KeptByKeys.{KeptByKeys}
use Rattle.datastream.specs.Meaning.{after_command}
use Rattle.datastream.specs.Screen.{Screen, is_char, text_before_attribute}
use Rattle.datastream.specs.Wanted.{WantedScreen}
use Rattle.datastream.specs.declared.inbound_part.Form.TheVariants.{Buffer, Modified}
use Rattle.datastream.proofs.FieldViews.{none_listed}
use Rattle.keyboard.specs.State.{Keyboard}
use Rattle.keyboard.specs.declared.key.Pressed.TheVariants.{Send}
use Rattle.lu_pool.specs.Asking.{answer_to}
use Rattle.lu_pool.specs.HolderLaws.{IsSound}
use Rattle.lu_pool.specs.declared.entry.Entry.{Entry}
use Rattle.panels.specs.declared.next.Next.{Next}
use Rattle.panels.specs.declared.next.Next.TheVariants.{Go, Ask, Again}
use Rattle.shadow.specs.Belief.{Shadow}
use Rattle.shadow.specs.Sized.{MeetsIsOfSize}
use Rattle.shadow.proofs.HeardOthers.{no_field}
use Rattle.tn3270e_msg.specs.Talk.{NegotiationMessage}
use Rattle.tn3270e_msg.specs.declared.cause.Cause.{Cause}
use Rattle.host_core.specs.Acts.{Act, Decision, Sent, acted, decided, decision_on, done, first_panel, may_act, on_empty}
use Rattle.host_core.specs.Application.{Application, IsApplication}
use Rattle.host_core.specs.Messages.{ToHost, ToTerminal, Verdict}
use Rattle.host_core.specs.Notes.{may_note, noted, noted_as}
use Rattle.host_core.specs.Questions.{act_by, answered_on, has_its_panel, is_asking, panel_for}
use Rattle.host_core.specs.Session.{Pending, Session, is_agreed}
use Rattle.host_core.specs.Takes.{Answers, HostStep, form_awaited, took as host_took}
use Rattle.host_core.specs.declared.question.Answer.{Answer as ApplicationAnswer}
use Rattle.host_core.specs.declared.turn_reason.TurnReason.{TurnReason}
use Rattle.host_core.specs.declared.turn_reason.TurnReason.TheVariants as turn_reasons
use Rattle.world3270.specs.model.Enabled.{is_queued}
use Rattle.world3270.specs.model.Link.{Link, sent, host_left_if, host_sent, term_left_if, term_stepped}
use Rattle.world3270.specs.model.Terminal.{Display, TermEnd, TermStep, data_of, is_bound, note_came, once_bound, read_came, talked}
use Rattle.world3270.specs.refinement.LowerLaws.{LowerLaws}
use Rattle.world3270.specs.refinement.Readings.{count_leading}
use Rattle.world3270.specs.refinement.RepresentsLinks.{HasTheSizes}
use Rattle.world3270.specs.statement.EveryTerminal.{IsByTheRules, LinkWithReport, Move, came_down, came_up, executed, is_pa, moved, operated, paint_executed, sends_clear, told_if}
use Rattle.world3270.specs.statement.EveryTerminalBytes.{is_full, sends_full}
use Rattle.world3270.specs.statement.Rules.{Operates, after_sending, data_by, edited, shows, with_aid}
use Rattle.world3270.proofs.AnyBeside.{Known, hears_known}
use Rattle.world3270.proofs.AnyTerminal.{IsWellFormedMove, told_link_is}
use Rattle.world3270.proofs.EveryTerminal.{IsBeside}
use Rattle.world3270.proofs.HostSteps.{JustTalks, just_talks}
use Rattle.world3270.proofs.ReadsInput.{still_unformatted}
use Rattle.world3270.proofs.RepresentsLinks.{MayTakeNext}
use Rattle.world3270.proofs.WhileReading.{has_response, modified_only}

-- ---- what is queued

-- fewer characters precede the first address than the screen has cells
abbrev HasFewLeading : ToHost → Type 0
HasFewLeading (ToHost.Data parts) = parts.form ≡ Modified → 0 < cells_in parts.size → count_leading parts.parts < cells_in parts.size
HasFewLeading (ToHost.TalksUp saying) = ⊤
HasFewLeading (ToHost.Response number verdict) = ⊤

-- few characters lead in data that no response follows, unless the screen that the host was told has no fields (`Bare`)
abbrev FewLead : Type 0 → List ToHost → Type 0
FewLead Bare [] = ⊤
FewLead Bare (message ∷ messages) = (has_response messages ≡ false → HasFewLeading message ⊎ Bare) × FewLead Bare messages

response_last : (messages : List ToHost) (number : ℕ) (verdict : Verdict) → has_response (messages ++ ToHost.Response number verdict ∷ []) ≡ true
response_last [] number verdict = refl
response_last (ToHost.Response other said ∷ messages) number verdict = refl
response_last (ToHost.Data parts ∷ messages) number verdict = response_last messages number verdict
response_last (ToHost.TalksUp saying ∷ messages) number verdict = response_last messages number verdict

-- a response is last: all before it is left out
exempt : (Bare : Type 0) (messages : List ToHost) (number : ℕ) (verdict : Verdict) → FewLead Bare (messages ++ ToHost.Response number verdict ∷ [])
exempt Bare [] number verdict = ((λ e. inl tt), tt)
exempt Bare (message ∷ messages) number verdict =
    ((λ e. absurd (let both : true ≡ false = sym (response_last messages number verdict) ∙ e in cc)), exempt Bare messages number verdict)

weaker : (Bare Other : Type 0) → (Bare → Other) → (messages : List ToHost) → FewLead Bare messages → FewLead Other messages
weaker Bare Other goes [] leads = tt
weaker Bare Other goes (message ∷ messages) leads = ((λ e. either (leads.0 e)), weaker Bare Other goes messages leads.1)
  where
    either : HasFewLeading message ⊎ Bare → HasFewLeading message ⊎ Other
    either (inl x) = inl x
    either (inr x) = inr (goes x)

data_last : (messages : List ToHost) (parts : InboundParts) → has_response (messages ++ ToHost.Data parts ∷ []) ≡ has_response messages
data_last [] parts = refl
data_last (ToHost.Response other said ∷ messages) parts = refl
data_last (ToHost.Data other ∷ messages) parts = data_last messages parts
data_last (ToHost.TalksUp saying ∷ messages) parts = data_last messages parts

more_data : (Bare : Type 0) (messages : List ToHost) (parts : InboundParts) → FewLead Bare messages → HasFewLeading (ToHost.Data parts) ⊎ Bare → FewLead Bare (messages ++ ToHost.Data parts ∷ [])
more_data Bare [] parts leads last = ((λ e. last), tt)
more_data Bare (message ∷ messages) parts leads last = ((λ e. leads.0 (sym (data_last messages parts) ∙ e)), more_data Bare messages parts leads.1 last)

talk_last : (messages : List ToHost) (talk : List NegotiationMessage) → has_response (messages ++ map ToHost.TalksUp talk) ≡ has_response messages
talk_last [] [] = refl
talk_last [] (saying ∷ talk) = talk_last [] talk
talk_last (ToHost.Response other said ∷ messages) talk = refl
talk_last (ToHost.Data other ∷ messages) talk = talk_last messages talk
talk_last (ToHost.TalksUp saying ∷ messages) talk = talk_last messages talk

more_talk : (Bare : Type 0) (messages : List ToHost) (talk : List NegotiationMessage) → FewLead Bare messages → FewLead Bare (messages ++ map ToHost.TalksUp talk)
more_talk Bare [] [] leads = tt
more_talk Bare [] (saying ∷ talk) leads = ((λ e. inl tt), more_talk Bare [] talk tt)
more_talk Bare (message ∷ messages) talk leads = ((λ e. leads.0 (sym (talk_last messages talk) ∙ e)), more_talk Bare messages talk leads.1)

if_sent : (Bare : Type 0) (lost : Bool) (queue says : List ToHost) → FewLead Bare queue → FewLead Bare (queue ++ says) → FewLead Bare (sent lost queue says)
if_sent Bare true queue says stays more = stays
if_sent Bare false queue says stays more = more

-- the first of a queue without responses
first_lead : (Bare : Type 0) (message : ToHost) (messages : List ToHost) → FewLead Bare (message ∷ messages) → has_response messages ≡ false → (Bare → ⊥) → HasFewLeading message
first_lead Bare message messages leads none fields = either (leads.0 none)
  where
    either : HasFewLeading message ⊎ Bare → HasFewLeading message
    either (inl x) = x
    either (inr x) = absurd (fields x)

-- ---- a read is asked for after a key

abbrev pub IsAsked : Session → Type 0
IsAsked conn = form_awaited conn.pending ≡ Buffer → conn.turn_reason ≡ turn_reasons.Agreement → ⊥

hears_asked : (pool : Answers) (conn : Session) (message : ToHost) → IsAsked conn → IsAsked (host_took pool conn message).conn
hears_asked pool conn message asked reads = by_reason just.reason (by_pending just.pending)
  where
    just : JustTalks conn (host_took pool conn message)
    just = just_talks pool conn message

    by_pending : ((host_took pool conn message).conn.pending ≡ conn.pending) ⊎ ((host_took pool conn message).conn.pending ≡ Pending.Nothing) → form_awaited conn.pending ≡ Buffer
    by_pending (inl same) = sym (ap form_awaited same) ∙ reads
    by_pending (inr none) = absurd (modified_only (sym (ap form_awaited none) ∙ reads))

    by_reason : ((host_took pool conn message).conn.turn_reason ≡ conn.turn_reason) ⊎ ((host_took pool conn message).conn.turn_reason ≡ turn_reasons.Agreement → ⊥) → form_awaited conn.pending ≡ Buffer
        → (host_took pool conn message).conn.turn_reason ≡ turn_reasons.Agreement → ⊥
    by_reason (inl same) was e = asked was (sym same ∙ e)
    by_reason (inr never) was e = never e

-- an act that shows a panel writes; and at agreement the host shows one
done_asked : (app : Application) (conn : Session) (act : Act) → (act ≡ Act.Read → conn.turn_reason ≡ turn_reasons.Agreement → ⊥) → IsAsked (done app conn act).conn
done_asked app conn Act.Read read reads = read refl
done_asked app conn (Act.Show panel message keep values) read reads = λ e. modified_only reads

decided_asked : (app : Application) (conn : Session) (b : Bool) (reason : TurnReason) → conn.turn_reason ≡ reason → IfSome (option_and_then (decided app conn) (if b then Some (decision_on app conn reason) else None)) (λ sending. IsAsked sending.conn)
decided_asked app conn false reason is = tt
decided_asked app conn true turn_reasons.Agreement is = by_next (app.next (first_panel app conn) NoAid)
  where
    by_next : (next : Next) → IfSome (decided app conn (on_empty app.start conn.values next)) (λ sending. IsAsked sending.conn)
    by_next Again = λ reads e. modified_only reads
    by_next (Go target) = λ reads e. modified_only reads
    by_next Ask = tt
decided_asked app conn true turn_reasons.Refusal is = λ reads e. modified_only reads
decided_asked app conn true turn_reasons.Restoration is = λ reads e. modified_only reads
decided_asked app conn true (turn_reasons.Key aid buffered) is = by_decision (decision_on app conn (turn_reasons.Key aid buffered))
  where
    by_decision : (decision : Decision) → IfSome (decided app conn decision) (λ sending. IsAsked sending.conn)
    by_decision (Decision.Do act) = done_asked app conn act (λ read e. let both = sym is ∙ e in absurd (cc))
    by_decision Decision.Asks = tt

answered_asked : (app : Application) (conn : Session) (said : ApplicationAnswer) (b : Bool) (panel : Option ℕ) → IfSome (if b then Some (done app conn (act_by app conn said panel)) else None) (λ sending. IsAsked sending.conn)
answered_asked app conn said false panel = tt
answered_asked app conn said true None = λ reads e. modified_only reads
answered_asked app conn said true (Some panel) = λ reads e. modified_only reads

noted_asked : (text : List ℕ) (conn : Session) (b : Bool) → IfSome (if b then Some (noted_as text conn) else None) (λ sending. IsAsked sending.conn)
noted_asked text conn false = tt
noted_asked text conn true = λ reads e. modified_only reads

-- ---- what holds

-- the host reads what it asked for, and each key's data in the queue begins with an address
pub record KeysHaveFewLeading (t : LinkWithReport) : Type 0 where
  pub asked : IsAsked t.link.host
  pub queue : FewLead (fields t.told.screen.cells ≡ []) t.link.up

sent_leads : (what : Option Sent) (t : LinkWithReport) → KeysHaveFewLeading t → IfSome what (λ sending. IsAsked sending.conn) → KeysHaveFewLeading (record t { link = host_sent what t.link })
sent_leads None t l asked = l
sent_leads (Some sending) t l asked = record { asked = asked; queue = l.queue }

host_left : (cause : Option Cause) (link : Link) (t : LinkWithReport) → KeysHaveFewLeading (record t { link = link }) → KeysHaveFewLeading (record t { link = host_left_if cause link })
host_left None link t l = l
host_left (Some cause) link t l = record { asked = l.asked; queue = l.queue }

up_leads : (t : LinkWithReport) → KeysHaveFewLeading t → (pool : List Entry) (up : List ToHost) → t.link.up ≡ up → KeysHaveFewLeading (came_up pool up t)
up_leads t l pool [] e = l
up_leads t l pool (message ∷ rest) e =
    let step : HostStep = host_took (answer_to pool) t.link.host message in
    host_left step.closes (record t.link { up = rest; host = step.conn; down = sent t.link.lost t.link.down step.sends }) t
    (record {
      asked = hears_asked (answer_to pool) t.link.host message l.asked;
      queue = (subst (λ (up : List ToHost). FewLead (fields t.told.screen.cells ≡ []) up) e l.queue).1;
    })

-- a text without its nulls
with_one : (b : Bool) (byte : ℕ) (text : List ℕ) (most : ℕ) → length text ≤ most → length (if not b then byte ∷ text else text) ≤ suc most
with_one true byte text most few = omega (arith, few)
with_one false byte text most few = omega (arith, few)

at_most : (cells : List Cell) → length (without_nulls (text_before_attribute cells)) ≤ length cells
at_most [] = omega arith
at_most (Attr attribute ∷ cells) = omega arith
at_most (Char byte ∷ cells) = with_one (byte == 0) byte (without_nulls (text_before_attribute cells)) (length cells) (at_most cells)

fewer_with_one : (b : Bool) (byte : ℕ) (text : List ℕ) (most : ℕ) (full : Bool) → length text ≤ most → (full ≡ false → length text < most) → (not b && full) ≡ false → length (if not b then byte ∷ text else text) < suc most
fewer_with_one true byte text most full few fewer none = omega (arith, few)
fewer_with_one false byte text most full few fewer none = let less = fewer none in omega (arith, less)

few_typed : (cells : List Cell) → list_all is_char cells ≡ true → is_full cells ≡ false → length (without_nulls (text_before_attribute cells)) < length cells
few_typed [] chars full = absurd (cc)
few_typed (Attr attribute ∷ cells) chars full = absurd (cc)
few_typed (Char byte ∷ cells) chars full =
    fewer_with_one (byte == 0) byte (without_nulls (text_before_attribute cells)) (length cells) (is_full cells) (at_most cells) (few_typed cells chars) full

count_text : (text : List ℕ) (found : List Returned) → count_leading (parts_of_fields text found) ≡ length text
count_text [] [] = refl
count_text [] (one ∷ more) = refl
count_text (byte ∷ text) found = ap suc (count_text text found)

-- a key's own data: few characters lead, unless the screen is full of them
own_leading_text : (Bare : Type 0) (size : ScreenSize) (screen : Screen) → length screen.cells ≡ cells_in size
    → (stands_alone Modified screen.aid ≡ false → fields screen.cells ≡ [] → (is_full screen.cells ≡ false) ⊎ Bare) → HasFewLeading (ToHost.Data (modified_data Modified size screen)) ⊎ Bare
own_leading_text Bare size screen whole typed = by_alone (stands_alone Modified screen.aid) refl
  where
    long : InboundParts
    long = record { form = Modified; size = size; aid = screen.aid; cursor = Some screen.cursor; parts = parts_of_fields (leading_text_of screen.cells) (returned_of screen.cells) }

    count : (all : Bool) → list_all is_char screen.cells ≡ all → count_leading long.parts ≡ length (if all then without_nulls (text_before_attribute screen.cells) else [])
    count all chars =
        count_text (leading_text_of screen.cells) (returned_of screen.cells)
        ∙ ap (λ (b : Bool). length (if b then without_nulls (text_before_attribute screen.cells) else [])) chars

    by_fields : (all : Bool) → list_all is_char screen.cells ≡ all → stands_alone Modified screen.aid ≡ false → HasFewLeading (ToHost.Data long) ⊎ Bare
    by_fields true chars e = either (typed e (none_listed screen.cells 0 screen.cells chars))
      where
        either : (is_full screen.cells ≡ false) ⊎ Bare → HasFewLeading (ToHost.Data long) ⊎ Bare
        either (inr bare) = inr bare
        either (inl full) =
            inl (λ form some. subst (λ (n : ℕ). n < cells_in size) (sym (count true chars))
            (subst (λ (n : ℕ). length (without_nulls (text_before_attribute screen.cells)) < n) whole (few_typed screen.cells chars full)))
    by_fields false chars e = inl (λ form some. subst (λ (n : ℕ). n < cells_in size) (sym (count false chars)) some)

    by_alone : (b : Bool) → stands_alone Modified screen.aid ≡ b
        → HasFewLeading (ToHost.Data (if b then record { form = Modified; size = size; aid = screen.aid; cursor = None; parts = [] } else long)) ⊎ Bare
    by_alone true e = inl (λ form some. some)
    by_alone false e = by_fields (list_all is_char screen.cells) refl e

-- ---- screens without fields

aid_bare : (aid : Aid) (screen : Screen) → fields screen.cells ≡ [] → fields (with_aid aid screen).cells ≡ []
aid_bare Clear screen none = no_field (replicate (length screen.cells) (Char 0)) 0 (length screen.cells)
aid_bare NoAid screen none = none
aid_bare Enter screen none = none
aid_bare (Pf key) screen none = none
aid_bare (Pa key) screen none = none

-- a key whose data has fields leaves the cells
long_same : (aid : Aid) (screen : Screen) → stands_alone Modified (with_aid aid screen).aid ≡ false → (with_aid aid screen).cells ≡ screen.cells
long_same Clear screen long = absurd (cc)
long_same NoAid screen long = refl
long_same Enter screen long = refl
long_same (Pf key) screen long = refl
long_same (Pa key) screen long = refl

aid_length : (aid : Aid) (screen : Screen) → length (with_aid aid screen).cells ≡ length screen.cells
aid_length Clear screen = length-replicate (length screen.cells) (Char 0)
aid_length NoAid screen = refl
aid_length Enter screen = refl
aid_length (Pf key) screen = refl
aid_length (Pa key) screen = refl

not_all : (queued alone full : Bool) → queued ≡ true → alone ≡ false → (queued && (not alone && full)) ≡ false → full ≡ false
not_all true false full is_queued long none = none
not_all true true full is_queued long none = absurd (cc)
not_all false alone full is_queued long none = absurd (cc)

operated_leads : (waits : Bool) (step : TermStep) (t : LinkWithReport) → step.closes ≡ None → IsAsked t.link.host → FewLead (fields (if waits then t.told else step.end.display).screen.cells ≡ []) (sent t.link.lost t.link.up step.sends)
    → KeysHaveFewLeading (record { link = term_stepped step t.link.down t.link; told = if waits then t.told else step.end.display; waits = t.waits || is_queued step.sends; cleared = t.cleared || (t.waits && sends_clear step) })
operated_leads waits step t closes asked queue =
    let stays : Link = record t.link { term = step.end; up = sent t.link.lost t.link.up step.sends } in
    let told : Display = if waits then t.told else step.end.display in
    subst (λ (c : Option Cause). KeysHaveFewLeading (record { link = term_left_if c stays; told = told; waits = t.waits || is_queued step.sends; cleared = t.cleared || (t.waits && sends_clear step) })) (sym closes) (record { asked = asked; queue = queue })

module _ (given : LowerLaws) (sized_so : MeetsIsOfSize) (app : Application) (is : IsApplication app) (sizes : HasTheSizes app) (lu : List ℕ) (t : LinkWithReport) (k : Known app lu t) (alive : t.link.lost ≡ false)
    (l : KeysHaveFewLeading t) where
  -- a message came down
  taken_leads : (message : ToTerminal) (rest : List ToTerminal) → t.link.down ≡ message ∷ rest → (executed t.link.term message).closes ≡ None
      → KeysHaveFewLeading (told_if (is_bound t.link.term) message t (term_stepped (executed t.link.term message) rest t.link))
  taken_leads message rest e closes = by_message message e closes
    where
      end : TermEnd
      end = t.link.term

      Bare : Type 0
      Bare = fields t.told.screen.cells ≡ []

      silent : (term : TermEnd) → KeysHaveFewLeading (record t { link = record t.link { down = rest; term = term; up = sent t.link.lost t.link.up [] } })
      silent term = record { asked = l.asked; queue = if_sent Bare t.link.lost t.link.up [] l.queue (subst (FewLead Bare) (sym (append-nil t.link.up)) l.queue) }

      answered : (told : Display) (waits cleared : Bool) (term : TermEnd) (number : ℕ)
          → KeysHaveFewLeading (record { link = record t.link { down = rest; term = term; up = sent t.link.lost t.link.up (ToHost.Response number Verdict.Positive ∷ []) }; told = told; waits = waits; cleared = cleared })
      answered told waits cleared term number = record {
        asked = l.asked;
        queue = subst (λ (b : Bool). FewLead (fields told.screen.cells ≡ []) (sent b t.link.up (ToHost.Response number Verdict.Positive ∷ []))) (sym alive)
            (exempt (fields told.screen.cells ≡ []) t.link.up number Verdict.Positive);
      }

      by_paint : (b : Bool) (number : ℕ) (wanted : WantedScreen) (over : Shadow) → KeysHaveFewLeading (told_if b (ToTerminal.Paint number wanted over) t (term_stepped (once_bound b (paint_executed number wanted over end) end) rest t.link))
      by_paint true number wanted over =
          let after : LinkWithReport = told_if true (ToTerminal.Paint number wanted over) t (term_stepped (paint_executed number wanted over end) rest t.link) in
          answered after.told after.waits after.cleared (paint_executed number wanted over end).end number
      by_paint false number wanted over = silent end

      by_note : (b : Bool) (number : ℕ) (command : CommandParts) → KeysHaveFewLeading (told_if b (ToTerminal.Note number command) t (term_stepped (once_bound b (note_came number command end) end) rest t.link))
      by_note true number command = answered (record t.told { screen = after_command command t.told.screen }) t.waits t.cleared (record end { display = record end.display { screen = after_command command end.display.screen } }) number
      by_note false number command = silent end

      by_read : (b : Bool) (number : ℕ) → t.link.down ≡ ToTerminal.ReadBuffer number ∷ rest → KeysHaveFewLeading (told_if b (ToTerminal.ReadBuffer number) t (term_stepped (once_bound b (read_came end) end) rest t.link))
      by_read false number is_it = silent end
      by_read true number is_it = by_key (is_pa t.told.screen.aid) refl
        where
          read : ToHost
          read = ToHost.Data (buffer_data end.display.size end.display.screen)

          with_read : (Is : Type 0) → FewLead Is t.link.up → FewLead Is (sent t.link.lost t.link.up (read ∷ []))
          with_read Is was = if_sent Is t.link.lost t.link.up (read ∷ []) was (more_data Is t.link.up (buffer_data end.display.size end.display.screen) was (inl (λ form. absurd (modified_only (sym form)))))

          by_key : (pa : Bool) → is_pa t.told.screen.aid ≡ pa
              → KeysHaveFewLeading (record { link = term_stepped (read_came end) rest t.link; told = if pa then record end.display { screen = record end.display.screen { aid = t.told.screen.aid } } else t.told; waits = t.waits; cleared = t.cleared })
          by_key true pa = record { asked = l.asked; queue = with_read (fields end.display.screen.cells ≡ []) (weaker Bare (fields end.display.screen.cells ≡ []) (k.read_bare number rest is_it pa) t.link.up l.queue) }
          by_key false pa = record { asked = l.asked; queue = with_read Bare l.queue }

      by_talk : (saying : NegotiationMessage) → (talked end end.talk saying).closes ≡ None → (b : Bool) → KeysHaveFewLeading (told_if b (ToTerminal.TalksDown saying) t (term_stepped (talked end end.talk saying) rest t.link))
      by_talk saying closes b =
          let step : TermStep = talked end end.talk saying in
          let stays : Link = record t.link { down = rest; term = step.end; up = sent t.link.lost t.link.up step.sends } in
          let goes : KeysHaveFewLeading (record t { link = term_left_if step.closes stays }) =
          subst (λ (c : Option Cause). KeysHaveFewLeading (record t { link = term_left_if c stays })) (sym closes)
          (record { asked = l.asked; queue = if_sent Bare t.link.lost t.link.up step.sends l.queue (more_talk Bare t.link.up _ l.queue) }) in
          either b goes
        where
          either : (b : Bool) {link : Link} → KeysHaveFewLeading (record t { link = link }) → KeysHaveFewLeading (told_if b (ToTerminal.TalksDown saying) t link)
          either true goes = record { asked = goes.asked; queue = goes.queue }
          either false goes = goes

      by_message : (m : ToTerminal) → t.link.down ≡ m ∷ rest → (executed end m).closes ≡ None → KeysHaveFewLeading (told_if (is_bound end) m t (term_stepped (executed end m) rest t.link))
      by_message (ToTerminal.Paint number wanted over) is_it closes = by_paint (is_bound end) number wanted over
      by_message (ToTerminal.Note number command) is_it closes = by_note (is_bound end) number command
      by_message (ToTerminal.ReadBuffer number) is_it closes = by_read (is_bound end) number is_it
      by_message (ToTerminal.TalksDown saying) is_it closes = by_talk saying closes (is_bound end)

  -- the operator did something
  edits_leads : (step : TermStep) (keyboard : Keyboard) (cells : List Cell) (cursor : ℕ) (erases : Bool) → KeptByKeys erases t.link.term.display.screen.cells cells
      → step ≡ shows keyboard (edited cells cursor erases t.link.term.display) [] t.link.term → KeysHaveFewLeading (operated step t)
  edits_leads step keyboard cells cursor erases held is =
      subst (λ (did : TermStep). KeysHaveFewLeading (operated did t)) (sym is)
      (operated_leads t.waits (shows keyboard (edited cells cursor erases t.link.term.display) [] t.link.term) t refl l.asked
      (if_sent _ t.link.lost t.link.up [] (by_wait t.waits refl) (subst (FewLead _) (sym (append-nil t.link.up)) (by_wait t.waits refl))))
    where
      by_wait : (b : Bool) → t.waits ≡ b → FewLead (fields (if b then t.told else record (edited cells cursor erases t.link.term.display) { keyboard = keyboard }).screen.cells ≡ []) t.link.up
      by_wait true e = l.queue
      by_wait false e = weaker (fields t.told.screen.cells ≡ []) (fields cells ≡ []) (λ none. still_unformatted given.keys.round erases t.link.term.display.screen.cells cells held (k.now_bare e none)) t.link.up l.queue

  sends_leads : (step : TermStep) (keyboard : Keyboard) (aid : Aid) → length t.link.term.display.screen.cells ≡ cells_in t.link.term.display.size → (t.cleared ≡ true → sends_full step ≡ false)
      → step ≡ shows keyboard (after_sending aid t.link.term.display) (data_by aid t.link.term) t.link.term → KeysHaveFewLeading (operated step t)
  sends_leads step keyboard aid whole not_full is =
      subst (λ (did : TermStep). KeysHaveFewLeading (operated did t)) (sym is)
      (operated_leads t.waits (shows keyboard (after_sending aid t.link.term.display) (data_by aid t.link.term) t.link.term) t refl l.asked (by_wait t.waits refl))
    where
      now : Screen
      now = t.link.term.display.screen

      sent_screen : Screen
      sent_screen = with_aid aid now

      sent_whole : length (with_aid aid now).cells ≡ cells_in t.link.term.display.size
      sent_whole = aid_length aid now ∙ whole

      queued : (Bare : Type 0) (b : Bool) → is_bound t.link.term ≡ b → FewLead Bare t.link.up → (is_bound t.link.term ≡ true → HasFewLeading (ToHost.Data (modified_data Modified t.link.term.display.size (with_aid aid now))) ⊎ Bare)
          → FewLead Bare (sent t.link.lost t.link.up (data_of b (Send aid) t.link.term.display.size (with_aid aid now)))
      queued Bare true bound was last = if_sent Bare t.link.lost t.link.up _ was (more_data Bare t.link.up _ was (last bound))
      queued Bare false bound was last = if_sent Bare t.link.lost t.link.up [] was (subst (FewLead Bare) (sym (append-nil t.link.up)) was)

      -- what the operator typed in the wait
      typed : is_bound t.link.term ≡ true → (b : Bool) → t.cleared ≡ b → stands_alone Modified (with_aid aid now).aid ≡ false → fields (with_aid aid now).cells ≡ [] → (is_full (with_aid aid now).cells ≡ false) ⊎ (fields t.told.screen.cells ≡ [])
      typed bound false uncleared long none = inr (k.told_bare uncleared (sym (ap fields (long_same aid now long)) ∙ none))
      typed bound true cleared long none =
          inl (not_all (is_queued (data_by aid t.link.term)) (stands_alone Modified (with_aid aid now).aid) (is_full (with_aid aid now).cells)
          (ap (λ (b : Bool). is_queued (data_of b (Send aid) t.link.term.display.size (with_aid aid now))) bound) long (sym (ap sends_full is) ∙ not_full cleared))

      by_wait : (b : Bool) → t.waits ≡ b
          → FewLead (fields (if b then t.told else record (after_sending aid t.link.term.display) { keyboard = keyboard }).screen.cells ≡ []) (sent t.link.lost t.link.up (data_of (is_bound t.link.term) (Send aid) t.link.term.display.size (with_aid aid now)))
      by_wait true e =
          queued (fields t.told.screen.cells ≡ []) (is_bound t.link.term) refl l.queue
          (λ bound. own_leading_text (fields t.told.screen.cells ≡ []) t.link.term.display.size (with_aid aid now) sent_whole (typed bound t.cleared refl))
      by_wait false e =
          queued (fields (with_aid aid now).cells ≡ []) (is_bound t.link.term) refl
          (weaker (fields t.told.screen.cells ≡ []) (fields (with_aid aid now).cells ≡ []) (λ none. aid_bare aid now (k.now_bare e none)) t.link.up l.queue)
          (λ bound. own_leading_text (fields (with_aid aid now).cells ≡ []) t.link.term.display.size (with_aid aid now) sent_whole (λ long none. inr none))

  operates_leads : (step : TermStep) (does : Operates t.link.term step) → length t.link.term.display.screen.cells ≡ cells_in t.link.term.display.size → (t.cleared ≡ true → sends_full step ≡ false) → KeysHaveFewLeading (operated step t)
  operates_leads step (Operates.edits keyboard cells cursor erases held on is) whole not_full = edits_leads step keyboard cells cursor erases held is
  operates_leads step (Operates.sends keyboard aid some is) whole not_full = sends_leads step keyboard aid whole not_full is

  down_leads : MayTakeNext t.link → (down : List ToTerminal) → t.link.down ≡ down → KeysHaveFewLeading (came_down down t)
  down_leads next [] e = l
  down_leads next (message ∷ rest) e = taken_leads message rest e (next.none message rest e)

  -- ---- each move

  pub move_leads : (move : Move) → MayTakeNext t.link → length t.link.term.display.screen.cells ≡ cells_in t.link.term.display.size → IsByTheRules move t → IsWellFormedMove move t → KeysHaveFewLeading (moved app move t)
  move_leads (Move.Up pool) next whole rules typed = up_leads t l pool t.link.up refl
  move_leads Move.Down next whole rules typed = down_leads next t.link.down refl
  move_leads Move.Act next whole rules typed =
      sent_leads (acted app t.link.host) t l (decided_asked app t.link.host (may_act t.link.host.turn t.link.host.pending (is_agreed t.link.host.talk.state)) t.link.host.turn_reason refl)
  move_leads (Move.Answer said) next whole rules typed =
      sent_leads (answered_on app t.link.host said) t l (answered_asked app t.link.host said (is_asking app t.link.host && has_its_panel app said) (panel_for app t.link.host said))
  move_leads (Move.Note text) next whole rules typed =
      sent_leads (noted text t.link.host) t l (noted_asked text t.link.host (may_note t.link.host.turn t.link.host.pending (is_agreed t.link.host.talk.state)))
  move_leads (Move.Operate step) next whole rules typed = operates_leads step rules.0 whole typed.not_full
  move_leads Move.Lose next whole rules typed = absurd typed

  -- ---- it isn't lost

  sent_alive : (what : Option Sent) → (host_sent what t.link).lost ≡ false
  sent_alive None = alive
  sent_alive (Some sending) = alive

  operated_closes : (end : TermEnd) (step : TermStep) → Operates end step → step.closes ≡ None
  operated_closes end step (Operates.edits keyboard cells cursor erases held on is) = ap (λ (s : TermStep). s.closes) is
  operated_closes end step (Operates.sends keyboard aid some is) = ap (λ (s : TermStep). s.closes) is

  up_alive : IsBeside app lu t → (pool : List Entry) → IsSound pool → (up : List ToHost) → t.link.up ≡ up → (came_up pool up t).link.lost ≡ false
  up_alive b pool sound [] e = alive
  up_alive b pool sound (message ∷ rest) e =
      let step : HostStep = host_took (answer_to pool) t.link.host message in
      ap (λ (c : Option Cause). (host_left_if c (record t.link { up = rest; host = step.conn; down = sent t.link.lost t.link.down step.sends })).lost) (hears_known given app is lu t b pool sound message rest e) ∙ alive

  down_alive : MayTakeNext t.link → (down : List ToTerminal) → t.link.down ≡ down → (came_down down t).link.lost ≡ false
  down_alive next [] e = alive
  down_alive next (message ∷ rest) e =
      let step : TermStep = executed t.link.term message in
      ap (λ (u : Link). u.lost) (told_link_is (is_bound t.link.term) message t (term_stepped step rest t.link))
      ∙ ap (λ (c : Option Cause). (term_left_if c (record t.link { down = rest; term = step.end; up = sent t.link.lost t.link.up step.sends })).lost) (next.none message rest e) ∙ alive

  pub alive_still : (move : Move) → IsBeside app lu t → MayTakeNext t.link → IsByTheRules move t → IsWellFormedMove move t → (moved app move t).link.lost ≡ false
  alive_still (Move.Up pool) b next rules typed = up_alive b pool rules t.link.up refl
  alive_still Move.Down b next rules typed = down_alive next t.link.down refl
  alive_still Move.Act b next rules typed = sent_alive (acted app t.link.host)
  alive_still (Move.Answer said) b next rules typed = sent_alive (answered_on app t.link.host said)
  alive_still (Move.Note text) b next rules typed = sent_alive (noted text t.link.host)
  alive_still (Move.Operate step) b next rules typed =
      ap (λ (c : Option Cause). (term_left_if c (record t.link { term = step.end; up = sent t.link.lost t.link.up step.sends })).lost) (operated_closes t.link.term step rules.0) ∙ alive
  alive_still Move.Lose b next rules typed = absurd typed

  -- ---- while a read is pending few characters lead

  pub few_now : (parts : InboundParts) (others : List ToHost) → t.link.up ≡ ToHost.Data parts ∷ others → parts.form ≡ Modified → 0 < cells_in parts.size → form_awaited t.link.host.pending ≡ Buffer
      → count_leading parts.parts < cells_in parts.size
  few_now parts others e form some reads =
      let its = k.reading (ToHost.Data parts) others e reads (l.asked reads) in
      first_lead (fields t.told.screen.cells ≡ []) (ToHost.Data parts) others (subst (FewLead (fields t.told.screen.cells ≡ [])) e l.queue) its.0 its.1 form some

-- at agreement nothing comes up
pub begins_leads : (t : LinkWithReport) → t.link.host.pending ≡ Pending.Nothing → t.link.up ≡ [] → KeysHaveFewLeading t
begins_leads t pends none = record {
  asked = λ reads e. modified_only (sym (ap form_awaited pends) ∙ reads);
  queue = subst (FewLead (fields t.told.screen.cells ≡ [])) (sym none) tt;
}
