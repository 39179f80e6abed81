-- What is known of a connection beside which a terminal waits, wherever that is: Clear wasn't pressed in the wait, or was, or crossed a paint
-- that is repeated. From here on it makes no difference which.
use Rattle.std.proofs.Common.{◌≡◌, ◌⊎◌, inl, inr, ◌||◌, ℕ, Bool, true, false, Option, None, Some, List, [], ◌∷◌, ◌++◌, length, refl, ap, sym, subst, ◌∙◌}
use Rattle.std.specs.Prelude.{⊤, is_some}
use Rattle.std.specs.List.{AllByRecursion}
use Rattle.codes3270.specs.Size.{cells_in}
use Rattle.codes3270.specs.declared.size.Model.{Model}
use Rattle.datastream.specs.Fields.{fields}
use Rattle.datastream.specs.Grammar.{CommandParts}
use Rattle.datastream.specs.HeldLaws.{HeldIsRound}
use Rattle.datastream.specs.InboundFields.{IsSendable, buffer_data}
use Rattle.datastream.specs.InboundText.{InboundParts}
use Rattle.datastream.specs.KeptByKeys.{KeptByKeys}
use Rattle.datastream.specs.Screen.{Screen}
use Rattle.datastream.specs.Wanted.{WantedScreen}
use Rattle.datastream.specs.declared.command_code.CommandCode.{CommandCode}
use Rattle.datastream.specs.declared.command_code.CommandCode.TheVariants.{Write}
use Rattle.datastream.specs.declared.inbound_part.Form.TheVariants.{Buffer, Modified}
use Rattle.lu_pool.specs.Asking.{answer_to}
use Rattle.lu_pool.specs.HolderLaws.{IsSound as IsSoundPool}
use Rattle.lu_pool.specs.declared.entry.Entry.{Entry}
use Rattle.presentation.specs.Sizes.{HasSize}
use Rattle.shadow.specs.Belief.{Shadow}
use Rattle.shadow.specs.Exactness.{is_erase}
use Rattle.shadow.specs.Paint.{paint_code}
use Rattle.shadow.specs.Sized.{MeetsIsOfSize}
use Rattle.tn3270e_msg.specs.TermTable.{Term}
use Rattle.tn3270e_msg.specs.declared.cause.Cause.{Cause}
use Rattle.tn3270e_msg.specs.declared.term_talk.TermState.{TermState}
use Rattle.host_core.specs.Acts.{learned}
use Rattle.host_core.specs.Application.{Application, AreTexts, IsApplication, IsSizeOf}
use Rattle.host_core.specs.Messages.{ToHost, ToTerminal}
use Rattle.host_core.specs.Session.{Pending, Session, agreed_lu, is_agreed}
use Rattle.host_core.specs.Takes.{form_awaited, is_after_pa, is_unread, may_have_changed, took as host_took}
use Rattle.host_core.specs.declared.turn.Turn.{Turn}
use Rattle.host_core.specs.declared.turn.Turn.TheVariants as whose
use Rattle.host_core.specs.declared.turn_reason.TurnReason.TheVariants.{Agreement}
use Rattle.world3270.specs.model.Link.{Link, host_left_if}
use Rattle.world3270.specs.model.Terminal.{Display, TermEnd, bound_to, is_bound, once_bound, talked, took}
use Rattle.world3270.specs.refinement.Invariant.{ConnectionInvariant}
use Rattle.world3270.specs.refinement.LowerLaws.{LowerLaws}
use Rattle.world3270.specs.refinement.Phases.{IsAt, LinkPhase, NegotiationPhase, SessionPhase, down_at, served_down}
use Rattle.world3270.specs.refinement.RepresentsEnds.{IsOpen, IsSaid, MayCome, NamesWanted}
use Rattle.world3270.specs.refinement.RepresentsLinks.{HasTheSizes}
use Rattle.world3270.specs.refinement.View.{view_of}
use Rattle.world3270.specs.statement.EveryTerminal.{LinkWithReport, Move, came_up, executed, is_clear, is_pa, moved}
use Rattle.world3270.specs.statement.Forms.{IsAwaitedBy}
use Rattle.world3270.specs.statement.Shown.{is_painting}
use Rattle.world3270.proofs.AnyIgnored.{IsNoRefusal, IsNoTalk, all_front, no_refusal_under_way, no_talk_under_way}
use Rattle.world3270.proofs.Cleared.{Cleared, Follows, HasRead, HostsAlike, IsPlain, Stage, agrees_still, but_belief, may_change}
use Rattle.world3270.proofs.ClearedQueue.{AddsKeys, AnswersAlike, any_keys, clears_behind}
use Rattle.world3270.proofs.ClearedDown.{gone_now, note_unpainted}
use Rattle.world3270.proofs.ClearedHost.{nothing_erases, paints_so}
use Rattle.world3270.proofs.ComesDown.{ReadComes, note_comes, paint_comes, read_comes}
use Rattle.world3270.proofs.EveryTerminal.{IsBeside, move_follows}
use Rattle.world3270.proofs.Executing.{MayTake}
use Rattle.world3270.proofs.Forms.{awaited}
use Rattle.world3270.proofs.Headline.{knows_at}
use Rattle.world3270.proofs.Obeys.{obeys}
use Rattle.world3270.proofs.Queues.{empty_queue}
use Rattle.world3270.proofs.ReadsInput.{still_unformatted}
use Rattle.world3270.proofs.Repeating.{AfterPaint, AnswersBehind, AreKeys, IsKeyData, Repeating, agrees_there}
use Rattle.world3270.proofs.Returning.{pa_counts}
use Rattle.world3270.proofs.RepresentsComing.{has_size, is_open, may_come}
use Rattle.world3270.proofs.RepresentsLinks.{MayTakeNext}
use Rattle.world3270.proofs.RepresentsSizes.{executes}
use Rattle.world3270.proofs.SecondKeys.{SaysAlike, pending_after, turn_after}
use Rattle.world3270.proofs.Sendable.{LearnsTexts, NoteFits, learned_texts, note_fits}
use Rattle.world3270.proofs.Simulation.{Simulated, has_agreed, is_waiting}
use Rattle.world3270.proofs.SimulatedHost.{nothing_up}
use Rattle.world3270.proofs.TalkStates.{agreed_there}
use Rattle.world3270.proofs.WhileReading.{has_fields, has_response, none_responds, once_unformatted}

-- ---- what is under way

-- whether a paint is among the messages
abbrev pub has_paint : List ToTerminal → Bool
has_paint [] = false
has_paint (ToTerminal.Paint number wanted over ∷ down) = true
has_paint (ToTerminal.TalksDown saying ∷ down) = has_paint down
has_paint (ToTerminal.ReadBuffer number ∷ down) = has_paint down
has_paint (ToTerminal.Note number command ∷ down) = has_paint down

-- nothing but data
abbrev pub IsDataOnly : List ToHost → Type 0
IsDataOnly [] = ⊤
IsDataOnly (ToHost.Data parts ∷ up) = IsDataOnly up
IsDataOnly (ToHost.Response number verdict ∷ up) = ⊥
IsDataOnly (ToHost.TalksUp saying ∷ up) = ⊥

paint_first : (queue vanished : List ToTerminal) → has_paint queue ≡ true → has_paint (queue ++ vanished) ≡ true
paint_first [] vanished is = absurd (cc)
paint_first (ToTerminal.Paint number wanted over ∷ queue) vanished is = refl
paint_first (ToTerminal.TalksDown saying ∷ queue) vanished is = paint_first queue vanished is
paint_first (ToTerminal.ReadBuffer number ∷ queue) vanished is = paint_first queue vanished is
paint_first (ToTerminal.Note number command ∷ queue) vanished is = paint_first queue vanished is

-- while a paint is under way to the terminal that waits, the host waits for its answer, and nothing comes up
painting_told : (app : Application) (link : Link) → ConnectionInvariant app (view_of link) → is_agreed link.host.talk.state ≡ true → has_paint link.down ≡ true → (is_painting link.host.pending ≡ true) × (link.up ≡ [])
painting_told app link k agrees paints = by_moment k.moment k.at (ap has_paint (sym k.at.goes_down.whole) ∙ paint_first link.down k.at.goes_down.vanished paints)
  where
    model : Model
    model = link.term.display.model

    by_serving : (lu : List ℕ) (serving : SessionPhase) → IsAt (view_of link) k.wanted (LinkPhase.InSession lu serving) → has_paint (served_down serving) ≡ true → (is_painting link.host.pending ≡ true) × (link.up ≡ [])
    by_serving lu (SessionPhase.Painting number command wanted over) at is = (ap is_painting at.pending, empty_queue link.lost link.up at.goes_up)
    by_serving lu SessionPhase.Deciding at is = absurd (cc)
    by_serving lu (SessionPhase.Reading number) at is = absurd (cc)
    by_serving lu (SessionPhase.BufferReturning number parts) at is = absurd (cc)
    by_serving lu (SessionPhase.DecidingNoteSent number command) at is = absurd (cc)
    by_serving lu (SessionPhase.DecidingNoteAnswered number command) at is = absurd (cc)
    by_serving lu (SessionPhase.AwaitingWriteResponse kind number command) at is = absurd (cc)
    by_serving lu SessionPhase.OperatorTyping at is = absurd (cc)
    by_serving lu (SessionPhase.Noting number command) at is = absurd (cc)
    by_serving lu (SessionPhase.KeySent parts) at is = absurd (cc)
    by_serving lu (SessionPhase.KeySentAfterResponse kind number command parts) at is = absurd (cc)
    by_serving lu (SessionPhase.KeyCrossingNote number command parts) at is = absurd (cc)
    by_serving lu (SessionPhase.KeyBeforeNoteResponse number command parts) at is = absurd (cc)

    by_talk : (talking : NegotiationPhase) → (lu : List ℕ) × (talking ≡ NegotiationPhase.Agreeing lu) → has_paint (down_at model (LinkPhase.Negotiating talking)) ≡ true → (is_painting link.host.pending ≡ true) × (link.up ≡ [])
    by_talk talking is paints =
        absurd (let wrong : false ≡ true = sym (ap (λ (talk : NegotiationPhase). has_paint (down_at model (LinkPhase.Negotiating talk))) is.1) ∙ paints in cc)

    by_moment : (moment : LinkPhase) → IsAt (view_of link) k.wanted moment → has_paint (down_at model moment) ≡ true → (is_painting link.host.pending ≡ true) × (link.up ≡ [])
    by_moment (LinkPhase.Negotiating talking) at is = by_talk talking (agreed_there model talking link.host.talk at.host_talk agrees) is
    by_moment (LinkPhase.FirstPaint lu number command wanted over) at is = (ap is_painting at.pending, empty_queue link.lost link.up at.goes_up)
    by_moment (LinkPhase.InSession lu serving) at is = by_serving lu serving at is

-- what is said to the terminal names LUs
abbrev pub IsSaidDown : ToTerminal → Type 0
IsSaidDown (ToTerminal.TalksDown saying) = IsSaid saying
IsSaidDown (ToTerminal.Paint number wanted over) = ⊤
IsSaidDown (ToTerminal.ReadBuffer number) = ⊤
IsSaidDown (ToTerminal.Note number command) = ⊤

said_under_way : (app : Application) (link : Link) → ConnectionInvariant app (view_of link) → is_agreed link.host.talk.state ≡ true → AllByRecursion IsSaidDown link.down
said_under_way app link k agrees =
    all_front IsSaidDown link.down k.at.goes_down.vanished (subst (AllByRecursion IsSaidDown) (sym k.at.goes_down.whole) (by_moment k.moment k.at))
  where
    model : Model
    model = link.term.display.model

    by_serving : (serving : SessionPhase) → AllByRecursion IsSaidDown (served_down serving)
    by_serving (SessionPhase.Painting number command wanted over) = (tt, tt)
    by_serving SessionPhase.Deciding = tt
    by_serving (SessionPhase.Reading number) = (tt, tt)
    by_serving (SessionPhase.BufferReturning number parts) = tt
    by_serving (SessionPhase.DecidingNoteSent number command) = (tt, tt)
    by_serving (SessionPhase.DecidingNoteAnswered number command) = tt
    by_serving (SessionPhase.AwaitingWriteResponse kind number command) = tt
    by_serving SessionPhase.OperatorTyping = tt
    by_serving (SessionPhase.Noting number command) = (tt, tt)
    by_serving (SessionPhase.KeySent parts) = tt
    by_serving (SessionPhase.KeySentAfterResponse kind number command parts) = tt
    by_serving (SessionPhase.KeyCrossingNote number command parts) = (tt, tt)
    by_serving (SessionPhase.KeyBeforeNoteResponse number command parts) = tt

    by_moment : (moment : LinkPhase) → IsAt (view_of link) k.wanted moment → AllByRecursion IsSaidDown (down_at model moment)
    by_moment (LinkPhase.Negotiating talking) at =
        subst (λ (talk : NegotiationPhase). AllByRecursion IsSaidDown (down_at model (LinkPhase.Negotiating talk))) (sym (agreed_there model talking link.host.talk at.host_talk agrees).1) (tt, tt)
    by_moment (LinkPhase.FirstPaint lu number command wanted over) at = (tt, (tt, tt))
    by_moment (LinkPhase.InSession lu serving) at = by_serving serving

-- ---- keys between what the waiting terminal says

keys_no_talk : (clears later : Bool) (turn : Turn) (pending : Pending) (told real : List ToHost) → AddsKeys clears later turn pending told real → AllByRecursion IsNoTalk told → AllByRecursion IsNoTalk real
keys_no_talk clears later turn pending told [] x all = tt
keys_no_talk clears later turn pending told (message ∷ real) (inl x) all = (subst IsNoTalk (sym x.1.is) tt, keys_no_talk clears later turn pending told real x.2 all)
keys_no_talk clears later turn pending told (message ∷ real) (inr x) all =
    let both = subst (AllByRecursion IsNoTalk) x.1 all in
    (both.0, keys_no_talk (clears_behind message clears later) later (turn_after message turn) (pending_after message pending) x.0 real x.2 both.1)

keys_respond : (clears later : Bool) (turn : Turn) (pending : Pending) (told real : List ToHost) → AddsKeys clears later turn pending told real → has_response told ≡ false → has_response real ≡ false
keys_respond clears later turn pending told [] x none = refl
keys_respond clears later turn pending told (ToHost.Data parts ∷ real) (inl x) none = keys_respond clears later turn pending told real x.2 none
keys_respond clears later turn pending told (ToHost.TalksUp saying ∷ real) (inl x) none = keys_respond clears later turn pending told real x.2 none
keys_respond clears later turn pending told (ToHost.Response number verdict ∷ real) (inl x) none = absurd (let clash = x.1.is in cc)
keys_respond clears later turn pending told (ToHost.Data parts ∷ real) (inr x) none =
    keys_respond clears later whose.Host (pending_after (ToHost.Data parts) pending) x.0 real x.2 (sym (ap has_response x.1) ∙ none)
keys_respond clears later turn pending told (ToHost.TalksUp saying ∷ real) (inr x) none = keys_respond clears later turn pending x.0 real x.2 (sym (ap has_response x.1) ∙ none)
keys_respond clears later turn pending told (ToHost.Response number verdict ∷ real) (inr x) none = absurd (let both : true ≡ false = sym (ap has_response x.1) ∙ none in cc)

-- Both say the same, but for what they answer to a Read Buffer.
data BothSay (conn : Session) (told said : List ToHost) : Type 0 where
  the_same : said ≡ told → BothSay conn told said
  answers : (number : ℕ) (one other : Screen) (rest : List ToHost) → conn.pending ≡ Pending.Reading number → told ≡ ToHost.Data (buffer_data conn.size one) ∷ rest → said ≡ ToHost.Data (buffer_data conn.size other) ∷ rest
      → BothSay conn told said

both_say : (conn : Session) (told said : List ToHost) → SaysAlike conn told said → BothSay conn told said
both_say conn told said (SaysAlike.same is) = BothSay.the_same is
both_say conn told said (SaysAlike.checked number one other rest pends skips one_kept other_kept is_told is_said) = BothSay.answers number one other rest pends is_told is_said

both_answer : (conn : Session) (told said real : List ToHost) → AnswersAlike conn told said real → BothSay conn told said
both_answer conn told said real (AnswersAlike.by_saying says) = both_say conn told said says
both_answer conn told said real (AnswersAlike.behind_clear number one other rest pends skips one_kept is_told is_said heard) = BothSay.answers number one other rest pends is_told is_said

-- nor are the answers to a Read Buffer responses, or talk
both_respond : (conn : Session) (told said : List ToHost) → BothSay conn told said → has_response told ≡ false → has_response said ≡ false
both_respond conn told said (BothSay.the_same is) none = ap has_response is ∙ none
both_respond conn told said (BothSay.answers number one other rest pends is_told is_said) none = ap has_response is_said ∙ sym (ap has_response is_told) ∙ none

both_talk_none : (conn : Session) (told said : List ToHost) → BothSay conn told said → AllByRecursion IsNoTalk told → AllByRecursion IsNoTalk said
both_talk_none conn told said (BothSay.the_same is) all = subst (AllByRecursion IsNoTalk) (sym is) all
both_talk_none conn told said (BothSay.answers number one other rest pends is_told is_said) all =
    subst (AllByRecursion IsNoTalk) (sym is_said) (tt, (subst (AllByRecursion IsNoTalk) is_told all).1)

both_say_none : (conn : Session) (told said : List ToHost) → told ≡ [] → BothSay conn told said → said ≡ []
both_say_none conn told said none (BothSay.the_same is) = is ∙ none
both_say_none conn told said none (BothSay.answers number one other rest pends is_told is_said) = absurd (let wrong : ToHost.Data (buffer_data conn.size one) ∷ rest ≡ [] = sym is_told ∙ none in cc)

keys_only : (clears later : Bool) (turn : Turn) (pending : Pending) (real : List ToHost) → AddsKeys clears later turn pending [] real → IsDataOnly real
keys_only clears later turn pending [] x = tt
keys_only clears later turn pending (message ∷ real) (inl x) = subst (λ (m : ToHost). IsDataOnly (m ∷ real)) (sym x.1.is) (keys_only clears later turn pending real x.2)
keys_only clears later turn pending (message ∷ real) (inr x) = absurd (let some = x.1 in cc)

response_behind : (message : ToHost) (others : List ToHost) → has_response (message ∷ others) ≡ false → has_response others ≡ false
response_behind (ToHost.Data parts) others none = none
response_behind (ToHost.TalksUp saying) others none = none
response_behind (ToHost.Response number verdict) others none = absurd (cc)

-- ---- what is known

-- `told`: the connection of the terminal that waits
pub record Known (app : Application) (lu : List ℕ) (t : LinkWithReport) : Type 0 where
  pub told : Link
  pub kept : ConnectionInvariant app (view_of told)
  pub agreed : agreed_lu told.host.talk.state ≡ Some lu
  pub talk : t.link.host.talk ≡ told.host.talk
  pub size : t.link.host.size ≡ told.host.size
  pub any : may_have_changed t.link.host.unheard ≡ true
  pub model : t.link.term.display.model ≡ told.term.display.model
  pub term_talk : t.link.term.talk ≡ told.term.talk
  pub display : told.term.display ≡ record t.told { keyboard = told.term.display.keyboard }
  pub host_here : t.link.host_here ≡ true
  pub down : (t.link.down ≡ told.down) ⊎ (t.link.down ≡ [])
  pub no_talk : AllByRecursion IsNoTalk t.link.up
  pub lengths : (number : ℕ) (wanted : WantedScreen) (over : Shadow) (rest : List ToTerminal) → t.link.down ≡ ToTerminal.Paint number wanted over ∷ rest → paint_code (cells_in wanted.size) over wanted ≡ Write
      → length t.link.term.display.screen.cells ≡ length told.term.display.screen.cells
  pub painting : has_paint t.link.down ≡ true → (is_painting t.link.host.pending ≡ true) × IsDataOnly t.link.up
  pub silent : t.link.host.turn ≡ whose.Host → t.link.host.pending ≡ Pending.Nothing → IsDataOnly t.link.up
  pub learns : AreTexts t.link.host.values → IsSendable t.told.screen → LearnsTexts app t.link.host
  pub comes : (parts : InboundParts) (others : List ToHost) → t.link.up ≡ ToHost.Data parts ∷ others → (parts.form ≡ Modified) ⊎ IsAwaitedBy t.link.host parts
  pub reading : (message : ToHost) (others : List ToHost) → t.link.up ≡ message ∷ others → form_awaited t.link.host.pending ≡ Buffer → (t.link.host.turn_reason ≡ Agreement → ⊥)
      → (has_response others ≡ false) × (fields t.told.screen.cells ≡ [] → ⊥)
  pub now_bare : t.waits ≡ false → fields t.told.screen.cells ≡ [] → fields t.link.term.display.screen.cells ≡ []
  pub read_bare : (number : ℕ) (rest : List ToTerminal) → t.link.down ≡ ToTerminal.ReadBuffer number ∷ rest → is_pa t.told.screen.aid ≡ true → fields t.told.screen.cells ≡ []
      → fields t.link.term.display.screen.cells ≡ []
  pub told_bare : t.cleared ≡ false → fields t.link.term.display.screen.cells ≡ [] → fields t.told.screen.cells ≡ []

waits_not : (waits : Bool) → waits ≡ true → waits ≡ false → ⊥
waits_not waits is never = absurd (let wrong : true ≡ false = sym is ∙ never in cc)

-- where what is displayed differs in input alone
module _ (round : HeldIsRound) (t : LinkWithReport) (told : Link) (display : told.term.display ≡ record t.told { keyboard = told.term.display.keyboard }) (erased : Bool)
    (held : KeptByKeys erased told.term.display.screen.cells t.link.term.display.screen.cells) where
  bare_now : fields t.told.screen.cells ≡ [] → fields t.link.term.display.screen.cells ≡ []
  bare_now none =
      still_unformatted round erased told.term.display.screen.cells t.link.term.display.screen.cells held (subst (λ (d : Display). fields d.screen.cells ≡ []) (sym display) none)

  bare_told : fields t.link.term.display.screen.cells ≡ [] → fields t.told.screen.cells ≡ []
  bare_told none =
      subst (λ (d : Display). fields d.screen.cells ≡ []) display (once_unformatted round erased told.term.display.screen.cells t.link.term.display.screen.cells held none)

-- where both say the same but for keys
module _ (given : LowerLaws) (app : Application) (is : IsApplication app) (lu : List ℕ) (t : LinkWithReport) (told : Link) (kept : ConnectionInvariant app (view_of told)) (agreed : agreed_lu told.host.talk.state ≡ Some lu)
    (pending : t.link.host.pending ≡ told.host.pending) (turn : t.link.host.turn ≡ told.host.turn) (reason : t.link.host.turn_reason ≡ told.host.turn_reason) (size : t.link.host.size ≡ told.host.size)
    (display : told.term.display ≡ record t.told { keyboard = told.term.display.keyboard }) (down : t.link.down ≡ told.down)
    (said : List ToHost) (alike : BothSay told.host told.up said) (clears later : Bool) (up : AddsKeys clears later told.host.turn told.host.pending said t.link.up) where
  agrees : is_agreed told.host.talk.state ≡ true
  agrees = has_agreed lu told.host.talk.state agreed

  both_no_talk : AllByRecursion IsNoTalk t.link.up
  both_no_talk = keys_no_talk clears later told.host.turn told.host.pending said t.link.up up (both_talk_none told.host told.up said alike (no_talk_under_way app told kept agrees))

  only_data : told.up ≡ [] → IsDataOnly t.link.up
  only_data none =
      keys_only clears later told.host.turn told.host.pending t.link.up
      (subst (λ (s : List ToHost). AddsKeys clears later told.host.turn told.host.pending s t.link.up) (both_say_none told.host told.up said none alike) up)

  both_painting : has_paint t.link.down ≡ true → (is_painting t.link.host.pending ≡ true) × IsDataOnly t.link.up
  both_painting paints =
      let there = painting_told app told kept agrees (ap has_paint (sym down) ∙ paints) in
      (ap is_painting pending ∙ there.0, only_data there.1)

  both_silent : t.link.host.turn ≡ whose.Host → t.link.host.pending ≡ Pending.Nothing → IsDataOnly t.link.up
  both_silent turns pends = only_data (nothing_up app told kept agrees (sym turn ∙ turns) (sym pending ∙ pends))

  both_come : (parts : InboundParts) (others : List ToHost) → t.link.up ≡ ToHost.Data parts ∷ others → (parts.form ≡ Modified) ⊎ IsAwaitedBy t.link.host parts
  both_come parts others e = by_first (subst (AddsKeys clears later told.host.turn told.host.pending said) e up)
    where
      data_is : (one other : InboundParts) → ToHost.Data other ≡ ToHost.Data one → other.form ≡ one.form
      data_is one other e = cc

      heads_are : (one other : InboundParts) (rest more : List ToHost) → ToHost.Data one ∷ rest ≡ ToHost.Data other ∷ more → one ≡ other
      heads_are one other rest more same = cc

      by_alike : (rest : List ToHost) → said ≡ ToHost.Data parts ∷ rest → BothSay told.host told.up said → IsAwaitedBy told.host parts
      by_alike rest is_said (BothSay.the_same same) = awaited app (view_of told) parts rest kept (sym same ∙ is_said)
      by_alike rest is_said (BothSay.answers number one other more pends is_told is_checked) =
          subst (IsAwaitedBy told.host) (heads_are (buffer_data told.host.size other) parts more rest (sym is_checked ∙ is_said)) (record { form = sym (ap form_awaited pends); size = refl })

      by_first : AddsKeys clears later told.host.turn told.host.pending said (ToHost.Data parts ∷ others) → (parts.form ≡ Modified) ⊎ IsAwaitedBy t.link.host parts
      by_first (inl x) = inl (data_is x.1.parts parts x.1.is ∙ x.1.form)
      by_first (inr x) =
          let its = by_alike x.0 x.1 alike in
          inr (record { form = its.form ∙ sym (ap form_awaited pending); size = its.size ∙ sym size })

  both_read : (message : ToHost) (others : List ToHost) → t.link.up ≡ message ∷ others → form_awaited t.link.host.pending ≡ Buffer → (t.link.host.turn_reason ≡ Agreement → ⊥)
      → (has_response others ≡ false) × (fields t.told.screen.cells ≡ [] → ⊥)
  both_read message others e reads asked =
      let reads_told : form_awaited told.host.pending ≡ Buffer = sym (ap form_awaited pending) ∙ reads in
      let none : has_response t.link.up ≡ false =
      keys_respond clears later told.host.turn told.host.pending said t.link.up up (both_respond told.host told.up said alike (none_responds app told kept reads_told)) in (
        response_behind message others (ap has_response (sym e) ∙ none),
        λ bare. has_fields given app is told kept (λ agreement. asked (reason ∙ agreement)) reads_told (subst (λ (d : Display). fields d.screen.cells ≡ []) (sym display) bare),
      )

-- what is learned of what was told is texts
learns_told : (app : Application) (t : LinkWithReport) (told : Link) → ConnectionInvariant app (view_of told) → t.link.host ≡ told.host → told.term.display ≡ record t.told { keyboard = told.term.display.keyboard }
    → AreTexts t.link.host.values → IsSendable t.told.screen → LearnsTexts app t.link.host
learns_told app t told kept same display values sendable = subst (λ (conn : Session). LearnsTexts app conn) (sym same) (λ turns pends.
    let known = knows_at app (view_of told) kept turns pends in
    learned_texts told.host.shadow told.term.display.screen (app.fields told.host.panel) told.host.values known.meets
    (subst (λ (d : Display). IsSendable d.screen) (sym display) sendable).storable
    (subst (λ (conn : Session). AreTexts conn.values) same values))

module _ (given : LowerLaws) (app : Application) (is : IsApplication app) (lu : List ℕ) (t : LinkWithReport) where
  known_simulated : Simulated app lu t → Known app lu t
  known_simulated s = record {
    told = s.told;
    kept = s.kept;
    agreed = s.agreed;
    talk = ap (λ (c : Session). c.talk) s.simulates.host;
    size = size;
    any = ap (λ (c : Session). may_have_changed c.unheard) s.simulates.host ∙ s.any;
    model = ap (λ (d : Display). d.model) s.simulates.since.rest;
    term_talk = s.simulates.talk;
    display = s.display;
    host_here = s.host_here;
    down = inl s.simulates.down;
    no_talk = both_no_talk given app is lu t s.told s.kept s.agreed pending turn reason size s.display s.simulates.down said alike true true up;
    lengths = λ number wanted over rest e writes. s.simulates.since.held.same_length;
    painting = both_painting given app is lu t s.told s.kept s.agreed pending turn reason size s.display s.simulates.down said alike true true up;
    silent = both_silent given app is lu t s.told s.kept s.agreed pending turn reason size s.display s.simulates.down said alike true true up;
    learns = learns_told app t s.told s.kept s.simulates.host s.display;
    comes = both_come given app is lu t s.told s.kept s.agreed pending turn reason size s.display s.simulates.down said alike true true up;
    reading = both_read given app is lu t s.told s.kept s.agreed pending turn reason size s.display s.simulates.down said alike true true up;
    now_bare = λ waits. bare_now given.keys.round t s.told s.display s.simulates.since.erased s.simulates.since.held;
    read_bare = λ number rest e pa. bare_now given.keys.round t s.told s.display s.simulates.since.erased s.simulates.since.held;
    told_bare = λ uncleared. bare_told given.keys.round t s.told s.display s.simulates.since.erased s.simulates.since.held;
  }
    where
      size : t.link.host.size ≡ s.told.host.size
      size = ap (λ (c : Session). c.size) s.simulates.host

      pending : t.link.host.pending ≡ s.told.host.pending
      pending = ap (λ (c : Session). c.pending) s.simulates.host

      turn : t.link.host.turn ≡ s.told.host.turn
      turn = ap (λ (c : Session). c.turn) s.simulates.host

      reason : t.link.host.turn_reason ≡ s.told.host.turn_reason
      reason = ap (λ (c : Session). c.turn_reason) s.simulates.host

      said : List ToHost
      said = s.simulates.up.said

      alike : BothSay s.told.host s.told.up said
      alike = both_say s.told.host s.told.up said s.simulates.up.alike

      up : AddsKeys true true s.told.host.turn s.told.host.pending said t.link.up
      up = any_keys true true s.told.host.turn s.told.host.pending said t.link.up s.simulates.up.up

  known_cleared : Cleared app lu t → Known app lu t
  known_cleared c = record {
    told = c.told;
    kept = c.kept;
    agreed = c.agreed;
    talk = ap (λ (s : Session). s.talk) host_is;
    size = size;
    any = may_change c.told t.link.host c.host c.any;
    model = c.model;
    term_talk = c.talk;
    display = c.display;
    host_here = c.host_here;
    down = inl c.down;
    no_talk = both_no_talk given app is lu t c.told c.kept c.agreed pending turn reason size c.display c.down c.up.said alike c.clears t.cleared c.up.up;
    lengths = lengths;
    painting = both_painting given app is lu t c.told c.kept c.agreed pending turn reason size c.display c.down c.up.said alike c.clears t.cleared c.up.up;
    silent = both_silent given app is lu t c.told c.kept c.agreed pending turn reason size c.display c.down c.up.said alike c.clears t.cleared c.up.up;
    learns = λ values sendable turns pends. learns_told app t c.told c.kept (same_host (ap is_painting (sym pending ∙ pends)) c.host) c.display values sendable turns pends;
    comes = both_come given app is lu t c.told c.kept c.agreed pending turn reason size c.display c.down c.up.said alike c.clears t.cleared c.up.up;
    reading = both_read given app is lu t c.told c.kept c.agreed pending turn reason size c.display c.down c.up.said alike c.clears t.cleared c.up.up;
    now_bare = λ free. now_bare free c.stage;
    read_bare = λ number rest e pa. absurd (let wrong : true ≡ false = sym pa ∙ read_no_pa number rest e in cc);
    told_bare = λ uncleared. told_bare uncleared c.stage;
  }
    where
      alike : BothSay c.told.host c.told.up c.up.said
      alike = both_answer c.told.host c.told.up c.up.said t.link.up c.up.alike

      host_is : t.link.host ≡ record c.told.host { shadow = t.link.host.shadow; unheard = t.link.host.unheard }
      host_is = but_belief c.told t.link.host c.host

      size : t.link.host.size ≡ c.told.host.size
      size = ap (λ (s : Session). s.size) host_is

      pending : t.link.host.pending ≡ c.told.host.pending
      pending = ap (λ (s : Session). s.pending) host_is

      turn : t.link.host.turn ≡ c.told.host.turn
      turn = ap (λ (s : Session). s.turn) host_is

      reason : t.link.host.turn_reason ≡ c.told.host.turn_reason
      reason = ap (λ (s : Session). s.turn_reason) host_is

      same_host : is_painting c.told.host.pending ≡ false → HostsAlike c.told t.link.host → t.link.host ≡ c.told.host
      same_host unpainted (HostsAlike.same same) = same
      same_host unpainted (HostsAlike.crossed paints harmless crossed) = absurd (let wrong : false ≡ true = sym unpainted ∙ paints in cc)
      same_host unpainted (HostsAlike.erasing is_erasing is_now any) = absurd (let wrong : false ≡ true = sym unpainted ∙ paints_so c.told.host.pending is_erasing in cc)

      writes_not : (code : CommandCode) → code ≡ Write → is_erase code ≡ true → ⊥
      writes_not code writes erases_it = absurd (let wrong : false ≡ true = sym (ap is_erase writes) ∙ erases_it in cc)

      lengths : (number : ℕ) (wanted : WantedScreen) (over : Shadow) (rest : List ToTerminal) → t.link.down ≡ ToTerminal.Paint number wanted over ∷ rest → paint_code (cells_in wanted.size) over wanted ≡ Write
          → length t.link.term.display.screen.cells ≡ length c.told.term.display.screen.cells
      lengths number wanted over rest e writes = by_plain (c.plain (gone_now given app is lu t c (ToTerminal.Paint number wanted over) rest e).0)
        where
          by_plain : IsPlain c.told t.link.term.display.screen → length t.link.term.display.screen.cells ≡ length c.told.term.display.screen.cells
          by_plain (IsPlain.bare none long) = long
          by_plain (IsPlain.over_nothing none paints silent) =
              let comes = paint_comes app c.told number wanted over rest (sym c.down ∙ e) c.kept (agrees_still c) in
              absurd (writes_not (paint_code (cells_in wanted.size) over wanted) writes (nothing_erases over wanted (comes.fact.over_is ∙ none)))

      -- after PA the screen is read once, before Clear
      read_no_pa : (number : ℕ) (rest : List ToTerminal) → t.link.down ≡ ToTerminal.ReadBuffer number ∷ rest → is_pa t.told.screen.aid ≡ false
      read_no_pa number rest e = by_read (gone_now given app is lu t c (ToTerminal.ReadBuffer number) rest e).2
        where
          comes : ReadComes app c.told c.kept.wanted rest
          comes = read_comes app c.told number rest (sym c.down ∙ e) c.kept (agrees_still c)

          counts : is_after_pa c.told.host.turn_reason ≡ is_pa t.told.screen.aid
          counts = pa_counts c.told.host.turn_reason c.told.term.display.screen.aid comes.fact.decides.turn_reason ∙ ap (λ (d : Display). is_pa d.screen.aid) c.display

          once : (b : Bool) → is_after_pa c.told.host.turn_reason ≡ b → is_unread c.told.host.turn_reason ≡ false → b ≡ false
          once false after was = refl
          once true after was = absurd (let wrong : false ≡ true = sym was ∙ comes.fact.unread after in cc)

          by_read : HasRead t c.told → is_pa t.told.screen.aid ≡ false
          by_read (HasRead.no_pa none) = none
          by_read (HasRead.was_read turns was) = sym counts ∙ once (is_after_pa c.told.host.turn_reason) refl was
          by_read (HasRead.is_read turns reads none first) = absurd (let wrong = sym none ∙ sym c.down ∙ e in cc)
          by_read (HasRead.was_shown paints none) = absurd (let wrong : false ≡ true = sym (ap is_painting comes.at.pending) ∙ paints in cc)

      now_bare : t.waits ≡ false → Stage t c.told c.up.said → fields t.told.screen.cells ≡ [] → fields t.link.term.display.screen.cells ≡ []
      now_bare free (Stage.gone cleared locked read fate) none = absurd (waits_not t.waits (c.waits ∙ ap is_waiting locked) free)
      now_bare free (Stage.erased never erasing silent since) none = bare_now given.keys.round t c.told c.display since.erased since.held none

      told_bare : t.cleared ≡ false → Stage t c.told c.up.said → fields t.link.term.display.screen.cells ≡ [] → fields t.told.screen.cells ≡ []
      told_bare uncleared (Stage.gone cleared locked read fate) none = absurd (waits_not t.cleared cleared uncleared)
      told_bare uncleared (Stage.erased never erasing silent since) none = bare_told given.keys.round t c.told c.display since.erased since.held none

  known_repeating : Repeating app lu t → Known app lu t
  known_repeating r = by_after r.after
    where
      agrees : is_agreed r.told.host.talk.state ≡ true
      agrees = agrees_there r

      no_down : (message : ToTerminal) (rest : List ToTerminal) → t.link.down ≡ message ∷ rest → ⊥
      no_down message rest e = absurd (let wrong = sym r.down ∙ e in cc)

      keys_say_none : (up : List ToHost) → AreKeys up → AllByRecursion IsNoTalk up
      keys_say_none [] keys = tt
      keys_say_none (message ∷ up) keys = (subst IsNoTalk (sym keys.0.is) tt, keys_say_none up keys.1)

      keys_are_data : (up : List ToHost) → AreKeys up → IsDataOnly up
      keys_are_data [] keys = tt
      keys_are_data (message ∷ up) keys = subst (λ (m : ToHost). IsDataOnly (m ∷ up)) (sym keys.0.is) (keys_are_data up keys.1)

      behind_say_none : (number : ℕ) (heard : Bool) (up : List ToHost) → AnswersBehind number heard up → AllByRecursion IsNoTalk up
      behind_say_none number heard [] x = tt
      behind_say_none number heard (message ∷ up) (inl x) = (subst IsNoTalk (sym x.0.is) tt, behind_say_none number (heard || is_clear x.0.parts.aid) up x.1)
      behind_say_none number heard (message ∷ up) (inr x) = (subst IsNoTalk (sym x.0) tt, keys_say_none up x.2)

      key_form : (message : ToHost) (parts : InboundParts) → message ≡ ToHost.Data parts → (key : IsKeyData message) → parts.form ≡ Modified
      key_form message parts is key = same_form key.parts parts (sym key.is ∙ is) ∙ key.form
        where
          same_form : (one other : InboundParts) → ToHost.Data one ≡ ToHost.Data other → other.form ≡ one.form
          same_form one other e = cc

      first_of_behind : (number : ℕ) (heard : Bool) (parts : InboundParts) (others : List ToHost) → AnswersBehind number heard (ToHost.Data parts ∷ others) → parts.form ≡ Modified
      first_of_behind number heard parts others (inl x) = key_form (ToHost.Data parts) parts refl x.0
      first_of_behind number heard parts others (inr x) = absurd (let wrong = x.0 in cc)

      no_reading : (pending : Pending) → is_painting pending ≡ true → form_awaited pending ≡ Buffer → ⊥
      no_reading (Pending.Writing number command) paints reads = absurd (cc)
      no_reading Pending.Nothing paints reads = absurd (cc)
      no_reading (Pending.Reading number) paints reads = absurd (cc)
      no_reading (Pending.Noting number command) paints reads = absurd (cc)

      no_paint : has_paint t.link.down ≡ true → ⊥
      no_paint is = absurd (let wrong : false ≡ true = sym (ap has_paint r.down) ∙ is in cc)

      by_after : AfterPaint r.told t.link → Known app lu t
      by_after (AfterPaint.answering number command pends no_erase host_is any behind) = record {
        told = r.told;
        kept = r.kept;
        agreed = r.agreed;
        talk = ap (λ (s : Session). s.talk) host_is;
        size = ap (λ (s : Session). s.size) host_is;
        any = any;
        model = r.model;
        term_talk = r.talk;
        display = r.display;
        host_here = r.host_here;
        down = inr r.down;
        no_talk = behind_say_none number _ t.link.up behind;
        lengths = λ number wanted over rest e writes. absurd (no_down (ToTerminal.Paint number wanted over) rest e);
        painting = λ paints. absurd (no_paint paints);
        silent = λ turns quiet. absurd (let wrong = sym (ap (λ (s : Session). s.pending) host_is ∙ pends) ∙ quiet in cc);
        learns = λ values sendable turns quiet. absurd (let wrong = sym (ap (λ (s : Session). s.pending) host_is ∙ pends) ∙ quiet in cc);
        comes = λ parts others e. inl (first_of_behind number _ parts others (subst (AnswersBehind number _) e behind));
        reading = λ message others e reads asked. absurd (no_reading t.link.host.pending (ap (λ (s : Session). is_painting s.pending) host_is ∙ ap is_painting pends) reads);
        now_bare = λ free. absurd (waits_not t.waits r.waits free);
        read_bare = λ number rest e. absurd (no_down (ToTerminal.ReadBuffer number) rest e);
        told_bare = λ uncleared. absurd (waits_not t.cleared r.cleared uncleared);
      }
      by_after (AfterPaint.refusing host_is keys) = record {
        told = r.told;
        kept = r.kept;
        agreed = r.agreed;
        talk = ap (λ (s : Session). s.talk) host_is;
        size = ap (λ (s : Session). s.size) host_is;
        any = ap (λ (s : Session). may_have_changed s.unheard) host_is;
        model = r.model;
        term_talk = r.talk;
        display = r.display;
        host_here = r.host_here;
        down = inr r.down;
        no_talk = keys_say_none t.link.up keys;
        lengths = λ number wanted over rest e writes. absurd (no_down (ToTerminal.Paint number wanted over) rest e);
        painting = λ paints. absurd (no_paint paints);
        silent = λ turns quiet. keys_are_data t.link.up keys;
        learns = λ values sendable turns quiet.
            subst (λ (shadow : Shadow). AreTexts (learned shadow (app.fields t.link.host.panel) t.link.host.values)) (sym (ap (λ (s : Session). s.shadow) host_is))
            (learned_texts Shadow.NothingKnown t.told.screen (app.fields t.link.host.panel) t.link.host.values tt sendable.storable values);
        comes = λ parts others e. inl (key_form (ToHost.Data parts) parts refl (subst AreKeys e keys).0);
        reading = λ message others e reads asked. absurd (let wrong : Modified ≡ Buffer = sym (ap (λ (s : Session). form_awaited s.pending) host_is) ∙ reads in cc);
        now_bare = λ free. absurd (waits_not t.waits r.waits free);
        read_bare = λ number rest e. absurd (no_down (ToTerminal.ReadBuffer number) rest e);
        told_bare = λ uncleared. absurd (waits_not t.cleared r.cleared uncleared);
      }

  pub known : IsBeside app lu t → Known app lu t
  known (IsBeside.follows (Follows.simulated s)) = known_simulated s
  known (IsBeside.follows (Follows.cleared c)) = known_cleared c
  known (IsBeside.repeats r) = known_repeating r

-- ---- what follows from it

module _ {app : Application} {lu : List ℕ} {t : LinkWithReport} (k : Known app lu t) where
  pub agrees_known : is_agreed t.link.host.talk.state ≡ true
  agrees_known = ap (λ talk. is_agreed talk.state) k.talk ∙ has_agreed lu k.told.host.talk.state k.agreed

bound_closes : (bound : Bool) (closes : Option Cause) (end : TermEnd) (sends : List ToHost) (after : TermEnd) → closes ≡ None → (once_bound bound (record { end = after; sends = sends; closes = closes }) end).closes ≡ None
bound_closes true closes end sends after none = none
bound_closes false closes end sends after none = refl

-- two ends with one talk close by the same
close_alike : (one other : TermEnd) (message : ToTerminal) → one.talk ≡ other.talk → (took other message).closes ≡ None → (executed one message).closes ≡ None
close_alike one other (ToTerminal.TalksDown saying) talk none = ap (λ (t : Term). (talked one t saying).closes) talk ∙ none
close_alike one other (ToTerminal.Paint number wanted over) talk none = bound_closes (is_bound one) None one _ _ refl
close_alike one other (ToTerminal.ReadBuffer number) talk none = bound_closes (is_bound one) None one _ _ refl
close_alike one other (ToTerminal.Note number command) talk none = bound_closes (is_bound one) None one _ _ refl

-- a host that is still there hasn't closed
stays_here : (cause : Option Cause) (link : Link) → (host_left_if cause link).host_here ≡ true → cause ≡ None
stays_here None link here = refl
stays_here (Some cause) link here = absurd (cc)

module _ (given : LowerLaws) (sized : MeetsIsOfSize) (app : Application) (is : IsApplication app) (sizes : HasTheSizes app) (lu : List ℕ) (t : LinkWithReport) (k : Known app lu t) where
  abbrev told : Link
  told = k.told

  agrees_told : is_agreed told.host.talk.state ≡ true
  agrees_told = has_agreed lu told.host.talk.state k.agreed

  pub host_size : IsSizeOf app told.term.display.model t.link.host.size
  host_size = subst (IsSizeOf app told.term.display.model) (sym k.size) k.kept.sizes.host

  -- what is under way is under way to the terminal that waits
  pub there : (message : ToTerminal) (rest : List ToTerminal) → t.link.down ≡ message ∷ rest → told.down ≡ message ∷ rest
  there message rest e = by_down k.down
    where
      by_down : (t.link.down ≡ told.down) ⊎ (t.link.down ≡ []) → told.down ≡ message ∷ rest
      by_down (inl same) = sym same ∙ e
      by_down (inr none) = absurd (let wrong = sym none ∙ e in cc)

  pub said_known : AllByRecursion IsSaidDown t.link.down
  said_known = by_down k.down
    where
      by_down : (t.link.down ≡ told.down) ⊎ (t.link.down ≡ []) → AllByRecursion IsSaidDown t.link.down
      by_down (inl same) = subst (AllByRecursion IsSaidDown) (sym same) (said_under_way app told k.kept agrees_told)
      by_down (inr none) = subst (AllByRecursion IsSaidDown) (sym none) tt

  pub no_refusal_known : AllByRecursion IsNoRefusal t.link.down
  no_refusal_known = by_down k.down
    where
      by_down : (t.link.down ≡ told.down) ⊎ (t.link.down ≡ []) → AllByRecursion IsNoRefusal t.link.down
      by_down (inl same) = subst (AllByRecursion IsNoRefusal) (sym same) (no_refusal_under_way app told k.kept)
      by_down (inr none) = subst (AllByRecursion IsNoRefusal) (sym none) tt

  -- a paint is one for the host's size
  pub paint_sized : (number : ℕ) (wanted : WantedScreen) (over : Shadow) (rest : List ToTerminal) → t.link.down ≡ ToTerminal.Paint number wanted over ∷ rest → wanted.size ≡ t.link.host.size
  paint_sized number wanted over rest e =
      let comes = paint_comes app told number wanted over rest (there (ToTerminal.Paint number wanted over) rest e) k.kept agrees_told in
      comes.fact.paintable.showable.size ∙ sym k.size

  -- and finds the terminal bound
  pub paint_bound : (number : ℕ) (wanted : WantedScreen) (over : Shadow) (rest : List ToTerminal) → t.link.down ≡ ToTerminal.Paint number wanted over ∷ rest → is_bound t.link.term ≡ true
  paint_bound number wanted over rest e =
      let comes = paint_comes app told number wanted over rest (there (ToTerminal.Paint number wanted over) rest e) k.kept agrees_told in
      ap (λ (talk : Term). is_some (bound_to talk.talk.state)) k.term_talk ∙ ap (λ (state : TermState). is_some (bound_to state)) comes.at.term_talk

  -- nothing is painted while a note is next
  no_paint_behind : (number : ℕ) (command : CommandParts) (rest : List ToTerminal) → t.link.down ≡ ToTerminal.Note number command ∷ rest → has_paint t.link.down ≡ false
  no_paint_behind number command rest e = by_test (has_paint t.link.down) refl
    where
      down : told.down ≡ ToTerminal.Note number command ∷ rest
      down = there (ToTerminal.Note number command) rest e

      by_test : (b : Bool) → has_paint t.link.down ≡ b → b ≡ false
      by_test false is_it = refl
      by_test true is_it =
          let comes = note_comes given app told number command rest down k.kept agrees_told in
          let unpainted = note_unpainted app told number command rest down k.kept comes.bound in
          let paints = (painting_told app told k.kept agrees_told (ap has_paint (down ∙ sym e) ∙ is_it)).0 in
          absurd (let wrong : true ≡ false = sym paints ∙ unpainted in cc)

  -- the size of its screen, if no paint is under way, is the host's
  module _ (same : has_paint t.link.down ≡ false → t.link.term.display.size ≡ t.link.host.size) (shape : IsSizeOf app told.term.display.model t.link.term.display.size) where
    pub fits_known : (message : ToTerminal) (rest : List ToTerminal) → t.link.down ≡ message ∷ rest → NoteFits t.link.term.display.size message
    fits_known (ToTerminal.TalksDown saying) rest e = tt
    fits_known (ToTerminal.Paint number wanted over) rest e = tt
    fits_known (ToTerminal.ReadBuffer number) rest e = tt
    fits_known (ToTerminal.Note number command) rest e =
        let down = there (ToTerminal.Note number command) rest e in
        let comes = note_comes given app told number command rest down k.kept agrees_told in
        note_fits app told (ToTerminal.Note number command) rest down k.kept ∙ comes.same ∙ sym k.size ∙ sym (same (no_paint_behind number command rest e))

    open_known : IsOpen t.link.term.talk.talk.state
    open_known = subst (λ (talk : Term). IsOpen talk.talk.state) (sym k.term_talk) (is_open app told k.kept)

    may_known : (message : ToTerminal) (rest : List ToTerminal) → t.link.down ≡ message ∷ rest → MayCome told.term message → MayTake t.link.term message
    may_known (ToTerminal.TalksDown saying) rest e may = (may.0, subst (λ (talk : Term). NamesWanted talk.talk.state talk.wanted) (sym k.term_talk) may.1)
    may_known (ToTerminal.ReadBuffer number) rest e may = open_known
    may_known (ToTerminal.Note number command) rest e may = record { is_open = open_known; note = may.note; size = fits_known (ToTerminal.Note number command) rest e }
    may_known (ToTerminal.Paint number wanted over) rest e may =
        let there_too = executes sized wanted over told.term may in
        record {
          is_open = open_known;
          size = subst (λ (m : Model). HasSize m wanted.size) (sym k.model) may.size;
          now = subst (λ (m : Model). HasSize m t.link.term.display.size) (sym k.model) (has_size app told.term.display.model t.link.term.display.size sizes shape);
          fits = λ writes. there_too.fits writes ∙ sym (k.lengths number wanted over rest e writes);
        }

    -- each message may be taken, and closes nothing
    pub next_known : MayTakeNext t.link
    next_known = record {
      is_open = open_known;
      may = λ message rest e. may_known message rest e (may_come given app is sizes told message rest (there message rest e) k.kept);
      none = λ message rest e. close_alike t.link.term told.term message k.term_talk (obeys given app is told message rest (there message rest e) k.kept).open_end;
    }

-- the host is there
here_beside : (given : LowerLaws) (app : Application) (is : IsApplication app) (lu : List ℕ) (t : LinkWithReport) → IsBeside app lu t → t.link.host_here ≡ true
here_beside given app is lu t b = (known given app is lu t b).host_here

-- so it closes nothing
pub hears_known : (given : LowerLaws) (app : Application) (is : IsApplication app) (lu : List ℕ) (t : LinkWithReport) → IsBeside app lu t → (pool : List Entry) → IsSoundPool pool → (message : ToHost) (others : List ToHost)
    → t.link.up ≡ message ∷ others → (host_took (answer_to pool) t.link.host message).closes ≡ None
hears_known given app is lu t b pool sound message others e =
    let step = host_took (answer_to pool) t.link.host message in
    stays_here step.closes _ (sym (ap (λ (up : List ToHost). (came_up pool up t).link.host_here) e) ∙ here_beside given app is lu (moved app (Move.Up pool) t) (move_follows given app is lu (Move.Up pool) t sound b))
