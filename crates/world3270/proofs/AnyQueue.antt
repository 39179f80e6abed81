-- The size of what is queued by a terminal that keeps the rules, and so what may come next to its host: what the waiting terminal says, or a second
-- key's data, of the size by which the host reads it. That few characters lead in it, `AnyLeads` has.
use Rattle.std.proofs.Common.{◌≡◌, ◌⊎◌, inl, inr, ◌&&◌, ◌<◌, ◌≤◌, ◌++◌, ltb, not, suc, ℕ, Bool, true, false, Option, None, Some, List, [], ◌∷◌, arith, map, refl, ap, sym, subst, ◌∙◌, if◌then◌else◌}
use Rattle.std.specs.Prelude.{⊤, All}
use Rattle.std.specs.List.{AllByRecursion}
use Rattle.std.specs.Option.{option_and_then}
use Rattle.std.proofs.lemmas.List.Elements.{All-cons, All-head, All-map, All-nil, All-tail}
use Rattle.codes3270.specs.Size.{ScreenSize, alternate_of, cells_in, model_2}
use Rattle.codes3270.specs.declared.attention.Aid.{Aid}
use Rattle.codes3270.specs.declared.attention.Aid.TheVariants.{NoAid, Enter, Clear, Pf, Pa}
use Rattle.codes3270.specs.declared.size.Model.{Model}
use Rattle.codes3270.specs.declared.size.Model.TheVariants.{M2, M3, M4, M5}
use Rattle.datastream.specs.Grammar.{CommandParts}
use Rattle.datastream.specs.InboundFields.{buffer_data, leading_text_of, parts_of_fields, returned_of}
use Rattle.datastream.specs.InboundText.{InboundParts, stands_alone}
use Rattle.datastream.specs.Screen.{Screen}
use Rattle.datastream.specs.Wanted.{WantedScreen}
use Rattle.datastream.specs.declared.inbound_part.Form.{Form}
use Rattle.datastream.specs.declared.inbound_part.Form.TheVariants.{All as AllModified, Buffer, Modified}
use Rattle.keyboard.specs.declared.key.Pressed.TheVariants.{Send}
use Rattle.lu_pool.specs.Asking.{answer_to}
use Rattle.lu_pool.specs.declared.entry.Entry.{Entry}
use Rattle.shadow.specs.Belief.{Shadow}
use Rattle.shadow.specs.Sized.{MeetsIsOfSize}
use Rattle.tn3270e_msg.specs.Talk.{NegotiationMessage}
use Rattle.tn3270e_msg.specs.declared.cause.Cause.{Cause}
use Rattle.tn3270e_msg.specs.declared.cause.Cause.TheVariants.{BadInbound}
use Rattle.host_core.specs.Acts.{Act, Decision, Sent, acted, decided, decision_on, done, may_act}
use Rattle.host_core.specs.Application.{Application, IsApplication, IsSizeOf}
use Rattle.host_core.specs.Items.{is_paint_or_read, second_key_size}
use Rattle.host_core.specs.Messages.{ToHost, ToTerminal, Verdict}
use Rattle.host_core.specs.Notes.{may_note, noted, noted_as}
use Rattle.host_core.specs.Questions.{act_by, answered_on, has_its_panel, is_asking, panel_for}
use Rattle.host_core.specs.Session.{Session, Pending, is_agreed, model_in}
use Rattle.host_core.specs.Takes.{Answers, HostStep, breaking, closed_by, data_came, form_awaited, may_have_changed, most_restored, once_agreed, painted_over, restoring, second_key, second_key_data, sends_wrong, took as host_took, unbelieved}
use Rattle.host_core.specs.declared.disbelief.Disbelief.{Disbelief}
use Rattle.host_core.specs.declared.disbelief.Disbelief.TheVariants.{NoKey}
use Rattle.host_core.specs.declared.question.Answer.{Answer as ApplicationAnswer}
use Rattle.host_core.specs.declared.turn.Turn.TheVariants as whose
use Rattle.world3270.specs.statement.EveryTerminal.{IsByTheRules, Move, LinkWithReport, came_down, came_up, executed, moved, paint_executed}
use Rattle.world3270.specs.statement.Forms.{IsAwaitedBy}
use Rattle.world3270.specs.statement.Shown.{is_painting}
use Rattle.world3270.specs.refinement.LowerLaws.{LowerLaws}
use Rattle.world3270.specs.model.Link.{Link, host_left_if, host_sent, sent, term_left_if, term_stepped}
use Rattle.world3270.specs.refinement.Phases.{IsAt, IsHostIn, LinkPhase, NegotiationPhase}
use Rattle.world3270.specs.refinement.Readings.{IsSecondKeyIn, MayBeSent, count_leading}
use Rattle.world3270.specs.statement.Rules.{Operates, with_aid}
use Rattle.world3270.specs.refinement.Invariant.{ConnectionInvariant}
use Rattle.world3270.specs.refinement.RepresentsLinks.{HasTheSizes}
use Rattle.world3270.specs.model.Terminal.{TermEnd, TermStep, data_of, is_bound, once_bound, took}
use Rattle.world3270.specs.refinement.View.{view_of}
use Rattle.world3270.proofs.Acting.{asking_parts, may_act_when, model_here}
use Rattle.world3270.proofs.AnyBeside.{IsDataOnly, Known, has_paint, host_size, paint_bound, paint_sized}
use Rattle.world3270.proofs.AnyIgnored.{IsNoTalk}
use Rattle.world3270.proofs.AnyTerminal.{told_link_is}
use Rattle.world3270.proofs.HostSteps.{just_talks}
use Rattle.world3270.proofs.SimulatedHost.{may_note_when}
use Rattle.world3270.proofs.Simulation.{has_agreed}
use Rattle.world3270.proofs.TalkStates.{agreed_there}

-- ---- the size of what is queued

-- what the data of a message is about: a screen of this size
abbrev pub HasThatSize : ScreenSize → ToHost → Type 0
HasThatSize size (ToHost.Data parts) = parts.size ≡ size
HasThatSize size (ToHost.TalksUp saying) = ⊤
HasThatSize size (ToHost.Response number verdict) = ⊤

abbrev pub IsSizedIf : Application → Model → Bool → ScreenSize → ScreenSize → Type 0
IsSizedIf app model true now size = IsSizeOf app model size
IsSizedIf app model false now size = size ≡ now

-- Data has the size that the host set last. Only while a paint waits for its answer, data before that answer may have
-- another size of the model.
abbrev pub AreSized : Application → Model → Bool → ScreenSize → List ToHost → Type 0
AreSized app model painting now [] = ⊤
AreSized app model painting now (ToHost.Data parts ∷ up) = IsSizedIf app model painting now parts.size × AreSized app model painting now up
AreSized app model painting now (ToHost.Response number verdict ∷ up) = AreSized app model false now up
AreSized app model painting now (ToHost.TalksUp saying ∷ up) = AreSized app model painting now up

-- The screen has a size of its model: the one that the host set last, unless a paint is under way to it.
pub record IsSized (app : Application) (link : Link) : Type 0 where
  pub up : AreSized app link.term.display.model (is_painting link.host.pending) link.host.size link.up
  pub term : IsSizeOf app link.term.display.model link.term.display.size
  pub same : has_paint link.down ≡ false → link.term.display.size ≡ link.host.size

module _ (app : Application) (model : Model) (now : ScreenSize) where
  sized_if : (painting : Bool) (size : ScreenSize) → IsSizeOf app model now → size ≡ now → IsSizedIf app model painting now size
  sized_if true size is same = subst (IsSizeOf app model) (sym same) is
  sized_if false size is same = same

  -- more data of the size that the host set last
  all_sized : (painting : Bool) (more : List ToHost) → IsSizeOf app model now → All (HasThatSize now) more → AreSized app model painting now more
  all_sized painting [] is all = tt
  all_sized painting (ToHost.Data parts ∷ more) is all =
      (sized_if painting parts.size is (All-head (HasThatSize now) (ToHost.Data parts) more all), all_sized painting more is (All-tail (HasThatSize now) (ToHost.Data parts) more all))
  all_sized painting (ToHost.Response number verdict ∷ more) is all = all_sized false more is (All-tail (HasThatSize now) (ToHost.Response number verdict) more all)
  all_sized painting (ToHost.TalksUp saying ∷ more) is all = all_sized painting more is (All-tail (HasThatSize now) (ToHost.TalksUp saying) more all)

  more_sized : (painting : Bool) (up more : List ToHost) → IsSizeOf app model now → AreSized app model painting now up → All (HasThatSize now) more → AreSized app model painting now (up ++ more)
  more_sized painting [] more is sized all = all_sized painting more is all
  more_sized painting (ToHost.Data parts ∷ up) more is sized all = (sized.0, more_sized painting up more is sized.1 all)
  more_sized painting (ToHost.Response number verdict ∷ up) more is sized all = more_sized false up more is sized all
  more_sized painting (ToHost.TalksUp saying ∷ up) more is sized all = more_sized painting up more is sized all

  -- behind data alone, whatever may come before the paint's answer
  more_before : (up more : List ToHost) → IsDataOnly up → AreSized app model true now up → AreSized app model true now more → AreSized app model true now (up ++ more)
  more_before [] more only sized after = after
  more_before (ToHost.Data parts ∷ up) more only sized after = (sized.0, more_before up more only sized.1 after)
  more_before (ToHost.Response number verdict ∷ up) more only sized after = absurd only
  more_before (ToHost.TalksUp saying ∷ up) more only sized after = absurd only

  -- the host paints, in whatever size
  once_painting : (next : ScreenSize) (up : List ToHost) → IsDataOnly up → IsSizeOf app model now → AreSized app model false now up → AreSized app model true next up
  once_painting next [] only is sized = tt
  once_painting next (ToHost.Data parts ∷ up) only is sized = (subst (IsSizeOf app model) (sym sized.0) is, once_painting next up only is sized.1)
  once_painting next (ToHost.Response number verdict ∷ up) only is sized = absurd only
  once_painting next (ToHost.TalksUp saying ∷ up) only is sized = absurd only

  -- data of that size has a size of the model
  also_painting : IsSizeOf app model now → (up : List ToHost) → AreSized app model false now up → AreSized app model true now up
  also_painting is [] sized = tt
  also_painting is (ToHost.Data parts ∷ up) sized = (subst (IsSizeOf app model) (sym sized.0) is, also_painting is up sized.1)
  also_painting is (ToHost.Response number verdict ∷ up) sized = sized
  also_painting is (ToHost.TalksUp saying ∷ up) sized = also_painting is up sized

  either_painting : IsSizeOf app model now → (painting : Bool) (up : List ToHost) → AreSized app model false now up → AreSized app model painting now up
  either_painting is true up sized = also_painting is up sized
  either_painting is false up sized = sized

-- ---- the host hears data while a paint waits for its answer

unbelieved_waits : (why : Disbelief) (conn : Session) (number : ℕ) (command : CommandParts) → conn.pending ≡ Pending.Writing number command → (unbelieved why conn).conn.pending ≡ conn.pending
unbelieved_waits why conn number command pends = by_tests (not (may_have_changed conn.unheard)) conn.verifies (ltb conn.restored most_restored)
  where
    restored : Session
    restored = record conn { restored = suc conn.restored }

    over : (painted_over conn.turn conn.pending restored).pending ≡ conn.pending
    over = ap (λ (p : Pending). (painted_over conn.turn p restored).pending) pends

    by_tests : (relies verifies few : Bool)
        → (if relies then closed_by BadInbound conn else if verifies then breaking sends_wrong conn else if few then restoring why (painted_over conn.turn conn.pending restored) else closed_by BadInbound conn).conn.pending ≡ conn.pending
    by_tests true verifies few = refl
    by_tests false true few = refl
    by_tests false false true = over
    by_tests false false false = refl

key_waits : (parts : InboundParts) (aid : Aid) (conn : Session) (number : ℕ) (command : CommandParts) → conn.pending ≡ Pending.Writing number command → (second_key parts aid conn.pending conn).conn.pending ≡ conn.pending
key_waits parts NoAid conn number command pends = unbelieved_waits NoKey conn number command pends
key_waits parts Enter conn number command pends = refl
key_waits parts Clear conn number command pends = ap (λ (p : Pending). (second_key parts Clear p conn).conn.pending) pends
key_waits parts (Pf key) conn number command pends = refl
key_waits parts (Pa key) conn number command pends = refl

data_waits : (pool : Answers) (conn : Session) (parts : InboundParts) (number : ℕ) (command : CommandParts) → conn.pending ≡ Pending.Writing number command → (host_took pool conn (ToHost.Data parts)).conn.pending ≡ conn.pending
data_waits pool conn parts number command pends =
    by_agreed (is_agreed conn.talk.state)
  where
    by_form : (form : Form) → (second_key_data parts form conn).conn.pending ≡ conn.pending
    by_form Modified = key_waits parts parts.aid conn number command pends
    by_form AllModified = refl
    by_form Buffer = refl

    by_changed : (changed : Bool) → (if changed then second_key_data parts parts.form conn else closed_by BadInbound conn).conn.pending ≡ conn.pending
    by_changed true = by_form parts.form
    by_changed false = refl

    came : (data_came parts conn.turn conn.pending conn).conn.pending ≡ conn.pending
    came = ap (λ (p : Pending). (data_came parts conn.turn p conn).conn.pending) pends ∙ by_changed (may_have_changed conn.unheard)

    by_agreed : (agreed : Bool) → (once_agreed agreed (data_came parts conn.turn conn.pending conn) conn).conn.pending ≡ conn.pending
    by_agreed true = came
    by_agreed false = refl

-- so the host still waits
still_waits : (pool : Answers) (conn : Session) (parts : InboundParts) → is_painting conn.pending ≡ true → is_painting (host_took pool conn (ToHost.Data parts)).conn.pending ≡ true
still_waits pool conn parts paints = by_pending conn.pending refl
  where
    by_pending : (pending : Pending) → conn.pending ≡ pending → is_painting (host_took pool conn (ToHost.Data parts)).conn.pending ≡ true
    by_pending (Pending.Writing number command) pends = ap is_painting (data_waits pool conn parts number command pends) ∙ paints
    by_pending Pending.Nothing pends = absurd (let wrong : false ≡ true = sym (ap is_painting pends) ∙ paints in cc)
    by_pending (Pending.Reading number) pends = absurd (let wrong : false ≡ true = sym (ap is_painting pends) ∙ paints in cc)
    by_pending (Pending.Noting number command) pends = absurd (let wrong : false ≡ true = sym (ap is_painting pends) ∙ paints in cc)

-- and else doesn't
never_waits : (pool : Answers) (conn : Session) (message : ToHost) → is_painting conn.pending ≡ false → is_painting (host_took pool conn message).conn.pending ≡ false
never_waits pool conn message unpainted = by_pending (just_talks pool conn message).pending
  where
    by_pending : ((host_took pool conn message).conn.pending ≡ conn.pending) ⊎ ((host_took pool conn message).conn.pending ≡ Pending.Nothing) → is_painting (host_took pool conn message).conn.pending ≡ false
    by_pending (inl same) = ap is_painting same ∙ unpainted
    by_pending (inr none) = ap is_painting none

-- ---- what the terminal sends

-- all of it has the size of its screen, whether or not a paint waits for its answer
record SendsSized (app : Application) (model : Model) (now size : ScreenSize) (sends : List ToHost) : Type 0 where
  all : All (HasThatSize size) sends
  before : AreSized app model true now sends

module _ (app : Application) (model : Model) (now size : ScreenSize) (is : IsSizeOf app model size) where
  nothing_sized : SendsSized app model now size []
  nothing_sized = record { all = All-nil (HasThatSize size); before = tt }

  talk_before : (sayings : List NegotiationMessage) → AreSized app model true now (map ToHost.TalksUp sayings)
  talk_before [] = tt
  talk_before (saying ∷ sayings) = talk_before sayings

  talk_sized : (sayings : List NegotiationMessage) → SendsSized app model now size (map ToHost.TalksUp sayings)
  talk_sized sayings = record { all = All-map (HasThatSize size) ToHost.TalksUp sayings (λ k d below. tt); before = talk_before sayings }

  data_sized : (parts : InboundParts) → parts.size ≡ size → SendsSized app model now size (ToHost.Data parts ∷ [])
  data_sized parts same = record {
    all = All-cons (HasThatSize size) (ToHost.Data parts) [] same (All-nil (HasThatSize size));
    before = (subst (IsSizeOf app model) (sym same) is, tt);
  }

  response_sized : (number : ℕ) → SendsSized app model now size (ToHost.Response number Verdict.Positive ∷ [])
  response_sized number = record { all = All-cons (HasThatSize size) (ToHost.Response number Verdict.Positive) [] tt (All-nil (HasThatSize size)); before = tt }

  bound_sized : (bound : Bool) (end : TermEnd) (step : TermStep) → SendsSized app model now size step.sends → SendsSized app model now size (once_bound bound step end).sends
  bound_sized true end step sized = sized
  bound_sized false end step sized = nothing_sized

  took_sized : (end : TermEnd) (message : ToTerminal) → end.display.size ≡ size → SendsSized app model now size (took end message).sends
  took_sized end (ToTerminal.TalksDown saying) same = talk_sized _
  took_sized end (ToTerminal.Paint number wanted over) same = bound_sized (is_bound end) end _ (response_sized number)
  took_sized end (ToTerminal.ReadBuffer number) same = bound_sized (is_bound end) end _ (data_sized (buffer_data end.display.size end.display.screen) same)
  took_sized end (ToTerminal.Note number command) same = bound_sized (is_bound end) end _ (response_sized number)

  key_sized : (bound : Bool) (aid : Aid) (screen : Screen) → SendsSized app model now size (data_of bound (Send aid) size screen)
  key_sized true aid screen = by_test (stands_alone Modified screen.aid)
    where
      long : InboundParts
      long = record { form = Modified; size = size; aid = screen.aid; cursor = Some screen.cursor; parts = parts_of_fields (leading_text_of screen.cells) (returned_of screen.cells) }

      by_test : (b : Bool) → SendsSized app model now size (ToHost.Data (if b then record { form = Modified; size = size; aid = screen.aid; cursor = None; parts = [] } else long) ∷ [])
      by_test true = data_sized (record { form = Modified; size = size; aid = screen.aid; cursor = None; parts = [] }) refl
      by_test false = data_sized long refl
  key_sized false aid screen = nothing_sized

  operates_sized : (end : TermEnd) (step : TermStep) → Operates end step → end.display.size ≡ size
      → SendsSized app model now size step.sends × (step.end.display.model ≡ end.display.model)
  operates_sized end step (Operates.edits keyboard cells cursor erases held on is) same =
      (subst (λ (s : TermStep). SendsSized app model now size s.sends) (sym is) nothing_sized, ap (λ (s : TermStep). s.end.display.model) is)
  operates_sized end step (Operates.sends keyboard aid some is) same = (
    subst (λ (s : TermStep). SendsSized app model now size s.sends) (sym is)
        (subst (λ (shape : ScreenSize). SendsSized app model now size (data_of (is_bound end) (Send aid) shape (with_aid aid end.display.screen))) (sym same) (key_sized (is_bound end) aid (with_aid aid end.display.screen))),
    ap (λ (s : TermStep). s.end.display.model) is,
  )

  executed_sized : (end : TermEnd) (message : ToTerminal) → end.display.size ≡ size → SendsSized app model now size (executed end message).sends
  executed_sized end (ToTerminal.Paint number wanted over) same = bound_sized (is_bound end) end _ (response_sized number)
  executed_sized end (ToTerminal.TalksDown saying) same = took_sized end (ToTerminal.TalksDown saying) same
  executed_sized end (ToTerminal.ReadBuffer number) same = took_sized end (ToTerminal.ReadBuffer number) same
  executed_sized end (ToTerminal.Note number command) same = took_sized end (ToTerminal.Note number command) same

operates_size : (end : TermEnd) (step : TermStep) → Operates end step → step.end.display.size ≡ end.display.size
operates_size end step (Operates.edits keyboard cells cursor erases held on is) = ap (λ (s : TermStep). s.end.display.size) is
operates_size end step (Operates.sends keyboard aid some is) = ap (λ (s : TermStep). s.end.display.size) is

bound_model : (bound : Bool) (step : TermStep) (end : TermEnd) → step.end.display.model ≡ end.display.model → (once_bound bound step end).end.display.model ≡ end.display.model
bound_model true step end is = is
bound_model false step end is = refl

executed_model : (end : TermEnd) (message : ToTerminal) → (executed end message).end.display.model ≡ end.display.model
executed_model end (ToTerminal.TalksDown saying) = refl
executed_model end (ToTerminal.Paint number wanted over) = bound_model (is_bound end) (paint_executed number wanted over end) end refl
executed_model end (ToTerminal.ReadBuffer number) = bound_model (is_bound end) _ end refl
executed_model end (ToTerminal.Note number command) = bound_model (is_bound end) _ end refl

-- the size of the screen then
size_if : (bound : Bool) (step : TermStep) (end : TermEnd) → (once_bound bound step end).end.display.size ≡ (if bound then step.end.display.size else end.display.size)
size_if true step end = refl
size_if false step end = refl

same_size_if : (bound : Bool) (step : TermStep) (end : TermEnd) → step.end.display.size ≡ end.display.size → (once_bound bound step end).end.display.size ≡ end.display.size
same_size_if true step end same = same
same_size_if false step end same = refl

-- ---- an end that leaves

host_left_sized : (app : Application) (cause : Option Cause) (link : Link) → IsSized app link → IsSized app (host_left_if cause link)
host_left_sized app None link z = z
host_left_sized app (Some cause) link z = record { up = z.up; term = z.term; same = z.same }

term_left_sized : (app : Application) (cause : Option Cause) (link : Link) → IsSized app link → IsSized app (term_left_if cause link)
term_left_sized app None link z = z
term_left_sized app (Some cause) link z = record { up = z.up; term = z.term; same = z.same }

-- ---- a queue with a paint

no_paint_added : (down : List ToTerminal) (talk : List NegotiationMessage) → has_paint (down ++ map ToTerminal.TalksDown talk) ≡ has_paint down
no_paint_added [] [] = refl
no_paint_added [] (saying ∷ talk) = no_paint_added [] talk
no_paint_added (ToTerminal.Paint number wanted over ∷ down) talk = refl
no_paint_added (ToTerminal.TalksDown saying ∷ down) talk = no_paint_added down talk
no_paint_added (ToTerminal.ReadBuffer number ∷ down) talk = no_paint_added down talk
no_paint_added (ToTerminal.Note number command ∷ down) talk = no_paint_added down talk

paint_last : (down : List ToTerminal) (number : ℕ) (wanted : WantedScreen) (over : Shadow) → has_paint (down ++ ToTerminal.Paint number wanted over ∷ []) ≡ true
paint_last [] number wanted over = refl
paint_last (ToTerminal.Paint other paints under ∷ down) number wanted over = refl
paint_last (ToTerminal.TalksDown saying ∷ down) number wanted over = paint_last down number wanted over
paint_last (ToTerminal.ReadBuffer other ∷ down) number wanted over = paint_last down number wanted over
paint_last (ToTerminal.Note other command ∷ down) number wanted over = paint_last down number wanted over

read_last : (down : List ToTerminal) (number : ℕ) → has_paint (down ++ ToTerminal.ReadBuffer number ∷ []) ≡ has_paint down
read_last [] number = refl
read_last (ToTerminal.Paint other paints under ∷ down) number = refl
read_last (ToTerminal.TalksDown saying ∷ down) number = read_last down number
read_last (ToTerminal.ReadBuffer other ∷ down) number = read_last down number
read_last (ToTerminal.Note other command ∷ down) number = read_last down number

note_last : (down : List ToTerminal) (number : ℕ) (command : CommandParts) → has_paint (down ++ ToTerminal.Note number command ∷ []) ≡ has_paint down
note_last [] number command = refl
note_last (ToTerminal.Paint other paints under ∷ down) number command = refl
note_last (ToTerminal.TalksDown saying ∷ down) number command = note_last down number command
note_last (ToTerminal.ReadBuffer other ∷ down) number command = note_last down number command
note_last (ToTerminal.Note other written ∷ down) number command = note_last down number command

-- ---- moves keep it

module _ (given : LowerLaws) (sized_so : MeetsIsOfSize) (app : Application) (is : IsApplication app) (sizes : HasTheSizes app) (lu : List ℕ) (t : LinkWithReport) (k : Known app lu t) (alive : t.link.lost ≡ false) (z : IsSized app t.link) where
  abbrev model : Model
  model = t.link.term.display.model

  host_shape : IsSizeOf app model t.link.host.size
  host_shape = subst (λ (m : Model). IsSizeOf app m t.link.host.size) (sym k.model) (host_size given sized_so app is sizes lu t k)

  -- what the terminal sends is queued behind
  queued_sized : (lost : Bool) (sends : List ToHost) → SendsSized app model t.link.host.size t.link.term.display.size sends
      → AreSized app model (is_painting t.link.host.pending) t.link.host.size (sent lost t.link.up sends)
  queued_sized true sends sized = z.up
  queued_sized false sends sized = by_paint (has_paint t.link.down) refl
    where
      by_paint : (paints : Bool) → has_paint t.link.down ≡ paints → AreSized app model (is_painting t.link.host.pending) t.link.host.size (t.link.up ++ sends)
      by_paint false none =
          more_sized app model t.link.host.size (is_painting t.link.host.pending) t.link.up sends host_shape z.up
          (subst (λ (size : ScreenSize). All (HasThatSize size) sends) (z.same none) sized.all)
      by_paint true some =
          let painting = k.painting some in
          subst (λ (b : Bool). AreSized app model b t.link.host.size (t.link.up ++ sends)) (sym painting.0)
          (more_before app model t.link.host.size t.link.up sends painting.1 (subst (λ (b : Bool). AreSized app model b t.link.host.size t.link.up) painting.0 z.up) sized.before)

  down_sized : (down : List ToTerminal) → t.link.down ≡ down → IsSized app (moved app Move.Down t).link
  down_sized [] e = subst (λ (d : List ToTerminal). IsSized app (came_down d t).link) (sym e) z
  down_sized (message ∷ rest) e =
      let step : TermStep = executed t.link.term message in
      let stays : Link = record t.link { down = rest; term = step.end; up = sent t.link.lost t.link.up step.sends } in
      subst (λ (d : List ToTerminal). IsSized app (came_down d t).link) (sym e)
      (subst (IsSized app) (sym (told_link_is (is_bound t.link.term) message t (term_stepped step rest t.link)))
      (term_left_sized app step.closes stays (by_message message e)))
    where
      -- the screen then has this size
      executed_so : (m : ToTerminal) → t.link.down ≡ m ∷ rest → IsSizeOf app model (executed t.link.term m).end.display.size → (has_paint rest ≡ false → (executed t.link.term m).end.display.size ≡ t.link.host.size)
          → IsSized app (record t.link { down = rest; term = (executed t.link.term m).end; up = sent t.link.lost t.link.up (executed t.link.term m).sends })
      executed_so m is_m shape same = record {
        up = subst (λ (n : Model). AreSized app n (is_painting t.link.host.pending) t.link.host.size (sent t.link.lost t.link.up (executed t.link.term m).sends)) (sym (executed_model t.link.term m))
            (queued_sized t.link.lost (executed t.link.term m).sends (executed_sized app model t.link.host.size t.link.term.display.size z.term t.link.term m refl));
        term = subst (λ (n : Model). IsSizeOf app n (executed t.link.term m).end.display.size) (sym (executed_model t.link.term m)) shape;
        same = same;
      }

      as_it_was : (m : ToTerminal) → t.link.down ≡ m ∷ rest → (executed t.link.term m).end.display.size ≡ t.link.term.display.size → has_paint (m ∷ rest) ≡ has_paint rest
          → IsSized app (record t.link { down = rest; term = (executed t.link.term m).end; up = sent t.link.lost t.link.up (executed t.link.term m).sends })
      as_it_was m is_m same no_paint =
          executed_so m is_m (subst (IsSizeOf app model) (sym same) z.term) (λ none. same ∙ z.same (ap has_paint is_m ∙ no_paint ∙ none))

      by_message : (m : ToTerminal) → t.link.down ≡ m ∷ rest → IsSized app (record t.link { down = rest; term = (executed t.link.term m).end; up = sent t.link.lost t.link.up (executed t.link.term m).sends })
      by_message (ToTerminal.TalksDown saying) is_m = as_it_was (ToTerminal.TalksDown saying) is_m refl refl
      by_message (ToTerminal.ReadBuffer number) is_m = as_it_was (ToTerminal.ReadBuffer number) is_m (same_size_if (is_bound t.link.term) _ t.link.term refl) refl
      by_message (ToTerminal.Note number command) is_m = as_it_was (ToTerminal.Note number command) is_m (same_size_if (is_bound t.link.term) _ t.link.term refl) refl
      by_message (ToTerminal.Paint number wanted over) is_m =
          let now : (executed t.link.term (ToTerminal.Paint number wanted over)).end.display.size ≡ t.link.host.size =
          size_if (is_bound t.link.term) (paint_executed number wanted over t.link.term) t.link.term
          ∙ ap (λ (b : Bool). if b then wanted.size else t.link.term.display.size) (paint_bound given sized_so app is sizes lu t k number wanted over rest is_m)
          ∙ paint_sized given sized_so app is sizes lu t k number wanted over rest is_m in
          executed_so (ToTerminal.Paint number wanted over) is_m (subst (IsSizeOf app model) (sym now) host_shape) (λ none. now)

  operated_sized : (step : TermStep) → Operates t.link.term step → IsSized app (moved app (Move.Operate step) t).link
  operated_sized step does =
      let operates = operates_sized app model t.link.host.size t.link.term.display.size z.term t.link.term step does refl in
      term_left_sized app step.closes (record t.link { term = step.end; up = sent t.link.lost t.link.up step.sends }) (record {
        up = subst (λ (n : Model). AreSized app n (is_painting t.link.host.pending) t.link.host.size (sent t.link.lost t.link.up step.sends)) (sym operates.1) (queued_sized t.link.lost step.sends operates.0);
        term = subst (λ (n : Model). IsSizeOf app n step.end.display.size) (sym operates.1) (subst (IsSizeOf app model) (sym (operates_size t.link.term step does)) z.term);
        same = λ none. operates_size t.link.term step does ∙ z.same none;
      })

  -- ---- the host

  up_sized : (pool : List Entry) (up : List ToHost) → t.link.up ≡ up → IsSized app (came_up pool up t).link
  up_sized pool [] e = z
  up_sized pool (message ∷ rest) e =
      let step : HostStep = host_took (answer_to pool) t.link.host message in
      let just = just_talks (answer_to pool) t.link.host message in
      host_left_sized app step.closes (record t.link { up = rest; host = step.conn; down = sent t.link.lost t.link.down step.sends }) (record {
        up = subst (λ (size : ScreenSize). AreSized app model (is_painting step.conn.pending) size rest) (sym just.size)
            (heard message (subst (AreSized app model (is_painting t.link.host.pending) t.link.host.size) e z.up) (subst (AllByRecursion IsNoTalk) e k.no_talk).0);
        term = z.term;
        same = λ none. z.same (sym (sends_no_paint t.link.lost step.sends just.talk just.says) ∙ none) ∙ sym just.size;
      })
    where
      sends_no_paint : (lost : Bool) (sends : List ToTerminal) (talk : List NegotiationMessage) → sends ≡ map ToTerminal.TalksDown talk → has_paint (sent lost t.link.down sends) ≡ has_paint t.link.down
      sends_no_paint true sends talk says = refl
      sends_no_paint false sends talk says = ap (λ (s : List ToTerminal). has_paint (t.link.down ++ s)) says ∙ no_paint_added t.link.down talk

      heard : (m : ToHost) → AreSized app model (is_painting t.link.host.pending) t.link.host.size (m ∷ rest) → IsNoTalk m → AreSized app model (is_painting (host_took (answer_to pool) t.link.host m).conn.pending) t.link.host.size rest
      heard (ToHost.TalksUp saying) sized none = absurd none
      heard (ToHost.Response number verdict) sized none = either_painting app model t.link.host.size host_shape _ rest sized
      heard (ToHost.Data parts) sized none = by_painting (is_painting t.link.host.pending) refl sized.1
        where
          by_painting : (painting : Bool) → is_painting t.link.host.pending ≡ painting → AreSized app model painting t.link.host.size rest
              → AreSized app model (is_painting (host_took (answer_to pool) t.link.host (ToHost.Data parts)).conn.pending) t.link.host.size rest
          by_painting true paints others = subst (λ (b : Bool). AreSized app model b t.link.host.size rest) (sym (still_waits (answer_to pool) t.link.host parts paints)) others
          by_painting false unpainted others = subst (λ (b : Bool). AreSized app model b t.link.host.size rest) (sym (never_waits (answer_to pool) t.link.host (ToHost.Data parts) unpainted)) others

  abbrev sends_so : Option Sent → Type 0
  sends_so what = IsSized app (host_sent what t.link)

  abbrev may_act_now : Bool
  may_act_now = may_act t.link.host.turn t.link.host.pending (is_agreed t.link.host.talk.state)

  -- in its turn nothing is pending
  unpainted : t.link.host.pending ≡ Pending.Nothing → AreSized app model false t.link.host.size t.link.up
  unpainted pends = subst (λ (p : Pending). AreSized app model (is_painting p) t.link.host.size t.link.up) pends z.up

  -- what is sent goes down, since the connection isn't lost
  sent_down : (message : ToTerminal) → has_paint (t.link.down ++ message ∷ []) ≡ has_paint (sent t.link.lost t.link.down (message ∷ []))
  sent_down message = ap (λ (lost : Bool). has_paint (sent lost t.link.down (message ∷ []))) (sym alive)

  act_sized : (act : Act) → may_act_now ≡ true → sends_so (Some (done app t.link.host act))
  act_sized act may = by_act act (may_act_when t.link.host.turn t.link.host.pending (is_agreed t.link.host.talk.state) may)
    where
      by_act : (act : Act) → (t.link.host.turn ≡ whose.Host) × (t.link.host.pending ≡ Pending.Nothing) × (is_agreed t.link.host.talk.state ≡ true) → sends_so (Some (done app t.link.host act))
      by_act Act.Read when = record { up = unpainted when.1; term = z.term; same = λ none. z.same (sym (read_last t.link.down t.link.host.next_seq) ∙ sent_down (ToTerminal.ReadBuffer t.link.host.next_seq) ∙ none) }
      by_act (Act.Show panel message keep values) when =
          let sending : Sent = done app t.link.host (Act.Show panel message keep values) in
          record {
            up = once_painting app model t.link.host.size sending.conn.size t.link.up (k.silent when.0 when.1) host_shape (unpainted when.1);
            term = z.term;
            same = λ none. absurd (let wrong : true ≡ false = sym (paint_last t.link.down _ _ _) ∙ sent_down sending.message ∙ none in cc);
          }

  acts_sized : sends_so (acted app t.link.host)
  acts_sized = by_may may_act_now refl (decision_on app t.link.host t.link.host.turn_reason)
    where
      by_may : (may : Bool) → may_act_now ≡ may → (decision : Decision) → sends_so (option_and_then (decided app t.link.host) (if may then Some decision else None))
      by_may true may (Decision.Do act) = act_sized act may
      by_may true may Decision.Asks = z
      by_may false may decision = z

  answers_sized : (said : ApplicationAnswer) → sends_so (answered_on app t.link.host said)
  answers_sized said = by_open (is_asking app t.link.host) refl (has_its_panel app said)
    where
      act : Act
      act = act_by app t.link.host said (panel_for app t.link.host said)

      by_open : (asked : Bool) → is_asking app t.link.host ≡ asked → (there : Bool) → sends_so (if asked && there then Some (done app t.link.host act) else None)
      by_open true open_now true = act_sized act (asking_parts app t.link.host open_now).0
      by_open true open_now false = z
      by_open false open_now there = z

  notes_sized : (text : List ℕ) → sends_so (noted text t.link.host)
  notes_sized text = by_may (may_note t.link.host.turn t.link.host.pending (is_agreed t.link.host.talk.state)) refl
    where
      by_may : (may : Bool) → may_note t.link.host.turn t.link.host.pending (is_agreed t.link.host.talk.state) ≡ may → sends_so (if may then Some (noted_as text t.link.host) else None)
      by_may true may =
          let when = may_note_when t.link.host.turn t.link.host.pending (is_agreed t.link.host.talk.state) may in
          record { up = unpainted when.1; term = z.term; same = λ none. z.same (sym (note_last t.link.down _ _) ∙ sent_down (noted_as text t.link.host).message ∙ none) }
      by_may false may = z

  pub move_sized : (move : Move) → IsByTheRules move t → IsSized app (moved app move t).link
  move_sized (Move.Up pool) rules = up_sized pool t.link.up refl
  move_sized Move.Down rules = down_sized t.link.down refl
  move_sized Move.Act rules = acts_sized
  move_sized (Move.Answer said) rules = answers_sized said
  move_sized (Move.Note text) rules = notes_sized text
  move_sized (Move.Operate step) rules = operated_sized step rules.0
  move_sized Move.Lose rules = record { up = z.up; term = z.term; same = z.same }

-- ---- the largest size

no_more : (n : ℕ) → n ≤ n
no_more n = omega arith

base_fits : (model : Model) → cells_in model_2 ≤ cells_in (alternate_of model)
base_fits M2 = omega arith
base_fits M3 = omega arith
base_fits M4 = omega arith
base_fits M5 = omega arith

at_most_alternate : (app : Application) (sizes : HasTheSizes app) (model : Model) (size : ScreenSize) → IsSizeOf app model size → cells_in size ≤ cells_in (alternate_of model)
at_most_alternate app sizes model size (inl begins) = subst (λ (s : ScreenSize). cells_in s ≤ cells_in (alternate_of model)) (sym (begins ∙ sizes.begins)) (base_fits model)
at_most_alternate app sizes model size (inr alternate) =
    subst (λ (s : ScreenSize). cells_in s ≤ cells_in (alternate_of model)) (sym (alternate ∙ sizes.alternate model)) (no_more (cells_in (alternate_of model)))

-- once both agreed the host knows the model
knows_the_model : (app : Application) (link : Link) → ConnectionInvariant app (view_of link) → is_agreed link.host.talk.state ≡ true → model_in link.host ≡ link.term.display.model
knows_the_model app link k agrees = by_moment k.moment k.at
  where
    by_moment : (moment : LinkPhase) → IsAt (view_of link) k.wanted moment → model_in link.host ≡ link.term.display.model
    by_moment (LinkPhase.Negotiating talking) at =
        let lu = agreed_there link.term.display.model talking link.host.talk at.host_talk agrees in
        model_here link lu.0 (subst (λ (now : NegotiationPhase). IsHostIn link.term.display.model now link.host.talk) lu.1 at.host_talk)
    by_moment (LinkPhase.FirstPaint lu number command wanted over) at = model_here link lu at.host_talk
    by_moment (LinkPhase.InSession lu serving) at = model_here link lu at.host_talk

-- ---- what comes next

module _ (app : Application) (sizes : HasTheSizes app) (lu : List ℕ) (t : LinkWithReport) (k : Known app lu t) (z : IsSized app t.link) where
  -- a key's data
  key_comes : (parts : InboundParts) (others : List ToHost) → t.link.up ≡ ToHost.Data parts ∷ others → parts.form ≡ Modified → (form_awaited t.link.host.pending ≡ Buffer → count_leading parts.parts < cells_in t.link.host.size)
      → (pending : Pending) → t.link.host.pending ≡ pending → IsAwaitedBy t.link.host parts ⊎ IsSecondKeyIn t.link.host parts
  key_comes parts others e form few pending pends = by_pending pending pends
    where
      its_model : Model
      its_model = t.link.term.display.model

      size : (painting : Bool) → is_painting t.link.host.pending ≡ painting → IsSizedIf app its_model painting t.link.host.size parts.size
      size painting is_it =
          (subst (λ (b : Bool). AreSized app its_model b t.link.host.size (ToHost.Data parts ∷ others)) is_it
          (subst (AreSized app its_model (is_painting t.link.host.pending) t.link.host.size) e z.up)).0

      knows : model_in t.link.host ≡ its_model
      knows =
          ap (λ talk. model_in (record t.link.host { talk = talk })) k.talk
          ∙ knows_the_model app k.told k.kept (has_agreed lu k.told.host.talk.state k.agreed) ∙ sym k.model

      second : is_paint_or_read t.link.host.pending ≡ true → cells_in parts.size ≤ cells_in (second_key_size t.link.host t.link.host.pending) → IsSecondKeyIn t.link.host parts
      second some fits = record {
        may_be = ap (λ (b : Bool). may_have_changed t.link.host.unheard && b) some ∙ ap (λ (b : Bool). b && true) k.any;
        form = form;
        size = fits;
        few = few;
      }

      by_pending : (pending : Pending) → t.link.host.pending ≡ pending → IsAwaitedBy t.link.host parts ⊎ IsSecondKeyIn t.link.host parts
      by_pending Pending.Nothing pends = inl (record { form = form ∙ sym (ap form_awaited pends); size = size false (ap is_painting pends) })
      by_pending (Pending.Noting number command) pends = inl (record { form = form ∙ sym (ap form_awaited pends); size = size false (ap is_painting pends) })
      by_pending (Pending.Reading number) pends =
          let same : second_key_size t.link.host t.link.host.pending ≡ parts.size = ap (second_key_size t.link.host) pends ∙ sym (size false (ap is_painting pends)) in
          inr (second (ap is_paint_or_read pends) (subst (λ (large : ScreenSize). cells_in parts.size ≤ cells_in large) (sym same) (no_more (cells_in parts.size))))
      by_pending (Pending.Writing number command) pends =
          let large : second_key_size t.link.host t.link.host.pending ≡ alternate_of its_model = ap (second_key_size t.link.host) pends ∙ ap alternate_of knows in
          inr (second (ap is_paint_or_read pends)
          (subst (λ (shape : ScreenSize). cells_in parts.size ≤ cells_in shape) (sym large) (at_most_alternate app sizes its_model parts.size (size true (ap is_painting pends)))))

  pub comes_next : (message : ToHost) (others : List ToHost) → t.link.up ≡ message ∷ others
      → ((parts : InboundParts) → message ≡ ToHost.Data parts → parts.form ≡ Modified → form_awaited t.link.host.pending ≡ Buffer → count_leading parts.parts < cells_in t.link.host.size) → MayBeSent t.link.host message
  comes_next (ToHost.TalksUp saying) others e few = absurd (subst (AllByRecursion IsNoTalk) e k.no_talk).0
  comes_next (ToHost.Response number verdict) others e few = tt
  comes_next (ToHost.Data parts) others e few = by_form (k.comes parts others e)
    where
      by_form : (parts.form ≡ Modified) ⊎ IsAwaitedBy t.link.host parts → MayBeSent t.link.host (ToHost.Data parts)
      by_form (inl form) = key_comes parts others e form (few parts refl form) t.link.host.pending refl
      by_form (inr awaited) = inl awaited

-- the data that comes while a read is pending has the host's size
pub read_size : (app : Application) (link : Link) → IsSized app link → (parts : InboundParts) (others : List ToHost) → link.up ≡ ToHost.Data parts ∷ others → form_awaited link.host.pending ≡ Buffer → parts.size ≡ link.host.size
read_size app link z parts others e reads = by_pending link.host.pending refl
  where
    model : Model
    model = link.term.display.model

    unpainted : is_painting link.host.pending ≡ false → parts.size ≡ link.host.size
    unpainted none =
        (subst (λ (b : Bool). AreSized app model b link.host.size (ToHost.Data parts ∷ others)) none (subst (AreSized app model (is_painting link.host.pending) link.host.size) e z.up)).0

    by_pending : (pending : Pending) → link.host.pending ≡ pending → parts.size ≡ link.host.size
    by_pending Pending.Nothing is = unpainted (ap is_painting is)
    by_pending (Pending.Reading number) is = unpainted (ap is_painting is)
    by_pending (Pending.Noting number command) is = unpainted (ap is_painting is)
    by_pending (Pending.Writing number command) is = absurd (let wrong : Modified ≡ Buffer = sym (ap form_awaited is) ∙ reads in cc)
