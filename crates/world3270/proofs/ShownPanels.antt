-- Once a panel was shown the screen shows the connection's panel: it is read off the moment.
use Rattle.std.proofs.Common.{◌≡◌, ◌==◌, ◌+◌, ◌-◌, ◌≤◌, ℕ, arith, cond, Bool, true, false, None, Option, Some, List, [], refl, ap, sym, subst, ◌∙◌, if◌then◌else◌}
use Rattle.std.specs.Option.{option_map_or}
use Rattle.std.specs.Prelude.{slice_get, slice_index_or, unwrap_or}
use Rattle.codes3270.specs.declared.attribute.Attr.{Attr}
use Rattle.datastream.specs.Screen.{Screen}
use Rattle.datastream.specs.declared.wanted.Want.TheVariants as want
use Rattle.shadow.specs.PaintedFields.{KeptStaysThere, WrittenIsThere}
use Rattle.panels.specs.KeptFields.{AttributesAreThere, FieldsAreKeptWhole, FieldsAreOnTheScreen, FieldsAreWritten, IsCharacterOf, TextsAreWritten}
use Rattle.codes3270.specs.declared.size.Model.{Model}
use Rattle.codes3270.specs.declared.size.Model.TheVariants.{M2}
use Rattle.panels.specs.Panel.{AreSound, HasItemsApart, HaveNumbersApart, HaveOtherwise, IsCellOf, IsLaidOut, IsOtherwise, PanelParts, Panels, is_shown, shown_in as form_in, shown_of}
use Rattle.panels.proofs.KeptFields.{some_distance}
use Rattle.panels.specs.Screen.{Values, autoskip_attr, item_cell, screen_of as panel_screen, shown as shown_text}
use Rattle.panels.specs.Values.{value_of}
use Rattle.panels.specs.declared.extent.Extent.{Extent}
use Rattle.panels.specs.declared.message.Message.{Message}
use Rattle.panels.specs.declared.panel.Content.{Content}
use Rattle.panels.specs.declared.panel.Field.{Field as PanelField}
use Rattle.panels.specs.declared.panel.Value.{Value as PanelValue}
use Rattle.host_core.specs.Application.{Application, IsApplication, application_of, no_panel, panel_at}
use Rattle.host_core.specs.Laws.{PanelsAreShown}
use Rattle.host_core.specs.Session.{Session}
use Rattle.world3270.specs.statement.Always.{AlwaysOf}
use Rattle.world3270.specs.model.ByteWorld.{is_there}
use Rattle.world3270.specs.refinement.LowerLaws.{LowerLaws}
use Rattle.world3270.specs.model.Steps.{run}
use Rattle.world3270.specs.model.Link.{Link}
use Rattle.world3270.specs.refinement.Phases.{SessionPhase, LinkPhase, turn_at, pending_at}
use Rattle.world3270.specs.refinement.Refines.{WorldSetup, after}
use Rattle.world3270.specs.statement.Observation.{SeenLink, TerminalSeen}
use Rattle.world3270.specs.statement.Showing.{ShowsItsPanel}
use Rattle.world3270.specs.statement.Shown.{FieldsAreShown, HasShown, IsPanelShown, PanelIsShown, PanelIsShownOverBytes, is_painting}
use Rattle.world3270.specs.statement.ShownFields.{WantsItsFields}
use Rattle.world3270.specs.refinement.Invariant.{Fact, ConnectionInvariant, LocalState, local_state_of, ShownAt}
use Rattle.world3270.specs.refinement.Representation.{conn_of, link_of}
use Rattle.world3270.specs.refinement.Represents.{LinkRepresents}
use Rattle.world3270.specs.refinement.View.{view_of}
use Rattle.world3270.specs.model.World.{World, new_world}
use Rattle.world3270.proofs.AskedOverBytes.{panel_there}
use Rattle.world3270.proofs.Headline.{terminal_attached}
use Rattle.world3270.proofs.SeenRepresents.{same_seen}
use Rattle.world3270.proofs.ShownFields.{cursor_shown, fields_shown, values_shown}
use Rattle.world3270.proofs.Waits.{all_wait}
use Rattle.world3270.proofs.Worlds.{new_good, run_good}

module _ (app : Application) (waits : Bool) (host : Session) (before left now : Screen) (has : HasShown host) where
  shown_in : (lu : List ℕ) (serving : SessionPhase) → host.turn ≡ turn_at (LinkPhase.InSession lu serving) → is_painting (pending_at (LinkPhase.InSession lu serving)) ≡ false
      → ShownAt app waits host before left now (LinkPhase.InSession lu serving) → ShowsItsPanel app waits host before left
  shown_in lu SessionPhase.Deciding turn answered shown = shown.0 (has.not_first turn)
  shown_in lu (SessionPhase.Reading number) turn answered shown = shown (has.not_first turn)
  shown_in lu (SessionPhase.BufferReturning number parts) turn answered shown = shown (has.not_first turn)
  shown_in lu (SessionPhase.DecidingNoteSent number command) turn answered shown = shown.0
  shown_in lu (SessionPhase.DecidingNoteAnswered number command) turn answered shown = shown.0
  shown_in lu (SessionPhase.Painting number command wanted over) turn answered shown = absurd (cc)
  shown_in lu (SessionPhase.AwaitingWriteResponse kind number command) turn answered shown = shown
  shown_in lu SessionPhase.OperatorTyping turn answered shown = shown
  shown_in lu (SessionPhase.Noting number command) turn answered shown = shown
  shown_in lu (SessionPhase.KeySent parts) turn answered shown = shown
  shown_in lu (SessionPhase.KeySentAfterResponse kind number command parts) turn answered shown = shown
  shown_in lu (SessionPhase.KeyCrossingNote number command parts) turn answered shown = shown
  shown_in lu (SessionPhase.KeyBeforeNoteResponse number command parts) turn answered shown = shown

  shown_at : (wanted : Option (List ℕ)) (s : LocalState) (moment : LinkPhase) → s.turn_reason ≡ host.turn_reason → host.turn ≡ turn_at moment → is_painting (pending_at moment) ≡ false → Fact wanted s moment
      → ShownAt app waits host before left now moment → ShowsItsPanel app waits host before left
  shown_at wanted s (LinkPhase.Negotiating talking) same turn answered fact shown = absurd (has.not_first turn (sym same ∙ fact.0.turn_reason))
  shown_at wanted s (LinkPhase.FirstPaint lu number command wants over) same turn answered fact shown = absurd (cc)
  shown_at wanted s (LinkPhase.InSession lu serving) same turn answered fact shown = shown_in lu serving turn answered shown

pub shown_now : (app : Application) (link : Link) → ConnectionInvariant app (view_of link) → HasShown link.host → ShowsItsPanel app link.term.waits link.host link.term.display.before_restored link.term.display.last_restored
shown_now app link k has =
    shown_at app link.term.waits link.host link.term.display.before_restored link.term.display.last_restored link.term.display.screen has k.wanted (local_state_of (view_of link)) k.moment refl k.at.turn (ap is_painting (sym k.at.pending) ∙ has.answered) k.fact k.shown

pub panel_is_shown : LowerLaws → AlwaysOf PanelIsShown
panel_is_shown given app serves pool models events is lists few are =
    let world : World = run app events (new_world app serves pool models) in
    let g = run_good given app is events (new_world app serves pool models) are (new_good given app is serves pool models lists) in
    λ number terminal here terminal_is has.
    let link : Link = world.link number in
    let there = terminal_attached link.term_here link.term terminal terminal_is in
    subst (λ (t : TerminalSeen). ShowsItsPanel app true link.host t.before_restored t.last_restored) (sym there.2) (subst (λ (waits : Bool). ShowsItsPanel app waits link.host link.term.display.before_restored link.term.display.last_restored) (all_wait given app is serves pool models events lists are number) (shown_now app link (g.links number) has))

pub fields_are_shown : WrittenIsThere → KeptStaysThere → AlwaysOf PanelIsShown → AlwaysOf FieldsAreShown
fields_are_shown written kept always app serves pool models events is lists few are =
    let world : World = run app events (new_world app serves pool models) in
    λ wants number terminal here terminal_is has.
    let shown = always app serves pool models events is lists few are number terminal here terminal_is has in
    record {
      shown = shown;
      fields = fields_shown written kept app is wants true (world.link number).host terminal.before_restored terminal.last_restored shown;
      values = values_shown app wants true (world.link number).host terminal.before_restored terminal.last_restored shown;
      cursor = cursor_shown app wants true (world.link number).host terminal.before_restored terminal.last_restored shown;
    }

-- ---- of a world over bytes

-- the laws of panels that say what their screens want
pub record KnownPanels : Type 0 where
  pub application : PanelsAreShown
  pub attributes : AttributesAreThere
  pub written : FieldsAreWritten
  pub kept : FieldsAreKeptWhole
  pub on_screen : FieldsAreOnTheScreen
  pub texts : TextsAreWritten

later : (attr : Attr) (char : ℕ) (first : Bool) → first ≡ false → cond first (want.Attr attr) (want.Char char) ≡ want.Char char
later attr char first is = rw is refl

-- a character of an item, which isn't its attribute
char_at : (attr : Attr) (text : List ℕ) (first cell : ℕ) → first ≤ cell → Some (item_cell attr text (cell + 1 - first)) ≡ Some (want.Char (slice_index_or text (cell - first) 0))
char_at attr text first cell past =
    let before : cell + 1 - first - 1 ≡ cell - first = omega arith in
    ap Some (later attr (slice_index_or text (cell + 1 - first - 1) 0) ((cell + 1 - first) == 0) (some_distance first cell past)
    ∙ ap (λ (distance : ℕ). want.Char (slice_index_or text distance 0)) before)

-- a field of a panel, and that this is one of the set's
record Among (set : Panels) (panel index : ℕ) (field : PanelField) : Type 0 where
  apart : HasItemsApart (panel_at set panel)
  laid_out : IsLaidOut (panel_at set panel)

among : (set : Panels) → AreSound set → (panel index : ℕ) (field : PanelField) → slice_get (panel_at set panel).fields index ≡ Some field → Among set panel index field
among set sound panel index field at =
    let there = panel_there (slice_get set.panels panel) index field at in
    let same : there.0 ≡ panel_at set panel = sym (ap (λ (p : Option PanelParts). unwrap_or p no_panel) there.1) in
    record { apart = subst HasItemsApart same (sound.apart panel there.0 there.1); laid_out = subst IsLaidOut same (sound.laid_out panel there.0 there.1) }

-- what a panel asks for has each value's characters
shows_value : TextsAreWritten → (set : Panels) → AreSound set → (p : ℕ) (panel : PanelParts) (values : Values) (message : Message) (keep : Bool) (index : ℕ) (value : PanelValue) (cell : ℕ)
    → slice_get set.panels p ≡ Some panel → slice_get panel.values index ≡ Some value → IsCharacterOf value.extent cell
    → slice_get (panel_screen panel values message keep).cells cell ≡ Some (want.Char (slice_index_or (unwrap_or (value_of values value.number) []) (cell - value.extent.first) 0))
shows_value written set sound p panel values message keep index value cell at_p at is =
    let (i, text, at_i, place, shows) = sound.shown p panel at_p index value at in
    let first = value.extent.first in
    let has : IsCellOf value.extent cell = (omega (arith, is.0), omega (arith, is.1)) in
    let item = autoskip_attr text.bright in
    written panel values message keep i text cell (sound.apart p panel at_p) (sound.laid_out p panel at_p) at_i (subst (λ (extent : Extent). IsCellOf extent cell) (sym place) has)
    ∙ ap (λ (extent : Extent). Some (item_cell item (shown_text values text.content) (cell + 1 - extent.first))) place
    ∙ ap (λ (content : Content). Some (item_cell item (shown_text values content) (cell + 1 - first))) shows
    ∙ char_at item (unwrap_or (value_of values value.number) []) first cell is.0

-- the panel that is shown to a model is shown to it as it is
pub shown_again : (set : Panels) → HaveOtherwise set → (model : Model) (number : ℕ) → form_in set model (form_in set model number) ≡ form_in set model number
shown_again set otherwise model number = by_panel (slice_get set.panels number) refl
  where
    as_it_is : (number : ℕ) (panel : PanelParts) → slice_get set.panels number ≡ Some panel → is_shown panel.model model ≡ true → form_in set model number ≡ number
    as_it_is number panel at shown =
        ap (λ (p : Option PanelParts). option_map_or (shown_of model number) p number) at ∙ ap (λ (b : Bool). if b then number else unwrap_or panel.otherwise number) shown

    of_model_2 : (one : Model) → one ≡ M2 → is_shown one model ≡ true
    of_model_2 one is = ap (λ (m : Model). is_shown m model) is

    by_other : (panel : PanelParts) (other : Option ℕ) → panel.otherwise ≡ other → slice_get set.panels number ≡ Some panel → is_shown panel.model model ≡ false → IsOtherwise set.panels panel.model other
        → form_in set model (unwrap_or other number) ≡ unwrap_or other number
    by_other panel None e at hidden is = absurd (let both = sym (of_model_2 panel.model is) ∙ hidden in cc)
    by_other panel (Some q) e at hidden is = as_it_is q is.1 is.2 (of_model_2 is.1.model is.3)

    by_shown : (panel : PanelParts) → slice_get set.panels number ≡ Some panel → (b : Bool) → is_shown panel.model model ≡ b
        → form_in set model (if b then number else unwrap_or panel.otherwise number) ≡ (if b then number else unwrap_or panel.otherwise number)
    by_shown panel at true shown = as_it_is number panel at shown
    by_shown panel at false hidden = by_other panel panel.otherwise refl at hidden (otherwise number panel at)

    by_panel : (panel : Option PanelParts) → slice_get set.panels number ≡ panel → form_in set model (form_in set model number) ≡ form_in set model number
    by_panel None at =
        let here : form_in set model number ≡ number = ap (λ (p : Option PanelParts). option_map_or (shown_of model number) p number) at in
        ap (λ (n : ℕ). form_in set model n) here
    by_panel (Some panel) at =
        let here : form_in set model number ≡ (if is_shown panel.model model then number else unwrap_or panel.otherwise number) =
        ap (λ (p : Option PanelParts). option_map_or (shown_of model number) p number) at in
        ap (λ (n : ℕ). form_in set model n) here ∙ by_shown panel at (is_shown panel.model model) refl ∙ sym here

wants_its_fields : KnownPanels → (set : Panels) → AreSound set → WantsItsFields (application_of set)
wants_its_fields known set sound = record {
  attributes = λ panel values message keep index field at.
      let a = among set sound panel index field at in
      known.attributes (panel_at set panel) values message keep index field a.apart a.laid_out at;
  written = λ panel values message index field cell at is.
      let a = among set sound panel index field at in
      known.written (panel_at set panel) values message index field cell a.apart a.laid_out at is;
  kept = λ panel values message index field cell at is.
      let a = among set sound panel index field at in
      (known.kept (panel_at set panel) values message index field a.apart a.laid_out at).characters cell is;
  ends = λ panel values message keep index field at.
      let a = among set sound panel index field at in
      (known.on_screen (panel_at set panel) values message keep index field a.apart a.laid_out at).next;
  values = λ panel values message keep index value cell at is. by_panel panel values message keep index value cell (slice_get set.panels panel) refl at is;
  reset = λ panel values message keep. refl;
  cursor = λ panel values message. refl;
  numbers = λ panel i j one other below at_i at_j.
      let there = panel_there (slice_get set.panels panel) i one at_i in
      let same : there.0 ≡ panel_at set panel = sym (ap (λ (p : Option PanelParts). unwrap_or p no_panel) there.1) in
      (subst (λ (p : PanelParts). HaveNumbersApart p.fields) same (sound.numbers panel there.0 there.1)) i j one other below at_i at_j;
  again = shown_again set sound.otherwise;
}
  where
    by_panel : (p : ℕ) (values : Values) (message : Message) (keep : Bool) (index : ℕ) (value : PanelValue) (cell : ℕ) (panel : Option PanelParts) → slice_get set.panels p ≡ panel
        → slice_get (unwrap_or (slice_get set.panels p) no_panel).values index ≡ Some value → IsCharacterOf value.extent cell
        → slice_get (panel_screen (unwrap_or (slice_get set.panels p) no_panel) values message keep).cells cell
        ≡ Some (want.Char (slice_index_or (unwrap_or (value_of values value.number) []) (cell - value.extent.first) 0))
    by_panel p values message keep index value cell None there at is =
        absurd (let none : slice_get no_panel.values index ≡ Some value = subst (λ (o : Option PanelParts). slice_get (unwrap_or o no_panel).values index ≡ Some value) there at in cc)
    by_panel p values message keep index value cell (Some panel) there at is =
        ap (λ (o : Option PanelParts). slice_get (panel_screen (unwrap_or o no_panel) values message keep).cells cell) there
        ∙ shows_value known.texts set sound p panel values message keep index value cell there (subst (λ (o : Option PanelParts). slice_get (unwrap_or o no_panel).values index ≡ Some value) there at) is

pub panel_is_shown_over_bytes : KnownPanels → AlwaysOf FieldsAreShown → PanelIsShownOverBytes
panel_is_shown_over_bytes known always bytes is number rest host terminal service_is terminal_is has =
    let begin : WorldSetup = is.begin in
    let app : Application = application_of begin.panels in
    let is_app : IsApplication app = known.application begin.panels is.is_begin.panels.otherwise is.is_begin.panels.laid_out is.is_begin.panels.apart in
    let world : World = after begin is.events in
    let link : Link = world.link number in
    let stands : LinkRepresents (link_of number bytes) link = is.reached.stands.links number in
    let here : link.host_here ≡ true = sym stands.host_here ∙ ap is_there service_is in
    let same : host ≡ link.host = sym (ap conn_of service_is) ∙ (stands.host here).host in
    let seen_there = sym (ap (λ (l : SeenLink). l.terminal) (same_seen bytes world is.reached.stands number)) ∙ terminal_is in
    let shown : IsPanelShown app true link.host terminal.before_restored terminal.last_restored =
    always app begin.serves begin.pool begin.models is.events is_app is.is_begin.pool is.is_begin.few is.reached.are_events
    (wants_its_fields known begin.panels is.is_begin.panels) number terminal here seen_there (subst HasShown same has) in
    subst (λ (p : Panels). IsPanelShown (application_of p) true host terminal.before_restored terminal.last_restored) (sym is.reached.panels)
    (subst (λ (c : Session). IsPanelShown app true c terminal.before_restored terminal.last_restored) (sym same) shown)
