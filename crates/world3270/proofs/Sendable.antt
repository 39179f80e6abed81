-- Screens keep their shape and can be sent, what is painted is a screen, and values are characters, after every event.
use Rattle.std.proofs.Common.{◌≡◌, ◌<◌, ◌≤◌, ◌==◌, ◌&&◌, ◌++◌, ◌-◌, ◌+◌, not, ℕ, zero, suc, arith, Bool, true, false, Option, None, Some, List, [], ◌∷◌, length, replicate, refl, ap, sym, subst, ◌∙◌, IfSome, IsTrue, if◌then◌else◌, inl}
use Rattle.host_core.specs.Questions.{act_by, answered_on, has_its_panel, is_asking, panel_for}
use Rattle.host_core.specs.declared.question.Answer.{Answer as ApplicationAnswer}
use Rattle.std.specs.Map.{remove_entry, values_of}
use Rattle.std.specs.BTreeMap.{insert_entry, is_at}
use Rattle.panels.specs.declared.message.Message.TheVariants.{Fresh}
use Rattle.world3270.proofs.Queues.{front, nothing}
use Rattle.world3270.specs.refinement.Phases.{LinkPhase, SessionPhase, NegotiationPhase, IsInFlight, down_at, served_down, talk_down}
use Rattle.world3270.specs.statement.Always.{AlwaysOf}
use Rattle.codes3270.specs.declared.size.Model.TheVariants.{M2}
use Rattle.codes3270.specs.declared.size.Model.{Model}
use Rattle.std.specs.Prelude.{⊤, option_and_then}
use Rattle.std.specs.List.{All, list_all}
use Rattle.std.specs.Ordering.{nat_cmp}
use Rattle.std.proofs.lemmas.Bool.{and_from}
use Rattle.std.proofs.lemmas.List.{length-replicate}
use Rattle.std.proofs.lemmas.List.Elements.{All-nil, All-cons, All-head, All-tail, All-map, All-replicate}
use Rattle.std.proofs.lemmas.Map.Views.{All-values-insert_entry, All-map-remove_entry}
use Rattle.codes3270.specs.Size.{ScreenSize, cells_in, most_cells}
use Rattle.codes3270.specs.Storable.{is_storable}
use Rattle.codes3270.specs.declared.attention.Aid.{Aid}
use Rattle.codes3270.specs.declared.attention.Aid.TheVariants.{NoAid, Enter, Clear, Pf, Pa}
use Rattle.codes3270.specs.declared.attribute.Cell.{Cell}
use Rattle.codes3270.specs.declared.attribute.Cell.TheVariants.{Char as CharCell, Attr as AttrCell}
use Rattle.datastream.specs.Fields.{Field, fields, fields_from}
use Rattle.datastream.proofs.Texts.{All-ring}
use Rattle.datastream.specs.Grammar.{IsSpelt as IsSpeltCommand, IsProper as IsProperOrder, CommandParts}
use Rattle.datastream.specs.Inbound.{without_nulls, read_modified, read_buffer}
use Rattle.datastream.specs.InboundFields.{IsStorableCell, IsSendable, SentIsRead}
use Rattle.datastream.specs.Screen.{Screen, blank_screen, is_char, ring}
use Rattle.datastream.specs.Wanted.{WantedScreen, IsProper, IsScreen}
use Rattle.datastream.specs.declared.wanted.Want.{Want}
use Rattle.datastream.specs.declared.wanted.Want.TheVariants.{Char as WantChar, Attr as WantAttr, Keep}
use Rattle.keyboard.proofs.Sendable.{AreStored, CellsAreStored, text_stored}
use Rattle.keyboard.specs.declared.key.Key.{Key}
use Rattle.keyboard.specs.declared.key.Pressed.{Pressed}
use Rattle.keyboard.specs.declared.key.Pressed.TheVariants.{Done, Refused, Send}
use Rattle.panels.specs.Characters.{is_character, AreCharacters}
use Rattle.panels.specs.Screen.{Values, is_fresh}
use Rattle.panels.specs.Values.{set_if, with_values, without_fields, without_values}
use Rattle.panels.specs.declared.message.Message.{Message}
use Rattle.panels.specs.declared.next.Next.{Next}
use Rattle.panels.specs.declared.next.Next.TheVariants.{Go, Ask, Again}
use Rattle.panels.specs.declared.panel.Field.{Field as PanelField}
use Rattle.panels.specs.declared.panel.Value.{Value as PanelValue}
use Rattle.presentation.proofs.Storable.{storable_unmodified}
use Rattle.shadow.specs.Queries.{belief_with}
use Rattle.shadow.specs.Belief.{Fact, Belief, Shadow}
use Rattle.shadow.specs.Laws.{PaintIsEncoded}
use Rattle.shadow.specs.Meets.{Holds, FieldMeets, Meets, told}
use Rattle.shadow.specs.Painted.{keeps_ahead, attr_or_kept, cells_under, painted_from, plainly_painted}
use Rattle.shadow.specs.Pairs.{Pairwise}
use Rattle.tn3270e_msg.specs.declared.cause.Cause.{Cause}
use Rattle.host_core.specs.Acts.{Act, Decision, Sent, text_known, learned, first_missing, is_to_be_read, check_required, first_panel, once_filled_in, on_empty, on_key, after_key as after_the_key, decided, decision_on, may_keep, wanted_by, done, may_act, acted, values_shown, when_shown, next_after}
use Rattle.host_core.specs.Application.{Application, IsValidSize, IsApplication, WantsProperScreens, AreTexts}
use Rattle.host_core.specs.Messages.{ToTerminal, ToHost, Verdict}
use Rattle.host_core.specs.NoteLaws.{TakesNotes, IsProperNote}
use Rattle.host_core.specs.Notes.{IsNoteText, note_command, noted_as, may_note, noted}
use Rattle.host_core.specs.declared.turn.Turn.{Turn}
use Rattle.host_core.specs.declared.turn.Turn.TheVariants as whose
use Rattle.host_core.specs.declared.turn_reason.TurnReason.{TurnReason}
use Rattle.host_core.specs.declared.turn_reason.TurnReason.TheVariants as turn_reasons
use Rattle.host_core.specs.Session.{Session, Pending, is_agreed, model_in}
use Rattle.host_core.specs.Takes.{HostStep, took as host_took}
use Rattle.host_core.specs.declared.terminals.Terminals.{Terminals}
use Rattle.world3270.specs.refinement.LowerLaws.{LowerLaws}
use Rattle.world3270.specs.model.Steps.{run}
use Rattle.world3270.specs.model.Link.{Link, host_left_if, host_sent}
use Rattle.world3270.specs.refinement.Sendable.{IsWellFormed, AlwaysTyped, ScreensAreSendable, CanBeSpelt, DataCanBeSpelt, PaintsAScreen, PaintsAreScreens, IsSpelt, PaintsAreSpelt, ValuesAreTexts, HasASize, ScreensHaveASize}
use Rattle.world3270.specs.refinement.Invariant.{ConnectionInvariant, LocalState, ServingFact, may_differ_at, may_differ_in, local_state_of, Fact as MomentFact}
use Rattle.world3270.specs.model.Terminal.{Display, new_display, TermEnd, TermStep, is_bound, data_of, paint_came, note_came, read_came, once_bound, took as term_took, outcome_of, after_key}
use Rattle.world3270.specs.refinement.View.{View, view_of}
use Rattle.lu_pool.specs.Pool.{IsPool}
use Rattle.lu_pool.specs.declared.entry.Entry.{Entry}
use Rattle.world3270.specs.model.World.{Place, World, Event, IsEvent, AreEvents, new_world, display_at}
use Rattle.world3270.proofs.Acting.{asking_parts, may_act_when}
use Rattle.world3270.proofs.Down.{painted-length, shape_of_model}
use Rattle.world3270.proofs.Everywhere.{Steps, InPlace, Everywhere, everywhere}
use Rattle.world3270.proofs.Headline.{knows_at}
use Rattle.world3270.proofs.HostSteps.{just_talks}
use Rattle.world3270.proofs.Numbers.{sent_all}
use Rattle.world3270.proofs.Worlds.{run_good, new_good}

-- ---- the size alone

blank_length : (model : Model) (shape : ScreenSize) → length (new_display model shape).screen.cells ≡ cells_in shape
blank_length model shape = length-replicate (cells_in shape) (CharCell 0)

-- a screen of one row at least has a first cell
first_cell : (shape : ScreenSize) → IsValidSize shape → 0 < cells_in shape
first_cell shape is = some (cells_in shape) shape.columns is.columns is.row
  where
    some : (cells columns : ℕ) → 1 < columns → columns ≤ cells → 0 < cells
    some cells columns many row = omega arith

link_size : (app : Application) (link : Link) → ConnectionInvariant app (view_of link) → HasASize app link.term.display
link_size app link k = record { size = k.sizes.screen; whole = k.whole; cursor = k.cursor }

key_size : LowerLaws → (app : Application) (key : Key) (display : Display) → HasASize app display → HasASize app (after_key key display)
key_size given app key display h =
    let screen : Screen = display.screen in
    let on = given.keys.on_screen display.size.columns key display.keyboard screen (subst (λ cells. screen.cursor < cells) (sym h.whole) h.cursor) in
    record { size = h.size; whole = on.0 ∙ h.whole; cursor = subst (λ cells. (outcome_of key display).screen.cursor < cells) h.whole on.1 }

size_steps : LowerLaws → (app : Application) → IsApplication app → Steps app (λ event. ⊤) (λ link. ⊤) (λ display. HasASize app display)
size_steps given app is = record {
  never = λ serves. tt;
  begins = λ serves model terminal wanted. tt;
  up = λ pool link message rest e k h. tt;
  acts = λ link k h. tt;
  answers = λ number said link such k h. tt;
  notes = λ number text link such k h. tt;
  down = λ link message rest e k h. tt;
  key = λ terminal key link such k h. tt;
  loses = λ link h. tt;
  host_leaves = λ link h. tt;
  term_leaves = λ link h. tt;
  fresh = λ model. record { size = inl refl; whole = blank_length model app.begins; cursor = first_cell app.begins is.begins };
  alone = λ link k h. let its = link_size app link k in record { size = its.size; whole = its.whole; cursor = its.cursor };
  key_alone = λ terminal key display such h. key_size given app key display h;
}

size_in_place : (app : Application) (world : World) (place : Place) → ((number : ℕ) → ConnectionInvariant app (view_of (world.link number))) → InPlace (λ display. HasASize app display) place
    → HasASize app (display_at world place)
size_in_place app world (Place.At number) kept is = link_size app (world.link number) (kept number)
size_in_place app world (Place.Alone display) kept is = is

pub screens_have_a_size : LowerLaws → AlwaysOf ScreensHaveASize
screens_have_a_size given app serves pool models events is lists few are terminal =
    let world : World = run app events (new_world app serves pool models) in
    let g = run_good given app is events (new_world app serves pool models) are (new_good given app is serves pool models lists) in
    let all = everywhere given app is (λ event. ⊤) (λ link. ⊤) (λ display. HasASize app display) (size_steps given app is) serves pool models events lists are (λ k d below. tt) in
    size_in_place app world (world.place terminal) g.links (all.places terminal)

-- ---- a note that comes down

-- a note that is the first message is of this size, and no paint is under way
abbrev FirstFits : ScreenSize → Bool → List ToTerminal → Type 0
FirstFits size may_differ [] = ⊤
FirstFits size may_differ (ToTerminal.TalksDown saying ∷ messages) = ⊤
FirstFits size may_differ (ToTerminal.Paint number wanted over ∷ messages) = ⊤
FirstFits size may_differ (ToTerminal.ReadBuffer number ∷ messages) = ⊤
FirstFits size may_differ (ToTerminal.Note number command ∷ messages) = (command.size ≡ size) × (may_differ ≡ false)

talk_fits : (size : ScreenSize) (model : Model) (talking : NegotiationPhase) → FirstFits size false (talk_down model talking)
talk_fits size model NegotiationPhase.Offering = tt
talk_fits size model NegotiationPhase.Accepting = tt
talk_fits size model NegotiationPhase.AskingType = tt
talk_fits size model NegotiationPhase.NamingType = tt
talk_fits size model (NegotiationPhase.Granting lu) = tt
talk_fits size model (NegotiationPhase.AskingFunctions lu) = tt
talk_fits size model (NegotiationPhase.Agreeing lu) = tt
talk_fits size model (NegotiationPhase.Rejecting reason) = tt
talk_fits size model (NegotiationPhase.Rejected reason) = tt

served_fits : (scene : LocalState) (serving : SessionPhase) → ServingFact scene serving → FirstFits scene.size (may_differ_in serving) (served_down serving)
served_fits scene SessionPhase.Deciding fact = tt
served_fits scene (SessionPhase.Reading number) fact = tt
served_fits scene (SessionPhase.BufferReturning number parts) fact = tt
served_fits scene (SessionPhase.DecidingNoteSent number command) fact = (ap (λ (c : CommandParts). c.size) fact.1.note.is, refl)
served_fits scene (SessionPhase.DecidingNoteAnswered number command) fact = tt
served_fits scene (SessionPhase.Painting number command wanted over) fact = tt
served_fits scene (SessionPhase.AwaitingWriteResponse kind number command) fact = tt
served_fits scene SessionPhase.OperatorTyping fact = tt
served_fits scene (SessionPhase.Noting number command) fact = (ap (λ (c : CommandParts). c.size) fact.1.is, refl)
served_fits scene (SessionPhase.KeySent parts) fact = tt
served_fits scene (SessionPhase.KeySentAfterResponse kind number command parts) fact = tt
served_fits scene (SessionPhase.KeyCrossingNote number command parts) fact = (ap (λ (c : CommandParts). c.size) fact.2.note.is, refl)
served_fits scene (SessionPhase.KeyBeforeNoteResponse number command parts) fact = tt

first_fits : (scene : LocalState) (model : Model) (wanted : Option (List ℕ)) (moment : LinkPhase) → MomentFact wanted scene moment → FirstFits scene.size (may_differ_at moment) (down_at model moment)
first_fits scene model wanted (LinkPhase.Negotiating talking) fact = talk_fits scene.size model talking
first_fits scene model wanted (LinkPhase.FirstPaint lu number command paints over) fact = tt
first_fits scene model wanted (LinkPhase.InSession lu serving) fact = served_fits scene serving fact

comes_fitting : (size : ScreenSize) (may_differ : Bool) (lost : Bool) (queue messages : List ToTerminal) (number : ℕ) (command : CommandParts) (rest : List ToTerminal)
    → IsInFlight lost queue messages → queue ≡ ToTerminal.Note number command ∷ rest → FirstFits size may_differ messages → (command.size ≡ size) × (may_differ ≡ false)
comes_fitting size may_differ lost queue [] number command rest under e first = absurd (nothing lost queue (ToTerminal.Note number command) rest e under)
comes_fitting size may_differ lost queue (message ∷ messages) number command rest under e first =
    subst (λ m. FirstFits size may_differ (m ∷ messages)) (sym (front lost queue (ToTerminal.Note number command) rest message messages e under).0) first

-- the note was written for the screen that it finds
abbrev pub NoteFits : ScreenSize → ToTerminal → Type 0
NoteFits shape (ToTerminal.TalksDown saying) = ⊤
NoteFits shape (ToTerminal.Paint number wanted over) = ⊤
NoteFits shape (ToTerminal.ReadBuffer number) = ⊤
NoteFits shape (ToTerminal.Note number command) = command.size ≡ shape

pub note_fits : (app : Application) (link : Link) (message : ToTerminal) (rest : List ToTerminal) → link.down ≡ message ∷ rest → ConnectionInvariant app (view_of link) → NoteFits link.term.display.size message
note_fits app link (ToTerminal.TalksDown saying) rest e k = tt
note_fits app link (ToTerminal.Paint number wanted over) rest e k = tt
note_fits app link (ToTerminal.ReadBuffer number) rest e k = tt
note_fits app link (ToTerminal.Note number command) rest e k =
    let v : View = view_of link in
    let both = comes_fitting v.host.size (may_differ_at k.moment) v.lost v.down (down_at v.model k.moment) number command rest k.at.goes_down e (first_fits (local_state_of v) v.model k.wanted k.moment k.fact) in
    both.0 ∙ sym (k.sizes.same both.1)

-- ---- what is told

-- without its nulls a text is characters
nulls_out : (text : List ℕ) → AreStored text → AreCharacters (without_nulls text)
nulls_out [] each = All-nil (λ byte. IsTrue (is_character byte))
nulls_out (byte ∷ text) each = by_test (byte == 0) refl (nulls_out text (All-tail (λ b. is_storable b ≡ true) byte text each))
  where
    by_test : (b : Bool) → (byte == 0) ≡ b → AreCharacters (without_nulls text) → AreCharacters (if not b then byte ∷ without_nulls text else without_nulls text)
    by_test true e rest = rest
    by_test false e rest =
        All-cons (λ x. IsTrue (is_character x)) byte (without_nulls text)
        (and_from (is_storable byte) (not (byte == 0)) (All-head (λ b. is_storable b ≡ true) byte text each) (ap not e)) rest

told_characters : (fact : Fact) (text : List ℕ) → Holds fact text → AreStored text → IfSome (told fact) AreCharacters
told_characters (Fact.Exact value) text h each = subst (λ t. AreCharacters (without_nulls t)) h (nulls_out text each)
told_characters (Fact.ExactOrNulls value) text h each = tt
told_characters (Fact.Text value) text h each = subst AreCharacters h (nulls_out text each)
told_characters (Fact.TextOrNulls value) text h each = tt
told_characters (Fact.Any known) text h each = tt

fields_stored : (whole : List Cell) (at : ℕ) (rest : List Cell) → CellsAreStored whole → All (λ (field : Field). AreStored field.text) (fields_from whole at rest)
fields_stored whole at [] all = All-nil (λ (field : Field). AreStored field.text)
fields_stored whole at (CharCell byte ∷ rest) all = fields_stored whole (at + 1) rest all
fields_stored whole at (AttrCell attribute ∷ rest) all =
    All-cons (λ (field : Field). AreStored field.text) _ (fields_from whole (at + 1) rest)
    (text_stored (ring (at + 1) whole) (All-ring IsStorableCell (at + 1) whole all))
    (fields_stored whole (at + 1) rest all)

found_characters : (place : ℕ) (beliefs : List Belief) (seen : List Field) → Pairwise FieldMeets beliefs seen → All (λ (field : Field). AreStored field.text) seen
    → IfSome (option_and_then (λ (belief : Belief). told belief.fact) (belief_with place beliefs)) AreCharacters
found_characters place [] seen meets each = tt
found_characters place (belief ∷ beliefs) [] meets each = absurd meets
found_characters place (belief ∷ beliefs) (field ∷ seen) meets each =
    by_test (belief.place == place) (found_characters place beliefs seen meets.1 (All-tail (λ (f : Field). AreStored f.text) field seen each))
  where
    by_test : (b : Bool) → IfSome (option_and_then (λ (x : Belief). told x.fact) (belief_with place beliefs)) AreCharacters
        → IfSome (option_and_then (λ (x : Belief). told x.fact) (if b then Some belief else belief_with place beliefs)) AreCharacters
    by_test true rest = told_characters belief.fact field.text meets.0.holds (All-head (λ (f : Field). AreStored f.text) field seen each)
    by_test false rest = rest

-- what is known of a field's text is characters
known_characters : (shadow : Shadow) (screen : Screen) (field : PanelField) → Meets shadow screen → CellsAreStored screen.cells → IfSome (text_known shadow field) AreCharacters
known_characters Shadow.NothingKnown screen field meets each = tt
known_characters (Shadow.Unformatted known) screen field meets each = tt
known_characters (Shadow.Formatted beliefs) screen field meets each =
    found_characters (field.extent.first - 1) beliefs (fields screen.cells) meets.1 (fields_stored screen.cells 0 screen.cells each)

set_texts : (number : ℕ) (text : Option (List ℕ)) (values : Values) → AreTexts values → IfSome text AreCharacters → AreTexts (set_if number text values)
set_texts number None values texts is = texts
set_texts number (Some text) values texts is = All-values-insert_entry nat_cmp number text AreCharacters values texts is

pub learned_texts : (shadow : Shadow) (screen : Screen) (panel : List PanelField) (values : Values) → Meets shadow screen → CellsAreStored screen.cells → AreTexts values → AreTexts (learned shadow panel values)
learned_texts shadow screen [] values meets each texts = texts
learned_texts shadow screen (field ∷ panel) values meets each texts =
    learned_texts shadow screen panel (set_if field.number (text_known shadow field) values) meets each
    (set_texts field.number (text_known shadow field) values texts (known_characters shadow screen field meets each))

-- ---- what the host does

-- it shows values that are characters
abbrev ActsOnTexts : Act → Type 0
ActsOnTexts Act.Read = ⊤
ActsOnTexts (Act.Show panel message keep values) = AreTexts values

abbrev DecidesOnTexts : Decision → Type 0
DecidesOnTexts (Decision.Do act) = ActsOnTexts act
DecidesOnTexts Decision.Asks = ⊤

unless_texts : (panel : ℕ) (decision : Decision) (values : Values) (missing : Option ℕ) → AreTexts values → DecidesOnTexts decision → DecidesOnTexts (check_required panel decision values missing)
unless_texts panel decision values None texts is = is
unless_texts panel decision values (Some field) texts is = texts

filled_texts : (app : Application) (conn : Session) (decision : Decision) (values : Values) (aid : Aid) → AreTexts values → DecidesOnTexts decision → DecidesOnTexts (once_filled_in app conn decision values aid)
filled_texts app conn decision values Enter texts is = unless_texts conn.panel decision values (first_missing values (app.fields conn.panel)) texts is
filled_texts app conn decision values NoAid texts is = is
filled_texts app conn decision values Clear texts is = is
filled_texts app conn decision values (Pf key) texts is = is
filled_texts app conn decision values (Pa key) texts is = is

led_texts : (app : Application) (conn : Session) (values : Values) (aid : Aid) (next : Next) → AreTexts values → DecidesOnTexts (on_key app conn values aid next)
led_texts app conn values aid Again texts = texts
led_texts app conn values aid (Go target) texts = filled_texts app conn (Decision.Do (Act.Show target Fresh false values)) values aid texts texts
led_texts app conn values aid Ask texts = filled_texts app conn Decision.Asks values aid texts tt

read_or_led : (app : Application) (conn : Session) (aid : Aid) (b : Bool) → AreTexts (learned conn.shadow (app.fields conn.panel) conn.values)
    → DecidesOnTexts (if b then Decision.Do Act.Read else on_key app conn (learned conn.shadow (app.fields conn.panel) conn.values) aid (next_after app conn.panel aid))
read_or_led app conn aid true texts = tt
read_or_led app conn aid false texts = led_texts app conn (learned conn.shadow (app.fields conn.panel) conn.values) aid (next_after app conn.panel aid) texts

empty_texts : (panel : ℕ) (values : Values) (next : Next) → AreTexts values → DecidesOnTexts (on_empty panel values next)
empty_texts panel values Again texts = texts
empty_texts panel values (Go target) texts = texts
empty_texts panel values Ask texts = tt

key_texts : (app : Application) (conn : Session) (aid : Aid) (buffered : Bool) → AreTexts conn.values → AreTexts (learned conn.shadow (app.fields conn.panel) conn.values) → DecidesOnTexts (after_the_key app conn aid buffered)
key_texts app conn Clear buffered texts known = empty_texts conn.panel conn.values (app.next conn.panel Clear) texts
key_texts app conn NoAid buffered texts known = read_or_led app conn NoAid (is_to_be_read app conn NoAid && not buffered) known
key_texts app conn Enter buffered texts known = read_or_led app conn Enter (is_to_be_read app conn Enter && not buffered) known
key_texts app conn (Pf key) buffered texts known = read_or_led app conn (Pf key) (is_to_be_read app conn (Pf key) && not buffered) known
key_texts app conn (Pa key) buffered texts known = read_or_led app conn (Pa key) (is_to_be_read app conn (Pa key) && not buffered) known

decision_texts : (app : Application) (conn : Session) (turn_reason : TurnReason) → AreTexts conn.values → AreTexts (learned conn.shadow (app.fields conn.panel) conn.values) → DecidesOnTexts (decision_on app conn turn_reason)
decision_texts app conn turn_reasons.Agreement texts known = empty_texts app.start conn.values (app.next (first_panel app conn) NoAid) texts
decision_texts app conn (turn_reasons.Key aid buffered) texts known = key_texts app conn aid buffered texts known
decision_texts app conn turn_reasons.Refusal texts known = texts
decision_texts app conn turn_reasons.Restoration texts known = texts

-- so does an answer
without_texts : (panel : List PanelField) (values : Values) → AreTexts values → AreTexts (without_fields panel values)
without_texts [] values texts = texts
without_texts (field ∷ panel) values texts =
    without_texts panel (remove_entry (is_at (nat_cmp field.number)) values) (All-map-remove_entry (is_at (nat_cmp field.number)) (λ (entry : ℕ × List ℕ). entry.1) AreCharacters values texts)

drop_texts : (shown : List PanelValue) (values : Values) → AreTexts values → AreTexts (without_values shown values)
drop_texts [] values texts = texts
drop_texts (value ∷ shown) values texts =
    drop_texts shown (remove_entry (is_at (nat_cmp value.number)) values) (All-map-remove_entry (is_at (nat_cmp value.number)) (λ (entry : ℕ × List ℕ). entry.1) AreCharacters values texts)

shown_texts : (app : Application) (panel : ℕ) (message : Message) (values : Values) → AreTexts values → AreTexts (values_shown app panel message values)
shown_texts app panel message values texts = by_fresh (is_fresh message)
  where
    by_fresh : (fresh : Bool) → AreTexts (if fresh then without_values (app.values panel) values else values)
    by_fresh true = drop_texts (app.values panel) values texts
    by_fresh false = texts

with_texts : (values others : Values) → AreTexts values → AreTexts others → AreTexts (with_values values others)
with_texts values [] texts are = texts
with_texts values (other ∷ others) texts are =
    with_texts (insert_entry nat_cmp values other.0 other.1) others
    (All-values-insert_entry nat_cmp other.0 other.1 AreCharacters values texts (All-head AreCharacters other.1 (values_of others) are))
    (All-tail AreCharacters other.1 (values_of others) are)

answer_texts : (app : Application) (conn : Session) (said : ApplicationAnswer) (panel : Option ℕ) → AreTexts (learned conn.shadow (app.fields conn.panel) conn.values) → AreTexts said.values → ActsOnTexts (act_by app conn said panel)
answer_texts app conn said None known are = with_texts (learned conn.shadow (app.fields conn.panel) conn.values) said.values known are
answer_texts app conn said (Some panel) known are =
    let form = app.shown (model_in conn) panel in
    let left = without_fields (app.fields form) (learned conn.shadow (app.fields conn.panel) conn.values) in
    with_texts (without_values (app.values form) left) said.values
    (drop_texts (app.values form) left (without_texts (app.fields form) (learned conn.shadow (app.fields conn.panel) conn.values) known)) are

wanted_is : (app : Application) (conn : Session) (panel : ℕ) (message : Message) (keep : Bool) (values : Values) → WantsProperScreens app → AreTexts values → IsScreen (wanted_by app conn panel message keep values)
wanted_is app conn panel message false values asks texts = asks panel values message false texts
wanted_is app conn panel message true values asks texts = by_fit (may_keep conn (app.screen panel values message true))
  where
    by_fit : (b : Bool) → IsScreen (if b then app.screen panel values message true else app.screen panel values message false)
    by_fit true = asks panel values message true texts
    by_fit false = asks panel values message false texts

-- a paint of a screen of the profile, or a note that some bytes spell
abbrev pub HasProperScreen : ToTerminal → Type 0
HasProperScreen (ToTerminal.TalksDown saying) = ⊤
HasProperScreen (ToTerminal.Paint number wanted over) = IsScreen wanted
HasProperScreen (ToTerminal.ReadBuffer number) = ⊤
HasProperScreen (ToTerminal.Note number command) = IsProperNote command × IsSpeltCommand command

pub record SendsTexts (sending : Sent) : Type 0 where
  pub message : HasProperScreen sending.message
  pub values : AreTexts sending.conn.values

done_texts : (app : Application) (conn : Session) (act : Act) → WantsProperScreens app → AreTexts conn.values → ActsOnTexts act → SendsTexts (done app conn act)
done_texts app conn Act.Read asks texts is = record { message = tt; values = texts }
done_texts app conn (Act.Show panel message keep values) asks texts is =
    let form = app.shown (model_in conn) panel in
    let left : AreTexts (values_shown app form message values) = shown_texts app form message values is in
    record { message = wanted_is app (when_shown conn) form message keep (values_shown app form message values) asks left; values = left }

-- a blank screen takes any note
blank_chars : (cells : ℕ) → list_all is_char (replicate cells (CharCell 0)) ≡ true
blank_chars zero = refl
blank_chars (suc cells) = blank_chars cells

note_spelt : LowerLaws → (shape : ScreenSize) (text : List ℕ) → IsValidSize shape → IsNoteText text → IsSpeltCommand (note_command shape text)
note_spelt given shape text is note =
    let blank : Screen = blank_screen (cells_in shape) in
    let over = given.notes.overwrites shape (note_command shape text) blank is (record { text = text; is_text = note; is = refl }) (blank_length M2 shape) (TakesNotes.unformatted (blank_chars (cells_in shape))) in
    over.encoded

note_texts : LowerLaws → (text : List ℕ) (conn : Session) → IsValidSize conn.size → IsNoteText text → AreTexts conn.values → SendsTexts (noted_as text conn)
note_texts given text conn is note texts = record {
  message = (given.notes.are_notes conn.size (note_command conn.size text) is (record { text = text; is_text = note; is = refl }), note_spelt given conn.size text is note);
  values = texts;
}

-- ---- what the terminal does

painted_stored : (reset : Bool) (whole rest : List Want) (cells : List Cell) → All IsProper rest → CellsAreStored cells → CellsAreStored (painted_from reset whole rest cells)
painted_stored reset whole [] cells wanted each = All-nil IsStorableCell
painted_stored reset whole (want ∷ rest) [] wanted each = All-nil IsStorableCell
painted_stored reset whole (WantChar byte ∷ rest) (there ∷ cells) wanted each =
    All-cons IsStorableCell (CharCell byte) (painted_from reset whole rest cells) (All-head IsProper (WantChar byte) rest wanted)
    (painted_stored reset whole rest cells (All-tail IsProper (WantChar byte) rest wanted) (All-tail IsStorableCell there cells each))
painted_stored reset whole (Keep ∷ rest) (there ∷ cells) wanted each =
    All-cons IsStorableCell there (painted_from reset whole rest cells) (All-head IsStorableCell there cells each)
    (painted_stored reset whole rest cells (All-tail IsProper Keep rest wanted) (All-tail IsStorableCell there cells each))
painted_stored reset whole (WantAttr attribute ∷ rest) (there ∷ cells) wanted each =
    All-cons IsStorableCell (attr_or_kept (keeps_ahead (rest ++ whole)) reset attribute there) (painted_from reset whole rest cells)
    (by_test (keeps_ahead (rest ++ whole)) reset)
    (painted_stored reset whole rest cells (All-tail IsProper (WantAttr attribute) rest wanted) (All-tail IsStorableCell there cells each))
  where
    by_test : (keeps off : Bool) → IsStorableCell (attr_or_kept keeps off attribute there)
    by_test false off = tt
    by_test true true = storable_unmodified there (All-head IsStorableCell there cells each)
    by_test true false = All-head IsStorableCell there cells each

under_stored : (size : ℕ) (cells : List Cell) → CellsAreStored cells → CellsAreStored (cells_under size cells)
under_stored size cells each = by_size (length cells == size)
  where
    by_size : (b : Bool) → CellsAreStored (if b then cells else replicate size (CharCell 0))
    by_size true = each
    by_size false = All-replicate IsStorableCell size (CharCell 0) refl

painted_sendable : (wanted : WantedScreen) (screen : Screen) → IsScreen wanted → IsSendable screen → IsSendable (plainly_painted wanted screen)
painted_sendable wanted screen w is = record {
  few = subst (λ (n : ℕ). n ≤ most_cells) (sym (painted-length wanted screen ∙ w.size)) w.few;
  cursor = subst (λ (n : ℕ). wanted.cursor < n) (sym (painted-length wanted screen ∙ w.size)) w.cursor_in_range;
  aid = tt;
  storable = painted_stored wanted.reset wanted.cells wanted.cells (cells_under (length wanted.cells) screen.cells) w.proper (under_stored (length wanted.cells) screen.cells is.storable);
}

pub record StepSends (step : TermStep) : Type 0 where
  pub screen : IsSendable step.end.display.screen
  pub encoded : All CanBeSpelt step.sends

once_bound_sends : (bound : Bool) (end : TermEnd) (step : TermStep) → IsSendable end.display.screen → StepSends step → StepSends (once_bound bound step end)
once_bound_sends true end step is sends = sends
once_bound_sends false end step is sends = record { screen = is; encoded = All-nil CanBeSpelt }

pub term_sends : SentIsRead → LowerLaws → (end : TermEnd) (message : ToTerminal) → HasProperScreen message → NoteFits end.display.size message → length end.display.screen.cells ≡ cells_in end.display.size → IsSendable end.display.screen → StepSends (term_took end message)
term_sends read given end (ToTerminal.TalksDown saying) written fits whole is = record { screen = is; encoded = All-map CanBeSpelt ToHost.TalksUp _ (λ k d below. tt) }
term_sends read given end (ToTerminal.Paint number wanted over) written fits whole is =
    once_bound_sends (is_bound end) end (paint_came number wanted end) is
    (record { screen = painted_sendable wanted end.display.screen written is; encoded = All-cons CanBeSpelt (ToHost.Response number Verdict.Positive) [] tt (All-nil CanBeSpelt) })
term_sends read given end (ToTerminal.ReadBuffer number) written fits whole is =
    once_bound_sends (is_bound end) end (read_came end) is
    (record { screen = is; encoded = All-cons CanBeSpelt _ [] (read_buffer end.display.screen, read.buffer end.display.size end.display.screen whole is) (All-nil CanBeSpelt) })
term_sends read given end (ToTerminal.Note number command) written fits whole is =
    once_bound_sends (is_bound end) end (note_came number command end) is
    (record {
      screen = given.notes.note_sendable command end.display.screen written.0.note
          (subst (λ (n : ℕ). All (IsProperOrder n) command.orders) (ap cells_in fits ∙ sym whole) written.0.proper) is;
      encoded = All-cons CanBeSpelt (ToHost.Response number Verdict.Positive) [] tt (All-nil CanBeSpelt);
    })

key_sends : SentIsRead → (bound : Bool) (answer : Pressed) (shape : ScreenSize) (screen : Screen) → length screen.cells ≡ cells_in shape → IsSendable screen → All CanBeSpelt (data_of bound answer shape screen)
key_sends read true (Send aid) shape screen whole is = All-cons CanBeSpelt _ [] (read_modified false screen, read.modified shape screen whole is) (All-nil CanBeSpelt)
key_sends read false (Send aid) shape screen whole is = All-nil CanBeSpelt
key_sends read true Done shape screen whole is = All-nil CanBeSpelt
key_sends read false Done shape screen whole is = All-nil CanBeSpelt
key_sends read true (Refused why) shape screen whole is = All-nil CanBeSpelt
key_sends read false (Refused why) shape screen whole is = All-nil CanBeSpelt

-- ---- connections

pub record CanSend (link : Link) : Type 0 where
  pub screen : IsSendable link.term.display.screen
  pub encoded : All CanBeSpelt link.up
  pub writes : All HasProperScreen link.down
  pub values : AreTexts link.host.values

left_if : (cause : Option Cause) (link : Link) → CanSend link → CanSend (host_left_if cause link)
left_if None link c = c
left_if (Some cause) link c = record { screen = c.screen; encoded = c.encoded; writes = c.writes; values = c.values }

sends : (link : Link) (sending : Option Sent) → CanSend link → IfSome sending SendsTexts → CanSend (host_sent sending link)
sends link None c is = c
sends link (Some sending) c is = record {
  screen = c.screen;
  encoded = c.encoded;
  writes = sent_all HasProperScreen link.lost link.down (sending.message ∷ []) c.writes (All-cons HasProperScreen sending.message [] is.message (All-nil HasProperScreen));
  values = is.values;
}

-- where the host may act, the screen meets what it believes, and so what it learns is characters
abbrev pub LearnsTexts : Application → Session → Type 0
LearnsTexts app conn = conn.turn ≡ whose.Host → conn.pending ≡ Pending.Nothing → AreTexts (learned conn.shadow (app.fields conn.panel) conn.values)

what_is_learned : (app : Application) (link : Link) → ConnectionInvariant app (view_of link) → CanSend link → LearnsTexts app link.host
what_is_learned app link k c turns pends =
    let known = knows_at app (view_of link) k turns pends in
    learned_texts link.host.shadow link.term.display.screen (app.fields link.host.panel) link.host.values known.meets c.screen.storable c.values

decided_texts : (app : Application) (conn : Session) (decision : Decision) → WantsProperScreens app → AreTexts conn.values → DecidesOnTexts decision → IfSome (decided app conn decision) SendsTexts
decided_texts app conn (Decision.Do act) asks texts is = done_texts app conn act asks texts is
decided_texts app conn Decision.Asks asks texts is = tt

acts_by : (app : Application) → WantsProperScreens app → (conn : Session) (turn : Turn) (pending : Pending) (agreed : Bool) → AreTexts conn.values → LearnsTexts app conn
    → conn.turn ≡ turn → conn.pending ≡ pending → IfSome (option_and_then (decided app conn) (if may_act turn pending agreed then Some (decision_on app conn conn.turn_reason) else None)) SendsTexts
acts_by app asks conn whose.Host Pending.Nothing true values learns turns pends =
    decided_texts app conn (decision_on app conn conn.turn_reason) asks values (decision_texts app conn conn.turn_reason values (learns turns pends))
acts_by app asks conn whose.Host Pending.Nothing false values learns turns pends = tt
acts_by app asks conn whose.Host (Pending.Writing number command) agreed values learns turns pends = tt
acts_by app asks conn whose.Host (Pending.Reading number) agreed values learns turns pends = tt
acts_by app asks conn whose.Host (Pending.Noting number command) agreed values learns turns pends = tt
acts_by app asks conn whose.Terminal pending agreed values learns turns pends = tt

pub acts_texts : (app : Application) → WantsProperScreens app → (conn : Session) → AreTexts conn.values → LearnsTexts app conn → IfSome (acted app conn) SendsTexts
acts_texts app asks conn values learns = acts_by app asks conn conn.turn conn.pending (is_agreed conn.talk.state) values learns refl refl

pub answers_texts : (app : Application) → WantsProperScreens app → (said : ApplicationAnswer) → AreTexts said.values → (conn : Session) → AreTexts conn.values → LearnsTexts app conn → IfSome (answered_on app conn said) SendsTexts
answers_texts app asks said are conn values learns = by_open (is_asking app conn) refl (has_its_panel app said)
  where
    by_open : (asked : Bool) → is_asking app conn ≡ asked → (has : Bool) → IfSome (if asked && has then Some (done app conn (act_by app conn said (panel_for app conn said))) else None) SendsTexts
    by_open true open_now true =
        let when = may_act_when conn.turn conn.pending (is_agreed conn.talk.state) (asking_parts app conn open_now).0 in
        done_texts app conn (act_by app conn said (panel_for app conn said)) asks values (answer_texts app conn said (panel_for app conn said) (learns when.0 when.1) are)
    by_open true open_now false = tt
    by_open false open_now has = tt

pub notes_texts : LowerLaws → (text : List ℕ) (conn : Session) → IsValidSize conn.size → IsNoteText text → AreTexts conn.values → IfSome (noted text conn) SendsTexts
notes_texts given text conn is note values = by_test (may_note conn.turn conn.pending (is_agreed conn.talk.state))
  where
    by_test : (b : Bool) → IfSome (if b then Some (noted_as text conn) else None) SendsTexts
    by_test true = note_texts given text conn is note values
    by_test false = tt

pub blank_sendable : (model : Model) (shape : ScreenSize) → IsValidSize shape → IsSendable (new_display model shape).screen
blank_sendable model shape is = record {
  few = subst (λ (n : ℕ). n ≤ most_cells) (sym (blank_length model shape)) is.addresses;
  cursor = subst (λ (n : ℕ). 0 < n) (sym (blank_length model shape)) (first_cell shape is);
  aid = tt;
  storable = All-replicate IsStorableCell (cells_in shape) (CharCell 0) refl;
}

-- a key is one that a terminal has, and a note has a text
abbrev IsTypedEvent : Event → Type 0
IsTypedEvent event = IsEvent event × IsWellFormed event

all_typed : (events : List Event) → AreEvents events → All IsWellFormed events → All IsTypedEvent events
all_typed [] are typed = All-nil IsTypedEvent
all_typed (event ∷ events) are typed =
    All-cons IsTypedEvent event events (are.0, All-head IsWellFormed event events typed) (all_typed events are.1 (All-tail IsWellFormed event events typed))

steps : SentIsRead → LowerLaws → (app : Application) → IsApplication app → WantsProperScreens app → Steps app IsTypedEvent CanSend (λ display. IsSendable display.screen)
steps read given app is asks = record {
  never = λ serves. record { screen = blank_sendable M2 app.begins is.begins; encoded = All-nil CanBeSpelt; writes = All-nil HasProperScreen; values = All-nil AreCharacters };
  begins = λ serves model terminal wanted. record { screen = blank_sendable model app.begins is.begins; encoded = All-nil CanBeSpelt; writes = All-cons HasProperScreen _ [] tt (All-nil HasProperScreen); values = All-nil AreCharacters };
  up = λ pool link message rest e k c.
      let step : HostStep = host_took pool link.host message in
      let just = just_talks pool link.host message in
      left_if step.closes _ (record {
        screen = c.screen;
        encoded = All-tail CanBeSpelt message rest (subst (All CanBeSpelt) e c.encoded);
        writes = sent_all HasProperScreen link.lost link.down step.sends c.writes (subst (All HasProperScreen) (sym just.says) (All-map HasProperScreen ToTerminal.TalksDown just.talk (λ k d below. tt)));
        values = subst AreTexts (sym just.values) c.values;
      });
  acts = λ link k c. sends link (acted app link.host) c (acts_texts app asks link.host c.values (what_is_learned app link k c));
  answers = λ number said link such k c.
      sends link (answered_on app link.host said) c (answers_texts app asks said such.0 link.host c.values (what_is_learned app link k c));
  notes = λ number text link such k c.
      sends link (noted text link.host) c (notes_texts given text link.host (shape_of_model app link.term.display.model link.host.size is k.sizes.host) such.0 c.values);
  down = λ link message rest e k c.
      let down : All HasProperScreen (message ∷ rest) = subst (All HasProperScreen) e c.writes in
      let says = term_sends read given link.term message (All-head HasProperScreen message rest down) (note_fits app link message rest e k) k.whole c.screen in
      record {
        screen = says.screen;
        encoded = sent_all CanBeSpelt link.lost link.up (term_took link.term message).sends c.encoded says.encoded;
        writes = All-tail HasProperScreen message rest down;
        values = c.values;
      };
  key = λ terminal key link such k c.
      let display : Display = link.term.display in
      let outcome = outcome_of key display in
      let still = given.keys.sendable display.size.columns key display.keyboard display.screen such.1 c.screen in
      let on = given.keys.on_screen display.size.columns key display.keyboard display.screen c.screen.cursor in
      record {
        screen = still;
        encoded = sent_all CanBeSpelt link.lost link.up (data_of (is_bound link.term) outcome.answer display.size outcome.screen) c.encoded
            (key_sends read (is_bound link.term) outcome.answer display.size outcome.screen (on.0 ∙ k.whole) still);
        writes = c.writes;
        values = c.values;
      };
  loses = λ link c. record { screen = c.screen; encoded = c.encoded; writes = c.writes; values = c.values };
  host_leaves = λ link c. record { screen = c.screen; encoded = c.encoded; writes = c.writes; values = c.values };
  term_leaves = λ link c. record { screen = c.screen; encoded = c.encoded; writes = c.writes; values = c.values };
  fresh = λ model. blank_sendable model app.begins is.begins;
  alone = λ link k c. c.screen;
  key_alone = λ terminal key display such still. given.keys.sendable display.size.columns key display.keyboard display.screen such.1 still;
}

-- ---- the theorems

in_place : (world : World) (place : Place) → ((number : ℕ) → CanSend (world.link number)) → InPlace (λ display. IsSendable display.screen) place → IsSendable (display_at world place).screen
in_place world (Place.At number) can is = (can number).screen
in_place world (Place.Alone display) can is = is

-- of each connection and each display
all_can : SentIsRead → LowerLaws → (app : Application) (serves : Terminals) (pool : List Entry) (models : List Model) (events : List Event)
    → IsApplication app → WantsProperScreens app → IsPool pool → length models ≤ 16 → AreEvents events → All IsWellFormed events
    → let world = run app events (new_world app serves pool models) in Everywhere CanSend (λ display. IsSendable display.screen) world.link world.place
all_can read given app serves pool models events is asks lists few are typed =
    everywhere given app is IsTypedEvent CanSend (λ display. IsSendable display.screen) (steps read given app is asks) serves pool models events lists are (all_typed events are typed)

pub screens_are_sendable : SentIsRead → LowerLaws → AlwaysTyped ScreensAreSendable
screens_are_sendable read given app serves pool models events is asks lists few are typed terminal =
    let world : World = run app events (new_world app serves pool models) in
    let all = all_can read given app serves pool models events is asks lists few are typed in
    let keeps = screens_have_a_size given app serves pool models events is lists few are terminal in
    record {
      sendable = in_place world (world.place terminal) all.links (all.places terminal);
      whole = keeps.whole;
    }

pub data_can_be_spelt : SentIsRead → LowerLaws → AlwaysTyped DataCanBeSpelt
data_can_be_spelt read given app serves pool models events is asks lists few are typed number =
    ((all_can read given app serves pool models events is asks lists few are typed).links number).encoded

-- what holds of each message that is written holds of all of them
each_written : (P : ToTerminal → Type 0) → ((message : ToTerminal) → HasProperScreen message → P message) → (messages : List ToTerminal) → All HasProperScreen messages → All P messages
each_written P has [] each = All-nil P
each_written P has (message ∷ messages) each =
    All-cons P message messages (has message (All-head HasProperScreen message messages each)) (each_written P has messages (All-tail HasProperScreen message messages each))

pub paints_a_screen : (message : ToTerminal) → HasProperScreen message → PaintsAScreen message
paints_a_screen (ToTerminal.TalksDown saying) written = tt
paints_a_screen (ToTerminal.Paint number wanted over) written = written
paints_a_screen (ToTerminal.ReadBuffer number) written = tt
paints_a_screen (ToTerminal.Note number command) written = tt

pub paints_are_screens : SentIsRead → LowerLaws → AlwaysTyped PaintsAreScreens
paints_are_screens read given app serves pool models events is asks lists few are typed number =
    let all = all_can read given app serves pool models events is asks lists few are typed in
    each_written PaintsAScreen paints_a_screen ((run app events (new_world app serves pool models)).link number).down (all.links number).writes

pub message_spelt : PaintIsEncoded → (message : ToTerminal) → HasProperScreen message → IsSpelt message
message_spelt law (ToTerminal.TalksDown saying) written = tt
message_spelt law (ToTerminal.Paint number wanted over) written =
    λ now alternate sized writes. law now alternate over wanted written sized writes
message_spelt law (ToTerminal.ReadBuffer number) written = tt
message_spelt law (ToTerminal.Note number command) written = written.1

pub paints_are_spelt : SentIsRead → LowerLaws → AlwaysTyped PaintsAreSpelt
paints_are_spelt read given app serves pool models events is asks lists few are typed number =
    let all = all_can read given app serves pool models events is asks lists few are typed in
    each_written IsSpelt (message_spelt given.belief.encoded) ((run app events (new_world app serves pool models)).link number).down (all.links number).writes

pub values_are_texts : SentIsRead → LowerLaws → AlwaysTyped ValuesAreTexts
values_are_texts read given app serves pool models events is asks lists few are typed number =
    ((all_can read given app serves pool models events is asks lists few are typed).links number).values
