-- What the application is asked is what the operator sees: it is read off the moment in which the host decides.
use Rattle.std.proofs.Common.{◌≡◌, ◌≢◌, ◌⊎◌, ◌+◌, ◌-◌, ◌<◌, ◌||◌, ◌&&◌, not, length, arith, ℕ, zero, suc, Bool, true, false, Option, None, Some, List, [], ◌∷◌, refl, ap, sym, subst, ◌∙◌, if◌then◌else◌, inl, inr}
use Rattle.std.specs.Prelude.{◌==◌, All, slice_get, slice_index_or, option_map, option_and_then}
use Rattle.std.specs.List.{Contains, list_all, list_any}
use Rattle.std.specs.Option.{option_map_or}
use Rattle.std.proofs.lemmas.Bool.{cases_eq, eq-eqb, eqb-true}
use Rattle.std.proofs.lemmas.List.Elements.{All-head, All-tail}
use Rattle.codes3270.specs.Size.{cells_in}
use Rattle.codes3270.specs.declared.attention.Aid.{Aid}
use Rattle.codes3270.specs.declared.attention.Aid.TheVariants.{NoAid, Enter, Clear, Pf, Pa}
use Rattle.codes3270.specs.declared.attribute.Cell.{Cell}
use Rattle.codes3270.specs.declared.attribute.Cell.TheVariants.{Char, Attr}
use Rattle.datastream.specs.Fields.{Field, fields, fields_from, IsFormatted as IsFormattedScreen, IsUnformatted}
use Rattle.datastream.specs.Inbound.{without_nulls}
use Rattle.datastream.specs.Screen.{Screen, is_char}
use Rattle.datastream.specs.Wanted.{WantedScreen}
use Rattle.panels.proofs.Setting.{put_here, put_there}
use Rattle.panels.specs.KeptFields.{IsFieldOn}
use Rattle.panels.specs.Panel.{HaveNumbersApart}
use Rattle.panels.specs.Screen.{Values}
use Rattle.panels.specs.Values.{set_if, value_of}
use Rattle.panels.specs.declared.extent.Extent.{Extent}
use Rattle.panels.specs.declared.panel.Field.{Field as PanelField}
use Rattle.shadow.specs.Queries.{belief_with}
use Rattle.shadow.specs.Belief.{Fact, Belief, Shadow}
use Rattle.shadow.specs.Meets.{FieldMeets, Holds, ListsFields, Meets, told}
use Rattle.shadow.specs.Pairs.{Pairwise}
use Rattle.shadow.specs.Settled.{IsSettled, IsSettledField, is_settled_fact}
use Rattle.host_core.specs.Acts.{Act, Decision, belief_of, decision_on, is_in_doubt, learned, text_known, when_shown}
use Rattle.host_core.specs.Application.{Application, IsApplication, message_place}
use Rattle.host_core.specs.Questions.{is_ask, is_asking, is_screen_empty, key_of, panel_asked, question_in, question_on}
use Rattle.host_core.specs.Takes.{is_verified}
use Rattle.host_core.specs.Session.{Session, agreed_lu}
use Rattle.host_core.specs.declared.question.Question.{Question}
use Rattle.host_core.specs.declared.turn_reason.TurnReason.{TurnReason}
use Rattle.host_core.specs.declared.turn_reason.TurnReason.TheVariants as turn_reasons
use Rattle.world3270.specs.statement.Always.{Always, AlwaysOf}
use Rattle.world3270.specs.statement.Asked.{AskedIsSeen, AreFieldsAsked, AreFieldsAskedIf, FieldsAreSeen, IsBoundFor, IsFieldShown, IsScreenAsLeft, IsSeen, ScreensAreAsLeft, ShowsItsFields, IsFieldText, IsPanelText}
use Rattle.world3270.specs.refinement.LowerLaws.{LowerLaws}
use Rattle.world3270.specs.model.Steps.{run}
use Rattle.world3270.specs.model.Link.{Link}
use Rattle.world3270.specs.statement.Observation.{TerminalSeen, end_seen}
use Rattle.world3270.specs.statement.Showing.{ShowsItsPanel}
use Rattle.world3270.specs.refinement.Invariant.{ConnectionInvariant, Decides, IsNew, IsKnownIfRead, ShownIn, local_state_of}
use Rattle.world3270.specs.model.Terminal.{bound_to}
use Rattle.world3270.specs.refinement.Phases.{SessionPhase}
use Rattle.world3270.specs.statement.TurnReasons.{IsCursorFor, IsOccasion}
use Rattle.world3270.specs.refinement.Unreturned.{SamePlaces}
use Rattle.world3270.specs.refinement.View.{view_of}
use Rattle.world3270.specs.model.World.{World, new_world}
use Rattle.world3270.proofs.Acting.{MayAct, asks_when, same_asked, wanted_in_a_way}
use Rattle.world3270.proofs.Headline.{terminal_attached}
use Rattle.world3270.proofs.OnScreen.{IsAmong, among_listed, among_painted, among_same, listed-length}
use Rattle.world3270.proofs.Worlds.{new_good, run_good}
use Rattle.world3270.proofs.TalkStates.{agreed_on}

-- ---- a text that is known stands on the screen

-- a text that a fact tells is that of the characters
told_is : (fact : Fact) (chars text : List ℕ) → Holds fact chars → told fact ≡ Some text → without_nulls chars ≡ text
told_is (Fact.Exact value) chars text holds is = ap without_nulls holds ∙ (let same : Some (without_nulls value) ≡ Some text = is in cc)
told_is (Fact.Text value) chars text holds is = holds ∙ (let same : Some value ≡ Some text = is in cc)
told_is (Fact.ExactOrNulls value) chars text holds is = absurd (cc)
told_is (Fact.TextOrNulls value) chars text holds is = absurd (cc)
told_is (Fact.Any known) chars text holds is = absurd (cc)

-- a field with that attribute's address and that text is among these
abbrev Listed : List Field → ℕ → List ℕ → Type 0
Listed seen place text = (index : ℕ) × (on_screen : Field) × (slice_get seen index ≡ Some on_screen) × (on_screen.place ≡ place) × (without_nulls on_screen.text ≡ text)

known_listed : (place : ℕ) (text : List ℕ) (beliefs : List Belief) (seen : List Field) → Pairwise FieldMeets beliefs seen
    → option_and_then (λ (belief : Belief). told belief.fact) (belief_with place beliefs) ≡ Some text → Listed seen place text
known_listed place text [] seen meets is = absurd (cc)
known_listed place text (belief ∷ beliefs) [] meets is = absurd meets
known_listed place text (belief ∷ beliefs) (field ∷ seen) meets is = by_test (belief.place == place) refl is (known_listed place text beliefs seen meets.1)
  where
    by_test : (b : Bool) → (belief.place == place) ≡ b
        → option_and_then (λ (x : Belief). told x.fact) (if b then Some belief else belief_with place beliefs) ≡ Some text
        → (option_and_then (λ (x : Belief). told x.fact) (belief_with place beliefs) ≡ Some text → Listed seen place text) → Listed (field ∷ seen) place text
    by_test true here known rest = (zero, field, refl, meets.0.same_place ∙ eqb-true belief.place place here, told_is belief.fact field.text text meets.0.holds known)
    by_test false here known rest =
        let found = rest known in
        (suc found.0, found.1, found.2, found.3, found.4)

-- a panel's field has an address before its first cell
right_before : (extent : Extent) (place : ℕ) → place ≡ extent.first - 1 → place + 1 ≡ extent.first
right_before extent place is =
    let after = extent.after_attribute in
    omega arith

pub stands_at : (shadow : Shadow) (screen : Screen) (field : PanelField) (text : List ℕ) → Meets shadow screen → text_known shadow field ≡ Some text → IsFieldText field text screen
stands_at Shadow.NothingKnown screen field text meets is = absurd (cc)
stands_at (Shadow.Unformatted known) screen field text meets is = absurd (cc)
stands_at (Shadow.Formatted beliefs) screen field text meets is = found_at (known_listed (field.extent.first - 1) text beliefs (fields screen.cells) meets.1 is)
  where
    found_at : Listed (fields screen.cells) (field.extent.first - 1) text → IsFieldText field text screen
    found_at found = record { index = found.0; on_screen = found.1; listed = found.2; place = right_before field.extent found.1.place found.3; text_is = found.4 }

-- ---- a value that is asked is a text that is known

-- one of these fields has that number, and its text is known
abbrev IsKnown : Shadow → List PanelField → ℕ → List ℕ → Type 0
IsKnown shadow panel number text =
    (index : ℕ) × (field : PanelField) × (slice_get panel index ≡ Some field) × (field.number ≡ number) × (text_known shadow field ≡ Some text)

-- a value that is there once the text of one field is set
set_from : (known : Option (List ℕ)) (field number : ℕ) (values : Values) (text : List ℕ) → value_of (set_if field known values) number ≡ Some text
    → (value_of values number ≡ Some text) ⊎ ((field ≡ number) × (known ≡ Some text))
set_from None field number values text is = inl is
set_from (Some set) field number values text is = by_number (cases_eq field number)
  where
    by_number : (field ≡ number) ⊎ (field ≡ number → ⊥) → (value_of values number ≡ Some text) ⊎ ((field ≡ number) × (Some set ≡ Some text))
    by_number (inl same) = inr (same, sym (put_here values field set) ∙ ap (λ (n : ℕ). value_of (set_if field (Some set) values) n) same ∙ is)
    by_number (inr differ) = inl (sym (put_there values field number set (λ same. differ (sym same))) ∙ is)

learned_from : (shadow : Shadow) (panel : List PanelField) (values : Values) (number : ℕ) (text : List ℕ) → value_of (learned shadow panel values) number ≡ Some text
    → (value_of values number ≡ Some text) ⊎ IsKnown shadow panel number text
learned_from shadow [] values number text is = inl is
learned_from shadow (field ∷ panel) values number text is =
    by_rest (learned_from shadow panel (set_if field.number (text_known shadow field) values) number text is)
  where
    by_field : (value_of values number ≡ Some text) ⊎ ((field.number ≡ number) × (text_known shadow field ≡ Some text))
        → (value_of values number ≡ Some text) ⊎ IsKnown shadow (field ∷ panel) number text
    by_field (inl before) = inl before
    by_field (inr here) = inr (zero, field, refl, here.0, here.1)

    by_rest : (value_of (set_if field.number (text_known shadow field) values) number ≡ Some text) ⊎ IsKnown shadow panel number text
        → (value_of values number ≡ Some text) ⊎ IsKnown shadow (field ∷ panel) number text
    by_rest (inl before) = by_field (set_from (text_known shadow field) field.number number values text before)
    by_rest (inr found) = inr (suc found.0, found.1, found.2, found.3, found.4)

stands_in : (shadow : Shadow) (screen : Screen) (panel : List PanelField) (number : ℕ) (text : List ℕ) → Meets shadow screen
    → value_of (learned shadow panel []) number ≡ Some text → IsPanelText panel number text screen
stands_in shadow screen panel number text meets is = by_case (learned_from shadow panel [] number text is)
  where
    by_case : (value_of [] number ≡ Some text) ⊎ IsKnown shadow panel number text → IsPanelText panel number text screen
    by_case (inl before) = absurd (cc)
    by_case (inr found) = record {
      index = found.0;
      field = found.1;
      listed = found.2;
      number_is = found.3;
      stands = stands_at shadow screen found.1 text meets found.4;
    }

-- ---- each field is asked about

-- a settled fact tells a text
settled_told : (fact : Fact) → is_settled_fact fact ≡ true → (text : List ℕ) × (told fact ≡ Some text)
settled_told (Fact.Exact value) settled = (without_nulls value, refl)
settled_told (Fact.Text value) settled = (value, refl)
settled_told (Fact.ExactOrNulls value) settled = absurd (cc)
settled_told (Fact.TextOrNulls value) settled = absurd (cc)
settled_told (Fact.Any known) settled = absurd (cc)

-- a text is known of the field that is believed there
abbrev pub IsTextOf : Option Belief → Type 0
IsTextOf found = (text : List ℕ) × (option_and_then (λ (belief : Belief). told belief.fact) found ≡ Some text)

found_told : (found : Option Belief) → not (option_map_or (λ (belief : Belief). is_settled_fact belief.fact) found false) ≡ false → IsTextOf found
found_told None sure = absurd (cc)
found_told (Some belief) sure = settled_told belief.fact (is_true (is_settled_fact belief.fact) sure)
  where
    is_true : (b : Bool) → not b ≡ false → b ≡ true
    is_true true e = refl
    is_true false e = absurd (cc)

neither : (one other : Bool) → (one || other) ≡ false → (one ≡ false) × (other ≡ false)
neither true other none = absurd (cc)
neither false other none = (refl, none)

-- nothing is in doubt
pub sure_told : (shadow : Shadow) (panel : List PanelField) (index : ℕ) (field : PanelField) → list_any (is_in_doubt shadow) panel ≡ false → slice_get panel index ≡ Some field
    → IsTextOf (belief_of shadow field)
sure_told shadow [] index field sure at = absurd (cc)
sure_told shadow (first ∷ panel) zero field sure at =
    let same : first ≡ field = let both : Some first ≡ Some field = at in cc in
    subst (λ (f : PanelField). IsTextOf (belief_of shadow f)) same
    (found_told (belief_of shadow first) (neither (is_in_doubt shadow first) (list_any (is_in_doubt shadow) panel) sure).0)
sure_told shadow (first ∷ panel) (suc index) field sure at =
    sure_told shadow panel index field (neither (is_in_doubt shadow first) (list_any (is_in_doubt shadow) panel) sure).1 at

-- a listed field is believed, with a settled fact
pub belief_there : (place : ℕ) (beliefs : List Belief) (seen : List Field) (index : ℕ) (field : Field) → Pairwise FieldMeets beliefs seen → All IsSettledField beliefs
    → index < length seen → slice_index_or seen index field ≡ field → field.place ≡ place → IsTextOf (belief_with place beliefs)
belief_there place [] [] index field meets settled below at is = absurd (omega arith)
belief_there place [] (seen ∷ more) index field meets settled below at is = absurd meets
belief_there place (belief ∷ beliefs) [] index field meets settled below at is = absurd meets
belief_there place (belief ∷ beliefs) (seen ∷ more) zero field meets settled below at is =
    let same : belief.place ≡ place = sym meets.0.same_place ∙ ap (λ (f : Field). f.place) at ∙ is in
    subst (λ (b : Bool). IsTextOf (if b then Some belief else belief_with place beliefs)) (sym (eq-eqb belief.place place same))
    (settled_told belief.fact (All-head IsSettledField belief beliefs settled))
belief_there place (belief ∷ beliefs) (seen ∷ more) (suc index) field meets settled below at is =
    by_test (belief.place == place) (belief_there place beliefs more index field meets.1 (All-tail IsSettledField belief beliefs settled) (omega (arith, below)) at is)
  where
    by_test : (b : Bool) → IsTextOf (belief_with place beliefs) → IsTextOf (if b then Some belief else belief_with place beliefs)
    by_test true behind = settled_told belief.fact (All-head IsSettledField belief beliefs settled)
    by_test false behind = behind

settled_on : (shadow : Shadow) (screen : Screen) (field : PanelField) → ListsFields shadow screen → Meets shadow screen → IsSettled shadow → IsAmong screen.cells field.extent
    → IsTextOf (belief_of shadow field)
settled_on shadow screen field lists meets settled there = by_belief shadow lists meets settled
  where
    listed : (on_screen : Field) × Contains (fields screen.cells) on_screen × (on_screen.place ≡ field.extent.first - 1)
    listed = among_listed screen.cells field.extent there

    formatted : IsFormattedScreen screen.cells
    formatted none = absurd (let below = listed.1.1 in let empty = ap (λ (all : List Field). length all) none in omega (arith, below, empty))

    by_belief : (shadow : Shadow) → ListsFields shadow screen → Meets shadow screen → IsSettled shadow → IsTextOf (belief_of shadow field)
    by_belief Shadow.NothingKnown lists meets settled = absurd (lists formatted)
    by_belief (Shadow.Unformatted known) lists meets settled = absurd (lists formatted)
    by_belief (Shadow.Formatted beliefs) lists meets settled =
        belief_there (field.extent.first - 1) beliefs (fields screen.cells) listed.1.0 listed.0 meets.1 settled listed.1.1 listed.1.2 listed.2

-- where the application is asked, nothing is in doubt, or the screen was read
pub asked_sure : (app : Application) (conn : Session) (reason : TurnReason) → is_screen_empty (key_of reason) ≡ false → IsKnownIfRead reason conn.shadow → is_ask (decision_on app conn reason) ≡ true
    → (list_any (is_in_doubt conn.shadow) (app.fields conn.panel) ≡ false) ⊎ IsSettled conn.shadow
asked_sure app conn turn_reasons.Agreement shown_now settled asks = absurd (cc)
asked_sure app conn turn_reasons.Refusal shown_now settled asks = absurd (cc)
asked_sure app conn turn_reasons.Restoration shown_now settled asks = absurd (cc)
asked_sure app conn (turn_reasons.Key aid true) shown_now settled asks = inr settled
asked_sure app conn (turn_reasons.Key aid false) shown_now settled asks = inl (by_aid aid shown_now asks)
  where
    by_doubt : (verified doubt : Bool) (led_to : Decision) → is_ask (if (verified || doubt) && not false then Decision.Do Act.Read else led_to) ≡ true → doubt ≡ false
    by_doubt true doubt led_to asks = absurd (cc)
    by_doubt false true led_to asks = absurd (cc)
    by_doubt false false led_to asks = refl

    by_aid : (aid : Aid) → is_screen_empty aid ≡ false → is_ask (decision_on app conn (turn_reasons.Key aid false)) ≡ true → list_any (is_in_doubt conn.shadow) (app.fields conn.panel) ≡ false
    by_aid Clear shown_now asks = absurd (cc)
    by_aid NoAid shown_now asks = absurd (cc)
    by_aid (Pa key) shown_now asks = absurd (cc)
    by_aid Enter shown_now asks = by_doubt (is_verified conn) (list_any (is_in_doubt conn.shadow) (app.fields conn.panel)) _ asks
    by_aid (Pf key) shown_now asks = by_doubt (is_verified conn) (list_any (is_in_doubt conn.shadow) (app.fields conn.panel)) _ asks

-- what later fields have leaves the value of a number that they haven't
learned_stays : (shadow : Shadow) (panel : List PanelField) (values : Values) (number : ℕ) → ((index : ℕ) (field : PanelField) → slice_get panel index ≡ Some field → number ≢ field.number)
    → value_of (learned shadow panel values) number ≡ value_of values number
learned_stays shadow [] values number apart = refl
learned_stays shadow (field ∷ panel) values number apart =
    learned_stays shadow panel (set_if field.number (text_known shadow field) values) number (λ index other at. apart (suc index) other at)
    ∙ by_text (text_known shadow field)
  where
    by_text : (known : Option (List ℕ)) → value_of (set_if field.number known values) number ≡ value_of values number
    by_text None = refl
    by_text (Some text) = put_there values field.number number text (apart zero field refl)

-- a text that is known is the value of its field
pub learned_has : (shadow : Shadow) (panel : List PanelField) (values : Values) (index : ℕ) (field : PanelField) (text : List ℕ) → HaveNumbersApart panel → slice_get panel index ≡ Some field
    → text_known shadow field ≡ Some text → value_of (learned shadow panel values) field.number ≡ Some text
learned_has shadow [] values index field text apart at known = absurd (cc)
learned_has shadow (first ∷ panel) values zero field text apart at known =
    let same : first ≡ field = let is : Some first ≡ Some field = at in cc in
    let first_known : text_known shadow first ≡ Some text = ap (text_known shadow) same ∙ known in
    ap (λ (f : PanelField). value_of (learned shadow panel (set_if first.number (text_known shadow first) values)) f.number) (sym same)
    ∙ learned_stays shadow panel (set_if first.number (text_known shadow first) values) first.number (λ index other there. apart zero (suc index) first other (omega arith) refl there)
    ∙ ap (λ (k : Option (List ℕ)). value_of (set_if first.number k values) first.number) first_known
    ∙ put_here values first.number text
learned_has shadow (first ∷ panel) values (suc index) field text apart at known =
    learned_has shadow panel (set_if first.number (text_known shadow first) values) index field text
    (λ i j one other below at_i at_j. apart (suc i) (suc j) one other (omega (arith, below)) at_i at_j) at known

-- the panel that is shown has its fields on the screen
shown_among : (app : Application) → IsApplication app → ShowsItsFields app → (waits : Bool) (host : Session) (before left now : Screen) (index : ℕ) (field : PanelField) → ShowsItsPanel app waits host before left → SamePlaces left.cells now.cells
    → slice_get (app.fields host.panel) index ≡ Some field → IsAmong now.cells field.extent
shown_among app is shows waits host before left now index field shown same at =
    let wanted : WantedScreen = shown.wanted in
    let way = wanted_in_a_way app (when_shown shown.wanted_for.conn) host.panel host.message shown.wanted_for.keep host.values in
    let keep : Bool = way.0 in
    let wanted_is : wanted ≡ app.screen host.panel host.values host.message keep = shown.wanted_for.wanted_is ∙ way.1 in
    let sized : length wanted.cells ≡ cells_in wanted.size =
    subst (λ (w : WantedScreen). length w.cells ≡ cells_in w.size) (sym wanted_is) (is.showable host.panel host.values host.message keep).cells in
    let on : IsFieldOn wanted field.extent =
    subst (λ (w : WantedScreen). IsFieldOn w field.extent) (sym wanted_is) (shows.on_screen host.panel host.values host.message keep index field at) in
    among_same left.cells now.cells field.extent same
    (subst (λ (s : Screen). IsAmong s.cells field.extent) (sym shown.is) (among_painted shown.over wanted before field.extent sized shown.fits shown.meets on))

-- ---- the key

asked_key : (reason : TurnReason) (aid : Aid) → IsOccasion reason aid → key_of reason ≡ aid
asked_key turn_reasons.Agreement aid occasion = sym occasion
asked_key (turn_reasons.Key pressed buffered) aid occasion = occasion.0
asked_key turn_reasons.Refusal aid occasion = absurd occasion
asked_key turn_reasons.Restoration aid occasion = absurd occasion

bound_for : (aid : Aid) (bound : Option (List ℕ)) (lu : List ℕ) → bound ≡ Some lu → IsBoundFor aid bound lu
bound_for NoAid bound lu is = inr is
bound_for Enter bound lu is = is
bound_for Clear bound lu is = is
bound_for (Pf key) bound lu is = is
bound_for (Pa key) bound lu is = is

-- ---- the cursor

-- nothing is asked after a PA key before the screen was read
asked_cursor : (app : Application) (conn : Session) (reason : TurnReason) (aid : Aid) (place : ℕ) → IsOccasion reason aid → IsCursorFor reason conn.cursor place
    → is_ask (decision_on app conn reason) ≡ true → (if is_screen_empty (key_of reason) then 0 else conn.cursor) ≡ place
asked_cursor app conn turn_reasons.Agreement aid place occasion cursor asks = sym cursor
asked_cursor app conn turn_reasons.Refusal aid place occasion cursor asks = absurd occasion
asked_cursor app conn turn_reasons.Restoration aid place occasion cursor asks = absurd occasion
asked_cursor app conn (turn_reasons.Key NoAid buffered) aid place occasion cursor asks = absurd (occasion.1 (sym occasion.0))
asked_cursor app conn (turn_reasons.Key Enter true) aid place occasion cursor asks = cursor.0
asked_cursor app conn (turn_reasons.Key Enter false) aid place occasion cursor asks = cursor.0 refl
asked_cursor app conn (turn_reasons.Key (Pf key) true) aid place occasion cursor asks = cursor.0
asked_cursor app conn (turn_reasons.Key (Pf key) false) aid place occasion cursor asks = cursor.0 refl
asked_cursor app conn (turn_reasons.Key Clear true) aid place occasion cursor asks = sym (cursor.1 refl)
asked_cursor app conn (turn_reasons.Key Clear false) aid place occasion cursor asks = sym (cursor.1 refl)
asked_cursor app conn (turn_reasons.Key (Pa key) true) aid place occasion cursor asks = cursor.0
asked_cursor app conn (turn_reasons.Key (Pa key) false) aid place occasion cursor asks = absurd (cc)

-- ---- the texts

-- the texts of a question stand on the screen
texts_seen : (app : Application) (conn : Session) (screen : Screen) (reason : TurnReason) (number : ℕ) (text : List ℕ) → Meets conn.shadow screen
    → value_of (if is_screen_empty (key_of reason) then [] else learned conn.shadow (app.fields conn.panel) []) number ≡ Some text → IsPanelText (app.fields (panel_asked app conn reason)) number text screen
texts_seen app conn screen turn_reasons.Agreement number text meets value = absurd (cc)
texts_seen app conn screen turn_reasons.Refusal number text meets value = absurd (cc)
texts_seen app conn screen turn_reasons.Restoration number text meets value = absurd (cc)
texts_seen app conn screen (turn_reasons.Key NoAid buffered) number text meets value = absurd (cc)
texts_seen app conn screen (turn_reasons.Key Clear buffered) number text meets value = absurd (cc)
texts_seen app conn screen (turn_reasons.Key Enter buffered) number text meets value = stands_in conn.shadow screen (app.fields conn.panel) number text meets value
texts_seen app conn screen (turn_reasons.Key (Pf key) buffered) number text meets value = stands_in conn.shadow screen (app.fields conn.panel) number text meets value
texts_seen app conn screen (turn_reasons.Key (Pa key) buffered) number text meets value = stands_in conn.shadow screen (app.fields conn.panel) number text meets value

-- characters alone are no fields
bare_unformatted : (cells rest : List Cell) (at : ℕ) → list_all is_char rest ≡ true → fields_from cells at rest ≡ []
bare_unformatted cells [] at bare = refl
bare_unformatted cells (Char byte ∷ rest) at bare = bare_unformatted cells rest (at + 1) bare
bare_unformatted cells (Attr attribute ∷ rest) at bare = absurd (cc)

-- while no panel is on the screen, it has no fields
unformatted_for : (reason : TurnReason) (aid : Aid) (cells : List Cell) → IsOccasion reason aid → is_screen_empty (key_of reason) ≡ true → (reason ≡ turn_reasons.Agreement → IsUnformatted cells)
    → (aid ≡ Clear → IsUnformatted cells) → IsUnformatted cells
unformatted_for turn_reasons.Agreement aid cells occasion empty first cleared = first refl
unformatted_for turn_reasons.Refusal aid cells occasion empty first cleared = absurd occasion
unformatted_for turn_reasons.Restoration aid cells occasion empty first cleared = absurd occasion
unformatted_for (turn_reasons.Key NoAid buffered) aid cells occasion empty first cleared = absurd (occasion.1 (sym occasion.0))
unformatted_for (turn_reasons.Key Clear buffered) aid cells occasion empty first cleared = cleared (sym occasion.0)
unformatted_for (turn_reasons.Key Enter buffered) aid cells occasion empty first cleared = absurd (cc)
unformatted_for (turn_reasons.Key (Pf key) buffered) aid cells occasion empty first cleared = absurd (cc)
unformatted_for (turn_reasons.Key (Pa key) buffered) aid cells occasion empty first cleared = absurd (cc)

-- a panel is on the screen, so neither Clear was pressed nor is it the first
uncleared_for : (reason : TurnReason) (aid : Aid) → IsOccasion reason aid → is_screen_empty (key_of reason) ≡ false → aid ≡ Clear → ⊥
uncleared_for reason aid occasion shown_now clear =
    absurd (let both : true ≡ false = sym (ap is_screen_empty (asked_key reason aid occasion ∙ clear)) ∙ shown_now in cc)

pub later_for : (reason : TurnReason) → is_screen_empty (key_of reason) ≡ false → reason ≡ turn_reasons.Agreement → ⊥
later_for reason shown_now first = absurd (let both : true ≡ false = sym (ap (λ (r : TurnReason). is_screen_empty (key_of r)) first) ∙ shown_now in cc)

-- ---- a question

-- a question is there where one is open and an LU is agreed on
pub question_is : (is_open : Bool) (lu : Option (List ℕ)) (ask : List ℕ → Question) (question : Question)
    → (if is_open then option_map ask lu else None) ≡ Some question → (is_open ≡ true) × (mine : List ℕ) × (lu ≡ Some mine) × (question ≡ ask mine)
question_is true (Some lu) ask question is = (refl, lu, refl, let same : Some (ask lu) ≡ Some question = is in cc)
question_is true None ask question is = absurd (cc)
question_is false lu ask question is = absurd (cc)

pub asked_seen : LowerLaws → (app : Application) → IsApplication app → (link : Link) → ConnectionInvariant app (view_of link) → (number session : ℕ) (question : Question)
    → question_in app session link.host ≡ Some question → IsSeen (app.fields question.panel) question (end_seen number link.term)
asked_seen given app is link k number session question asked =
    let there = question_is (is_asking app link.host) (agreed_lu link.host.talk.state) (question_on app session link.host) question asked in
    let asks = asks_when given app is link k there.0 in
    subst (λ (q : Question). IsSeen (app.fields q.panel) q (end_seen number link.term)) (sym there.3) (by_moment asks.0 asks.1 there.1 there.2)
  where
    by_moment : MayAct app link k.wanted → is_ask (decision_on app link.host link.host.turn_reason) ≡ true → (lu : List ℕ) → agreed_lu link.host.talk.state ≡ Some lu
        → IsSeen (app.fields (panel_asked app link.host link.host.turn_reason)) (question_on app session link.host lu) (end_seen number link.term)
    by_moment (MayAct.agreeing mine at n) asks lu host_is = record {
      key = ap key_of n.turn_reason ∙ sym n.aid;
      lu = subst (λ (r : TurnReason). IsBoundFor (key_of r) (bound_to link.term.talk.talk.state) lu) (sym n.turn_reason) (inl (ap bound_to at.term_talk));
      cursor = ap (λ (r : TurnReason). if is_screen_empty (key_of r) then 0 else link.host.cursor) n.turn_reason ∙ sym n.home;
      texts = λ field text value. texts_seen app link.host link.term.display.screen link.host.turn_reason field text (subst (λ s. Meets s link.term.display.screen) (sym n.shadow) tt) value;
    }
    by_moment (MayAct.deciding mine s at f showing) asks lu host_is = record {
      key = asked_key link.host.turn_reason link.term.display.screen.aid f.turn_reason;
      lu = bound_for (key_of link.host.turn_reason) (bound_to link.term.talk.talk.state) lu (ap bound_to at.term_talk ∙ sym (agreed_on link.host.talk at.host_talk) ∙ host_is);
      cursor = asked_cursor app link.host link.host.turn_reason link.term.display.screen.aid link.term.display.screen.cursor f.turn_reason f.cursor asks;
      texts = λ field text value. texts_seen app link.host link.term.display.screen link.host.turn_reason field text f.sees.meets value;
    }

-- a question, with the texts of all fields or with none
abbrev question_if : Application → ℕ → Session → List ℕ → Bool → Question
question_if app session conn lu empty =
    record (question_on app session conn lu) { values = (if empty then [] else learned conn.shadow (app.fields conn.panel) []) }

text_of : (shadow : Shadow) (screen : Screen) (panel : List PanelField) (index : ℕ) (field : PanelField) → ListsFields shadow screen → Meets shadow screen → IsAmong screen.cells field.extent
    → slice_get panel index ≡ Some field → (list_any (is_in_doubt shadow) panel ≡ false) ⊎ IsSettled shadow → IsTextOf (belief_of shadow field)
text_of shadow screen panel index field lists meets among at (inl sure) = sure_told shadow panel index field sure at
text_of shadow screen panel index field lists meets among at (inr settled) = settled_on shadow screen field lists meets settled among

-- when the host decides, each field of the panel is on the screen, with a text that is known unless it is in doubt
pub field_there : (app : Application) → IsApplication app → ShowsItsFields app → (link : Link) → ConnectionInvariant app (view_of link) → Decides (local_state_of (view_of link)) link.host.shadow
    → ShowsItsPanel app link.term.waits link.host link.term.display.before_restored link.term.display.last_restored → (link.term.display.screen.aid ≡ Clear → ⊥)
    → (index : ℕ) (field : PanelField) → slice_get (app.fields link.host.panel) index ≡ Some field → (list_any (is_in_doubt link.host.shadow) (app.fields link.host.panel) ≡ false) ⊎ IsSettled link.host.shadow
    → (text : List ℕ) × (text_known link.host.shadow field ≡ Some text) × IsFieldShown field text link.term.display.screen
field_there app is shows link k f shown uncleared index field at sure =
    let same : SamePlaces link.term.display.last_restored.cells link.term.display.screen.cells = (k.unreturned uncleared).places in
    let among : IsAmong link.term.display.screen.cells field.extent =
    shown_among app is shows link.term.waits link.host link.term.display.before_restored link.term.display.last_restored link.term.display.screen index field shown same at in
    let told : IsTextOf (belief_of link.host.shadow field) = text_of link.host.shadow link.term.display.screen (app.fields link.host.panel) index field f.sees.lists f.sees.meets among at sure in
    let stands : IsFieldText field told.0 link.term.display.screen = stands_at link.host.shadow link.term.display.screen field told.0 f.sees.meets told.1 in
    (told.0, told.1, record { stands = stands; length_is = listed-length link.term.display.screen.cells field.extent stands.index stands.on_screen stands.listed stands.place among })

pub each_asked : LowerLaws → (app : Application) → IsApplication app → ShowsItsFields app → (link : Link) → ConnectionInvariant app (view_of link) → (session : ℕ) (question : Question)
    → question_in app session link.host ≡ Some question → AreFieldsAsked (app.fields question.panel) question link.term.display.screen
each_asked given app is shows link k session question asked =
    let there = question_is (is_asking app link.host) (agreed_lu link.host.talk.state) (question_on app session link.host) question asked in
    let asks = asks_when given app is link k there.0 in
    subst (λ (q : Question). AreFieldsAsked (app.fields q.panel) q link.term.display.screen) (sym there.3) (by_moment asks.0 asks.1 there.1)
  where
    -- the panel is on the screen
    each_there : Decides (local_state_of (view_of link)) link.host.shadow
        → ShownIn app link.term.waits link.host link.term.display.before_restored link.term.display.last_restored link.term.display.screen SessionPhase.Deciding → is_ask (decision_on app link.host link.host.turn_reason) ≡ true
        → is_screen_empty (key_of link.host.turn_reason) ≡ false → (lu : List ℕ) → AreFieldsAskedIf false (app.fields link.host.panel) (question_if app session link.host lu false) link.term.display.screen
    each_there f showing asks shown_now lu =
        λ index field at.
        let there = field_there app is shows link k f (showing.0 (later_for link.host.turn_reason shown_now)) (uncleared_for link.host.turn_reason link.term.display.screen.aid f.turn_reason shown_now) index field at
        (asked_sure app link.host link.host.turn_reason shown_now showing.1 asks) in
        record { text = there.0; given = learned_has link.host.shadow (app.fields link.host.panel) [] index field there.0 (shows.numbers link.host.panel) at there.1; shown = there.2 }

    by_deciding : Decides (local_state_of (view_of link)) link.host.shadow
        → ShownIn app link.term.waits link.host link.term.display.before_restored link.term.display.last_restored link.term.display.screen SessionPhase.Deciding → is_ask (decision_on app link.host link.host.turn_reason) ≡ true
        → (lu : List ℕ) (empty : Bool) → is_screen_empty (key_of link.host.turn_reason) ≡ empty
        → AreFieldsAskedIf empty (app.fields (panel_asked app link.host link.host.turn_reason)) (question_if app session link.host lu empty) link.term.display.screen
    by_deciding f showing asks lu true empty = (
      refl,
      unformatted_for link.host.turn_reason link.term.display.screen.aid link.term.display.screen.cells f.turn_reason empty showing.2
          (λ clear. bare_unformatted link.term.display.screen.cells link.term.display.screen.cells 0 (f.sees.bare clear)),
    )
    by_deciding f showing asks lu false shown_now =
        subst (λ (panel : ℕ). AreFieldsAskedIf false (app.fields panel) (question_if app session link.host lu false) link.term.display.screen) (sym (same_asked app link.host link.host.turn_reason shown_now))
        (each_there f showing asks shown_now lu)

    by_agreeing : IsNew (local_state_of (view_of link)) → (lu : List ℕ) (empty : Bool) → is_screen_empty (key_of link.host.turn_reason) ≡ empty
        → AreFieldsAskedIf empty (app.fields (panel_asked app link.host link.host.turn_reason)) (question_if app session link.host lu empty) link.term.display.screen
    by_agreeing n lu true empty = (refl, n.no_fields)
    by_agreeing n lu false shown_now = absurd (later_for link.host.turn_reason shown_now n.turn_reason)

    by_moment : MayAct app link k.wanted → is_ask (decision_on app link.host link.host.turn_reason) ≡ true → (lu : List ℕ)
        → AreFieldsAsked (app.fields (panel_asked app link.host link.host.turn_reason)) (question_on app session link.host lu) link.term.display.screen
    by_moment (MayAct.agreeing mine at n) asks lu = by_agreeing n lu (is_screen_empty (key_of link.host.turn_reason)) refl
    by_moment (MayAct.deciding mine s at f showing) asks lu = by_deciding f showing asks lu (is_screen_empty (key_of link.host.turn_reason)) refl

-- a question is asked where the host is
pub asked_there : (here : Bool) (asked : Option Question) (question : Question) → (if here then asked else None) ≡ Some question → (here ≡ true) × (asked ≡ Some question)
asked_there true asked question is = (refl, is)
asked_there false asked question is = absurd (cc)

pub asked_is_seen : LowerLaws → AlwaysOf AskedIsSeen
asked_is_seen given app serves pool models events is lists few are =
    let world : World = run app events (new_world app serves pool models) in
    let g = run_good given app is events (new_world app serves pool models) are (new_good given app is serves pool models lists) in
    λ number session question terminal asked terminal_is.
    let link : Link = world.link number in
    let there = terminal_attached link.term_here link.term terminal terminal_is in
    let here = asked_there link.host_here (question_in app session link.host) question asked in
    subst (λ (t : TerminalSeen). IsSeen (app.fields question.panel) question t) (sym there.2)
    (asked_seen given app is link (g.links number) there.0 session question here.1)

pub each_is_seen : LowerLaws → AlwaysOf FieldsAreSeen
each_is_seen given app serves pool models events is lists few are =
    let world : World = run app events (new_world app serves pool models) in
    let g = run_good given app is events (new_world app serves pool models) are (new_good given app is serves pool models lists) in
    λ shows number session question terminal asked terminal_is.
    let link : Link = world.link number in
    let there = terminal_attached link.term_here link.term terminal terminal_is in
    let here = asked_there link.host_here (question_in app session link.host) question asked in
    subst (λ (t : TerminalSeen). AreFieldsAsked (app.fields question.panel) question t.screen) (sym there.2)
    (each_asked given app is shows link (g.links number) session question here.1)

-- ---- the screen is the one that was left

pub screens_are_as_left : LowerLaws → Always ScreensAreAsLeft
screens_are_as_left given app serves pool models events is lists few are =
    let world : World = run app events (new_world app serves pool models) in
    let g = run_good given app is events (new_world app serves pool models) are (new_good given app is serves pool models lists) in
    λ number terminal terminal_is.
    let link : Link = world.link number in
    let there = terminal_attached link.term_here link.term terminal terminal_is in
    subst (λ (t : TerminalSeen). IsScreenAsLeft (message_place link.term.display.size) t) (sym there.2) (g.links number).as_left
