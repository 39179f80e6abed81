-- Where a key leads: it is read off the moment in which the host decides.
use Rattle.std.proofs.Common.{◌≡◌, ◌≢◌, ◌⊎◌, inl, inr, ◌&&◌, ◌<◌, ◌≤◌, not, arith, ℕ, zero, suc, Bool, true, false, Option, None, Some, List, [], ◌∷◌, take, refl, ap, sym, subst, ◌∙◌, if◌then◌else◌}
use Rattle.std.specs.Prelude.{⊤, slice_get, unwrap_or}
use Rattle.std.proofs.lemmas.Bool.{and_parts, cases_lt}
use Rattle.std.proofs.lemmas.Option.{same_Some}
use Rattle.codes3270.specs.declared.attention.Aid.{Aid}
use Rattle.codes3270.specs.declared.attention.Aid.TheVariants.{NoAid, Enter, Clear, Pf, Pa}
use Rattle.codes3270.specs.declared.size.Model.{Model}
use Rattle.datastream.specs.Screen.{Screen}
use Rattle.panels.specs.Screen.{Values}
use Rattle.panels.specs.Values.{value_of}
use Rattle.panels.specs.declared.message.Message.{Message}
use Rattle.panels.specs.declared.message.Message.TheVariants.{Fresh, KeyNotActive, Required}
use Rattle.panels.specs.declared.next.Next.{Next}
use Rattle.panels.specs.declared.next.Next.TheVariants.{Go, Ask, Again}
use Rattle.panels.specs.declared.panel.Field.{Field as PanelField}
use Rattle.host_core.specs.Acts.{Act, Decision, check_required, decision_on, first_missing, first_panel, is_blank, is_missing, is_to_be_read, learned, on_empty, on_key}
use Rattle.host_core.specs.Application.{Application, IsApplication}
use Rattle.host_core.specs.Questions.{is_ask, is_asking, is_screen_empty, panel_asked, question_in, question_on}
use Rattle.host_core.specs.Session.{Session, agreed_lu, is_agreed, model_in}
use Rattle.host_core.specs.declared.question.Question.{Question}
use Rattle.host_core.specs.declared.turn_reason.TurnReason.{TurnReason}
use Rattle.host_core.specs.declared.turn_reason.TurnReason.TheVariants as turn_reasons
use Rattle.world3270.specs.model.Link.{Link}
use Rattle.world3270.specs.refinement.Invariant.{ConnectionInvariant, Decides, ShownIn, local_state_of}
use Rattle.world3270.specs.refinement.LowerLaws.{LowerLaws}
use Rattle.world3270.specs.refinement.Phases.{SessionPhase}
use Rattle.world3270.specs.refinement.View.{view_of}
use Rattle.world3270.specs.statement.Asked.{AreFilledIn, IsAskedAbout, IsFieldShown, IsFilledIn, IsKeyAsked, ShowsItsFields, panel_with_keys}
use Rattle.world3270.specs.statement.Leading.{IsFirstLeftBlank, IsLedTo, IsLeftBlank, KeysLeadToOne}
use Rattle.world3270.specs.statement.Showing.{IsKnownIfRead, KnowsItsFields}
use Rattle.world3270.specs.statement.TurnReasons.{IsOccasion}
use Rattle.world3270.proofs.Acting.{MayAct, asking_parts, knows_its, may_act_at, may_act_when}
use Rattle.world3270.proofs.Asked.{field_there, learned_has, question_is}
use Rattle.world3270.proofs.ShownFields.{IsSure, one_stands, sure_then}

-- ---- required fields

-- each of these fields is on the screen, and its text there is its value
abbrev AreGiven : List PanelField → Values → Screen → Type 0
AreGiven panel values screen = (index : ℕ) (field : PanelField) → slice_get panel index ≡ Some field
    → (text : List ℕ) × IsFieldShown field text screen × (value_of values field.number ≡ Some text)

-- whether a required field is missing is whether its value is blank
missing_is : (values : Values) (field : PanelField) (text : List ℕ) → value_of values field.number ≡ Some text → field.required ≡ true → is_missing values field ≡ is_blank text
missing_is values field text value required =
    ap (λ (v : Option (List ℕ)). field.required && is_blank (unwrap_or v [])) value ∙ ap (λ (b : Bool). b && is_blank text) required

filled : (values : Values) (screen : Screen) (field : PanelField) → (text : List ℕ) × IsFieldShown field text screen × (value_of values field.number ≡ Some text)
    → is_missing values field ≡ false → field.required ≡ true → IsFilledIn field screen
filled values screen field given has required =
    record { text = given.0; shown = given.1; filled = sym (missing_is values field given.0 given.2 required) ∙ has }

none_missing : (panel : List PanelField) (values : Values) (screen : Screen) → AreGiven panel values screen → first_missing values panel ≡ None → AreFilledIn panel screen
none_missing [] values screen given none = λ index field at required. absurd (cc)
none_missing (first ∷ panel) values screen given none = by_first (is_missing values first) refl none (none_missing panel values screen (λ i f there. given (suc i) f there))
  where
    each : is_missing values first ≡ false → AreFilledIn panel screen → (index : ℕ) (field : PanelField) → slice_get (first ∷ panel) index ≡ Some field → field.required ≡ true → IsFilledIn field screen
    each is behind zero field at required =
        filled values screen field (given zero field at) (subst (λ (f : PanelField). is_missing values f ≡ false) (same_Some first field at) is) required
    each is behind (suc index) field at required = behind index field at required

    by_first : (b : Bool) → is_missing values first ≡ b → (if b then Some first.number else first_missing values panel) ≡ None → (first_missing values panel ≡ None → AreFilledIn panel screen) → AreFilledIn (first ∷ panel) screen
    by_first true is none rest = absurd (cc)
    by_first false is none rest = each is (rest none)

some_missing : (panel : List PanelField) (values : Values) (screen : Screen) (number : ℕ) → AreGiven panel values screen → first_missing values panel ≡ Some number → IsFirstLeftBlank panel number screen
some_missing [] values screen number given some = absurd (cc)
some_missing (first ∷ panel) values screen number given some = by_first (is_missing values first) refl some (some_missing panel values screen number (λ i f there. given (suc i) f there))
  where
    each : is_missing values first ≡ false → (count : ℕ) → AreFilledIn (take count panel) screen → AreFilledIn (first ∷ take count panel) screen
    each is count earlier zero field at required =
        filled values screen field (given zero field at) (subst (λ (f : PanelField). is_missing values f ≡ false) (same_Some first field at) is) required
    each is count earlier (suc index) field at required = earlier index field at required

    by_first : (b : Bool) → is_missing values first ≡ b → (if b then Some first.number else first_missing values panel) ≡ Some number → (first_missing values panel ≡ Some number → IsFirstLeftBlank panel number screen)
        → IsFirstLeftBlank (first ∷ panel) number screen
    by_first true is some rest =
        let parts = and_parts first.required (is_blank (unwrap_or (value_of values first.number) [])) is in
        let its = given zero first refl in
        record {
          index = zero;
          field = first;
          listed = refl;
          number_is = same_Some first.number number some;
          required = parts.0;
          blank = record { text = its.0; shown = its.1; blank = sym (missing_is values first its.0 its.2 parts.0) ∙ is };
          earlier = λ index field at required. absurd (cc);
        }
    by_first false is some rest =
        let behind = rest some in
        record {
          index = suc behind.index;
          field = behind.field;
          listed = behind.listed;
          number_is = behind.number_is;
          required = behind.required;
          blank = behind.blank;
          earlier = each is behind.index behind.earlier;
        }

-- ---- the decision

-- A decision to show a panel is where the key leads from the panel `from`, and one to ask is about a key on which the application decides.
abbrev pub Leads : Application → Session → Screen → (from : ℕ) → Decision → Type 0
Leads app conn screen from (Decision.Do Act.Read) = ⊤
Leads app conn screen from (Decision.Do (Act.Show asked message keep given)) = IsLedTo app (model_in conn) from screen (app.shown (model_in conn) asked) message keep
Leads app conn screen from Decision.Asks = IsAskedAbout app from screen

module _ (app : Application) (conn : Session) (screen : Screen) where
  other_key : (aid : Aid) (panel : List PanelField) → screen.aid ≡ aid → (aid ≡ Enter → ⊥) → screen.aid ≡ Enter → AreFilledIn panel screen
  other_key aid panel aid_is other enter = absurd (other (sym aid_is ∙ enter))

  not_enter : (aid : Aid) → is_screen_empty aid ≡ true → aid ≡ Enter → ⊥
  not_enter aid empty enter = absurd (let both : false ≡ true = sym (ap is_screen_empty enter) ∙ empty in cc)

  -- while no panel is on the screen
  empty_leads : (aid : Aid) (from start : ℕ) (values : Values) (next : Next) → screen.aid ≡ aid → is_screen_empty aid ≡ true → app.next from aid ≡ next → app.shown (model_in conn) start ≡ from
      → Leads app conn screen from (on_empty start values next)
  empty_leads aid from start values Again aid_is empty next_is form = IsLedTo.same_fresh (ap (app.next from) aid_is ∙ next_is) (ap is_screen_empty aid_is ∙ empty) form refl refl
  empty_leads aid from start values (Go to) aid_is empty next_is form =
      IsLedTo.target to (ap (app.next from) aid_is ∙ next_is) (other_key aid (app.fields from) aid_is (not_enter aid empty)) refl refl refl
  empty_leads aid from start values Ask aid_is empty next_is form =
      record { asks = ap (app.next from) aid_is ∙ next_is; filled = other_key aid (app.fields from) aid_is (not_enter aid empty) }

  module _ (values : Values) (form : app.shown (model_in conn) conn.panel ≡ conn.panel) (given : AreGiven (app.fields conn.panel) values screen) where
    abbrev LeadsHere : Decision → Type 0
    LeadsHere decision = Leads app conn screen conn.panel decision

    -- a required field that is left blank goes first
    once_filled : (decision : Decision) → screen.aid ≡ Enter → app.next conn.panel screen.aid ≢ Again → ((screen.aid ≡ Enter → AreFilledIn (app.fields conn.panel) screen) → LeadsHere decision)
        → LeadsHere (check_required conn.panel decision values (first_missing values (app.fields conn.panel)))
    once_filled decision enter leads leads_on = by_missing (first_missing values (app.fields conn.panel)) refl
      where
        by_missing : (missing : Option ℕ) → first_missing values (app.fields conn.panel) ≡ missing → LeadsHere (check_required conn.panel decision values missing)
        by_missing None missing = leads_on (λ it. none_missing (app.fields conn.panel) values screen given missing)
        by_missing (Some number) missing = IsLedTo.required number enter leads (some_missing (app.fields conn.panel) values screen number given missing) form refl refl

    -- the target is shown, or the application is asked
    goes : (aid : Aid) (to : ℕ) → screen.aid ≡ aid → app.next conn.panel aid ≡ Go to → (screen.aid ≡ Enter → AreFilledIn (app.fields conn.panel) screen) → LeadsHere (Decision.Do (Act.Show to Fresh false values))
    goes aid to aid_is next_is fills = IsLedTo.target to (ap (app.next conn.panel) aid_is ∙ next_is) fills refl refl refl

    asks_it : (aid : Aid) → screen.aid ≡ aid → app.next conn.panel aid ≡ Ask → (screen.aid ≡ Enter → AreFilledIn (app.fields conn.panel) screen) → LeadsHere Decision.Asks
    asks_it aid aid_is next_is fills = record { asks = ap (app.next conn.panel) aid_is ∙ next_is; filled = fills }

    -- on a panel that is on the screen
    key_leads : (aid : Aid) (next : Next) → screen.aid ≡ aid → is_screen_empty aid ≡ false → app.next conn.panel aid ≡ next → LeadsHere (on_key app conn values aid next)
    key_leads aid Again aid_is full next_is = IsLedTo.not_active (ap (app.next conn.panel) aid_is ∙ next_is) (ap is_screen_empty aid_is ∙ full) form refl refl
    key_leads Enter (Go to) aid_is full next_is =
        once_filled (Decision.Do (Act.Show to Fresh false values)) aid_is (λ none. absurd (let both : Go to ≡ Again = sym next_is ∙ sym (ap (app.next conn.panel) aid_is) ∙ none in cc)) (goes Enter to aid_is next_is)
    key_leads (Pf key) (Go to) aid_is full next_is = goes (Pf key) to aid_is next_is (other_key (Pf key) (app.fields conn.panel) aid_is (λ enter. absurd (cc)))
    key_leads (Pa key) (Go to) aid_is full next_is = goes (Pa key) to aid_is next_is (other_key (Pa key) (app.fields conn.panel) aid_is (λ enter. absurd (cc)))
    key_leads NoAid (Go to) aid_is full next_is = absurd (cc)
    key_leads Clear (Go to) aid_is full next_is = absurd (cc)
    key_leads Enter Ask aid_is full next_is =
        once_filled Decision.Asks aid_is (λ none. absurd (let both : Ask ≡ Again = sym next_is ∙ sym (ap (app.next conn.panel) aid_is) ∙ none in cc)) (asks_it Enter aid_is next_is)
    key_leads (Pf key) Ask aid_is full next_is = asks_it (Pf key) aid_is next_is (other_key (Pf key) (app.fields conn.panel) aid_is (λ enter. absurd (cc)))
    key_leads (Pa key) Ask aid_is full next_is = asks_it (Pa key) aid_is next_is (other_key (Pa key) (app.fields conn.panel) aid_is (λ enter. absurd (cc)))
    key_leads NoAid Ask aid_is full next_is = absurd (cc)
    key_leads Clear Ask aid_is full next_is = absurd (cc)

-- a question names the panel whose keys count
names_it : (app : Application) (conn : Session) (reason : TurnReason) (aid : Aid) → IsOccasion reason aid → panel_asked app conn reason ≡ panel_with_keys app conn aid
names_it app conn turn_reasons.Agreement aid occasion = sym (ap (panel_with_keys app conn) occasion)
names_it app conn turn_reasons.Refusal aid occasion = absurd occasion
names_it app conn turn_reasons.Restoration aid occasion = absurd occasion
names_it app conn (turn_reasons.Key pressed buffered) aid occasion = by_aid pressed occasion.0
  where
    by_aid : (key : Aid) → key ≡ aid → conn.panel ≡ panel_with_keys app conn aid
    by_aid NoAid is = absurd (occasion.1 (sym is))
    by_aid Enter is = ap (panel_with_keys app conn) is
    by_aid Clear is = ap (panel_with_keys app conn) is
    by_aid (Pf key) is = ap (panel_with_keys app conn) is
    by_aid (Pa key) is = ap (panel_with_keys app conn) is

-- ---- the moment

module _ (given : LowerLaws) (app : Application) (is : IsApplication app) (shows : ShowsItsFields app) (again : (model : Model) (panel : ℕ) → app.shown model (app.shown model panel) ≡ app.shown model panel) (link : Link)
    (k : ConnectionInvariant app (view_of link)) where
  abbrev conn : Session
  conn = link.host

  abbrev screen : Screen
  screen = link.term.display.screen

  abbrev LeadsFrom : ℕ → TurnReason → Type 0
  LeadsFrom from reason = Leads app conn screen from (decision_on app conn reason)

  -- the panel is one in the form for the terminal's model
  in_form : KnowsItsFields app conn → app.shown (model_in conn) conn.panel ≡ conn.panel
  in_form knows = ap (app.shown (model_in conn)) knows.shown ∙ again (model_in conn) knows.earlier ∙ sym knows.shown

  first_leads : screen.aid ≡ NoAid → LeadsFrom (first_panel app conn) turn_reasons.Agreement
  first_leads aid_is = empty_leads app conn screen NoAid (first_panel app conn) app.start conn.values (app.next (first_panel app conn) NoAid) aid_is refl refl refl

  -- the texts of the fields are known, once the screen needn't be read
  module _ (f : Decides (local_state_of (view_of link)) conn.shadow)
      (showing : ShownIn app link.term.waits conn link.term.display.before_restored link.term.display.last_restored screen SessionPhase.Deciding) (later : conn.turn_reason ≡ turn_reasons.Agreement → ⊥) where
    texts_given : (screen.aid ≡ Clear → ⊥) → IsSure app conn → AreGiven (app.fields conn.panel) (learned conn.shadow (app.fields conn.panel) conn.values) screen
    texts_given uncleared sure = λ index field at.
        let there = field_there app is shows link k f (showing.0 later) uncleared index field at sure in
        (there.0, there.2, learned_has conn.shadow (app.fields conn.panel) conn.values index field there.0 (shows.numbers conn.panel) at there.1)

    unread_leads : (aid : Aid) (buffered read : Bool) → screen.aid ≡ aid → is_screen_empty aid ≡ false → (read ≡ false → IsSure app conn)
        → Leads app conn screen conn.panel (if read then Decision.Do Act.Read else on_key app conn (learned conn.shadow (app.fields conn.panel) conn.values) aid (app.next conn.panel aid))
    unread_leads aid buffered true aid_is full sure = tt
    unread_leads aid buffered false aid_is full sure =
        key_leads app conn screen (learned conn.shadow (app.fields conn.panel) conn.values) (in_form (knows_its given app is link k showing later))
        (texts_given (λ clear. absurd (let both : true ≡ false = sym (ap is_screen_empty clear) ∙ ap is_screen_empty aid_is ∙ full in cc)) (sure refl))
        aid (app.next conn.panel aid) aid_is full refl

    pressed_leads : (aid : Aid) (buffered : Bool) → screen.aid ≡ aid → (aid ≡ NoAid → ⊥) → IsKnownIfRead (turn_reasons.Key aid buffered) conn.shadow → LeadsFrom conn.panel (turn_reasons.Key aid buffered)
    pressed_leads NoAid buffered aid_is some read = absurd (some refl)
    pressed_leads Clear buffered aid_is some read =
        empty_leads app conn screen Clear conn.panel conn.panel conn.values (app.next conn.panel Clear) aid_is refl refl (in_form (knows_its given app is link k showing later))
    pressed_leads Enter buffered aid_is some read = unread_leads Enter buffered (is_to_be_read app conn Enter && not buffered) aid_is refl (sure_then app conn Enter buffered read)
    pressed_leads (Pf key) buffered aid_is some read = unread_leads (Pf key) buffered (is_to_be_read app conn (Pf key) && not buffered) aid_is refl (sure_then app conn (Pf key) buffered read)
    pressed_leads (Pa key) buffered aid_is some read = unread_leads (Pa key) buffered (is_to_be_read app conn (Pa key) && not buffered) aid_is refl (sure_then app conn (Pa key) buffered read)

  by_reason : (reason : TurnReason) → conn.turn_reason ≡ reason → IsOccasion reason screen.aid → Decides (local_state_of (view_of link)) conn.shadow
      → ShownIn app link.term.waits conn link.term.display.before_restored link.term.display.last_restored screen SessionPhase.Deciding → LeadsFrom (panel_asked app conn reason) reason
  by_reason turn_reasons.Agreement reason_is occasion f showing = first_leads occasion
  by_reason turn_reasons.Refusal reason_is occasion f showing = absurd occasion
  by_reason turn_reasons.Restoration reason_is occasion f showing = absurd occasion
  by_reason (turn_reasons.Key aid buffered) reason_is occasion f showing =
      pressed_leads f showing (λ first. absurd (let both = sym first ∙ reason_is in cc)) aid buffered (sym occasion.0) (λ none. occasion.1 (sym occasion.0 ∙ none))
      (subst (λ (r : TurnReason). IsKnownIfRead r conn.shadow) reason_is showing.1)

  pub occasion_now : MayAct app link k.wanted → IsOccasion conn.turn_reason screen.aid
  occasion_now (MayAct.agreeing lu at n) = subst (λ (r : TurnReason). IsOccasion r screen.aid) (sym n.turn_reason) n.aid
  occasion_now (MayAct.deciding lu s at f showing) = f.turn_reason

  pub leads_now : MayAct app link k.wanted → Leads app conn screen (panel_with_keys app conn screen.aid) (decision_on app conn conn.turn_reason)
  leads_now may =
      subst (λ (from : ℕ). LeadsFrom from conn.turn_reason) (names_it app conn conn.turn_reason screen.aid (occasion_now may)) (by_moment may)
    where
      by_moment : MayAct app link k.wanted → LeadsFrom (panel_asked app conn conn.turn_reason) conn.turn_reason
      by_moment (MayAct.agreeing lu at n) = subst (λ (r : TurnReason). LeadsFrom (panel_asked app conn r) r) (sym n.turn_reason) (first_leads n.aid)
      by_moment (MayAct.deciding lu s at f showing) = by_reason conn.turn_reason refl f.turn_reason f showing

-- a decision to ask is about such a key
pub asked_about : (app : Application) (conn : Session) (screen : Screen) (from : ℕ) (decision : Decision) → is_ask decision ≡ true → Leads app conn screen from decision → IsAskedAbout app from screen
asked_about app conn screen from (Decision.Do act) is leads = absurd (cc)
asked_about app conn screen from Decision.Asks is leads = leads

-- ---- an open question

pub key_asked_now : LowerLaws → (app : Application) → IsApplication app → ShowsItsFields app → ((model : Model) (panel : ℕ) → app.shown model (app.shown model panel) ≡ app.shown model panel) → (link : Link)
    → ConnectionInvariant app (view_of link) → (session : ℕ) (question : Question) → question_in app session link.host ≡ Some question → IsKeyAsked app link.host question link.term.display.screen
key_asked_now given app is shows again link k session question asked =
    let conn : Session = link.host in
    let screen : Screen = link.term.display.screen in
    let there = question_is (is_asking app conn) (agreed_lu conn.talk.state) (question_on app session conn) question asked in
    let asks = asking_parts app conn there.0 in
    let when = may_act_when conn.turn conn.pending (is_agreed conn.talk.state) asks.0 in
    let may = may_act_at given app is link k when.0 when.1 when.2 in
    let named : question.panel ≡ panel_with_keys app conn screen.aid =
    ap (λ (q : Question). q.panel) there.3 ∙ names_it app conn conn.turn_reason screen.aid (occasion_now given app is shows again link k may) in
    record {
      panel = named;
      about = subst (λ (panel : ℕ). IsAskedAbout app panel screen) (sym named)
          (asked_about app conn screen (panel_with_keys app conn screen.aid) (decision_on app conn conn.turn_reason) asks.1 (leads_now given app is shows again link k may));
    }

-- ---- a key leads to one panel

-- a field isn't both left blank and filled in
not_both : (field : PanelField) (screen : Screen) → IsLeftBlank field screen → IsFilledIn field screen → ⊥
not_both field screen blank fills =
    absurd (let both : true ≡ false = sym blank.blank ∙ ap is_blank (one_stands field screen blank.text fills.text blank.shown.stands fills.shown.stands) ∙ fills.filled in cc)

taken_at : (panel : List PanelField) (index count : ℕ) (field : PanelField) → index < count → slice_get panel index ≡ Some field → slice_get (take count panel) index ≡ Some field
taken_at [] index count field below at = absurd (cc)
taken_at (first ∷ panel) index zero field below at = absurd (omega (arith, below))
taken_at (first ∷ panel) zero (suc count) field below at = at
taken_at (first ∷ panel) (suc index) (suc count) field below at = taken_at panel index count field (omega (arith, below)) at

one_number : (panel : List PanelField) (screen : Screen) (one other : ℕ) → IsFirstLeftBlank panel one screen → IsFirstLeftBlank panel other screen → one ≡ other
one_number panel screen one other first second = by_place (cases_lt first.index second.index)
  where
    by_place : (first.index < second.index) ⊎ (second.index ≤ first.index) → one ≡ other
    by_place (inl below) = absurd (not_both first.field screen first.blank (second.earlier first.index first.field (taken_at panel first.index second.index first.field below first.listed) first.required))
    by_place (inr past) = by_other (cases_lt second.index first.index)
      where
        by_other : (second.index < first.index) ⊎ (first.index ≤ second.index) → one ≡ other
        by_other (inl below) = absurd (not_both second.field screen second.blank (first.earlier second.index second.field (taken_at panel second.index first.index second.field below second.listed) second.required))
        by_other (inr before) =
            let same : first.index ≡ second.index = omega (arith, past, before) in
            let field : first.field ≡ second.field = same_Some first.field second.field (sym first.listed ∙ ap (slice_get panel) same ∙ second.listed) in
            sym first.number_is ∙ ap (λ (f : PanelField). f.number) field ∙ second.number_is

filled_not_blank : (panel : List PanelField) (screen : Screen) (number : ℕ) → AreFilledIn panel screen → IsFirstLeftBlank panel number screen → ⊥
filled_not_blank panel screen number fills first = not_both first.field screen first.blank (fills first.index first.field first.listed first.required)

pub keys_lead_to_one : KeysLeadToOne
keys_lead_to_one app model from screen one other first second keeps keep here there = by_cases here there
  where
    goes_nowhere : (to : ℕ) → app.next from screen.aid ≡ Go to → app.next from screen.aid ≡ Again → ⊥
    goes_nowhere to goes none = absurd (let both : Go to ≡ Again = sym goes ∙ none in cc)

    empty_or_not : is_screen_empty screen.aid ≡ true → is_screen_empty screen.aid ≡ false → ⊥
    empty_or_not empty full = absurd (let both : true ≡ false = sym empty ∙ full in cc)

    alike : (panel : ℕ) (message : Message) (kept : Bool) → one ≡ panel → first ≡ message → keeps ≡ kept → other ≡ panel → second ≡ message → keep ≡ kept → (one ≡ other) × (first ≡ second) × (keeps ≡ keep)
    alike panel message kept p m b q n c = (p ∙ sym q, m ∙ sym n, b ∙ sym c)

    by_cases : IsLedTo app model from screen one first keeps → IsLedTo app model from screen other second keep → (one ≡ other) × (first ≡ second) × (keeps ≡ keep)
    by_cases (IsLedTo.target to goes fills p m b) (IsLedTo.target too goes_too fills_too q n c) =
        let same : to ≡ too = let both : Go to ≡ Go too = sym goes ∙ goes_too in cc in
        alike (app.shown model too) Fresh false (p ∙ ap (app.shown model) same) m b q n c
    by_cases (IsLedTo.target to goes fills p m b) (IsLedTo.required number enter leads missing q n c) = absurd (filled_not_blank (app.fields from) screen number (fills enter) missing)
    by_cases (IsLedTo.target to goes fills p m b) (IsLedTo.not_active none full q n c) = absurd (goes_nowhere to goes none)
    by_cases (IsLedTo.target to goes fills p m b) (IsLedTo.same_fresh none empty q n c) = absurd (goes_nowhere to goes none)
    by_cases (IsLedTo.required number enter leads missing p m b) (IsLedTo.target to goes fills q n c) = absurd (filled_not_blank (app.fields from) screen number (fills enter) missing)
    by_cases (IsLedTo.required number enter leads missing p m b) (IsLedTo.required another enter_too leads_too missing_too q n c) =
        alike from (Required another) true p (m ∙ ap Required (one_number (app.fields from) screen number another missing missing_too)) b q n c
    by_cases (IsLedTo.required number enter leads missing p m b) (IsLedTo.not_active none full q n c) = absurd (leads none)
    by_cases (IsLedTo.required number enter leads missing p m b) (IsLedTo.same_fresh none empty q n c) = absurd (leads none)
    by_cases (IsLedTo.not_active none full p m b) (IsLedTo.target to goes fills q n c) = absurd (goes_nowhere to goes none)
    by_cases (IsLedTo.not_active none full p m b) (IsLedTo.required number enter leads missing q n c) = absurd (leads none)
    by_cases (IsLedTo.not_active none full p m b) (IsLedTo.not_active none_too full_too q n c) = alike from KeyNotActive true p m b q n c
    by_cases (IsLedTo.not_active none full p m b) (IsLedTo.same_fresh none_too empty q n c) = absurd (empty_or_not empty full)
    by_cases (IsLedTo.same_fresh none empty p m b) (IsLedTo.target to goes fills q n c) = absurd (goes_nowhere to goes none)
    by_cases (IsLedTo.same_fresh none empty p m b) (IsLedTo.required number enter leads missing q n c) = absurd (leads none)
    by_cases (IsLedTo.same_fresh none empty p m b) (IsLedTo.not_active none_too full q n c) = absurd (empty_or_not empty full)
    by_cases (IsLedTo.same_fresh none empty p m b) (IsLedTo.same_fresh none_too empty_too q n c) = alike from Fresh false p m b q n c
