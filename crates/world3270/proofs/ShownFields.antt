-- The fields of a panel that is shown, read off the screen that was wanted.
use Rattle.std.proofs.Common.{◌≡◌, ◌≢◌, ◌⊎◌, inl, inr, ◌+◌, ◌-◌, ◌<◌, ◌||◌, arith, ℕ, zero, suc, Bool, true, false, Option, None, Some, List, [], ◌∷◌, length, map, refl, ap, sym, subst, ◌∙◌, if◌then◌else◌, not, ◌&&◌}
use Rattle.std.specs.BTreeMap.{insert_entry}
use Rattle.std.specs.List.{Contains, list_any}
use Rattle.std.specs.Ordering.{is_eq, nat_cmp}
use Rattle.std.specs.Prelude.{⊤, cond, is_some, slice_get, slice_index_or, unwrap_or}
use Rattle.std.proofs.lemmas.Bool.{cases_eq}
use Rattle.std.proofs.lemmas.Option.{get_or_from_slice_get, same_Some, slice_get_within}
use Rattle.codes3270.specs.declared.attention.Aid.{Aid}
use Rattle.codes3270.specs.declared.attention.Aid.TheVariants.{NoAid, Enter, Clear, Pf, Pa}
use Rattle.codes3270.specs.declared.attribute.Attr.{Attr}
use Rattle.codes3270.specs.declared.attribute.Cell.{Cell}
use Rattle.codes3270.specs.declared.attribute.Cell.TheVariants.{Char}
use Rattle.datastream.specs.Fields.{Field, fields}
use Rattle.datastream.specs.Inbound.{without_nulls}
use Rattle.datastream.specs.Screen.{Screen, field_text}
use Rattle.datastream.specs.Wanted.{WantedScreen}
use Rattle.datastream.specs.declared.wanted.Want.{Want}
use Rattle.datastream.specs.declared.wanted.Want.TheVariants as want
use Rattle.datastream.proofs.FieldViews.{listed_field}
use Rattle.panels.specs.KeptFields.{IsCharacterOf}
use Rattle.panels.proofs.Setting.{put_here, put_there}
use Rattle.panels.specs.Screen.{Values, field_attr, field_content, is_fresh}
use Rattle.panels.specs.Values.{value_of, with_values, without_values}
use Rattle.panels.specs.declared.extent.Extent.{Extent}
use Rattle.panels.specs.declared.message.Message.{Message}
use Rattle.panels.specs.declared.message.Message.TheVariants.{Fresh, Plain, KeyNotActive, Required, Told}
use Rattle.panels.specs.declared.next.Next.{Next}
use Rattle.panels.specs.declared.next.Next.TheVariants.{Go, Ask, Again}
use Rattle.panels.specs.declared.panel.Field.{Field as PanelField}
use Rattle.shadow.specs.Belief.{Belief, Shadow, fields_of}
use Rattle.shadow.specs.Fits.{fields_fit, is_keep, is_paintable}
use Rattle.shadow.specs.Heard.{after_attention}
use Rattle.shadow.specs.Meets.{Meets}
use Rattle.shadow.specs.Painted.{cells_under, painted_from, plainly_painted}
use Rattle.shadow.specs.Settled.{IsSettled}
use Rattle.shadow.specs.PaintedFields.{HasField, KeptStaysThere, WantsKept, WantsWritten, WrittenIsThere}
use Rattle.shadow.proofs.Keeps.{no_keep, paintable_fits}
use Rattle.shadow.proofs.Paints.{length-under}
use Rattle.host_core.specs.Acts.{Act, Decision, after_key, belief_of, decision_on, first_missing, first_panel, is_in_doubt, is_to_be_read, learned, on_empty, on_key, once_filled_in, known_despite, check_required, may_keep, wanted_by, when_shown, next_after}
use Rattle.host_core.specs.Application.{Application, IsApplication}
use Rattle.host_core.specs.Questions.{act_by, has_value_of, panel_for}
use Rattle.host_core.specs.Session.{Session, model_in}
use Rattle.host_core.specs.Takes.{is_verified}
use Rattle.host_core.specs.declared.question.Answer.{Answer as ApplicationAnswer}
use Rattle.host_core.specs.declared.turn_reason.TurnReason.{TurnReason}
use Rattle.host_core.specs.declared.turn_reason.TurnReason.TheVariants as turn_reasons
use Rattle.host_core.specs.declared.unheard.Unheard.{Unheard}
use Rattle.host_core.specs.declared.unheard.Unheard.TheVariants as unheards
use Rattle.world3270.specs.statement.Asked.{IsFieldText}
use Rattle.world3270.specs.statement.Showing.{IsDecided, IsKnownIfRead, KnowsItsFields, ShowsItsPanel}
use Rattle.world3270.proofs.Acting.{none_whole, wanted_in_a_way}
use Rattle.world3270.proofs.Asked.{IsTextOf, asked_sure, belief_there, learned_has, stands_at, sure_told}
use Rattle.world3270.specs.statement.ShownFields.{AreShown, IsKept, IsWritten, OtherTextsAreNot, ShowsField, ValuesAreShown, WantsItsFields, fitted, is_again}

-- ---- what is kept is shown again

-- an act keeps fields only on a panel that is shown again
abbrev is_again_by : Act → Bool
is_again_by Act.Read = true
is_again_by (Act.Show panel message keep values) = if keep then is_again message else true

abbrev is_again_in : Decision → Bool
is_again_in (Decision.Do act) = is_again_by act
is_again_in Decision.Asks = true

again_filled : (app : Application) (conn : Session) (decision : Decision) (values : Values) (aid : Aid) → is_again_in decision ≡ true → is_again_in (once_filled_in app conn decision values aid) ≡ true
again_filled app conn decision values Enter is = by_missing (first_missing values (app.fields conn.panel))
  where
    by_missing : (missing : Option ℕ) → is_again_in (check_required conn.panel decision values missing) ≡ true
    by_missing None = is
    by_missing (Some field) = refl
again_filled app conn decision values NoAid is = is
again_filled app conn decision values Clear is = is
again_filled app conn decision values (Pf key) is = is
again_filled app conn decision values (Pa key) is = is

again_led : (app : Application) (conn : Session) (values : Values) (aid : Aid) (next : Next) → is_again_in (on_key app conn values aid next) ≡ true
again_led app conn values aid Again = refl
again_led app conn values aid (Go target) = again_filled app conn (Decision.Do (Act.Show target Fresh false values)) values aid refl
again_led app conn values aid Ask = again_filled app conn Decision.Asks values aid refl

again_empty : (panel : ℕ) (values : Values) (next : Next) → is_again_in (on_empty panel values next) ≡ true
again_empty panel values Again = refl
again_empty panel values (Go target) = refl
again_empty panel values Ask = refl

again_key : (app : Application) (conn : Session) (aid : Aid) (buffered : Bool) → is_again_in (after_key app conn aid buffered) ≡ true
again_key app conn aid buffered = by_aid aid
  where
    either : (read : Bool) (led_to : Decision) → is_again_in led_to ≡ true → is_again_in (if read then Decision.Do Act.Read else led_to) ≡ true
    either true led_to is = refl
    either false led_to is = is

    leads : (aid : Aid) → is_again_in (if is_to_be_read app conn aid && not buffered then Decision.Do Act.Read else on_key app conn (learned conn.shadow (app.fields conn.panel) conn.values) aid (next_after app conn.panel aid)) ≡ true
    leads aid =
        either (is_to_be_read app conn aid && not buffered) (on_key app conn (learned conn.shadow (app.fields conn.panel) conn.values) aid (next_after app conn.panel aid))
        (again_led app conn (learned conn.shadow (app.fields conn.panel) conn.values) aid (next_after app conn.panel aid))

    by_aid : (aid : Aid) → is_again_in (after_key app conn aid buffered) ≡ true
    by_aid Clear = again_empty conn.panel conn.values (app.next conn.panel Clear)
    by_aid NoAid = leads NoAid
    by_aid Enter = leads Enter
    by_aid (Pf key) = leads (Pf key)
    by_aid (Pa key) = leads (Pa key)

again_decided : (app : Application) (conn : Session) (reason : TurnReason) → is_again_in (decision_on app conn reason) ≡ true
again_decided app conn turn_reasons.Agreement = again_empty app.start conn.values (app.next (first_panel app conn) NoAid)
again_decided app conn (turn_reasons.Key aid buffered) = again_key app conn aid buffered
again_decided app conn turn_reasons.Refusal = refl
again_decided app conn turn_reasons.Restoration = refl

again_answered : (app : Application) (conn : Session) (said : ApplicationAnswer) (panel : Option ℕ) → is_again_by (act_by app conn said panel) ≡ true
again_answered app conn said None = by_value (has_value_of (app.fields conn.panel) said.values)
  where
    by_value : (has : Bool) → (if not has then true else true) ≡ true
    by_value true = refl
    by_value false = refl
again_answered app conn said (Some panel) = refl

kept_again : (app : Application) (conn : Session) (panel : ℕ) (message : Message) (values : Values) → IsDecided app conn (Act.Show panel message true values) → is_again message ≡ true
kept_again app conn panel message values (IsDecided.by_host is) = sym (ap is_again_in is) ∙ again_decided app conn conn.turn_reason
kept_again app conn panel message values (IsDecided.by_application said asks is) = ap is_again_by is ∙ again_answered app conn said (panel_for app conn said)

not_fresh : (message : Message) → is_again message ≡ true → is_fresh message ≡ false
not_fresh Fresh again = absurd (cc)
not_fresh Plain again = refl
not_fresh KeyNotActive again = refl
not_fresh (Required field) again = refl
not_fresh (Told text field) again = refl

-- ---- texts

length-fitted : (count : ℕ) (text : List ℕ) → length (fitted count text) ≡ count
length-fitted zero text = refl
length-fitted (suc more) [] = ap suc (length-fitted more [])
length-fitted (suc more) (char ∷ text) = ap suc (length-fitted more text)

fitted_at : (count : ℕ) (text : List ℕ) (i : ℕ) → i < count → slice_index_or (fitted count text) i 0 ≡ slice_index_or text i 0
fitted_at zero text i below = absurd (omega (arith, below))
fitted_at (suc more) [] zero below = refl
fitted_at (suc more) [] (suc i) below = fitted_at more [] i (omega (arith, below))
fitted_at (suc more) (char ∷ text) zero below = refl
fitted_at (suc more) (char ∷ text) (suc i) below = fitted_at more text i (omega (arith, below))

-- ---- where a field's cells are

cell_after : (extent : Extent) (i : ℕ) → extent.first - 1 + 1 + i ≡ extent.first + i
cell_after extent i =
    let after = extent.after_attribute in
    omega arith

some_cell : (extent : Extent) → 0 < extent.length
some_cell extent =
    let some = extent.has_cells in
    omega arith

is_character : (extent : Extent) (i : ℕ) → i < extent.length → IsCharacterOf extent (extent.first + i)
is_character extent i below = (omega arith, omega (arith, below))

-- ---- what is kept is known

-- nothing of the panel is in doubt, or the screen was read
abbrev pub IsSure : Application → Session → Type 0
IsSure app conn = (list_any (is_in_doubt conn.shadow) (app.fields conn.panel) ≡ false) ⊎ IsSettled conn.shadow

-- An act that keeps fields shows the same panel again, with the texts that are known as the values of its fields.
record Keeps (app : Application) (conn : Session) (panel : ℕ) (values : Values) : Type 0 where
  again : panel ≡ conn.panel
  learnt : (index : ℕ) (field : PanelField) → slice_get (app.fields conn.panel) index ≡ Some field
      → value_of values field.number ≡ value_of (learned conn.shadow (app.fields conn.panel) conn.values) field.number
  sure : IsSure app conn

abbrev KeepsBy : Application → Session → Act → Type 0
KeepsBy app conn Act.Read = ⊤
KeepsBy app conn (Act.Show panel message keep values) = keep ≡ true → Keeps app conn panel values

abbrev KeepsIn : Application → Session → Decision → Type 0
KeepsIn app conn (Decision.Do act) = KeepsBy app conn act
KeepsIn app conn Decision.Asks = ⊤

unmarked : (b : Bool) → (b && true) ≡ false → b ≡ false
unmarked true e = absurd (cc)
unmarked false e = refl

-- nothing is in doubt, whether the host verifies its terminals or not
unverified : (verified doubted : Bool) → ((verified || doubted) && true) ≡ false → doubted ≡ false
unverified true doubted e = absurd (cc)
unverified false doubted e = unmarked doubted e

module _ (app : Application) (conn : Session) where
  its_values : IsSure app conn → Keeps app conn conn.panel (learned conn.shadow (app.fields conn.panel) conn.values)
  its_values sure = record { again = refl; learnt = λ index field at. refl; sure = sure }

  filled_keeps : (decision : Decision) (aid : Aid) → IsSure app conn → KeepsIn app conn decision → KeepsIn app conn (once_filled_in app conn decision (learned conn.shadow (app.fields conn.panel) conn.values) aid)
  filled_keeps decision Enter sure is = by_missing (first_missing (learned conn.shadow (app.fields conn.panel) conn.values) (app.fields conn.panel))
    where
      by_missing : (missing : Option ℕ) → KeepsIn app conn (check_required conn.panel decision (learned conn.shadow (app.fields conn.panel) conn.values) missing)
      by_missing None = is
      by_missing (Some field) = λ keeps. its_values sure
  filled_keeps decision NoAid sure is = is
  filled_keeps decision Clear sure is = is
  filled_keeps decision (Pf key) sure is = is
  filled_keeps decision (Pa key) sure is = is

  led_keeps : (aid : Aid) (next : Next) → IsSure app conn → KeepsIn app conn (on_key app conn (learned conn.shadow (app.fields conn.panel) conn.values) aid next)
  led_keeps aid Again sure = λ keeps. its_values sure
  led_keeps aid (Go target) sure = filled_keeps (Decision.Do (Act.Show target Fresh false (learned conn.shadow (app.fields conn.panel) conn.values))) aid sure (λ keeps. absurd (cc))
  led_keeps aid Ask sure = filled_keeps Decision.Asks aid sure tt

  empty_keeps : (panel : ℕ) (values : Values) (next : Next) → KeepsIn app conn (on_empty panel values next)
  empty_keeps panel values Again = λ keeps. absurd (cc)
  empty_keeps panel values (Go target) = λ keeps. absurd (cc)
  empty_keeps panel values Ask = tt

  -- once the screen needn't be read
  pub sure_then : (aid : Aid) (buffered : Bool) → IsKnownIfRead (turn_reasons.Key aid buffered) conn.shadow → (is_to_be_read app conn aid && not buffered) ≡ false → IsSure app conn
  sure_then aid true read unread = inr read
  sure_then (Pa key) false read unread = absurd (cc)
  sure_then NoAid false read unread = absurd (cc)
  sure_then Enter false read unread = inl (unverified (is_verified conn) (list_any (is_in_doubt conn.shadow) (app.fields conn.panel)) unread)
  sure_then Clear false read unread = inl (unverified (is_verified conn) (list_any (is_in_doubt conn.shadow) (app.fields conn.panel)) unread)
  sure_then (Pf key) false read unread = inl (unverified (is_verified conn) (list_any (is_in_doubt conn.shadow) (app.fields conn.panel)) unread)

  key_keeps : (aid : Aid) (buffered : Bool) → IsKnownIfRead (turn_reasons.Key aid buffered) conn.shadow → KeepsIn app conn (after_key app conn aid buffered)
  key_keeps aid buffered read = by_aid aid read
    where
      either : (reads : Bool) (led_to : Decision) → (reads ≡ false → KeepsIn app conn led_to) → KeepsIn app conn (if reads then Decision.Do Act.Read else led_to)
      either true led_to is = tt
      either false led_to is = is refl

      leads : (aid : Aid) → IsKnownIfRead (turn_reasons.Key aid buffered) conn.shadow
          → KeepsIn app conn (if is_to_be_read app conn aid && not buffered then Decision.Do Act.Read else on_key app conn (learned conn.shadow (app.fields conn.panel) conn.values) aid (next_after app conn.panel aid))
      leads aid read =
          either (is_to_be_read app conn aid && not buffered) (on_key app conn (learned conn.shadow (app.fields conn.panel) conn.values) aid (next_after app conn.panel aid))
          (λ unread. led_keeps aid (next_after app conn.panel aid) (sure_then aid buffered read unread))

      by_aid : (aid : Aid) → IsKnownIfRead (turn_reasons.Key aid buffered) conn.shadow → KeepsIn app conn (after_key app conn aid buffered)
      by_aid Clear read = empty_keeps conn.panel conn.values (app.next conn.panel Clear)
      by_aid NoAid read = leads NoAid read
      by_aid Enter read = leads Enter read
      by_aid (Pf key) read = leads (Pf key) read
      by_aid (Pa key) read = leads (Pa key) read

  decided_keeps : (reason : TurnReason) → IsKnownIfRead reason conn.shadow → KeepsIn app conn (decision_on app conn reason)
  decided_keeps turn_reasons.Agreement read = empty_keeps app.start conn.values (app.next (first_panel app conn) NoAid)
  decided_keeps (turn_reasons.Key aid buffered) read = key_keeps aid buffered read
  decided_keeps turn_reasons.Refusal read = λ keeps. absurd (cc)
  decided_keeps turn_reasons.Restoration read = λ keeps. absurd (cc)

-- which numbers are equal
is_some_if : (b : Bool) → cond {A = Option (List ℕ)} b (Some []) None ≡ Some [] → b ≡ true
is_some_if true e = refl
is_some_if false e = absurd (cc)

is_none_if : (b : Bool) → cond {A = Option (List ℕ)} b (Some []) None ≡ None → b ≡ false
is_none_if true e = absurd (cc)
is_none_if false e = refl

eq_itself : (k : ℕ) → is_eq (nat_cmp k k) ≡ true
eq_itself k = is_some_if (is_eq (nat_cmp k k)) (put_here [] k [])

eq_other : (n k : ℕ) → n ≢ k → is_eq (nat_cmp n k) ≡ false
eq_other n k differ = is_none_if (is_eq (nat_cmp n k)) (put_there [] k n [] differ)

-- a value that others haven't stays
value_stays : (values others : Values) (number : ℕ) → value_of others number ≡ None → value_of (with_values values others) number ≡ value_of values number
value_stays values [] number none = refl
value_stays values (other ∷ others) number none = by_number (cases_eq number other.0) (value_stays (insert_entry nat_cmp values other.0 other.1) others number)
  where
    by_number : (number ≡ other.0) ⊎ (number ≡ other.0 → ⊥) → (value_of others number ≡ None → value_of (with_values values (other ∷ others)) number ≡ value_of (insert_entry nat_cmp values other.0 other.1) number)
        → value_of (with_values values (other ∷ others)) number ≡ value_of values number
    by_number (inl same) rest =
        absurd (let there : value_of (other ∷ others) number ≡ Some other.1 =
        subst (λ (n : ℕ). value_of (other ∷ others) n ≡ Some other.1) (sym same) (ap (λ (b : Bool). cond b (Some other.1) (value_of others other.0)) (eq_itself other.0)) in
        let both = sym none ∙ there in cc)
    by_number (inr differ) rest =
        let behind : value_of others number ≡ None = sym (ap (λ (b : Bool). cond b (Some other.1) (value_of others number)) (eq_other number other.0 differ)) ∙ none in
        rest behind ∙ put_there values other.0 number other.1 differ

no_value_at : (fields_of_panel : List PanelField) (values : Values) (index : ℕ) (field : PanelField) → has_value_of fields_of_panel values ≡ false → slice_get fields_of_panel index ≡ Some field → value_of values field.number ≡ None
no_value_at [] values index field none at = absurd (cc)
no_value_at (first ∷ others) values zero field none at =
    ap (λ (f : PanelField). value_of values f.number) (sym (same_Some first field at)) ∙ is_none (value_of values first.number) none
  where
    is_none : (value : Option (List ℕ)) → (is_some value || has_value_of others values) ≡ false → value ≡ None
    is_none None e = refl
    is_none (Some text) e = absurd (cc)
no_value_at (first ∷ others) values (suc index) field none at = by_first (value_of values first.number) none (no_value_at others values index field)
  where
    by_first : (value : Option (List ℕ)) → (is_some value || has_value_of others values) ≡ false → (has_value_of others values ≡ false → slice_get others index ≡ Some field → value_of values field.number ≡ None)
        → value_of values field.number ≡ None
    by_first None e rest = rest e at
    by_first (Some text) e rest = absurd (cc)

not_true : (b : Bool) → not b ≡ true → b ≡ false
not_true true e = absurd (cc)
not_true false e = refl

answer_keeps : (app : Application) (conn : Session) (said : ApplicationAnswer) (panel : Option ℕ) → (panel ≡ None → IsSure app conn) → KeepsBy app conn (act_by app conn said panel)
answer_keeps app conn said None sure = λ keeps. record {
  again = refl;
  learnt = λ index field at.
      value_stays (learned conn.shadow (app.fields conn.panel) conn.values) said.values field.number
      (no_value_at (app.fields conn.panel) said.values index field (not_true (has_value_of (app.fields conn.panel) said.values) keeps) at);
  sure = sure refl;
}
answer_keeps app conn said (Some panel) sure = λ keeps. absurd (cc)

act_keeps : (app : Application) (conn : Session) (panel : ℕ) (message : Message) (values : Values) → IsDecided app conn (Act.Show panel message true values) → KnowsItsFields app conn → Keeps app conn panel values
act_keeps app conn panel message values (IsDecided.by_host is) knows = (subst (KeepsIn app conn) is (decided_keeps app conn conn.turn_reason knows.read)) refl
act_keeps app conn panel message values (IsDecided.by_application said asks is) knows =
    (subst (KeepsBy app conn) (sym is) (answer_keeps app conn said (panel_for app conn said) (λ none. asked_sure app conn conn.turn_reason (none_whole app conn said none) knows.read asks))) refl

-- ---- the value of a field that is kept

none_there : (wants : List Want) (cell : ℕ) → list_any is_keep wants ≡ false → slice_get wants cell ≡ Some want.Keep → ⊥
none_there [] cell none at = absurd (cc)
none_there (want.Char byte ∷ wants) zero none at = absurd (cc)
none_there (want.Attr attribute ∷ wants) zero none at = absurd (cc)
none_there (want.Keep ∷ wants) cell none at = absurd (cc)
none_there (want.Char byte ∷ wants) (suc cell) none at = none_there wants cell none at
none_there (want.Attr attribute ∷ wants) (suc cell) none at = none_there wants cell none at

-- where no field was believed none is when a panel is shown
no_field_then : (unheard : Unheard) (shadow : Shadow) → fields_of shadow ≡ [] → fields_of (known_despite unheard shadow) ≡ []
no_field_then unheards.Nothing shadow none = none
no_field_then unheards.Clear shadow none = refl
no_field_then unheards.Input Shadow.NothingKnown none = refl
no_field_then unheards.Input (Shadow.Unformatted known) none = refl
no_field_then unheards.Input (Shadow.Formatted beliefs) none = ap (map after_attention) none

-- and so nothing was kept
keeps_none : (unheard : Unheard) (shadow : Shadow) (wanted : WantedScreen) → fields_of shadow ≡ [] → is_paintable (known_despite unheard shadow) wanted ≡ true → list_any is_keep wanted.cells ≡ false
keeps_none unheard shadow wanted none fits =
    no_keep wanted.cells (subst (λ (beliefs : List Belief). fields_fit beliefs wanted.cells ≡ true) (no_field_then unheard shadow none) (paintable_fits (known_despite unheard shadow) wanted fits))

-- a field of the screen before has a text that is known
text_known_there : (unheard : Unheard) (over : Shadow) (before : Screen) (wanted : WantedScreen) (field : PanelField) (its : Field) (cell : ℕ) → is_paintable (known_despite unheard over) wanted ≡ true → Meets over before → slice_get wanted.cells cell ≡ Some want.Keep
    → HasField before its → its.place ≡ field.extent.first - 1 → IsSettled over → IsTextOf (belief_of over field)
text_known_there unheard Shadow.NothingKnown before wanted field its cell fits meets at there place settled = absurd (none_there wanted.cells cell (keeps_none unheard Shadow.NothingKnown wanted refl fits) at)
text_known_there unheard (Shadow.Unformatted known) before wanted field its cell fits meets at there place settled =
    absurd (none_there wanted.cells cell (keeps_none unheard (Shadow.Unformatted known) wanted refl fits) at)
text_known_there unheard (Shadow.Formatted beliefs) before wanted field its cell fits meets at there place settled =
    belief_there (field.extent.first - 1) beliefs (fields before.cells) there.0 its meets.1 settled there.1 there.2 place

-- a text that stands at a field is that field's
stands_text : (field : PanelField) (text : List ℕ) (screen : Screen) (attribute : Attr) (kept : List ℕ) → IsFieldText field text screen → ShowsField screen field attribute kept → without_nulls kept ≡ text
stands_text field text screen attribute kept stands shows =
    let its : Field = record { place = field.extent.first - 1; attr = attribute; text = kept } in
    let on : Contains (fields screen.cells) stands.on_screen =
    (stands.index, slice_get_within (fields screen.cells) stands.index stands.on_screen stands.listed, get_or_from_slice_get (fields screen.cells) stands.index stands.on_screen stands.on_screen stands.listed) in
    let before = stands.place in
    let place : field.extent.first - 1 ≡ stands.on_screen.place = omega (arith, before) in
    let same : kept ≡ stands.on_screen.text = (listed_field screen.cells its shows).characters ∙ ap (field_text screen.cells) place ∙ sym (listed_field screen.cells stands.on_screen on).characters in
    ap without_nulls same ∙ stands.text_is

-- and it is one text
pub one_stands : (field : PanelField) (screen : Screen) (one other : List ℕ) → IsFieldText field one screen → IsFieldText field other screen → one ≡ other
one_stands field screen one other first second =
    let here = first.place in
    let there = second.place in
    let place : first.on_screen.place ≡ second.on_screen.place = omega (arith, here, there) in
    sym first.text_is ∙ ap without_nulls (text_at first ∙ ap (field_text screen.cells) place ∙ sym (text_at second)) ∙ second.text_is
  where
    text_at : {text : List ℕ} (stands : IsFieldText field text screen) → stands.on_screen.text ≡ field_text screen.cells stands.on_screen.place
    text_at stands =
        (listed_field screen.cells stands.on_screen
        (stands.index, slice_get_within (fields screen.cells) stands.index stands.on_screen stands.listed, get_or_from_slice_get (fields screen.cells) stands.index stands.on_screen stands.on_screen stands.listed)).characters

-- ---- each field is shown

module _ (app : Application) (is : IsApplication app) (wants : WantsItsFields app) (panel : ℕ) (values : Values) (message : Message) (index : ℕ) (field : PanelField) (at : slice_get (app.fields panel) index ≡ Some field) where
  wants_written : WantsWritten (app.screen panel values message false)
      (record { place = field.extent.first - 1; attr = field_attr values message false field; text = fitted field.extent.length (field_content values message field) })
  wants_written =
      let cells = (app.screen panel values message false).cells in
      let content = field_content values message field in
      let size = field.extent.length in
      let ends = wants.ends panel values message false index field at in
      record {
        attribute = wants.attributes panel values message false index field at;
        characters = λ i below.
            let inside : i < size = subst (λ (n : ℕ). i < n) (length-fitted size content) below in
            let distance : field.extent.first + i - field.extent.first ≡ i = omega arith in
            ap (slice_get cells) (cell_after field.extent i)
            ∙ wants.written panel values message index field (field.extent.first + i) at (is_character field.extent i inside)
            ∙ ap (λ (d : ℕ). Some (want.Char (slice_index_or content d 0))) distance
            ∙ ap (λ (c : ℕ). Some (want.Char c)) (sym (fitted_at size content i inside));
        ends = (
          ends.0,
          ap (slice_get cells) (ap (λ (n : ℕ). field.extent.first - 1 + 1 + n) (length-fitted size content) ∙ cell_after field.extent size) ∙ ends.1,
        );
      }

  wants_kept : WantsKept (app.screen panel values message true) (field.extent.first - 1) field.extent.length (field_attr values message true field)
  wants_kept =
      let cells = (app.screen panel values message true).cells in
      let ends = wants.ends panel values message true index field at in
      record {
        attribute_is = wants.attributes panel values message true index field at;
        some = some_cell field.extent;
        characters = λ i below. ap (slice_get cells) (cell_after field.extent i) ∙ wants.kept panel values message index field (field.extent.first + i) at (is_character field.extent i below);
        ends = (ends.0, ap (slice_get cells) (cell_after field.extent field.extent.length) ∙ ends.1);
      }

  is_written : WrittenIsThere → (before screen : Screen) → screen ≡ plainly_painted (app.screen panel values message false) before → IsWritten values message field screen
  is_written written before screen painted =
      let its : Field = record { place = field.extent.first - 1; attr = field_attr values message false field; text = fitted field.extent.length (field_content values message field) } in
      subst (λ (s : Screen). HasField s its) (sym painted) (written (app.screen panel values message false) before its (is.whole panel values message) wants_written)

  is_kept : KeptStaysThere → (waits : Bool) (over : Shadow) (before screen : Screen) → (waits ≡ true → (attribute : Attr) (text : List ℕ) → ShowsField before field attribute text → value_of values field.number ≡ Some (without_nulls text)) → is_again message ≡ true → is_paintable over (app.screen panel values message true) ≡ true → Meets over before
      → screen ≡ plainly_painted (app.screen panel values message true) before → IsKept waits values message field before screen
  is_kept kept waits over before screen value again fits_it meets painted =
      let attribute : Attr = field_attr values message true field in
      let wanted : WantedScreen = app.screen panel values message true in
      let stays = kept over wanted before (field.extent.first - 1) field.extent.length attribute (is.showable panel values message true).cells fits_it meets
      (wants.reset panel values message true ∙ not_fresh message again) wants_kept in
      let its : Field = record { place = field.extent.first - 1; attr = stays.field.attr; text = stays.field.text } in
      let same : stays.field ≡ its = ap (λ (place : ℕ). record { place = place; attr = stays.field.attr; text = stays.field.text }) stays.place_is in
      record {
        attribute = stays.field.attr;
        text = stays.field.text;
        same_attribute = stays.attribute_is;
        same_length = stays.length_is;
        value = λ waiting. value waiting stays.field.attr stays.field.text (subst (λ (f : Field). HasField before f) same stays.was);
        was = subst (λ (f : Field). HasField before f) same stays.was;
        is = subst (λ (s : Screen). HasField s its) (sym painted) (subst (λ (f : Field). HasField (plainly_painted wanted before) f) same stays.is);
      }

pub fields_shown : WrittenIsThere → KeptStaysThere → (app : Application) → IsApplication app → WantsItsFields app → (waits : Bool) (host : Session) (before screen : Screen) → ShowsItsPanel app waits host before screen
    → AreShown waits (app.fields host.panel) host.values host.message before screen
fields_shown written kept app is wants waits host before screen shown = by_keep shown.wanted_for.keep given_is shown.wanted_for.is_decided shown.wanted_for.knows shown.wanted_for.wanted_is
  where
    panel : ℕ
    panel = host.panel

    values : Values
    values = host.values

    message : Message
    message = host.message

    conn : Session
    conn = shown.wanted_for.conn

    in_full : shown.wanted ≡ app.screen panel values message false → AreShown waits (app.fields panel) values message before screen
    in_full is_that =
        AreShown.all_written (λ index field at.
        is_written app is wants panel values message index field at written before screen (shown.is ∙ ap (λ (w : WantedScreen). plainly_painted w before) is_that))

    -- a text is known of the field
    by_sure : (index : ℕ) (field : PanelField) (attribute : Attr) (text : List ℕ) → slice_get (app.fields conn.panel) index ≡ Some field → Meets conn.shadow before → is_paintable (when_shown conn).shadow shown.wanted ≡ true
        → slice_get shown.wanted.cells (field.extent.first + 0) ≡ Some want.Keep → ShowsField before field attribute text → IsSure app conn → IsTextOf (belief_of conn.shadow field)
    by_sure index field attribute text at meets fits_it cell shows (inl sure) = sure_told conn.shadow (app.fields conn.panel) index field sure at
    by_sure index field attribute text at meets fits_it cell shows (inr settled) =
        text_known_there conn.unheard conn.shadow before shown.wanted field (record { place = field.extent.first - 1; attr = attribute; text = text }) (field.extent.first + 0) fits_it meets cell shows refl settled

    -- the values are the texts that were there
    has_values : Keeps app conn shown.wanted_for.asked values → KnowsItsFields app conn → shown.wanted ≡ app.screen panel values message true → (index : ℕ) (field : PanelField) → slice_get (app.fields panel) index ≡ Some field
        → waits ≡ true → (attribute : Attr) (text : List ℕ) → ShowsField before field attribute text → value_of values field.number ≡ Some (without_nulls text)
    has_values keeps knows is_that index field at waiting attribute text shows =
        let same_panel : panel ≡ conn.panel =
        shown.wanted_for.panel_is ∙ ap (λ (p : ℕ). app.shown (model_in conn) p) (keeps.again ∙ knows.shown) ∙ wants.again (model_in conn) knows.earlier ∙ sym knows.shown in
        let at_conn : slice_get (app.fields conn.panel) index ≡ Some field = ap (λ (p : ℕ). slice_get (app.fields p) index) (sym same_panel) ∙ at in
        let meets : Meets conn.shadow before = shown.told waiting in
        let fits_it : is_paintable (when_shown conn).shadow shown.wanted ≡ true = ap (λ (s : Shadow). is_paintable s shown.wanted) (sym shown.wanted_for.over_is) ∙ shown.fits in
        let cell : slice_get shown.wanted.cells (field.extent.first + 0) ≡ Some want.Keep =
        ap (λ (w : WantedScreen). slice_get w.cells (field.extent.first + 0)) is_that ∙ wants.kept panel values message index field (field.extent.first + 0) at (is_character field.extent 0 (some_cell field.extent)) in
        let told : IsTextOf (belief_of conn.shadow field) = by_sure index field attribute text at_conn meets fits_it cell shows keeps.sure in
        let stands : IsFieldText field told.0 before = stands_at conn.shadow before field told.0 meets told.1 in
        keeps.learnt index field at_conn ∙ learned_has conn.shadow (app.fields conn.panel) conn.values index field told.0 (wants.numbers conn.panel) at_conn told.1
        ∙ ap Some (sym (stands_text field told.0 before attribute text stands shows))

    again : Keeps app conn shown.wanted_for.asked values → KnowsItsFields app conn → is_again message ≡ true → shown.wanted ≡ app.screen panel values message true → AreShown waits (app.fields panel) values message before screen
    again keeps knows is_so is_that =
        AreShown.all_kept is_so (λ index field at.
        is_kept app is wants panel values message index field at kept waits shown.over before screen (has_values keeps knows is_that index field at) is_so
        (ap (λ (w : WantedScreen). is_paintable shown.over w) (sym is_that) ∙ shown.fits) shown.meets
        (shown.is ∙ ap (λ (w : WantedScreen). plainly_painted w before) is_that))

    if_fits : (fit : Bool) → Keeps app conn shown.wanted_for.asked values → KnowsItsFields app conn → is_again message ≡ true → shown.wanted ≡ (if fit then app.screen panel values message true else app.screen panel values message false)
        → AreShown waits (app.fields panel) values message before screen
    if_fits true keeps knows is_so is_that = again keeps knows is_so is_that
    if_fits false keeps knows is_so is_that = in_full is_that

    given : Values
    given = shown.wanted_for.given

    -- a panel that is shown again has all of them
    given_is : is_again message ≡ true → given ≡ values
    given_is so = sym (shown.wanted_for.values_are ∙ ap (λ (fresh : Bool). if fresh then without_values (app.values panel) given else given) (not_fresh message so))

    by_keep : (keep : Bool) → (is_again message ≡ true → given ≡ values) → IsDecided app conn (Act.Show shown.wanted_for.asked message keep given) → (keep ≡ true → KnowsItsFields app conn) → shown.wanted ≡ wanted_by app (when_shown conn) panel message keep values
        → AreShown waits (app.fields panel) values message before screen
    by_keep true same decided knows is_that =
        let so = kept_again app conn shown.wanted_for.asked message given decided in
        if_fits (may_keep (when_shown conn) (app.screen panel values message true))
        (subst (Keeps app conn shown.wanted_for.asked) (same so) (act_keeps app conn shown.wanted_for.asked message given decided (knows refl))) (knows refl) so is_that
    by_keep false same decided knows is_that = in_full is_that

-- ---- each value is shown

-- a character that is wanted is on the painted screen
painted_char : (reset : Bool) (whole rest : List Want) (cells : List Cell) (place : ℕ) (byte : ℕ) → length cells ≡ length rest → slice_get rest place ≡ Some (want.Char byte)
    → slice_get (painted_from reset whole rest cells) place ≡ Some (Char byte)
painted_char reset whole [] cells place byte same at = absurd (cc)
painted_char reset whole (first ∷ rest) [] place byte same at = absurd (omega arith)
painted_char reset whole (want.Char char ∷ rest) (there ∷ cells) zero byte same at =
    let is : want.Char char ≡ want.Char byte = cc in
    let equal : char ≡ byte = cc in
    ap (λ (b : ℕ). Some (Char b)) equal
painted_char reset whole (want.Keep ∷ rest) (there ∷ cells) zero byte same at = absurd (cc)
painted_char reset whole (want.Attr attribute ∷ rest) (there ∷ cells) zero byte same at = absurd (cc)
painted_char reset whole (want.Char char ∷ rest) (there ∷ cells) (suc place) byte same at = painted_char reset whole rest cells place byte (omega arith) at
painted_char reset whole (want.Keep ∷ rest) (there ∷ cells) (suc place) byte same at = painted_char reset whole rest cells place byte (omega arith) at
painted_char reset whole (want.Attr attribute ∷ rest) (there ∷ cells) (suc place) byte same at = painted_char reset whole rest cells place byte (omega arith) at

-- a character that the panel's screen has is on the screen that shows it
pub char_shown : (app : Application) (waits : Bool) (host : Session) (before screen : Screen) → ShowsItsPanel app waits host before screen → (cell char : ℕ)
    → ((keep : Bool) → slice_get (app.screen host.panel host.values host.message keep).cells cell ≡ Some (want.Char char)) → slice_get screen.cells cell ≡ Some (Char char)
char_shown app waits host before screen shown cell char has =
    let way = wanted_in_a_way app (when_shown shown.wanted_for.conn) host.panel host.message shown.wanted_for.keep host.values in
    let wanted = shown.wanted in
    let there : slice_get wanted.cells cell ≡ Some (want.Char char) = ap (λ (w : WantedScreen). slice_get w.cells cell) (shown.wanted_for.wanted_is ∙ way.1) ∙ has way.0 in
    ap (λ (s : Screen). slice_get s.cells cell) shown.is
    ∙ painted_char wanted.reset wanted.cells wanted.cells (cells_under (length wanted.cells) before.cells) cell char (length-under (length wanted.cells) before.cells) there

pub values_shown : (app : Application) → WantsItsFields app → (waits : Bool) (host : Session) (before screen : Screen) → ShowsItsPanel app waits host before screen
    → ValuesAreShown (app.values host.panel) host.values screen
values_shown app wants waits host before screen shown = λ index value at cell is.
    char_shown app waits host before screen shown cell (slice_index_or (unwrap_or (value_of host.values value.number) []) (cell - value.extent.first) 0)
    (λ keep. wants.values host.panel host.values host.message keep index value cell at is)

-- ---- the cursor

pub cursor_shown : (app : Application) → WantsItsFields app → (waits : Bool) (host : Session) (before screen : Screen) → ShowsItsPanel app waits host before screen
    → screen.cursor ≡ (app.screen host.panel host.values host.message false).cursor
cursor_shown app wants waits host before screen shown =
    let way = wanted_in_a_way app (when_shown shown.wanted_for.conn) host.panel host.message shown.wanted_for.keep host.values in
    ap (λ (s : Screen). s.cursor) shown.is ∙ ap (λ (w : WantedScreen). w.cursor) (shown.wanted_for.wanted_is ∙ way.1) ∙ either way.0
  where
    either : (keep : Bool) → (app.screen host.panel host.values host.message keep).cursor ≡ (app.screen host.panel host.values host.message false).cursor
    either true = wants.cursor host.panel host.values host.message
    either false = refl

-- ---- no other text is shown

one_text : (screen : Screen) (field : PanelField) (one other : Attr) (text another : List ℕ) → ShowsField screen field one text → ShowsField screen field other another → text ≡ another
one_text screen field one other text another first second =
    let its : Field = record { place = field.extent.first - 1; attr = one; text = text } in
    let also : Field = record { place = field.extent.first - 1; attr = other; text = another } in
    (listed_field screen.cells its first).characters ∙ sym (listed_field screen.cells also second).characters

pub other_texts_are_not : OtherTextsAreNot
other_texts_are_not waits panel values message before screen index field attribute text at shows differs never (AreShown.all_written each) =
    differs (one_text screen field attribute (field_attr values message false field) text (fitted field.extent.length (field_content values message field)) shows (each index field at))
other_texts_are_not waits panel values message before screen index field attribute text at shows differs never (AreShown.all_kept again each) =
    let kept : IsKept waits values message field before screen = each index field at in
    let same : text ≡ kept.text = one_text screen field attribute kept.attribute text kept.text shows kept.is in
    never kept.attribute (subst (λ (t : List ℕ). ShowsField before field kept.attribute t) (sym same) kept.was)
