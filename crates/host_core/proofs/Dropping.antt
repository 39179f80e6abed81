-- Values that are dropped when a panel is shown fresh: those of fields stay, so what had to grow still has to.
use Rattle.std.proofs.Common.{◌≡◌, ◌≢◌, ◌<◌, ℕ, zero, suc, Bool, if◌then◌else◌, true, false, List, [], ◌∷◌, length, Option, Some, None, refl, ap, sym, subst, ◌∙◌, arith}
use Rattle.std.specs.BTreeMap.{is_at}
use Rattle.std.specs.Cmp.{ranks}
use Rattle.std.specs.Map.{remove_entry}
use Rattle.std.specs.Ordering.{MatchOrdering, is_eq, nat_cmp}
use Rattle.std.specs.Prelude.{cond, slice_get, unwrap_or}
use Rattle.std.specs.declared.cmp.Ordering.{Ordering}
use Rattle.std.specs.declared.cmp.Ordering.TheVariants.{Less, Equal, Greater}
use Rattle.shadow.specs.Belief.{Shadow}
use Rattle.panels.specs.Panel.{PanelParts, Panels, ValuesAreApart}
use Rattle.panels.specs.Screen.{Values, is_fresh}
use Rattle.panels.specs.Values.{HasToGrow, set_if, value_of, without_values}
use Rattle.panels.specs.declared.message.Message.{Message}
use Rattle.panels.specs.declared.panel.Field.{Field}
use Rattle.panels.specs.declared.panel.Value.{Value}
use Rattle.host_core.specs.Acts.{learned, text_known, values_shown}
use Rattle.host_core.specs.Application.{Application, no_panel, panel_at}
use Rattle.host_core.specs.Choices.{values_with}
use Rattle.host_core.specs.Does.{Grow}
use Rattle.host_core.specs.Session.{Session}
use Rattle.host_core.proofs.Learned.{set_there}

-- ---- a value that is removed leaves the others

other_order : (order : Ordering) (n k : ℕ) → MatchOrdering order (n < k) (n ≡ k) (k < n) → n ≢ k → is_eq order ≡ false
other_order Less n k is differ = refl
other_order Equal n k is differ = absurd (differ is)
other_order Greater n k is differ = refl

removed_by : (order : Ordering) (entry : ℕ × List ℕ) (values : Values) (k n : ℕ) → MatchOrdering order (k < entry.0) (k ≡ entry.0) (entry.0 < k) → n ≢ k
    → value_of (remove_entry (is_at (nat_cmp k)) values) n ≡ value_of values n
    → value_of (cond (is_eq order) values (entry ∷ remove_entry (is_at (nat_cmp k)) values)) n ≡ value_of (entry ∷ values) n
removed_by Less entry values k n is differ rest = ap (λ (found : Option (List ℕ)). cond (is_eq (nat_cmp n entry.0)) (Some entry.1) found) rest
removed_by Equal entry values k n is differ rest =
    let none = other_order (nat_cmp n entry.0) n entry.0 (ranks n entry.0) (λ same. differ (same ∙ sym is)) in
    sym (ap (λ (b : Bool). cond b (Some entry.1) (value_of values n)) none)
removed_by Greater entry values k n is differ rest = ap (λ (found : Option (List ℕ)). cond (is_eq (nat_cmp n entry.0)) (Some entry.1) found) rest

removed : (values : Values) (k n : ℕ) → n ≢ k → value_of (remove_entry (is_at (nat_cmp k)) values) n ≡ value_of values n
removed [] k n differ = refl
removed (entry ∷ values) k n differ = removed_by (nat_cmp k entry.0) entry values k n (ranks k entry.0) differ (removed values k n differ)

stays : (shown : List Value) (values : Values) (n : ℕ) → ((j : ℕ) (value : Value) → slice_get shown j ≡ Some value → n ≢ value.number)
    → value_of (without_values shown values) n ≡ value_of values n
stays [] values n none = refl
stays (value ∷ shown) values n none =
    stays shown (remove_entry (is_at (nat_cmp value.number)) values) n (λ j other at_j. none (suc j) other at_j) ∙ removed values value.number n (none zero value refl)

-- ---- what grows when texts are learned is a field's

abbrev IsOfField : List Field → ℕ → Type 0
IsOfField fields n = (k : ℕ) × (field : Field) × (slice_get fields k ≡ Some field) × (n ≡ field.number)

later : (field : Field) (fields : List Field) (n : ℕ) → IsOfField fields n → IsOfField (field ∷ fields) n
later field fields n (k, one, at_k, same) = (suc k, one, at_k, same)

grown_by : (order : Ordering) (known : Option (List ℕ)) (field : Field) (fields : List Field) (values : Values) (n : ℕ)
    → MatchOrdering order (n < field.number) (n ≡ field.number) (field.number < n)
    → (value_of (set_if field.number known values) n ≡ value_of values n → IsOfField fields n) → IsOfField (field ∷ fields) n
grown_by Less known field fields values n is rest =
    let differ : n ≢ field.number = λ same. omega arith in
    later field fields n (rest (set_there known field.number n values differ))
grown_by Equal known field fields values n is rest = (zero, field, refl, is)
grown_by Greater known field fields values n is rest =
    let differ : n ≢ field.number = λ same. omega arith in
    later field fields n (rest (set_there known field.number n values differ))

never : (values : Values) (n : ℕ) (text : List ℕ) → value_of values n ≡ Some text → ¬ HasToGrow (value_of values n) text
never values n text is grows =
    let more : length text < length text = subst (λ (value : Option (List ℕ)). HasToGrow value text) is grows in
    omega arith

grown : (shadow : Shadow) (fields : List Field) (values : Values) (n : ℕ) (text : List ℕ) → value_of (learned shadow fields values) n ≡ Some text
    → HasToGrow (value_of values n) text → IsOfField fields n
grown shadow [] values n text is grows = absurd (never values n text is grows)
grown shadow (field ∷ fields) values n text is grows =
    let known = text_known shadow field in
    grown_by (nat_cmp n field.number) known field fields values n (ranks n field.number)
    (λ same. grown shadow fields (set_if field.number known values) n text is (subst (λ (value : Option (List ℕ)). HasToGrow value text) (sym same) grows))

-- ---- and has to grow still

-- holds if no field of the first list has the number of a value of the second
abbrev pub AreApart : List Field → List Value → Type 0
AreApart fields shown = (i j : ℕ) (field : Field) (value : Value) → slice_get fields i ≡ Some field → slice_get shown j ≡ Some value
    → field.number ≢ value.number

grows_without : (conn : Session) (fields : List Field) (shown : List Value) → AreApart fields shown → Grow conn.values (learned conn.shadow fields conn.values)
    → Grow conn.values (without_values shown (learned conn.shadow fields conn.values))
grows_without conn fields shown apart (n, text, is, grows) =
    let (k, field, at_k, same) = grown conn.shadow fields conn.values n text is grows in
    (n, text, stays shown (learned conn.shadow fields conn.values) n (λ j value at_j also. apart k j field value at_k at_j (sym same ∙ also)) ∙ is, grows)

if_fresh : (fresh : Bool) (old values left : Values) → (Grow old values → Grow old left) → Grow old values → Grow old (if fresh then left else values)
if_fresh true old values left still grow = still grow
if_fresh false old values left still grow = grow

pub grows_shown : (app : Application) (conn : Session) (learn : Bool) (panel : ℕ) (message : Message) → AreApart (app.fields conn.panel) (app.values panel)
    → Grow conn.values (values_with app conn learn) → Grow conn.values (values_shown app panel message (values_with app conn learn))
grows_shown app conn false panel message apart (n, text, is, grows) = absurd (never conn.values n text is grows)
grows_shown app conn true panel message apart grow =
    let values = learned conn.shadow (app.fields conn.panel) conn.values in
    if_fresh (is_fresh message) conn.values values (without_values (app.values panel) values) (grows_without conn (app.fields conn.panel) (app.values panel) apart) grow

-- ---- the panels of a set

apart_by : (set : Panels) (p q : ℕ) (i j : ℕ) (field : Field) (value : Value) → ValuesAreApart set → (one other : Option PanelParts)
    → slice_get set.panels p ≡ one → slice_get set.panels q ≡ other → slice_get (unwrap_or one no_panel).fields i ≡ Some field
    → slice_get (unwrap_or other no_panel).values j ≡ Some value → field.number ≢ value.number
apart_by set p q i j field value sound None other is also at_i at_j = absurd (cc)
apart_by set p q i j field value sound (Some panel) None is also at_i at_j = absurd (cc)
apart_by set p q i j field value sound (Some panel) (Some other) is also at_i at_j = sound.fields p q i j panel other field value is also at_i at_j

pub are_apart : (set : Panels) (p q : ℕ) → ValuesAreApart set → AreApart (panel_at set p).fields (panel_at set q).values
are_apart set p q sound i j field value at_i at_j =
    apart_by set p q i j field value sound (slice_get set.panels p) (slice_get set.panels q) refl refl at_i at_j
