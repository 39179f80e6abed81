-- What a host learns of fields, and when their values have to grow.
use Rattle.std.proofs.Common.{◌≡◌, ◌≢◌, ◌<◌, ◌≤◌, ◌+◌, ℕ, zero, suc, Bool, true, false, List, [], ◌∷◌, length, drop, get_or, Option, Some, None, refl, ap, sym, subst, ◌∙◌, arith, lt-ltb, ltb-true}
use Rattle.std.specs.Prelude.{Result, Ok, Err, OnErr, slice_get, ◌||◌, ◌&&◌, unwrap_or, if◌then◌else◌}
use Rattle.std.specs.List.{list_any}
use Rattle.std.specs.Option.{option_map_or, option_or}
use Rattle.std.proofs.lemmas.List.{drop_more}
use Rattle.std.proofs.lemmas.Option.{slice_get_read}
use Rattle.shadow.specs.Belief.{Shadow}
use Rattle.panels.specs.Panel.{HaveNumbersApart}
use Rattle.panels.specs.Screen.{Values}
use Rattle.panels.specs.Values.{HasToGrow, set_if, value_of}
use Rattle.panels.specs.declared.panel.Field.{Field}
use Rattle.panels.proofs.Setting.{put_here, put_there}
use Rattle.host_core.specs.Acts.{first_missing, is_blank, is_missing, learned, text_known}
use Rattle.host_core.specs.Does.{Grow}
use Rattle.host_core.specs.Learning.{is_longer, is_missing_now, needs_room, value_now, HasField, HaveFields}

-- ---- a value that is set

set_here : (known : Option (List ℕ)) (n : ℕ) (values : Values) (text : List ℕ) → known ≡ Some text → value_of (set_if n known values) n ≡ Some text
set_here known n values text is = ap (λ (k : Option (List ℕ)). value_of (set_if n k values) n) is ∙ put_here values n text

pub set_there : (known : Option (List ℕ)) (k n : ℕ) (values : Values) → n ≢ k → value_of (set_if k known values) n ≡ value_of values n
set_there None k n values differ = refl
set_there (Some text) k n values differ = put_there values k n text differ

-- ---- the values that are learned

tail_apart : (field : Field) (fields : List Field) → HaveNumbersApart (field ∷ fields) → HaveNumbersApart fields
tail_apart field fields apart = λ i j one other less at_i at_j. apart (suc i) (suc j) one other (omega arith) at_i at_j

kept : (shadow : Shadow) (fields : List Field) (values : Values) (n : ℕ) → ((k : ℕ) (other : Field) → slice_get fields k ≡ Some other → n ≢ other.number)
    → value_of (learned shadow fields values) n ≡ value_of values n
kept shadow [] values n none = refl
kept shadow (field ∷ fields) values n none =
    kept shadow fields (set_if field.number (text_known shadow field) values) n (λ k other at_k. none (suc k) other at_k)
    ∙ set_there (text_known shadow field) field.number n values (none zero field refl)

learns : (shadow : Shadow) (fields : List Field) (values : Values) (k : ℕ) (one : Field) (text : List ℕ) → HaveNumbersApart fields → slice_get fields k ≡ Some one
    → text_known shadow one ≡ Some text → value_of (learned shadow fields values) one.number ≡ Some text
learns shadow [] values k one text apart at_k known = absurd (cc)
learns shadow (field ∷ fields) values zero one text apart at_k known =
    let same : one ≡ field = cc in
    subst (λ (f : Field). value_of (learned shadow (field ∷ fields) values) f.number ≡ Some text) (sym same)
    (kept shadow fields (set_if field.number (text_known shadow field) values) field.number (λ j other at_j. apart zero (suc j) field other (omega arith) refl at_j)
    ∙ set_here (text_known shadow field) field.number values text (ap (λ (f : Field). text_known shadow f) (sym same) ∙ known))
learns shadow (field ∷ fields) values (suc k) one text apart at_k known =
    learns shadow fields (set_if field.number (text_known shadow field) values) k one text (tail_apart field fields apart) at_k known

-- the value that a field has then
set_or_kept : (known : Option (List ℕ)) (n : ℕ) (values : Values) → value_of (set_if n known values) n ≡ option_or known (value_of values n)
set_or_kept None n values = refl
set_or_kept (Some text) n values = put_here values n text

value_learned : (shadow : Shadow) (fields : List Field) (values : Values) (k : ℕ) (one : Field) → HaveNumbersApart fields → slice_get fields k ≡ Some one
    → value_of (learned shadow fields values) one.number ≡ value_now shadow values one
value_learned shadow [] values k one apart at_k = absurd (cc)
value_learned shadow (field ∷ fields) values zero one apart at_k =
    let same : one ≡ field = cc in
    subst (λ (f : Field). value_of (learned shadow (field ∷ fields) values) f.number ≡ value_now shadow values f) (sym same)
    (kept shadow fields (set_if field.number (text_known shadow field) values) field.number (λ j other at_j. apart zero (suc j) field other (omega arith) refl at_j)
    ∙ set_or_kept (text_known shadow field) field.number values)
value_learned shadow (field ∷ fields) values (suc k) one apart at_k =
    value_learned shadow fields (set_if field.number (text_known shadow field) values) k one (tail_apart field fields apart) at_k
    ∙ ap (λ (value : Option (List ℕ)). option_or (text_known shadow one) value)
    (set_there (text_known shadow field) field.number one.number values (λ same. apart zero (suc k) field one (omega arith) refl at_k (sym same)))

-- the number of the first field that passes a test
abbrev pub first_by : (Field → Bool) → List Field → Option ℕ
first_by test [] = None
first_by test (field ∷ fields) = if test field then Some field.number else first_by test fields

-- the first required field that isn't filled in now is the first that is missing then
missing_among : (shadow : Shadow) (values now : Values) (fields : List Field)
    → ((k : ℕ) (one : Field) → slice_get fields k ≡ Some one → value_of now one.number ≡ value_now shadow values one)
    → first_by (is_missing_now shadow values) fields ≡ first_missing now fields
missing_among shadow values now [] are = refl
missing_among shadow values now (field ∷ fields) are =
    ap (λ (value : Option (List ℕ)). if field.required && is_blank (unwrap_or value []) then Some field.number else first_by (is_missing_now shadow values) fields) (sym (are zero field refl))
    ∙ ap (λ (rest : Option ℕ). if is_missing now field then Some field.number else rest) (missing_among shadow values now fields (λ k one at_k. are (suc k) one at_k))

pub missing_now : (shadow : Shadow) (values : Values) (fields : List Field) → HaveNumbersApart fields
    → first_by (is_missing_now shadow values) fields ≡ first_missing (learned shadow fields values) fields
missing_now shadow values fields apart =
    missing_among shadow values (learned shadow fields values) fields (λ k one at_k. value_learned shadow fields values k one apart at_k)

abbrev IsAt : (Field → Bool) → List Field → Type 0
IsAt test fields = (k : ℕ) × (one : Field) × (slice_get fields k ≡ Some one) × (test one ≡ true)

some_by : (test : Field → Bool) (field : Field) (fields : List Field) (passes : Bool) → test field ≡ passes → (passes || list_any test fields) ≡ true
    → (list_any test fields ≡ true → IsAt test fields) → IsAt test (field ∷ fields)
some_by test field fields true is some rest = (zero, field, refl, is)
some_by test field fields false is some rest = let (k, one, at_k, passes) = rest some in (suc k, one, at_k, passes)

some_at : (test : Field → Bool) (fields : List Field) → list_any test fields ≡ true → IsAt test fields
some_at test [] some = absurd (cc)
some_at test (field ∷ fields) some = some_by test field fields (test field) refl some (some_at test fields)

any_by : (test : Field → Bool) (first : Bool) (rest : Bool) → rest ≡ true → (first || rest) ≡ true
any_by test true rest is = refl
any_by test false rest is = is

any_at : (test : Field → Bool) (fields : List Field) (i : ℕ) (field : Field) → slice_get fields i ≡ Some field → test field ≡ true → list_any test fields ≡ true
any_at test [] i field here passes = absurd (cc)
any_at test (one ∷ fields) zero field here passes =
    let same : one ≡ field = cc in
    ap (λ (b : Bool). b || list_any test fields) (ap test same ∙ passes)
any_at test (one ∷ fields) (suc i) field here passes = any_by test (test one) (list_any test fields) (any_at test fields i field here passes)

-- ---- memory for a text

-- a text is longer than the value, as it is asked
longer_grows : (value : Option (List ℕ)) (text : List ℕ) → is_longer value text ≡ true → HasToGrow value text
longer_grows None text is = tt
longer_grows (Some value) text is = ltb-true (length value) (length text) is

grows_longer : (value : Option (List ℕ)) (text : List ℕ) → HasToGrow value text → is_longer value text ≡ true
grows_longer None text grows = refl
grows_longer (Some value) text grows = lt-ltb (length value) (length text) grows

-- the text that a field needed memory for, as it is asked
pub needs_for : (shadow : Shadow) (values : Values) (field : Field) (text : List ℕ) → Some text ≡ text_known shadow field → HasToGrow (value_of values field.number) text
    → needs_room shadow values field ≡ true
needs_for shadow values field text known grows =
    ap (λ (k : Option (List ℕ)). option_map_or (is_longer (value_of values field.number)) k false) (sym known) ∙ grows_longer (value_of values field.number) text grows

-- what is asked of a field whose text is known, and of another
pub needs_if : (shadow : Shadow) (values : Values) (field : Field) (text : List ℕ) (value : Option (List ℕ)) → Some text ≡ text_known shadow field → value ≡ value_of values field.number
    → is_longer value text ≡ needs_room shadow values field
needs_if shadow values field text value known has =
    ap (λ (v : Option (List ℕ)). is_longer v text) has
    ∙ ap (λ (k : Option (List ℕ)). option_map_or (is_longer (value_of values field.number)) k false) known

pub needs_nothing : (shadow : Shadow) (values : Values) (field : Field) → None ≡ text_known shadow field → false ≡ needs_room shadow values field
needs_nothing shadow values field unknown = ap (λ (k : Option (List ℕ)). option_map_or (is_longer (value_of values field.number)) k false) unknown

needing : (value known : Option (List ℕ)) → option_map_or (is_longer value) known false ≡ true → (text : List ℕ) × (known ≡ Some text) × HasToGrow value text
needing value None is = absurd (cc)
needing value (Some text) is = (text, refl, longer_grows value text is)

-- if a text needs memory, the values grow
pub values_grow : (shadow : Shadow) (fields : List Field) (values : Values) → HaveNumbersApart fields → list_any (needs_room shadow values) fields ≡ true
    → Grow values (learned shadow fields values)
values_grow shadow fields values apart some =
    let (k, one, at_k, needs) = some_at (needs_room shadow values) fields some in
    let (text, known, grows) = needing (value_of values one.number) (text_known shadow one) needs in
    (one.number, text, learns shadow fields values k one text apart at_k known, grows)

-- a text of a field that had no value
some_learned : (shadow : Shadow) (fields : List Field) → HaveNumbersApart fields → list_any (needs_room shadow []) fields ≡ true → learned shadow fields [] ≢ []
some_learned shadow fields apart some =
    let (n, text, is, grows) = values_grow shadow fields [] apart some in
    λ empty. absurd (let nothing : None ≡ Some text = ap (λ (values : Values). value_of values n) (sym empty) ∙ is in cc)

pub texts_want : {T E : Type 0} (result : Result T E) (shadow : Shadow) (fields : List Field) → HaveNumbersApart fields → list_any (needs_room shadow []) fields ≡ true
    → OnErr result (learned shadow fields [] ≢ [])
texts_want (Ok value) shadow fields apart some = tt
texts_want (Err error) shadow fields apart some = some_learned shadow fields apart some

-- ---- one field after another

pub front : (fields : List Field) (i : ℕ) (field : Field) → i < length fields → field ≡ get_or fields i field → drop i fields ≡ field ∷ drop (i + 1) fields
front fields i field within is = drop_more fields i field within ∙ ap (λ (f : Field). f ∷ drop (i + 1) fields) (sym is)

-- the screen has each field's attribute
pub has_at : (shadow : Shadow) (fields : List Field) (i : ℕ) (field : Field) → HaveFields shadow fields → i < length fields → field ≡ get_or fields i field → HasField shadow field
has_at shadow fields i field have within is = subst (HasField shadow) (sym is) (have i field within)

-- a test of fields, up to the one at which it ends
pub any_here : (test : Field → Bool) (fields : List Field) (i : ℕ) (field : Field) → i < length fields → field ≡ get_or fields i field → test field ≡ true
    → list_any test (drop i fields) ≡ true
any_here test fields i field within is holds = ap (list_any test) (front fields i field within is) ∙ ap (λ (b : Bool). b || list_any test (drop (i + 1) fields)) holds

pub any_behind : (test : Field → Bool) (fields : List Field) (i : ℕ) (field : Field) → i < length fields → field ≡ get_or fields i field → test field ≡ false
    → list_any test (drop (i + 1) fields) ≡ list_any test (drop i fields)
any_behind test fields i field within is fails =
    sym (ap (list_any test) (front fields i field within is) ∙ ap (λ (b : Bool). b || list_any test (drop (i + 1) fields)) fails)

-- the same of the first that passes
pub first_here : (test : Field → Bool) (fields : List Field) (i : ℕ) (field : Field) → i < length fields → field ≡ get_or fields i field → test field ≡ true
    → first_by test (drop i fields) ≡ Some field.number
first_here test fields i field within is holds =
    ap (first_by test) (front fields i field within is) ∙ ap (λ (b : Bool). if b then Some field.number else first_by test (drop (i + 1) fields)) holds

pub first_behind : (test : Field → Bool) (fields : List Field) (i : ℕ) (field : Field) → i < length fields → field ≡ get_or fields i field → test field ≡ false
    → first_by test (drop (i + 1) fields) ≡ first_by test (drop i fields)
first_behind test fields i field within is fails =
    sym (ap (first_by test) (front fields i field within is) ∙ ap (λ (b : Bool). if b then Some field.number else first_by test (drop (i + 1) fields)) fails)

-- the fields that are left have the values that they had
pub Untouched : Values → Values → List Field → ℕ → Type 0
Untouched old now fields from = (k : ℕ) (one : Field) → from ≤ k → slice_get fields k ≡ Some one → value_of now one.number ≡ value_of old one.number

pub untouched_first : (values : Values) (fields : List Field) → Untouched values values fields 0
unfolding Untouched
untouched_first values fields = λ k one later at_k. refl

pub still_untouched : (shadow : Shadow) (old now : Values) (fields : List Field) (i : ℕ) (field : Field) → HaveNumbersApart fields → i < length fields → field ≡ get_or fields i field
    → Untouched old now fields i → Untouched old (set_if field.number (text_known shadow field) now) fields (i + 1)
unfolding Untouched
still_untouched shadow old now fields i field apart within is untouched = λ k one later at_k.
    set_there (text_known shadow field) field.number one.number now (λ same. apart i k field one (omega arith) (slice_get_read fields (length fields) i field refl within is) at_k (sym same))
    ∙ untouched k one (omega arith) at_k

-- a field that needs memory at its turn needed it at first
pub needed_at_first : (shadow : Shadow) (old now : Values) (fields : List Field) (i : ℕ) (field : Field) → i < length fields → field ≡ get_or fields i field
    → Untouched old now fields i → needs_room shadow now field ≡ true → list_any (needs_room shadow old) fields ≡ true
unfolding Untouched
needed_at_first shadow old now fields i field within is untouched needs =
    let here : slice_get fields i ≡ Some field = slice_get_read fields (length fields) i field refl within is in
    let same : value_of now field.number ≡ value_of old field.number = untouched i field (omega arith) here in
    let needed : needs_room shadow old field ≡ true =
    ap (λ (v : Option (List ℕ)). option_map_or (is_longer v) (text_known shadow field) false) (sym same) ∙ needs in
    any_at (needs_room shadow old) fields i field here needed
