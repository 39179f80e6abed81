-- One thing put over another.
use Rattle.std.proofs.Common.{◌≡◌, ◌<◌, ◌≤◌, ◌+◌, ◌-◌, ℕ, zero, suc, Bor, List, [], ◌∷◌, length, get_or, set, drop, Bool, true, false, cond, Option, Some, None, refl, ap, sym, subst, ◌∙◌, arith, inl, inr}
use Rattle.std.specs.Prelude.{All, find, codes, is_some, option_copied, IfSome, ◌⊎◌, ◌==◌, ◌≢◌, ◌&&◌, nat_le, nat_lt, unwrap_or, slice_get, slice_index_or}
use Rattle.std.specs.Option.{option_or, option_and_then, option_map_or}
use Rattle.std.proofs.lemmas.List.{drop_more, get_or_append_left, get_or-append_right, get_or-set_same, get_or-set_other, length-set}
use Rattle.std.proofs.lemmas.Bool.{cases_eq}
use Rattle.std.proofs.lemmas.Option.{slice_get_past, slice_get-get_or, unwrap_or-slice_get}
use Rattle.std.proofs.lemmas.Bool.Decides.{nat_tests}
use Rattle.codes3270.specs.Size.{ScreenSize, cells_in}
use Rattle.codes3270.specs.CodePage.{code_of}
use Rattle.codes3270.specs.declared.attribute.Attr.{Attr}
use Rattle.datastream.specs.Wanted.{WantedScreen}
use Rattle.datastream.specs.declared.wanted.Want.{Want}
use Rattle.datastream.specs.declared.wanted.Want.TheVariants as want
use Rattle.panels.specs.declared.message.Message.{Message}
use Rattle.panels.specs.declared.message.Message.TheVariants.{Fresh, Plain, KeyNotActive, Required, Told}
use Rattle.panels.specs.declared.panel.Field.{Field}
use Rattle.panels.specs.declared.panel.TextItem.{TextItem}
use Rattle.panels.specs.declared.extent.Extent.{Extent}
use Rattle.panels.specs.Size.{message_start}
use Rattle.panels.specs.Panel.{PanelParts, IsAbove, IsLaidOut, size_of}
use Rattle.panels.specs.Screen.{Values, item_cell, autoskip_attr, field_numbered, first_some, text_cell, field_cell, stopper_cell, coded, message_text, field_meant, wanted_cell, wanted_cursor}
use Rattle.panels.specs.Put.{ArePut, IsPut, FitsOn, field_spoken, row_cell, text_with}
use Rattle.panels.proofs.Placing.{cells_some, start_before_end}

pub over : {X : Type 0} (one other : Option X) (under : X) → unwrap_or (option_or one other) under ≡ unwrap_or one (unwrap_or other under)
over None other under = refl
over (Some x) other under = refl

-- ---- one of a list over those behind it

fits_on : (extent : Extent) (shape : ScreenSize) → IsAbove shape extent → message_start shape < cells_in shape → FitsOn shape extent
fits_on extent shape above before = before_end (extent.first + extent.length) (message_start shape) (cells_in shape) above before
  where
    before_end : (end start cells : ℕ) → end ≤ start → start < cells → end < cells
    before_end end start cells above before = omega arith

pub put_back : {X : Type 0} (find : ℕ → X → Option Want) (xs : List X) (n : ℕ) (x : X) (base old new : WantedScreen) → 0 < n → n ≤ length xs → x ≡ get_or xs (n - 1) x
    → IsPut (λ cell. first_some (find cell) (drop n xs)) base old → IsPut (λ cell. find cell x) old new
    → IsPut (λ cell. first_some (find cell) (drop (n - 1) xs)) base new
put_back find xs n x base old new some fits is before now = (
  now.0 ∙ before.0,
  λ cell default below.
      let within : n - 1 < length xs = omega arith in
      let up : n - 1 + 1 ≡ n = omega arith in
      let step : drop (n - 1) xs ≡ x ∷ drop n xs = drop_more xs (n - 1) x within ∙ ap (λ y. y ∷ drop (n - 1 + 1) xs) (sym is) ∙ ap (λ m. x ∷ drop m xs) up in
      now.1 cell default (subst (λ s. cell < cells_in s) (sym before.0) below) ∙ ap (unwrap_or (find cell x)) (before.1 cell default below)
      ∙ sym (over (find cell x) (first_some (find cell) (drop n xs)) (get_or base.cells cell default))
      ∙ ap (λ ys. unwrap_or (first_some (find cell) ys) (get_or base.cells cell default)) (sym step),
)

-- where all things of a list fit, the one at a place does
pub fits_at : {X : Type 0} (extent : X → Extent) (shape other : ScreenSize) (xs : List X) (n : ℕ) (x : X) → other ≡ shape → All (λ y. FitsOn shape (extent y)) xs → 0 < n → n ≤ length xs
    → x ≡ get_or xs (n - 1) x → FitsOn other (extent x)
fits_at extent shape other xs n x same all some fits is =
    let within : n - 1 < length xs = omega arith in
    subst (λ s. FitsOn s (extent x)) (sym same) (subst (λ y. FitsOn shape (extent y)) (sym is) (all (n - 1) x within))

-- what lies above the row for messages fits on the screen
pub all_fit : {X : Type 0} (extent : X → Extent) (panel : PanelParts) (shape : ScreenSize) (xs : List X) → shape ≡ size_of panel → All (λ x. IsAbove (size_of panel) (extent x)) xs
    → All (λ x. FitsOn shape (extent x)) xs
all_fit extent panel shape xs same all = λ k d below.
    subst (λ s. FitsOn s (extent (get_or xs k d))) (sym same)
    (fits_on (extent (get_or xs k d)) (size_of panel) (all k d below) (start_before_end (size_of panel) (cells_some panel.model)))

-- ---- cell after cell

-- the first cells from a place on
abbrev pub some_from : ℕ → ℕ → (ℕ → Want) → ℕ → Option Want
some_from start n f cell = cond (nat_le start cell && nat_lt cell (start + n)) (Some (f (cell - start))) None

abbrev pub IsPutFrom : ℕ → ℕ → (ℕ → Want) → WantedScreen → WantedScreen → Type 0
IsPutFrom start n f old new = IsPut (some_from start n f) old new

if_true : {X : Type 0} (b : Bool) (x y : X) → b ≡ true → cond b x y ≡ x
if_true b x y is = rw is refl

if_false : {X : Type 0} (b : Bool) (x y : X) → b ≡ false → cond b x y ≡ y
if_false b x y is = rw is refl

last_within : (start n cell : ℕ) → cell ≡ start + n → (nat_le start cell && nat_lt cell (start + (n + 1))) ≡ true
last_within start n cell is = grind (arith, nat_tests)

others_within : (start n cell : ℕ) → cell ≢ start + n → (nat_le start cell && nat_lt cell (start + (n + 1))) ≡ (nat_le start cell && nat_lt cell (start + n))
others_within start n cell is = grind (arith, nat_tests)

put_more : (size start n : ℕ) (f : ℕ → Want) (base old : List Want) → length old ≡ size → start + n < size
    → ArePut size (some_from start n f) base old → ArePut size (some_from start (n + 1) f) base (set old (start + n) (f n))
put_more size start n f base old long within before cell default below =
    let fits : start + n < length old = omega arith in
    elim (cases_eq cell (start + n)) [
      | inl same ↦
          let distance : cell - start ≡ n = omega arith in
          rw same (get_or-set_same old (start + n) (f n) default fits)
          ∙ ap f (sym distance)
          ∙ ap (λ o. unwrap_or o (get_or base cell default)) (sym (if_true _ (Some (f (cell - start))) None (last_within start n cell same)))
      | inr other ↦
          get_or-set_other old (start + n) cell (f n) default other ∙ before cell default below
          ∙ ap (λ b. unwrap_or (cond b (Some (f (cell - start))) None) (get_or base cell default)) (sym (others_within start n cell other))
    ]

-- a screen on which a cell was put, so that it has all its cells, had them before
size_before : (place : ℕ) (want : Want) (old new : WantedScreen) → new ≡ record old { cells = set old.cells place want } → length new.cells ≡ cells_in new.size
    → length old.cells ≡ cells_in old.size
size_before place want old new is size =
    sym (length-set old.cells place want) ∙ ap length (sym (ap (λ (screen : WantedScreen). screen.cells) is)) ∙ size
    ∙ ap (λ (screen : WantedScreen). cells_in screen.size) is

pub put_next : (start n place : ℕ) (f : ℕ → Want) (base : WantedScreen) (want : Want) (old new : WantedScreen) → place ≡ start + n → want ≡ f n → start + n < cells_in base.size
    → new ≡ record old { cells = set old.cells place want } → length new.cells ≡ cells_in new.size
    → IsPutFrom start n f base old → IsPutFrom start (n + 1) f base new
put_next start n place f base want old new at wants within is size before =
    let cells : new.cells ≡ set old.cells (start + n) (f n) =
    ap (λ (screen : WantedScreen). screen.cells) is ∙ ap (λ p. set old.cells p want) at ∙ ap (set old.cells (start + n)) wants in
    let long : length old.cells ≡ cells_in base.size = size_before place want old new is size ∙ ap cells_in before.0 in (
      ap (λ (screen : WantedScreen). screen.size) is ∙ before.0,
      subst (ArePut (cells_in base.size) (some_from start (n + 1) f) base.cells) (sym cells)
          (put_more (cells_in base.size) start n f base.cells old.cells long within before.1),
    )

nothing_within : (start cell : ℕ) → (nat_le start cell && nat_lt cell (start + 0)) ≡ false
nothing_within start cell = grind (arith, nat_tests)

put_none : (start : ℕ) (f : ℕ → Want) (base : WantedScreen) → IsPutFrom start 0 f base base
put_none start f base = (
  refl,
  λ cell default below. ap (λ o. unwrap_or o (get_or base.cells cell default)) (sym (if_false _ (Some (f (cell - start))) None (nothing_within start cell))),
)

pub put_first : (start : ℕ) (f : ℕ → Want) (want : Want) (old new : WantedScreen) → want ≡ f 0 → start + 0 < cells_in old.size
    → new ≡ record old { cells = set old.cells start want } → length new.cells ≡ cells_in new.size → IsPutFrom start 1 f old new
put_first start f want old new wants within is size = put_next start 0 start f old want old new (omega arith) wants within is size (put_none start f old)

-- ---- the message

pub text_is : (fields : List Field) (message : Message) → text_with (option_map_or (λ field. field.title) (field_spoken fields message) []) message ≡ message_text fields message
text_is fields Fresh = refl
text_is fields Plain = refl
text_is fields KeyNotActive = refl
text_is fields (Required number) = refl
text_is fields (Told text cursor) = refl

if_found : {X : Type 0} (P : X → Type 0) (b : Bool) (x : X) (rest : Option X) → P x → IfSome rest P → IfSome (cond b (Some x) rest) P
if_found P true x rest first more = first
if_found P false x rest first more = more

found_has : {X : Type 0} (P : X → Type 0) (test : X → Bool) (xs : List X) → All P xs → IfSome (find test xs) P
found_has P test [] all = tt
found_has P test (x ∷ xs) all =
    if_found P (test x) x (find test xs) (all 0 x (omega arith)) (found_has P test xs (λ k d below. all (suc k) d (omega (arith, below))))

first_on : (extent : Extent) (start cells : ℕ) → extent.first + extent.length ≤ start → start < cells → extent.first < cells
first_on extent start cells above before = omega (arith, above, before)

place_on : (shape : ScreenSize) (o : Option Field) (cursor : ℕ) → cursor < cells_in shape → message_start shape < cells_in shape → IfSome o (λ field. IsAbove shape field.extent)
    → option_map_or (λ field. field.extent.first) o cursor < cells_in shape
place_on shape None cursor within before above = within
place_on shape (Some field) cursor within before above = first_on field.extent (message_start shape) (cells_in shape) above before

found_above : (panel : PanelParts) (number : Option ℕ) → IsLaidOut panel → IfSome (option_and_then (λ n. field_numbered n panel.fields) number) (λ field. IsAbove (size_of panel) field.extent)
found_above panel None laid = tt
found_above panel (Some number) laid = found_has (λ (field : Field). IsAbove (size_of panel) field.extent) (λ field. field.number == number) panel.fields laid.fields

-- the cursor is on the screen
pub cursor_within : (panel : PanelParts) (message : Message) → IsLaidOut panel → wanted_cursor panel message < cells_in (size_of panel)
cursor_within panel message laid =
    place_on (size_of panel) (option_and_then (λ n. field_numbered n panel.fields) (field_meant message)) panel.cursor laid.cursor (start_before_end (size_of panel) (cells_some panel.model))
    (found_above panel (field_meant message) laid)

-- what `get` answers of a text
pub got : (text : List ℕ) (i : ℕ) (found : Option (Bor ℕ)) → is_some found ≡ nat_lt i (length text) → IfSome found (λ byte. byte.now ≡ slice_index_or text i byte.now)
    → option_copied found ≡ slice_get text i
got text i None there is = sym (slice_get_past text i (grind (arith, nat_tests)))
got text i (Some byte) there is = ap Some is ∙ sym (slice_get-get_or text i byte.now (grind (arith, nat_tests)))

-- a character of a text, in the host's code
pub coded_at : (text : List ℕ) (i : ℕ) → slice_index_or (coded text) i 0 ≡ unwrap_or (option_and_then code_of (slice_get text i)) 0
coded_at [] i = refl
coded_at (character ∷ text) zero = refl
coded_at (character ∷ text) (suc i) = coded_at text i

-- a message's text, in these two parts
pub silent : (title : List ℕ) (message : Message) (i : ℕ) → (message ≡ Fresh) ⊎ (message ≡ Plain) → slice_index_or (text_with title message) i 0 ≡ 0
silent title message i (inl is) = ap (λ m. slice_index_or (text_with title m) i 0) is
silent title message i (inr is) = ap (λ m. slice_index_or (text_with title m) i 0) is

pub required_first : (title : List ℕ) (number i : ℕ) → i < 10 → slice_index_or (text_with title (Required number)) i 0 ≡ unwrap_or (option_and_then code_of (slice_get (codes "REQUIRED: ") i)) 0
required_first title number i within = get_or_append_left (coded (codes "REQUIRED: ")) title 0 i within ∙ coded_at (codes "REQUIRED: ") i

pub required_rest : (title : List ℕ) (number i : ℕ) → 10 ≤ i → slice_index_or (text_with title (Required number)) i 0 ≡ unwrap_or (slice_get title (i - 10)) 0
required_rest title number i past = get_or-append_right (coded (codes "REQUIRED: ")) title 10 i 0 refl past ∙ sym (unwrap_or-slice_get title (i - 10) 0)

-- the character behind the attribute, and behind so many others
pub character_at : (attr : Attr) (text : List ℕ) (n byte : ℕ) → byte ≡ slice_index_or text n 0 → want.Char byte ≡ item_cell attr text (n + 1)
character_at attr text n byte is =
    let some : (n + 1 == 0) ≡ false = grind (arith, nat_tests) in
    let back : n + 1 - 1 ≡ n = omega arith in
    ap want.Char (is ∙ ap (λ k. slice_index_or text k 0) (sym back)) ∙ sym (if_false (n + 1 == 0) (want.Attr attr) (want.Char (slice_index_or text (n + 1 - 1) 0)) some)

row_range : (start n cell : ℕ) → cell < start + n → (nat_le start cell && nat_lt cell (start + n)) ≡ cond (nat_lt cell start) false true
row_range start n cell below = grind (arith, nat_tests)

turned : {X : Type 0} (b : Bool) (x : X) → cond (cond b false true) (Some x) None ≡ cond b None (Some x)
turned true x = refl
turned false x = refl

pub row_put : (start n : ℕ) (text : List ℕ) (base now : WantedScreen) → start + n ≡ cells_in base.size → IsPutFrom start n (item_cell (autoskip_attr true) text) base now
    → IsPut (row_cell start text) base now
row_put start n text base now whole is = (
  is.0,
  λ cell default below.
      is.1 cell default below
      ∙ ap (λ o. unwrap_or o (get_or base.cells cell default))
      (ap (λ b. cond b (Some (item_cell (autoskip_attr true) text (cell - start))) None) (row_range start n cell (subst (λ m. cell < m) (sym whole) below))
      ∙ turned (nat_lt cell start) (item_cell (autoskip_attr true) text (cell - start))),
)

-- ---- all of them

pub layered : (texts fields message stoppers : Option Want) (null base one two three four : Want) → base ≡ null → one ≡ unwrap_or stoppers base
    → two ≡ unwrap_or message one → three ≡ unwrap_or fields two → four ≡ unwrap_or texts three
    → four ≡ unwrap_or (option_or texts (option_or fields (option_or message stoppers))) null
layered texts fields message stoppers null base one two three four e0 e1 e2 e3 e4 =
    e4 ∙ ap (unwrap_or texts) (e3 ∙ ap (unwrap_or fields) (e2 ∙ ap (unwrap_or message) (e1 ∙ ap (unwrap_or stoppers) e0)))
    ∙ sym (over texts (option_or fields (option_or message stoppers)) null
    ∙ ap (unwrap_or texts) (over fields (option_or message stoppers) null ∙ ap (unwrap_or fields) (over message stoppers null)))

-- a cell of one screen is one of another of its size
pub still : (one other : WantedScreen) (cell : ℕ) → one.size ≡ other.size → cell < cells_in other.size → cell < cells_in one.size
still one other cell same below = subst (λ s. cell < cells_in s) (sym same) below

pub put_all : (panel : PanelParts) (values : Values) (message : Message) (keep : Bool) (title : List ℕ) (texts : List TextItem) (fields : List Field) (base one two three four : WantedScreen)
    → base.size ≡ size_of panel → title ≡ option_map_or (λ field. field.title) (field_spoken panel.fields message) [] → texts ≡ panel.texts → fields ≡ panel.fields
    → ((cell : ℕ) (default : Want) → cell < cells_in base.size → get_or base.cells cell default ≡ want.Char 0)
    → IsPut (λ cell. first_some (stopper_cell cell) fields) base one → IsPut (row_cell (message_start one.size) (text_with title message)) one two
    → IsPut (λ cell. first_some (field_cell values message keep cell) fields) two three → IsPut (λ cell. first_some (text_cell values cell) texts) three four
    → (cell : ℕ) (default : Want) → cell < cells_in (size_of panel) → get_or four.cells cell default ≡ wanted_cell panel values message keep cell
put_all panel values message keep title texts fields base one two three four whole same_title same_texts same_fields nulls stoppers row inputs labels cell default within =
    let below : cell < cells_in base.size = subst (λ s. cell < cells_in s) (sym whole) within in
    let at_one = still one base cell stoppers.0 below in
    let at_two = still two one cell row.0 at_one in
    let at_three = still three two cell inputs.0 at_two in
    let start : message_start one.size ≡ message_start (size_of panel) = ap message_start (stoppers.0 ∙ whole) in
    layered (first_some (text_cell values cell) texts) (first_some (field_cell values message keep cell) fields) (row_cell (message_start one.size) (text_with title message) cell)
    (first_some (stopper_cell cell) fields) (want.Char 0) _ _ _ _ _ (nulls cell default below) (stoppers.1 cell default below) (row.1 cell default at_one)
    (inputs.1 cell default at_two) (labels.1 cell default at_three)
    ∙ ap (λ ts. unwrap_or (option_or (first_some (text_cell values cell) ts) (option_or (first_some (field_cell values message keep cell) fields)
    (option_or (row_cell (message_start one.size) (text_with title message) cell) (first_some (stopper_cell cell) fields)))) (want.Char 0)) same_texts
    ∙ ap (λ fs. unwrap_or (option_or (first_some (text_cell values cell) panel.texts) (option_or (first_some (field_cell values message keep cell) fs)
    (option_or (row_cell (message_start one.size) (text_with title message) cell) (first_some (stopper_cell cell) fs)))) (want.Char 0)) same_fields
    ∙ ap (λ n. unwrap_or (option_or (first_some (text_cell values cell) panel.texts) (option_or (first_some (field_cell values message keep cell) panel.fields)
    (option_or (row_cell n (text_with title message) cell) (first_some (stopper_cell cell) panel.fields)))) (want.Char 0)) start
    ∙ ap (λ text. unwrap_or (option_or (first_some (text_cell values cell) panel.texts) (option_or (first_some (field_cell values message keep cell) panel.fields)
    (option_or (row_cell (message_start (size_of panel)) text cell) (first_some (stopper_cell cell) panel.fields)))) (want.Char 0))
    (ap (λ n. text_with n message) same_title ∙ text_is panel.fields message)
