-- Panels with all their fields marked: they are sound if the panels were, and their screens have MDT on in each input
-- field.
use Rattle.std.proofs.Common.{◌≡◌, ◌==◌, ◌<◌, ◌+◌, ◌-◌, ◌≤◌, ◌++◌, ◌∙◌, ℕ, Bool, true, false, cond, List, [], ◌∷◌, length, map, take, drop, Option, Some, None, refl, sym, ap, arith, subst, not, ◌&&◌, ◌||◌}
use Rattle.std.specs.Prelude.{nat_lt, slice_get, slice_index_or, option_map}
use Rattle.std.specs.Option.{option_or}
use Rattle.std.proofs.lemmas.Bool.{false≢true}
use Rattle.std.proofs.lemmas.List.{append-nil, drop_all, length-map, take_all}
use Rattle.std.proofs.lemmas.List.Elements.{All-map}
use Rattle.std.proofs.lemmas.Option.{none-some, same_Some, cond_some, slice_get-map}
use Rattle.codes3270.specs.declared.attribute.Attr.{Attr}
use Rattle.codes3270.specs.declared.size.Model.{Model}
use Rattle.datastream.specs.declared.wanted.Want.{Want}
use Rattle.datastream.specs.declared.wanted.Want.TheVariants as want
use Rattle.panels.specs.Characters.{AreCharacters}
use Rattle.panels.specs.declared.message.Message.{Message}
use Rattle.panels.specs.declared.panel.Field.{Field}
use Rattle.panels.specs.Size.{message_start}
use Rattle.panels.specs.Panel.{PanelParts, Panels, AreLinked, AreSound, HasItemsApart, HaveNumbersApart, IsAbove, IsLaidOut, IsOfCharacters, IsOtherwise, ShareNoCell, ShowsItsValues, ValuesAreApart, size_of, target_of}
use Rattle.panels.specs.Screen.{Values, autoskip_attr, item_cell, shown, text_cell, field_attr, field_content, kept_cell, field_cell, stopper_cell, message_text, message_cell, first_some, wanted_cell, is_fresh, is_filled, screen_of}
use Rattle.panels.specs.Marked.{marked_field, marked_panel, marked_set, MarkedPanelsReturnInput, MarkedSetsReturnInput, PanelsWithoutFieldsReturnInput, IsInputReturned}
use Rattle.panels.proofs.Answering.{Answers, or_answers, first_answers, mapped_answer, none_given, taken_or}
use Rattle.panels.proofs.KeptFields.{item_answer}
use Rattle.panels.proofs.Screens.{cell_of_screen, cell_within}

-- ---- what is marked, by its index

was_at : {X : Type 0} (f : X → X) (xs : List X) (i : ℕ) (y : X) → slice_get (map f xs) i ≡ Some y → (x : X) × (slice_get xs i ≡ Some x) × (f x ≡ y)
was_at f xs i y there = mapped_answer f (slice_get xs i) y (sym (slice_get-map f xs i) ∙ there)

-- what a loop leaves that marked all, put back over what was lent
pub all_marked : {X : Type 0} (f : X → X) (old lent new : List X) (index len : ℕ) → lent ≡ old → length lent ≡ len → length new ≡ length lent → length lent ≤ index
    → new ≡ map f (take index lent) ++ drop index lent → take len (new ++ drop (length new) old) ≡ map f old
all_marked f old lent new index len same long many end is =
    let whole : new ≡ map f old =
    is ∙ ap (λ rest. map f (take index lent) ++ rest) (drop_all index lent end) ∙ append-nil (map f (take index lent)) ∙ ap (map f) (take_all index lent end ∙ same) in
    let nothing : drop (length new) old ≡ [] = drop_all (length new) old (omega (arith, many, ap length same)) in
    rw (nothing, append-nil new) (take_all len new (omega (arith, many, long)) ∙ whole)

-- ---- panels stay sound

each_panel : (set : Panels) (P Q : PanelParts → Type 0) → ((panel : PanelParts) → P panel → Q (marked_panel panel))
    → ((number : ℕ) (panel : PanelParts) → slice_get set.panels number ≡ Some panel → P panel)
    → (number : ℕ) (panel : PanelParts) → slice_get (marked_set set).panels number ≡ Some panel → Q panel
each_panel set P Q leads each number panel there =
    let (was, at_was, same) = was_at marked_panel set.panels number panel there in
    subst Q same (leads was (each number was at_was))

below_marked : (set : Panels) (n : ℕ) → n < length set.panels → n < length (marked_set set).panels
below_marked set n below = subst (λ k. n < k) (sym (length-map set.panels marked_panel)) below

linked_marked : (set : Panels) → AreLinked set → AreLinked (marked_set set)
linked_marked set linked = record {
  start = below_marked set set.start linked.start;
  targets = λ p panel aid target key there leads.
      let (was, at_was, same) = was_at marked_panel set.panels p panel there in
      below_marked set target (linked.targets p was aid target key at_was (subst (λ q. target_of q aid ≡ Some target) (sym same) leads));
}

otherwise_marked : (panels : List PanelParts) (model : Model) (otherwise : Option ℕ) → IsOtherwise panels model otherwise → IsOtherwise (map marked_panel panels) model otherwise
otherwise_marked panels model None is = is
otherwise_marked panels model (Some q) is =
    let (differs, other, there, base) = is in
    (differs, marked_panel other, slice_get-map marked_panel panels q ∙ ap (option_map marked_panel) there, base)

pub laid_out_marked : (panel : PanelParts) → IsLaidOut panel → IsLaidOut (marked_panel panel)
laid_out_marked panel laid = record {
  texts = laid.texts;
  fields = All-map (λ (field : Field). IsAbove (size_of panel) field.extent) marked_field panel.fields laid.fields;
  cursor = laid.cursor;
}

characters_marked : (panel : PanelParts) → IsOfCharacters panel → IsOfCharacters (marked_panel panel)
characters_marked panel are = record {
  texts = are.texts;
  fills = All-map (λ (field : Field). AreCharacters field.fill) marked_field panel.fields are.fills;
  titles = All-map (λ (field : Field). AreCharacters field.title) marked_field panel.fields are.titles;
}

apart_marked : (panel : PanelParts) → HasItemsApart panel → HasItemsApart (marked_panel panel)
apart_marked panel apart = record {
  texts = apart.texts;
  fields = λ i j one other less at_i at_j cell of_one of_other.
      let (one_was, at_one, same_one) = was_at marked_field panel.fields i one at_i in
      let (other_was, at_other, same_other) = was_at marked_field panel.fields j other at_j in
      subst (λ (field : Field). ShareNoCell one.extent field.extent) same_other
      (subst (λ (field : Field). ShareNoCell field.extent other_was.extent) same_one (apart.fields i j one_was other_was less at_one at_other)) cell of_one of_other;
  both = λ i j text field at_i at_j cell of_text of_field.
      let (was, at_was, same) = was_at marked_field panel.fields j field at_j in
      subst (λ (field : Field). ShareNoCell text.extent field.extent) same (apart.both i j text was at_i at_was) cell of_text of_field;
}

numbers_marked : (fields : List Field) → HaveNumbersApart fields → HaveNumbersApart (map marked_field fields)
numbers_marked fields apart = λ i j one other less at_i at_j same.
    let (one_was, at_one, same_one) = was_at marked_field fields i one at_i in
    let (other_was, at_other, same_other) = was_at marked_field fields j other at_j in
    apart i j one_was other_was less at_one at_other
    (ap (λ (field : Field). field.number) same_one ∙ same ∙ sym (ap (λ (field : Field). field.number) same_other))

values_marked : (set : Panels) → ValuesAreApart set → ValuesAreApart (marked_set set)
values_marked set apart = record {
  values = λ p i j panel one other less there at_i at_j.
      let (was, at_was, same) = was_at marked_panel set.panels p panel there in
      apart.values p i j was one other less at_was (subst (λ q. slice_get q.values i ≡ Some one) (sym same) at_i)
      (subst (λ q. slice_get q.values j ≡ Some other) (sym same) at_j);
  fields = λ p q i j panel other field value at_p at_q at_i at_j equal.
      let (panel_was, at_panel, same_panel) = was_at marked_panel set.panels p panel at_p in
      let (other_was, at_other, same_other) = was_at marked_panel set.panels q other at_q in
      let (field_was, at_field, same_field) = was_at marked_field panel_was.fields i field (subst (λ r. slice_get r.fields i ≡ Some field) (sym same_panel) at_i) in
      apart.fields p q i j panel_was other_was field_was value at_panel at_other at_field (subst (λ r. slice_get r.values j ≡ Some value) (sym same_other) at_j)
      (ap (λ (f : Field). f.number) same_field ∙ equal);
}

pub sound_marked : (set : Panels) → AreSound set → AreSound (marked_set set)
sound_marked set sound = record {
  linked = linked_marked set sound.linked;
  otherwise =
      each_panel set (λ panel. IsOtherwise set.panels panel.model panel.otherwise) (λ panel. IsOtherwise (marked_set set).panels panel.model panel.otherwise)
      (λ panel is. otherwise_marked set.panels panel.model panel.otherwise is) sound.otherwise;
  laid_out = each_panel set IsLaidOut IsLaidOut laid_out_marked sound.laid_out;
  characters = each_panel set IsOfCharacters IsOfCharacters characters_marked sound.characters;
  apart = each_panel set HasItemsApart HasItemsApart apart_marked sound.apart;
  numbers =
      each_panel set (λ panel. HaveNumbersApart panel.fields) (λ panel. HaveNumbersApart panel.fields) (λ panel apart. numbers_marked panel.fields apart) sound.numbers;
  values = values_marked set sound.values;
  shown = each_panel set ShowsItsValues ShowsItsValues (λ panel shows. shows) sound.shown;
}

-- ---- each unprotected attribute has MDT on

abbrev IsReturned : Want → Type 0
IsReturned w = (attribute : Attr) → w ≡ want.Attr attribute → attribute.protected ≡ false → attribute.mdt ≡ true

abbrev IsProtectedOrMarked : Attr → Type 0
IsProtectedOrMarked attribute = attribute.protected ≡ false → attribute.mdt ≡ true

same_attr : (one other : Attr) → want.Attr one ≡ want.Attr other → one ≡ other
same_attr one other is = cc

attr_returned : (attr : Attr) → IsProtectedOrMarked attr → IsReturned (want.Attr attr)
attr_returned attr either = λ attribute is. subst IsProtectedOrMarked (same_attr attr attribute is) either

not_attr : (w : Want) → ((attribute : Attr) → w ≡ want.Attr attribute → ⊥) → IsReturned w
not_attr w never = λ attribute is. absurd (never attribute is)

char_returned : (byte : ℕ) → IsReturned (want.Char byte)
char_returned byte = not_attr (want.Char byte) (λ attribute is. cc)

keep_returned : IsReturned want.Keep
keep_returned = not_attr want.Keep (λ attribute is. cc)

first_returned : (attr : Attr) (later : Want) (b : Bool) → IsProtectedOrMarked attr → IsReturned later → IsReturned (cond b (want.Attr attr) later)
first_returned attr later true either rest = attr_returned attr either
first_returned attr later false either rest = rest

item_returned : (attr : Attr) (content : List ℕ) (distance : ℕ) → IsProtectedOrMarked attr → IsReturned (item_cell attr content distance)
item_returned attr content distance either =
    let char = slice_index_or content (distance - 1) 0 in
    first_returned attr (want.Char char) (distance == 0) either (char_returned char)

kept_returned : (attr : Attr) (distance : ℕ) → IsProtectedOrMarked attr → IsReturned (kept_cell attr distance)
kept_returned attr distance either = first_returned attr want.Keep (distance == 0) either keep_returned

either_returned : (keep : Bool) (attr : Attr) (content : List ℕ) (distance : ℕ) → IsProtectedOrMarked attr
    → IsReturned ((cond keep (kept_cell attr) (item_cell attr content)) distance)
either_returned true attr content distance either = kept_returned attr distance either
either_returned false attr content distance either = item_returned attr content distance either

skipped : (bright : Bool) → IsProtectedOrMarked (autoskip_attr bright)
skipped bright = λ unprotected. absurd (false≢true (sym unprotected))

marked_or : (marked other : Bool) → marked ≡ true → (marked || other) ≡ true
marked_or marked other is = rw is refl

field_marked : (values : Values) (message : Message) (keep : Bool) (field : Field) → field.marked ≡ true → IsProtectedOrMarked (field_attr values message keep field)
field_marked values message keep field is = λ unprotected. marked_or field.marked (not keep && (not (is_fresh message) && is_filled values field)) is

-- all fields of the panel are marked
abbrev AreMarked : PanelParts → Type 0
AreMarked panel = (i : ℕ) (field : Field) → slice_get panel.fields i ≡ Some field → field.marked ≡ true

texts_returned : (panel : PanelParts) (values : Values) (cell : ℕ) → Answers IsReturned (first_some (text_cell values cell) panel.texts)
texts_returned panel values cell =
    first_answers IsReturned (text_cell values cell) panel.texts (λ i text there w is.
    let attr = autoskip_attr text.bright in
    let (has, w_is) = item_answer text.extent (item_cell attr (shown values text.content)) cell w is in
    subst IsReturned (sym w_is) (item_returned attr (shown values text.content) (cell + 1 - text.extent.first) (skipped text.bright)))

abbrev either_cell : Values → Message → Bool → Field → ℕ → Want
either_cell values message keep field = cond keep (kept_cell (field_attr values message keep field)) (item_cell (field_attr values message keep field) (field_content values message field))

fields_returned : (panel : PanelParts) (values : Values) (message : Message) (keep : Bool) (cell : ℕ) → AreMarked panel
    → Answers IsReturned (first_some (field_cell values message keep cell) panel.fields)
fields_returned panel values message keep cell marked =
    first_answers IsReturned (field_cell values message keep cell) panel.fields (λ i field there w is.
    let (has, w_is) = item_answer field.extent (either_cell values message keep field) cell w is in
    subst IsReturned (sym w_is)
    (either_returned keep (field_attr values message keep field) (field_content values message field) (cell + 1 - field.extent.first)
    (field_marked values message keep field (marked i field there))))

message_returned : (panel : PanelParts) (message : Message) (cell : ℕ) → Answers IsReturned (message_cell (message_start (size_of panel)) panel.fields message cell)
message_returned panel message cell = λ w is.
    let start = message_start (size_of panel) in
    let text = message_text panel.fields message in
    let (not_before, w_is) = none_given (nat_lt cell start) (item_cell (autoskip_attr true) text (cell - start)) w is in
    subst IsReturned w_is (item_returned (autoskip_attr true) text (cell - start) (skipped true))

stoppers_returned : (cell : ℕ) (fields : List Field) → Answers IsReturned (first_some (stopper_cell cell) fields)
stoppers_returned cell fields =
    first_answers IsReturned (stopper_cell cell) fields (λ i field there w is.
    subst IsReturned (cond_some (cell == field.extent.first + field.extent.length) (want.Attr (autoskip_attr false)) w is).1
    (attr_returned (autoskip_attr false) (skipped false)))

wanted_returned : (panel : PanelParts) (values : Values) (message : Message) (keep : Bool) (cell : ℕ) → AreMarked panel → IsReturned (wanted_cell panel values message keep cell)
wanted_returned panel values message keep cell marked =
    let texts = first_some (text_cell values cell) panel.texts in
    let fields = first_some (field_cell values message keep cell) panel.fields in
    let row = message_cell (message_start (size_of panel)) panel.fields message cell in
    let stoppers = first_some (stopper_cell cell) panel.fields in
    taken_or IsReturned (option_or texts (option_or fields (option_or row stoppers))) (want.Char 0) (char_returned 0)
    (or_answers IsReturned texts (option_or fields (option_or row stoppers)) (texts_returned panel values cell)
    (or_answers IsReturned fields (option_or row stoppers) (fields_returned panel values message keep cell marked)
    (or_answers IsReturned row stoppers (message_returned panel message cell) (stoppers_returned cell panel.fields))))

input_returned : (panel : PanelParts) (values : Values) (message : Message) (keep : Bool) → AreMarked panel → IsInputReturned (screen_of panel values message keep)
input_returned panel values message keep marked = λ cell attribute is.
    let within = cell_within panel values message keep cell (want.Attr attribute) is in
    wanted_returned panel values message keep cell marked attribute
    (same_Some (wanted_cell panel values message keep cell) (want.Attr attribute) (sym (cell_of_screen panel values message keep cell within) ∙ is))

marked_are : (panel : PanelParts) → AreMarked (marked_panel panel)
marked_are panel = λ i field there.
    let (was, at_was, same) = was_at marked_field panel.fields i field there in
    subst (λ (f : Field). f.marked ≡ true) same refl

pub marked_panels_return : MarkedPanelsReturnInput
marked_panels_return panel values message keep = input_returned (marked_panel panel) values message keep (marked_are panel)

pub marked_sets_return : MarkedSetsReturnInput
marked_sets_return set number panel values message keep there =
    let (was, at_was, same) = was_at marked_panel set.panels number panel there in
    input_returned panel values message keep (subst AreMarked same (marked_are was))

none_are : (fields : List Field) (i : ℕ) (field : Field) → fields ≡ [] → slice_get fields i ≡ Some field → ⊥
none_are [] i field is there = none-some field there
none_are (first ∷ rest) i field is there = absurd (cc)

pub without_fields_return : PanelsWithoutFieldsReturnInput
without_fields_return panel values message keep none =
    input_returned panel values message keep (λ i field there. absurd (none_are panel.fields i field none there))
