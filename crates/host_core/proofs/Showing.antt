-- Panels are an application: each screen has the size, with its cursor on it, and keeps nothing where it isn't told to.
use Rattle.std.proofs.Common.{length, drop, ap, sym, subst, ◌∙◌, ◌≡◌, ◌==◌, nat_lt, ◌<◌, ◌≤◌, ◌-◌, ◌+◌, ℕ, zero, suc, Bool, true, false, Option, None, Some, List, [], ◌∷◌, map, refl, arith, if◌then◌else◌, ◌⊎◌, inl, inr}
use Rattle.std.specs.Prelude.{slice_get, slice_index_or, option_map, unwrap_or}
use Rattle.std.specs.List.{list_all, list_any, range_with_len}
use Rattle.std.specs.Option.{option_or, option_map_or}
use Rattle.std.proofs.lemmas.List.Elements.{All-nil}
use Rattle.std.proofs.lemmas.List.FromFn.{length-map-range_with_len, get_or-map-range_with_len}
use Rattle.std.proofs.lemmas.Option.{slice_get-get_or}
use Rattle.codes3270.specs.Size.{ScreenSize, alternate_of, cells_in, model_2}
use Rattle.codes3270.specs.declared.size.Model.{Model}
use Rattle.codes3270.specs.declared.size.Model.TheVariants.{M2, M3, M4, M5}
use Rattle.codes3270.specs.declared.attribute.Attr.{Attr}
use Rattle.datastream.specs.declared.wanted.Want.{Want}
use Rattle.datastream.specs.declared.wanted.Want.TheVariants as want
use Rattle.shadow.specs.Fits.{is_keep}
use Rattle.shadow.specs.TextUnknown.{keeps_whole_fields}
use Rattle.panels.specs.declared.message.Message.{Message}
use Rattle.panels.specs.declared.panel.Field.{Field}
use Rattle.panels.specs.MessageRow.{PanelsLeaveTheRow}
use Rattle.panels.specs.KeptFields.{FieldsAreKeptWhole, NothingElseIsKept, IsOfField}
use Rattle.panels.specs.Panel.{PanelParts, Panels, AreLaidOut, HaveOtherwise, IsAbove, IsLaidOut, IsOtherwise, HasItemsApart, AreApart, is_shown, size_of, shown_in, shown_of}
use Rattle.panels.proofs.Putting.{cursor_within}
use Rattle.panels.specs.Screen.{Values, distance_in, item_cell, autoskip_attr, shown, text_cell, field_attr, field_content, field_cell, stopper_cell, message_text, message_cell, first_some, wanted_cell, screen_of}
use Rattle.panels.specs.Size.{message_start}
use Rattle.host_core.specs.Application.{IsMessageRow, IsValidSize, IsShowable, is_wanted_char, message_place, no_panel, panel_at}
use Rattle.host_core.proofs.KeptWhole.{IsInRun, KeptInRuns, kept_whole}
use Rattle.host_core.specs.Laws.{PanelsAreShown, ScreensAreWanted}

-- ---- cells

-- what isn't Keep, if it is something
abbrev NotKept : Option Want → Type 0
NotKept None = Unit {0}
NotKept (Some cell) = is_keep cell ≡ false

or_kept : (first second : Option Want) → NotKept first → NotKept second → NotKept (option_or first second)
or_kept None second n m = m
or_kept (Some cell) second n m = n

any_kept : {X : Type 0} (find : X → Option Want) → ((x : X) → NotKept (find x)) → (xs : List X) → NotKept (first_some find xs)
any_kept find each [] = tt
any_kept find each (x ∷ xs) = or_kept (find x) (first_some find xs) (each x) (any_kept find each xs)

kept_or_null : (cell : Option Want) → NotKept cell → is_keep (unwrap_or cell (want.Char 0)) ≡ false
kept_or_null None n = refl
kept_or_null (Some cell) n = n

item_kept : (attr : Attr) (content : List ℕ) (distance : ℕ) → is_keep (item_cell attr content distance) ≡ false
item_kept attr content distance = by_test (distance == 0)
  where
    by_test : (b : Bool) → is_keep (if b then want.Attr attr else want.Char (slice_index_or content (distance - 1) 0)) ≡ false
    by_test true = refl
    by_test false = refl

items_kept : (attr : Attr) (content : List ℕ) (distance : Option ℕ) → NotKept (option_map (item_cell attr content) distance)
items_kept attr content None = tt
items_kept attr content (Some distance) = item_kept attr content distance

stoppers_kept : (cell : ℕ) (field : Field) → NotKept (stopper_cell cell field)
stoppers_kept cell field = by_test (cell == field.extent.first + field.extent.length)
  where
    by_test : (b : Bool) → NotKept (if b then Some (want.Attr (autoskip_attr false)) else None)
    by_test true = refl
    by_test false = tt

message_kept : (start : ℕ) (fields : List Field) (message : Message) (cell : ℕ) → NotKept (message_cell start fields message cell)
message_kept start fields message cell = by_test (nat_lt cell start)
  where
    by_test : (b : Bool) → NotKept (if b then None else Some (item_cell (autoskip_attr true) (message_text fields message) (cell - start)))
    by_test true = tt
    by_test false = item_kept (autoskip_attr true) (message_text fields message) (cell - start)

cell_kept : (panel : PanelParts) (values : Values) (message : Message) (cell : ℕ) → is_keep (wanted_cell panel values message false cell) ≡ false
cell_kept panel values message cell =
    kept_or_null _
    (or_kept (first_some (text_cell values cell) panel.texts) _
    (any_kept (text_cell values cell) (λ text. items_kept (autoskip_attr text.bright) (shown values text.content) (distance_in text.extent cell)) panel.texts)
    (or_kept (first_some (field_cell values message false cell) panel.fields) _
    (any_kept (field_cell values message false cell) (λ field. items_kept (field_attr values message false field) (field_content values message field) (distance_in field.extent cell)) panel.fields)
    (or_kept (message_cell (message_start (size_of panel)) panel.fields message cell) (first_some (stopper_cell cell) panel.fields)
    (message_kept (message_start (size_of panel)) panel.fields message cell)
    (any_kept (stopper_cell cell) (stoppers_kept cell) panel.fields))))

none_kept : (cell_of : ℕ → Want) → ((cell : ℕ) → is_keep (cell_of cell) ≡ false) → (cells : List ℕ) → list_any is_keep (map cell_of cells) ≡ false
none_kept cell_of each [] = refl
none_kept cell_of each (cell ∷ cells) = rw (each cell) (none_kept cell_of each cells)

-- ---- the last row

all_chars : (cells : List Want) → ((place : ℕ) → place < length cells → (byte : ℕ) × (slice_get cells place ≡ Some (want.Char byte))) → list_all is_wanted_char cells ≡ true
all_chars [] each = refl
all_chars (want.Char byte ∷ cells) each = all_chars cells (λ place within. each (suc place) (omega (arith, within)))
all_chars (want.Attr attribute ∷ cells) each = let first = each 0 (omega arith) in let no : Some (want.Attr attribute) ≡ Some (want.Char first.0) = first.1 in absurd (cc)
all_chars (want.Keep ∷ cells) each = let first = each 0 (omega arith) in let no : Some want.Keep ≡ Some (want.Char first.0) = first.1 in absurd (cc)

row_there : (attribute : Attr) (place : ℕ) (cells : List Want) → attribute.protected ≡ true → slice_get cells place ≡ Some (want.Attr attribute)
    → ((cell : ℕ) → place < cell → cell < length cells → (byte : ℕ) × (slice_get cells cell ≡ Some (want.Char byte))) → IsMessageRow (drop place cells)
row_there attribute zero [] guards at each = absurd (cc)
row_there attribute (suc place) [] guards at each = absurd (cc)
row_there attribute zero (want.Char byte ∷ cells) guards at each = absurd (cc)
row_there attribute zero (want.Keep ∷ cells) guards at each = absurd (cc)
row_there attribute zero (want.Attr other ∷ cells) guards at each =
    let same : other ≡ attribute = cc in
    (ap (λ (a : Attr). a.protected) same ∙ guards, all_chars cells (λ cell within. each (suc cell) (omega arith) (omega (arith, within))))
row_there attribute (suc place) (first ∷ cells) guards at each =
    row_there attribute place cells guards at (λ cell after within. each (suc cell) (omega (arith, after)) (omega (arith, within)))

-- it starts where the rows for items end
row_start : (model : Model) → message_start (alternate_of model) ≡ message_place (alternate_of model)
row_start M2 = refl
row_start M3 = refl
row_start M4 = refl
row_start M5 = refl

message_row : PanelsLeaveTheRow → (panel : PanelParts) (values : Values) (message : Message) (keep : Bool) → IsLaidOut panel
    → IsMessageRow (drop (message_place (size_of panel)) (screen_of panel values message keep).cells)
message_row leave panel values message keep laid =
    let row = leave panel values message keep laid in
    let size : ℕ = cells_in (size_of panel) in
    let long : length (screen_of panel values message keep).cells ≡ size = length-map-range_with_len (wanted_cell panel values message keep) 0 size in
    subst (λ (start : ℕ). IsMessageRow (drop start (screen_of panel values message keep).cells)) (row_start panel.model)
    (row_there (autoskip_attr true) (message_start (size_of panel)) (screen_of panel values message keep).cells refl row.attribute
    (λ cell after within. row.characters cell after (subst (λ (n : ℕ). cell < n) long within)))

-- ---- what is kept

-- what is kept is a field's, and so is all between its attribute and the next
kept_in_runs : FieldsAreKeptWhole → NothingElseIsKept → (panel : PanelParts) (values : Values) (message : Message) (keep : Bool) → HasItemsApart panel → IsLaidOut panel → KeptInRuns (screen_of panel values message keep).cells
kept_in_runs whole nothing panel values message keep apart laid cell kept = by_field keep (nothing panel values message keep cell kept)
  where
    run : (i : ℕ) (field : Field) → slice_get panel.fields i ≡ Some field → field.extent.first ≤ cell → cell < field.extent.first + field.extent.length → IsInRun (screen_of panel values message true).cells cell
    run i field at from to =
        let w = whole panel values message i field apart laid at in
        let some = field.extent.after_attribute in
        record {
          before = field.extent.first - 1;
          behind = field.extent.first + field.extent.length;
          is_behind = omega (arith, some, from);
          is_before = to;
          first = w.attribute.0;
          first_there = w.attribute.1;
          next = w.next.0;
          next_there = w.next.1;
          kept = λ other after before. w.characters other (omega (arith, some, after), before);
        }

    by_field : (k : Bool) → (k ≡ true) × IsOfField panel cell → IsInRun (screen_of panel values message k).cells cell
    by_field k (same, (i, field, at, (from, to))) = subst (λ b. IsInRun (screen_of panel values message b).cells cell) (sym same) (run i field at from to)

keeps_whole_of : FieldsAreKeptWhole → NothingElseIsKept → (panel : PanelParts) (values : Values) (message : Message) (keep : Bool) → HasItemsApart panel → IsLaidOut panel → keeps_whole_fields (screen_of panel values message keep) ≡ true
keeps_whole_of whole nothing panel values message keep apart laid =
    kept_whole (screen_of panel values message keep).cells 0 (screen_of panel values message keep).cells (kept_in_runs whole nothing panel values message keep apart laid) refl

-- ---- screens

shows : PanelsLeaveTheRow → (panel : PanelParts) (values : Values) (message : Message) (keep : Bool) → IsLaidOut panel → keeps_whole_fields (screen_of panel values message keep) ≡ true
    → IsShowable (size_of panel) (screen_of panel values message keep)
shows leave panel values message keep laid kept = record {
  size = refl;
  cells = length-map-range_with_len (wanted_cell panel values message keep) 0 (cells_in (size_of panel));
  cursor = cursor_within panel message laid;
  messages = message_row leave panel values message keep laid;
  kept = kept;
}

-- what holds of each panel, and where there is none
pub at_panel : (P : PanelParts → Type 0) (found : Option PanelParts) → P no_panel → ((panel : PanelParts) → found ≡ Some panel → P panel) → P (unwrap_or found no_panel)
at_panel P None none each = none
at_panel P (Some panel) none each = each panel refl

nowhere_laid : IsLaidOut no_panel
nowhere_laid = record {
  texts = All-nil (λ text. IsAbove model_2 text.extent);
  fields = All-nil (λ field. IsAbove model_2 field.extent);
  cursor = omega arith;
}

pub laid_out_at : (set : Panels) (number : ℕ) → AreLaidOut set → IsLaidOut (panel_at set number)
laid_out_at set number laid = at_panel IsLaidOut (slice_get set.panels number) nowhere_laid (laid number)

no_items : HasItemsApart no_panel
no_items = record { texts = λ i j one other less is there. absurd (cc); fields = λ i j one other less is there. absurd (cc); both = λ i j text field is there. absurd (cc) }

all_apart : (set : Panels) (number : ℕ) → AreApart set → HasItemsApart (panel_at set number)
all_apart set number apart = at_panel HasItemsApart (slice_get set.panels number) no_items (apart number)

-- ---- which panel is shown

-- the size of a model that may have it
abbrev HasSize : Model → ScreenSize → Type 0
HasSize session size = (size ≡ model_2) ⊎ (size ≡ alternate_of session)

size_of_shown : (model session : Model) → is_shown model session ≡ true → HasSize session (alternate_of model)
size_of_shown M2 session is = inl refl
size_of_shown M3 M3 is = inr refl
size_of_shown M4 M4 is = inr refl
size_of_shown M5 M5 is = inr refl
size_of_shown M3 M2 is = absurd (cc)
size_of_shown M3 M4 is = absurd (cc)
size_of_shown M3 M5 is = absurd (cc)
size_of_shown M4 M2 is = absurd (cc)
size_of_shown M4 M3 is = absurd (cc)
size_of_shown M4 M5 is = absurd (cc)
size_of_shown M5 M2 is = absurd (cc)
size_of_shown M5 M3 is = absurd (cc)
size_of_shown M5 M4 is = absurd (cc)

-- the panel that is shown is of model 2, or of the session's
pub size_shown : (set : Panels) (session : Model) (number : ℕ) → HaveOtherwise set → HasSize session (size_of (panel_at set (shown_in set session number)))
size_shown set session number have = by_panel (slice_get set.panels number) refl
  where
    size_at : Option PanelParts → ScreenSize
    size_at found = size_of (unwrap_or found no_panel)

    by_shown : (panel : PanelParts) (b : Bool) → slice_get set.panels number ≡ Some panel → is_shown panel.model session ≡ b
        → HasSize session (size_of (panel_at set (if b then number else unwrap_or panel.otherwise number)))
    by_shown panel true there is = subst (HasSize session) (sym (ap size_at there)) (size_of_shown panel.model session is)
    by_shown panel false there is = by_otherwise panel.otherwise (have number panel there)
      where
        by_otherwise : (otherwise : Option ℕ) → IsOtherwise set.panels panel.model otherwise → HasSize session (size_of (panel_at set (unwrap_or otherwise number)))
        by_otherwise None base =
            let shown : is_shown panel.model session ≡ true = ap (λ (model : Model). is_shown model session) base in
            absurd (cc)
        by_otherwise (Some q) (differs, other, at, base) = inl (ap size_at at ∙ ap alternate_of base)

    by_panel : (found : Option PanelParts) → slice_get set.panels number ≡ found → HasSize session (size_of (panel_at set (option_map_or (shown_of session number) found number)))
    by_panel None none = inl (ap size_at none)
    by_panel (Some panel) there = by_shown panel (is_shown panel.model session) there refl

-- that in a session of model 2 has 24 rows of 80 cells
pub size_at : (set : Panels) (number : ℕ) → HaveOtherwise set → size_of (panel_at set (shown_in set M2 number)) ≡ model_2
size_at set number have = by_either (size_shown set M2 number have)
  where
    by_either : HasSize M2 (size_of (panel_at set (shown_in set M2 number))) → size_of (panel_at set (shown_in set M2 number)) ≡ model_2
    by_either (inl e) = e
    by_either (inr e) = e

-- ---- the application

has_a_row : (model : Model) → IsValidSize (alternate_of model)
has_a_row M2 = record { columns = omega arith; row = omega arith; addresses = omega arith }
has_a_row M3 = record { columns = omega arith; row = omega arith; addresses = omega arith }
has_a_row M4 = record { columns = omega arith; row = omega arith; addresses = omega arith }
has_a_row M5 = record { columns = omega arith; row = omega arith; addresses = omega arith }

pub panels_shown : PanelsLeaveTheRow → FieldsAreKeptWhole → NothingElseIsKept → PanelsAreShown
panels_shown leave whole_fields nothing set have laid apart = record {
  begins = has_a_row M2;
  alternates = has_a_row;
  sizes = λ session number values message keep. size_shown set session number have;
  showable = λ number values message keep.
      let panel = panel_at set number in
      let out = laid_out_at set number laid in
      shows leave panel values message keep out (keeps_whole_of whole_fields nothing panel values message keep (all_apart set number apart) out);
  whole = λ number values message.
      none_kept (wanted_cell (panel_at set number) values message false) (cell_kept (panel_at set number) values message) (range_with_len 0 (cells_in (size_of (panel_at set number))));
}

-- ---- what panels ask for

pub screens_wanted : ScreensAreWanted
screens_wanted panel values message keep = record {
  size = refl;
  cells = λ cell within.
      let size : ℕ = cells_in (size_of panel) in
      let cells : List Want = (screen_of panel values message keep).cells in
      let long : length cells ≡ size = length-map-range_with_len (wanted_cell panel values message keep) 0 size in
      slice_get-get_or cells cell (want.Char 0) (rw long within)
      ∙ ap Some (get_or-map-range_with_len (wanted_cell panel values message keep) 0 size cell cell (want.Char 0) within (omega arith));
  cursor = refl;
  reset = refl;
}
