-- A small host for the example's runs: readers and proofs need it, and nothing rests on it (our profile). Its screens
-- have two rows of 16 cells, or three on a model 5, the last one for messages; and its pool has two LUs.
use Rattle.std.specs.Prelude.{codes, ℕ, suc, zero, ◌+◌, ◌==◌, Bool, true, false, List, [], ◌∷◌, ◌++◌, map, replicate, None, if◌then◌else◌, nat_lt}
use Rattle.codes3270.specs.declared.size.Model.TheVariants.{M2, M3, M4, M5}
use Rattle.codes3270.specs.declared.size.Model.{Model}
use Rattle.std.specs.List.{range_with_len}
use Rattle.std.proofs.Common.{lit≤}
use Rattle.codes3270.specs.Size.{ScreenSize}
use Rattle.codes3270.specs.declared.attention.Aid.{Aid}
use Rattle.codes3270.specs.declared.attention.Aid.TheVariants.{Enter, Clear, Pf}
use Rattle.codes3270.specs.declared.attribute.Attr.{Attr as Attribute}
use Rattle.datastream.specs.Wanted.{WantedScreen}
use Rattle.datastream.specs.declared.wanted.Want.{Want}
use Rattle.datastream.specs.declared.wanted.Want.TheVariants as want
use Rattle.lu_pool.specs.Pool.{entry}
use Rattle.lu_pool.specs.declared.entry.Entry.{Entry}
use Rattle.panels.specs.Screen.{Values, autoskip_attr, coded, field_attr, field_content, is_fresh, item_cell, kept_cell, message_text, shown}
use Rattle.panels.specs.declared.message.Message.{Message}
use Rattle.panels.specs.declared.next.Next.{Next}
use Rattle.panels.specs.declared.next.Next.TheVariants.{Go, Ask, Again}
use Rattle.panels.specs.declared.panel.Content.TheVariants.{Show}
use Rattle.panels.specs.declared.panel.Field.{Field}
use Rattle.host_core.specs.Application.{Application}

-- ---- the fields of the sign-on panel

-- a name of three characters, which must be filled in
abbrev pub name_field : Field
name_field = record {
  number = 0;
  name = codes "name";
  title = coded (codes "name");
  extent = record { first = 6; length = 3; after_attribute = lit≤ tt; has_cells = lit≤ tt; on_screen = lit≤ tt };
  numeric = false;
  hidden = false;
  required = true;
  marked = false;
  fill = [];
}

-- one letter more, `Y` at first
abbrev pub letter_field : Field
letter_field = record {
  number = 1;
  name = codes "letter";
  title = coded (codes "letter");
  extent = record { first = 11; length = 1; after_attribute = lit≤ tt; has_cells = lit≤ tt; on_screen = lit≤ tt };
  numeric = false;
  hidden = false;
  required = false;
  marked = false;
  fill = coded (codes "Y");
}

-- a field, which may be marked, as a host marks all fields that doesn't rely on the terminals' wait
abbrev pub marked_if : Bool → Field → Field
marked_if marked field = record field { marked = marked }

-- a panel's fields, all of them marked or none
abbrev pub fields_of : (marked : Bool) → ℕ → List Field
fields_of marked zero = marked_if marked name_field ∷ marked_if marked letter_field ∷ []
fields_of marked (suc panel) = []

-- ---- the screens that are asked for

-- two rows of 16 cells
abbrev pub small : ScreenSize
small = record { rows = 2; columns = 16 }

-- three, the alternate size of a model 5
abbrev pub tall : ScreenSize
tall = record { rows = 3; columns = 16 }

abbrev pub alternate : Model → ScreenSize
alternate M2 = small
alternate M3 = small
alternate M4 = small
alternate M5 = tall

-- a model 5 is shown the second panel, and any other the third one in its place
abbrev pub shown_to : Model → ℕ → ℕ
shown_to M5 panel = panel
shown_to M2 zero = zero
shown_to M3 zero = zero
shown_to M4 zero = zero
shown_to M2 (suc panel) = 2
shown_to M3 (suc panel) = 2
shown_to M4 (suc panel) = 2

-- the first `count` cells of an item, beginning with its attribute
abbrev pub item : ℕ → Attribute → List ℕ → List Want
item count attr content = map (item_cell attr content) (range_with_len 0 count)

-- a field, and the stopper after it
abbrev pub field_and_stopper : Values → Message → Bool → Field → List Want
field_and_stopper values message keep field =
    let attr = field_attr values message keep field in
    map (if keep then kept_cell attr else item_cell attr (field_content values message field))
    (range_with_len 0 (1 + field.extent.length))
    ++ want.Attr (autoskip_attr false) ∷ []

abbrev pub message_row : List Field → Message → List Want
message_row fields message = item 16 (autoskip_attr true) (message_text fields message)

-- the sign-on: a literal, the two fields, the message
abbrev pub sign_on : (marked : Bool) → Values → Message → (keep : Bool) → WantedScreen
sign_on marked values message keep = record {
  size = small;
  cells =
      item 5 (autoskip_attr false) (coded (codes "NAME"))
      ++ field_and_stopper values message keep (marked_if marked name_field)
      ++ field_and_stopper values message keep (marked_if marked letter_field)
      ++ replicate 3 (want.Char 0)
      ++ message_row (fields_of marked 0) message;
  cursor = name_field.extent.first;
  reset = is_fresh message;
}

-- the second panel: the name, a row of nulls, the message
abbrev pub tall_greeting : Values → Message → WantedScreen
tall_greeting values message = record {
  size = tall;
  cells = item 16 (autoskip_attr false) (shown values (Show name_field.number)) ++ replicate 16 (want.Char 0)
      ++ message_row [] message;
  cursor = 0;
  reset = is_fresh message;
}

-- the third one, without that row
abbrev pub greeting : Values → Message → WantedScreen
greeting values message = record {
  size = small;
  cells = item 16 (autoskip_attr false) (shown values (Show name_field.number)) ++ message_row [] message;
  cursor = 0;
  reset = is_fresh message;
}

abbrev pub screen_of : (marked : Bool) → ℕ → Values → Message → (keep : Bool) → WantedScreen
screen_of marked zero values message keep = sign_on marked values message keep
screen_of marked (suc zero) values message keep = tall_greeting values message
screen_of marked (suc (suc panel)) values message keep = greeting values message

-- ---- the application, and the pool

-- Enter and PF5 lead from the sign-on to the second panel, Clear from there back to the sign-on; on PF6 the application
-- decides; and no other key leads anywhere
abbrev pub led_to : ℕ → Aid → Next
led_to zero Enter = Go 1
led_to zero (Pf number) = if number == 5 then Go 1 else if number == 6 then Ask else Again
led_to (suc panel) Clear = Go 0
led_to _ _ = Again

abbrev pub example_with : (marked : Bool) → Application
example_with marked = record {
  begins = small;
  alternate = alternate;
  start = 0;
  has_panel = λ panel. nat_lt panel 3;
  shown = shown_to;
  fields = fields_of marked;
  values = λ panel. [];
  next = led_to;
  screen = screen_of marked;
}

abbrev pub example : Application
example = example_with false

abbrev pub l1 : List ℕ
l1 = codes "L1"

abbrev pub l2 : List ℕ
l2 = codes "L2"

abbrev pub example_pool : List Entry
example_pool = entry l1 None ∷ entry l2 None ∷ []
