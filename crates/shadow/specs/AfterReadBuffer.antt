-- What a host believes after the answer to Read Buffer, which has the whole screen, and which answers contradict its
-- belief (our profile; GA23-0059-07 on read commands).
use Rattle.std.specs.Prelude.{◌==◌, ◌&&◌, ◌||◌, not, ℕ, Bool, true, false, List, [], ◌∷◌, length, map, replicate, Option, Some, None, Result, Ok, Err, if◌then◌else◌}
use Rattle.codes3270.specs.declared.attribute.Attr.{Attr as Attribute}
use Rattle.codes3270.specs.declared.attribute.Cell.{Cell}
use Rattle.codes3270.specs.Attribute.{attr_byte}
use Rattle.datastream.specs.Screen.{text_before_attribute}
use Rattle.datastream.specs.Fields.{Field, fields}
use Rattle.datastream.specs.KeptByKeys.{without_mdt}
use Rattle.shadow.specs.declared.mdt_state.MdtState.{MdtState}
use Rattle.shadow.specs.declared.mdt_state.MdtState.TheVariants.{On, Off}
use Rattle.shadow.specs.declared.fault.HeardFault.{HeardFault}
use Rattle.shadow.specs.declared.fault.HeardFault.TheVariants.{Contradiction}
use Rattle.shadow.specs.Belief.{Fact, Belief, Shadow}

abbrev pub mark_seen : Bool → MdtState
mark_seen true = On
mark_seen false = Off

abbrev pub belief_seen : Field → Belief
belief_seen field = record {
  place = field.place;
  attr = without_mdt field.attr;
  mdt = mark_seen field.attr.mdt;
  length = length field.text;
  fact = Fact.Exact field.text;
}

abbrev pub formatted_or : List Field → List ℕ → Shadow
formatted_or [] chars = Shadow.Unformatted (map Some chars)
formatted_or (field ∷ others) chars = Shadow.Formatted (map belief_seen (field ∷ others))

-- the belief of a screen all of whose cells are known
abbrev pub seen : List Cell → Shadow
seen cells = formatted_or (fields cells) (text_before_attribute cells)

-- whether two attributes have the same code, MDT aside
abbrev pub same_attr : Attribute → Attribute → Bool
same_attr one other = attr_byte (without_mdt one) == attr_byte (without_mdt other)

abbrev pub misses : Option ℕ → ℕ → Bool
misses None char = false
misses (Some known) char = not (char == known)

-- whether a known character differs from the one that was read, or the lengths differ
abbrev pub differs : List (Option ℕ) → List ℕ → Bool
differs [] [] = false
differs [] (char ∷ chars) = true
differs (known ∷ more) [] = true
differs (known ∷ more) (char ∷ chars) = misses known char || differs more chars

-- the characters of a field of `count` characters, None for each that doesn't follow from its fact
abbrev pub known_chars : ℕ → Fact → List (Option ℕ)
known_chars count (Fact.Exact value) = map Some value
known_chars count (Fact.ExactOrNulls value) = replicate count None
known_chars count (Fact.Text value) = replicate count None
known_chars count (Fact.TextOrNulls value) = replicate count None
known_chars count (Fact.Any known) = known

-- whether a field that was read isn't the believed one: its address, its attribute (but for MDT), or, if it is
-- protected, known characters differ
abbrev pub is_other : Belief → Field → Bool
is_other belief field =
    not (field.place == belief.place) || not (same_attr field.attr belief.attr)
    || (belief.attr.protected && differs (known_chars belief.length belief.fact) field.text)

abbrev pub others : List Belief → List Field → Bool
others [] [] = false
others [] (field ∷ more) = true
others (belief ∷ beliefs) [] = true
others (belief ∷ beliefs) (field ∷ more) = is_other belief field || others beliefs more

abbrev pub is_formatted : List Field → Bool
is_formatted [] = false
is_formatted (field ∷ more) = true

-- whether the belief contradicts a screen with these cells
abbrev pub denies_buffer : Shadow → List Cell → Bool
denies_buffer Shadow.NothingKnown cells = false
denies_buffer (Shadow.Unformatted known) cells = is_formatted (fields cells)
denies_buffer (Shadow.Formatted beliefs) cells = others beliefs (fields cells)

-- the belief, or the fault, after the answer to Read Buffer with these cells
abbrev pub heard_buffer : Shadow → List Cell → Result Shadow HeardFault
heard_buffer shadow cells = if denies_buffer shadow cells then Err Contradiction else Ok (seen cells)
