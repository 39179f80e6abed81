-- Where a wanted screen may have Keep (our profile): in unprotected fields that are believed to be there, with the same
-- attribute (but for MDT) and length, if the believed screen has the wanted size.
use Rattle.std.specs.Prelude.{◌==◌, ◌+◌, ◌&&◌, ◌||◌, not, ℕ, Bool, true, false, List, [], ◌∷◌, ◌++◌, length}
use Rattle.std.specs.List.{list_any}
use Rattle.codes3270.specs.declared.attribute.Attr.{Attr as Attribute}
use Rattle.datastream.specs.declared.wanted.Want.{Want}
use Rattle.datastream.specs.declared.wanted.Want.TheVariants.{Char as WantChar, Attr as WantAttr, Keep}
use Rattle.codes3270.specs.Size.{cells_in}
use Rattle.shadow.specs.Belief.{Belief, Shadow, fields_of, cells_of_fields}
use Rattle.shadow.specs.AfterReadBuffer.{same_attr}
use Rattle.datastream.specs.Wanted.{WantedScreen}
use Rattle.shadow.specs.Painted.{keeps_ahead, count_ahead}

abbrev pub is_keep : Want → Bool
is_keep (WantChar byte) = false
is_keep (WantAttr attribute) = false
is_keep Keep = true

abbrev pub is_attribute : Want → Bool
is_attribute (WantChar byte) = false
is_attribute (WantAttr attribute) = true
is_attribute Keep = false

-- whether a belief is of a field at this address with this attribute (but for MDT) and this many characters
abbrev pub is_field : ℕ → Attribute → ℕ → Belief → Bool
is_field place attribute count belief =
    belief.place == place && same_attr belief.attr attribute && belief.length == count

-- whether a wanted field has no Keep, or is unprotected and believed there; `ahead`: what is wanted after its attribute
abbrev pub fits_field : List Belief → ℕ → Attribute → List Want → Bool
fits_field beliefs place attribute ahead =
    not (keeps_ahead ahead)
    || (not attribute.protected && list_any (is_field place attribute (count_ahead ahead)) beliefs)

-- whether each wanted field fits whose attribute is in `rest`, which is what is wanted from an address on
abbrev pub fits_from : List Belief → List Want → ℕ → List Want → Bool
fits_from beliefs whole at [] = true
fits_from beliefs whole at (WantChar byte ∷ rest) = fits_from beliefs whole (at + 1) rest
fits_from beliefs whole at (Keep ∷ rest) = fits_from beliefs whole (at + 1) rest
fits_from beliefs whole at (WantAttr attribute ∷ rest) =
    fits_field beliefs at attribute (rest ++ whole) && fits_from beliefs whole (at + 1) rest

-- whether Keep is only in fields, and each of these fits
abbrev pub fields_fit : List Belief → List Want → Bool
fields_fit beliefs wants = (not (list_any is_keep wants) || list_any is_attribute wants)
    && fits_from beliefs wants 0 wants

-- whether the believed screen has `size` cells; true if nothing is known
abbrev pub is_of_size : ℕ → Shadow → Bool
is_of_size size Shadow.NothingKnown = true
is_of_size size (Shadow.Unformatted known) = length known == size
is_of_size size (Shadow.Formatted beliefs) = cells_of_fields beliefs == size

-- whether a wanted screen has the believed size, and Keep only in fields that fit
abbrev pub fits : Shadow → WantedScreen → Bool
fits shadow wanted = is_of_size (cells_in wanted.size) shadow && fields_fit (fields_of shadow) wanted.cells

-- whether a wanted screen can be painted: it has no Keep, or it fits
abbrev pub is_paintable : Shadow → WantedScreen → Bool
is_paintable shadow wanted = not (list_any is_keep wanted.cells) || fits shadow wanted
