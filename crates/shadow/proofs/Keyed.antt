-- The relation of what keys keep, field by field.
use Rattle.std.proofs.Common.{◌≡◌, Bool, true, false, List, length}
use Rattle.codes3270.specs.declared.attribute.Cell.{Cell}
use Rattle.datastream.specs.Fields.{Field, fields}
use Rattle.datastream.specs.KeptByKeys.{without_mdt}
use Rattle.shadow.specs.Pairs.{Pairwise}
use Rattle.shadow.specs.Meets.{IsNull}

-- an unprotected field with MDT off: null since Erase Input was done, else as it was left
abbrev pub Untouched : Bool → Field → Field → Type 0
Untouched true left now = IsNull now.text
Untouched false left now = (left.attr.mdt ≡ false) × (now.text ≡ left.text)

pub record FieldKeyed (erased : Bool) (left now : Field) : Type 0 where
  pub same_place : now.place ≡ left.place
  pub same_attr : without_mdt now.attr ≡ without_mdt left.attr
  pub same_length : length now.text ≡ length left.text
  pub protected : now.attr.protected ≡ true → (now.attr.mdt ≡ left.attr.mdt) × (now.text ≡ left.text)
  pub unprotected : now.attr.protected ≡ false → now.attr.mdt ≡ false → Untouched erased left now

abbrev pub Keyed : Bool → List Cell → List Cell → Type 0
Keyed erased left now = (length now ≡ length left) × Pairwise (FieldKeyed erased) (fields left) (fields now)
