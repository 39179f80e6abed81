-- Parts and fields are two views of the same inbound data.
use Rattle.std.proofs.Common.{◌≡◌, ℕ, ◌<◌, List, [], ◌∷◌, ◌++◌, map, true, refl, ap, sym, ◌∙◌, All, subst}
use Rattle.std.specs.List.{flat_map}
use Rattle.std.proofs.lemmas.List.Elements.{All-head, All-tail, All-nil, All-cons}
use Rattle.codes3270.specs.declared.attribute.Attr.{Attr as Attribute}
use Rattle.codes3270.specs.declared.attribute.Cell.{Cell}
use Rattle.codes3270.specs.declared.attribute.Cell.TheVariants.{Char as CharCell, Attr as AttrCell}
use Rattle.datastream.specs.declared.inbound_part.Form.{Form}
use Rattle.datastream.specs.declared.inbound_part.Form.TheVariants.{Modified, All as AllModified, Buffer}
use Rattle.datastream.specs.declared.inbound_part.Part.{Part}
use Rattle.datastream.specs.declared.inbound_part.Part.TheVariants.{At, Char, Attr}
use Rattle.datastream.specs.InboundText.{IsProperPart, is_text_char}
use Rattle.datastream.specs.InboundFields.{Returned, leading_text, returned, cells_sent, field_parts, parts_of_fields, parts_of_cells, PartsAreFields, IsProperReturned}

-- ---- which parts a form has not

module _ (size : ℕ) where
  no_attribute : {P : Type 0} (form : Form) (attr : Attribute) → (form ≡ Buffer → ⊥) → IsProperPart size form (Attr attr) → P
  no_attribute Modified attr other proper = absurd proper
  no_attribute AllModified attr other proper = absurd proper
  no_attribute Buffer attr other proper = absurd (other refl)

  text_char : (form : Form) (char : ℕ) → (form ≡ Buffer → ⊥) → IsProperPart size form (Char char) → is_text_char char ≡ true
  text_char Modified char other proper = proper
  text_char AllModified char other proper = proper
  text_char Buffer char other proper = absurd (other refl)

  address_in_range : (form : Form) (address : ℕ) → (form ≡ Buffer → ⊥) → IsProperPart size form (At address) → address < size
  address_in_range Modified address other proper = proper
  address_in_range AllModified address other proper = proper
  address_in_range Buffer address other proper = absurd (other refl)

  -- ---- from parts to fields and back

  pub fields_joined : (form : Form) (parts : List Part) → (form ≡ Buffer → ⊥) → All (IsProperPart size form) parts → parts_of_fields (leading_text parts) (returned parts) ≡ parts
  fields_joined form [] other proper = refl
  fields_joined form (At address ∷ parts) other proper =
      ap (λ ps. At address ∷ ps) (fields_joined form parts other (All-tail (IsProperPart size form) (At address) parts proper))
  fields_joined form (Char char ∷ parts) other proper =
      ap (λ ps. Char char ∷ ps) (fields_joined form parts other (All-tail (IsProperPart size form) (Char char) parts proper))
  fields_joined form (Attr attr ∷ parts) other proper = no_attribute form attr other (All-head (IsProperPart size form) (Attr attr) parts proper)

lead_of_fields : (fields : List Returned) → leading_text (flat_map field_parts fields) ≡ []
lead_of_fields [] = refl
lead_of_fields (field ∷ fields) = refl

pub lead_again : (chars : List ℕ) (fields : List Returned) → leading_text (parts_of_fields chars fields) ≡ chars
lead_again [] fields = lead_of_fields fields
lead_again (char ∷ chars) fields = ap (λ cs. char ∷ cs) (lead_again chars fields)

returned_past : (chars : List ℕ) (parts : List Part) → returned (map Char chars ++ parts) ≡ returned parts
returned_past [] parts = refl
returned_past (char ∷ chars) parts = returned_past chars parts

same_fields : (first : ℕ) (s t : List ℕ) (xs ys : List Returned) → s ≡ t → xs ≡ ys → record { first = first; text = s } ∷ xs ≡ record { first = first; text = t } ∷ ys
same_fields first s t xs ys e f = rw (e, f) refl

fields_again : (fields : List Returned) → returned (flat_map field_parts fields) ≡ fields
fields_again [] = refl
fields_again (field ∷ fields) =
    same_fields field.first (leading_text (parts_of_fields field.text fields)) field.text (returned (parts_of_fields field.text fields)) fields
    (lead_again field.text fields)
    (returned_past field.text (flat_map field_parts fields) ∙ fields_again fields)

pub returned_again : (chars : List ℕ) (fields : List Returned) → returned (parts_of_fields chars fields) ≡ fields
returned_again chars fields = returned_past chars (flat_map field_parts fields) ∙ fields_again fields

module _ (size : ℕ) where
  pub cells_joined : (parts : List Part) → All (IsProperPart size Buffer) parts → parts_of_cells (cells_sent parts) ≡ parts
  cells_joined [] proper = refl
  cells_joined (At address ∷ parts) proper = absurd (All-head (IsProperPart size Buffer) (At address) parts proper)
  cells_joined (Char char ∷ parts) proper = ap (λ ps. Char char ∷ ps) (cells_joined parts (All-tail (IsProperPart size Buffer) (Char char) parts proper))
  cells_joined (Attr attr ∷ parts) proper = ap (λ ps. Attr attr ∷ ps) (cells_joined parts (All-tail (IsProperPart size Buffer) (Attr attr) parts proper))

pub cells_again : (cells : List Cell) → cells_sent (parts_of_cells cells) ≡ cells
cells_again [] = refl
cells_again (CharCell char ∷ cells) = ap (λ cs. CharCell char ∷ cs) (cells_again cells)
cells_again (AttrCell attr ∷ cells) = ap (λ cs. AttrCell attr ∷ cs) (cells_again cells)

pub parts_are_fields : PartsAreFields
parts_are_fields = record {
  joined = fields_joined;
  lead_back = lead_again;
  returned_back = returned_again;
  cells_joined = cells_joined;
  cells_back = cells_again;
}

-- ---- fields of proper parts

module _ (size : ℕ) where
  pub lead_proper : (form : Form) (parts : List Part) → (form ≡ Buffer → ⊥) → All (IsProperPart size form) parts → All (λ char. is_text_char char ≡ true) (leading_text parts)
  lead_proper form [] other proper = All-nil (λ char. is_text_char char ≡ true)
  lead_proper form (At address ∷ parts) other proper = All-nil (λ char. is_text_char char ≡ true)
  lead_proper form (Char char ∷ parts) other proper =
      All-cons (λ c. is_text_char c ≡ true) char (leading_text parts) (text_char size form char other (All-head (IsProperPart size form) (Char char) parts proper))
      (lead_proper form parts other (All-tail (IsProperPart size form) (Char char) parts proper))
  lead_proper form (Attr attr ∷ parts) other proper = All-nil (λ char. is_text_char char ≡ true)

  pub returned_proper : (form : Form) (parts : List Part) → (form ≡ Buffer → ⊥) → All (IsProperPart size form) parts → All (IsProperReturned size) (returned parts)
  returned_proper form [] other proper = All-nil (IsProperReturned size)
  returned_proper form (At address ∷ parts) other proper =
      let others : All (IsProperPart size form) parts = All-tail (IsProperPart size form) (At address) parts proper in
      All-cons (IsProperReturned size) (record { first = address; text = leading_text parts }) (returned parts)
      (record { first = address_in_range size form address other (All-head (IsProperPart size form) (At address) parts proper); text = lead_proper form parts other others })
      (returned_proper form parts other others)
  returned_proper form (Char char ∷ parts) other proper = returned_proper form parts other (All-tail (IsProperPart size form) (Char char) parts proper)
  returned_proper form (Attr attr ∷ parts) other proper = no_attribute size form attr other (All-head (IsProperPart size form) (Attr attr) parts proper)

  buffer_returned : (parts : List Part) → All (IsProperPart size Buffer) parts → returned parts ≡ []
  buffer_returned [] proper = refl
  buffer_returned (At address ∷ parts) proper = absurd (All-head (IsProperPart size Buffer) (At address) parts proper)
  buffer_returned (Char char ∷ parts) proper = buffer_returned parts (All-tail (IsProperPart size Buffer) (Char char) parts proper)
  buffer_returned (Attr attr ∷ parts) proper = buffer_returned parts (All-tail (IsProperPart size Buffer) (Attr attr) parts proper)

  pub any_returned_proper : (form : Form) (parts : List Part) → All (IsProperPart size form) parts → All (IsProperReturned size) (returned parts)
  any_returned_proper Modified parts proper = returned_proper Modified parts (λ e. cc) proper
  any_returned_proper AllModified parts proper = returned_proper AllModified parts (λ e. cc) proper
  any_returned_proper Buffer parts proper = subst (λ fs. All (IsProperReturned size) fs) (sym (buffer_returned parts proper)) (All-nil (IsProperReturned size))
