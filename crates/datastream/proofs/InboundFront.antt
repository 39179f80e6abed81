-- The part at the front of inbound bytes: reading it agrees with what bytes stand for parts.
use Rattle.std.proofs.Common.{◌≡◌, ◌==◌, ℕ, ◌<◌, List, [], ◌∷◌, ◌++◌, length, Bool, true, false, refl, ap, sym, ◌∙◌, Result, Ok, Err, nat_lt, arith}
use Rattle.std.specs.Prelude.{◌||◌}
use Rattle.std.proofs.lemmas.Bool.{cond_both, eqb-true, ltb-true, ltb-false, lt-ltb, le-ltb, false≢true}
use Rattle.codes3270.specs.Address.{address_of}
use Rattle.codes3270.specs.Storable.{is_storable}
use Rattle.datastream.specs.declared.inbound_part.Form.{Form}
use Rattle.datastream.specs.declared.inbound_part.Form.TheVariants.{Modified, All as AllModified, Buffer}
use Rattle.datastream.specs.declared.inbound_part.Part.{Part}
use Rattle.datastream.specs.declared.inbound_part.Part.TheVariants.{At, Char, Attr}
use Rattle.datastream.specs.declared.inbound_part.InboundFault.{InboundFault}
use Rattle.datastream.specs.declared.inbound_part.InboundFault.TheVariants.{Short, BadAddress}
use Rattle.datastream.specs.Grammar.{start_field, set_buffer_address}
use Rattle.datastream.specs.InboundText.{is_text_char, IsTextPart, IsCellPart, IsPart, IsNoTextPart, IsNoCell, IsNoPart, IsTextProper, IsCellProper, IsProperPart}
use Rattle.datastream.specs.InboundText.IsNoTextPart.{out_of_place as text_out_of_place, cut_address, address_too_large}
use Rattle.datastream.specs.InboundText.IsNoCell.{at_end, cut_attribute, out_of_place as cell_out_of_place}
use Rattle.datastream.specs.InboundReading.{address_at, attribute_at, text_part_at, cell_part_at, part_at}
use Rattle.datastream.proofs.Decisions.{cond_when, cond_unless, neither}

none_of : (x y : Bool) → (x || y) ≡ false → (x ≡ false) × (y ≡ false)
none_of false y e = (refl, e)
none_of true y e = absurd (false≢true (sym e))

-- ---- what is read stands there

module _ (size : ℕ) where
  -- a part and the bytes behind it, or no part
  abbrev pub IsRead : Form → List ℕ → Result (Part × List ℕ) InboundFault → Type 0
  IsRead form bytes (Ok found) = (front : List ℕ) × IsPart size form found.0 front × (bytes ≡ front ++ found.1) × (0 < length front)
  IsRead form bytes (Err fault) = IsNoPart size form fault bytes

  address_read : (code : ℕ) (rest : List ℕ) → code ≡ set_buffer_address → IsRead Modified (code ∷ rest) (address_at size rest)
  address_read code [] is = cut_address [] (omega arith) refl (ap (λ c. c ∷ []) is)
  address_read code (high ∷ []) is = cut_address (high ∷ []) (omega arith) refl (ap (λ c. c ∷ high ∷ []) is)
  address_read code (high ∷ low ∷ more) is =
      cond_both (nat_lt (address_of high low) size) (Ok (At (address_of high low), more)) (Err BadAddress) (λ r. IsRead Modified (code ∷ high ∷ low ∷ more) r)
      (λ below. (code ∷ high ∷ low ∷ [], (high, low, (refl, ltb-true _ _ below), ap (λ c. c ∷ high ∷ low ∷ []) is), refl, omega arith))
      (λ above. address_too_large high low more (ltb-false _ _ above) refl (ap (λ c. c ∷ high ∷ low ∷ more) is))

  pub text_read : (byte : ℕ) (rest : List ℕ) → IsRead Modified (byte ∷ rest) (text_part_at size (byte ∷ rest))
  unfolding text_part_at
  text_read byte rest =
      let P : Result (Part × List ℕ) InboundFault → Type 0 = λ r. IsRead Modified (byte ∷ rest) r in
      cond_both (byte == set_buffer_address) _ _ P (λ is. address_read byte rest (eqb-true _ _ is))
      (λ no_sba. cond_both (is_text_char byte) _ _ P
      (λ char. (byte ∷ [], (char, refl), refl, omega arith))
      (λ no_char. text_out_of_place byte rest (neither _ _ no_sba no_char) refl refl))

  attribute_read : (code : ℕ) (rest : List ℕ) → code ≡ start_field → IsRead Buffer (code ∷ rest) (attribute_at rest)
  attribute_read code [] is = cut_attribute refl (ap (λ c. c ∷ []) is)
  attribute_read code (attr ∷ rest) is = (code ∷ attr ∷ [], (attr, refl, ap (λ c. c ∷ attr ∷ []) is), refl, omega arith)

  pub cell_read : (bytes : List ℕ) → IsRead Buffer bytes (cell_part_at bytes)
  unfolding cell_part_at
  cell_read [] = at_end refl refl
  cell_read (byte ∷ rest) =
      let P : Result (Part × List ℕ) InboundFault → Type 0 = λ r. IsRead Buffer (byte ∷ rest) r in
      cond_both (byte == start_field) _ _ P (λ is. attribute_read byte rest (eqb-true _ _ is))
      (λ no_sf. cond_both (is_storable byte) _ _ P
      (λ char. (byte ∷ [], (char, refl), refl, omega arith))
      (λ no_char. cell_out_of_place byte rest (neither _ _ no_sf no_char) refl refl))

  -- at the end of the bytes no text part is missing
  pub part_read : (form : Form) (byte : ℕ) (rest : List ℕ) → IsRead form (byte ∷ rest) (part_at size form (byte ∷ rest))
  part_read Modified byte rest = text_read byte rest
  part_read AllModified byte rest = as_all (text_part_at size (byte ∷ rest)) (text_read byte rest)
    where
      as_all : (r : Result (Part × List ℕ) InboundFault) → IsRead Modified (byte ∷ rest) r → IsRead AllModified (byte ∷ rest) r
      as_all (Ok found) read = read
      as_all (Err fault) read = read
  part_read Buffer byte rest = cell_read (byte ∷ rest)

-- ---- what stands there is read

-- a character isn't the code of an order
no_sba : (char : ℕ) → is_text_char char ≡ true → (char == set_buffer_address) ≡ false
no_sba char is = apart (char == set_buffer_address) (λ e. eqb-true char set_buffer_address e)
  where
    apart : (b : Bool) → (b ≡ true → char ≡ set_buffer_address) → b ≡ false
    apart false e = refl
    apart true e = absurd (false≢true (ap is_text_char (sym (e refl)) ∙ is))

no_sf : (char : ℕ) → is_storable char ≡ true → (char == start_field) ≡ false
no_sf char is = apart (char == start_field) (λ e. eqb-true char start_field e)
  where
    apart : (b : Bool) → (b ≡ true → char ≡ start_field) → b ≡ false
    apart false e = refl
    apart true e = absurd (false≢true (ap is_storable (sym (e refl)) ∙ is))

module _ (size : ℕ) where
  text_again : (part : Part) (front rest : List ℕ) → IsTextPart size part front → text_part_at size (front ++ rest) ≡ Ok (part, rest)
  unfolding text_part_at
  text_again (At address) front rest (high, low, (value, in_range), is) =
      rw (is, value)
      (cond_when (nat_lt (address_of high low) size) (Ok (At (address_of high low), rest)) (Err BadAddress) (lt-ltb _ _ (rw value at in_range)))
  text_again (Char char) front rest (stands, is) =
      rw is (cond_unless (char == set_buffer_address) _ _ (no_sba char stands) ∙ cond_when (is_text_char char) _ _ stands)
  text_again (Attr attr) front rest none = absurd none

cell_again : (part : Part) (front rest : List ℕ) → IsCellPart part front → cell_part_at (front ++ rest) ≡ Ok (part, rest)
unfolding cell_part_at
cell_again (At address) front rest none = absurd none
cell_again (Char char) front rest (stands, is) =
    rw is (cond_unless (char == start_field) _ _ (no_sf char stands) ∙ cond_when (is_storable char) _ _ stands)
cell_again (Attr attr) front rest (code, value, is) = rw (is, value) refl

module _ (size : ℕ) where
  pub part_again : (form : Form) (part : Part) (front rest : List ℕ) → IsPart size form part front → part_at size form (front ++ rest) ≡ Ok (part, rest)
  part_again Modified part front rest stands = text_again size part front rest stands
  part_again AllModified part front rest stands = text_again size part front rest stands
  part_again Buffer part front rest stands = cell_again part front rest stands

  -- ---- what is no part isn't read

  text_fault : (fault : InboundFault) (bytes : List ℕ) → IsNoTextPart size fault bytes → text_part_at size bytes ≡ Err fault
  unfolding text_part_at
  text_fault fault bytes (text_out_of_place byte more none which is) =
      let apart = none_of _ _ none in
      rw (is, which) (cond_unless (byte == set_buffer_address) _ _ apart.0 ∙ cond_unless (is_text_char byte) _ _ apart.1)
  text_fault fault bytes (cut_address [] short which is) = rw (is, which) refl
  text_fault fault bytes (cut_address (high ∷ []) short which is) = rw (is, which) refl
  text_fault fault bytes (cut_address (high ∷ low ∷ more) short which is) = absurd (omega arith)
  text_fault fault bytes (address_too_large high low more above which is) =
      rw (is, which) (cond_unless (nat_lt (address_of high low) size) (Ok (At (address_of high low), more)) (Err BadAddress) (le-ltb _ _ above))

cell_fault : (fault : InboundFault) (bytes : List ℕ) → IsNoCell fault bytes → cell_part_at bytes ≡ Err fault
unfolding cell_part_at
cell_fault fault bytes (at_end which is) = rw (is, which) refl
cell_fault fault bytes (cut_attribute which is) = rw (is, which) refl
cell_fault fault bytes (cell_out_of_place byte more none which is) =
    let apart = none_of _ _ none in
    rw (is, which) (cond_unless (byte == start_field) _ _ apart.0 ∙ cond_unless (is_storable byte) _ _ apart.1)

module _ (size : ℕ) where
  pub part_fault : (form : Form) (fault : InboundFault) (bytes : List ℕ) → IsNoPart size form fault bytes → part_at size form bytes ≡ Err fault
  part_fault Modified fault bytes none = text_fault size fault bytes none
  part_fault AllModified fault bytes none = text_fault size fault bytes none
  part_fault Buffer fault bytes none = cell_fault fault bytes none

  -- where no bytes are left, no part stands
  pub part_at-nil : (form : Form) → part_at size form [] ≡ Err Short
  unfolding text_part_at cell_part_at
  part_at-nil Modified = refl
  part_at-nil AllModified = refl
  part_at-nil Buffer = refl

  -- ---- a part that bytes stand for is one that the form can have

  text_proper : (part : Part) (bytes : List ℕ) → IsTextPart size part bytes → IsTextProper size part
  text_proper (At address) bytes (high, low, stands, is) = stands.1
  text_proper (Char char) bytes (stands, is) = stands
  text_proper (Attr attr) bytes none = none

cell_proper : (part : Part) (bytes : List ℕ) → IsCellPart part bytes → IsCellProper part
cell_proper (At address) bytes none = none
cell_proper (Char char) bytes (stands, is) = stands
cell_proper (Attr attr) bytes stands = tt

module _ (size : ℕ) where
  pub part_proper : (form : Form) (part : Part) (bytes : List ℕ) → IsPart size form part bytes → IsProperPart size form part
  part_proper Modified part bytes stands = text_proper size part bytes stands
  part_proper AllModified part bytes stands = text_proper size part bytes stands
  part_proper Buffer part bytes stands = cell_proper part bytes stands
