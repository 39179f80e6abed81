-- Fields of inbound data as slices of its bytes.
use Rattle.std.proofs.Common.{◌≡◌, ℕ, ◌+◌, ◌-◌, ◌^◌, ◌<◌, ◌≤◌, zero, suc, List, [], ◌∷◌, ◌++◌, length, get_or, take, drop, Bool, true, false, cond, refl, ap, sym, ◌∙◌, subst, arith, ◌⊎◌, inl, inr, Result, Ok, Err}
use Rattle.std.specs.List.{prefix_len}
use Rattle.std.proofs.lemmas.Bool.{and_parts}
use Rattle.std.proofs.lemmas.List.{take_all}
use Rattle.codes3270.specs.Address.{address_of}
use Rattle.codes3270.specs.Storable.{is_storable}
use Rattle.datastream.specs.declared.inbound_part.Form.{Form}
use Rattle.datastream.specs.declared.inbound_part.Form.TheVariants.{Modified, All as AllModified, Buffer}
use Rattle.datastream.specs.declared.inbound_part.Part.{Part}
use Rattle.datastream.specs.declared.inbound_part.Part.TheVariants.{At, Char, Attr}
use Rattle.datastream.specs.declared.inbound_part.InboundFault.{InboundFault}
use Rattle.datastream.specs.Grammar.{start_field, set_buffer_address}
use Rattle.datastream.specs.InboundText.{IsPart, AreParts}
use Rattle.datastream.specs.InboundReading.{and_parts as and_others, part_at, parts_within, parts_in}
use Rattle.datastream.specs.InboundFields.{Returned, leading_text, returned, cells_sent, cell_of_part, IsStorableCell}
use Rattle.codes3270.specs.declared.attribute.Cell.{Cell}
use Rattle.codes3270.specs.declared.attribute.Cell.TheVariants.{Char as CharCell, Attr as AttrCell}
use Rattle.std.specs.Prelude.{All}
use Rattle.std.proofs.Common.{Some}
use Rattle.std.proofs.lemmas.List.Elements.{All-head, All-tail, All-nil, All-cons}
use Rattle.datastream.specs.InboundText.{IsProperPart}
use Rattle.datastream.proofs.InboundFront.{IsRead, cell_read}
use Rattle.datastream.proofs.InboundSequences.{parts_in-whole, parts_in-nil, parts_in-next, parts_in-end, length-parts_in}
use Rattle.datastream.proofs.Decisions.{cond_when}

-- ---- a part's first byte

-- a character is one storable byte, another part begins with a byte that isn't storable
abbrev Begins : Part → List ℕ → Type 0
Begins (Char char) front = (front ≡ char ∷ []) × (is_storable char ≡ true)
Begins (At address) front = (first : ℕ) × (more : List ℕ) × (front ≡ first ∷ more) × (is_storable first ≡ false)
Begins (Attr attr) front = (first : ℕ) × (more : List ℕ) × (front ≡ first ∷ more) × (is_storable first ≡ false)

module _ (size : ℕ) where
  begins : (form : Form) (part : Part) (front : List ℕ) → IsPart size form part front → Begins part front
  begins Modified (At address) front (high, low, stands, is) = (set_buffer_address, high ∷ low ∷ [], is, refl)
  begins Modified (Char char) front (stands, is) = (is, (and_parts _ _ stands).0)
  begins Modified (Attr attr) front none = absurd none
  begins AllModified (At address) front (high, low, stands, is) = (set_buffer_address, high ∷ low ∷ [], is, refl)
  begins AllModified (Char char) front (stands, is) = (is, (and_parts _ _ stands).0)
  begins AllModified (Attr attr) front none = absurd none
  begins Buffer (At address) front none = absurd none
  begins Buffer (Char char) front (stands, is) = (is, stands)
  begins Buffer (Attr attr) front (code, value, is) = (start_field, code ∷ [], is, refl)

-- ---- the characters before any address or attribute

-- the parts from the first address or attribute on
abbrev pub past_lead : List Part → List Part
past_lead [] = []
past_lead (At address ∷ parts) = At address ∷ parts
past_lead (Char char ∷ parts) = past_lead parts
past_lead (Attr attr ∷ parts) = Attr attr ∷ parts

pub returned_past_lead : (parts : List Part) → returned (past_lead parts) ≡ returned parts
returned_past_lead [] = refl
returned_past_lead (At address ∷ parts) = refl
returned_past_lead (Char char ∷ parts) = returned_past_lead parts
returned_past_lead (Attr attr ∷ parts) = refl

module _ (size : ℕ) where
  -- a text's first characters are the parts' lead, and the rest is the other parts
  abbrev IsSplit : Form → List Part → List ℕ → Type 0
  IsSplit form parts text = (take (prefix_len is_storable text) text ≡ leading_text parts) × AreParts size form (past_lead parts) (drop (prefix_len is_storable text) text)

more_in_prefix : (char : ℕ) (rest : List ℕ) → is_storable char ≡ true → prefix_len is_storable (char ∷ rest) ≡ suc (prefix_len is_storable rest)
more_in_prefix char rest is = cond_when (is_storable char) (1 + prefix_len is_storable rest) 0 is ∙ omega arith

no_prefix : (first : ℕ) (rest : List ℕ) → is_storable first ≡ false → prefix_len is_storable (first ∷ rest) ≡ 0
no_prefix first rest is = ap (λ b. cond b (1 + prefix_len is_storable rest) 0) is

-- behind them no other stands before what is none
pub none_before : (text : List ℕ) → prefix_len is_storable (drop (prefix_len is_storable text) text) ≡ 0
none_before [] = refl
none_before (char ∷ rest) = cases (is_storable char) refl (none_before rest)
  where
    cases : (b : Bool) → is_storable char ≡ b → prefix_len is_storable (drop (prefix_len is_storable rest) rest) ≡ 0 → prefix_len is_storable (drop (prefix_len is_storable (char ∷ rest)) (char ∷ rest)) ≡ 0
    cases true is later = ap (λ (n : ℕ). prefix_len is_storable (drop n (char ∷ rest))) (more_in_prefix char rest is) ∙ later
    cases false is later = ap (λ (n : ℕ). prefix_len is_storable (drop n (char ∷ rest))) (no_prefix char rest is) ∙ no_prefix char rest is

-- so a text that begins with none is what stands behind none
pub from_start : (text : List ℕ) → prefix_len is_storable text ≡ 0 → text ≡ drop (prefix_len is_storable text) text
from_start text start = ap (λ (n : ℕ). drop n text) (sym start)

module _ (size : ℕ) where
  split_at : (form : Form) (parts : List Part) (text : List ℕ) (n : ℕ) → prefix_len is_storable text ≡ n → (take n text ≡ leading_text parts) × AreParts size form (past_lead parts) (drop n text) → IsSplit size form parts text
  split_at form parts text n is split =
      subst (λ k. (take k text ≡ leading_text parts) × AreParts size form (past_lead parts) (drop k text)) (sym is) split

  pub split : (form : Form) (parts : List Part) (text : List ℕ) → AreParts size form parts text → IsSplit size form parts text
  split form [] text is = subst (λ t. IsSplit size form [] t) (sym is) (refl, refl)
  split form (At address ∷ parts) text (front, back, first, others, is) =
      let starts : Begins (At address) front = begins size form (At address) front first in
      let whole : text ≡ starts.0 ∷ (starts.1 ++ back) = is ∙ ap (λ f. f ++ back) starts.2 in
      let none : prefix_len is_storable text ≡ 0 = ap (prefix_len is_storable) whole ∙ no_prefix starts.0 (starts.1 ++ back) starts.3 in
      split_at form (At address ∷ parts) text 0 none (refl, (front, back, first, others, is))
  split form (Attr attr ∷ parts) text (front, back, first, others, is) =
      let starts : Begins (Attr attr) front = begins size form (Attr attr) front first in
      let whole : text ≡ starts.0 ∷ (starts.1 ++ back) = is ∙ ap (λ f. f ++ back) starts.2 in
      let none : prefix_len is_storable text ≡ 0 = ap (prefix_len is_storable) whole ∙ no_prefix starts.0 (starts.1 ++ back) starts.3 in
      split_at form (Attr attr ∷ parts) text 0 none (refl, (front, back, first, others, is))
  split form (Char char ∷ parts) text (front, back, first, others, is) =
      let starts : Begins (Char char) front = begins size form (Char char) front first in
      let whole : text ≡ char ∷ back = is ∙ ap (λ f. f ++ back) starts.0 in
      let rest : IsSplit size form parts back = split form parts back others in
      subst (λ t. IsSplit size form (Char char ∷ parts) t) (sym whole)
      (split_at form (Char char ∷ parts) (char ∷ back) (suc (prefix_len is_storable back)) (more_in_prefix char back starts.1)
      (ap (λ cs. char ∷ cs) rest.0, rest.1))

-- ---- the next field that came

-- parts that begin with no character
abbrev IsFieldStart : List Part → Type 0
IsFieldStart [] = Unit {0}
IsFieldStart (At address ∷ parts) = Unit {0}
IsFieldStart (Char char ∷ parts) = ⊥
IsFieldStart (Attr attr ∷ parts) = Unit {0}

starts_field : (parts : List Part) → IsFieldStart (past_lead parts)
starts_field [] = tt
starts_field (At address ∷ parts) = tt
starts_field (Char char ∷ parts) = starts_field parts
starts_field (Attr attr ∷ parts) = tt

module _ (size : ℕ) where
  -- an address with what follows it
  record IsNext (parts : List Part) (bytes : List ℕ) : Type 0 where
    address : ℕ
    others : List Part
    high : ℕ
    low : ℕ
    back : List ℕ
    are : AreParts size Modified others back
    parts_are : parts ≡ At address ∷ others
    in_range : address < size
    value : address ≡ address_of high low
    bytes_are : bytes ≡ set_buffer_address ∷ high ∷ low ∷ back

  ends_or_next : (parts : List Part) (bytes : List ℕ) → IsFieldStart parts → AreParts size Modified parts bytes → ((parts ≡ []) × (bytes ≡ [])) ⊎ IsNext parts bytes
  ends_or_next [] bytes starts is = inl (refl, is)
  ends_or_next (At address ∷ parts) bytes starts (front, back, (high, low, stands, first), others, is) =
      inr (record {
        address = address;
        others = parts;
        high = high;
        low = low;
        back = back;
        are = others;
        parts_are = refl;
        in_range = stands.1;
        value = stands.0;
        bytes_are = is ∙ ap (λ f. f ++ back) first;
      })
  ends_or_next (Char char ∷ parts) bytes starts are = absurd starts
  ends_or_next (Attr attr ∷ parts) bytes starts (front, back, none, others, is) = absurd none

  -- the bytes are parts of modified fields to their end
  abbrev pub AreFields : List ℕ → Type 0
  AreFields text = AreParts size Modified (parts_in size Modified text) text

  are_fields : (parts : List Part) (text : List ℕ) → AreParts size Modified parts text → AreFields text
  are_fields parts text are = subst (λ ps. AreParts size Modified ps text) (sym (parts_in-whole size Modified parts text are)) are

  returned_in : (parts : List Part) (text : List ℕ) → AreParts size Modified parts text → returned (parts_in size Modified text) ≡ returned parts
  returned_in parts text are = ap returned (parts_in-whole size Modified parts text are)

pub three_up : (bytes : List ℕ) → 3 ≤ length bytes → bytes ≡ get_or bytes 0 0 ∷ get_or bytes 1 0 ∷ get_or bytes 2 0 ∷ take (length bytes - 3) (drop 3 bytes)
three_up [] enough = absurd (omega arith)
three_up (a ∷ []) enough = absurd (omega arith)
three_up (a ∷ b ∷ []) enough = absurd (omega arith)
three_up (a ∷ b ∷ c ∷ rest) enough = ap (λ r. a ∷ b ∷ c ∷ r) (sym (take_all (length (a ∷ b ∷ c ∷ rest) - 3) rest (omega arith)))

same_step : (a b : ℕ) (s t : List ℕ) (xs ys : List Returned) → a ≡ b → s ≡ t → xs ≡ ys → record { first = a; text = s } ∷ xs ≡ record { first = b; text = t } ∷ ys
same_step a b s t xs ys e f g = rw (e, f, g) refl

module _ (size : ℕ) where
  -- what stands before the next field, and the field
  pub record IsStep (text chars others : List ℕ) (first : ℕ) : Type 0 where
    pub in_range : first < size
    pub returned_are : returned (parts_in size Modified text) ≡ record { first = first; text = chars } ∷ returned (parts_in size Modified others)
    pub rest : AreFields size others

same_cons : (mark a b x c d : ℕ) (xs ys : List ℕ) → mark ∷ a ∷ b ∷ xs ≡ x ∷ c ∷ d ∷ ys → (a ≡ c) × (b ≡ d) × (xs ≡ ys)
same_cons mark a b x c d xs ys e = (cc, cc, cc)

empty_or_three : {P : Type 0} (bytes : List ℕ) (a b c : ℕ) (xs : List ℕ) → bytes ≡ [] → bytes ≡ a ∷ b ∷ c ∷ xs → P
empty_or_three bytes a b c xs none some = cc

module _ (size : ℕ) where
  pub next_field : (text fields : List ℕ) (mark high low : ℕ) (rest : List ℕ) → AreFields size text → fields ≡ drop (prefix_len is_storable text) text → fields ≡ mark ∷ high ∷ low ∷ rest
      → IsStep size text (take (prefix_len is_storable rest) rest) (drop (prefix_len is_storable rest) rest) (address_of high low)
  next_field text fields mark high low rest are is_fields is =
      let parts : List Part = parts_in size Modified text in
      let behind : AreParts size Modified (past_lead parts) fields = subst (λ b. AreParts size Modified (past_lead parts) b) (sym is_fields) (split size Modified parts text are).1 in
      elim (ends_or_next size (past_lead parts) fields (starts_field parts) behind) [
        | inl (none, empty) ↦ empty_or_three fields mark high low rest empty is
        | inr next ↦ step text mark high low rest parts refl next (same_cons mark high low set_buffer_address next.high next.low rest next.back (sym is ∙ next.bytes_are))
      ]
    where
      step : (text : List ℕ) (mark high low : ℕ) (rest : List ℕ) (parts : List Part) → parts ≡ parts_in size Modified text → (next : IsNext size (past_lead parts) fields)
          → (high ≡ next.high) × (low ≡ next.low) × (rest ≡ next.back)
          → IsStep size text (take (prefix_len is_storable rest) rest) (drop (prefix_len is_storable rest) rest) (address_of high low)
      step text mark high low rest parts is_parts next same =
          let value : address_of high low ≡ next.address = ap (λ h. address_of h low) same.0 ∙ ap (λ l. address_of next.high l) same.1 ∙ sym next.value in
          let are : AreParts size Modified next.others rest = subst (λ b. AreParts size Modified next.others b) (sym same.2) next.are in
          let divided : IsSplit size Modified next.others rest = split size Modified next.others rest are in
          let others : List ℕ = drop (prefix_len is_storable rest) rest in
          let found : returned (parts_in size Modified text) ≡ record { first = next.address; text = leading_text next.others } ∷ returned next.others =
          ap returned (sym is_parts) ∙ sym (returned_past_lead parts) ∙ ap returned next.parts_are in
          let left : returned (parts_in size Modified others) ≡ returned next.others = returned_in size (past_lead next.others) others divided.1 ∙ returned_past_lead next.others in
          record {
            in_range = rw value next.in_range;
            returned_are = found ∙ same_step next.address (address_of high low) (leading_text next.others) (take (prefix_len is_storable rest) rest) (returned next.others) (returned (parts_in size Modified others)) (sym value) (sym divided.0) (sym left);
            rest = are_fields size (past_lead next.others) others divided.1;
          }

  -- the same under other names
  pub next_field_as : (text fields : List ℕ) (mark high low : ℕ) (rest chars others : List ℕ) (first : ℕ) → AreFields size text → fields ≡ drop (prefix_len is_storable text) text → fields ≡ mark ∷ high ∷ low ∷ rest
      → chars ≡ take (prefix_len is_storable rest) rest → others ≡ drop (prefix_len is_storable rest) rest → first ≡ address_of high low
      → IsStep size text chars others first
  next_field_as text fields mark high low rest chars others first are is_fields is is_chars is_others is_first =
      subst (λ f. IsStep size text chars others f) (sym is_first)
      (subst (λ o. IsStep size text chars o (address_of high low)) (sym is_others)
      (subst (λ c. IsStep size text c (drop (prefix_len is_storable rest) rest) (address_of high low)) (sym is_chars)
      (next_field text fields mark high low rest are is_fields is)))

module _ (size : ℕ) where
  pub no_field : (text fields : List ℕ) → AreFields size text → fields ≡ drop (prefix_len is_storable text) text → length fields < 3 → returned (parts_in size Modified text) ≡ []
  no_field text fields are is_fields short =
      let parts : List Part = parts_in size Modified text in
      let behind : AreParts size Modified (past_lead parts) fields = subst (λ b. AreParts size Modified (past_lead parts) b) (sym is_fields) (split size Modified parts text are).1 in
      elim (ends_or_next size (past_lead parts) fields (starts_field parts) behind) [
        | inl (none, empty) ↦ sym (returned_past_lead parts) ∙ ap returned none
        | inr next ↦ let long : length fields ≡ suc (suc (suc (length next.back))) = ap length next.bytes_are in absurd (omega arith)
      ]

  -- the fields are those behind the first characters
  pub fields_behind : (text rest : List ℕ) → AreFields size text → rest ≡ drop (prefix_len is_storable text) text → AreFields size rest × (returned (parts_in size Modified rest) ≡ returned (parts_in size Modified text))
  fields_behind text rest are is =
      let parts : List Part = parts_in size Modified text in
      let behind : AreParts size Modified (past_lead parts) rest = subst (λ (b : List ℕ). AreParts size Modified (past_lead parts) b) (sym is) (split size Modified parts text are).1 in
      (are_fields size (past_lead parts) rest behind, returned_in size (past_lead parts) rest behind ∙ returned_past_lead parts)

-- ---- the two forms of modified fields have the same parts

and_same : (f g : List ℕ → List Part) (r : Result (Part × List ℕ) InboundFault) → ((rest : List ℕ) → f rest ≡ g rest) → and_others f r ≡ and_others g r
and_same f g (Ok found) same = ap (λ ps. found.0 ∷ ps) (same found.1)
and_same f g (Err fault) same = refl

module _ (size : ℕ) where
  same_within : (n : ℕ) (text : List ℕ) → parts_within size AllModified n text ≡ parts_within size Modified n text
  unfolding parts_within
  same_within zero text = refl
  same_within (suc n) text = and_same (parts_within size AllModified n) (parts_within size Modified n) (part_at size Modified text) (same_within n)

  same_parts_in : (text : List ℕ) → parts_in size AllModified text ≡ parts_in size Modified text
  unfolding parts_in
  same_parts_in text = same_within (length text) text

  same_are : (parts : List Part) (text : List ℕ) → AreParts size AllModified parts text → AreParts size Modified parts text
  same_are [] text is = is
  same_are (part ∷ parts) text (front, back, first, others, is) = (front, back, first, same_are parts back others, is)

  -- what is left of a buffer by addresses: nothing
  no_address : (parts : List Part) (text : List ℕ) → AreParts size Buffer parts text → returned parts ≡ []
  no_address [] text are = refl
  no_address (At address ∷ parts) text (front, back, none, others, is) = absurd none
  no_address (Char char ∷ parts) text (front, back, first, others, is) = no_address parts back others
  no_address (Attr attr ∷ parts) text (front, back, first, others, is) = no_address parts back others

  -- the bytes of all fields that came, for either form of modified fields
  pub all_fields : (form : Form) (text : List ℕ) → form ≡ AllModified → AreParts size form (parts_in size form text) text → AreFields size text × (returned (parts_in size Modified text) ≡ returned (parts_in size form text))
  all_fields Modified text is are = (are, refl)
  all_fields AllModified text is are =
      (subst (λ ps. AreParts size Modified ps text) (same_parts_in text) (same_are (parts_in size AllModified text) text are), ap returned (sym (same_parts_in text)))
  all_fields Buffer text is are = cc

  pub buffer_fields : (form : Form) (text : List ℕ) → form ≡ Buffer → AreParts size form (parts_in size form text) text → returned (parts_in size Modified []) ≡ returned (parts_in size form text)
  buffer_fields Modified text is are = cc
  buffer_fields AllModified text is are = cc
  buffer_fields Buffer text is are = ap returned (parts_in-nil size Modified) ∙ sym (no_address (parts_in size Buffer text) text are)

  pub no_bytes_are_fields : AreFields size []
  no_bytes_are_fields = are_fields size [] [] refl

pub few_returned : (parts : List Part) → length (returned parts) ≤ length parts
few_returned [] = omega arith
few_returned (At address ∷ parts) = omega (arith, few_returned parts)
few_returned (Char char ∷ parts) = omega (arith, few_returned parts)
few_returned (Attr attr ∷ parts) = omega (arith, few_returned parts)

module _ (size : ℕ) where
  pub few_fields : (fields : List Returned) (form : Form) (text : List ℕ) → fields ≡ returned (parts_in size form text) → length text < 2 ^ 64 → length fields < 2 ^ 64
  few_fields fields form text is small =
      let same : length fields ≡ length (returned (parts_in size form text)) = ap length is in
      omega (arith, same, few_returned (parts_in size form text), length-parts_in size form text)

  -- ---- the cells of a buffer, one by one

  cell_is_read : (bytes : List ℕ) (part : Part) (rest : List ℕ) → part_at size Buffer bytes ≡ Ok (part, rest) → IsRead size Buffer bytes (Ok (part, rest))
  cell_is_read bytes part rest found = subst (λ r. IsRead size Buffer bytes r) found (cell_read size bytes)

  -- the cell of a part that is read, and the cells behind it
  pub cells_step : (text : List ℕ) (part : Part) (rest : List ℕ) → part_at size Buffer text ≡ Ok (part, rest)
      → (cell : Cell) × (cell_of_part part ≡ Some cell) × (cells_sent (parts_in size Buffer text) ≡ cell ∷ cells_sent (parts_in size Buffer rest))
  cells_step text (At address) rest found = absurd (cell_is_read text (At address) rest found).1
  cells_step text (Char char) rest found = (CharCell char, refl, ap cells_sent (parts_in-next size Buffer text (Char char) rest found))
  cells_step text (Attr attr) rest found = (AttrCell attr, refl, ap cells_sent (parts_in-next size Buffer text (Attr attr) rest found))

  pub cells_end : (text : List ℕ) (fault : InboundFault) → part_at size Buffer text ≡ Err fault → cells_sent (parts_in size Buffer text) ≡ []
  cells_end text fault found = ap cells_sent (parts_in-end size Buffer text fault found)

  pub cells_whole : (parts : List Part) → All (IsProperPart size Buffer) parts → length (cells_sent parts) ≡ length parts
  cells_whole [] proper = refl
  cells_whole (At address ∷ parts) proper = absurd (All-head (IsProperPart size Buffer) (At address) parts proper)
  cells_whole (Char char ∷ parts) proper = ap (λ n. suc n) (cells_whole parts (All-tail (IsProperPart size Buffer) (Char char) parts proper))
  cells_whole (Attr attr ∷ parts) proper = ap (λ n. suc n) (cells_whole parts (All-tail (IsProperPart size Buffer) (Attr attr) parts proper))

  pub cells_proper : (parts : List Part) → All (IsProperPart size Buffer) parts → All IsStorableCell (cells_sent parts)
  cells_proper [] proper = All-nil IsStorableCell
  cells_proper (At address ∷ parts) proper = absurd (All-head (IsProperPart size Buffer) (At address) parts proper)
  cells_proper (Char char ∷ parts) proper =
      All-cons IsStorableCell (CharCell char) (cells_sent parts) (All-head (IsProperPart size Buffer) (Char char) parts proper) (cells_proper parts (All-tail (IsProperPart size Buffer) (Char char) parts proper))
  cells_proper (Attr attr ∷ parts) proper =
      All-cons IsStorableCell (AttrCell attr) (cells_sent parts) tt (cells_proper parts (All-tail (IsProperPart size Buffer) (Attr attr) parts proper))
