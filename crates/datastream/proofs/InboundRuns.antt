-- Parts of inbound data that are characters, one behind the other.
use Rattle.std.proofs.Common.{◌≡◌, ℕ, zero, suc, ◌+◌, ◌<◌, ◌≤◌, true, false, List, [], ◌∷◌, ◌++◌, length, map, take, drop, get_or, refl, ap, sym, subst, ◌∙◌, arith, inl, inr, Ok, Err, append_assoc, length-append}
use Rattle.std.specs.Prelude.{Result}
use Rattle.std.specs.List.{prefix_len}
use Rattle.std.proofs.lemmas.Bool.{cases_Bool, false≢true}
use Rattle.std.proofs.lemmas.List.{take-append-drop, length-map, length-take-le, length-drop}
use Rattle.codes3270.specs.Storable.{is_storable}
use Rattle.codes3270.specs.declared.attribute.Cell.{Cell}
use Rattle.codes3270.specs.declared.attribute.Cell.TheVariants.{Char as CharCell}
use Rattle.datastream.specs.declared.inbound_part.InboundFault.{InboundFault}
use Rattle.datastream.specs.declared.inbound_part.Form.{Form}
use Rattle.datastream.specs.declared.inbound_part.Form.TheVariants.{Modified, All as AllModified, Buffer}
use Rattle.datastream.specs.declared.inbound_part.Part.{Part}
use Rattle.datastream.specs.declared.inbound_part.Part.TheVariants.{At, Char, Attr}
use Rattle.datastream.specs.InboundFields.{cells_sent}
use Rattle.datastream.specs.InboundReading.{part_at, parts_in, and_parts, parts_within, IsReadTo, PassesText}
use Rattle.datastream.specs.InboundText.{is_text_char, IsPart, AreParts}
use Rattle.datastream.specs.Screen.{text_before_attribute}
use Rattle.datastream.proofs.InboundFront.{part_again, part_read, IsRead}
use Rattle.datastream.proofs.InboundSequences.{parts_in-next}
use Rattle.datastream.proofs.CharacterRuns.{behind, behind_first, behind_none}

-- ---- parts behind parts

module _ (size : ℕ) where
  parts_append : (form : Form) (ps qs : List Part) (xs ys : List ℕ) → AreParts size form ps xs → AreParts size form qs ys → AreParts size form (ps ++ qs) (xs ++ ys)
  parts_append form [] qs xs ys is more = subst (λ (zs : List ℕ). AreParts size form qs (zs ++ ys)) (sym is) more
  parts_append form (p ∷ ps) qs xs ys (front, back, first, others, is) more =
      (front, back ++ ys, first, parts_append form ps qs back ys others more, ap (λ (zs : List ℕ). zs ++ ys) is ∙ append_assoc front back ys)

  pub reads_then : (form : Form) (text : List ℕ) (count : ℕ) (bytes : List ℕ) (more : ℕ) (rest : List ℕ) → IsReadTo size form text count bytes → IsReadTo size form bytes more rest → IsReadTo size form text (count + more) rest
  reads_then form text count bytes more rest (ps, front, are, counted, is) (qs, behind, others, others_counted, then_is) = (
    ps ++ qs,
    front ++ behind,
    parts_append form ps qs front behind are others,
    omega (arith, length-append ps qs, counted, others_counted),
    is ∙ ap (λ (zs : List ℕ). front ++ zs) then_is ∙ sym (append_assoc front behind rest),
  )

  -- characters are parts of themselves
  chars_are : (form : Form) (text : List ℕ) (count : ℕ) → ((place : ℕ) → place < count → IsPart size form (Char (get_or text place 0)) (get_or text place 0 ∷ [])) → count ≤ length text
      → AreParts size form (map Char (take count text)) (take count text)
  chars_are form text zero each few = refl
  chars_are form [] (suc n) each few = absurd (omega arith)
  chars_are form (byte ∷ bytes) (suc n) each few =
      (byte ∷ [], take n bytes, each 0 (omega arith), chars_are form bytes n (λ place less. each (suc place) (omega arith)) (omega arith), refl)

  reads_chars : (form : Form) (text : List ℕ) (count : ℕ) → ((place : ℕ) → place < count → IsPart size form (Char (get_or text place 0)) (get_or text place 0 ∷ [])) → count ≤ length text
      → IsReadTo size form text count (drop count text)
  reads_chars form text count each few = (
    map Char (take count text),
    take count text,
    chars_are form text count each few,
    length-map (take count text) Char ∙ length-take-le count text few,
    sym (take-append-drop count text),
  )

  -- ---- modified fields

  text_part : (form : Form) (char : ℕ) → (form ≡ Buffer → ⊥) → is_text_char char ≡ true → IsPart size form (Char char) (char ∷ [])
  text_part Modified char other is = (is, refl)
  text_part AllModified char other is = (is, refl)
  text_part Buffer char other is = absurd (other refl)

  pub reads_text : (form : Form) → (form ≡ Buffer → ⊥) → (text : List ℕ) (count : ℕ) (bytes rest : List ℕ) → IsReadTo size form text count bytes → PassesText bytes rest
      → (n : ℕ) × IsReadTo size form text n rest
  reads_text form other text count bytes rest read (more, few, each, is) = (
    count + more,
    reads_then form text count bytes more rest read
        (subst (λ (zs : List ℕ). IsReadTo size form bytes more zs) (sym is) (reads_chars form bytes more (λ place less. text_part form (get_or bytes place 0) other (each place less)) few)),
  )

pub text_shorter : (text rest : List ℕ) → PassesText text rest → length rest ≤ length text
text_shorter text rest (count, few, each, is) = omega (arith, ap length is, length-drop count text)

-- ---- a buffer

drop_one : {A : Type 0} (k : ℕ) (x : A) (xs : List A) → drop (1 + k) (x ∷ xs) ≡ drop k xs
drop_one k x xs = let more : 1 + k ≡ suc k = omega arith in ap (λ (n : ℕ). drop n (x ∷ xs)) more

take_one : {A : Type 0} (k : ℕ) (x : A) (xs : List A) → take (1 + k) (x ∷ xs) ≡ x ∷ take k xs
take_one k x xs = let more : 1 + k ≡ suc k = omega arith in ap (λ (n : ℕ). take n (x ∷ xs)) more

ahead_storable : (text : List ℕ) (place : ℕ) → place < prefix_len is_storable text → is_storable (get_or text place 0) ≡ true
ahead_storable [] place less = absurd (omega arith)
ahead_storable (byte ∷ bytes) place less = elim (cases_Bool (is_storable byte)) [
  | inl is ↦ by_place place (rw is at less) is (ahead_storable bytes)
  | inr other ↦ absurd (let none : prefix_len is_storable (byte ∷ bytes) ≡ 0 = rw other refl in omega arith)
]
  where
    by_place : (p : ℕ) → p < 1 + prefix_len is_storable bytes → is_storable byte ≡ true → ((q : ℕ) → q < prefix_len is_storable bytes → is_storable (get_or bytes q 0) ≡ true)
        → is_storable (get_or (byte ∷ bytes) p 0) ≡ true
    by_place zero low is others = is
    by_place (suc p) low is others = others p (omega arith)

ahead_bound : (text : List ℕ) → prefix_len is_storable text ≤ length text
ahead_bound [] = omega arith
ahead_bound (byte ∷ bytes) = elim (cases_Bool (is_storable byte)) [
  | inl is ↦ let some : prefix_len is_storable (byte ∷ bytes) ≡ 1 + prefix_len is_storable bytes = rw is refl in omega (arith, some, ahead_bound bytes)
  | inr other ↦ let none : prefix_len is_storable (byte ∷ bytes) ≡ 0 = rw other refl in omega (arith, none)
]

pub reads_cells : (size : ℕ) (text : List ℕ) (count : ℕ) → count ≤ prefix_len is_storable text → IsReadTo size Buffer text count (drop count text)
reads_cells size text count few =
    reads_chars size Buffer text count (λ place less. (ahead_storable text place (omega arith), refl)) (omega (arith, ahead_bound text, few))

module _ (size : ℕ) where
  abbrev pub cells_of : List ℕ → List Cell
  cells_of text = cells_sent (parts_in size Buffer text)

  cells_next : (byte : ℕ) (bytes : List ℕ) → is_storable byte ≡ true → cells_of (byte ∷ bytes) ≡ CharCell byte ∷ cells_of bytes
  cells_next byte bytes is = ap cells_sent (parts_in-next size Buffer (byte ∷ bytes) (Char byte) bytes (part_again size Buffer (Char byte) (byte ∷ []) bytes (is, refl)))

  -- a character is encoded by a byte that a cell can hold
  none_ahead : (byte : ℕ) (bytes : List ℕ) (others : List ℕ → List Part) (r : Result (Part × List ℕ) InboundFault) → IsRead size Buffer (byte ∷ bytes) r → is_storable byte ≡ false
      → text_before_attribute (cells_sent (and_parts others r)) ≡ []
  none_ahead byte bytes others (Ok (Char char, rest)) (front, (storable, is), encoded, some) other =
      absurd (
      let whole : byte ∷ bytes ≡ char ∷ rest = encoded ∙ ap (λ (f : List ℕ). f ++ rest) is in
      let same : byte ≡ char = ap (λ (bs : List ℕ). get_or bs 0 0) whole in
      false≢true (sym other ∙ ap is_storable same ∙ storable))
  none_ahead byte bytes others (Ok (Attr attr, rest)) read other = refl
  none_ahead byte bytes others (Ok (At address, rest)) (front, none, encoded, some) other = absurd none
  none_ahead byte bytes others (Err fault) read other = refl

  pub cells_ahead : (text : List ℕ) → text_before_attribute (cells_of text) ≡ take (prefix_len is_storable text) text
  unfolding parts_in parts_within
  cells_ahead [] = refl
  cells_ahead (byte ∷ bytes) = elim (cases_Bool (is_storable byte)) [
    | inl is ↦
        ap text_before_attribute (cells_next byte bytes is)
        ∙ ap (λ (cs : List ℕ). byte ∷ cs) (cells_ahead bytes)
        ∙ rw is (sym (take_one (prefix_len is_storable bytes) byte bytes))
    | inr other ↦ none_ahead byte bytes (parts_within size Buffer (length bytes)) (part_at size Buffer (byte ∷ bytes)) (part_read size Buffer byte bytes) other ∙ rw other refl
  ]

  pub cells_behind : (text : List ℕ) → cells_of (behind text) ≡ drop (prefix_len is_storable text) (cells_of text)
  cells_behind [] = refl
  cells_behind (byte ∷ bytes) = elim (cases_Bool (is_storable byte)) [
    | inl is ↦
        ap cells_of (behind_first byte bytes is)
        ∙ cells_behind bytes
        ∙ sym (drop_one (prefix_len is_storable bytes) (CharCell byte) (cells_of bytes))
        ∙ rw (is, cells_next byte bytes is) refl
    | inr other ↦ ap cells_of (behind_none byte bytes other) ∙ rw other refl
  ]
