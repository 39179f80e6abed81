-- CellBeliefs that are kept by bits and bytes.
use Rattle.std.proofs.Common.{◌≡◌, ℕ, ◌<◌, Bool, true, false, List, length, replicate, set, get_or, refl, ap, sym, subst, arith, ◌∙◌, ne_eqb, eq-eqb, inl, inr, if◌then◌else◌}
use Rattle.std.specs.Prelude.{nat_eq}
use Rattle.std.proofs.lemmas.Bool.{cases_eq}
use Rattle.std.proofs.lemmas.List.{get_or-set_other, get_or-set_same, get_or-replicate, get_or_default, set-get_or, length-set, length-replicate}
use Rattle.codes3270.specs.declared.attribute.Attr.{Attr as Attribute}
use Rattle.codes3270.specs.declared.attribute.Cell.TheVariants.{Char as CharCell, Attr as AttrCell}
use Rattle.codes3270.specs.Attribute.{attr_of}
use Rattle.shadow.specs.declared.mdt_state.MdtState.{MdtState}
use Rattle.shadow.specs.declared.cell_belief.TextKnowledge.{TextKnowledge}
use Rattle.shadow.specs.declared.cell_belief.CellBelief.{CellBelief}
use Rattle.shadow.specs.declared.cell_belief.CellBelief.TheVariants.{Attr, Known, Unplaced, Unknown}
use Rattle.shadow.specs.declared.cell_beliefs.AttributeKnowledge.{AttributeKnowledge}
use Rattle.shadow.specs.InPlace.{is_attribute}
use Rattle.datastream.specs.CellBits.{has_bit, kept}
use Rattle.datastream.specs.CellCodes.{cell_of}
use Rattle.datastream.proofs.Keeping.{length_kept, kept_at, kept_set, kept_all, bits_by, attribute_got, character_got}
use Rattle.shadow.specs.PackedBeliefs.{no_head, head_of, with_head, is_known, is_told, place_kept, place_by, MarksKnown}

-- one place is kept anew
module _ (heads : List AttributeKnowledge) (attributes known told attributes_ known_ told_ : List ℕ) (at : ℕ) (p : CellBelief) (within : at < length heads)
    (attribute_bits : (other : ℕ) → has_bit attributes_ other ≡ (if nat_eq other at then is_attribute p else has_bit attributes other))
    (known_bits : (other : ℕ) → has_bit known_ other ≡ (if nat_eq other at then is_known p else has_bit known other))
    (told_bits : (other : ℕ) → has_bit told_ other ≡ (if nat_eq other at then is_told p else has_bit told other)) where
  apart_same : (j byte : ℕ) → (j ≡ at → ⊥) → place_by (set heads at (head_of p)) attributes_ known_ told_ j byte ≡ place_by heads attributes known told j byte
  apart_same j byte apart =
      let no = ne_eqb j at apart in
      let a = attribute_bits j ∙ ap (λ t. if t then is_attribute p else has_bit attributes j) no in
      let k = known_bits j ∙ ap (λ t. if t then is_known p else has_bit known j) no in
      let t = told_bits j ∙ ap (λ u. if u then is_told p else has_bit told j) no in
      ap (λ h. place_kept h (has_bit attributes_ j) (has_bit known_ j) (has_bit told_ j) byte) (get_or-set_other heads at j (head_of p) no_head apart)
      ∙ ap (λ b. place_kept (get_or heads j no_head) b (has_bit known_ j) (has_bit told_ j) byte) a
      ∙ ap (λ b. place_kept (get_or heads j no_head) (has_bit attributes j) b (has_bit told_ j) byte) k
      ∙ ap (λ b. place_kept (get_or heads j no_head) (has_bit attributes j) (has_bit known j) b byte) t

  here_is : (byte : ℕ) → place_kept (head_of p) (is_attribute p) (is_known p) (is_told p) byte ≡ p → place_by (set heads at (head_of p)) attributes_ known_ told_ at byte ≡ p
  here_is byte is =
      let yes = eq-eqb at at refl in
      let a = attribute_bits at ∙ ap (λ t. if t then is_attribute p else has_bit attributes at) yes in
      let k = known_bits at ∙ ap (λ t. if t then is_known p else has_bit known at) yes in
      let t = told_bits at ∙ ap (λ u. if u then is_told p else has_bit told at) yes in
      ap (λ h. place_kept h (has_bit attributes_ at) (has_bit known_ at) (has_bit told_ at) byte) (get_or-set_same heads at (head_of p) no_head within)
      ∙ ap (λ b. place_kept (head_of p) b (has_bit known_ at) (has_bit told_ at) byte) a
      ∙ ap (λ b. place_kept (head_of p) (is_attribute p) b (has_bit told_ at) byte) k
      ∙ ap (λ b. place_kept (head_of p) (is_attribute p) (is_known p) b byte) t
      ∙ is

  pub set_kept : (bytes : List ℕ) (byte : ℕ) → place_kept (head_of p) (is_attribute p) (is_known p) (is_told p) byte ≡ p
      → kept (place_by (set heads at (head_of p)) attributes_ known_ told_) 0 (set bytes at byte) ≡ set (kept (place_by heads attributes known told) 0 bytes) at p
  set_kept bytes byte is = kept_set (place_by heads attributes known told) (place_by (set heads at (head_of p)) attributes_ known_ told_) bytes at byte p apart_same (here_is byte is)

-- the bits of what is known

pub marked_set : (known known_ : List ℕ) (places : List CellBelief) (at : ℕ) (p : CellBelief) → at < length places → MarksKnown known places
    → ((other : ℕ) → has_bit known_ other ≡ (if nat_eq other at then is_known p else has_bit known other)) → MarksKnown known_ (set places at p)
marked_set known known_ places at p within marked bits = λ cell inside. elim (cases_eq cell at) [
  | inl same ↦ bits cell ∙ ap (λ t. if t then is_known p else has_bit known cell) (eq-eqb cell at same)
      ∙ sym (ap is_known (ap (λ n. get_or (set places at p) n Unknown) same ∙ get_or-set_same places at p Unknown within))
  | inr apart ↦ bits cell ∙ ap (λ t. if t then is_known p else has_bit known cell) (ne_eqb cell at apart)
      ∙ marked cell (subst (λ n. cell < n) (length-set places at p) inside)
      ∙ sym (ap is_known (get_or-set_other places at cell p Unknown apart))
]

-- the same, by what functions answer
module _ (heads : List AttributeKnowledge) (attributes known told bytes : List ℕ) (at : ℕ) (p : CellBelief) (inside : at < length heads) (within : at < length bytes)
    (head : AttributeKnowledge) (is_head : head ≡ head_of p) (byte : ℕ) (is_byte : place_kept (head_of p) (is_attribute p) (is_known p) (is_told p) byte ≡ p)
    (attributes_ known_ told_ : List ℕ) (a k t : Bool) (is_a : a ≡ is_attribute p) (is_k : k ≡ is_known p) (is_t : t ≡ is_told p)
    (a_bits : (other : ℕ) → has_bit attributes_ other ≡ (if nat_eq other at then a else has_bit attributes other))
    (k_bits : (other : ℕ) → has_bit known_ other ≡ (if nat_eq other at then k else has_bit known other))
    (t_bits : (other : ℕ) → has_bit told_ other ≡ (if nat_eq other at then t else has_bit told other)) where
  abbrev old_places : List CellBelief
  old_places = kept (place_by heads attributes known told) 0 bytes

  pub put_kept : kept (place_by (set heads at head) attributes_ known_ told_) 0 (set bytes at byte) ≡ set (kept (place_by heads attributes known told) 0 bytes) at p
  put_kept =
      ap (λ h. kept (place_by (set heads at h) attributes_ known_ told_) 0 (set bytes at byte)) is_head
      ∙ set_kept heads attributes known told attributes_ known_ told_ at p inside
      (bits_by (is_attribute p) a is_a attributes attributes_ at a_bits)
      (bits_by (is_known p) k is_k known known_ at k_bits)
      (bits_by (is_told p) t is_t told told_ at t_bits)
      bytes byte is_byte

  pub put_marked : MarksKnown known (kept (place_by heads attributes known told) 0 bytes) → MarksKnown known_ (kept (place_by (set heads at head) attributes_ known_ told_) 0 (set bytes at byte))
  put_marked marked =
      let before : at < length old_places = subst (λ n. at < n) (sym (length_kept (place_by heads attributes known told) 0 bytes)) within in
      subst (MarksKnown known_) (sym put_kept) (marked_set known known_ old_places at p before marked (bits_by (is_known p) k is_k known known_ at k_bits))

-- a known null, or nothing known
abbrev pub blank : Bool → CellBelief
blank true = Known 0
blank false = Unknown

blank_known : (b : Bool) → is_known (blank b) ≡ b
blank_known true = refl
blank_known false = refl

blank_kept : (h : AttributeKnowledge) (b : Bool) → place_kept h false b false 0 ≡ blank b
blank_kept h true = refl
blank_kept h false = refl

-- the same everywhere, and no attribute; whatever the heads are
module _ (n : ℕ) (heads : List AttributeKnowledge) (attributes known told bytes : List ℕ) (b : Bool)
    (attribute_bits : (cell : ℕ) → cell < n → has_bit attributes cell ≡ false)
    (known_bits : (cell : ℕ) → cell < n → has_bit known cell ≡ b)
    (told_bits : (cell : ℕ) → cell < n → has_bit told cell ≡ false)
    (is_bytes : bytes ≡ replicate n 0) where
  each_blank : (cell : ℕ) → cell < n → place_by heads attributes known told cell 0 ≡ blank b
  each_blank cell few =
      ap (λ x. place_kept (get_or heads cell no_head) x (has_bit known cell) (has_bit told cell) 0) (attribute_bits cell few)
      ∙ ap (λ x. place_kept (get_or heads cell no_head) false x (has_bit told cell) 0) (known_bits cell few)
      ∙ ap (λ x. place_kept (get_or heads cell no_head) false b x 0) (told_bits cell few)
      ∙ blank_kept (get_or heads cell no_head) b

  pub all_blank : kept (place_by heads attributes known told) 0 bytes ≡ replicate n (blank b)
  all_blank =
      ap (λ (xs : List ℕ). kept (place_by heads attributes known told) 0 xs) is_bytes
      ∙ kept_all (place_by heads attributes known told) 0 n 0 (blank b) (λ j later before. each_blank j (omega arith))

  pub blank_marked : MarksKnown known (kept (place_by heads attributes known told) 0 bytes)
  blank_marked = subst (MarksKnown known) (sym all_blank) (λ cell inside.
      let few : cell < n = subst (λ m. cell < m) (length-replicate n (blank b)) inside in
      known_bits cell few ∙ sym (ap is_known (get_or-replicate n cell (blank b) Unknown few) ∙ blank_known b))

-- ---- what is read at an address

module _ (heads : List AttributeKnowledge) (attributes known told bytes : List ℕ) (at : ℕ) (within : at < length bytes) (now : List CellBelief)
    (view : kept (place_by heads attributes known told) 0 bytes ≡ now) where
  place_read : (p : CellBelief) → p ≡ place_kept (get_or heads at no_head) (has_bit attributes at) (has_bit known at) (has_bit told at) (get_or bytes at 0) → p ≡ get_or now at p
  place_read p is =
      is ∙ sym (kept_at (place_by heads attributes known told) bytes at (get_or bytes at 0) p within (get_or_default bytes at 0 (get_or bytes at 0) within))
      ∙ ap (λ (ps : List CellBelief). get_or ps at p) view

  pub attribute_read : at < length heads → (d : AttributeKnowledge) (attribute : Attribute) → cell_of (has_bit attributes at) (get_or bytes at 0) ≡ AttrCell attribute
      → Attr attribute (get_or heads at d).mdt (get_or heads at d).knowledge ≡ get_or now at (Attr attribute (get_or heads at d).mdt (get_or heads at d).knowledge)
  attribute_read inside d attribute is =
      let got = attribute_got (has_bit attributes at) (get_or bytes at 0) attribute is in
      place_read (Attr attribute (get_or heads at d).mdt (get_or heads at d).knowledge)
      (ap (λ (x : Attribute). Attr x (get_or heads at d).mdt (get_or heads at d).knowledge) got.1
      ∙ ap (λ (h : AttributeKnowledge). Attr (attr_of (get_or bytes at 0)) h.mdt h.knowledge) (get_or_default heads at d no_head inside)
      ∙ sym (ap (λ b. place_kept (get_or heads at no_head) b (has_bit known at) (has_bit told at) (get_or bytes at 0)) got.0))

  pub known_read : (char : ℕ) → cell_of (has_bit attributes at) (get_or bytes at 0) ≡ CharCell char → has_bit known at ≡ true → Known char ≡ get_or now at (Known char)
  known_read char is k =
      let got = character_got (has_bit attributes at) (get_or bytes at 0) char is in
      place_read (Known char)
      (ap Known (sym got.1)
      ∙ sym (ap (λ b. place_kept (get_or heads at no_head) b (has_bit known at) (has_bit told at) (get_or bytes at 0)) got.0
      ∙ ap (λ b. place_kept (get_or heads at no_head) false b (has_bit told at) (get_or bytes at 0)) k))

  pub told_read : (char : ℕ) → cell_of (has_bit attributes at) (get_or bytes at 0) ≡ CharCell char → has_bit known at ≡ false → has_bit told at ≡ true → Unplaced char ≡ get_or now at (Unplaced char)
  told_read char is k t =
      let got = character_got (has_bit attributes at) (get_or bytes at 0) char is in
      place_read (Unplaced char)
      (ap Unplaced (sym got.1)
      ∙ sym (ap (λ b. place_kept (get_or heads at no_head) b (has_bit known at) (has_bit told at) (get_or bytes at 0)) got.0
      ∙ ap (λ b. place_kept (get_or heads at no_head) false b (has_bit told at) (get_or bytes at 0)) k
      ∙ ap (λ b. place_kept (get_or heads at no_head) false false b (get_or bytes at 0)) t))

  pub unknown_read : (char : ℕ) → cell_of (has_bit attributes at) (get_or bytes at 0) ≡ CharCell char → has_bit known at ≡ false → has_bit told at ≡ false → Unknown ≡ get_or now at Unknown
  unknown_read char is k t =
      let got = character_got (has_bit attributes at) (get_or bytes at 0) char is in
      place_read Unknown
      (sym (ap (λ b. place_kept (get_or heads at no_head) b (has_bit known at) (has_bit told at) (get_or bytes at 0)) got.0
      ∙ ap (λ b. place_kept (get_or heads at no_head) false b (has_bit told at) (get_or bytes at 0)) k
      ∙ ap (λ b. place_kept (get_or heads at no_head) false false b (get_or bytes at 0)) t))

  pub character_seen : has_bit attributes at ≡ false → has_bit known at ≡ true → get_or now at Unknown ≡ Known (get_or bytes at 0)
  character_seen a k =
      sym (ap (λ (ps : List CellBelief). get_or ps at Unknown) view)
      ∙ kept_at (place_by heads attributes known told) bytes at (get_or bytes at 0) Unknown within (get_or_default bytes at 0 (get_or bytes at 0) within)
      ∙ ap (λ b. place_kept (get_or heads at no_head) b (has_bit known at) (has_bit told at) (get_or bytes at 0)) a
      ∙ ap (λ b. place_kept (get_or heads at no_head) false b (has_bit told at) (get_or bytes at 0)) k

pub size_kept : (f : ℕ → ℕ → CellBelief) (bytes : List ℕ) (now : List CellBelief) → kept f 0 bytes ≡ now → length now ≡ length bytes
size_kept f bytes now view = sym (ap length view) ∙ length_kept f 0 bytes

-- ---- the head of an attribute is held anew

headed_kept : (h : AttributeKnowledge) (m : MdtState) (u : TextKnowledge) (a k t : Bool) (byte : ℕ) → place_kept (record { mdt = m; knowledge = u }) a k t byte ≡ with_head m u (place_kept h a k t byte)
headed_kept h m u true k t byte = refl
headed_kept h m u false true t byte = refl
headed_kept h m u false false true byte = refl
headed_kept h m u false false false byte = refl

headed_known : (m : MdtState) (u : TextKnowledge) (p : CellBelief) → is_known (with_head m u p) ≡ is_known p
headed_known m u (Attr a n v) = refl
headed_known m u (Known c) = refl
headed_known m u (Unplaced c) = refl
headed_known m u Unknown = refl

module _ (heads : List AttributeKnowledge) (attributes known told bytes : List ℕ) (at : ℕ) (inside : at < length heads) (within : at < length bytes) (m : MdtState) (u : TextKnowledge) (now : List CellBelief)
    (view : kept (place_by heads attributes known told) 0 bytes ≡ now) where
  abbrev head : AttributeKnowledge
  head = record { mdt = m; knowledge = u }

  abbrev old_one : CellBelief
  old_one = get_or now at Unknown

  one_is : place_by (set heads at head) attributes known told at (get_or bytes at 0) ≡ with_head m u old_one
  one_is =
      ap (λ (h : AttributeKnowledge). place_kept h (has_bit attributes at) (has_bit known at) (has_bit told at) (get_or bytes at 0)) (get_or-set_same heads at head no_head inside)
      ∙ headed_kept (get_or heads at no_head) m u (has_bit attributes at) (has_bit known at) (has_bit told at) (get_or bytes at 0)
      ∙ ap (with_head m u) (sym (kept_at (place_by heads attributes known told) bytes at (get_or bytes at 0) Unknown within (get_or_default bytes at 0 (get_or bytes at 0) within)) ∙ ap (λ (ps : List CellBelief). get_or ps at Unknown) view)

  pub head_kept : kept (place_by (set heads at head) attributes known told) 0 bytes ≡ set now at (with_head m u (get_or now at Unknown))
  head_kept =
      ap (kept (place_by (set heads at head) attributes known told) 0) (sym (set-get_or bytes at 0))
      ∙ kept_set (place_by heads attributes known told) (place_by (set heads at head) attributes known told) bytes at (get_or bytes at 0) (with_head m u old_one)
      (λ j byte apart. ap (λ (h : AttributeKnowledge). place_kept h (has_bit attributes j) (has_bit known j) (has_bit told j) byte) (get_or-set_other heads at j head no_head apart)) one_is
      ∙ ap (λ (ps : List CellBelief). set ps at (with_head m u old_one)) view

  pub head_marked : MarksKnown known now → MarksKnown known (kept (place_by (set heads at head) attributes known told) 0 bytes)
  head_marked marked =
      let size : length now ≡ length bytes = sym (ap length view) ∙ length_kept (place_by heads attributes known told) 0 bytes in
      let before : at < length now = omega arith in
      subst (MarksKnown known) (sym head_kept) (marked_set known known now at (with_head m u old_one) before marked (λ other. elim (cases_eq other at) [
        | inl same ↦ ap (has_bit known) same ∙ marked at before ∙ sym (headed_known m u old_one) ∙ sym (ap (λ t. if t then is_known (with_head m u old_one) else has_bit known other) (eq-eqb other at same))
        | inr apart ↦ sym (ap (λ t. if t then is_known (with_head m u old_one) else has_bit known other) (ne_eqb other at apart))
      ]))
