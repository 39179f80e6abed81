-- Characters that are held in places that follow one another.
use Rattle.std.proofs.Common.{◌≡◌, ℕ, ◌+◌, ◌*◌, ◌-◌, ◌/◌, ◌%◌, ◌<◌, ◌≤◌, Bool, true, false, List, [], ◌∷◌, ◌++◌, length, map, take, drop, set, get_or, refl, ap, sym, arith, ◌∙◌, inl, inr, length-append}
use Rattle.std.specs.Int.{bit_at}
use Rattle.std.specs.Prelude.{nat_eq, if◌then◌else◌}
use Rattle.std.proofs.lemmas.Bool.{cases_lt, ne_eqb, eq-eqb}
use Rattle.std.proofs.lemmas.List.{ext_get_or, get_or-append_right, get_or_append_left, get_or-map, get_or-drop, get_or-take, get_or_default, length-map, length-take-le, length-drop, get_or-set_same}
use Rattle.shadow.specs.declared.cell_belief.CellBelief.{CellBelief}
use Rattle.shadow.specs.declared.cell_belief.CellBelief.TheVariants.{Known, Unknown}
use Rattle.shadow.specs.declared.cell_beliefs.AttributeKnowledge.{AttributeKnowledge}
use Rattle.datastream.specs.CellBits.{has_bit, kept, AreBits}
use Rattle.datastream.proofs.Keeping.{kept_at, length_kept}
use Rattle.shadow.specs.PackedBeliefs.{no_head, is_known, place_kept, place_by, MarksKnown}
use Rattle.shadow.specs.Runs.{placed}
use Rattle.shadow.proofs.Looking.{bit_false}

-- ---- what stands where a text was placed

abbrev IsApart : ℕ → ℕ → ℕ → Type 0
IsApart from to at = from ≤ at → at < to → ⊥

pub length-placed : (from : ℕ) (text : List ℕ) (ps : List CellBelief) → from + length text ≤ length ps → length (placed from text ps) ≡ length ps
length-placed from text ps room =
    omega (arith, length-append (take from ps) (map Known text ++ drop (from + length text) ps), length-append (map Known text) (drop (from + length text) ps), length-map text Known, length-take-le from ps (omega arith), length-drop (from + length text) ps)

module _ (from : ℕ) (text : List ℕ) (ps : List CellBelief) (room : from + length text ≤ length ps) where
  front : length (take from ps) ≡ from
  front = length-take-le from ps (omega arith)

  behind : (at : ℕ) (d : CellBelief) → from ≤ at → get_or (placed from text ps) at d ≡ get_or (map Known text ++ drop (from + length text) ps) (at - from) d
  behind at d above = get_or-append_right (take from ps) (map Known text ++ drop (from + length text) ps) from at d front above

  placed_inside : (at : ℕ) (d : CellBelief) → from ≤ at → at < from + length text → get_or (placed from text ps) at d ≡ Known (get_or text (at - from) 0)
  placed_inside at d above below =
      behind at d above
      ∙ get_or_append_left (map Known text) (drop (from + length text) ps) d (at - from) (omega (arith, length-map text Known))
      ∙ get_or-map Known text (at - from) 0 d (omega arith)

  placed_apart : (at : ℕ) (d : CellBelief) → IsApart from (from + length text) at → get_or (placed from text ps) at d ≡ get_or ps at d
  placed_apart at d apart = elim (cases_lt at from) [
    | inl before ↦ get_or_append_left (take from ps) (map Known text ++ drop (from + length text) ps) d at (omega (arith, front)) ∙ get_or-take from ps at d before
    | inr after ↦ elim (cases_lt at (from + length text)) [
      | inl inside ↦ absurd (apart after inside)
      | inr beyond ↦
          let there : from + length text + (at - from - length text) ≡ at = omega arith in
          behind at d after
          ∙ get_or-append_right (map Known text) (drop (from + length text) ps) (length text) (at - from) d (length-map text Known) (omega arith)
          ∙ get_or-drop (from + length text) ps (at - from - length text) d
          ∙ ap (λ (n : ℕ). get_or ps n d) there
    ]
  ]

-- ---- how it is kept

module _ (heads : List AttributeKnowledge) (attributes known told bytes : List ℕ) (now : List CellBelief) (view : kept (place_by heads attributes known told) 0 bytes ≡ now) (from : ℕ) (text : List ℕ) (room : from + length text ≤ length bytes)
    (attributes_ known_ bytes_ : List ℕ) (size : length bytes_ ≡ length bytes)
    (bytes_inside : (at : ℕ) → from ≤ at → at < from + length text → get_or bytes_ at 0 ≡ get_or text (at - from) 0) (bytes_apart : (at : ℕ) → IsApart from (from + length text) at → get_or bytes_ at 0 ≡ get_or bytes at 0)
    (attributes_inside : (at : ℕ) → from ≤ at → at < from + length text → has_bit attributes_ at ≡ false) (attributes_apart : (at : ℕ) → IsApart from (from + length text) at → has_bit attributes_ at ≡ has_bit attributes at)
    (known_inside : (at : ℕ) → from ≤ at → at < from + length text → has_bit known_ at ≡ true) (known_apart : (at : ℕ) → IsApart from (from + length text) at → has_bit known_ at ≡ has_bit known at) where
  abbrev before : ℕ → ℕ → CellBelief
  before = place_by heads attributes known told

  abbrev after : ℕ → ℕ → CellBelief
  after = place_by heads attributes_ known_ told

  many : length now ≡ length bytes
  many = sym (ap length view) ∙ length_kept before 0 bytes

  was : (at : ℕ) → at < length bytes → get_or now at Unknown ≡ before at (get_or bytes at 0)
  was at low = let byte : ℕ = get_or bytes at 0 in ap (λ (ps : List CellBelief). get_or ps at Unknown) (sym view) ∙ kept_at before bytes at byte Unknown low (get_or_default bytes at 0 byte low)

  is : (at : ℕ) → at < length bytes → get_or (kept after 0 bytes_) at Unknown ≡ after at (get_or bytes_ at 0)
  is at low = let byte : ℕ = get_or bytes_ at 0 in kept_at after bytes_ at byte Unknown (omega arith) (get_or_default bytes_ at 0 byte (omega arith))

  here : (at : ℕ) → from ≤ at → at < from + length text → after at (get_or bytes_ at 0) ≡ Known (get_or text (at - from) 0)
  here at above below =
      ap (λ (a : Bool). place_kept (get_or heads at no_head) a (has_bit known_ at) (has_bit told at) (get_or bytes_ at 0)) (attributes_inside at above below)
      ∙ ap (λ (k : Bool). place_kept (get_or heads at no_head) false k (has_bit told at) (get_or bytes_ at 0)) (known_inside at above below)
      ∙ ap Known (bytes_inside at above below)

  apart : (at : ℕ) → IsApart from (from + length text) at → after at (get_or bytes_ at 0) ≡ before at (get_or bytes at 0)
  apart at away =
      ap (after at) (bytes_apart at away)
      ∙ ap (λ (a : Bool). place_kept (get_or heads at no_head) a (has_bit known_ at) (has_bit told at) (get_or bytes at 0)) (attributes_apart at away)
      ∙ ap (λ (k : Bool). place_kept (get_or heads at no_head) (has_bit attributes at) k (has_bit told at) (get_or bytes at 0)) (known_apart at away)

  each : (at : ℕ) → at < length bytes → get_or (kept after 0 bytes_) at Unknown ≡ get_or (placed from text now) at Unknown
  each at low = elim (cases_lt at from) [
    | inl less ↦
        let away : IsApart from (from + length text) at = λ above below. omega arith in
        is at low ∙ apart at away ∙ sym (was at low) ∙ sym (placed_apart from text now (omega (arith, many)) at Unknown away)
    | inr above ↦ elim (cases_lt at (from + length text)) [
      | inl below ↦ is at low ∙ here at above below ∙ sym (placed_inside from text now (omega (arith, many)) at Unknown above below)
      | inr beyond ↦
          let away : IsApart from (from + length text) at = λ again below. omega arith in
          is at low ∙ apart at away ∙ sym (was at low) ∙ sym (placed_apart from text now (omega (arith, many)) at Unknown away)
    ]
  ]

  pub run_held : kept after 0 bytes_ ≡ placed from text now
  run_held =
      let long : length (kept after 0 bytes_) ≡ length bytes = length_kept after 0 bytes_ ∙ size in
      ext_get_or Unknown (kept after 0 bytes_) (placed from text now) (long ∙ sym many ∙ sym (length-placed from text now (omega (arith, many)))) (λ at low. each at (omega (arith, long)))

  pub run_marked : MarksKnown known now → MarksKnown known_ (kept after 0 bytes_)
  run_marked marked = λ cell low.
      let long : length (kept after 0 bytes_) ≡ length bytes = length_kept after 0 bytes_ ∙ size in
      elim (cases_lt cell from) [
        | inl less ↦ outside cell (omega (arith, long)) (λ above below. omega arith) marked
        | inr above ↦ elim (cases_lt cell (from + length text)) [
          | inl below ↦ known_inside cell above below ∙ sym (ap is_known (is cell (omega (arith, long)) ∙ here cell above below))
          | inr beyond ↦ outside cell (omega (arith, long)) (λ again below. omega arith) marked
        ]
      ]
    where
      outside : (cell : ℕ) → cell < length bytes → IsApart from (from + length text) cell → MarksKnown known now → has_bit known_ cell ≡ is_known (get_or (kept after 0 bytes_) cell Unknown)
      outside cell low away marked = known_apart cell away ∙ marked cell (omega (arith, many)) ∙ ap is_known (was cell low ∙ sym (apart cell away) ∙ sym (is cell low))

-- ---- a range of bytes that is copied, or one byte

pub copied_inside : (from : ℕ) (text bytes : List ℕ) (at : ℕ) → from + length text ≤ length bytes → from ≤ at → at < from + length text → get_or (take from bytes ++ (text ++ drop (from + length text) bytes)) at 0 ≡ get_or text (at - from) 0
copied_inside from text bytes at room above below =
    get_or-append_right (take from bytes) (text ++ drop (from + length text) bytes) from at 0 (length-take-le from bytes (omega arith)) above
    ∙ get_or_append_left text (drop (from + length text) bytes) 0 (at - from) (omega arith)

pub copied_apart : (from : ℕ) (text bytes : List ℕ) (at : ℕ) → from + length text ≤ length bytes → IsApart from (from + length text) at → get_or (take from bytes ++ (text ++ drop (from + length text) bytes)) at 0 ≡ get_or bytes at 0
copied_apart from text bytes at room apart = elim (cases_lt at from) [
  | inl before ↦ get_or_append_left (take from bytes) (text ++ drop (from + length text) bytes) 0 at (omega (arith, length-take-le from bytes (omega arith))) ∙ get_or-take from bytes at 0 before
  | inr after ↦ elim (cases_lt at (from + length text)) [
    | inl inside ↦ absurd (apart after inside)
    | inr beyond ↦
        let there : from + length text + (at - from - length text) ≡ at = omega arith in
        get_or-append_right (take from bytes) (text ++ drop (from + length text) bytes) from at 0 (length-take-le from bytes (omega arith)) after
        ∙ get_or-append_right text (drop (from + length text) bytes) (length text) (at - from) 0 refl (omega arith)
        ∙ get_or-drop (from + length text) bytes (at - from - length text) 0
        ∙ ap (λ (n : ℕ). get_or bytes n 0) there
  ]
]

pub length-copied : (from : ℕ) (text bytes : List ℕ) → from + length text ≤ length bytes → length (take from bytes ++ (text ++ drop (from + length text) bytes)) ≡ length bytes
length-copied from text bytes room =
    omega (arith, length-append (take from bytes) (text ++ drop (from + length text) bytes), length-append text (drop (from + length text) bytes), length-take-le from bytes (omega arith), length-drop (from + length text) bytes)

pub one_inside : (from byte : ℕ) (bytes : List ℕ) (at : ℕ) → from + 1 ≤ length bytes → from ≤ at → at < from + 1 → get_or (set bytes from byte) at 0 ≡ get_or (byte ∷ []) (at - from) 0
one_inside from byte bytes at room above below =
    let here : at ≡ from = omega arith in
    let first : at - from ≡ 0 = omega arith in
    ap (λ (n : ℕ). get_or (set bytes from byte) n 0) here ∙ get_or-set_same bytes from byte 0 (omega arith) ∙ ap (λ (n : ℕ). get_or (byte ∷ []) n 0) (sym first)

pub bit_here : (at other : ℕ) (bit now old : Bool) → now ≡ (if nat_eq other at then bit else old) → other ≡ at → now ≡ bit
bit_here at other bit now old is same = is ∙ ap (λ (t : Bool). if t then bit else old) (eq-eqb other at same)

pub bit_elsewhere : (at other : ℕ) (bit now old : Bool) → now ≡ (if nat_eq other at then bit else old) → (other ≡ at → ⊥) → now ≡ old
bit_elsewhere at other bit now old is apart = is ∙ ap (λ (t : Bool). if t then bit else old) (ne_eqb other at apart)

-- ---- the bits of a word that are clear from a place on

pub words_clear : (has : ℕ → Bool) (size word at to count : ℕ) → AreBits size has (at / 64) word → ((other : ℕ) → at % 64 ≤ other → other < at % 64 + count → bit_at word other ≡ 0) → at % 64 + count ≤ 64 → to ≤ size
    → (cell : ℕ) → at ≤ cell → cell < at + count → cell < to → has cell ≡ false
words_clear has size word at to count bits clear within few cell above below inside =
    let place : ℕ = cell - 64 * (at / 64) in
    let there : 64 * (at / 64) + place ≡ cell = omega arith in
    ap has (sym there) ∙ bit_false (has (64 * (at / 64) + place)) (bit_at word place) (bits place (omega arith) (omega arith)) (clear place (omega arith) (omega arith))
