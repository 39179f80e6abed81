-- How long a field is: up to the next listed attribute, round the end.
use Rattle.std.proofs.Common.{◌≡◌, ℕ, ◌+◌, ◌-◌, ◌%◌, ◌<◌, ◌≤◌, ◌==◌, Bool, true, false, List, length, get_or, arith, sym, ◌∙◌, ap, inl, inr, refl}
use Rattle.std.proofs.Math.Nat.{mod-lt, mod-eq_of_lt, mod_self}
use Rattle.std.proofs.lemmas.Bool.{cases_lt, cases_eq}
use Rattle.std.proofs.lemmas.Bool.Decides.{nat_tests}
use Rattle.codes3270.specs.declared.attribute.Cell.{Cell}
use Rattle.codes3270.specs.declared.attribute.Cell.TheVariants.{Char}
use Rattle.datastream.specs.Screen.{is_char, is_char_at, ring, field_text}
use Rattle.datastream.specs.Span.{distance}
use Rattle.datastream.proofs.Rounds.{round_once, behind_ahead, behind_round}
use Rattle.datastream.proofs.Spans.{distances_lead}
use Rattle.datastream.proofs.Texts.{get_or-ring}
use Rattle.presentation.specs.Places.{attribute_places}
use Rattle.presentation.specs.Index.{AreAscending, place_of}
use Rattle.presentation.proofs.Nearest.{rising}
use Rattle.presentation.proofs.Texts.{text_ends_at, length-ring}
use Rattle.presentation.proofs.AttributePlaces.{are_ascending, place_holds, place_listed}

-- which place comes next, round the end
abbrev pub next_index : ℕ → List ℕ → ℕ
next_index index places = (index + 1) % length places

next_below : (index : ℕ) (places : List ℕ) → index < length places → next_index index places < length places
next_below index places below = mod-lt (index + 1) (omega arith)

-- no place is listed between one and the next
none_between : (size : ℕ) (places : List ℕ) (index other step : ℕ) → AreAscending size places → index < length places → other < length places → 0 < step
    → step < distance size (get_or places index 0) (get_or places (next_index index places) 0) → get_or places other 0 ≡ (get_or places index 0 + step) % size → ⊥
none_between size places index other step ascending below there some few is = elim (cases_lt (index + 1) (length places)) [
  | inl more ↦ ahead more
  | inr last ↦ round last
]
  where
    place : ℕ
    place = get_or places index 0

    inside : get_or places index 0 < size
    inside = ascending.within index below

    ahead : index + 1 < length places → ⊥
    ahead more =
        let next : ℕ = get_or places (index + 1) 0 in
        let following : next_index index places ≡ index + 1 = mod-eq_of_lt more in
        let later : place < next = ascending.order index (index + 1) (omega arith) more in
        let within : next < size = ascending.within (index + 1) more in
        let apart : (place == next) ≡ false = grind (arith, nat_tests) in
        let span : (next + size - place) % size ≡ next - place = behind_ahead size place next (omega arith) within in
        let close : step < next - place = rw (following, apart, span) at few in
        let here : get_or places other 0 ≡ place + step = is ∙ mod-eq_of_lt (omega arith) in
        elim (cases_lt index other) [
          | inl higher ↦ absurd (omega (arith, rising size places ascending (index + 1) other (omega arith) there))
          | inr lower ↦ absurd (omega (arith, rising size places ascending other index lower below))
        ]

    round : length places ≤ index + 1 → ⊥
    round last =
        let first : ℕ = get_or places 0 0 in
        let whole : index + 1 ≡ length places = omega arith in
        let following : next_index index places ≡ 0 = rw whole (mod_self (length places)) in
        let lowest : first ≤ get_or places other 0 = rising size places ascending 0 other (omega arith) there in
        let highest : get_or places other 0 ≤ place = rising size places ascending other index (omega arith) below in
        let close : step < first + size - place = elim (cases_eq place first) [
          | inl same ↦
              let test : (place == first) ≡ true = grind (arith, nat_tests) in
              let all : step < size = rw (following, test) at few in
              omega arith
          | inr apart ↦
              let test : (place == first) ≡ false = grind (arith, nat_tests) in
              let span : (first + size - place) % size ≡ first + size - place = behind_round size place first (omega arith) inside in
              rw (following, test, span) at few
        ] in
        elim (cases_lt (place + step) size) [
          | inl lower ↦ absurd (omega (arith, is ∙ mod-eq_of_lt lower))
          | inr upper ↦ absurd (omega (arith, is ∙ round_once (place + step) size upper (omega arith)))
        ]

-- a field has as many cells as lie between its attribute and the next one
pub field_spans : (cells : List Cell) (index : ℕ) → index < length (attribute_places cells 0)
    → distance (length cells) (place_of cells index) (place_of cells (next_index index (attribute_places cells 0))) - 1 ≡ length (field_text cells (place_of cells index))
field_spans cells index below =
    let lead = distances_lead size place next inside next_inside in
    let count : ℕ = distance size place next - 1 in
    let after : place + 1 ≤ size = omega (arith, inside) in
    let long : length (ring (place + 1) cells) ≡ size = length-ring cells (place + 1) after in
    let short : count < size = omega (arith, lead.0, lead.1) in
    let few : count ≤ length (ring (place + 1) cells) = rw long (omega (arith, short)) in
    sym (text_ends_at (ring (place + 1) cells) count few
    (λ step lower. ap is_char (get_or-ring cells (place + 1) step (Char 0) after (omega (arith, short))) ∙ character step lower)
    (λ lower.
    let onward : place + 1 + count ≡ place + distance size place next = omega (arith, lead.0) in
    ap is_char (get_or-ring cells (place + 1) count (Char 0) after short)
    ∙ rw (onward, lead.2) (place_holds cells (next_index index places) (next_below index places below))))
  where
    size : ℕ
    size = length cells

    places : List ℕ
    places = attribute_places cells 0

    place : ℕ
    place = place_of cells index

    next : ℕ
    next = place_of cells (next_index index (attribute_places cells 0))

    inside : place_of cells index < length cells
    inside = (are_ascending cells).within index below

    next_inside : place_of cells (next_index index (attribute_places cells 0)) < length cells
    next_inside = (are_ascending cells).within (next_index index (attribute_places cells 0)) (next_below index (attribute_places cells 0) below)

    character : (step : ℕ) → step < distance (length cells) (place_of cells index) (place_of cells (next_index index (attribute_places cells 0))) - 1 → is_char_at cells ((place_of cells index + 1 + step) % length cells) ≡ true
    character step lower = by_test (is_char_at cells ((place_of cells index + 1 + step) % length cells)) refl
      where
        by_test : (test : Bool) → is_char_at cells ((place_of cells index + 1 + step) % length cells) ≡ test → test ≡ true
        by_test true is = refl
        by_test false is =
            let there = place_listed cells ((place_of cells index + 1 + step) % length cells) (mod-lt (place_of cells index + 1 + step) (omega (arith, inside))) is in
            let onward : place_of cells index + 1 + step ≡ place_of cells index + (step + 1) = omega arith in
            absurd (none_between (length cells) (attribute_places cells 0) index there.0 (step + 1) (are_ascending cells) below there.1 (omega arith) (omega arith)
            (there.2 ∙ ap (λ (at : ℕ). at % length cells) onward))
