-- Starts, by the list of attributes.
use Rattle.std.proofs.Common.{◌≡◌, ℕ, ◌+◌, ◌-◌, ◌<◌, ◌≤◌, Bool, true, false, List, length, get_or, drop, cond, Option, Some, refl, ap, sym, ◌∙◌, arith, inl, inr, zero, suc}
use Rattle.std.proofs.lemmas.Bool.{cases_lt}
use Rattle.std.proofs.lemmas.List.{drop_more, drop_all}
use Rattle.codes3270.specs.declared.attribute.Cell.{Cell}
use Rattle.codes3270.specs.declared.attribute.Cell.TheVariants.{Char, Attr}
use Rattle.datastream.specs.Screen.{is_char}
use Rattle.datastream.specs.Meaning.{is_start, home, place_or_first}
use Rattle.presentation.specs.Places.{IsFirstStart, attribute_places, starts_at}
use Rattle.presentation.specs.Index.{HaveNoStart, IsFirstFrom, IsFirstWithStart, place_of}
use Rattle.presentation.proofs.AttributePlaces.{are_ascending, place_listed}
use Rattle.presentation.proofs.Nearest.{rising}
use Rattle.presentation.proofs.Starts.{start_from, first_start_is}

behind_attribute : (before cell : Cell) → is_start (before, cell) ≡ true → is_char before ≡ false
behind_attribute (Char code) cell is = cc
behind_attribute (Attr attribute) cell is = refl

none_before : (cells : List Cell) (at from to place : ℕ) → IsFirstFrom (attribute_places cells 0) at from → HaveNoStart cells from to
    → ((index : ℕ) → to ≤ index → index < length (attribute_places cells 0) → place ≤ place_of cells index)
    → at < place → place < length cells → starts_at cells place ≡ false
none_before cells at from to place first none later behind below = by_test (starts_at cells place) refl
  where
    by_test : (test : Bool) → starts_at cells place ≡ test → test ≡ false
    by_test false is = refl
    by_test true is =
        let there = place_listed cells (place - 1) (omega (arith, behind, below)) (behind_attribute (get_or cells (place - 1) (Char 0)) (get_or cells place (Char 0)) is) in
        let index : ℕ = there.0 in
        let next : place_of cells index + 1 ≡ place = omega (arith, there.2, behind) in
        let after : from ≤ index = elim (cases_lt index from) [
          | inl lower ↦ absurd (omega (arith, first.before index lower there.1, next, behind))
          | inr upper ↦ upper
        ] in
        let before : index < to = elim (cases_lt index to) [
          | inl lower ↦ lower
          | inr upper ↦ absurd (omega (arith, later index upper there.1, next))
        ] in
        sym is ∙ ap (starts_at cells) (sym next) ∙ none index after before (omega (arith, next, below))

pub none_behind : (cells : List Cell) (at from : ℕ) → IsFirstFrom (attribute_places cells 0) at from → HaveNoStart cells from (length (attribute_places cells 0))
    → (place : ℕ) → at < place → place < length cells → starts_at cells place ≡ false
none_behind cells at from first none place behind below =
    none_before cells at from (length (attribute_places cells 0)) place first none (λ index upper lower. absurd (omega (arith, upper, lower))) behind below

pub first_behind : (cells : List Cell) (at from index : ℕ) → IsFirstFrom (attribute_places cells 0) at from → IsFirstWithStart cells from index → IsFirstStart cells at (place_of cells index + 1)
first_behind cells at from index first is = record {
  after = omega (arith, first.from index is.after is.listed);
  within = is.within;
  there = is.there;
  none_nearer = λ nearer behind before.
      none_before cells at from index nearer first is.none_nearer
      (λ other later below. omega (arith, before, rising (length cells) (attribute_places cells 0) (are_ascending cells) index other later below))
      behind (omega (arith, before, is.within));
}

-- ---- home

abbrev ahead_of : List Cell → ℕ → Option ℕ
ahead_of cells place = start_from (get_or cells (place - 1) (Char 0)) place (drop place cells)

one_step : (cells : List Cell) (place : ℕ) (test : Bool) → place < length cells → starts_at cells place ≡ test → cond test (Some place) (ahead_of cells (place + 1)) ≡ ahead_of cells place
one_step cells place test below is =
    let back : place ≡ place + 1 - 1 = omega arith in
    sym (ap (start_from (get_or cells (place - 1) (Char 0)) place) (drop_more cells place (Char 0) below)
    ∙ ap (λ (start : Bool). cond start (Some place) (start_from (get_or cells place (Char 0)) (place + 1) (drop (place + 1) cells))) is
    ∙ ap (λ (at : ℕ). cond test (Some place) (start_from (get_or cells at (Char 0)) (place + 1) (drop (place + 1) cells))) back)

steps : (cells : List Cell) (from count : ℕ) → from + count ≤ length cells → ((place : ℕ) → from ≤ place → place < from + count → starts_at cells place ≡ false) → ahead_of cells (from + count) ≡ ahead_of cells from
steps cells from zero few none = let here : from + 0 ≡ from = omega arith in ap (ahead_of cells) here
steps cells from (suc count) few none =
    let more : from + suc count ≡ from + count + 1 = omega arith in
    ap (ahead_of cells) more
    ∙ one_step cells (from + count) false (omega (arith, few)) (none (from + count) (omega arith) (omega arith))
    ∙ steps cells from count (omega (arith, few)) (λ place later before. none place later (omega (arith, before)))

abbrev pub starts_first : List Cell → Bool
starts_first cells = is_start (get_or cells (length cells - 1) (Char 0), get_or cells 0 (Char 0))

home_by : (cells : List Cell) (test : Bool) → 0 < length cells → starts_first cells ≡ test → home cells ≡ place_or_first (cond test (Some 0) (ahead_of cells 1))
home_by cells test some is =
    ap place_or_first
    (first_start_is cells (Char 0) some
    ∙ ap (start_from (get_or cells (length cells - 1) (Char 0)) 0) (drop_more cells 0 (Char 0) some)
    ∙ ap (λ (start : Bool). cond start (Some 0) (start_from (get_or cells 0 (Char 0)) 1 (drop 1 cells))) is)

pub home_found : (cells : List Cell) (start : ℕ) → starts_first cells ≡ false → IsFirstStart cells 0 start → start ≡ home cells
home_found cells start other first =
    let sum : 1 + (start - 1) ≡ start = omega (arith, first.after) in
    sym (home_by cells false (omega (arith, first.within)) other
    ∙ ap place_or_first
    (sym (steps cells 1 (start - 1) (omega (arith, sum, first.within)) (λ place later before. first.none_nearer place (omega (arith, later)) (omega (arith, sum, before))))
    ∙ ap (ahead_of cells) sum
    ∙ sym (one_step cells start true first.within first.there)))

pub home_none : (cells : List Cell) → 0 < length cells → starts_first cells ≡ false → ((place : ℕ) → 0 < place → place < length cells → starts_at cells place ≡ false) → home cells ≡ 0
home_none cells some other none =
    let sum : 1 + (length cells - 1) ≡ length cells = omega (arith, some) in
    home_by cells false some other
    ∙ ap place_or_first
    (sym (steps cells 1 (length cells - 1) (omega (arith, sum)) (λ place later before. none place (omega (arith, later)) (omega (arith, sum, before))))
    ∙ ap (ahead_of cells) sum
    ∙ ap (start_from (get_or cells (length cells - 1) (Char 0)) (length cells)) (drop_all (length cells) cells (omega arith)))
