-- The nearest attribute before an address, round the end, found in two searches: up to the address, and then up to the last cell.
use Rattle.std.proofs.Common.{◌≡◌, ℕ, ◌+◌, ◌-◌, ◌%◌, ◌<◌, ◌≤◌, not, true, false, List, length, Option, Some, None, ap, arith, sym, ◌∙◌, inl, inr}
use Rattle.std.specs.Option.{option_or, IfSome, IfNone}
use Rattle.std.specs.List.{list_all}
use Rattle.std.proofs.Math.Nat.{mod-eq_of_lt}
use Rattle.std.proofs.lemmas.Bool.{cases_lt}
use Rattle.codes3270.specs.declared.attribute.Cell.{Cell}
use Rattle.codes3270.specs.declared.attribute.Cell.TheVariants.{Char}
use Rattle.datastream.specs.CellBits.{has_bit, kept}
use Rattle.datastream.specs.Screen.{is_char, is_char_at, IsGoverned}
use Rattle.datastream.proofs.Fields.{all_characters}
use Rattle.datastream.proofs.Rounds.{round_once}
use Rattle.presentation.specs.Kept.{cell_by}
use Rattle.presentation.proofs.KeptCells.{size, character_read}

-- the last attribute up to an address, if there is one
pub record IsLastTo (cells : List Cell) (to : ℕ) (found : Option ℕ) : Type 0 where
  pub none : IfNone found ((other : ℕ) → other ≤ to → is_char_at cells other ≡ true)
  pub last : IfSome found (λ last. (last ≤ to) × (is_char_at cells last ≡ false) × ((other : ℕ) → last < other → other ≤ to → is_char_at cells other ≡ true))

pub last_read : (attributes codes : List ℕ) (now : List Cell) → kept (cell_by attributes) 0 codes ≡ now → (to : ℕ) → to < length now → (found : Option ℕ)
    → IfNone found ((other : ℕ) → other ≤ to → has_bit attributes other ≡ false)
    → IfSome found (λ last. (last ≤ to) × (has_bit attributes last ≡ true) × ((other : ℕ) → last < other → other ≤ to → has_bit attributes other ≡ false))
    → IsLastTo now to found
last_read attributes codes now view to below None none last =
    let same = size attributes codes now view in
    record { none = λ other before. character_read attributes codes now view other (Char 0) (omega (arith, same, below, before)) ∙ ap not (none other before); last = tt }
last_read attributes codes now view to below (Some found) none last =
    let same = size attributes codes now view in
    record {
      none = tt;
      last = (
        last.0,
        character_read attributes codes now view found (Char 0) (omega (arith, same, below, last.0)) ∙ ap not last.1,
        λ other behind before. character_read attributes codes now view other (Char 0) (omega (arith, same, below, before)) ∙ ap not (last.2 other behind before),
      );
    }

module _ (cells : List Cell) (at : ℕ) (below : at < length cells) where
  before : (attr : ℕ) → attr ≤ at → is_char_at cells attr ≡ false → ((other : ℕ) → attr < other → other ≤ at → is_char_at cells other ≡ true) → IsGoverned cells at attr
  before attr order there none =
      let n : ℕ = length cells in
      let back : ℕ = at - attr in
      record {
        back = back;
        near = omega (arith, below, order);
        place = sym (round_once (at + n - back) n (omega (arith, order)) (omega (arith, below, order)) ∙ omega (arith, order));
        there = there;
        none_nearer = λ nearer less.
            let once : (at + n - nearer) % n ≡ at - nearer = round_once (at + n - nearer) n (omega (arith, less)) (omega (arith, below, less)) ∙ omega (arith, less) in
            ap (is_char_at cells) once ∙ none (at - nearer) (omega (arith, less, order)) (omega arith);
      }

  round : (attr : ℕ) → at < attr → attr < length cells → is_char_at cells attr ≡ false → ((other : ℕ) → other ≤ at → is_char_at cells other ≡ true)
      → ((other : ℕ) → attr < other → other ≤ length cells - 1 → is_char_at cells other ≡ true) → IsGoverned cells at attr
  round attr order inside there none none_behind =
      let n : ℕ = length cells in
      let back : ℕ = at + n - attr in
      let whole : at + n - back ≡ attr = omega (arith, order, inside) in
      record {
        back = back;
        near = omega (arith, order, inside);
        place = sym (ap (λ (k : ℕ). k % n) whole ∙ mod-eq_of_lt inside);
        there = there;
        none_nearer = λ nearer less. elim (cases_lt at nearer) [
          | inl further ↦
              let once : (at + n - nearer) % n ≡ at + n - nearer = mod-eq_of_lt (omega (arith, further, less, order, inside)) in
              ap (is_char_at cells) once ∙ none_behind (at + n - nearer) (omega (arith, less, inside)) (omega (arith, further, below))
          | inr nigh ↦
              let once : (at + n - nearer) % n ≡ at - nearer = round_once (at + n - nearer) n (omega (arith, nigh)) (omega (arith, below, nigh)) ∙ omega (arith, nigh) in
              ap (is_char_at cells) once ∙ none (at - nearer) (omega arith)
        ];
      }

  pub none_governs : (first last : Option ℕ) → IsLastTo cells at first → IsLastTo cells (length cells - 1) last → IfNone (option_or first last) (list_all is_char cells ≡ true)
  none_governs None None a b = all_characters cells (λ other inside. b.none other (omega (arith, inside)))
  none_governs None (Some x) a b = tt
  none_governs (Some y) last a b = tt

  pub one_governs : (first last : Option ℕ) → IsLastTo cells at first → IsLastTo cells (length cells - 1) last → IfSome (option_or first last) (λ attr. IsGoverned cells at attr)
  one_governs None None a b = tt
  one_governs None (Some attr) a b = elim (cases_lt at attr) [
    | inl further ↦ round attr further (omega (arith, b.last.0, below)) b.last.1 a.none b.last.2
    | inr nigh ↦ absurd (let no : true ≡ false = sym (a.none attr nigh) ∙ b.last.1 in cc)
  ]
  one_governs (Some attr) last a b = before attr a.last.0 a.last.1 a.last.2

  pub one_within : (first last : Option ℕ) → IsLastTo cells at first → IsLastTo cells (length cells - 1) last → IfSome (option_or first last) (λ attr. attr < length cells)
  one_within None None a b = tt
  one_within None (Some attr) a b = omega (arith, b.last.0, below)
  one_within (Some attr) last a b = omega (arith, a.last.0, below)
