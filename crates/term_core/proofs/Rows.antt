-- Rows of glyphs, one more at a time.
use Rattle.std.proofs.Common.{◌≡◌, ℕ, ◌+◌, ◌*◌, ◌<◌, ◌≤◌, ◌-◌, ◌==◌, Bool, true, false, List, [], ◌∷◌, ◌++◌, length, take, drop, get_or, map, replicate, suc, zero, arith, sym, ◌∙◌, ap, refl, append_assoc, add-one}
use Rattle.std.specs.Prelude.{Option, Some, None, unwrap_or, MatchOption, Result, Ok, Err, OnOk, is_ok, if◌then◌else◌}
use Rattle.std.specs.List.{flat_map, range_with_len}
use Rattle.std.proofs.Math.Nat.{mul-le-mul_right}
use Rattle.std.specs.Char.{encode_utf8}
use Rattle.std.proofs.lemmas.Grind.{flat_map-append}
use Rattle.std.proofs.lemmas.List.{append-nil, replicate-append-replicate, drop_more, drop-drop, length-drop}
use Rattle.std.proofs.lemmas.Bool.Decides.{nat_tests}
use Rattle.std.proofs.lemmas.List.FromFn.{take-map-range_with_len}
use Rattle.codes3270.specs.declared.attribute.Cell.{Cell}
use Rattle.presentation.specs.Glyph.{glyph_at, all_glyphs, blank}
use Rattle.term_core.specs.ScreenText.{glyphs, before_trimmed, trimmed, newline, line_of, line, lines, let_out, waiting_behind}

glyphs_are : (cells : List Cell) (count at : ℕ) → glyphs cells at count ≡ map (glyph_at cells) (range_with_len at count)
unfolding glyphs
glyphs_are cells zero at = refl
glyphs_are cells (suc count) at = ap (λ (rest : List ℕ). glyph_at cells at ∷ rest) (glyphs_are cells count (at + 1))

left_of_walk : (f : ℕ → ℕ) (from count gone at left : ℕ) → from + gone ≡ at → gone + left ≡ count
    → drop gone (map f (range_with_len from count)) ≡ map f (range_with_len at left)
left_of_walk f from count zero at left here many =
    let there : from ≡ at = omega arith in
    let all : count ≡ left = omega arith in
    ap (λ (n : ℕ). map f (range_with_len n count)) there ∙ ap (λ (n : ℕ). map f (range_with_len at n)) all
left_of_walk f from zero (suc gone) at left here many = absurd (omega arith)
left_of_walk f from (suc count) (suc gone) at left here many = left_of_walk f (from + 1) count gone at left (omega arith) (omega arith)

-- as many of all glyphs, from an address on
pub part_of_walk : (cells : List Cell) (at count : ℕ) → at + count ≤ length cells → take count (drop at (all_glyphs cells)) ≡ glyphs cells at count
part_of_walk cells at count within =
    let left : ℕ = length cells - at in
    ap (take count) (left_of_walk (glyph_at cells) 0 (length cells) at at left (omega arith) (omega arith))
    ∙ take-map-range_with_len (glyph_at cells) at left count (omega arith)
    ∙ sym (glyphs_are cells count at)

trimmed_blank : (text : List ℕ) (char : ℕ) → char == blank ≡ true → trimmed (text ++ char ∷ []) ≡ trimmed text
trimmed_blank [] char e = rw e refl
trimmed_blank (first ∷ text) char e = ap (before_trimmed first) (trimmed_blank text char e)

in_front : (first : ℕ) (text : List ℕ) (char : ℕ) → before_trimmed first (text ++ char ∷ []) ≡ first ∷ (text ++ char ∷ [])
in_front first [] char = refl
in_front first (next ∷ text) char = refl

trimmed_shown : (text : List ℕ) (char : ℕ) → char == blank ≡ false → trimmed (text ++ char ∷ []) ≡ text ++ char ∷ []
trimmed_shown [] char e = rw e refl
trimmed_shown (first ∷ text) char e = ap (before_trimmed first) (trimmed_shown text char e) ∙ in_front first text char

-- of a row so far all but the blanks that wait is its trimmed text
abbrev pub Waits : List ℕ → ℕ → Type 0
Waits row waiting = row ≡ trimmed row ++ replicate waiting blank

waits_by : (is_blank : Bool) (row : List ℕ) (waiting glyph : ℕ) → glyph == blank ≡ is_blank → Waits row waiting
    → (trimmed (row ++ glyph ∷ []) ≡ trimmed row ++ let_out waiting glyph) × Waits (row ++ glyph ∷ []) (waiting_behind waiting glyph)
waits_by true row waiting glyph e waits =
    let out : let_out waiting glyph ≡ [] = rw e refl in
    let more : waiting_behind waiting glyph ≡ waiting + 1 = rw e refl in
    let is : glyph ≡ blank = grind (arith, nat_tests) in
    let same : trimmed (row ++ glyph ∷ []) ≡ trimmed row = trimmed_blank row glyph e in
    let one_more : replicate waiting blank ++ blank ∷ [] ≡ replicate (waiting + 1) blank = replicate-append-replicate waiting 1 blank in (
      same ∙ sym (ap (λ (some : List ℕ). trimmed row ++ some) out ∙ append-nil (trimmed row)),
      ap (λ (some : List ℕ). some ++ glyph ∷ []) waits ∙ append_assoc (trimmed row) (replicate waiting blank) (glyph ∷ [])
          ∙ ap (λ (g : ℕ). trimmed row ++ (replicate waiting blank ++ g ∷ [])) is
          ∙ ap (λ (some : List ℕ). trimmed row ++ some) one_more
          ∙ ap (λ (some : List ℕ). some ++ replicate (waiting + 1) blank) (sym same)
          ∙ ap (λ (n : ℕ). trimmed (row ++ glyph ∷ []) ++ replicate n blank) (sym more),
    )
waits_by false row waiting glyph e waits =
    let out : let_out waiting glyph ≡ replicate waiting blank ++ glyph ∷ [] = rw e refl in
    let none : waiting_behind waiting glyph ≡ 0 = rw e refl in
    let all : trimmed (row ++ glyph ∷ []) ≡ row ++ glyph ∷ [] = trimmed_shown row glyph e in (
      all ∙ ap (λ (some : List ℕ). some ++ glyph ∷ []) waits ∙ append_assoc (trimmed row) (replicate waiting blank) (glyph ∷ [])
          ∙ ap (λ (some : List ℕ). trimmed row ++ some) (sym out),
      sym all ∙ sym (append-nil (trimmed (row ++ glyph ∷ []))) ∙ ap (λ (n : ℕ). trimmed (row ++ glyph ∷ []) ++ replicate n blank) (sym none),
    )

-- a glyph more
pub waits_more : (row : List ℕ) (waiting glyph : ℕ) → Waits row waiting
    → (trimmed (row ++ glyph ∷ []) ≡ trimmed row ++ let_out waiting glyph) × Waits (row ++ glyph ∷ []) (waiting_behind waiting glyph)
waits_more row waiting glyph waits = waits_by (glyph == blank) row waiting glyph refl waits

pub written_more : (before now after row next added : List ℕ) → next ≡ row ++ added
    → now ≡ before ++ flat_map encode_utf8 row → after ≡ now ++ flat_map encode_utf8 added
    → after ≡ before ++ flat_map encode_utf8 next
written_more before now after row next added is so_far more =
    more ∙ ap (λ (bytes : List ℕ). bytes ++ flat_map encode_utf8 added) so_far
    ∙ append_assoc before (flat_map encode_utf8 row) (flat_map encode_utf8 added)
    ∙ ap (λ (bytes : List ℕ). before ++ bytes) (sym (ap (flat_map encode_utf8) is ∙ flat_map-append encode_utf8 row added))

-- the next glyph of a walk
pub next_of : (all : List ℕ) (at : ℕ) (now after : List ℕ) (next : Option ℕ) → at < length all → now ≡ drop at all
    → MatchOption next ((now ≡ []) × (after ≡ [])) (λ glyph. now ≡ glyph ∷ after)
    → (unwrap_or next blank ≡ get_or all at 0) × (after ≡ drop (at + 1) all)
next_of all at now after None below here step =
    let nothing : [] ≡ get_or all at 0 ∷ drop (at + 1) all = sym step.0 ∙ here ∙ drop_more all at 0 below in
    absurd (cc)
next_of all at now after (Some glyph) below here step =
    let same : glyph ∷ after ≡ get_or all at 0 ∷ drop (at + 1) all = sym step ∙ here ∙ drop_more all at 0 below in
    (ap (λ (left : List ℕ). get_or left 0 0) same, ap (λ (left : List ℕ). drop 1 left) same)

-- a row is written, and its newline
pub line_ended : {T E : Type 0} (result : Result T E) (before now after row : List ℕ) → now ≡ before ++ flat_map encode_utf8 (trimmed row)
    → after ≡ (if is_ok result then now ++ newline ∷ [] else now) → OnOk result (after ≡ before ++ line_of row)
line_ended (Ok done) before now after row so_far more =
    more ∙ ap (λ (bytes : List ℕ). bytes ++ newline ∷ []) so_far ∙ append_assoc before (flat_map encode_utf8 (trimmed row)) (newline ∷ [])
line_ended (Err fault) before now after row so_far more = tt

pub enough_left : (all : List ℕ) (gone width : ℕ) → gone + width ≤ length all → width ≤ length (drop gone all)
enough_left all gone width within = rw (length-drop gone all) (omega arith)

pub gone_more : (all : List ℕ) (gone width next : ℕ) → gone + width ≡ next → drop width (drop gone all) ≡ drop next all
gone_more all gone width next is = drop-drop width gone all ∙ ap (λ (count : ℕ). drop count all) is

pub no_lines : (columns : ℕ) (cells : List Cell) → lines columns cells 0 ≡ []
unfolding lines
no_lines columns cells = refl

pub lines_more : (columns : ℕ) (cells : List Cell) (count : ℕ) → lines columns cells (count + 1) ≡ lines columns cells count ++ line columns cells count
unfolding lines
lines_more columns cells count = rw add-one refl

-- a line more
pub listed_more : (before now after : List ℕ) (columns : ℕ) (cells : List Cell) (row : ℕ) → now ≡ before ++ lines columns cells row → after ≡ now ++ line columns cells row
    → after ≡ before ++ lines columns cells (row + 1)
listed_more before now after columns cells row so_far more =
    more ∙ ap (λ (bytes : List ℕ). bytes ++ line columns cells row) so_far ∙ append_assoc before (lines columns cells row) (line columns cells row)
    ∙ ap (λ (bytes : List ℕ). before ++ bytes) (sym (lines_more columns cells row))

-- the cells of a row are among those of the screen
pub row_within : (rows columns row : ℕ) → row < rows → row * columns + columns ≤ rows * columns
row_within rows columns row lower =
    let next : (row + 1) * columns ≤ rows * columns = mul-le-mul_right columns (omega (arith, lower)) in
    let more : (row + 1) * columns ≡ row * columns + columns = omega arith in
    omega (arith, next, more)
