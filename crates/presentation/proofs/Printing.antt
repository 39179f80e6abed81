-- What is printed, as a walk over the cells finds it.
use Rattle.std.proofs.Common.{◌≡◌, ℕ, ◌+◌, ◌<◌, Bool, List, ◌∷◌, length, get_or, drop, map, arith, sym, ◌∙◌, ap, refl, suc, zero, Option}
use Rattle.std.specs.List.{range_with_len}
use Rattle.std.specs.Option.{option_or}
use Rattle.std.proofs.lemmas.List.{drop_more, drop_all}
use Rattle.codes3270.specs.declared.attribute.Cell.{Cell}
use Rattle.codes3270.specs.declared.attribute.Cell.TheVariants.{Char, Attr}
use Rattle.codes3270.specs.declared.attribute.Attr.{Attr as Attribute}
use Rattle.datastream.specs.Screen.{attribute_in, attribute_over, last_attribute, ring}
use Rattle.datastream.proofs.Fields.{attribute_over_is, ring_all}
use Rattle.presentation.specs.Glyph.{is_hidden, hidden_from, glyph_at, glyphs_from, all_glyphs}

hidden_is : (cell : Cell) (before : Option Attribute) → hidden_from (is_hidden before) cell ≡ is_hidden (option_or (attribute_in cell) before)
hidden_is (Char code) before = refl
hidden_is (Attr attribute) before = refl

hidden_over : (cells : List Cell) (at : ℕ) → at < length cells → hidden_from (is_hidden (last_attribute (ring at cells))) (get_or cells at (Char 0)) ≡ is_hidden (attribute_over cells at)
hidden_over cells at below =
    hidden_is (get_or cells at (Char 0)) (last_attribute (ring at cells)) ∙ ap is_hidden (sym (attribute_over_is cells at (Char 0) below))

walked : (cells : List Cell) (count at : ℕ) (before : Bool) → at + count ≡ length cells → before ≡ is_hidden (last_attribute (ring at cells)) → glyphs_from before (drop at cells) ≡ map (glyph_at cells) (range_with_len at count)
walked cells zero at before end same = rw (drop_all at cells (omega arith))
walked cells (suc count) at before end same =
    let below : at < length cells = omega arith in
    let over : hidden_from before (get_or cells at (Char 0)) ≡ is_hidden (attribute_over cells at) =
    ap (λ (b : Bool). hidden_from b (get_or cells at (Char 0))) same ∙ hidden_over cells at below in
    rw (drop_more cells at (Char 0) below, over)
    (ap (λ (rest : List ℕ). glyph_at cells at ∷ rest) (walked cells count (at + 1) (is_hidden (attribute_over cells at)) (omega arith) refl))

-- from the first cell on, the attribute before it being the one over the last
pub glyphs_walked : (cells : List Cell) (last : ℕ) → last + 1 ≡ length cells → glyphs_from (is_hidden (attribute_over cells last)) cells ≡ all_glyphs cells
glyphs_walked cells last end =
    walked cells (length cells) 0 (is_hidden (attribute_over cells last)) (omega arith)
    (ap is_hidden (ap (λ (from : ℕ). last_attribute (ring from cells)) end ∙ ap last_attribute (ring_all cells)))
