use Rattle.std.proofs.Common.{◌≡◌, ◌∙◌, ◌+◌, ℕ, List, map, arith, slice_index_or}
use Rattle.std.specs.List.{range_with_len}
use Rattle.std.proofs.lemmas.List.FromFn.{get_or-map-range_with_len}
use Rattle.presentation.specs.Glyph.{glyph_of_code}
use Rattle.presentation.proofs.glyph.glyph_of_code.Goals as goal

pub returns : goal.returns
returns c =
    let glyphs : List ℕ = map glyph_of_code (range_with_len 0 256) in
    let read : c.from-2.result ≡ slice_index_or glyphs c.from.result 0 = c.from-2.ensures in
    let zero : 0 + c.args.code ≡ c.args.code = omega arith in
    let found : slice_index_or glyphs c.args.code 0 ≡ glyph_of_code c.args.code =
    get_or-map-range_with_len glyph_of_code 0 256 c.args.code c.args.code 0 (omega (arith, c.ranges.code.fits)) zero in
    ◌∙◌ {b = slice_index_or glyphs c.args.code 0} (rw c.from.ensures at read) found
