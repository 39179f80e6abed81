-- What is written of one cell more.
use Rattle.std.proofs.Common.{◌≡◌, ℕ, ◌+◌, ◌<◌, List, ◌++◌, length, drop, get_or, Option, arith, sym, ◌∙◌, ap}
use Rattle.std.proofs.lemmas.Grind.{flat_map-append}
use Rattle.std.proofs.lemmas.List.{drop_more, drop-drop, get_or-drop}
use Rattle.tty.specs.declared.place.Place.{Place}
use Rattle.tty.specs.declared.colors.Colors.{Colors}
use Rattle.tty.specs.declared.look.Look.{Look}
use Rattle.tty.specs.declared.picture.PictureCell.{PictureCell}
use Rattle.tty.specs.Pictures.{erased_cell, next_place}
use Rattle.tty.specs.Spelling.{encoded, all_spelt}
use Rattle.tty.specs.Changes.{change, run_after, changes}

first_left : (cells : List PictureCell) (index : ℕ) → get_or (drop index cells) 0 erased_cell ≡ get_or cells index erased_cell
first_left cells index = get_or-drop index cells 0 erased_cell ∙ ap (λ (at : ℕ). get_or cells at erased_cell) (omega arith)

rest_left : (cells : List PictureCell) (index : ℕ) → drop 1 (drop index cells) ≡ drop (index + 1) cells
rest_left cells index = drop-drop 1 index cells

-- what is written from a cell on: of that cell, which was `old` and is `new`, and of the rest
pub change_more : (colors : Colors) (columns : ℕ) (place next : Place) (run goes : Option Look) (olds news : List PictureCell) (index : ℕ) (default old : PictureCell)
    → index < length news → old ≡ get_or olds index erased_cell → next ≡ next_place columns place
    → goes ≡ run_after columns place old (get_or news index default)
    → all_spelt (changes colors columns place run (drop index olds) (drop index news))
    ≡ all_spelt (change colors place run old (get_or news index default)) ++ all_spelt (changes colors columns next goes (drop (index + 1) olds) (drop (index + 1) news))
change_more colors columns place next run goes olds news index default old below was there on =
    let new : PictureCell = get_or news index default in
    let left : List PictureCell = drop (index + 1) news in
    ap (λ (cells : List PictureCell). all_spelt (changes colors columns place run (drop index olds) cells)) (drop_more news index default below)
    ∙ ap (λ (first : PictureCell). all_spelt (change colors place run first new ++ changes colors columns (next_place columns place) (run_after columns place first new) (drop 1 (drop index olds)) left)) (first_left olds index ∙ sym was)
    ∙ ap (λ (rest : List PictureCell). all_spelt (change colors place run old new ++ changes colors columns (next_place columns place) (run_after columns place old new) rest left)) (rest_left olds index)
    ∙ flat_map-append encoded (change colors place run old new) (changes colors columns (next_place columns place) (run_after columns place old new) (drop (index + 1) olds) left)
    ∙ ap (λ (at : Place). all_spelt (change colors place run old new) ++ all_spelt (changes colors columns at (run_after columns place old new) (drop (index + 1) olds) left)) (sym there)
    ∙ ap (λ (look : Option Look). all_spelt (change colors place run old new) ++ all_spelt (changes colors columns next look (drop (index + 1) olds) left)) (sym on)
