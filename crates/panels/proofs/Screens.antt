-- The one screen that a panel asks for.
use Rattle.std.proofs.Common.{◌≡◌, ◌<◌, ◌∙◌, ℕ, Bool, List, length, get_or, Some, map, ap, sym, subst, arith}
use Rattle.std.specs.Prelude.{slice_get}
use Rattle.std.specs.List.{range_with_len}
use Rattle.std.proofs.lemmas.List.{ext_get_or}
use Rattle.std.proofs.lemmas.List.FromFn.{length-map-range_with_len, get_or-map-range_with_len}
use Rattle.std.proofs.lemmas.Option.{slice_get-get_or, get_or_from_slice_get, slice_get_within}
use Rattle.codes3270.specs.Size.{ScreenSize, cells_in}
use Rattle.datastream.specs.Wanted.{WantedScreen}
use Rattle.datastream.specs.declared.wanted.Want.{Want}
use Rattle.datastream.specs.declared.wanted.Want.TheVariants as want
use Rattle.panels.specs.declared.message.Message.{Message}
use Rattle.panels.specs.Panel.{PanelParts, size_of}
use Rattle.panels.specs.Screen.{Values, wanted_cell, IsWantedOf, screen_of}

-- ---- lists of a length, cell by cell

counted : (size : ℕ) (f : ℕ → Want) (cell : ℕ) (default : Want) → cell < size → get_or (map f (range_with_len 0 size)) cell default ≡ f cell
counted size f cell default within = get_or-map-range_with_len f 0 size cell cell default within (omega arith)

pub counted_at : (size : ℕ) (f : ℕ → Want) (cell : ℕ) → cell < size → slice_get (map f (range_with_len 0 size)) cell ≡ Some (f cell)
counted_at size f cell within =
    let long : length (map f (range_with_len 0 size)) ≡ size = length-map-range_with_len f 0 size in
    slice_get-get_or (map f (range_with_len 0 size)) cell (want.Char 0) (subst (λ n. cell < n) (sym long) within) ∙ ap Some (counted size f cell (want.Char 0) within)

all_counted : (size : ℕ) (f : ℕ → Want) (cells : List Want) → length cells ≡ size → ((cell : ℕ) → cell < size → slice_get cells cell ≡ Some (f cell))
    → cells ≡ map f (range_with_len 0 size)
all_counted size f cells long each =
    ext_get_or (want.Char 0) cells (map f (range_with_len 0 size)) (long ∙ sym (length-map-range_with_len f 0 size))
    (λ cell below.
    let within : cell < size = subst (λ n. cell < n) long below in
    get_or_from_slice_get cells cell (f cell) (want.Char 0) (each cell within) ∙ sym (counted size f cell (want.Char 0) within))

-- ---- screens

abbrev screen_with : ScreenSize → List Want → ℕ → Bool → WantedScreen
screen_with size cells cursor reset = record { size = size; cells = cells; cursor = cursor; reset = reset }

same_screen : (one other : WantedScreen) → one.size ≡ other.size → one.cells ≡ other.cells → one.cursor ≡ other.cursor → one.reset ≡ other.reset → one ≡ other
same_screen one other size cells cursor reset =
    ap (λ s. screen_with s one.cells one.cursor one.reset) size ∙ ap (λ c. screen_with other.size c one.cursor one.reset) cells
    ∙ ap (λ c. screen_with other.size other.cells c one.reset) cursor ∙ ap (screen_with other.size other.cells other.cursor) reset

-- a screen has all its cells, as its walk does
pub all_there : (shown cells : List Want) (shape other : ScreenSize) → shown ≡ cells → length shown ≡ cells_in shape → shape ≡ other → length cells ≡ cells_in other
all_there shown cells shape other same size is = sym (ap length same) ∙ size ∙ ap cells_in is

pub is_screen_of : (panel : PanelParts) (values : Values) (message : Message) (keep : Bool) (screen : WantedScreen) → length screen.cells ≡ cells_in (size_of panel)
    → IsWantedOf panel values message keep screen → screen ≡ screen_of panel values message keep
is_screen_of panel values message keep screen long is =
    same_screen screen (screen_of panel values message keep) is.size
    (all_counted (cells_in (size_of panel)) (wanted_cell panel values message keep) screen.cells long is.cells) is.cursor is.reset

pub cell_of_screen : (panel : PanelParts) (values : Values) (message : Message) (keep : Bool) (cell : ℕ) → cell < cells_in (size_of panel)
    → slice_get (screen_of panel values message keep).cells cell ≡ Some (wanted_cell panel values message keep cell)
cell_of_screen panel values message keep cell within = counted_at (cells_in (size_of panel)) (wanted_cell panel values message keep) cell within

pub cell_seen : (panel : PanelParts) (values : Values) (message : Message) (keep : Bool) (cell : ℕ) (default : Want) → cell < cells_in (size_of panel)
    → get_or (screen_of panel values message keep).cells cell default ≡ wanted_cell panel values message keep cell
cell_seen panel values message keep cell default within = counted (cells_in (size_of panel)) (wanted_cell panel values message keep) cell default within

pub cell_within : (panel : PanelParts) (values : Values) (message : Message) (keep : Bool) (cell : ℕ) (want : Want)
    → slice_get (screen_of panel values message keep).cells cell ≡ Some want → cell < cells_in (size_of panel)
cell_within panel values message keep cell want is =
    subst (λ n. cell < n) (length-map-range_with_len (wanted_cell panel values message keep) 0 (cells_in (size_of panel)))
    (slice_get_within (screen_of panel values message keep).cells cell want is)
