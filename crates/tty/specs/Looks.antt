-- How the cells of a screen look (our profile: as c3270 shows a host that names no colours).
use Rattle.std.specs.Prelude.{ℕ, ◌==◌, Bool, List, Option, Some, None, if◌then◌else◌, bytes_eq, codes}
use Rattle.codes3270.specs.declared.attribute.Cell.{Cell}
use Rattle.codes3270.specs.declared.attribute.Cell.TheVariants.{Char, Attr}
use Rattle.codes3270.specs.declared.attribute.Attr.{Attr as Attribute}
use Rattle.codes3270.specs.declared.attribute.Display.{Display}
use Rattle.codes3270.specs.declared.attribute.Display.TheVariants.{Normal, Detectable, Bright, Hidden}
use Rattle.tty.specs.declared.colors.Colors.{Colors}
use Rattle.tty.specs.declared.colors.Colors.TheVariants.{Dark, Light, Terminal, Mono}
use Rattle.tty.specs.declared.look.Look.{Look}
use Rattle.tty.specs.declared.look.Look.TheVariants.{Plain, UnprotectedNormal, UnprotectedBright, ProtectedNormal, ProtectedBright, Erased}

-- the look of the characters of a protected field
abbrev pub protected_look : Display → Look
protected_look Normal = ProtectedNormal
protected_look Detectable = ProtectedNormal
protected_look Bright = ProtectedBright
protected_look Hidden = ProtectedNormal

-- the look of the characters of an unprotected field
abbrev pub unprotected_look : Display → Look
unprotected_look Normal = UnprotectedNormal
unprotected_look Detectable = UnprotectedNormal
unprotected_look Bright = UnprotectedBright
unprotected_look Hidden = UnprotectedNormal

-- the look of the characters that an attribute governs; plain if there is none
abbrev pub look_under : Option Attribute → Look
look_under None = Plain
look_under (Some attribute) =
    if attribute.protected then protected_look attribute.display else unprotected_look attribute.display

-- the look of a cell that an attribute governs; plain if the cell is an attribute
abbrev pub look_of : Cell → Option Attribute → Look
look_of (Char code) over = look_under over
look_of (Attr attribute) over = Plain

-- the number of a look, by which two are compared
abbrev pub number_of : Look → ℕ
number_of Plain = 0
number_of UnprotectedNormal = 1
number_of UnprotectedBright = 2
number_of ProtectedNormal = 3
number_of ProtectedBright = 4
number_of Erased = 5

abbrev pub same_look : Look → Look → Bool
same_look one other = number_of one == number_of other

-- the colours with a name
abbrev pub colors_named : List ℕ → Option Colors
colors_named name =
    if bytes_eq name (codes "dark") then Some Dark else
    if bytes_eq name (codes "light") then Some Light else
    if bytes_eq name (codes "terminal") then Some Terminal else
    if bytes_eq name (codes "mono") then Some Mono else
    None
