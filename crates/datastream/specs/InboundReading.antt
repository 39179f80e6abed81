-- Reading inbound data from left to right (our profile): what a value that borrows bytes has yet to yield.
use Rattle.std.specs.Prelude.{◌≡◌, ◌<◌, ◌≤◌, ℕ, zero, suc, true, List, [], ◌∷◌, ◌++◌, length, drop, slice_index_or, Result, Ok, Err, nat_lt, ◌==◌, if◌then◌else◌}
use Rattle.codes3270.specs.Address.{address_of}
use Rattle.codes3270.specs.Attribute.{attr_of}
use Rattle.codes3270.specs.Storable.{is_storable}
use Rattle.datastream.specs.declared.inbound_part.Form.{Form}
use Rattle.datastream.specs.declared.inbound_part.Form.TheVariants.{Modified, All as AllModified, Buffer}
use Rattle.datastream.specs.declared.inbound_part.Part.{Part}
use Rattle.datastream.specs.declared.inbound_part.Part.TheVariants.{At, Char, Attr}
use Rattle.datastream.specs.declared.inbound_part.InboundFault.{InboundFault}
use Rattle.datastream.specs.declared.inbound_part.InboundFault.TheVariants.{Short, BadAddress, BadForm}
use Rattle.datastream.specs.Grammar.{start_field, set_buffer_address}
use Rattle.datastream.specs.InboundText.{is_text_char, AreParts}

-- holds if what a function returned is, by its view, what the definition of reading gives
abbrev pub Gives : {X Y : Type 0} → (X → Y) → Result X InboundFault → Result Y InboundFault → Type 0
Gives view (Ok x) read = read ≡ Ok (view x)
Gives view (Err e) read = read ≡ Err e

-- Each of these returns what the first bytes encode, and the bytes after that. `size` is the screen's number of cells.

-- an address, after its order's code
abbrev pub address_at : ℕ → List ℕ → Result (Part × List ℕ) InboundFault
address_at size [] = Err BadForm
address_at size (high ∷ []) = Err BadForm
address_at size (high ∷ low ∷ rest) =
    if nat_lt (address_of high low) size then Ok (At (address_of high low), rest) else Err BadAddress

-- an attribute, after its order's code
abbrev pub attribute_at : List ℕ → Result (Part × List ℕ) InboundFault
attribute_at [] = Err Short
attribute_at (code ∷ rest) = Ok (Attr (attr_of code), rest)

-- a part of the modified fields
unfoldable pub text_part_at : ℕ → List ℕ → Result (Part × List ℕ) InboundFault
text_part_at size [] = Err Short
text_part_at size (byte ∷ rest) =
    if byte == set_buffer_address then address_at size rest
    else if is_text_char byte then Ok (Char byte, rest)
    else Err BadForm

-- a cell of the buffer
unfoldable pub cell_part_at : List ℕ → Result (Part × List ℕ) InboundFault
cell_part_at [] = Err Short
cell_part_at (byte ∷ rest) =
    if byte == start_field then attribute_at rest
    else if is_storable byte then Ok (Char byte, rest)
    else Err BadForm

-- a part, by the data's form
abbrev pub part_at : ℕ → Form → List ℕ → Result (Part × List ℕ) InboundFault
part_at size Modified text = text_part_at size text
part_at size AllModified text = text_part_at size text
part_at size Buffer text = cell_part_at text

-- a part, followed by those in the bytes after it
abbrev pub and_parts : (List ℕ → List Part) → Result (Part × List ℕ) InboundFault → List Part
and_parts others (Ok found) = found.0 ∷ others found.1
and_parts others (Err fault) = []

-- the parts at the front of the bytes, up to the first bytes that are no part; at most `n`
unfoldable pub parts_within : ℕ → Form → ℕ → List ℕ → List Part
parts_within size form zero text = []
parts_within size form (suc n) text = and_parts (parts_within size form n) (part_at size form text)

-- the parts at the front of the bytes, up to the first bytes that are no part
unfoldable pub parts_in : ℕ → Form → List ℕ → List Part
parts_in size form text = parts_within size form (length text) text

-- ---- for private functions

-- holds if the bytes are `count` parts followed by `rest`
abbrev pub IsReadTo : ℕ → Form → List ℕ → ℕ → List ℕ → Type 0
IsReadTo size form text count rest = (parts : List Part) × (front : List ℕ) × AreParts size form parts front
    × (length parts ≡ count) × (text ≡ front ++ rest)

-- holds if the bytes are some characters, none of which is null, followed by `rest`
abbrev pub PassesText : List ℕ → List ℕ → Type 0
PassesText text rest =
    (count : ℕ) × (count ≤ length text)
    × ((place : ℕ) → place < count → is_text_char (slice_index_or text place 0) ≡ true) × (rest ≡ drop count text)
