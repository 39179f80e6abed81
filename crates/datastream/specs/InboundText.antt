-- Which bytes are inbound data, in each of three forms (GA23-0059-07 on inbound data streams): the answers to Read
-- Modified, Read Modified All and Read Buffer. The order of faults is our profile.
use Rattle.std.specs.Prelude.{◌≡◌, ⊤, ℕ, ◌<◌, ◌≤◌, List, [], ◌∷◌, ◌++◌, length, Bool, true, false, not, ◌==◌, ◌&&◌, ◌||◌, Option, Some, None}
use Rattle.codes3270.specs.Size.{ScreenSize, cells_in}
use Rattle.codes3270.specs.Address.{address_of}
use Rattle.codes3270.specs.Aid.{aid_of, is_short_aid}
use Rattle.codes3270.specs.Attribute.{attr_of}
use Rattle.codes3270.specs.Storable.{is_storable}
use Rattle.codes3270.specs.declared.attention.Aid.{Aid}
use Rattle.datastream.specs.declared.inbound_part.Form.{Form}
use Rattle.datastream.specs.declared.inbound_part.Form.TheVariants.{Modified, All as AllModified, Buffer}
use Rattle.datastream.specs.declared.inbound_part.Part.{Part}
use Rattle.datastream.specs.declared.inbound_part.Part.TheVariants.{At, Char, Attr}
use Rattle.datastream.specs.declared.inbound_part.InboundFault.{InboundFault}
use Rattle.datastream.specs.declared.inbound_part.InboundFault.TheVariants.{Short, BadAid, BadAddress, BadForm}
use Rattle.datastream.specs.Grammar.{start_field, set_buffer_address, IsAddress}

-- ---- parts; `size` is the number of cells of the screen

-- whether a byte can be in a field's text: storable and not null (our profile: terminals leave nulls out)
abbrev pub is_text_char : ℕ → Bool
is_text_char byte = is_storable byte && not (byte == 0)

-- holds if the bytes encode a part of modified fields: an address, or a character
abbrev pub IsTextPart : ℕ → Part → List ℕ → Type 0
IsTextPart size (At address) bytes = (high low : ℕ) × IsAddress size high low address
    × (bytes ≡ set_buffer_address ∷ high ∷ low ∷ [])
IsTextPart size (Char char) bytes = (is_text_char char ≡ true) × (bytes ≡ char ∷ [])
IsTextPart size (Attr attr) bytes = ⊥

-- holds if the bytes encode a cell of the buffer: a character, or an attribute
abbrev pub IsCellPart : Part → List ℕ → Type 0
IsCellPart (At address) bytes = ⊥
IsCellPart (Char char) bytes = (is_storable char ≡ true) × (bytes ≡ char ∷ [])
IsCellPart (Attr attr) bytes = (code : ℕ) × (attr ≡ attr_of code) × (bytes ≡ start_field ∷ code ∷ [])

-- holds if the bytes encode a part, by the data's form
abbrev pub IsPart : ℕ → Form → Part → List ℕ → Type 0
IsPart size Modified part bytes = IsTextPart size part bytes
IsPart size AllModified part bytes = IsTextPart size part bytes
IsPart size Buffer part bytes = IsCellPart part bytes

-- holds if the bytes encode these parts, one after another
abbrev pub AreParts : ℕ → Form → List Part → List ℕ → Type 0
AreParts size form [] bytes = bytes ≡ []
AreParts size form (part ∷ parts) bytes =
    (front back : List ℕ) × IsPart size form part front × AreParts size form parts back × (bytes ≡ front ++ back)

-- holds if a part can occur among modified fields
abbrev pub IsTextProper : ℕ → Part → Type 0
IsTextProper size (At address) = address < size
IsTextProper size (Char char) = is_text_char char ≡ true
IsTextProper size (Attr attr) = ⊥

-- holds if a part can occur in a buffer
abbrev pub IsCellProper : Part → Type 0
IsCellProper (At address) = ⊥
IsCellProper (Char char) = is_storable char ≡ true
IsCellProper (Attr attr) = ⊤

-- holds if a part can occur in data of this form
abbrev pub IsProperPart : ℕ → Form → Part → Type 0
IsProperPart size Modified part = IsTextProper size part
IsProperPart size AllModified part = IsTextProper size part
IsProperPart size Buffer part = IsCellProper part

-- holds if the parts are complete: a buffer has a part for each cell; modified fields can be of any number
abbrev pub IsWhole : ℕ → Form → List Part → Type 0
IsWhole size Modified parts = ⊤
IsWhole size AllModified parts = ⊤
IsWhole size Buffer parts = length parts ≡ size

-- holds if another part can follow
abbrev pub HasRoom : ℕ → Form → List Part → Type 0
HasRoom size Modified parts = ⊤
HasRoom size AllModified parts = ⊤
HasRoom size Buffer parts = length parts < size

-- ---- faults of parts (our profile)

-- holds if the bytes don't begin with a part of modified fields, by this fault; a cut SBA is out of place
pub data IsNoTextPart (size : ℕ) (fault : InboundFault) (bytes : List ℕ) : Type 0 where
  out_of_place : (byte : ℕ) (more : List ℕ) → (byte == set_buffer_address || is_text_char byte) ≡ false
      → fault ≡ BadForm → bytes ≡ byte ∷ more → IsNoTextPart size fault bytes
  cut_address : (few : List ℕ) → length few < 2 → fault ≡ BadForm → bytes ≡ set_buffer_address ∷ few
      → IsNoTextPart size fault bytes
  address_too_large : (high low : ℕ) (more : List ℕ) → size ≤ address_of high low
      → fault ≡ BadAddress → bytes ≡ set_buffer_address ∷ high ∷ low ∷ more → IsNoTextPart size fault bytes

-- Holds if the bytes don't begin with a cell of the buffer, by this fault. A cut SF is no cell: the cells are too few.
pub data IsNoCell (fault : InboundFault) (bytes : List ℕ) : Type 0 where
  at_end : fault ≡ Short → bytes ≡ [] → IsNoCell fault bytes
  cut_attribute : fault ≡ Short → bytes ≡ start_field ∷ [] → IsNoCell fault bytes
  out_of_place : (byte : ℕ) (more : List ℕ) → (byte == start_field || is_storable byte) ≡ false
      → fault ≡ BadForm → bytes ≡ byte ∷ more → IsNoCell fault bytes

-- holds if the bytes don't begin with a part, by this fault and the data's form
abbrev pub IsNoPart : ℕ → Form → InboundFault → List ℕ → Type 0
IsNoPart size Modified fault bytes = IsNoTextPart size fault bytes
IsNoPart size AllModified fault bytes = IsNoTextPart size fault bytes
IsNoPart size Buffer fault bytes = IsNoCell fault bytes

-- Holds if the text is some parts and then this fault: bytes that are no part, or bytes after a buffer's last cell.
pub data HasPartFault (size : ℕ) (form : Form) (fault : InboundFault) (text : List ℕ) : Type 0 where
  no_part : (parts : List Part) (front back : List ℕ) → AreParts size form parts front → HasRoom size form parts
      → IsNoPart size form fault back
      → text ≡ front ++ back → HasPartFault size form fault text
  too_many : (parts : List Part) (front : List ℕ) (next : ℕ) (more : List ℕ) → form ≡ Buffer
      → AreParts size form parts front
      → length parts ≡ size → fault ≡ BadForm → text ≡ front ++ next ∷ more → HasPartFault size form fault text

-- ---- inbound data

-- the content of inbound data, and the size of its screen
pub record InboundParts : Type 0 where
  pub form : Form
  pub size : ScreenSize
  pub aid : Aid
  pub cursor : Option ℕ
  pub parts : List Part

-- whether the data is the AID alone: that of a PA key or Clear in form Modified (GA23-0059-07 on short reads)
abbrev pub stands_alone : Form → Aid → Bool
stands_alone Modified aid = is_short_aid aid
stands_alone AllModified aid = false
stands_alone Buffer aid = false

-- holds if the bytes encode the inbound data
pub data IsInbound (inbound : InboundParts) (bytes : List ℕ) : Type 0 where
  alone : (byte : ℕ) → stands_alone inbound.form inbound.aid ≡ true → aid_of byte ≡ Some inbound.aid
      → inbound.cursor ≡ None → inbound.parts ≡ [] → bytes ≡ byte ∷ [] → IsInbound inbound bytes
  long : (byte high low cursor : ℕ) (text : List ℕ) → stands_alone inbound.form inbound.aid ≡ false
      → aid_of byte ≡ Some inbound.aid
      → inbound.cursor ≡ Some cursor → IsAddress (cells_in inbound.size) high low cursor
      → AreParts (cells_in inbound.size) inbound.form inbound.parts text
      → IsWhole (cells_in inbound.size) inbound.form inbound.parts
      → bytes ≡ byte ∷ high ∷ low ∷ text → IsInbound inbound bytes

-- holds if some bytes encode the inbound data
abbrev pub IsSent : InboundParts → Type 0
IsSent inbound = (bytes : List ℕ) × IsInbound inbound bytes

-- holds if the bytes are no inbound data of this form and size, and this is the first fault in them (our profile)
pub data IsNoInbound (size : ScreenSize) (form : Form) (fault : InboundFault) (bytes : List ℕ) : Type 0 where
  no_bytes : fault ≡ Short → bytes ≡ [] → IsNoInbound size form fault bytes
  unknown_aid : (byte : ℕ) (more : List ℕ) → aid_of byte ≡ None
      → fault ≡ BadAid → bytes ≡ byte ∷ more → IsNoInbound size form fault bytes
  not_alone : (aid : Aid) (byte next : ℕ) (more : List ℕ) → aid_of byte ≡ Some aid → stands_alone form aid ≡ true
      → fault ≡ BadForm → bytes ≡ byte ∷ next ∷ more → IsNoInbound size form fault bytes
  no_cursor : (aid : Aid) (byte : ℕ) (few : List ℕ) → aid_of byte ≡ Some aid → stands_alone form aid ≡ false
      → length few < 2
      → fault ≡ Short → bytes ≡ byte ∷ few → IsNoInbound size form fault bytes
  cursor_too_large : (aid : Aid) (byte high low : ℕ) (more : List ℕ) → aid_of byte ≡ Some aid
      → stands_alone form aid ≡ false
      → cells_in size ≤ address_of high low
      → fault ≡ BadAddress → bytes ≡ byte ∷ high ∷ low ∷ more → IsNoInbound size form fault bytes
  faulty_text : (aid : Aid) (byte high low : ℕ) (text : List ℕ) → aid_of byte ≡ Some aid → stands_alone form aid ≡ false
      → address_of high low < cells_in size → HasPartFault (cells_in size) form fault text
      → bytes ≡ byte ∷ high ∷ low ∷ text → IsNoInbound size form fault bytes
