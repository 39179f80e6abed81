-- A stream is read in one way, however it is cut into pieces, and has at most one fault: laws about
-- the definitions of Token, Items, Reading and DecoderValue (our profile).
use Rattle.std.specs.Prelude.{◌≡◌, ℕ, List, [], ◌∷◌, ◌++◌}
use Rattle.std.specs.List.{AllByRecursion, flat_map}
use Rattle.telnet_wire.specs.declared.wire.WireFault.{WireFault}
use Rattle.telnet_wire.specs.Token.{Token, IsToken, text}
use Rattle.telnet_wire.specs.Items.{WireItem, items_after, unfinished_after, item_tokens, CanCome}
use Rattle.telnet_wire.specs.Reading.{Rest, nothing, Reads, IsRest, Delivers, GoesWrong}
use Rattle.telnet_wire.specs.DecoderValue.{DecoderValue, TakesAll}

-- Bytes spell at most one list of tokens.
abbrev pub OneSpelling : Type 0
OneSpelling = (tokens others : List Token) → AllByRecursion IsToken tokens → AllByRecursion IsToken others
    → text tokens ≡ text others → tokens ≡ others

-- Bytes are at most one list of tokens and one rest.
abbrev pub OneReading : Type 0
OneReading = (limit : ℕ) (from : Rest) (bytes : List ℕ) (tokens others : List Token) (to other : Rest)
    → Reads limit from bytes tokens to → IsRest limit to → Reads limit from bytes others other → IsRest limit other
    → (tokens ≡ others) × (to ≡ other)

-- So bytes are at most one list of items, and leave one rest.
abbrev pub OneDelivery : Type 0
OneDelivery = (limit : ℕ) (from : Rest) (bytes : List ℕ) (items others : List WireItem) (to other : Rest)
    → Delivers limit from bytes items to → Delivers limit from bytes others other → (items ≡ others) × (to ≡ other)

-- A stream can continue from the empty rest.
abbrev pub NothingIsRest : Type 0
NothingIsRest = (limit : ℕ) → IsRest limit nothing

-- No bytes spell no tokens, and leave the rest unchanged.
abbrev pub ReadingNothing : Type 0
ReadingNothing = (limit : ℕ) (rest : Rest) → Reads limit rest [] [] rest

-- Two readings, one after the other, are the reading of both.
abbrev pub ReadingsCompose : Type 0
ReadingsCompose = (limit : ℕ) (from mid to : Rest) (first second : List ℕ) (tokens others : List Token)
    → Reads limit from first tokens mid → Reads limit mid second others to
    → Reads limit from (first ++ second) (tokens ++ others) to

-- The items of two lists of tokens, one after the other: the second list continues the record
-- that the first left unfinished.
abbrev pub ItemsCompose : Type 0
ItemsCompose = (unfinished : List ℕ) (tokens others : List Token)
    → items_after unfinished (tokens ++ others) ≡ items_after unfinished tokens
    ++ items_after (unfinished_after unfinished tokens) others

-- So a text gives the items of its pieces, and leaves the rest of the last piece, however it is cut.
abbrev pub DeliveriesCompose : Type 0
DeliveriesCompose = (limit : ℕ) (from mid to : Rest) (first second : List ℕ) (items others : List WireItem)
    → Delivers limit from first items mid → Delivers limit mid second others to
    → Delivers limit from (first ++ second) (items ++ others) to

-- If the front of a stream was read, the whole stream is read as that and then as the other bytes from the rest.
abbrev pub ReadingGoesOn : Type 0
ReadingGoesOn = (limit : ℕ) (from : Rest) (first more : List ℕ) (begun tokens : List Token) (mid to : Rest)
    → Reads limit from first begun mid → Reads limit from (first ++ more) tokens to → IsRest limit to
    → (others : List Token) × (tokens ≡ begun ++ others) × Reads limit mid more others to

-- So the front of a stream gives the first of its items, and the other bytes give the others.
abbrev pub DeliveryGoesOn : Type 0
DeliveryGoesOn = (limit : ℕ) (from mid to : Rest) (first more : List ℕ) (begun items : List WireItem)
    → Delivers limit from first begun mid → Delivers limit from (first ++ more) items to
    → (others : List WireItem) × (items ≡ begun ++ others) × Delivers limit mid more others to

-- Bytes with a fault aren't read, whatever follows them.
abbrev pub WrongIsFinal : Type 0
WrongIsFinal = (limit : ℕ) (from : Rest) (bytes more : List ℕ) (fault : WireFault) (tokens : List Token) (to : Rest)
    → GoesWrong limit from bytes fault → Reads limit from (bytes ++ more) tokens to → IsRest limit to → ⊥

-- Bytes have at most one fault, at one byte.
abbrev pub OneFault : Type 0
OneFault = (limit : ℕ) (from : Rest) (bytes more : List ℕ) (fault other : WireFault)
    → GoesWrong limit from bytes fault → GoesWrong limit from (bytes ++ more) other → (more ≡ []) × (fault ≡ other)

-- A piece with a fault gives the stream the same fault, at the same byte.
abbrev pub WrongPiece : Type 0
WrongPiece = (limit : ℕ) (from mid : Rest) (first second : List ℕ) (tokens : List Token) (fault : WireFault)
    → Reads limit from first tokens mid → GoesWrong limit mid second fault
    → GoesWrong limit from (first ++ second) fault

-- Bytes that a decoder accepted one by one are read without fault, and the items that it lent are theirs.
abbrev pub TakenIsRead : Type 0
TakenIsRead = (old new : DecoderValue) (bytes : List ℕ) (items : List WireItem)
    → IsRest old.limit old.rest → TakesAll old bytes items new
    → Delivers old.limit old.rest bytes items new.rest

-- The bytes that are written for an item are read as that item, and leave no rest.
abbrev pub ItemIsRead : Type 0
ItemIsRead = (limit : ℕ) (item : WireItem) → CanCome limit item
    → Delivers limit nothing (text (item_tokens item)) (item ∷ []) nothing

-- So the bytes that are written for items, one after another, are read as those items.
abbrev pub ItemsAreRead : Type 0
ItemsAreRead = (limit : ℕ) (items : List WireItem) → AllByRecursion (CanCome limit) items
    → Delivers limit nothing (text (flat_map item_tokens items)) items nothing
