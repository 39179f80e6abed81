-- The items of a list of tokens, and the data of the record that isn't finished. Records
-- are those of RFC 885. Our profile: a subnegotiation is one item, and commands don't end a record.
use Rattle.std.specs.Prelude.{ℕ, ◌≤◌, List, [], ◌∷◌, ◌++◌, length, map}
use Rattle.telnet_wire.specs.declared.wire.Verb.{Verb}
use Rattle.telnet_wire.specs.declared.wire.Item.{Item}
use Rattle.telnet_wire.specs.declared.wire.Item.TheVariants as lent
use Rattle.std.specs.List.{flat_map}
use Rattle.telnet_wire.specs.Token.{Token, Data, End, Opt as OptToken, Sub as SubToken, Other as OtherToken, IsOtherCode, text}

-- An item of a stream: a whole record (RFC 885), an option's negotiation or a subnegotiation
-- (RFC 855), or another command (RFC 854, "TELNET Command Structure").
pub data WireItem : Type 0 where
  Record : List ℕ → WireItem
  Opt : Verb → ℕ → WireItem
  Sub : List ℕ → WireItem
  Other : ℕ → WireItem

-- An item's value, without its place in memory.
abbrev pub item_of : Item → WireItem
item_of (lent.Record bytes) = Record bytes.now
item_of (lent.Opt verb code) = Opt verb code
item_of (lent.Sub bytes) = Sub bytes.now
item_of (lent.Other code) = Other code

-- The items of these tokens, in order: each End completes the record of the data since the previous
-- End (RFC 885). A command between two bytes of data is an item of its own, and doesn't end the
-- record. `unfinished` is the data before these tokens, since the last End.
abbrev pub items_after : List ℕ → List Token → List WireItem
items_after unfinished [] = []
items_after unfinished (Data byte ∷ tokens) = items_after (unfinished ++ byte ∷ []) tokens
items_after unfinished (End ∷ tokens) = Record unfinished ∷ items_after [] tokens
items_after unfinished (OptToken verb code ∷ tokens) = Opt verb code ∷ items_after unfinished tokens
items_after unfinished (SubToken bytes ∷ tokens) = Sub bytes ∷ items_after unfinished tokens
items_after unfinished (OtherToken code ∷ tokens) = Other code ∷ items_after unfinished tokens

-- The data since the last End, after these tokens and `unfinished` before them.
abbrev pub unfinished_after : List ℕ → List Token → List ℕ
unfinished_after unfinished [] = unfinished
unfinished_after unfinished (Data byte ∷ tokens) = unfinished_after (unfinished ++ byte ∷ []) tokens
unfinished_after unfinished (End ∷ tokens) = unfinished_after [] tokens
unfinished_after unfinished (_ ∷ tokens) = unfinished_after unfinished tokens

-- Holds if a record has at most `limit` bytes of data, each counted once even if it is doubled (our profile).
abbrev pub IsWithin : ℕ → WireItem → Type 0
IsWithin limit (Record bytes) = length bytes ≤ limit
IsWithin limit _ = Unit {0}

-- The tokens of one record: its data, and its end.
abbrev pub record_tokens : List ℕ → List Token
record_tokens bytes = map Data bytes ++ End ∷ []

-- The tokens of this item, if no record is unfinished.
abbrev pub item_tokens : WireItem → List Token
item_tokens (Record bytes) = record_tokens bytes
item_tokens (Opt verb code) = OptToken verb code ∷ []
item_tokens (Sub bytes) = SubToken bytes ∷ []
item_tokens (Other code) = OtherToken code ∷ []

-- Holds if a stream can have the item: a record or a subnegotiation within its limit, an option, or
-- another command with a code that is one.
abbrev pub CanCome : ℕ → WireItem → Type 0
CanCome limit (Record bytes) = length bytes ≤ limit
CanCome limit (Opt verb code) = Unit {0}
CanCome limit (Sub bytes) = length bytes ≤ 256
CanCome limit (Other code) = IsOtherCode code

-- The bytes of items that are sent one after another.
abbrev pub sent_bytes : List WireItem → List ℕ
sent_bytes items = flat_map (λ item. text (item_tokens item)) items
