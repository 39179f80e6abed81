-- How a stream is read: its tokens, its items and its rest, and its fault (the tokens: RFC 854, 855 and 885, in Token;
-- the limits and faults: our profile). The definitions are about whole texts, never about a state between two bytes.
use Rattle.std.specs.Prelude.{◌≡◌, ◌≢◌, ℕ, ◌≤◌, ◌⊎◌, List, [], ◌∷◌, ◌++◌, length}
use Rattle.std.specs.List.{AllByRecursion}
use Rattle.telnet_wire.specs.declared.wire.WireFault.{WireFault}
use Rattle.telnet_wire.specs.declared.wire.WireFault.TheVariants.{TooLong, BadSub}
use Rattle.telnet_wire.specs.Token.{Token, IsToken, IsShort, IsPartial, text, escaped, opened}
use Rattle.telnet_wire.specs.Items.{WireItem, items_after, unfinished_after, IsWithin}

-- The rest of a stream after its whole tokens: the data of the unfinished record, and the bytes of one more token.
pub record Rest : Type 0 where
  pub unfinished : List ℕ
  pub partial : List ℕ

-- The rest before the first byte.
abbrev pub nothing : Rest
nothing = record { unfinished = []; partial = [] }

-- Holds if these bytes, after the rest `from`, are these tokens, each within its limit, and the rest `to`.
pub record Reads (limit : ℕ) (from : Rest) (bytes : List ℕ) (tokens : List Token) (to : Rest) : Type 0 where
  pub encoded : from.partial ++ bytes ≡ text tokens ++ to.partial
  pub unfinished : to.unfinished ≡ unfinished_after from.unfinished tokens
  pub each : AllByRecursion IsToken tokens
  pub short : AllByRecursion IsShort tokens
  pub records : AllByRecursion (IsWithin limit) (items_after from.unfinished tokens)

-- Holds if a stream can continue from this rest: its record is within the limit, and its bytes are of one
-- token that isn't complete.
pub record IsRest (limit : ℕ) (rest : Rest) : Type 0 where
  pub unfinished : length rest.unfinished ≤ limit
  pub partial : IsPartial rest.partial

-- Holds if these bytes, after the rest `from`, are read without fault, give these items and leave the rest `to`.
pub record Delivers (limit : ℕ) (from : Rest) (bytes : List ℕ) (items : List WireItem) (to : Rest) : Type 0 where
  pub tokens : List Token
  pub reads : Reads limit from bytes tokens to
  pub is_rest : IsRest limit to
  pub said : items ≡ items_after from.unfinished tokens

-- Holds if a rest is wrong at its last byte, and at no byte before (our profile: RFC 854 and 855 give no limits, and
-- RFC 855 doesn't say what a command inside a subnegotiation means). TooLong: one byte of data more than a record may
-- have, or byte 257 of a subnegotiation; if that byte is 255, at the second byte of its spelling. BadSub: inside a
-- subnegotiation, a byte after IAC that is neither IAC nor SE.
abbrev pub IsWrong : ℕ → Rest → WireFault → Type 0
IsWrong limit rest TooLong =
    ((byte : ℕ) × (rest.partial ≡ escaped byte) × (length rest.unfinished ≡ limit))
    ⊎ ((content : List ℕ) × (rest.partial ≡ opened content) × (length content ≡ 257) × (length rest.unfinished ≤ limit))
IsWrong limit rest BadSub =
    (content : List ℕ) × (code : ℕ) × (rest.partial ≡ opened content ++ 255 ∷ code ∷ [])
    × (code ≢ 255) × (code ≢ 240) × (length content ≤ 256) × (length rest.unfinished ≤ limit)
IsWrong limit rest _ = ⊥

-- Holds if these bytes, after the rest `from`, are wrong with this fault, at the last of them and at no byte before.
pub record GoesWrong (limit : ℕ) (from : Rest) (bytes : List ℕ) (fault : WireFault) : Type 0 where
  pub tokens : List Token
  pub to : Rest
  pub reads : Reads limit from bytes tokens to
  pub is_wrong : IsWrong limit to fault
