-- What the ends of a session answer or ignore, beside messages: commands, options, subnegotiations of other options, and
-- records of other types (RFC 854, 855; RFC 1647, section 8.1; that such records are dropped is our profile).
use Rattle.std.specs.Prelude.{◌&&◌, ◌==◌, not, ℕ, Bool, true, false, List, [], ◌∷◌}
use Rattle.telnet_wire.specs.Items.{WireItem, Record, Opt, Sub, Other}
use Rattle.telnet_wire.specs.declared.wire.Verb.{Verb}
use Rattle.telnet_wire.specs.declared.wire.Verb.TheVariants.{Will, Wont, Do, Dont}
use Rattle.world3270.specs.refinement.Represents.{without}

-- ---- to the host

-- whether the negotiation ends TN3270E: WONT of this option
abbrev pub ends_tn3270e : Verb → ℕ → Bool
ends_tn3270e Wont code = code == 40
ends_tn3270e Will code = false
ends_tn3270e Do code = false
ends_tn3270e Dont code = false

-- whether the payload of a subnegotiation is of another option than TN3270E
abbrev pub is_of_other_option : List ℕ → Bool
is_of_other_option [] = true
is_of_other_option (option ∷ bytes) = not (option == 40)

-- whether a record has a header of another DATA-TYPE than 3270-DATA (0) and RESPONSE (2)
abbrev pub is_of_other_type : List ℕ → Bool
is_of_other_type (kind ∷ request ∷ flag ∷ high ∷ low ∷ body) = not (kind == 0) && not (kind == 2)
is_of_other_type _ = false

-- Whether the host of a session only answers an item, by refusing an option, or ignores it: a command, as NOP or BREAK;
-- an option's negotiation, but WONT TN3270E; a subnegotiation of another option; a record of another type.
abbrev pub is_ignored_by_host : WireItem → Bool
is_ignored_by_host (Record bytes) = is_of_other_type bytes
is_ignored_by_host (Opt verb code) = not (ends_tn3270e verb code)
is_ignored_by_host (Sub bytes) = is_of_other_option bytes
is_ignored_by_host (Other code) = true

-- the items to the host that represent messages: all others
abbrev pub without_ignored : List WireItem → List WireItem
without_ignored = without is_ignored_by_host

-- ---- to the terminal

-- whether the negotiation refuses an option, without ending TN3270E: WONT, or DONT of another option
abbrev pub refuses_option : Verb → ℕ → Bool
refuses_option Wont code = true
refuses_option Dont code = not (code == 40)
refuses_option Will code = false
refuses_option Do code = false

-- whether a terminal ignores an item: NOP, or such a refusal
abbrev pub is_ignored_by_terminal : WireItem → Bool
is_ignored_by_terminal (Record bytes) = false
is_ignored_by_terminal (Opt verb code) = refuses_option verb code
is_ignored_by_terminal (Sub bytes) = false
is_ignored_by_terminal (Other code) = code == 241
