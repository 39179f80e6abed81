-- The data of a key, and what is known after Clear.
use Rattle.std.proofs.Common.{◌≡◌, Bool, true, false, None, Some, [], refl, if◌then◌else◌}
use Rattle.std.proofs.lemmas.List.Elements.{All-nil}
use Rattle.codes3270.specs.Aid.{is_short_aid}
use Rattle.codes3270.specs.Size.{ScreenSize, cells_in}
use Rattle.codes3270.specs.declared.attention.Aid.{Aid}
use Rattle.codes3270.specs.declared.attention.Aid.TheVariants.{NoAid, Enter, Clear, Pf, Pa}
use Rattle.datastream.specs.InboundFields.{modified_data, parts_of_fields, leading_text_of, returned_of}
use Rattle.datastream.specs.InboundText.{InboundParts}
use Rattle.datastream.specs.Screen.{Screen}
use Rattle.datastream.specs.declared.inbound_part.Form.TheVariants.{Modified}
use Rattle.shadow.specs.Belief.{Shadow}
use Rattle.shadow.specs.TextUnknown.{IsClearedBelief}
use Rattle.host_core.specs.NoteLaws.{IsNoteOf}
use Rattle.world3270.specs.statement.Headline.{SentFields}
use Rattle.world3270.specs.statement.TurnReasons.{IsCleared}

-- what was sent for a key is data of the modified fields, with the key's identifier
either : (P : InboundParts → Type 0) (b : Bool) (first second : InboundParts) → P first → P second → P (if b then first else second)
either P true first second p q = p
either P false first second p q = q

pub key_form : (size : ScreenSize) (screen : Screen) → (modified_data Modified size screen).form ≡ Modified
key_form size screen =
    either (λ (parts : InboundParts). parts.form ≡ Modified) (is_short_aid screen.aid)
    (record { form = Modified; size = size; aid = screen.aid; cursor = None; parts = [] })
    (record { form = Modified; size = size; aid = screen.aid; cursor = Some screen.cursor; parts = parts_of_fields (leading_text_of screen.cells) (returned_of screen.cells) })
    refl refl

pub key_aid : (size : ScreenSize) (screen : Screen) → (modified_data Modified size screen).aid ≡ screen.aid
key_aid size screen =
    either (λ (parts : InboundParts). parts.aid ≡ screen.aid) (is_short_aid screen.aid)
    (record { form = Modified; size = size; aid = screen.aid; cursor = None; parts = [] })
    (record { form = Modified; size = size; aid = screen.aid; cursor = Some screen.cursor; parts = parts_of_fields (leading_text_of screen.cells) (returned_of screen.cells) })
    refl refl

pub key_size : (size : ScreenSize) (screen : Screen) → (modified_data Modified size screen).size ≡ size
key_size size screen =
    either (λ (parts : InboundParts). parts.size ≡ size) (is_short_aid screen.aid)
    (record { form = Modified; size = size; aid = screen.aid; cursor = None; parts = [] })
    (record { form = Modified; size = size; aid = screen.aid; cursor = Some screen.cursor; parts = parts_of_fields (leading_text_of screen.cells) (returned_of screen.cells) })
    refl refl

-- a key that sends more than its identifier sends where the cursor is
second_of : (P : InboundParts → Type 0) (b : Bool) (first second : InboundParts) → b ≡ false → P second → P (if b then first else second)
second_of P true first second is p = absurd (cc)
second_of P false first second is p = p

pub key_cursor : (size : ScreenSize) (screen : Screen) → is_short_aid screen.aid ≡ false → (modified_data Modified size screen).cursor ≡ Some screen.cursor
key_cursor size screen long =
    second_of (λ (parts : InboundParts). parts.cursor ≡ Some screen.cursor) (is_short_aid screen.aid)
    (record { form = Modified; size = size; aid = screen.aid; cursor = None; parts = [] })
    (record { form = Modified; size = size; aid = screen.aid; cursor = Some screen.cursor; parts = parts_of_fields (leading_text_of screen.cells) (returned_of screen.cells) })
    long refl

-- Enter and PF keys send more than their identifier
pub sent_long : (aid : Aid) → SentFields aid → is_short_aid aid ≡ false
sent_long NoAid s = absurd s
sent_long Enter s = refl
sent_long Clear s = absurd s
sent_long (Pf key) s = refl
sent_long (Pa key) s = absurd s

-- known nulls, and no notes yet
pub nulls_known : (shape : ScreenSize) (shadow : Shadow) → IsClearedBelief (cells_in shape) shadow → IsCleared shape shadow
nulls_known shape shadow is = record { notes = []; are_notes = All-nil (IsNoteOf shape); is = is }
