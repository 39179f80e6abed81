-- A note stores characters where it says.
use Rattle.std.proofs.Common.{◌≡◌, ℕ, Bool, true, ◌&&◌, List, [], ◌∷◌, length, Option, Some, None, refl, ap, sym, subst, ◌∙◌, All}
use Rattle.std.specs.List.{list_all}
use Rattle.std.proofs.lemmas.List.Elements.{All-head, All-tail, All-nil, All-cons}
use Rattle.codes3270.specs.declared.attribute.Attr.{Attr as Attribute}
use Rattle.codes3270.specs.declared.attribute.Cell.{Cell}
use Rattle.codes3270.specs.declared.attribute.Cell.TheVariants.{Char}
use Rattle.datastream.specs.Grammar.{CommandParts, IsSpelt, is_write}
use Rattle.datastream.specs.Note.{IsNoteOrder, IsNote, places_from_on, places_noted, IsProtectedChar}
use Rattle.datastream.specs.Screen.{Screen, is_char_at, attribute_over, protects}
use Rattle.datastream.specs.declared.command_code.CommandCode.{CommandCode}
use Rattle.datastream.specs.declared.order.Order.{Order}
use Rattle.datastream.specs.declared.order.Order.TheVariants.{Sf, Sba, Ic, Pt, Ra, Eua, Char as CharData}
use Rattle.datastream.proofs.FieldViews.{none_governs}
use Rattle.shadow.specs.Belief.{next_address}
use Rattle.shadow.specs.Notes.{IsOutsideInput, IsOverProtected, OverwritesProtected, NoteOverwritesProtected, NoteOverwritesBare}
use Rattle.shadow.specs.Stores.{stores, stores_unplaced, is_plain_order}
use Rattle.shadow.specs.Taken.{resets}

plain_order : (order : Order) → IsNoteOrder order → is_plain_order order ≡ true
plain_order (CharData byte) h = refl
plain_order (Sba address) h = refl
plain_order (Sf attribute) h = absurd h
plain_order Ic h = absurd h
plain_order Pt h = absurd h
plain_order (Ra stop byte) h = absurd h
plain_order (Eua stop) h = absurd h

plain_orders : (orders : List Order) → All IsNoteOrder orders → list_all is_plain_order orders ≡ true
plain_orders [] h = refl
plain_orders (order ∷ orders) h =
    ap (λ (t : Bool). t && list_all is_plain_order orders) (plain_order order (All-head IsNoteOrder order orders h)) ∙ plain_orders orders (All-tail IsNoteOrder order orders h)

-- what holds of each cell that a note stores over
abbrev IsOutside : List Cell → ℕ → Type 0
IsOutside cells at = (is_char_at cells at ≡ true) × IsOutsideInput (attribute_over cells at)

over_each : (Q : ℕ → Type 0) (cells : List Cell) → ((at : ℕ) → Q at → IsOutside cells at) → (at : ℕ) (orders : List Order) → All IsNoteOrder orders → All Q (places_from_on (length cells) at orders)
    → All (IsOverProtected cells) (stores (length cells) at orders)
over_each Q cells outside at [] note h = All-nil (IsOverProtected cells)
over_each Q cells outside at (CharData byte ∷ orders) note h =
    let next : ℕ = next_address (length cells) at in
    let here = outside at (All-head Q at (places_from_on (length cells) next orders) h) in
    All-cons (IsOverProtected cells) (record { at = at; cell = Char byte }) (stores (length cells) next orders) ((refl, here.0), here.1)
    (over_each Q cells outside next orders (All-tail IsNoteOrder (CharData byte) orders note) (All-tail Q at (places_from_on (length cells) next orders) h))
over_each Q cells outside at (Sba address ∷ orders) note h = over_each Q cells outside address orders (All-tail IsNoteOrder (Sba address) orders note) h
over_each Q cells outside at (Sf attribute ∷ orders) note h = absurd (All-head IsNoteOrder (Sf attribute) orders note)
over_each Q cells outside at (Ic ∷ orders) note h = absurd (All-head IsNoteOrder Ic orders note)
over_each Q cells outside at (Pt ∷ orders) note h = absurd (All-head IsNoteOrder Pt orders note)
over_each Q cells outside at (Ra stop byte ∷ orders) note h = absurd (All-head IsNoteOrder (Ra stop byte) orders note)
over_each Q cells outside at (Eua stop ∷ orders) note h = absurd (All-head IsNoteOrder (Eua stop) orders note)

noted : (command : CommandParts) (screen : Screen) (Q : ℕ → Type 0) → IsSpelt command → IsNote command → ((at : ℕ) → Q at → IsOutside screen.cells at) → All Q (places_noted (length screen.cells) command)
    → OverwritesProtected command screen
noted command screen Q encoded note outside each =
    let size : ℕ = length screen.cells in
    let orders : List Order = Sba note.first ∷ note.others in
    let all : All IsNoteOrder orders = All-cons IsNoteOrder (Sba note.first) note.others tt note.each in
    record {
      encoded = encoded;
      plain =
          ap (λ (code : CommandCode). is_write code && list_all is_plain_order command.orders) note.code
          ∙ ap (list_all is_plain_order) note.orders ∙ plain_orders orders all;
      writes = note.code;
      keeps_mdt = ap resets note.wcc;
      placed = ap stores_unplaced note.orders;
      over =
          subst (λ (os : List Order). All (IsOverProtected screen.cells) (stores size 0 os)) (sym note.orders)
          (over_each Q screen.cells outside 0 orders all (subst (λ (os : List Order). All Q (places_from_on size 0 os)) note.orders each));
    }

outside_input : (o : Option Attribute) → protects o ≡ true → IsOutsideInput o
outside_input None e = tt
outside_input (Some attribute) e = e

pub note_overwrites : NoteOverwritesProtected
note_overwrites command screen encoded writes =
    noted command screen (IsProtectedChar screen.cells) encoded writes.note
    (λ at it. (it.character, outside_input (attribute_over screen.cells at) it.protected)) writes.each

pub note_overwrites_bare : NoteOverwritesBare
note_overwrites_bare command screen encoded none over =
    noted command screen (λ at. is_char_at screen.cells at ≡ true) encoded over.note
    (λ at it. (it, subst IsOutsideInput (sym (none_governs screen.cells none at)) tt)) over.each
