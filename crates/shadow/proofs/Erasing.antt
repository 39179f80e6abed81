-- What a plain erase leaves.
use Rattle.std.proofs.Common.{◌≡◌, ℕ, zero, suc, Bool, true, false, ◌&&◌, List, ◌∷◌, length, map, replicate, Option, Some, None, refl, ap, ◌∙◌, if◌then◌else◌}
use Rattle.std.specs.List.{list_all}
use Rattle.std.proofs.lemmas.List.{length-replicate}
use Rattle.codes3270.specs.Size.{cells_in}
use Rattle.codes3270.specs.declared.attribute.Cell.{Cell}
use Rattle.codes3270.specs.declared.attribute.Cell.TheVariants.{Char}
use Rattle.codes3270.specs.declared.write_control.Wcc.{Wcc}
use Rattle.datastream.specs.Grammar.{CommandParts, IsSpelt, is_write}
use Rattle.datastream.specs.Screen.{Screen, blank_screen}
use Rattle.datastream.specs.declared.command_code.CommandCode.{CommandCode}
use Rattle.datastream.specs.declared.command_code.CommandCode.TheVariants.{Write, EraseWrite, EraseWriteAlternate, ReadBuffer, ReadModified, ReadModifiedAll, EraseAllUnprotected}
use Rattle.datastream.specs.Meaning.{unmodified, prepared, written, cleared, after_code, after_command}
use Rattle.datastream.specs.declared.order.Order.{Order}
use Rattle.shadow.specs.AfterReadBuffer.{seen}
use Rattle.shadow.specs.Stores.{stores, is_plain_order, is_plain}
use Rattle.shadow.specs.Taken.{taken_erase}
use Rattle.shadow.proofs.Stored.{stored}
use Rattle.shadow.proofs.LaidOut.{cells_written, has_wcc}

pub same_nulls : (reset : Bool) (size : ℕ) → (if reset then map unmodified (replicate size (Char 0)) else replicate size (Char 0)) ≡ replicate size (Char 0)
same_nulls true zero = refl
same_nulls true (suc size) = ap (λ l. Char 0 ∷ l) (same_nulls true size)
same_nulls false size = refl

-- the cells after a write on nulls, from address 0
cells_from_nulls : (size : ℕ) (wcc : Wcc) (orders : List Order) (screen : Screen) → list_all is_plain_order orders ≡ true → screen.cells ≡ replicate size (Char 0) → screen.cursor ≡ 0
    → (written (Some wcc) orders screen).cells ≡ stored (stores size 0 orders) (replicate size (Char 0))
cells_from_nulls size wcc orders screen plain nulls start =
    cells_written wcc orders screen plain
    ∙ ap (λ (n : ℕ). stored (stores (length screen.cells) n orders) (prepared wcc screen).cells) start
    ∙ ap (λ (cells : List Cell). stored (stores (length cells) 0 orders) (if wcc.reset then map unmodified cells else cells)) nulls
    ∙ ap (λ (n : ℕ). stored (stores n 0 orders) (if wcc.reset then map unmodified (replicate size (Char 0)) else replicate size (Char 0))) (length-replicate size (Char 0))
    ∙ ap (stored (stores size 0 orders)) (same_nulls wcc.reset size)

erase_cells : (command : CommandParts) → IsSpelt command → is_plain command ≡ true
    → (after_command command (blank_screen (cells_in command.size))).cells ≡ stored (stores (cells_in command.size) 0 command.orders) (replicate (cells_in command.size) (Char 0))
erase_cells command encoded plain = go command.code command.wcc (has_wcc command encoded) plain
  where
    go : (code : CommandCode) (wcc : Option Wcc) → (is_write code ≡ true → (w : Wcc) × (wcc ≡ Some w)) → (is_write code && list_all is_plain_order command.orders) ≡ true
        → (after_code code (cells_in command.size) wcc command.orders (blank_screen (cells_in command.size))).cells ≡ stored (stores (cells_in command.size) 0 command.orders) (replicate (cells_in command.size) (Char 0))
    go Write (Some wcc) has p = cells_from_nulls (cells_in command.size) wcc command.orders (blank_screen (cells_in command.size)) p refl refl
    go EraseWrite (Some wcc) has p = cells_from_nulls (cells_in command.size) wcc command.orders (cleared (cells_in command.size) (blank_screen (cells_in command.size))) p refl refl
    go EraseWriteAlternate (Some wcc) has p = cells_from_nulls (cells_in command.size) wcc command.orders (cleared (cells_in command.size) (blank_screen (cells_in command.size))) p refl refl
    go Write None has p = absurd (let w = has refl in cc)
    go EraseWrite None has p = absurd (let w = has refl in cc)
    go EraseWriteAlternate None has p = absurd (let w = has refl in cc)
    go ReadBuffer wcc has p = absurd (cc)
    go ReadModified wcc has p = absurd (cc)
    go ReadModifiedAll wcc has p = absurd (cc)
    go EraseAllUnprotected wcc has p = absurd (cc)

pub erase_seen : (command : CommandParts) → IsSpelt command → is_plain command ≡ true
    → taken_erase command ≡ seen (stored (stores (cells_in command.size) 0 command.orders) (replicate (cells_in command.size) (Char 0)))
erase_seen command encoded plain = ap seen (erase_cells command encoded plain)
