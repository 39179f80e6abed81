-- What plain orders make of a screen: the cells that they store, and the cursor.
use Rattle.std.proofs.Common.{◌≡◌, ℕ, true, false, List, [], ◌∷◌, length, set, refl, ap, ◌∙◌}
use Rattle.std.specs.List.{list_all}
use Rattle.std.proofs.lemmas.List.{length-set}
use Rattle.codes3270.specs.declared.attribute.Cell.{Cell}
use Rattle.codes3270.specs.declared.attribute.Cell.TheVariants.{Char, Attr}
use Rattle.datastream.specs.Screen.{Screen}
use Rattle.datastream.specs.Meaning.{WriteProgress, all_executed, executed}
use Rattle.datastream.specs.declared.order.Order.{Order}
use Rattle.datastream.specs.declared.order.Order.TheVariants.{Sf, Sba, Ic, Pt, Ra, Eua, Char as CharData}
use Rattle.shadow.specs.Belief.{next_address}
use Rattle.shadow.specs.Stores.{Store, stores, is_plain_order}

-- cells stored one after another
abbrev pub stored : List Store → List Cell → List Cell
stored [] cells = cells
stored (store ∷ stores) cells = stored stores (set cells store.at store.cell)

abbrev pub cursor_after : ℕ → ℕ → ℕ → List Order → ℕ
cursor_after size cursor at [] = cursor
cursor_after size cursor at (Sba to ∷ orders) = cursor_after size cursor to orders
cursor_after size cursor at (Sf attr ∷ orders) = cursor_after size cursor (next_address size at) orders
cursor_after size cursor at (Ic ∷ orders) = cursor_after size at at orders
cursor_after size cursor at (CharData c ∷ orders) = cursor_after size cursor (next_address size at) orders
cursor_after size cursor at (Pt ∷ orders) = cursor_after size cursor at orders
cursor_after size cursor at (Ra stop c ∷ orders) = cursor_after size cursor at orders
cursor_after size cursor at (Eua stop ∷ orders) = cursor_after size cursor at orders

abbrev screen_stored : ℕ → WriteProgress → List Order → Screen
screen_stored size write orders = record {
  cells = stored (stores size write.address orders) write.screen.cells;
  cursor = cursor_after size write.screen.cursor write.address orders;
  aid = write.screen.aid;
}

-- the meaning of plain orders is what they store
pub plain_orders : (size : ℕ) (orders : List Order) (write : WriteProgress) → list_all is_plain_order orders ≡ true → length write.screen.cells ≡ size
    → (all_executed orders write).screen ≡ screen_stored size write orders
plain_orders size [] write p whole = refl
plain_orders size (Sba to ∷ orders) write p whole = plain_orders size orders (executed (Sba to) write) p whole
plain_orders size (Ic ∷ orders) write p whole = plain_orders size orders (executed Ic write) p whole
plain_orders size (Sf attr ∷ orders) write p whole =
    plain_orders size orders (executed (Sf attr) write) p (length-set write.screen.cells write.address (Attr attr) ∙ whole)
    ∙ ap (λ n. screen_stored size (record { screen = record write.screen { cells = set write.screen.cells write.address (Attr attr) }; address = next_address n write.address; after_data = false }) orders) whole
plain_orders size (CharData c ∷ orders) write p whole =
    plain_orders size orders (executed (CharData c) write) p (length-set write.screen.cells write.address (Char c) ∙ whole)
    ∙ ap (λ n. screen_stored size (record { screen = record write.screen { cells = set write.screen.cells write.address (Char c) }; address = next_address n write.address; after_data = true }) orders) whole
plain_orders size (Pt ∷ orders) write p whole = absurd (cc)
plain_orders size (Ra stop c ∷ orders) write p whole = absurd (cc)
plain_orders size (Eua stop ∷ orders) write p whole = absurd (cc)
