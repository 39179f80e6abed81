-- A screen that is wholly known, as one of which every cell was just stored.
use Rattle.std.proofs.Common.{◌≡◌, ℕ, ◌+◌, Bool, true, false, List, [], ◌∷◌, ◌++◌, length, map, set, Option, Some, refl, ap, sym, ◌∙◌, if◌then◌else◌}
use Rattle.std.proofs.lemmas.List.{map-set, length-map}
use Rattle.codes3270.specs.declared.attribute.Cell.{Cell}
use Rattle.codes3270.specs.declared.attribute.Cell.TheVariants.{Char, Attr}
use Rattle.codes3270.specs.declared.attribute.Attr.{Attr as Attribute}
use Rattle.datastream.specs.Screen.{text_before_attribute}
use Rattle.datastream.specs.Fields.{Field, fields}
use Rattle.datastream.proofs.FieldWalk.{fields_walked, fields_are_walked}
use Rattle.datastream.specs.KeptByKeys.{without_mdt}
use Rattle.shadow.specs.declared.known.Known.{Known}
use Rattle.shadow.specs.Belief.{Fact, Belief, Shadow}
use Rattle.shadow.specs.AfterReadBuffer.{belief_seen, formatted_or, seen, mark_seen}
use Rattle.shadow.specs.Stores.{Store}
use Rattle.shadow.specs.Taken.{new_cell, known_stored, known_ahead, fresh_ahead, fact_known, whole_text, and_char, exact_or_any, fact_after, belief_after, beliefs_from, formatted_as, believed}
use Rattle.shadow.proofs.Stored.{stored}

pub stored_fresh : (stores : List Store) (cells : List Cell) → known_stored stores (map new_cell cells) ≡ map new_cell (stored stores cells)
stored_fresh [] cells = refl
stored_fresh (store ∷ stores) cells =
    ap (known_stored stores) (sym (map-set new_cell cells store.at store.cell)) ∙ stored_fresh stores (set cells store.at store.cell)

ahead_fresh : (cells more : List Cell) → known_ahead (map new_cell cells ++ map new_cell more) ≡ map Some (text_before_attribute (cells ++ more))
ahead_fresh [] [] = refl
ahead_fresh [] (Char c ∷ more) = ap (λ (ks : List (Option ℕ)). Some c ∷ ks) (ahead_fresh [] more)
ahead_fresh [] (Attr a ∷ more) = refl
ahead_fresh (Char c ∷ cells) more = ap (λ (ks : List (Option ℕ)). Some c ∷ ks) (ahead_fresh cells more)
ahead_fresh (Attr a ∷ cells) more = refl

pub whole_fresh : (text : List ℕ) → whole_text (map Some text) ≡ Some text
whole_fresh [] = refl
whole_fresh (c ∷ text) = ap (and_char (Some c)) (whole_fresh text)

fact_fresh : (place : ℕ) (text : List ℕ) (ahead : List Known) → known_ahead ahead ≡ map Some text → fact_after [] place ahead ≡ Fact.Exact text
fact_fresh place text ahead is = cases (fresh_ahead ahead)
  where
    exact : fact_known (known_ahead ahead) ≡ Fact.Exact text
    exact = ap fact_known is ∙ ap (λ (o : Option (List ℕ)). exact_or_any o (map Some text)) (whole_fresh text)

    cases : (t : Bool) → (if t then fact_known (known_ahead ahead) else fact_known (known_ahead ahead)) ≡ Fact.Exact text
    cases true = exact
    cases false = exact

field_fresh : (n : ℕ) (a : Attribute) (text : List ℕ) (ahead : List Known) → known_ahead ahead ≡ map Some text
    → belief_after [] n (without_mdt a) (mark_seen a.mdt) ahead ≡ belief_seen (record { place = n; attr = a; text = text })
field_fresh n a text ahead is =
    λ i. record { place = n; attr = without_mdt a; mdt = mark_seen a.mdt; length = (ap length is ∙ length-map text Some) i; fact = fact_fresh n text ahead is i }

pub fields_fresh : (whole : List Cell) (n : ℕ) (rest : List Cell) → beliefs_from [] (map new_cell whole) n (map new_cell rest) ≡ map belief_seen (fields_walked whole n rest)
fields_fresh whole n [] = refl
fields_fresh whole n (Char c ∷ rest) = fields_fresh whole (n + 1) rest
fields_fresh whole n (Attr a ∷ rest) =
    let first = field_fresh n a (text_before_attribute (rest ++ whole)) _ (ahead_fresh rest whole) in
    let others = fields_fresh whole (n + 1) rest in
    cc

pub both : (bs : List Belief) (fs : List Field) (known : List (Option ℕ)) (text : List ℕ) → bs ≡ map belief_seen fs → known ≡ map Some text → formatted_as bs known ≡ formatted_or fs text
both [] [] known text same is = ap Shadow.Unformatted is
both [] (f ∷ fs) known text same is = absurd (cc)
both (b ∷ bs) [] known text same is = absurd (cc)
both (b ∷ bs) (f ∷ fs) known text same is = ap Shadow.Formatted same

pub seen_fresh : (cells : List Cell) → believed [] (map new_cell cells) ≡ seen cells
seen_fresh cells = both (beliefs_from [] (map new_cell cells) 0 (map new_cell cells)) (fields cells) (known_ahead (map new_cell cells)) (text_before_attribute cells) (fields_fresh cells 0 cells ∙ ap (map belief_seen) (sym (fields_are_walked cells))) (ahead_fresh [] cells)

-- what is believed after an erase
pub erased : (stores : List Store) (cells : List Cell) (before : List Belief) (known : List Known) → before ≡ [] → known ≡ known_stored stores (map new_cell cells)
    → believed before known ≡ seen (stored stores cells)
erased stores cells before known none is = rw (none, is, stored_fresh stores cells) (seen_fresh (stored stores cells))
