-- The order at the front of bytes: reading it agrees with the grammar.
use Rattle.std.proofs.Common.{◌≡◌, ◌==◌, ℕ, ◌<◌, ◌≤◌, List, [], ◌∷◌, ◌++◌, length, Bool, true, false, refl, ap, sym, ◌∙◌, Result, Ok, Err, nat_lt, arith, inl, inr, subst}
use Rattle.std.specs.Prelude.{◌||◌}
use Rattle.std.proofs.lemmas.Bool.{cond_both, eqb-true, ltb-true, ltb-false, lt-ltb, le-ltb, or_cases, false≢true}
use Rattle.codes3270.specs.Address.{address_of}
use Rattle.codes3270.specs.Attribute.{attr_of}
use Rattle.codes3270.specs.Storable.{is_storable}
use Rattle.datastream.specs.declared.order.Order.{Order}
use Rattle.datastream.specs.declared.order.Order.TheVariants.{Sf, Sba, Ic, Pt, Ra, Eua, Char}
use Rattle.datastream.specs.declared.fault.CommandFault.{CommandFault}
use Rattle.datastream.specs.declared.fault.CommandFault.TheVariants.{BadOrder, BadAddress, Truncated}
use Rattle.datastream.specs.Grammar.{start_field, set_buffer_address, insert_cursor, program_tab, repeat_to_address, erase_unprotected_to_address, IsAddress, IsOrder, has_address, is_order_code, IsNoOrder, unknown_code, cut_attribute, cut_address, address_too_large, cut_character, unstorable_character}
use Rattle.datastream.specs.Reading.{◌>>=◌, byte_at, address_at, character_at, order_after, order_at}
use Rattle.datastream.proofs.Decisions.{cond_when, cond_unless, neither}

-- ---- what is read is in the grammar

module _ (size : ℕ) where
  -- an order and the bytes behind it, or no order
  abbrev pub IsRead : List ℕ → Result (Order × List ℕ) CommandFault → Type 0
  IsRead bytes (Ok found) = (front : List ℕ) × IsOrder size found.0 front × (bytes ≡ front ++ found.1) × (0 < length front)
  IsRead bytes (Err fault) = IsNoOrder size fault bytes

  attribute_read : (code : ℕ) (rest : List ℕ) → code ≡ start_field → IsRead (code ∷ rest) (byte_at rest >>= (λ attr. Ok (Sf (attr_of attr.0), attr.1)))
  attribute_read code [] is = cut_attribute refl (ap (λ c. c ∷ []) is)
  attribute_read code (attr ∷ rest) is = (code ∷ attr ∷ [], (attr, refl, ap (λ c. c ∷ attr ∷ []) is), refl, omega arith)

  address_read : (code : ℕ) (rest : List ℕ) (then : ℕ × List ℕ → Result (Order × List ℕ) CommandFault) → has_address code ≡ true
      → ((high low : ℕ) (more : List ℕ) → address_of high low < size → IsRead (code ∷ high ∷ low ∷ more) (then (address_of high low, more)))
      → IsRead (code ∷ rest) (address_at size rest >>= then)
  address_read code [] then has goes = cut_address code [] has (omega arith) refl refl
  address_read code (high ∷ []) then has goes = cut_address code (high ∷ []) has (omega arith) refl refl
  address_read code (high ∷ low ∷ more) then has goes =
      cond_both (nat_lt (address_of high low) size) (Ok (address_of high low, more)) (Err BadAddress) (λ r. IsRead (code ∷ high ∷ low ∷ more) (r >>= then))
      (λ below. goes high low more (ltb-true _ _ below))
      (λ above. address_too_large code high low more has (ltb-false _ _ above) refl refl)

  character_read : (high low : ℕ) (more : List ℕ) → address_of high low < size
      → IsRead (repeat_to_address ∷ high ∷ low ∷ more) (character_at more >>= (λ char. Ok (Ra (address_of high low) char.0, char.1)))
  character_read high low [] below = cut_character high low below refl refl
  character_read high low (char ∷ more) below =
      cond_both (is_storable char) (Ok (char, more)) (Err BadOrder) (λ r. IsRead (repeat_to_address ∷ high ∷ low ∷ char ∷ more) (r >>= (λ char. Ok (Ra (address_of high low) char.0, char.1))))
      (λ storable. (repeat_to_address ∷ high ∷ low ∷ char ∷ [], (high, low, (refl, below), storable, refl), refl, omega arith))
      (λ unstorable. unstorable_character high low char more below unstorable refl refl)

  after_read : (code : ℕ) (rest : List ℕ) → is_storable code ≡ false → IsRead (code ∷ rest) (order_after size code rest)
  unfolding order_after
  after_read code rest unstorable =
      let P : Result (Order × List ℕ) CommandFault → Type 0 = λ r. IsRead (code ∷ rest) r in
      cond_both (code == start_field) _ _ P (λ is. attribute_read code rest (eqb-true _ _ is))
      (λ no_sf. cond_both (code == set_buffer_address) _ _ P
      (λ is. address_read code rest (λ stop. Ok (Sba stop.0, stop.1)) (rw (eqb-true code set_buffer_address is) refl)
      (λ high low more below. (code ∷ high ∷ low ∷ [], (high, low, (refl, below), ap (λ c. c ∷ high ∷ low ∷ []) (eqb-true code set_buffer_address is)), refl, omega arith)))
      (λ no_sba. cond_both (code == erase_unprotected_to_address) _ _ P
      (λ is. address_read code rest (λ stop. Ok (Eua stop.0, stop.1)) (rw (eqb-true code erase_unprotected_to_address is) refl)
      (λ high low more below. (code ∷ high ∷ low ∷ [], (high, low, (refl, below), ap (λ c. c ∷ high ∷ low ∷ []) (eqb-true code erase_unprotected_to_address is)), refl, omega arith)))
      (λ no_eua. cond_both (code == repeat_to_address) _ _ P
      (λ is. address_read code rest (λ stop. character_at stop.1 >>= (λ char. Ok (Ra stop.0 char.0, char.1))) (rw (eqb-true code repeat_to_address is) refl)
      (λ high low more below. rw (eqb-true code repeat_to_address is) (character_read high low more below)))
      (λ no_ra. cond_both (code == insert_cursor) _ _ P
      (λ is. (code ∷ [], ap (λ c. c ∷ []) (eqb-true code insert_cursor is), refl, omega arith))
      (λ no_ic. cond_both (code == program_tab) _ _ P
      (λ is. (code ∷ [], ap (λ c. c ∷ []) (eqb-true code program_tab is), refl, omega arith))
      (λ no_pt. unknown_code code rest (neither _ _ (neither _ _ (neither _ _ (neither _ _ (neither _ _ no_sba no_eua) no_ra) no_sf) no_ic) no_pt) unstorable refl refl))))))

  pub order_read : (byte : ℕ) (rest : List ℕ) → IsRead (byte ∷ rest) (order_at size (byte ∷ rest))
  unfolding order_at
  order_read byte rest =
      cond_both (is_storable byte) (Ok (Char byte, rest)) (order_after size byte rest) (λ r. IsRead (byte ∷ rest) r)
      (λ storable. (byte ∷ [], (storable, refl), refl, omega arith))
      (λ unstorable. after_read byte rest unstorable)

  -- ---- what is in the grammar is read

  address_again : (high low address : ℕ) (rest : List ℕ) → IsAddress size high low address → address_at size (high ∷ low ∷ rest) ≡ Ok (address, rest)
  address_again high low address rest (value, in_range) =
      rw value (cond_when (nat_lt (address_of high low) size) (Ok (address_of high low, rest)) (Err BadAddress) (lt-ltb _ _ (rw value at in_range)))

character_again : (char : ℕ) (rest : List ℕ) → is_storable char ≡ true → character_at (char ∷ rest) ≡ Ok (char, rest)
character_again char rest storable = cond_when (is_storable char) (Ok (char, rest)) (Err BadOrder) storable

module _ (size : ℕ) where
  pub order_again : (order : Order) (front rest : List ℕ) → IsOrder size order front → order_at size (front ++ rest) ≡ Ok (order, rest)
  unfolding order_at order_after
  order_again (Char char) front rest (storable, is) = rw is (cond_when (is_storable char) _ _ storable)
  order_again (Sf attr) front rest (code, value, is) = rw (is, value) refl
  order_again (Sba address) front rest (high, low, stands, is) =
      rw is (ap (λ r. r >>= (λ stop. Ok (Sba stop.0, stop.1))) (address_again size high low address rest stands))
  order_again Ic front rest is = rw is refl
  order_again Pt front rest is = rw is refl
  order_again (Ra stop char) front rest (high, low, stands, storable, is) =
      rw is
      (ap (λ r. r >>= (λ stop. character_at stop.1 >>= (λ char. Ok (Ra stop.0 char.0, char.1)))) (address_again size high low stop (char ∷ rest) stands)
      ∙ ap (λ r. r >>= (λ char. Ok (Ra stop char.0, char.1))) (character_again char rest storable))
  order_again (Eua stop) front rest (high, low, stands, is) =
      rw is (ap (λ r. r >>= (λ stop. Ok (Eua stop.0, stop.1))) (address_again size high low stop rest stands))

-- ---- what is no order isn't read

none_of : (x y : Bool) → (x || y) ≡ false → (x ≡ false) × (y ≡ false)
none_of false y e = (refl, e)
none_of true y e = absurd (false≢true (sym e))

address_code : (P : ℕ → Type 0) (code : ℕ) → has_address code ≡ true → P set_buffer_address → P erase_unprotected_to_address → P repeat_to_address → P code
address_code P code has sba eua ra =
    elim (or_cases _ _ has) [
      | inl first ↦ elim (or_cases _ _ first) [
        | inl is ↦ subst P (sym (eqb-true code set_buffer_address is)) sba
        | inr is ↦ subst P (sym (eqb-true code erase_unprotected_to_address is)) eua
      ]
      | inr is ↦ subst P (sym (eqb-true code repeat_to_address is)) ra
    ]

module _ (size : ℕ) where
  cut_before : (code : ℕ) (few : List ℕ) → has_address code ≡ true → length few < 2 → order_at size (code ∷ few) ≡ Err Truncated
  unfolding order_at order_after
  cut_before code [] has short = address_code (λ c. order_at size (c ∷ []) ≡ Err Truncated) code has refl refl refl
  cut_before code (high ∷ []) has short = address_code (λ c. order_at size (c ∷ high ∷ []) ≡ Err Truncated) code has refl refl refl
  cut_before code (high ∷ low ∷ more) has short = absurd (omega arith)

  address_fault : (high low : ℕ) (more : List ℕ) → size ≤ address_of high low → address_at size (high ∷ low ∷ more) ≡ Err BadAddress
  address_fault high low more above = cond_unless (nat_lt (address_of high low) size) (Ok (address_of high low, more)) (Err BadAddress) (le-ltb _ _ above)

  too_large : (code high low : ℕ) (more : List ℕ) → has_address code ≡ true → size ≤ address_of high low → order_at size (code ∷ high ∷ low ∷ more) ≡ Err BadAddress
  unfolding order_at order_after
  too_large code high low more has above =
      let fault = address_fault high low more above in
      address_code (λ c. order_at size (c ∷ high ∷ low ∷ more) ≡ Err BadAddress) code has
      (ap (λ r. r >>= (λ stop. Ok (Sba stop.0, stop.1))) fault)
      (ap (λ r. r >>= (λ stop. Ok (Eua stop.0, stop.1))) fault)
      (ap (λ r. r >>= (λ stop. character_at stop.1 >>= (λ char. Ok (Ra stop.0 char.0, char.1)))) fault)

  unknown : (code : ℕ) (more : List ℕ) → is_order_code code ≡ false → is_storable code ≡ false → order_at size (code ∷ more) ≡ Err BadOrder
  unfolding order_at order_after
  unknown code more no_order unstorable =
      let a = none_of _ _ no_order in
      let b = none_of _ _ a.0 in
      let c = none_of _ _ b.0 in
      let d = none_of _ _ c.0 in
      let e = none_of _ _ d.0 in
      cond_unless (is_storable code) _ _ unstorable
      ∙ cond_unless (code == start_field) _ _ c.1 ∙ cond_unless (code == set_buffer_address) _ _ e.0 ∙ cond_unless (code == erase_unprotected_to_address) _ _ e.1
      ∙ cond_unless (code == repeat_to_address) _ _ d.1 ∙ cond_unless (code == insert_cursor) _ _ b.1 ∙ cond_unless (code == program_tab) _ _ a.1

  pub order_fault : (fault : CommandFault) (bytes : List ℕ) → IsNoOrder size fault bytes → order_at size bytes ≡ Err fault
  unfolding order_at order_after
  order_fault fault bytes (unknown_code code more no_order unstorable which is) = rw (is, which) (unknown code more no_order unstorable)
  order_fault fault bytes (cut_attribute which is) = rw (is, which) refl
  order_fault fault bytes (cut_address code few has short which is) = rw (is, which) (cut_before code few has short)
  order_fault fault bytes (address_too_large code high low more has above which is) = rw (is, which) (too_large code high low more has above)
  order_fault fault bytes (cut_character high low below which is) =
      rw (is, which) (ap (λ r. r >>= (λ stop. character_at stop.1 >>= (λ char. Ok (Ra stop.0 char.0, char.1)))) (address_again size high low (address_of high low) [] (refl, below)))
  order_fault fault bytes (unstorable_character high low char more below unstorable which is) =
      rw (is, which)
      (ap (λ r. r >>= (λ stop. character_at stop.1 >>= (λ char. Ok (Ra stop.0 char.0, char.1)))) (address_again size high low (address_of high low) (char ∷ more) (refl, below))
      ∙ ap (λ r. r >>= (λ char. Ok (Ra (address_of high low) char.0, char.1))) (cond_unless (is_storable char) (Ok (char, more)) (Err BadOrder) unstorable))
