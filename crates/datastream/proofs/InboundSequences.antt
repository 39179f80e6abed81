-- Parts one after the other: reading them agrees with what bytes stand for parts.
use Rattle.std.proofs.Common.{◌≡◌, ℕ, ◌+◌, ◌<◌, ◌≤◌, suc, zero, List, [], ◌∷◌, ◌++◌, length, refl, ap, sym, ◌∙◌, Result, Ok, Err, arith, length-append, subst, append_assoc}
use Rattle.std.proofs.lemmas.List.{append-nil}
use Rattle.std.specs.Prelude.{All}
use Rattle.std.proofs.lemmas.List.Elements.{All-nil, All-cons}
use Rattle.datastream.specs.declared.inbound_part.Form.{Form}
use Rattle.datastream.specs.declared.inbound_part.Form.TheVariants.{Modified, All as AllModified, Buffer}
use Rattle.datastream.specs.declared.inbound_part.Part.{Part}
use Rattle.datastream.specs.declared.inbound_part.InboundFault.{InboundFault}
use Rattle.datastream.specs.declared.inbound_part.InboundFault.TheVariants.{Short, BadForm}
use Rattle.datastream.specs.InboundText.{IsPart, AreParts, IsProperPart, IsWhole, HasRoom, IsNoPart, HasPartFault}
use Rattle.datastream.specs.InboundText.IsNoTextPart.{out_of_place as text_out_of_place, cut_address, address_too_large}
use Rattle.datastream.specs.InboundText.HasPartFault.{no_part, too_many}
use Rattle.datastream.specs.InboundReading.{part_at, and_parts, parts_within, parts_in, IsReadTo}
use Rattle.datastream.proofs.InboundFront.{IsRead, cell_read, part_read, part_again, part_fault, part_at-nil, part_proper}

-- ---- the parts that are left, step by step

module _ (size : ℕ) where
  -- a part takes a byte at least
  step_shorter : (form : Form) (byte : ℕ) (bytes : List ℕ) (part : Part) (rest : List ℕ) → part_at size form (byte ∷ bytes) ≡ Ok (part, rest) → length rest ≤ length bytes
  step_shorter form byte bytes part rest is =
      let read : IsRead size form (byte ∷ bytes) (Ok (part, rest)) = subst (λ r. IsRead size form (byte ∷ bytes) r) is (part_read size form byte bytes) in
      let lengths : suc (length bytes) ≡ length (read.0 ++ rest) = ap length read.2 in
      omega (arith, read.3, lengths, length-append read.0 rest)

  pub nothing_at_end : {P : Type 0} (form : Form) (part : Part) (rest : List ℕ) → part_at size form [] ≡ Ok (part, rest) → P
  nothing_at_end form part rest is = let end = part_at-nil size form in cc

  pub shorter : (form : Form) (bytes : List ℕ) (part : Part) (rest : List ℕ) → part_at size form bytes ≡ Ok (part, rest) → length rest < length bytes
  shorter form [] part rest is = nothing_at_end form part rest is
  shorter form (byte ∷ bytes) part rest is = omega (arith, step_shorter form byte bytes part rest is)

same_others : (f g : List ℕ → List Part) (r : Result (Part × List ℕ) InboundFault) → ((part : Part) (rest : List ℕ) → r ≡ Ok (part, rest) → f rest ≡ g rest) → and_parts f r ≡ and_parts g r
same_others f g (Ok found) same = ap (λ parts. found.0 ∷ parts) (same found.0 found.1 refl)
same_others f g (Err fault) same = refl

module _ (size : ℕ) where
  within_nil : (form : Form) (n : ℕ) → parts_within size form n [] ≡ []
  unfolding parts_within
  within_nil form zero = refl
  within_nil form (suc n) = ap (and_parts (parts_within size form n)) (part_at-nil size form)

  enough : (form : Form) (m n : ℕ) (text : List ℕ) → length text ≤ m → length text ≤ n → parts_within size form m text ≡ parts_within size form n text
  unfolding parts_within
  enough form zero zero text small fits = refl
  enough form zero (suc n) [] small fits = sym (within_nil form (suc n))
  enough form zero (suc n) (byte ∷ bytes) small fits = absurd (omega arith)
  enough form (suc m) zero [] small fits = within_nil form (suc m)
  enough form (suc m) zero (byte ∷ bytes) small fits = absurd (omega arith)
  enough form (suc m) (suc n) [] small fits = within_nil form (suc m) ∙ sym (within_nil form (suc n))
  enough form (suc m) (suc n) (byte ∷ bytes) small fits =
      same_others (parts_within size form m) (parts_within size form n) (part_at size form (byte ∷ bytes))
      (λ part rest is. let short : length rest ≤ length bytes = step_shorter size form byte bytes part rest is in enough form m n rest (omega arith) (omega arith))

  pub parts_in-next : (form : Form) (text : List ℕ) (part : Part) (rest : List ℕ) → part_at size form text ≡ Ok (part, rest) → parts_in size form text ≡ part ∷ parts_in size form rest
  unfolding parts_in parts_within
  parts_in-next form [] part rest is = nothing_at_end size form part rest is
  parts_in-next form (byte ∷ bytes) part rest is =
      ap (and_parts (parts_within size form (length bytes))) is
      ∙ ap (λ parts. part ∷ parts) (enough form (length bytes) (length rest) rest (step_shorter size form byte bytes part rest is) (omega arith))

  pub parts_in-end : (form : Form) (text : List ℕ) (fault : InboundFault) → part_at size form text ≡ Err fault → parts_in size form text ≡ []
  unfolding parts_in parts_within
  parts_in-end form [] fault is = refl
  parts_in-end form (byte ∷ bytes) fault is = ap (and_parts (parts_within size form (length bytes))) is

  pub parts_in-nil : (form : Form) → parts_in size form [] ≡ []
  parts_in-nil form = parts_in-end form [] Short (part_at-nil size form)

  -- ---- parts are read in one way

  -- what stands for parts is read as these, and then what follows them
  pub parts_again : (form : Form) (parts : List Part) (bytes rest : List ℕ) → AreParts size form parts bytes → parts_in size form (bytes ++ rest) ≡ parts ++ parts_in size form rest
  parts_again form [] bytes rest is = rw is refl
  parts_again form (part ∷ parts) bytes rest (front, back, first, others, is) =
      let regrouped : bytes ++ rest ≡ front ++ (back ++ rest) = ap (λ b. b ++ rest) is ∙ append_assoc front back rest in
      ap (parts_in size form) regrouped ∙ parts_in-next form (front ++ (back ++ rest)) part (back ++ rest) (part_again size form part front (back ++ rest) first)
      ∙ ap (λ ps. part ∷ ps) (parts_again form parts back rest others)

  pub parts_in-whole : (form : Form) (parts : List Part) (text : List ℕ) → AreParts size form parts text → parts_in size form text ≡ parts
  parts_in-whole form parts text are =
      ap (parts_in size form) (sym (append-nil text)) ∙ parts_again form parts text [] are ∙ ap (λ ps. parts ++ ps) (parts_in-nil form) ∙ append-nil parts

  pub parts_before_fault : (form : Form) (parts : List Part) (fault : InboundFault) (front back text : List ℕ) → AreParts size form parts front → IsNoPart size form fault back → text ≡ front ++ back → parts_in size form text ≡ parts
  parts_before_fault form parts fault front back text are none is =
      ap (parts_in size form) is ∙ parts_again form parts front back are ∙ ap (λ ps. parts ++ ps) (parts_in-end form back fault (part_fault size form fault back none)) ∙ append-nil parts

abbrev bytes_behind : Result (Part × List ℕ) InboundFault → List ℕ
bytes_behind (Ok found) = found.1
bytes_behind (Err fault) = []

module _ (size : ℕ) where
  -- what follows the same parts
  pub same_rest : (form : Form) (parts : List Part) (a b x y : List ℕ) → AreParts size form parts a → AreParts size form parts b → a ++ x ≡ b ++ y → x ≡ y
  same_rest form [] a b x y is_a is_b same = sym (ap (λ f. f ++ x) is_a) ∙ same ∙ ap (λ f. f ++ y) is_b
  same_rest form (part ∷ parts) a b x y (front_a, back_a, first_a, others_a, is_a) (front_b, back_b, first_b, others_b, is_b) same =
      let regrouped_a : a ++ x ≡ front_a ++ (back_a ++ x) = ap (λ f. f ++ x) is_a ∙ append_assoc front_a back_a x in
      let regrouped_b : b ++ y ≡ front_b ++ (back_b ++ y) = ap (λ f. f ++ y) is_b ∙ append_assoc front_b back_b y in
      let read_a : part_at size form (a ++ x) ≡ Ok (part, back_a ++ x) = ap (part_at size form) regrouped_a ∙ part_again size form part front_a (back_a ++ x) first_a in
      let read_b : part_at size form (b ++ y) ≡ Ok (part, back_b ++ y) = ap (part_at size form) regrouped_b ∙ part_again size form part front_b (back_b ++ y) first_b in
      let behind : back_a ++ x ≡ back_b ++ y = ap bytes_behind (sym read_a ∙ ap (part_at size form) same ∙ read_b) in
      same_rest form parts back_a back_b x y others_a others_b behind

  -- a text that is parts has no other part behind them
  nothing_behind : (form : Form) (parts : List Part) (text front back : List ℕ) → AreParts size form parts text → AreParts size form parts front → text ≡ front ++ back → [] ≡ back
  nothing_behind form parts text front back are are_front is =
      same_rest form parts text front [] back are are_front (append-nil text ∙ is)

  -- ---- a whole text has no fault

  -- the end is a fault only where a cell is missing
  end_is_fault : (form : Form) (parts : List Part) (fault : InboundFault) → IsWhole size form parts → HasRoom size form parts → IsNoPart size form fault [] → ⊥
  end_is_fault Modified parts fault whole room (text_out_of_place byte more none which is) = cc
  end_is_fault Modified parts fault whole room (cut_address few short which is) = cc
  end_is_fault Modified parts fault whole room (address_too_large high low more above which is) = cc
  end_is_fault AllModified parts fault whole room (text_out_of_place byte more none which is) = cc
  end_is_fault AllModified parts fault whole room (cut_address few short which is) = cc
  end_is_fault AllModified parts fault whole room (address_too_large high low more above which is) = cc
  end_is_fault Buffer parts fault whole room none = omega arith

  whole_Buffer : (form : Form) (parts : List Part) → form ≡ Buffer → IsWhole size form parts → length parts ≡ size
  whole_Buffer Modified parts is whole = cc
  whole_Buffer AllModified parts is whole = cc
  whole_Buffer Buffer parts is whole = whole

  room_Buffer : (form : Form) (parts : List Part) → form ≡ Buffer → HasRoom size form parts → length parts < size
  room_Buffer Modified parts is room = cc
  room_Buffer AllModified parts is room = cc
  room_Buffer Buffer parts is room = room

  -- parts before others of the same text are no more than these
  longer : (form : Form) (parts : List Part) (front rest text : List ℕ) → AreParts size form parts front → text ≡ front ++ rest → length (parts_in size form text) ≡ length parts + length (parts_in size form rest)
  longer form parts front rest text are is =
      ap length (ap (parts_in size form) is ∙ parts_again size form parts front rest are) ∙ length-append parts (parts_in size form rest)

none_left : (parts : List Part) (n : ℕ) → length parts ≡ n + length parts → n ≡ 0
none_left parts n e = omega arith

same_by_prefix : (a b : List Part) (c : List Part) → a ≡ b ++ c → length a ≡ length b → a ≡ b
same_by_prefix a b [] is same = is ∙ append-nil b
same_by_prefix a b (c ∷ cs) is same =
    let longer_too : length a ≡ length b + suc (length cs) = ap length is ∙ length-append b (c ∷ cs) in
    absurd (omega arith)

module _ (size : ℕ) where
  pub whole_or_faulty : (form : Form) (parts : List Part) (fault : InboundFault) (text : List ℕ) → AreParts size form parts text → IsWhole size form parts → HasPartFault size form fault text → ⊥
  whole_or_faulty form parts fault text are whole (no_part before front back are_before room none is) =
      let same : before ≡ parts = sym (parts_before_fault size form before fault front back text are_before none is) ∙ parts_in-whole size form parts text are in
      let ends : [] ≡ back = nothing_behind size form parts text front back are (subst (λ ps. AreParts size form ps front) same are_before) is in
      end_is_fault size form parts fault whole (subst (λ ps. HasRoom size form ps) same room) (subst (λ b. IsNoPart size form fault b) (sym ends) none)
  whole_or_faulty form parts fault text are whole (too_many before front next more is_buffer are_before full which is) =
      let split : parts ≡ before ++ parts_in size form (next ∷ more) = sym (parts_in-whole size form parts text are) ∙ ap (parts_in size form) is ∙ parts_again size form before front (next ∷ more) are_before in
      let same : parts ≡ before = same_by_prefix parts before (parts_in size form (next ∷ more)) split (whole_Buffer size form parts is_buffer whole ∙ sym full) in
      let ends : [] ≡ next ∷ more = nothing_behind size form parts text front (next ∷ more) are (subst (λ ps. AreParts size form ps front) (sym same) are_before) is in
      cc

  same_fault : (form : Form) (f g : InboundFault) (x y : List ℕ) → IsNoPart size form f x → IsNoPart size form g y → x ≡ y → f ≡ g
  same_fault form f g x y at_x at_y same =
      let read_x : part_at size form x ≡ Err f = part_fault size form f x at_x in
      let read_y : part_at size form y ≡ Err g = part_fault size form g y at_y in
      let same_read : part_at size form x ≡ part_at size form y = ap (part_at size form) same in
      cc

  -- parts up to a place where none stands can't be fewer than parts that came before another byte
  too_few_and_many : {P : Type 0} (form : Form) (before others : List Part) (f : InboundFault) (front back front_g rest text : List ℕ) → form ≡ Buffer
      → AreParts size form before front → HasRoom size form before → IsNoPart size form f back → text ≡ front ++ back
      → AreParts size form others front_g → length others ≡ size → text ≡ front_g ++ rest → P
  too_few_and_many form before others f front back front_g rest text is_buffer are room none is are_g full is_g =
      let few : length before < size = room_Buffer size form before is_buffer room in
      let found : length (parts_in size form text) ≡ length before = ap length (parts_before_fault size form before f front back text are none is) in
      let many : length (parts_in size form text) ≡ length others + length (parts_in size form rest) = longer size form others front_g rest text are_g is_g in
      absurd (omega arith)

  pub one_part_fault : (form : Form) (f g : InboundFault) (text : List ℕ) → HasPartFault size form f text → HasPartFault size form g text → f ≡ g
  one_part_fault form f g text (no_part before front back are room none is) (no_part before_g front_g back_g are_g room_g none_g is_g) =
      let same : before_g ≡ before = sym (parts_before_fault size form before_g g front_g back_g text are_g none_g is_g) ∙ parts_before_fault size form before f front back text are none is in
      let are_too : AreParts size form before front_g = subst (λ ps. AreParts size form ps front_g) same are_g in
      same_fault form f g back back_g none none_g (same_rest size form before front front_g back back_g are are_too (sym is ∙ is_g))
  one_part_fault form f g text (no_part before front back are room none is) (too_many before_g front_g next more is_buffer are_g full which is_g) =
      too_few_and_many form before before_g f front back front_g (next ∷ more) text is_buffer are room none is are_g full is_g
  one_part_fault form f g text (too_many before front next more is_buffer are full which is) (no_part before_g front_g back_g are_g room_g none_g is_g) =
      too_few_and_many form before_g before g front_g back_g front (next ∷ more) text is_buffer are_g room_g none_g is_g are full is
  one_part_fault form f g text (too_many before front next more is_buffer are full which is) (too_many before_g front_g next_g more_g is_buffer_g are_g full_g which_g is_g) =
      which ∙ sym which_g

  -- ---- a loop over the parts of a text

  AreParts-push : (form : Form) (parts : List Part) (part : Part) (bytes front : List ℕ) → AreParts size form parts bytes → IsPart size form part front → AreParts size form (parts ++ part ∷ []) (bytes ++ front)
  AreParts-push form [] part bytes front is last = (front, [], last, refl, ap (λ b. b ++ front) is ∙ sym (append-nil front))
  AreParts-push form (p ∷ parts) part bytes front (a, b, first, others, is) last =
      (a, b ++ front, first, AreParts-push form parts part b front others last, ap (λ c. c ++ front) is ∙ append_assoc a b front)

  pub reads_nothing : (form : Form) (text : List ℕ) → IsReadTo size form text 0 text
  reads_nothing form text = ([], [], refl, refl, refl)

  pub reads_on : (form : Form) (text : List ℕ) (count : ℕ) (bytes : List ℕ) (part : Part) (rest : List ℕ) → IsReadTo size form text count bytes → part_at size form bytes ≡ Ok (part, rest) → IsReadTo size form text (count + 1) rest
  reads_on form text count [] part rest so_far found = nothing_at_end size form part rest found
  reads_on form text count (byte ∷ bytes) part rest (parts, front, are, counted, is) found =
      let read : IsRead size form (byte ∷ bytes) (Ok (part, rest)) = subst (λ r. IsRead size form (byte ∷ bytes) r) found (part_read size form byte bytes) in (
        parts ++ part ∷ [],
        front ++ read.0,
        AreParts-push form parts part front read.0 are read.1,
        length-append parts (part ∷ []) ∙ ap (λ n. n + 1) counted,
        is ∙ ap (λ b. front ++ b) read.2 ∙ sym (append_assoc front read.0 rest),
      )

  -- ---- what bytes stand for is proper, and not more than the bytes

  pub parts_proper : (form : Form) (parts : List Part) (bytes : List ℕ) → AreParts size form parts bytes → All (IsProperPart size form) parts
  parts_proper form [] bytes are = All-nil (IsProperPart size form)
  parts_proper form (part ∷ parts) bytes (front, back, first, others, is) =
      All-cons (IsProperPart size form) part parts (part_proper size form part front first) (parts_proper form parts back others)

one_more : (others : List ℕ → List Part) (r : Result (Part × List ℕ) InboundFault) (n : ℕ) → ((rest : List ℕ) → length (others rest) ≤ n) → length (and_parts others r) ≤ suc n
one_more others (Ok found) n few = omega (arith, few found.1)
one_more others (Err fault) n few = omega arith

module _ (size : ℕ) where
  within : (form : Form) (n : ℕ) (text : List ℕ) → length (parts_within size form n text) ≤ n
  unfolding parts_within
  within form zero text = omega arith
  within form (suc n) text = one_more (parts_within size form n) (part_at size form text) n (within form n)

  pub length-parts_in : (form : Form) (text : List ℕ) → length (parts_in size form text) ≤ length text
  unfolding parts_in
  length-parts_in form text = within form (length text) text

  -- ---- what a reader of a text answers

  room_unless_Buffer : (form : Form) (parts : List Part) → (form ≡ Buffer → ⊥) → HasRoom size form parts
  room_unless_Buffer Modified parts other = tt
  room_unless_Buffer AllModified parts other = tt
  room_unless_Buffer Buffer parts other = absurd (other refl)

  -- the fault of bytes at whose front no part is read
  fault_read : (form : Form) (byte : ℕ) (bytes : List ℕ) (fault : InboundFault) → part_at size form (byte ∷ bytes) ≡ Err fault → IsNoPart size form fault (byte ∷ bytes)
  fault_read form byte bytes fault found = subst (λ r. IsRead size form (byte ∷ bytes) r) found (part_read size form byte bytes)

  pub reads_fault : (form : Form) (text : List ℕ) (count : ℕ) (bytes : List ℕ) (fault : InboundFault) → (form ≡ Buffer → ⊥) → 0 < length bytes → IsReadTo size form text count bytes → part_at size form bytes ≡ Err fault → HasPartFault size form fault text
  reads_fault form text count [] fault other some so_far found = absurd (omega arith)
  reads_fault form text count (byte ∷ bytes) fault other some (parts, front, are, counted, is) found =
      no_part parts front (byte ∷ bytes) are (room_unless_Buffer form parts other) (fault_read form byte bytes fault found) is

  pub reads_whole : (form : Form) (text : List ℕ) (count : ℕ) (bytes : List ℕ) → length bytes ≡ 0 → IsReadTo size form text count bytes → AreParts size form (parts_in size form text) text
  reads_whole form text count [] none (parts, front, are, counted, is) =
      let whole : AreParts size form parts text = subst (λ b. AreParts size form parts b) (sym (is ∙ append-nil front)) are in
      subst (λ ps. AreParts size form ps text) (sym (parts_in-whole size form parts text whole)) whole
  reads_whole form text count (byte ∷ bytes) none so_far = absurd (omega arith)

  pub reads_missing_cell : (text : List ℕ) (count : ℕ) (bytes : List ℕ) (fault : InboundFault) → count < size → IsReadTo size Buffer text count bytes → part_at size Buffer bytes ≡ Err fault → HasPartFault size Buffer fault text
  reads_missing_cell text count bytes fault few (parts, front, are, counted, is) found =
      let room : length parts < size = omega arith in
      no_part parts front bytes are room (subst (λ r. IsRead size Buffer bytes r) found (cell_read size bytes)) is

  pub reads_too_many : (text : List ℕ) (bytes : List ℕ) → 0 < length bytes → IsReadTo size Buffer text size bytes → HasPartFault size Buffer BadForm text
  reads_too_many text [] some so_far = absurd (omega arith)
  reads_too_many text (next ∷ more) some (parts, front, are, counted, is) = too_many parts front next more refl are counted refl is

  pub reads_all_cells : (text : List ℕ) (bytes : List ℕ) → length bytes ≡ 0 → IsReadTo size Buffer text size bytes → length (parts_in size Buffer text) ≡ size
  reads_all_cells text [] none (parts, front, are, counted, is) =
      ap length (parts_in-whole size Buffer parts text (subst (λ b. AreParts size Buffer parts b) (sym (is ∙ append-nil front)) are)) ∙ counted
  reads_all_cells text (byte ∷ bytes) none so_far = absurd (omega arith)

  pub whole_unless_Buffer : (form : Form) (parts : List Part) → (form ≡ Buffer → ⊥) → IsWhole size form parts
  whole_unless_Buffer Modified parts other = tt
  whole_unless_Buffer AllModified parts other = tt
  whole_unless_Buffer Buffer parts other = absurd (other refl)
