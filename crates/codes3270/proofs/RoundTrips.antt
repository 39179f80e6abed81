-- What is written is read back.
use Rattle.std.proofs.Common.{◌≡◌, ◌==◌, ℕ, ◌+◌, ◌-◌, ◌/◌, ◌%◌, ◌<◌, ◌≤◌, Bool, true, false, nat_eq, refl, ap, sym, Option, None, Some, ◌∙◌, arith, slice_index, position, cond}
use Rattle.std.specs.Prelude.{◌&&◌, nat_le}
use Rattle.std.proofs.lemmas.Bool.{eqb-true, leb-true, le-leb, and_from, and_parts, false≢true, cond_above}
use Rattle.std.specs.Bool.{beq}
use Rattle.std.specs.Int.{is_in_range}
use Rattle.std.specs.Option.{option_map}
use Rattle.std.proofs.lemmas.Option.{none-some, same_Some, cond_some}
use Rattle.std.proofs.lemmas.List.Quantifiers.{position-Some}
use Rattle.codes3270.proofs.Tables.{passes_at, passes_both, passes_both_at, is_number, is_number-true}
use Rattle.codes3270.specs.SixBit.{six_bit_code}
use Rattle.codes3270.specs.Size.{most_cells}
use Rattle.codes3270.specs.Address.{address_of}
use Rattle.codes3270.specs.Aid.{IsRealAid, aid_of, byte_of_aid, pf_codes, pa_codes}
use Rattle.codes3270.specs.CodePage.{characters, character_of, code_of}
use Rattle.codes3270.specs.Attribute.{attr_of, attr_byte}
use Rattle.codes3270.specs.WriteControl.{wcc_of, wcc_byte}
use Rattle.codes3270.specs.declared.attribute.Attr.{Attr}
use Rattle.codes3270.specs.declared.attribute.Display.{Display}
use Rattle.codes3270.specs.declared.attribute.Display.TheVariants.{Normal, Detectable, Bright, Hidden}
use Rattle.codes3270.specs.declared.write_control.Wcc.{Wcc}
use Rattle.codes3270.specs.declared.attention.Aid.{Aid}
use Rattle.codes3270.specs.declared.attention.Aid.TheVariants.{NoAid, Enter, Clear, Pf, Pa}

cond_when : {X : Type 0} (b : Bool) (x y : X) → b ≡ true → cond b x y ≡ x
cond_when true x y e = refl
cond_when false x y e = absurd (false≢true e)

-- ---- addresses

-- the code of a six-bit value has the value in its low six bits, and isn't below 64
abbrev six_bit_rule : ℕ → Bool
six_bit_rule value = nat_le 64 (six_bit_code value) && nat_eq (six_bit_code value % 64) value

six_bit_at : (value : ℕ) → value < 64 → (64 ≤ six_bit_code value) × (six_bit_code value % 64 ≡ value)
six_bit_at value below =
    let parts = and_parts (nat_le 64 (six_bit_code value)) (nat_eq (six_bit_code value % 64) value) (passes_at six_bit_rule 64 value refl below) in
    (leb-true _ _ parts.0, eqb-true _ _ parts.1)

pub address_read_back : (address : ℕ) → address < most_cells → address_of (six_bit_code (address / 64)) (six_bit_code (address % 64)) ≡ address
address_read_back address in_range =
    let high = six_bit_at (address / 64) (omega arith) in
    let low = six_bit_at (address % 64) (omega arith) in
    sym (cond_above (six_bit_code (address / 64)) 64 _ _ address high.0 (omega (arith, high.1, low.1)))

-- ---- attention identifiers

abbrev is_pf : Option Aid → ℕ → Bool
is_pf (Some (Pf m)) n = nat_eq m n
is_pf _ n = false

abbrev is_pa : Option Aid → ℕ → Bool
is_pa (Some (Pa m)) n = nat_eq m n
is_pa _ n = false

is_pf-true : (o : Option Aid) (n : ℕ) → is_pf o n ≡ true → o ≡ Some (Pf n)
is_pf-true (Some (Pf m)) n passed = ap (λ k. Some (Pf k)) (eqb-true m n passed)
is_pf-true _ n passed = absurd (false≢true passed)

is_pa-true : (o : Option Aid) (n : ℕ) → is_pa o n ≡ true → o ≡ Some (Pa n)
is_pa-true (Some (Pa m)) n passed = ap (λ k. Some (Pa k)) (eqb-true m n passed)
is_pa-true _ n passed = absurd (false≢true passed)

pub pf_read_back : (place : ℕ) → place < 24 → aid_of (slice_index pf_codes place) ≡ Some (Pf (place + 1))
pf_read_back place below = is_pf-true _ _ (passes_at (λ k. is_pf (aid_of (slice_index pf_codes k)) (k + 1)) 24 place refl below)

pub pa_read_back : (place : ℕ) → place < 3 → aid_of (slice_index pa_codes place) ≡ Some (Pa (place + 1))
pa_read_back place below = is_pa-true _ _ (passes_at (λ k. is_pa (aid_of (slice_index pa_codes k)) (k + 1)) 3 place refl below)

pub aid_read_back : (aid : Aid) → IsRealAid aid → aid_of (byte_of_aid aid) ≡ Some aid
aid_read_back NoAid real = refl
aid_read_back Enter real = refl
aid_read_back Clear real = refl
aid_read_back (Pf number) real =
    let same : number - 1 + 1 ≡ number = omega (arith, real.0) in
    pf_read_back (number - 1) (omega (arith, real.0, real.1)) ∙ ap (λ k. Some (Pf k)) same
aid_read_back (Pa number) real =
    let same : number - 1 + 1 ≡ number = omega (arith, real.0) in
    pa_read_back (number - 1) (omega (arith, real.0, real.1)) ∙ ap (λ k. Some (Pa k)) same

-- ---- the code page

pub code_of_character : (place : ℕ) → place < 191 → code_of (slice_index characters place) ≡ Some (64 + place)
code_of_character place below = is_number-true _ _ (passes_at (λ k. is_number (code_of (slice_index characters k)) (64 + k)) 191 place refl below)

-- the code made of a character's place is that character's
pub character_at_place : (place character : ℕ) → position (λ c. c == character) characters ≡ Some place → place < 191 → character_of (64 + place) ≡ Some character
character_at_place place character found below =
    let held : slice_index characters place ≡ character = eqb-true _ _ (position-Some (λ c. c == character) characters place 0 found).1 in
    let same : 64 + place - 64 ≡ place = omega arith in
    cond_when _ _ _ (and_from _ _ (le-leb 64 (64 + place) (omega arith)) (le-leb (64 + place) 254 (omega arith)))
    ∙ ap (λ k. Some (slice_index characters k)) same ∙ ap Some held

pub code_of_its_character : (code character : ℕ) → character_of code ≡ Some character → code_of character ≡ Some code
code_of_its_character code character found =
    let parts = cond_some (is_in_range 0x40 0xFE code) (slice_index characters (code - 0x40)) character found in
    let bounds = and_parts (nat_le 0x40 code) (nat_le code 0xFE) parts.0 in
    let low = leb-true 0x40 code bounds.0 in
    let high = leb-true code 0xFE bounds.1 in
    let same : 64 + (code - 0x40) ≡ code = omega (arith, low) in
    ap code_of (sym parts.1) ∙ code_of_character (code - 0x40) (omega (arith, low, high)) ∙ ap Some same

character_of_found : (code character : ℕ) (place : Option ℕ) → position (λ c. c == character) characters ≡ place
    → option_map (λ p. 0x40 + p) place ≡ Some code → character_of code ≡ Some character
character_of_found code character None where_it_is found = absurd (none-some _ found)
character_of_found code character (Some place) where_it_is found =
    let below = (position-Some (λ c. c == character) characters place 0 where_it_is).0 in
    ap character_of (sym (same_Some (0x40 + place) code found)) ∙ character_at_place place character where_it_is below

pub character_of_its_code : (code character : ℕ) → code_of character ≡ Some code → character_of code ≡ Some character
character_of_its_code code character found = character_of_found code character (position (λ c. c == character) characters) refl found

-- ---- attributes

abbrev is_same_display : Display → Display → Bool
is_same_display Normal Normal = true
is_same_display Detectable Detectable = true
is_same_display Bright Bright = true
is_same_display Hidden Hidden = true
is_same_display _ _ = false

is_same_display-true : (a b : Display) → is_same_display a b ≡ true → a ≡ b
is_same_display-true Normal Normal same = refl
is_same_display-true Detectable Detectable same = refl
is_same_display-true Bright Bright same = refl
is_same_display-true Hidden Hidden same = refl
is_same_display-true _ _ same = absurd (false≢true same)

beq-true : (a b : Bool) → beq a b ≡ true → a ≡ b
beq-true true true same = refl
beq-true false false same = refl
beq-true true false same = absurd (false≢true same)
beq-true false true same = absurd (false≢true same)

abbrev is_same_attr : Attr → Attr → Bool
is_same_attr a b = (beq a.protected b.protected && beq a.numeric b.numeric) && (is_same_display a.display b.display && beq a.mdt b.mdt)

abbrev attr_with : Bool → Bool → Display → Bool → Attr
attr_with p n d m = record { protected = p; numeric = n; display = d; mdt = m }

same_attr : (p p' n n' : Bool) (d d' : Display) (m m' : Bool) → p ≡ p' → n ≡ n' → d ≡ d' → m ≡ m' → attr_with p n d m ≡ attr_with p' n' d' m'
same_attr p p' n n' d d' m m' e f g h = cc

is_same_attr-true : (a b : Attr) → is_same_attr a b ≡ true → a ≡ b
is_same_attr-true a b same =
    let halves = and_parts _ _ same in
    let first = and_parts _ _ halves.0 in
    let second = and_parts _ _ halves.1 in
    same_attr _ _ _ _ _ _ _ _ (beq-true _ _ first.0) (beq-true _ _ first.1) (is_same_display-true _ _ second.0) (beq-true _ _ second.1)

abbrev attr_is_read_back : Bool → Bool → Display → Bool → Bool
attr_is_read_back protected numeric display mdt =
    is_same_attr (attr_of (attr_byte (attr_with protected numeric display mdt))) (attr_with protected numeric display mdt)

display_passes : (display : Display) → passes_both (λ p. passes_both (λ n. passes_both (λ m. attr_is_read_back p n display m))) ≡ true
display_passes Normal = refl
display_passes Detectable = refl
display_passes Bright = refl
display_passes Hidden = refl

pub attr_read_back : (attr : Attr) → attr_of (attr_byte attr) ≡ attr
attr_read_back attr =
    let display = attr.display in
    let at_protected = passes_both_at (λ p. passes_both (λ n. passes_both (λ m. attr_is_read_back p n display m))) (display_passes display) attr.protected in
    let at_numeric = passes_both_at (λ n. passes_both (λ m. attr_is_read_back attr.protected n display m)) at_protected attr.numeric in
    is_same_attr-true _ _ (passes_both_at (λ m. attr_is_read_back attr.protected attr.numeric display m) at_numeric attr.mdt)

-- ---- write control characters

abbrev wcc_with : Bool → Bool → Bool → Wcc
wcc_with alarm restore reset = record { alarm = alarm; restore = restore; reset = reset }

same_wcc : (a a' b b' c c' : Bool) → a ≡ a' → b ≡ b' → c ≡ c' → wcc_with a b c ≡ wcc_with a' b' c'
same_wcc a a' b b' c c' e f g = cc

abbrev is_same_wcc : Wcc → Wcc → Bool
is_same_wcc v w = beq v.alarm w.alarm && (beq v.restore w.restore && beq v.reset w.reset)

is_same_wcc-true : (v w : Wcc) → is_same_wcc v w ≡ true → v ≡ w
is_same_wcc-true v w same =
    let first = and_parts _ _ same in
    let second = and_parts _ _ first.1 in
    same_wcc _ _ _ _ _ _ (beq-true _ _ first.0) (beq-true _ _ second.0) (beq-true _ _ second.1)

abbrev wcc_is_read_back : Bool → Bool → Bool → Bool
wcc_is_read_back alarm restore reset = is_same_wcc (wcc_of (wcc_byte (wcc_with alarm restore reset))) (wcc_with alarm restore reset)

pub wcc_read_back : (wcc : Wcc) → wcc_of (wcc_byte wcc) ≡ wcc
wcc_read_back wcc =
    let at_alarm = passes_both_at (λ a. passes_both (λ b. passes_both (λ c. wcc_is_read_back a b c))) refl wcc.alarm in
    let at_restore = passes_both_at (λ b. passes_both (λ c. wcc_is_read_back wcc.alarm b c)) at_alarm wcc.restore in
    is_same_wcc-true _ _ (passes_both_at (λ c. wcc_is_read_back wcc.alarm wcc.restore c) at_restore wcc.reset)
