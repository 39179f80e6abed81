-- Bytes are one inbound data of a form, or have one first fault.
use Rattle.std.proofs.Common.{◌≡◌, ℕ, ◌<◌, ◌≤◌, List, [], ◌∷◌, ◌-◌, length, get_or, take, drop, true, false, refl, ap, sym, ◌∙◌, Result, Ok, Err, Option, Some, None, nat_lt, subst, arith, ◌⊎◌, inl, inr}
use Rattle.std.specs.Prelude.{MatchOption, MatchResult, All, if◌then◌else◌, IfSome}
use Rattle.std.proofs.lemmas.Bool.{cases_lt, false≢true, lt-ltb, le-ltb}
use Rattle.std.proofs.lemmas.List.{take_all}
use Rattle.std.proofs.lemmas.List.Elements.{All-nil}
use Rattle.codes3270.specs.Size.{ScreenSize, cells_in}
use Rattle.codes3270.specs.Address.{address_of}
use Rattle.codes3270.specs.Aid.{aid_of}
use Rattle.codes3270.specs.declared.attention.Aid.{Aid}
use Rattle.datastream.specs.declared.inbound_part.Form.{Form}
use Rattle.datastream.specs.declared.inbound_part.Form.TheVariants.{Modified, All as AllModified, Buffer}
use Rattle.datastream.specs.declared.inbound_part.Part.{Part}
use Rattle.datastream.specs.declared.inbound_part.InboundFault.{InboundFault}
use Rattle.datastream.specs.declared.inbound_part.InboundFault.TheVariants.{Short, BadAid, BadAddress, BadForm}
use Rattle.datastream.specs.InboundText.{AreParts, IsProperPart, IsWhole, HasPartFault, InboundParts, stands_alone, IsInbound, IsSent, IsNoInbound}
use Rattle.datastream.specs.InboundText.IsInbound.{alone, long}
use Rattle.datastream.specs.InboundText.IsNoInbound.{no_bytes, unknown_aid, not_alone, no_cursor, cursor_too_large, faulty_text}
use Rattle.datastream.specs.InboundReading.{parts_in}
use Rattle.datastream.proofs.InboundSequences.{parts_in-nil, parts_in-whole, whole_or_faulty, one_part_fault, parts_proper}
use Rattle.datastream.proofs.Decisions.{cond_when, cond_unless}

-- ---- the fault, if any, before the parts

abbrev alone_fault : List ℕ → Option InboundFault
alone_fault [] = None
alone_fault (next ∷ more) = Some BadForm

abbrev cursor_fault : ℕ → List ℕ → Option InboundFault
cursor_fault size [] = Some Short
cursor_fault size (high ∷ []) = Some Short
cursor_fault size (high ∷ low ∷ text) = if nat_lt (address_of high low) size then None else Some BadAddress

abbrev fault_behind : ℕ → Form → List ℕ → Option Aid → Option InboundFault
fault_behind size form rest None = Some BadAid
fault_behind size form rest (Some aid) = if stands_alone form aid then alone_fault rest else cursor_fault size rest

abbrev early_fault : ℕ → Form → List ℕ → Option InboundFault
early_fault size form [] = Some Short
early_fault size form (byte ∷ rest) = fault_behind size form rest (aid_of byte)

behind_alone : (size : ℕ) (form : Form) (byte : ℕ) (rest : List ℕ) (aid : Aid) → aid_of byte ≡ Some aid → stands_alone form aid ≡ true → early_fault size form (byte ∷ rest) ≡ alone_fault rest
behind_alone size form byte rest aid known is = ap (fault_behind size form rest) known ∙ cond_when (stands_alone form aid) (alone_fault rest) (cursor_fault size rest) is

behind_long : (size : ℕ) (form : Form) (byte : ℕ) (rest : List ℕ) (aid : Aid) → aid_of byte ≡ Some aid → stands_alone form aid ≡ false → early_fault size form (byte ∷ rest) ≡ cursor_fault size rest
behind_long size form byte rest aid known is = ap (fault_behind size form rest) known ∙ cond_unless (stands_alone form aid) (alone_fault rest) (cursor_fault size rest) is

few_cursor : (size : ℕ) (few : List ℕ) → length few < 2 → cursor_fault size few ≡ Some Short
few_cursor size [] short = refl
few_cursor size (high ∷ []) short = refl
few_cursor size (high ∷ low ∷ more) short = absurd (omega arith)

cursor_read : (size : ℕ) (high low : ℕ) (text : List ℕ) → address_of high low < size → cursor_fault size (high ∷ low ∷ text) ≡ None
cursor_read size high low text below = cond_when (nat_lt (address_of high low) size) None (Some BadAddress) (lt-ltb _ _ below)

cursor_beyond : (size : ℕ) (high low : ℕ) (text : List ℕ) → size ≤ address_of high low → cursor_fault size (high ∷ low ∷ text) ≡ Some BadAddress
cursor_beyond size high low text above = cond_unless (nat_lt (address_of high low) size) None (Some BadAddress) (le-ltb _ _ above)

-- a fault of the parts, behind AID and cursor
record IsLateFault (size : ℕ) (form : Form) (fault : InboundFault) (bytes : List ℕ) : Type 0 where
  byte : ℕ
  high : ℕ
  low : ℕ
  text : List ℕ
  faulty : HasPartFault size form fault text
  is : bytes ≡ byte ∷ high ∷ low ∷ text
  not_early : early_fault size form bytes ≡ None

early_or_late : (size : ScreenSize) (form : Form) (fault : InboundFault) (bytes : List ℕ) → IsNoInbound size form fault bytes → (early_fault (cells_in size) form bytes ≡ Some fault) ⊎ IsLateFault (cells_in size) form fault bytes
early_or_late size form fault bytes (no_bytes which is) = inl (rw (is, which) refl)
early_or_late size form fault bytes (unknown_aid byte more unknown which is) = inl (rw (is, which) (ap (fault_behind (cells_in size) form more) unknown))
early_or_late size form fault bytes (not_alone aid byte next more known stands which is) = inl (rw (is, which) (behind_alone (cells_in size) form byte (next ∷ more) aid known stands))
early_or_late size form fault bytes (no_cursor aid byte few known goes_on short which is) = inl (rw (is, which) (behind_long (cells_in size) form byte few aid known goes_on ∙ few_cursor (cells_in size) few short))
early_or_late size form fault bytes (cursor_too_large aid byte high low more known goes_on above which is) =
    inl (rw (is, which) (behind_long (cells_in size) form byte (high ∷ low ∷ more) aid known goes_on ∙ cursor_beyond (cells_in size) high low more above))
early_or_late size form fault bytes (faulty_text aid byte high low text known goes_on below faulty is) =
    inr (record {
      byte = byte;
      high = high;
      low = low;
      text = text;
      faulty = faulty;
      is = is;
      not_early = rw is (behind_long (cells_in size) form byte (high ∷ low ∷ text) aid known goes_on ∙ cursor_read (cells_in size) high low text below);
    })

not_early_inbound : (a : InboundParts) (bytes : List ℕ) → IsInbound a bytes → early_fault (cells_in a.size) a.form bytes ≡ None
not_early_inbound a bytes (alone byte stands known is_cursor none is) = rw is (behind_alone (cells_in a.size) a.form byte [] a.aid known stands)
not_early_inbound a bytes (long byte high low cursor text goes_on known is_cursor (value, below) are whole is) =
    let in_range : address_of high low < cells_in a.size = rw value at below in
    rw is (behind_long (cells_in a.size) a.form byte (high ∷ low ∷ text) a.aid known goes_on ∙ cursor_read (cells_in a.size) high low text in_range)

-- ---- one inbound data

abbrev inbound_with : Form → ScreenSize → Aid → Option ℕ → List Part → InboundParts
inbound_with form size aid cursor parts = record { form = form; size = size; aid = aid; cursor = cursor; parts = parts }

same_inbound : (f g : Form) (s t : ScreenSize) (a b : Aid) (c d : Option ℕ) (ps qs : List Part) → f ≡ g → s ≡ t → a ≡ b → c ≡ d → ps ≡ qs → inbound_with f s a c ps ≡ inbound_with g t b d qs
same_inbound f g s t a b c d ps qs e h i j k = cc

same_aid : (a b : Aid) (x y : ℕ) → aid_of x ≡ Some a → aid_of y ≡ Some b → x ≡ y → a ≡ b
same_aid a b x y is_a is_b same = some_aid a b (aid_of x) (aid_of y) is_a is_b (ap aid_of same)
  where
    some_aid : (a b : Aid) (o p : Option Aid) → o ≡ Some a → p ≡ Some b → o ≡ p → a ≡ b
    some_aid a b o p is_a is_b same = cc

head_is : (bytes : List ℕ) (x y : ℕ) (xs ys : List ℕ) → bytes ≡ x ∷ xs → bytes ≡ y ∷ ys → x ≡ y
head_is bytes x y xs ys is_x is_y = cc

-- what stands behind the AID
behind_is : (bytes : List ℕ) (x y a b c d : ℕ) (xs ys : List ℕ) → bytes ≡ x ∷ a ∷ b ∷ xs → bytes ≡ y ∷ c ∷ d ∷ ys → (a ≡ c) × (b ≡ d) × (xs ≡ ys)
behind_is bytes x y a b c d xs ys is_x is_y = (cc, cc, cc)

alone_or_long : {P : Type 0} (bytes : List ℕ) (x y high low : ℕ) (text : List ℕ) → bytes ≡ x ∷ [] → bytes ≡ y ∷ high ∷ low ∷ text → P
alone_or_long bytes x y high low text is_x is_y = cc

same_cursor : (a b c d x y : ℕ) → x ≡ address_of a b → y ≡ address_of c d → a ≡ c → b ≡ d → x ≡ y
same_cursor a b c d x y is_x is_y e f = is_x ∙ rw (e, f) (sym is_y)

pub one_inbound : (a b : InboundParts) (bytes : List ℕ) → a.form ≡ b.form → a.size ≡ b.size → IsInbound a bytes → IsInbound b bytes → a ≡ b
one_inbound a b bytes same sized (alone x alone_a known_a cursor_a none_a is_a) (alone y alone_b known_b cursor_b none_b is_b) =
    same_inbound a.form b.form a.size b.size a.aid b.aid a.cursor b.cursor a.parts b.parts same sized (same_aid a.aid b.aid x y known_a known_b (head_is bytes x y [] [] is_a is_b)) (cursor_a ∙ sym cursor_b) (none_a ∙ sym none_b)
one_inbound a b bytes same sized (alone x alone_a known_a cursor_a none_a is_a) (long y c d m t long_b known_b cursor_b address_b are_b whole_b is_b) =
    alone_or_long bytes x y c d t is_a is_b
one_inbound a b bytes same sized (long x h l n s long_a known_a cursor_a address_a are_a whole_a is_a) (alone y alone_b known_b cursor_b none_b is_b) =
    alone_or_long bytes y x h l s is_b is_a
one_inbound a b bytes same sized (long x h l n s long_a known_a cursor_a address_a are_a whole_a is_a) (long y c d m t long_b known_b cursor_b address_b are_b whole_b is_b) =
    let behind = behind_is bytes x y h l c d s t is_a is_b in
    let cursors : n ≡ m = same_cursor h l c d n m address_a.0 address_b.0 behind.0 behind.1 in
    let parts : a.parts ≡ b.parts =
    sym (parts_in-whole (cells_in a.size) a.form a.parts s are_a) ∙ ap (λ (size : ScreenSize). parts_in (cells_in size) a.form s) sized
    ∙ ap (λ f. parts_in (cells_in b.size) f s) same ∙ ap (parts_in (cells_in b.size) b.form) behind.2 ∙ parts_in-whole (cells_in b.size) b.form b.parts t are_b in
    same_inbound a.form b.form a.size b.size a.aid b.aid a.cursor b.cursor a.parts b.parts same sized (same_aid a.aid b.aid x y known_a known_b (head_is bytes x y (h ∷ l ∷ s) (c ∷ d ∷ t) is_a is_b)) (cursor_a ∙ ap Some cursors ∙ sym cursor_b) parts

inbound_or_late : (a : InboundParts) (fault : InboundFault) (bytes : List ℕ) → IsInbound a bytes → IsLateFault (cells_in a.size) a.form fault bytes → ⊥
inbound_or_late a fault bytes (alone x stands known is_cursor none is) late = alone_or_long bytes x late.byte late.high late.low late.text is late.is
inbound_or_late a fault bytes (long x h l n s goes_on known is_cursor address are whole is) late =
    let behind = behind_is bytes x late.byte h l late.high late.low s late.text is late.is in
    whole_or_faulty (cells_in a.size) a.form a.parts fault late.text (subst (λ u. AreParts (cells_in a.size) a.form a.parts u) behind.2 are) whole late.faulty

none_or_some : {P : Type 0} (o : Option InboundFault) (f : InboundFault) → o ≡ None → o ≡ Some f → P
none_or_some o f is_none is_some = cc

inbound_or_fault : (a : InboundParts) (fault : InboundFault) (bytes : List ℕ) → IsInbound a bytes → IsNoInbound a.size a.form fault bytes → ⊥
inbound_or_fault a fault bytes inbound none =
    elim (early_or_late a.size a.form fault bytes none) [
      | inl early ↦ none_or_some (early_fault (cells_in a.size) a.form bytes) fault (not_early_inbound a bytes inbound) early
      | inr late ↦ inbound_or_late a fault bytes inbound late
    ]

same_early : (o : Option InboundFault) (f g : InboundFault) → o ≡ Some f → o ≡ Some g → f ≡ g
same_early o f g is_f is_g = cc

same_late : (size : ℕ) (form : Form) (f g : InboundFault) (bytes : List ℕ) → IsLateFault size form f bytes → IsLateFault size form g bytes → f ≡ g
same_late size form f g bytes late_f late_g =
    let behind = behind_is bytes late_f.byte late_g.byte late_f.high late_f.low late_g.high late_g.low late_f.text late_g.text late_f.is late_g.is in
    one_part_fault size form f g late_g.text (subst (λ u. HasPartFault size form f u) behind.2 late_f.faulty) late_g.faulty

one_inbound_fault : (size : ScreenSize) (form : Form) (f g : InboundFault) (bytes : List ℕ) → IsNoInbound size form f bytes → IsNoInbound size form g bytes → f ≡ g
one_inbound_fault size form f g bytes none_f none_g =
    elim (early_or_late size form f bytes none_f) [
      | inl early_f ↦ elim (early_or_late size form g bytes none_g) [
        | inl early_g ↦ same_early (early_fault (cells_in size) form bytes) f g early_f early_g
        | inr late_g ↦ none_or_some (early_fault (cells_in size) form bytes) f late_g.not_early early_f
      ]
      | inr late_f ↦ elim (early_or_late size form g bytes none_g) [
        | inl early_g ↦ none_or_some (early_fault (cells_in size) form bytes) g late_f.not_early early_g
        | inr late_g ↦ same_late (cells_in size) form f g bytes late_f late_g
      ]
    ]

-- ---- so a reader that answers inbound data or a fault answers the one

abbrev pub IsRead : Form → ScreenSize → List ℕ → Result InboundParts InboundFault → Type 0
IsRead form size bytes read = MatchResult read (λ a. (a.form ≡ form) × (a.size ≡ size) × IsInbound a bytes) (λ f. IsNoInbound size form f bytes)

-- a fault of a form and a size is one of inbound data that has them
fault_of : (a : InboundParts) (form : Form) (size : ScreenSize) (fault : InboundFault) (bytes : List ℕ) → a.form ≡ form → a.size ≡ size
    → IsNoInbound size form fault bytes → IsNoInbound a.size a.form fault bytes
fault_of a form size fault bytes of_form of_size none =
    subst (λ (g : Form). IsNoInbound a.size g fault bytes) (sym of_form) (subst (λ (s : ScreenSize). IsNoInbound s form fault bytes) (sym of_size) none)

pub only_inbound : (form : Form) (size : ScreenSize) (r : Result InboundParts InboundFault) (bytes : List ℕ) → IsRead form size bytes r
    → (a : InboundParts) → a.form ≡ form → a.size ≡ size → IsInbound a bytes → r ≡ Ok a
only_inbound form size (Ok b) bytes (b_form, b_size, read) a of_form of_size inbound = ap Ok (one_inbound b a bytes (b_form ∙ sym of_form) (b_size ∙ sym of_size) read inbound)
only_inbound form size (Err f) bytes read a of_form of_size inbound = absurd (inbound_or_fault a f bytes inbound (fault_of a form size f bytes of_form of_size read))

pub first_inbound_fault : (form : Form) (size : ScreenSize) (r : Result InboundParts InboundFault) (bytes : List ℕ) → IsRead form size bytes r
    → (f : InboundFault) → IsNoInbound size form f bytes → r ≡ Err f
first_inbound_fault form size (Ok b) bytes (b_form, b_size, read) f fault = absurd (inbound_or_fault b f bytes read (fault_of b form size f bytes b_form b_size fault))
first_inbound_fault form size (Err g) bytes read f fault = ap Err (one_inbound_fault size form g f bytes read fault)

-- ---- what inbound data has is in range

pub inbound_proper : (a : InboundParts) → IsSent a → All (IsProperPart (cells_in a.size) a.form) a.parts
inbound_proper a (bytes, alone byte stands known is_cursor none is) = subst (λ ps. All (IsProperPart (cells_in a.size) a.form) ps) (sym none) (All-nil (IsProperPart (cells_in a.size) a.form))
inbound_proper a (bytes, long byte high low cursor text goes_on known is_cursor address are whole is) = parts_proper (cells_in a.size) a.form a.parts text are

pub cursor_in_range : (a : InboundParts) → IsSent a → IfSome a.cursor (λ cursor. cursor < cells_in a.size)
cursor_in_range a (bytes, alone byte stands known is_cursor none is) = subst (λ c. IfSome c (λ cursor. cursor < cells_in a.size)) (sym is_cursor) tt
cursor_in_range a (bytes, long byte high low cursor text goes_on known is_cursor address are whole is) =
    subst (λ c. IfSome c (λ cursor. cursor < cells_in a.size)) (sym is_cursor) address.1

stands_Buffer : {P : Type 0} (form : Form) (aid : Aid) → form ≡ Buffer → stands_alone form aid ≡ true → P
stands_Buffer Modified aid is stands = cc
stands_Buffer AllModified aid is stands = cc
stands_Buffer Buffer aid is stands = absurd (false≢true stands)

whole_Buffer : (size : ℕ) (form : Form) (parts : List Part) → form ≡ Buffer → IsWhole size form parts → length parts ≡ size
whole_Buffer size Modified parts is whole = cc
whole_Buffer size AllModified parts is whole = cc
whole_Buffer size Buffer parts is whole = whole

-- the cursor is there unless the AID stands alone, and then nothing else is
pub cursor_unless_alone : (a : InboundParts) → IsSent a → MatchOption a.cursor (stands_alone a.form a.aid ≡ true) (λ _. stands_alone a.form a.aid ≡ false)
cursor_unless_alone a (bytes, alone byte stands known is_cursor none is) =
    subst (λ c. MatchOption c (stands_alone a.form a.aid ≡ true) (λ _. stands_alone a.form a.aid ≡ false)) (sym is_cursor) stands
cursor_unless_alone a (bytes, long byte high low cursor text goes_on known is_cursor address are whole is) =
    subst (λ c. MatchOption c (stands_alone a.form a.aid ≡ true) (λ _. stands_alone a.form a.aid ≡ false)) (sym is_cursor) goes_on

pub nothing_if_alone : (a : InboundParts) → IsSent a → stands_alone a.form a.aid ≡ true → a.parts ≡ []
nothing_if_alone a (bytes, alone byte stands known is_cursor none is) short = none
nothing_if_alone a (bytes, long byte high low cursor text goes_on known is_cursor address are whole is) short = absurd (false≢true (sym goes_on ∙ short))

-- a buffer has as many parts as the screen has cells
pub buffer_whole : (a : InboundParts) → IsSent a → a.form ≡ Buffer → length a.parts ≡ cells_in a.size
buffer_whole a (bytes, alone byte stands known is_cursor none is) of_form = stands_Buffer a.form a.aid of_form stands
buffer_whole a (bytes, long byte high low cursor text goes_on known is_cursor address are whole is) of_form = whole_Buffer (cells_in a.size) a.form a.parts of_form whole

-- ---- what stands behind an AID

pub are_none : (size : ℕ) (form : Form) (rest : List ℕ) → length rest ≡ 0 → AreParts size form (parts_in size form rest) rest
are_none size form [] none = subst (λ ps. AreParts size form ps []) (sym (parts_in-nil size form)) refl
are_none size form (next ∷ more) none = absurd (omega arith)

pub alone_read : (size : ScreenSize) (form : Form) (aid : Aid) (byte : ℕ) (rest : List ℕ) → aid_of byte ≡ Some aid → stands_alone form aid ≡ true → length rest ≡ 0
    → IsInbound (record { form = form; size = size; aid = aid; cursor = None; parts = parts_in (cells_in size) form rest }) (byte ∷ rest)
alone_read size form aid byte [] known stands none = alone byte stands known refl (parts_in-nil (cells_in size) form) refl
alone_read size form aid byte (next ∷ more) known stands none = absurd (omega arith)

pub not_alone_read : (size : ScreenSize) (form : Form) (aid : Aid) (byte : ℕ) (rest : List ℕ) → aid_of byte ≡ Some aid → stands_alone form aid ≡ true → 0 < length rest
    → IsNoInbound size form BadForm (byte ∷ rest)
not_alone_read size form aid byte [] known stands some = absurd (omega arith)
not_alone_read size form aid byte (next ∷ more) known stands some = not_alone aid byte next more known stands refl refl

-- bytes by their first ones and what follows
pub one_up : (bytes : List ℕ) → 1 ≤ length bytes → bytes ≡ get_or bytes 0 0 ∷ take (length bytes - 1) (drop 1 bytes)
one_up [] enough = absurd (omega arith)
one_up (byte ∷ rest) enough = ap (λ r. byte ∷ r) (sym (take_all (length (byte ∷ rest) - 1) rest (omega arith)))

pub two_up : (bytes : List ℕ) → 2 ≤ length bytes → bytes ≡ get_or bytes 0 0 ∷ get_or bytes 1 0 ∷ take (length bytes - 2) (drop 2 bytes)
two_up [] enough = absurd (omega arith)
two_up (high ∷ []) enough = absurd (omega arith)
two_up (high ∷ low ∷ rest) enough = ap (λ r. high ∷ low ∷ r) (sym (take_all (length (high ∷ low ∷ rest) - 2) rest (omega arith)))

pub moved : (form : Form) (size : ScreenSize) (r : Result InboundParts InboundFault) (a b : List ℕ) → a ≡ b → IsRead form size a r → IsRead form size b r
moved form size r a b same read = subst (λ bytes. IsRead form size bytes r) same read

pub long_read : (size : ScreenSize) (form : Form) (aid : Aid) (byte : ℕ) (rest : List ℕ) (cursor high low : ℕ) (text : List ℕ) → aid_of byte ≡ Some aid → stands_alone form aid ≡ false
    → rest ≡ high ∷ low ∷ text → address_of high low < cells_in size → cursor ≡ address_of high low
    → AreParts (cells_in size) form (parts_in (cells_in size) form text) text → IsWhole (cells_in size) form (parts_in (cells_in size) form text)
    → IsInbound (record { form = form; size = size; aid = aid; cursor = Some cursor; parts = parts_in (cells_in size) form text }) (byte ∷ rest)
long_read size form aid byte rest cursor high low text known goes_on is below value are whole =
    let in_range : cursor < cells_in size = rw value below in
    long byte high low cursor text goes_on known refl (value, in_range) are whole (ap (λ r. byte ∷ r) is)

pub long_text_fault : (size : ScreenSize) (form : Form) (aid : Aid) (byte : ℕ) (rest : List ℕ) (high low : ℕ) (text : List ℕ) (fault : InboundFault) → aid_of byte ≡ Some aid → stands_alone form aid ≡ false
    → rest ≡ high ∷ low ∷ text → address_of high low < cells_in size → HasPartFault (cells_in size) form fault text → IsNoInbound size form fault (byte ∷ rest)
long_text_fault size form aid byte rest high low text fault known goes_on is below faulty =
    faulty_text aid byte high low text known goes_on below faulty (ap (λ r. byte ∷ r) is)

pub cursor_beyond_read : (size : ScreenSize) (form : Form) (aid : Aid) (byte : ℕ) (rest : List ℕ) (high low : ℕ) (text : List ℕ) → aid_of byte ≡ Some aid → stands_alone form aid ≡ false
    → rest ≡ high ∷ low ∷ text → (address_of high low < cells_in size → ⊥) → IsNoInbound size form BadAddress (byte ∷ rest)
cursor_beyond_read size form aid byte rest high low text known goes_on is beyond =
    elim (cases_lt (address_of high low) (cells_in size)) [
      | inl below ↦ absurd (beyond below)
      | inr above ↦ cursor_too_large aid byte high low text known goes_on above refl (ap (λ r. byte ∷ r) is)
    ]

pub cursor_missing : (size : ScreenSize) (form : Form) (aid : Aid) (byte : ℕ) (rest : List ℕ) → aid_of byte ≡ Some aid → stands_alone form aid ≡ false → length rest < 2
    → IsNoInbound size form Short (byte ∷ rest)
cursor_missing size form aid byte rest known goes_on short = no_cursor aid byte rest known goes_on short refl refl

pub aid_unknown : (size : ScreenSize) (form : Form) (bytes : List ℕ) (byte : ℕ) (rest : List ℕ) → bytes ≡ byte ∷ rest → aid_of byte ≡ None → IsNoInbound size form BadAid bytes
aid_unknown size form bytes byte rest is unknown = unknown_aid byte rest unknown refl is
