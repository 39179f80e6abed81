-- The five bytes of a header.
use Rattle.std.proofs.Common.{◌≡◌, ℕ, ◌+◌, ◌*◌, ◌/◌, ◌%◌, ◌<◌, ◌≤◌, false, cond, eqb, List, [], ◌∷◌, length, drop, get_or, refl, sym, ap, ◌∙◌, arith, Result, Ok, Err}
use Rattle.std.specs.Prelude.{IfOk, IfErr, IsOkAnd}
use Rattle.std.proofs.lemmas.Bool.{ne_eqb}
use Rattle.tn3270e_msg.specs.declared.header.HeadFault.{HeadFault}
use Rattle.tn3270e_msg.specs.declared.header.HeadFault.TheVariants.{Short, BadFlag}
use Rattle.tn3270e_msg.specs.declared.header.DataType.{DataType}
use Rattle.tn3270e_msg.specs.declared.header.DataType.TheVariants.{Data3270, ScsData, Response, BindImage, Unbind, NvtData, Request, SscpLuData, Unnamed}
use Rattle.tn3270e_msg.specs.declared.header.Header.{Header}
use Rattle.tn3270e_msg.specs.Header.{IsDataType, Begins, HasFault, type_code}
use Rattle.tn3270e_msg.specs.Laws.{OneHeader, FaultIsNoHeader, OneHeadFault}

pub five : (bytes : List ℕ) (code seq : ℕ) → 5 ≤ length bytes → ((i : ℕ) → get_or bytes i 0 < 256) → code ≡ get_or bytes 0 0
    → seq ≡ get_or bytes 3 0 * 256 + get_or bytes 4 0
    → bytes ≡ code ∷ get_or bytes 1 0 ∷ get_or bytes 2 0 ∷ (seq / 256 % 256) ∷ (seq % 256) ∷ drop 5 bytes
five [] code seq n f c s = absurd (omega (arith, n))
five (a ∷ []) code seq n f c s = absurd (omega (arith, n))
five (a ∷ b ∷ []) code seq n f c s = absurd (omega (arith, n))
five (a ∷ b ∷ x ∷ []) code seq n f c s = absurd (omega (arith, n))
five (a ∷ b ∷ x ∷ d ∷ []) code seq n f c s = absurd (omega (arith, n))
five (a ∷ b ∷ x ∷ d ∷ e ∷ rest) code seq n f c s =
    let high : seq / 256 % 256 ≡ d = omega (arith, f 3, f 4, s) in
    let low : seq % 256 ≡ e = omega (arith, f 3, f 4, s) in
    rw (c, high, low) refl

-- the type with this code
type_of : ℕ → DataType
type_of code =
    cond (eqb code 0) Data3270 (cond (eqb code 1) ScsData (cond (eqb code 2) Response (cond (eqb code 3) BindImage
    (cond (eqb code 4) Unbind (cond (eqb code 5) NvtData (cond (eqb code 6) Request (cond (eqb code 7) SscpLuData (Unnamed code))))))))

type_again : (kind : DataType) → IsDataType kind → type_of (type_code kind) ≡ kind
unfolding type_of
type_again Data3270 h = refl
type_again ScsData h = refl
type_again Response h = refl
type_again BindImage h = refl
type_again Unbind h = refl
type_again NvtData h = refl
type_again Request h = refl
type_again SscpLuData h = refl
type_again (Unnamed code) h =
    let differs : (n : ℕ) → n < 8 → eqb code n ≡ false = λ n k. ne_eqb code n (λ e. omega (arith, e, k, h)) in
    rw (differs 0 (omega arith), differs 1 (omega arith), differs 2 (omega arith), differs 3 (omega arith), differs 4 (omega arith), differs 5 (omega arith), differs 6 (omega arith), differs 7 (omega arith)) refl

-- bytes that begin with a header have no fault
pub fault_is_no_header : FaultIsNoHeader
fault_is_no_header bytes Short header body h b = omega (arith, h, ap length b.encoded)
fault_is_no_header bytes BadFlag header body h b =
    let other : Header = h.0 in
    let one = h.2 in
    let two = b.encoded in
    let codes : type_code header.kind ≡ type_code other.kind = cc in
    let flags : header.flag ≡ other.flag = cc in
    let kinds : header.kind ≡ other.kind = sym (type_again header.kind b.is_header.kind) ∙ ap type_of codes ∙ type_again other.kind h.3 in
    h.4 (rw (← kinds, ← flags) b.is_header.flag)

-- numbers with the same two bytes are one
same_number : (a b : ℕ) → a < 65536 → b < 65536 → a / 256 % 256 ≡ b / 256 % 256 → a % 256 ≡ b % 256 → a ≡ b
same_number a b h k high low = omega (arith, h, k, high, low)

-- the header of these fields
header_of : DataType → ℕ → ℕ → ℕ → Header
header_of kind request flag seq = record { kind = kind; request = request; flag = flag; seq = seq }

same_header : (header other : Header) → header.kind ≡ other.kind → header.request ≡ other.request → header.flag ≡ other.flag → header.seq ≡ other.seq → header ≡ other
unfolding header_of
same_header header other kinds requests flags numbers =
    let fields : header_of header.kind header.request header.flag header.seq ≡ header_of other.kind other.request other.flag other.seq = rw (kinds, requests, flags, numbers) refl in
    fields

-- bytes begin with one header at most
pub one_header : OneHeader
one_header bytes header other body rest b c =
    let one = b.encoded in
    let two = c.encoded in
    let codes : type_code header.kind ≡ type_code other.kind = cc in
    let requests : header.request ≡ other.request = cc in
    let flags : header.flag ≡ other.flag = cc in
    let highs : header.seq / 256 % 256 ≡ other.seq / 256 % 256 = cc in
    let lows : header.seq % 256 ≡ other.seq % 256 = cc in
    let bodies : body ≡ rest = cc in
    let kinds : header.kind ≡ other.kind = sym (type_again header.kind b.is_header.kind) ∙ ap type_of codes ∙ type_again other.kind c.is_header.kind in
    let numbers : header.seq ≡ other.seq = same_number header.seq other.seq b.number c.number highs lows in
    (same_header header other kinds requests flags numbers, bodies)

pub one_head_fault : OneHeadFault
one_head_fault bytes Short Short h k = refl
one_head_fault bytes BadFlag BadFlag h k = refl
one_head_fault bytes Short BadFlag h k = absurd (omega (arith, h, ap length k.2))
one_head_fault bytes BadFlag Short h k = absurd (omega (arith, k, ap length h.2))

-- whatever bytes begin with is found, where what is found is right
pub all_found : {X : Type 0} (bytes : List ℕ) (head : X → Header) (body_of : X → List ℕ) (r : Result X HeadFault)
    → IfOk r (λ found. Begins bytes (head found) (body_of found)) → IfErr r (HasFault bytes)
    → (header : Header) (body : List ℕ) → Begins bytes header body → IsOkAnd r (λ found. (head found ≡ header) × (body_of found ≡ body))
all_found bytes head body_of (Ok found) ok err header body b = one_header bytes (head found) header (body_of found) body ok b
all_found bytes head body_of (Err fault) ok err header body b = absurd (fault_is_no_header bytes fault header body err b)

-- and whatever fault they have is answered
pub each_refused : {X : Type 0} (bytes : List ℕ) (head : X → Header) (body_of : X → List ℕ) (r : Result X HeadFault)
    → IfOk r (λ found. Begins bytes (head found) (body_of found)) → IfErr r (HasFault bytes)
    → (fault : HeadFault) → HasFault bytes fault → r ≡ Err fault
each_refused bytes head body_of (Ok found) ok err fault h = absurd (fault_is_no_header bytes fault (head found) (body_of found) h ok)
each_refused bytes head body_of (Err other) ok err fault h = ap Err (one_head_fault bytes other fault err h)
