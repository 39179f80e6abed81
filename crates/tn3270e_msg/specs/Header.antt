-- The header of a record (RFC 1647, section 8.1).
use Rattle.std.specs.Prelude.{◌≡◌, ℕ, ◌+◌, ◌^◌, ◌<◌, ◌≤◌, nat_lt, if◌then◌else◌, List, ◌∷◌, ◌++◌, length}
use Rattle.std.specs.Int.{w16, to_be_bytes}
use Rattle.tn3270e_msg.specs.declared.header.Header.{Header}
use Rattle.tn3270e_msg.specs.declared.header.HeadFault.{HeadFault}
use Rattle.tn3270e_msg.specs.declared.header.HeadFault.TheVariants.{Short, BadFlag}
use Rattle.tn3270e_msg.specs.declared.header.DataType.{DataType}
use Rattle.tn3270e_msg.specs.declared.header.DataType.TheVariants.{Data3270, ScsData, Response, BindImage, Unbind, NvtData, Request, SscpLuData, Unnamed}

-- the code of a DATA-TYPE
abbrev pub type_code : DataType → ℕ
type_code Data3270 = 0
type_code ScsData = 1
type_code Response = 2
type_code BindImage = 3
type_code Unbind = 4
type_code NvtData = 5
type_code Request = 6
type_code SscpLuData = 7
type_code (Unnamed code) = code

-- holds if a DATA-TYPE is proper: `Unnamed` has a code from 8 on
abbrev pub IsDataType : DataType → Type 0
IsDataType (Unnamed code) = 8 ≤ code
IsDataType _ = Unit {0}

-- the RESPONSE-FLAGs of 3270-DATA (RFC 1647, section 8.1.3)
abbrev pub no_response : ℕ
no_response = 0

abbrev pub error_response : ℕ
error_response = 1

abbrev pub always_response : ℕ
always_response = 2

-- the RESPONSE-FLAGs of RESPONSE (RFC 1647, section 8.1.3)
abbrev pub positive : ℕ
positive = 0

abbrev pub negative : ℕ
negative = 1

-- holds if a record of this type can have this RESPONSE-FLAG: 3270-DATA and RESPONSE only those above, other types any
abbrev pub IsFlag : DataType → ℕ → Type 0
IsFlag Data3270 flag = flag ≤ always_response
IsFlag Response flag = flag ≤ negative
IsFlag _ flag = Unit {0}

-- holds if a header can be sent
pub record IsHeader (header : Header) : Type 0 where
  pub kind : IsDataType header.kind
  pub flag : IsFlag header.kind header.flag

-- the five bytes of a header: DATA-TYPE, REQUEST-FLAG, RESPONSE-FLAG, and SEQ-NUMBER with its high byte first
abbrev pub spelling : Header → List ℕ
spelling header = type_code header.kind ∷ header.request ∷ header.flag ∷ to_be_bytes w16 header.seq

-- a header has five bytes
abbrev pub header_length : ℕ
header_length = 5

-- holds if these bytes are this header followed by this body
pub record Begins (bytes : List ℕ) (header : Header) (body : List ℕ) : Type 0 where
  pub is_header : IsHeader header
  pub number : header.seq < 2 ^ 16
  pub encoded : bytes ≡ spelling header ++ body

-- holds if these bytes don't begin with a header: there are too few, or the type has no such RESPONSE-FLAG
abbrev pub HasFault : List ℕ → HeadFault → Type 0
HasFault bytes Short = length bytes < header_length
HasFault bytes BadFlag =
    (header : Header) × (body : List ℕ) × (bytes ≡ spelling header ++ body) × IsDataType header.kind
    × ¬ IsFlag header.kind header.flag

-- the SEQ-NUMBER after this one (our profile: 0 to 32767, then 0 again)
abbrev pub next_number : ℕ → ℕ
next_number seq = if nat_lt seq 32767 then seq + 1 else 0

-- the most data bytes of a record, its header included (our profile)
abbrev pub record_limit : ℕ
record_limit = 16384
