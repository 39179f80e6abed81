-- The requests to an application, for a question and for the end of a session: HTTP/1.1 (RFC 9112) with a JSON object
-- (RFC 8259; keys: our profile).
use Rattle.std.specs.Prelude.{ℕ, ◌==◌, nat_lt, Bool, false, List, [], ◌∷◌, ◌++◌, map, bytes_eq, Option, Some, None, codes, decimal, length, option_map, string_bytes, if◌then◌else◌}
use Rattle.std.specs.Borrow.{Bor}
use Rattle.std.specs.List.{after_first, before_first, position_or_len}
use Rattle.std.specs.Option.{option_map_or}
use Rattle.serde_json.specs.Data.{Data, number, unsigned, string, array, object, Members, no_members, member, put}
use Rattle.serde_json.specs.View.{items_of}
use Rattle.serde_json.specs.Written.{compact_text}
use Rattle.url.specs.Parts.{Parts}
use Rattle.application_http.specs.Endpoints.{query_mark, query_text, host_of}
use Rattle.application_http.specs.declared.notification.Ended.{Ended}
use Rattle.application_http.specs.declared.request.FieldText.{FieldText}
use Rattle.application_http.specs.declared.request.Request.{Request}
use Rattle.application_http.specs.declared.request.Terminal.{Terminal}

-- ---- the body

abbrev pub is_dot : ℕ → Bool
is_dot char = char == 0x2E

-- the name of a copy of a field, as `amount.2`, in two parts: that of the field, and the copy's number; None for a
-- field that isn't repeated
abbrev pub copy_name : List ℕ → Option (List ℕ × List ℕ)
copy_name name = if nat_lt (position_or_len is_dot name) (length name)
    then Some (before_first is_dot name, after_first is_dot name) else None

abbrev pub is_copy_of : List ℕ → List ℕ → Bool
is_copy_of stem name = option_map_or (λ parts. bytes_eq parts.0 stem) (copy_name name) false

-- the texts of the copies of a field, in the order of the list
abbrev pub copies_of : List ℕ → List FieldText → List (List ℕ)
copies_of stem [] = []
copies_of stem (field ∷ fields) = if is_copy_of stem (string_bytes field.name)
    then string_bytes field.text ∷ copies_of stem fields else copies_of stem fields

-- an array of strings
abbrev pub strings : List (List ℕ) → Data
strings texts = array (items_of (map string texts))

-- The members after one of these fields was put in: its text, or at the first copy of a field an array of the texts of
-- all copies.
abbrev pub with_named : List FieldText → FieldText → Option (List ℕ × List ℕ) → Members → Members
with_named all field None members = put (string_bytes field.name) (string (string_bytes field.text)) members
with_named all field (Some (stem, place)) members =
    if bytes_eq place (codes "1") then put stem (strings (copies_of stem all)) members else members

abbrev pub with_field : List FieldText → FieldText → Members → Members
with_field all field members = with_named all field (copy_name (string_bytes field.name)) members

-- the members after the fields of a list were put in, each of which is one of `all`; if two have one name, the later
-- one counts
abbrev pub with_texts : List FieldText → Members → List FieldText → Members
with_texts all members [] = members
with_texts all members (field ∷ fields) = with_texts all (with_field all field members) fields

-- the object of the fields
abbrev pub fields_data : List FieldText → Data
fields_data fields = object (with_texts fields no_members fields)

-- the members after texts were put in, and after numbers, each at its key
abbrev pub with_strings : List (Bor (List ℕ) × Bor (List ℕ)) → Members → Members
with_strings [] members = members
with_strings (text ∷ texts) members = with_strings texts (put text.0.now (string text.1.now) members)

abbrev pub with_numbers : List (Bor (List ℕ) × ℕ) → Members → Members
with_numbers [] members = members
with_numbers (it ∷ others) members = with_numbers others (put it.0.now (number (unsigned it.1)) members)

-- the object of the cursor; its row and column are 1-based
abbrev pub cursor_data : (row col : ℕ) → Data
cursor_data row col =
    object (member (codes "col") (number (unsigned col)) (member (codes "row") (number (unsigned row)) no_members))

-- the object of the terminal
abbrev pub terminal_data : Terminal → Data
terminal_data terminal =
    object (member (codes "cols") (number (unsigned terminal.cols))
    (member (codes "model") (number (unsigned terminal.model))
    (member (codes "rows") (number (unsigned terminal.rows)) no_members)))

-- the members with the address of the client, if there is one
abbrev pub with_client : Option (List ℕ) → Members → Members
with_client None members = members
with_client (Some client) members = put (codes "client") (string client) members

-- the object of a question, with its keys in the order of their bytes
abbrev pub question_data : Request → Data
question_data request =
    object (with_client (option_map (λ it. it.now) request.client)
    (member (codes "cursor") (cursor_data request.row request.col)
    (member (codes "fields") (fields_data request.fields.now)
    (member (codes "key") (string request.key.now)
    (member (codes "lu") (string request.lu.now)
    (member (codes "panel") (string request.panel.now)
    (member (codes "session") (string request.session.now)
    (member (codes "terminal") (terminal_data request.terminal)
    (member (codes "turn") (number (unsigned request.turn)) no_members)))))))))

-- the object of a notification, with its keys in the order of their bytes
abbrev pub ended_data : Ended → Data
ended_data ended =
    object (member (codes "event") (string (codes "ended"))
    (member (codes "lu") (string ended.lu.now)
    (member (codes "reason") (string ended.reason.now)
    (member (codes "session") (string ended.session.now) no_members))))

-- ---- the head

-- the request line (RFC 9112, section 3)
unfoldable pub first_line : Parts → List ℕ
first_line url = codes "POST " ++ (url.path ++ (query_mark url ++ (query_text url ++ codes " HTTP/1.1\r\n")))

-- the header fields and the empty line
unfoldable pub field_lines : Parts → (length : ℕ) → List ℕ
field_lines url length =
    codes "Host: " ++ (host_of url ++ (codes "\r\nContent-Type: application/json\r\nContent-Length: "
    ++ (decimal length ++ codes "\r\n\r\n")))

-- a whole request: the head, which states the length of the body, and the body
abbrev pub post_bytes : Parts → (body : List ℕ) → List ℕ
post_bytes url body = first_line url ++ field_lines url (length body) ++ body

-- the request for a question; its body is the JSON text of the object, without blanks
abbrev pub request_bytes : Parts → Request → List ℕ
request_bytes url request = post_bytes url (compact_text (question_data request))

-- the request that reports a session's end
abbrev pub notification_bytes : Parts → Ended → List ℕ
notification_bytes url ended = post_bytes url (compact_text (ended_data ended))
