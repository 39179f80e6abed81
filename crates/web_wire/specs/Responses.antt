-- The responses (RFC 9112; the fields: our profile, after Fetch, Content Security Policy Level 3 and Referrer Policy).
use Rattle.std.specs.Prelude.{ℕ, List, ◌++◌, codes, decimal, length, []}
use Rattle.websocket.specs.Handshake.{response_bytes}
use Rattle.web_wire.specs.declared.head.Answer.{Answer}
use Rattle.web_wire.specs.declared.head.Answer.TheVariants.{Handshake, Status}
use Rattle.web_wire.specs.declared.head.HttpStatus.{HttpStatus}
use Rattle.web_wire.specs.declared.head.HttpStatus.TheVariants.{Found, BadRequest, Forbidden, NotFound, MethodNotAllowed, UpgradeRequired, HeadTooLarge}
use Rattle.web_wire.specs.declared.response.PageParts.{PageParts}

-- the status line's number and phrase
abbrev pub status_text : HttpStatus → List ℕ
status_text Found = codes "200 OK"
status_text BadRequest = codes "400 Bad Request"
status_text Forbidden = codes "403 Forbidden"
status_text NotFound = codes "404 Not Found"
status_text MethodNotAllowed = codes "405 Method Not Allowed"
status_text UpgradeRequired = codes "426 Upgrade Required"
status_text HeadTooLarge = codes "431 Request Header Fields Too Large"

-- the fields that a status needs (RFC 9110, sections 15.5.6 and 15.5.22; RFC 6455, section 4.4), and Connection
abbrev pub status_fields : HttpStatus → List ℕ
status_fields MethodNotAllowed = codes "Allow: GET\r\nConnection: close\r\n"
status_fields UpgradeRequired =
    codes "Upgrade: websocket\r\nSec-WebSocket-Version: 13\r\nConnection: Upgrade, close\r\n"
status_fields _ = codes "Connection: close\r\n"

-- the body of a refusal
abbrev pub explanation : HttpStatus → List ℕ
explanation Found = codes ""
explanation BadRequest = codes "This is no request that the server understands.\n"
explanation Forbidden = codes "The server isn't used at this address: its option --origin has to name it.\n"
explanation NotFound = codes "The page is at /.\n"
explanation MethodNotAllowed = codes "The page is there for GET alone.\n"
explanation UpgradeRequired = codes "The WebSocket must be of version 13.\n"
explanation HeadTooLarge = codes "The request has too many bytes or fields.\n"

-- nothing is loaded but the script and the style of the page, which have these hashes, and nothing is connected to but
-- this server
unfoldable pub policy : (script style : List ℕ) → List ℕ
policy script style =
    codes "default-src 'none'; script-src 'sha256-" ++ (script ++ (codes "'; style-src 'sha256-" ++ (style
    ++ codes "'; connect-src 'self'; base-uri 'none'; form-action 'none'; frame-ancestors 'none'")))

-- the fields of the page, beside those of every response
unfoldable pub page_fields : (script style : List ℕ) → List ℕ
page_fields script style =
    codes "Content-Type: text/html; charset=utf-8\r\nContent-Security-Policy: " ++ (policy script style
    ++ codes "\r\nReferrer-Policy: no-referrer\r\nCross-Origin-Opener-Policy: same-origin\r\n")

unfoldable pub text_fields : List ℕ
text_fields = codes "Content-Type: text/plain; charset=utf-8\r\n"

abbrev pub type_fields : HttpStatus → PageParts → List ℕ
type_fields Found page = page_fields page.script_hash.now page.style_hash.now
type_fields _ page = text_fields

abbrev pub body_of : HttpStatus → PageParts → List ℕ
body_of Found page = page.text.now
body_of status page = explanation status

-- a response of these parts: after the status line the type's fields, then those of every response, then the status'
unfoldable pub response_text : (phrase types fields body : List ℕ) → List ℕ
response_text phrase types fields body =
    codes "HTTP/1.1 " ++ (phrase ++ (codes "\r\n" ++ (types
    ++ (codes "Content-Length: " ++ (decimal (length body)
    ++ (codes "\r\nCache-Control: no-store\r\nX-Content-Type-Options: nosniff\r\n" ++ (fields
    ++ (codes "\r\n" ++ body))))))))

-- a response but that to a handshake
abbrev pub status_response : HttpStatus → PageParts → List ℕ
status_response status page =
    response_text (status_text status) (type_fields status page) (status_fields status) (body_of status page)

abbrev pub response : Answer → PageParts → List ℕ
response (Handshake key) page = response_bytes key []
response (Status status) page = status_response status page
