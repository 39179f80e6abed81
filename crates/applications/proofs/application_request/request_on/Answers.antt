use Rattle.std.proofs.Common.{◌≡◌, ℕ, List, Result, Ok, Err, IfOk, String, Global, string_bytes}
use Rattle.application_http.specs.Requests.{request_bytes}
use Rattle.application_http.specs.declared.request.Request.{Request}
use Rattle.panels.specs.Panel.{PanelParts}
use Rattle.applications.specs.ApplicationRequests.{AsksQuestion, IsRequestOn, SaysWhoAsks}
use Rattle.applications.specs.declared.application_request.Query.{Query}
use Rattle.applications.proofs.application_request.request_on.Goals as goal

written_on : {E : Type 0} (written : Request → List ℕ) (boot : ℕ) (panel : PanelParts) (query : Query) (request : Request) (result : Result (String Global) E)
    → AsksQuestion boot panel query.question request → SaysWhoAsks query request → IfOk result (λ text. string_bytes text ≡ written request)
    → IfOk result (λ text. IsRequestOn written boot panel query (string_bytes text))
written_on written boot panel query request (Ok text) asks who is = record { request = request; asks = asks; says_who = who; bytes_are = is }
written_on written boot panel query request (Err refused) asks who is = tt

pub returns : goal.returns
returns c =
    written_on (request_bytes c.args.endpoint.now) c.args.boot c.args.panel.now c.args.query.now c.request_by-request.result c.request_text.result
    c.request_by-request.ensures.asks c.request_by-request.ensures.says_who c.request_text.ensures
