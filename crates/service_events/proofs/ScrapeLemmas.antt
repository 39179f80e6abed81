-- The status of a complete head, which never is that it is too large.
use Rattle.std.proofs.Common.{◌≡◌, ℕ, ◌==◌, Bool, true, false, ◌&&◌, not, List, ap, sym, inl, codes, map, Option, None, Some, if◌then◌else◌}
use Rattle.httparse.specs.Grammar.{RequestHead, ReadsRequest}
use Rattle.httparse.specs.Spans.{name_and_value}
use Rattle.websocket.specs.Headers.{Fields}
use Rattle.service_events.specs.declared.scrape.Method.{Method}
use Rattle.service_events.specs.declared.scrape.Resource.{Resource}
use Rattle.service_events.specs.declared.scrape.HttpStatus.{HttpStatus}
use Rattle.service_events.specs.declared.scrape.HttpStatus.TheVariants.{Found, BadRequest, Forbidden, NotFound, MethodNotAllowed, HeadTooLarge}
use Rattle.web_wire.specs.Heads.{only_value}
use Rattle.service_events.specs.Scrapes.{IsCalledFor, has_field, host_refusal, is_local, method_of, path_of, refusal_of, resource_of, status_for_method, status_for_resource, status_of, status_of_parts}

if_not_large : (b : Bool) (then_ else_ : Option HttpStatus) → (then_ ≡ Some HeadTooLarge → ⊥) → (else_ ≡ Some HeadTooLarge → ⊥) → (if b then then_ else else_) ≡ Some HeadTooLarge → ⊥
if_not_large true then_ else_ one other = one
if_not_large false then_ else_ one other = other

host_not_large : (minor : ℕ) (lacks : Bool) (host : Option (List ℕ)) → host_refusal minor lacks host ≡ Some HeadTooLarge → ⊥
host_not_large minor lacks None is = if_not_large (minor == 0 && lacks) None (Some BadRequest) (λ e. cc e) (λ e. cc e) is
host_not_large minor lacks (Some host) is = if_not_large (is_local host) None (Some Forbidden) (λ e. cc e) (λ e. cc e) is

refusal_not_large : (minor : ℕ) (fields : Fields) → refusal_of minor fields ≡ Some HeadTooLarge → ⊥
refusal_not_large minor fields is =
    host_not_large minor (not (has_field fields (codes "Host"))) (only_value fields (codes "Host")) is

resource_not_large : (asked : Method) (found : Option Resource) → status_for_resource asked found ≡ HeadTooLarge → ⊥
resource_not_large asked None is = cc is
resource_not_large asked (Some found) is = cc is

method_not_large : (asked : Option Method) (target : List ℕ) → status_for_method asked target ≡ HeadTooLarge → ⊥
method_not_large None target is = cc is
method_not_large (Some asked) target is = resource_not_large asked (resource_of (path_of target)) is

parts_not_large : (name target : List ℕ) (refusal : Option HttpStatus) → (refusal ≡ Some HeadTooLarge → ⊥) → status_of_parts name target refusal ≡ HeadTooLarge → ⊥
parts_not_large name target None small is = method_not_large (method_of name) target is
parts_not_large name target (Some found) small is = small (ap (λ (it : HttpStatus). Some it) is)

-- the status of a complete head is called for
pub called_for : (bytes : List ℕ) (head : RequestHead) (rest : List ℕ) (found : HttpStatus) → ReadsRequest bytes head rest → found ≡ status_of head → IsCalledFor bytes found
called_for bytes head rest (Found asked resource) reads is = (head, rest, reads, is)
called_for bytes head rest BadRequest reads is = inl (head, rest, reads, is)
called_for bytes head rest Forbidden reads is = (head, rest, reads, is)
called_for bytes head rest NotFound reads is = (head, rest, reads, is)
called_for bytes head rest MethodNotAllowed reads is = (head, rest, reads, is)
called_for bytes head rest HeadTooLarge reads is =
    let fields = map name_and_value head.fields in
    absurd (parts_not_large head.method head.target (refusal_of head.minor fields) (refusal_not_large head.minor fields) (sym is))
