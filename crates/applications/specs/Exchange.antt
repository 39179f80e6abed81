-- One exchange with an application (our profile): a request on its own connection, and the reply to it.
use Rattle.std.specs.Prelude.{ℕ, List, Option}

-- An exchange: its stream, when it began in milliseconds, the request, how many of its bytes were sent, and the bytes
-- received; None once they ended it.
pub record Exchange (S : Type 0) : Type 0 where
  pub stream : S
  pub began : ℕ
  pub request : List ℕ
  pub sent : ℕ
  pub heard : Option (List ℕ)
