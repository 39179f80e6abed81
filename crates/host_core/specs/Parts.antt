-- Parts of the host's steps as the code takes them (our profile); only private contracts and proofs need it.
use Rattle.std.specs.Prelude.{◌≡◌, ⊤, ℕ, false, List, [], ◌++◌, Option, None, map, Vec}
use Rattle.std.specs.declared.alloc.Global.{Global}
use Rattle.codes3270.specs.Size.{model_2}
use Rattle.datastream.specs.Grammar.{CommandParts}
use Rattle.lu_pool.specs.Asking.{answer_to}
use Rattle.lu_pool.specs.Holders.{granted_if}
use Rattle.lu_pool.specs.declared.entry.Entry.{Entry}
use Rattle.telnet_wire.specs.Items.{WireItem, sent_bytes}
use Rattle.tn3270e_msg.specs.Talk.{Talk}
use Rattle.tn3270e_msg.specs.declared.cause.Cause.{Cause}
use Rattle.tn3270e_msg.specs.declared.host_talk.HostState.{HostState}
use Rattle.host_core.specs.Items.{Talks}
use Rattle.host_core.specs.Representation.{command_in}
use Rattle.host_core.specs.Messages.{ToTerminal}
use Rattle.host_core.specs.Reports.{Reports, reported}
use Rattle.host_core.specs.Says.{item_sent}
use Rattle.host_core.specs.Session.{Session, Pending}
use Rattle.host_core.specs.Takes.{with_talk}
use Rattle.host_core.specs.declared.rejection.Rejection.{Rejection}

-- the write if none waits
abbrev pub no_write : CommandParts
no_write = command_in model_2 []

-- the write that waits for its answer
abbrev pub write_of : Pending → CommandParts
write_of Pending.Nothing = no_write
write_of (Pending.Writing number command) = command
write_of (Pending.Reading number) = no_write
write_of (Pending.Noting number command) = command

-- holds if a write waits for its answer
abbrev pub IsWrite : Pending → Type 0
IsWrite Pending.Nothing = ⊥
IsWrite (Pending.Writing number command) = ⊤
IsWrite (Pending.Reading number) = ⊥
IsWrite (Pending.Noting number command) = ⊤

-- holds if no paint waits for its answer
abbrev pub IsNoPaint : Pending → Type 0
IsNoPaint Pending.Nothing = ⊤
IsNoPaint (Pending.Writing number command) = ⊥
IsNoPaint (Pending.Reading number) = ⊤
IsNoPaint (Pending.Noting number command) = ⊤

-- An item of the negotiation is taken: the reply is appended to the output. If it closes, the LU is still held.
pub record TalkTaken (number : ℕ) (pool : List Entry) (old : Talk HostState) (item : WireItem)
    (before after : Vec ℕ Global) (closes : Option Cause) (left : List Entry) (new : Talk HostState)
    (kept keeps : Reports) : Type 0 where
  pub sends : List ToTerminal
  pub grants : Option (List ℕ)
  pub rejects : Option Rejection
  pub talks : (conn : Session) → conn.talk ≡ old → Talks (answer_to pool) conn item (record {
    conn = with_talk conn new;
    sends = sends;
    grants = grants;
    rejects = rejects;
    drops = None;
    breaks = None;
    replaces = false;
    restores = None;
    closes = closes;
  })
  pub pool_is : left ≡ granted_if number grants pool
  pub sent : after.items ≡ before.items ++ sent_bytes (map item_sent sends)
  pub reports : keeps ≡ reported rejects None None kept
