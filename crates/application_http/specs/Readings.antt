-- The answers of a reader (our profile): a function of the bytes received, and of whether the connection is closed.
use Rattle.std.specs.Prelude.{◌≡◌, ℕ, ◌<◌, ◌≤◌, nat_lt, ◌⊎◌, Bool, ◌||◌, true, false, List, ◌++◌, length, take, Option, Some, None, Result, Ok, Err, ⊤}
use Rattle.application_http.specs.Contents.{most_bytes, HasContent, IsKept, IsUnfinished, IsBadMessage}
use Rattle.application_http.specs.Replies.{Answer, Says, IsBadContent, answer_in}
use Rattle.application_http.specs.declared.fault.ReplyFault.{ReplyFault}
use Rattle.application_http.specs.declared.fault.ReplyFault.TheVariants as fault
use Rattle.application_http.specs.declared.reply.Reply.{Reply}

-- holds if the bytes begin with a reply of status 200 that means this
abbrev pub HasReply : (closed : Bool) → (bytes : List ℕ) → Answer → Type 0
HasReply closed bytes answer = (content : List ℕ) × HasContent closed bytes content × Says content answer

-- holds if the bytes begin with no reply, or with an invalid one, for this reason
abbrev pub IsBadReply : (closed : Bool) → (bytes : List ℕ) → ReplyFault → Type 0
IsBadReply closed bytes why = IsBadMessage closed bytes why
    ⊎ ((content : List ℕ) × HasContent closed bytes content × IsBadContent content why)

-- the first bytes received; the reply must fit in them
abbrev pub front : List ℕ → List ℕ
front bytes = take most_bytes bytes

-- holds for the result of all bytes received: None if the reply isn't complete, or the reply
abbrev pub IsFound : (closed : Bool) → (bytes : List ℕ) → Option Reply → Type 0
IsFound closed bytes None = IsUnfinished closed bytes × (length bytes ≤ most_bytes)
IsFound closed bytes (Some reply) = HasReply closed (front bytes) (answer_in reply)
    × IsKept (closed || nat_lt most_bytes (length bytes)) (front bytes) reply.kept

-- holds if all bytes received are refused for this reason
abbrev pub IsRefused : (closed : Bool) → (bytes : List ℕ) → ReplyFault → Type 0
IsRefused closed bytes fault.TooLong = IsUnfinished closed (front bytes) × (most_bytes < length bytes)
IsRefused closed bytes fault.CutShort = IsUnfinished closed bytes × (closed ≡ true)
IsRefused closed bytes why = IsBadReply closed (front bytes) why

-- holds if the bytes of a call are refused after earlier ones for this reason: as all bytes together, or because memory
-- was refused
abbrev pub IsRefusedAfter : (so_far bytes : List ℕ) → ReplyFault → Type 0
IsRefusedAfter so_far bytes why = ((why ≡ fault.Memory) × (length so_far < most_bytes) × (0 < length bytes))
    ⊎ IsRefused false (so_far ++ bytes) why

-- ---- a reader

abbrev pub Outcome : Type 0
Outcome = Result (Option Reply) ReplyFault

-- the reader's state after an outcome: all bytes received, or None if the reading is over
abbrev pub left_by : Outcome → (bytes : List ℕ) → Option (List ℕ)
left_by (Ok None) bytes = Some bytes
left_by (Ok (Some reply)) bytes = None
left_by (Err why) bytes = None

abbrev pub ReturnsNone : Outcome → Type 0
ReturnsNone (Ok None) = ⊤
ReturnsNone (Ok (Some reply)) = ⊥
ReturnsNone (Err why) = ⊥
