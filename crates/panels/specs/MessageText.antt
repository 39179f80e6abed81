-- The text of a message from an application (our profile).
use Rattle.std.specs.Prelude.{ℕ, List, ◌++◌, ◌-◌, length, take, replicate}

-- the most characters of a message: the longest last row of a 3278 has 132 columns, one of which its attribute takes
abbrev pub most_message : ℕ
most_message = 131

-- a text cut to that length, or filled up to it with nulls
abbrev pub message_of : List ℕ → List ℕ
message_of text = take most_message text ++ replicate (most_message - length text) 0
