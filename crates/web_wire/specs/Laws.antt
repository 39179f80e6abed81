-- What follows from the definitions of frames (RFC 6455).
use Rattle.std.specs.Prelude.{◌≡◌, ℕ, List, [], map, None, Some, Ok}
use Rattle.std.specs.List.{flat_map, AllByRecursion}
use Rattle.websocket.specs.declared.protocol.state.WebSocketState.TheVariants.{Active}
use Rattle.websocket.specs.Connection.{Connection}
use Rattle.websocket.specs.Stream.{read_chunks, concat}
use Rattle.web_wire.specs.Frames.{Sent, sent_frame, IsReadable, messages_of}

-- What one end sends as frames, each a whole message, the other end reads as these messages, in order and byte for
-- byte, however the bytes are cut.
abbrev pub MessagesAreRead : Type 0
MessagesAreRead = (reader : Connection) (sent : List Sent) (chunks : List (List ℕ))
    → reader.state ≡ Active → reader.fragments ≡ None → AllByRecursion (IsReadable reader) sent
    → concat chunks ≡ flat_map sent_frame sent
    → (messages_of (read_chunks reader chunks) ≡ map (λ it. Some it.content) sent)
    × ((read_chunks reader chunks).end ≡ Ok (reader, []))
