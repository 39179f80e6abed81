-- What one end of a WebSocket sends, the other end reads.
use Rattle.std.proofs.Common.{◌≡◌, ℕ, zero, suc, ◌<◌, List, [], ◌∷◌, ◌++◌, length, map, None, Some, Ok, refl, sym, ap, ◌∙◌, subst, arith, length-append}
use Rattle.std.specs.List.{flat_map, AllByRecursion}
use Rattle.std.proofs.Math.Seq.{drop-append_seam}
use Rattle.websocket.specs.declared.protocol.state.WebSocketState.TheVariants.{Active}
use Rattle.websocket.specs.declared.protocol.frame.codec.FrameStatus.TheVariants.{Partial, Complete}
use Rattle.websocket.specs.Content.{Content, text, binary, ping, pong, close}
use Rattle.websocket.specs.Connection.{Connection, Effect, can_write, read_step}
use Rattle.websocket.specs.Frame.{decode_frame}
use Rattle.websocket.specs.FrameHeader.{decode_header}
use Rattle.websocket.specs.Stream.{Trace, read_times, read_all, read_chunks, concat}
use Rattle.websocket.proofs.RoundTripLemmas.{HasSendableCode, read_step_written}
use Rattle.websocket.proofs.StreamLemmas.{TookFrame_from_read, read_chunks-concat}
use Rattle.web_wire.specs.Frames.{Sent, sent_frame, IsNoClose, IsReadable, messages_of}
use Rattle.web_wire.proofs.OpenEffects.{StaysOpen, open_effect}

sendable : (content : Content) → IsNoClose content → HasSendableCode content
sendable (text _) _ = tt
sendable (binary _) _ = tt
sendable (ping _) _ = tt
sendable (pong _) _ = tt
sendable (close _) never = absurd never

same_reader : (reader next : Connection) (content : Content) → reader.fragments ≡ None → IsNoClose content → StaysOpen reader (Some content) next → next ≡ reader
same_reader reader next (text _) idle _ is = is ∙ ap (λ found. record reader { fragments = found }) (sym idle)
same_reader reader next (binary _) idle _ is = is ∙ ap (λ found. record reader { fragments = found }) (sym idle)
same_reader reader next (ping _) idle _ is = is
same_reader reader next (pong _) idle _ is = is
same_reader reader next (close _) idle never is = absurd never

-- one message is read, and the reader is as it was
record IsDelivered (reader : Connection) (sent : Sent) (rest : List ℕ) (effect : Effect) : Type 0 where
  read : read_step reader (sent_frame sent ++ rest) ≡ Ok (Complete (length (sent_frame sent), effect))
  message : effect.message ≡ Some sent.content
  next : effect.next ≡ reader

delivered : (reader : Connection) (sent : Sent) (rest : List ℕ) → reader.state ≡ Active → reader.fragments ≡ None → IsReadable reader sent
    → (effect : Effect) × IsDelivered reader sent rest effect
delivered reader sent rest active idle readable =
    let found = read_step_written reader sent.content sent.mask rest active idle readable.masked readable.mask readable.valid_text (sendable sent.content readable.no_close) readable.message_fits readable.frame_fits readable.short in
    let opened = open_effect reader (sent_frame sent ++ rest) (length (sent_frame sent), found.0) (ap can_write active) found.1 in (
      found.0,
      record {
        read = found.1;
        message = found.2;
        next = same_reader reader found.0.next sent.content idle readable.no_close (subst (λ message. StaysOpen reader message found.0.next) found.2 opened.next);
      },
    )

nothing_read : (reader : Connection) → reader.state ≡ Active → read_step reader [] ≡ Ok (Partial 1)
unfolding read_step decode_frame decode_header
nothing_read reader active = rw active refl

-- the reads of a reader deliver these messages and end without an error, at the end of the input
record AreDelivered (reader : Connection) (sent : List Sent) (trace : Trace) : Type 0 where
  messages : messages_of trace ≡ map (λ it. Some it.content) sent
  end : trace.end ≡ Ok (reader, [])

reads : (n : ℕ) (reader : Connection) (sent : List Sent) → reader.state ≡ Active → reader.fragments ≡ None → AllByRecursion (IsReadable reader) sent
    → length (flat_map sent_frame sent) < n → AreDelivered reader sent (read_times n reader (flat_map sent_frame sent))
unfolding read_times
reads zero reader sent active idle readable enough = absurd (omega arith)
reads (suc n) reader [] active idle readable enough = rw (nothing_read reader active) (record { messages = refl; end = refl })
reads (suc n) reader (it ∷ more) active idle readable enough =
    let rest = flat_map sent_frame more in
    let one = delivered reader it rest active idle readable.0 in
    let took = TookFrame_from_read reader (sent_frame it ++ rest) (length (sent_frame it), one.0) one.1.read in
    let below = reads n reader more active idle readable.1 (omega (arith, length-append (sent_frame it) rest, took.not_empty)) in
    rw (one.1.read, one.1.next, drop-append_seam (sent_frame it) rest)
    (record {
      messages = ap (λ found. found ∷ messages_of (read_times n reader rest)) one.1.message ∙ ap (λ found. Some it.content ∷ found) below.messages;
      end = below.end;
    })

pub messages_are_read : (reader : Connection) (sent : List Sent) (chunks : List (List ℕ)) → reader.state ≡ Active → reader.fragments ≡ None
    → AllByRecursion (IsReadable reader) sent → concat chunks ≡ flat_map sent_frame sent
    → (messages_of (read_chunks reader chunks) ≡ map (λ it. Some it.content) sent) × ((read_chunks reader chunks).end ≡ Ok (reader, []))
messages_are_read reader sent chunks active idle readable is =
    let bytes = flat_map sent_frame sent in
    let all : read_chunks reader chunks ≡ read_times (suc (length bytes)) reader bytes = read_chunks-concat reader chunks ∙ ap (read_all reader) is in
    let found = reads (suc (length bytes)) reader sent active idle readable (omega arith) in
    rw all (found.messages, found.end)
