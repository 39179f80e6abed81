-- The turn of a page and its terminal (our profile): what is read, and what is sent.
use Rattle.std.specs.Prelude.{◌≡◌, ◌⊎◌, ℕ, Bool, true, false, List, [], Result, length}
use Rattle.std.specs.declared.io.Error.{Error}
use Rattle.host_core.specs.declared.links.LinkRead.{LinkRead}
use Rattle.host_core.specs.declared.links.LinkRead.TheVariants as read
use Rattle.host_core.specs.declared.links.LinkWrite.{LinkWrite}
use Rattle.host_core.specs.declared.links.LinkWrite.TheVariants as write
use Rattle.jobs.specs.declared.fault.Fault.{Fault}
use Rattle.operate.specs.LiveSessions.{BreaksTurnTyped, Session, TakesTurnTyped}
use Rattle.web_wire.specs.Sockets.{IsRead, is_full}
use Rattle.web_wire.specs.Steps.{is_closed}
use Rattle.web_wire.specs.declared.received.Closing.{Closing}
use Rattle.web_wire.specs.declared.received.Received.{Received}
use Rattle.web_wire.specs.declared.received.Received.TheVariants as received
use Rattle.web_wire.specs.declared.socket.SendFault.{SendFault}
use Rattle.web_wire.specs.declared.socket.SendFault.TheVariants as send
use Rattle.web.specs.Links.{Link, Receives, SendsPage, has_output, with_drawing}
use Rattle.web.specs.declared.page_turn.PageTurn.{PageTurn}
use Rattle.web.specs.declared.page_turn.PageTurn.TheVariants as turned

-- whether a read says that the socket has ended or failed
abbrev pub is_lost : LinkRead → Bool
is_lost (read.Got count) = false
is_lost read.NotNow = false
is_lost read.Ended = true
is_lost read.Failed = true

abbrev pub is_got : LinkRead → Bool
is_got (read.Got count) = true
is_got _ = false

-- whether a frame was read
abbrev pub has_moved : Received → Bool
has_moved received.Waiting = false
has_moved _ = true

-- Ctrl-L, by which the whole screen is drawn
abbrev pub redraw_key : ℕ
redraw_key = 12

-- the fault that ends a session whose drawing can't be sent
abbrev pub fault_of : SendFault → Fault
fault_of send.Memory = Fault.NoMemory
fault_of send.Full = Fault.OutputFailed

-- what a turn is in which output waits after this write
abbrev pub waiting : LinkWrite → PageTurn
waiting (write.Took count) = turned.Going false true 0
waiting write.NotNow = turned.Going false false 0
waiting write.Failed = turned.Lost

-- a terminal whose drawings its caller takes
abbrev pub Terminal : Type 0 → Type 0
Terminal H = Session H Unit Unit

module _ {B H : Type 0} (gave : H → ℕ → List ℕ → Result ℕ Error → H → Type 0)
    (took : H → List ℕ → Result ℕ Error → H → Type 0) where
  -- Holds if the terminal takes a turn in which these bytes were typed, and the page is sent the drawing, byte for
  -- byte, as one message.
  pub record DrawsTurn (typed : List ℕ) (old_page : Link B) (old_terminal : Terminal H) (new_page : Link B)
      (new_terminal : Terminal H) : Type 0 where
    pub drawing : List ℕ
    pub turned : TakesTurnTyped gave took typed old_terminal new_terminal [] drawing
    pub sent : new_page ≡ with_drawing drawing old_page

  -- Holds if a turn in which these bytes were typed fails: it breaks off by this fault, and the page is sent nothing; or
  -- the drawing is made and can't be sent, for want of memory or, only if too many bytes would wait, since it is too long.
  pub data FailsToDraw (typed : List ℕ) (old_page : Link B) (old_terminal : Terminal H) (new_page : Link B)
      (new_terminal : Terminal H) : Fault → Type 0 where
    at_turn : (fault : Fault) (drawn : List ℕ) → BreaksTurnTyped gave took typed old_terminal new_terminal [] drawn fault
        → new_page ≡ old_page → FailsToDraw typed old_page old_terminal new_page new_terminal fault
    at_page : (drawn : List ℕ) (why : SendFault) → TakesTurnTyped gave took typed old_terminal new_terminal [] drawn
        → new_page ≡ old_page → (why ≡ send.Full → is_full old_page.frames.output (length drawn) ≡ true)
        → FailsToDraw typed old_page old_terminal new_page new_terminal (fault_of why)

  -- holds if this frame is a close, or breaks a rule: the terminal isn't touched
  abbrev pub IsClosedBy : Received → (read_page : Link B) → (old_terminal : Terminal H) → PageTurn → (new_page : Link B)
      → (new_terminal : Terminal H) → Type 0
  IsClosedBy frame read_page old_terminal turn new_page new_terminal = (closing : Closing)
      × (frame ≡ received.Closed closing) × (turn ≡ turned.Closed closing) × (new_page ≡ read_page)
      × (new_terminal ≡ old_terminal)

  -- holds if the keys of this frame are pressed, all of them, and the page is sent the drawing
  abbrev pub IsPressed : Received → List ℕ → (heard : Bool) → (read_page : Link B) → (old_terminal : Terminal H)
      → PageTurn → (new_page : Link B) → (new_terminal : Terminal H) → Type 0
  IsPressed frame keys heard read_page old_terminal turn new_page new_terminal = (moved : Bool)
      × (is_closed frame ≡ false) × (turn ≡ turned.Going heard moved (length keys))
      × DrawsTurn keys read_page old_terminal new_page new_terminal

  -- Holds if the next frame is read, its keys are pressed, and the drawing is sent; or if it closes the WebSocket.
  pub record Serves (heard : Bool) (old_page : Link B) (old_terminal : Terminal H) (turn : PageTurn)
      (new_page : Link B) (new_terminal : Terminal H) : Type 0 where
    pub frame : Received
    pub keys : List ℕ
    pub read_page : Link B
    pub reads : IsRead old_page.frames frame [] keys read_page.frames
    pub same_socket : read_page.socket ≡ old_page.socket
    pub served : IsClosedBy frame read_page old_terminal turn new_page new_terminal
        ⊎ IsPressed frame keys heard read_page old_terminal turn new_page new_terminal

  -- Holds if the next frame is read, and the turn with its keys fails by this fault.
  pub record FailsToServe (fault : Fault) (old_page : Link B) (old_terminal : Terminal H) (new_page : Link B)
      (new_terminal : Terminal H) : Type 0 where
    pub frame : Received
    pub keys : List ℕ
    pub read_page : Link B
    pub reads : IsRead old_page.frames frame [] keys read_page.frames
    pub same_socket : read_page.socket ≡ old_page.socket
    pub fails : FailsToDraw keys read_page old_terminal new_page new_terminal fault

  module _ (page_gave : B → ℕ → List ℕ → Result ℕ Error → B → Type 0) where
    -- holds if the page's socket is read, and serving the page fails by this fault
    pub record FailsToExchange (fault : Fault) (old_page : Link B) (old_terminal : Terminal H) (new_page : Link B)
        (new_terminal : Terminal H) : Type 0 where
      pub came : LinkRead
      pub heard_page : Link B
      pub receives : Receives page_gave old_page came heard_page
      pub goes_on : is_lost came ≡ false
      pub fails : FailsToServe fault heard_page old_terminal new_page new_terminal

    -- holds if the page's socket is read, and then the page is served, unless the socket has ended
    pub record Exchanges (old_page : Link B) (old_terminal : Terminal H) (turn : PageTurn) (new_page : Link B)
        (new_terminal : Terminal H) : Type 0 where
      pub came : LinkRead
      pub heard_page : Link B
      pub receives : Receives page_gave old_page came heard_page
      pub goes_on :
          ((is_lost came ≡ true) × (turn ≡ turned.Lost) × (new_page ≡ heard_page) × (new_terminal ≡ old_terminal))
          ⊎ ((is_lost came ≡ false) × Serves (is_got came) heard_page old_terminal turn new_page new_terminal)

    module _ (page_took : B → List ℕ → Result ℕ Error → B → Type 0) where
      -- holds if the page is served, and its output is written
      pub record ServesAndSends (old_page : Link B) (old_terminal : Terminal H) (turn : PageTurn) (new_page : Link B)
          (new_terminal : Terminal H) : Type 0 where
        pub served_page : Link B
        pub exchanges : Exchanges old_page old_terminal turn served_page new_terminal
        pub wrote : LinkWrite
        pub sends : SendsPage page_took served_page wrote new_page

      -- Holds for a turn: what waits is sent; then the page is served, unless something still waits.
      pub record TakesPageTurn (old_page : Link B) (old_terminal : Terminal H) (turn : PageTurn) (new_page : Link B)
          (new_terminal : Terminal H) : Type 0 where
        pub flushed : Link B
        pub wrote : LinkWrite
        pub flushes : SendsPage page_took old_page wrote flushed
        pub goes_on :
            ((has_output flushed ≡ true) × (turn ≡ waiting wrote) × (new_page ≡ flushed)
            × (new_terminal ≡ old_terminal))
            ⊎ ((has_output flushed ≡ false) × ServesAndSends flushed old_terminal turn new_page new_terminal)

      -- Holds if a turn fails by this fault: what waited was sent, all of it, and then serving the page failed.
      pub record BreaksPageTurn (fault : Fault) (old_page : Link B) (old_terminal : Terminal H) (new_page : Link B)
          (new_terminal : Terminal H) : Type 0 where
        pub flushed : Link B
        pub wrote : LinkWrite
        pub flushes : SendsPage page_took old_page wrote flushed
        pub none_waits : has_output flushed ≡ false
        pub fails : FailsToExchange fault flushed old_terminal new_page new_terminal
