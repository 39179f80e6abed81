-- Bytes that come up to a host, on one connection: with each of them the host hears nothing or one message, and what it says to a message
-- is nothing but talk.
use Rattle.std.proofs.Common.{◌≡◌, ℕ, Bool, true, false, List, [], ◌∷◌, ◌++◌, map, refl, ap, sym, subst, ◌∙◌}
use Rattle.std.specs.List.{AllByRecursion}
use Rattle.shadow.specs.Pairs.{Pairwise}
use Rattle.telnet_wire.specs.Items.{WireItem, CanCome}
use Rattle.telnet_wire.specs.Laws.{WrongIsFinal}
use Rattle.telnet_wire.specs.Reading.{Rest, Delivers, GoesWrong}
use Rattle.telnet_wire.specs.declared.wire.WireFault.{WireFault}
use Rattle.tn3270e_msg.specs.Header.{record_limit}
use Rattle.tn3270e_msg.specs.Talk.{NegotiationMessage, item_of}
use Rattle.host_core.specs.Messages.{ToTerminal, ToHost}
use Rattle.host_core.specs.Says.{item_sent}
use Rattle.host_core.specs.Session.{Session}
use Rattle.host_core.specs.Takes.{HostStep}
use Rattle.world3270.specs.model.Link.{Link, sent}
use Rattle.world3270.specs.refinement.Represents.{BytesRepresent, ByteLink, LinkRepresentsBy, RepresentsDown, is_nop}
use Rattle.world3270.specs.refinement.RepresentsEnds.{IsSaid}
use Rattle.world3270.specs.refinement.RepresentsLinks.{HostSendsBy, MayComeAll, UpRepresentsBy, said_down, sent_down}
use Rattle.world3270.specs.model.Terminal.{TermEnd, took as term_took}
use Rattle.world3270.proofs.RepresentsFits.{payload_fits}
use Rattle.world3270.proofs.RepresentsLinks.{none_for_none, not_wrong, up_behind_rest}
use Rattle.world3270.proofs.UnderWay.{lost_says}

-- ---- what a host says to a message

-- it is nothing but talk, each of its items stands for its saying, and may come where the sayings may
pub talk_stands : (talk : List NegotiationMessage) → Pairwise RepresentsDown (map item_sent (map ToTerminal.TalksDown talk)) (map ToTerminal.TalksDown talk)
talk_stands [] = tt
talk_stands (saying ∷ talk) = (refl, talk_stands talk)

pub saying_comes : (saying : NegotiationMessage) → IsSaid saying → CanCome record_limit (item_of saying)
saying_comes (NegotiationMessage.Opt verb code) is = tt
saying_comes (NegotiationMessage.Sub sending) is = payload_fits sending is

pub talk_comes : (talk : List NegotiationMessage) (end : TermEnd) → MayComeAll end (map ToTerminal.TalksDown talk)
    → AllByRecursion (CanCome record_limit) (map item_sent (map ToTerminal.TalksDown talk))
talk_comes [] end may = tt
talk_comes (saying ∷ talk) end may = (saying_comes saying may.1.0, talk_comes talk (term_took end (ToTerminal.TalksDown saying)).end may.2)

-- what may come behind others may come once these came
pub may_behind : (front back : List ToTerminal) (end : TermEnd) → MayComeAll end (front ++ back) → (other : TermEnd) × MayComeAll other back
may_behind [] back end may = (end, may)
may_behind (message ∷ front) back end may = may_behind front back (term_took end message).end may.2

module _ {heard : List WireItem → List WireItem} {Up : WireItem → ToHost → Type 0} (host_sends : HostSendsBy heard Up) (bytes : ByteLink) (link : Link) (conn : Session) (sends : List ToTerminal) (talk : List NegotiationMessage) (says : sends ≡ map ToTerminal.TalksDown talk)
    (stands : LinkRepresentsBy heard Up is_nop bytes link) where
  said_if : (lost : Bool) → link.lost ≡ lost → MayComeAll link.term (sent link.lost link.down sends) → LinkRepresentsBy heard Up is_nop (said_down conn (map item_sent sends) bytes) (sent_down conn sends link)
  said_if true e may = lost_says host_sends bytes link conn (map item_sent sends) sends stands e
  said_if false e may =
      let all = may_behind link.down sends link.term (subst (λ (l : Bool). MayComeAll link.term (sent l link.down sends)) e may) in
      host_sends bytes link conn (map item_sent sends) sends stands
      (subst (λ (m : List ToTerminal). AllByRecursion (CanCome record_limit) (map item_sent m)) (sym says)
      (talk_comes talk all.0 (subst (λ (m : List ToTerminal). MayComeAll all.0 m) says all.1)))
      (subst (λ (m : List ToTerminal). Pairwise RepresentsDown (map item_sent m) m) (sym says) (talk_stands talk))

  -- The connection then represents the one on which the host said so.
  pub sends_stand : MayComeAll link.term (sent link.lost link.down sends) → LinkRepresentsBy heard Up is_nop (said_down conn (map item_sent sends) bytes) (sent_down conn sends link)
  sends_stand may = said_if link.lost refl may

-- ---- the connection behind a message

-- the host took it, and goes on
abbrev pub link_behind : HostStep → List ToHost → Link → Link
link_behind step others link = record link { up = others; host = step.conn; down = sent link.lost link.down step.sends }

-- ---- the first byte

-- the item that it completes represents the first message, and the bytes behind it the others
pub record FirstMessage (heard : List WireItem → List WireItem) (Up : WireItem → ToHost → Type 0) (ignored : WireItem → Bool) (bytes : ByteLink) (link : Link) (item : WireItem) : Type 0 where
  pub message : ToHost
  pub others : List ToHost
  pub whole : link.up ≡ message ∷ others
  pub is : Up item message
  pub stands : LinkRepresentsBy heard Up ignored bytes (record link { up = others })

module _ {heard : List WireItem → List WireItem} {Up : WireItem → ToHost → Type 0} {ignored : WireItem → Bool} (up_stands : UpRepresentsBy heard Up ignored) (bytes : ByteLink) (link : Link) (byte : ℕ) (behind : List ℕ) (to : Rest)
    (stands : LinkRepresentsBy heard Up ignored bytes link) (here : link.host_here ≡ true) (queue : bytes.up ≡ byte ∷ behind) where
  abbrev now : ByteLink
  now = record bytes { host_rest = to; up = behind }

  -- it completes no item that is heard
  pub none_first : (items : List WireItem) → heard items ≡ [] → Delivers record_limit bytes.host_rest (byte ∷ []) items to → LinkRepresentsBy heard Up ignored now link
  none_first items unheard delivers =
      let came = up_stands bytes link (byte ∷ []) behind items to stands here queue delivers in
      let none = subst (λ (some : List WireItem). Pairwise Up some came.taken) unheard came.each in
      let others : came.others ≡ link.up = sym (came.whole ∙ ap (λ (m : List ToHost). m ++ came.others) (none_for_none Up came.taken none)) in
      subst (λ (m : List ToHost). LinkRepresentsBy heard Up ignored now (record link { up = m })) others came.stands

  just_one : (item : WireItem) (taken others : List ToHost) → link.up ≡ taken ++ others → Pairwise Up (item ∷ []) taken → LinkRepresentsBy heard Up ignored now (record link { up = others })
      → FirstMessage heard Up ignored now link item
  just_one item [] others whole each stood = absurd each
  just_one item (message ∷ []) others whole each stood = record { message = message; others = others; whole = whole; is = each.0; stands = stood }
  just_one item (message ∷ other ∷ more) others whole each stood = absurd each.1

  -- it completes an item that is heard
  pub one_first : (item : WireItem) → heard (item ∷ []) ≡ item ∷ [] → Delivers record_limit bytes.host_rest (byte ∷ []) (item ∷ []) to → FirstMessage heard Up ignored now link item
  one_first item is_heard delivers =
      let came = up_stands bytes link (byte ∷ []) behind (item ∷ []) to stands here queue delivers in
      just_one item came.taken came.others came.whole (subst (λ (some : List WireItem). Pairwise Up some came.taken) is_heard came.each) came.stands

-- bytes under way are read without fault
pub never_wrong : {heard : List WireItem → List WireItem} {Up : WireItem → ToHost → Type 0} {ignored : WireItem → Bool} → WrongIsFinal → (bytes : ByteLink) (link : Link) (byte : ℕ) (behind : List ℕ) (fault : WireFault) → LinkRepresentsBy heard Up ignored bytes link
    → link.host_here ≡ true → bytes.up ≡ byte ∷ behind → GoesWrong record_limit bytes.host_rest (byte ∷ []) fault → ⊥
never_wrong {heard} {Up} {ignored} final bytes link byte behind fault stands here queue wrong =
    not_wrong final bytes.host_rest byte behind fault link.up
    (subst (λ (b : List ℕ). BytesRepresent heard Up bytes.host_rest b link.up) queue (up_behind_rest bytes link stands here)) wrong
