-- What a record, an item, a byte and bytes make of a terminal is determined.
use Rattle.std.proofs.Common.{◌≡◌, ℕ, List, [], ◌∷◌, ◌++◌, sym, ◌∙◌, ap, subst, refl, Option}
use Rattle.codes3270.specs.Size.{alternate_of}
use Rattle.datastream.specs.Grammar.{CommandParts}
use Rattle.datastream.specs.declared.fault.CommandFault.{CommandFault}
use Rattle.datastream.proofs.Commands.{one_command, command_or_fault, one_command_fault}
use Rattle.telnet_wire.specs.declared.wire.WireFault.{WireFault}
use Rattle.telnet_wire.specs.Items.{WireItem, Record, Opt, Sub, Other, sent_bytes}
use Rattle.telnet_wire.specs.Reading.{Rest, Delivers, GoesWrong}
use Rattle.telnet_wire.specs.Laws.{OneDelivery, WrongIsFinal}
use Rattle.codes3270.specs.declared.size.Model.{Model}
use Rattle.tn3270e_msg.specs.declared.cause.Cause.{Cause}
use Rattle.tn3270e_msg.specs.declared.header.Header.{Header}
use Rattle.tn3270e_msg.specs.declared.reply.Reply.{Reply}
use Rattle.tn3270e_msg.specs.declared.term_talk.TermState.{TermState}
use Rattle.tn3270e_msg.specs.declared.term_talk.TermState.TheVariants as at
use Rattle.tn3270e_msg.specs.Talk.{Talk, items_sent, follow, closing}
use Rattle.tn3270e_msg.specs.TermTable.{Term, TermTakes, term_transition}
use Rattle.tn3270e_msg.specs.Laws.{OneHeader, FaultIsNoHeader, OneHearing}
use Rattle.tn3270e_msg.specs.Header.{record_limit}
use Rattle.term_core.specs.State.{Station, Terminal, Link, Attached}
use Rattle.datastream.specs.Senses.{sense_of}
use Rattle.term_core.specs.declared.outcome.Outcome.TheVariants.{Refused}
use Rattle.term_core.specs.Records.{TakesRecord, SpellsCommand, SpellsNoCommand, refused_response, answer_of, obeyed}
use Rattle.term_core.specs.Items.{TakesItem, TakesItemIn, TalksOn}
use Rattle.term_core.specs.Bytes.{TakesByte, TakesBytes, before_byte, link_after}
use Rattle.term_core.specs.Laws.{OneOutcome, PiecesCompose, PiecesPart}

-- the same is said, the same cause closes, and the same comes of the station
record SameStep (says others : List WireItem) (closes ends : Option Cause) (new other : Station) : Type 0 where
  said : says ≡ others
  closed : closes ≡ ends
  left : new ≡ other

same_by : (says others : List WireItem) (closes ends : Option Cause) (new other : Station) (all : List WireItem) (cause : Option Cause) (station : Station)
    → says ≡ all → others ≡ all → closes ≡ cause → ends ≡ cause → new ≡ station → other ≡ station → SameStep says others closes ends new other
same_by says others closes ends new other all cause station a b c d e f = record { said = a ∙ sym b; closed = c ∙ sym d; left = e ∙ sym f }

module _ (one_header : OneHeader) (fault_or_header : FaultIsNoHeader) (one_hearing : OneHearing) (one_delivery : OneDelivery) (wrong_is_final : WrongIsFinal) where
  one_record : (old : Station) (bytes : List ℕ) (says others : List WireItem) (closes ends : Option Cause) (new other : Station)
      → TakesRecord old bytes says closes new → TakesRecord old bytes others ends other → SameStep says others closes ends new other
  one_record old bytes says others closes ends new other (TakesRecord.no_header f has a b c) (TakesRecord.no_header g has' d e h) =
      record { said = a ∙ sym d; closed = b ∙ sym e; left = c ∙ sym h }
  one_record old bytes says others closes ends new other (TakesRecord.no_header f has a b c) (TakesRecord.dropped header body begins k d e h) =
      absurd (fault_or_header bytes f header body has begins)
  one_record old bytes says others closes ends new other (TakesRecord.no_header f has a b c) (TakesRecord.refused header body fault begins k bad d e h) =
      absurd (fault_or_header bytes f header body has begins)
  one_record old bytes says others closes ends new other (TakesRecord.no_header f has a b c) (TakesRecord.obeys header body command begins k good d e h) =
      absurd (fault_or_header bytes f header body has begins)
  one_record old bytes says others closes ends new other (TakesRecord.dropped header body begins k a b c) (TakesRecord.no_header f has d e h) =
      absurd (fault_or_header bytes f header body has begins)
  one_record old bytes says others closes ends new other (TakesRecord.dropped header body begins k a b c) (TakesRecord.dropped header' body' begins' k' d e h) =
      record { said = a ∙ sym d; closed = b ∙ sym e; left = c ∙ sym h }
  one_record old bytes says others closes ends new other (TakesRecord.dropped header body begins k a b c) (TakesRecord.refused header' body' fault begins' k' bad d e h) =
      absurd (k (ap (λ (h : Header). h.kind) (one_header bytes header header' body body' begins begins').0 ∙ k'))
  one_record old bytes says others closes ends new other (TakesRecord.dropped header body begins k a b c) (TakesRecord.obeys header' body' command begins' k' good d e h) =
      absurd (k (ap (λ (h : Header). h.kind) (one_header bytes header header' body body' begins begins').0 ∙ k'))
  one_record old bytes says others closes ends new other (TakesRecord.refused header body fault begins k bad a b c) (TakesRecord.no_header f has d e h) =
      absurd (fault_or_header bytes f header body has begins)
  one_record old bytes says others closes ends new other (TakesRecord.refused header body fault begins k bad a b c) (TakesRecord.dropped header' body' begins' k' d e h) =
      absurd (k' (ap (λ (h : Header). h.kind) (sym (one_header bytes header header' body body' begins begins').0) ∙ k))
  one_record old bytes says others closes ends new other (TakesRecord.refused header body fault begins k bad a b c) (TakesRecord.refused header' body' fault' begins' k' bad' d e h) =
      let both = one_header bytes header header' body body' begins begins' in
      let faults = one_command_fault old.screen.size (alternate_of old.screen.model) fault fault' body bad (subst (λ (b : List ℕ). SpellsNoCommand old fault' b) (sym both.1) bad') in
      record {
        said = a ∙ ap (λ (h : Header). refused_response h.flag h.seq (Refused (sense_of fault))) both.0 ∙ ap (λ (f : CommandFault). refused_response header'.flag header'.seq (Refused (sense_of f))) faults ∙ sym d;
        closed = b ∙ sym e;
        left = c ∙ sym h;
      }
  one_record old bytes says others closes ends new other (TakesRecord.refused header body fault begins k bad a b c) (TakesRecord.obeys header' body' command begins' k' good d e h) =
      let both = one_header bytes header header' body body' begins begins' in
      absurd (command_or_fault old.screen.size (alternate_of old.screen.model) command fault body (subst (λ (b : List ℕ). SpellsCommand old command b) (sym both.1) good) bad)
  one_record old bytes says others closes ends new other (TakesRecord.obeys header body command begins k right a b c) (TakesRecord.no_header f has d e h) =
      absurd (fault_or_header bytes f header body has begins)
  one_record old bytes says others closes ends new other (TakesRecord.obeys header body command begins k right a b c) (TakesRecord.dropped header' body' begins' k' d e h) =
      absurd (k' (ap (λ (h : Header). h.kind) (sym (one_header bytes header header' body body' begins begins').0) ∙ k))
  one_record old bytes says others closes ends new other (TakesRecord.obeys header body command begins k right a b c) (TakesRecord.refused header' body' fault begins' k' bad d e h) =
      let both = one_header bytes header header' body body' begins begins' in
      absurd (command_or_fault old.screen.size (alternate_of old.screen.model) command fault body right (subst (λ (b : List ℕ). SpellsNoCommand old fault b) (sym both.1) bad))
  one_record old bytes says others closes ends new other (TakesRecord.obeys header body command begins k right a b c) (TakesRecord.obeys header' body' command' begins' k' right' d e h) =
      let both = one_header bytes header header' body body' begins begins' in
      let commands = one_command old.screen.size (alternate_of old.screen.model) command command' body right (subst (λ (b : List ℕ). SpellsCommand old command' b) (sym both.1) right') in
      record {
        said = a ∙ ap (λ (h : Header). answer_of h command old) both.0 ∙ ap (λ (x : CommandParts). answer_of header' x old) commands ∙ sym d;
        closed = b ∙ sym e;
        left = c ∙ ap (λ (x : CommandParts). obeyed x old) commands ∙ sym h;
      }

  term_same : (a b : Term) → a.model ≡ b.model → a.wanted ≡ b.wanted → a.talk ≡ b.talk → a ≡ b
  term_same a b model wanted talk =
      ap (λ (m : Model). record { model = m; wanted = a.wanted; talk = a.talk }) model
      ∙ ap (λ (w : Option (List ℕ)). record { model = b.model; wanted = w; talk = a.talk }) wanted
      ∙ ap (λ (t : Talk TermState). record { model = b.model; wanted = b.wanted; talk = t }) talk

  one_reply : (talk after other : Term) (item : WireItem) (reply answer : Reply) → TermTakes talk item reply after → TermTakes talk item answer other
      → (after ≡ other) × (reply ≡ answer)
  one_reply talk after other item reply answer first second =
      let heard = one_hearing item first.comes second.comes first.hears second.hears in
      let both : (after.talk, reply) ≡ (other.talk, answer) =
      first.gives ∙ ap (λ comes. follow at.Closed talk.talk (term_transition talk.model talk.wanted talk.talk.state comes)) heard ∙ sym second.gives in
      (term_same after other (first.model ∙ sym second.model) (first.wanted ∙ sym second.wanted) (ap (λ (p : Talk TermState × Reply). p.0) both), ap (λ (p : Talk TermState × Reply). p.1) both)

  one_talk : (talk after other : Term) (old new new' : Station) (item : WireItem) (says others : List WireItem) (closes ends : Option Cause)
      → TalksOn talk old item says closes after new → TalksOn talk old item others ends other new'
      → SameStep says others closes ends new new' × (after ≡ other)
  one_talk talk after other old new new' item says others closes ends first second =
      let both = one_reply talk after other item first.0.reply second.0.reply first.0.takes second.0.takes in (
        record {
          said = first.0.sends ∙ ap items_sent both.1 ∙ sym second.0.sends;
          closed = first.0.ends ∙ ap closing both.1 ∙ sym second.0.ends;
          left = first.1 ∙ sym second.1;
        },
        both.0,
      )

  one_item : (state : TermState) (talk after other : Term) (old new new' : Station) (item : WireItem) (says others : List WireItem) (closes ends : Option Cause)
      → TakesItemIn state talk old item says closes after new → TakesItemIn state talk old item others ends other new'
      → SameStep says others closes ends new new' × (after ≡ other)
  one_item at.Waiting talk after other old new new' item says others closes ends first second = one_talk talk after other old new new' item says others closes ends first second
  one_item at.Willing talk after other old new new' item says others closes ends first second = one_talk talk after other old new new' item says others closes ends first second
  one_item at.TypeAsked talk after other old new new' item says others closes ends first second = one_talk talk after other old new new' item says others closes ends first second
  one_item (at.FunctionsAsked lu) talk after other old new new' item says others closes ends first second = one_talk talk after other old new new' item says others closes ends first second
  one_item (at.Refused reason) talk after other old new new' item says others closes ends first second = one_talk talk after other old new new' item says others closes ends first second
  one_item (at.Closed cause) talk after other old new new' item says others closes ends first second = one_talk talk after other old new new' item says others closes ends first second
  one_item (at.Agreed lu) talk after other old new new' (Record bytes) says others closes ends first second =
      (one_record old bytes says others closes ends new new' first.0 second.0, first.1 ∙ sym second.1)
  one_item (at.Agreed lu) talk after other old new new' (Opt verb code) says others closes ends first second = one_talk talk after other old new new' (Opt verb code) says others closes ends first second
  one_item (at.Agreed lu) talk after other old new new' (Sub bytes) says others closes ends first second = one_talk talk after other old new new' (Sub bytes) says others closes ends first second
  one_item (at.Agreed lu) talk after other old new new' (Other code) says others closes ends first second = one_talk talk after other old new new' (Other code) says others closes ends first second

  -- what a byte makes of a terminal that is attached, by what it completes
  same_attached : (link : Link) (rest rest' : Rest) (talk talk' : Term) → link ≡ Attached rest talk → link ≡ Attached rest' talk' → (rest ≡ rest') × (talk ≡ talk')
  same_attached link rest rest' talk talk' first second = (cc, cc)

  nothing_or_item : (item : WireItem) → [] ≡ item ∷ [] → ⊥
  nothing_or_item item e = cc

  same_head : (item other : WireItem) → item ∷ [] ≡ other ∷ [] → item ≡ other
  same_head item other e = cc

  read_or_wrong : (rest to : Rest) (byte : ℕ) (items : List WireItem) (fault : WireFault) → Delivers record_limit rest (byte ∷ []) items to → GoesWrong record_limit rest (byte ∷ []) fault → ⊥
  read_or_wrong rest to byte items fault delivers wrong = wrong_is_final record_limit rest (byte ∷ []) [] fault delivers.tokens to wrong delivers.reads delivers.is_rest

  one_byte : (old new other : Terminal) (byte : ℕ) → TakesByte old byte new → TakesByte old byte other → new ≡ other
  one_byte old new other byte (TakesByte.goes_on rest to talk e d n) (TakesByte.goes_on rest' to' talk' e' d' n') =
      let parts = same_attached old.link rest rest' talk talk' e e' in
      let same = one_delivery record_limit rest (byte ∷ []) [] [] to to' d (subst (λ (r : Rest). Delivers record_limit r (byte ∷ []) [] to') (sym parts.0) d') in
      n ∙ ap (λ (r : Rest). record { link = Attached r talk; station = before_byte old.station; out = old.out }) same.1
      ∙ ap (λ (t : Term). record { link = Attached to' t; station = before_byte old.station; out = old.out }) parts.1 ∙ sym n'
  one_byte old new other byte (TakesByte.goes_on rest to talk e d n) (TakesByte.completes rest' to' talk' after' item' says' closes' station' e' d' i' n') =
      let parts = same_attached old.link rest rest' talk talk' e e' in
      let same = one_delivery record_limit rest (byte ∷ []) [] (item' ∷ []) to to' d (subst (λ (r : Rest). Delivers record_limit r (byte ∷ []) (item' ∷ []) to') (sym parts.0) d') in
      absurd (nothing_or_item item' same.0)
  one_byte old new other byte (TakesByte.goes_on rest to talk e d n) (TakesByte.breaks rest' talk' fault' e' w' n') =
      let parts = same_attached old.link rest rest' talk talk' e e' in
      absurd (read_or_wrong rest' to byte [] fault' (subst (λ (r : Rest). Delivers record_limit r (byte ∷ []) [] to) parts.0 d) w')
  one_byte old new other byte (TakesByte.completes rest to talk after item says closes station e d i n) (TakesByte.goes_on rest' to' talk' e' d' n') =
      let parts = same_attached old.link rest rest' talk talk' e e' in
      let same = one_delivery record_limit rest (byte ∷ []) [] (item ∷ []) to' to (subst (λ (r : Rest). Delivers record_limit r (byte ∷ []) [] to') (sym parts.0) d') d in
      absurd (nothing_or_item item same.0)
  one_byte old new other byte (TakesByte.completes rest to talk after item says closes station e d i n) (TakesByte.completes rest' to' talk' after' item' says' closes' station' e' d' i' n') =
      let parts = same_attached old.link rest rest' talk talk' e e' in
      let same = one_delivery record_limit rest (byte ∷ []) (item ∷ []) (item' ∷ []) to to' d (subst (λ (r : Rest). Delivers record_limit r (byte ∷ []) (item' ∷ []) to') (sym parts.0) d') in
      let items = same_head item item' same.0 in
      let taken : TakesItem talk (before_byte old.station) item says' closes' after' station' =
      subst (λ (x : WireItem). TakesItem talk (before_byte old.station) x says' closes' after' station') (sym items)
      (subst (λ (t : Term). TakesItem t (before_byte old.station) item' says' closes' after' station') (sym parts.1) i') in
      let step = one_item talk.talk.state talk after after' (before_byte old.station) station station' item says says' closes closes' i taken in
      n ∙ ap (λ (r : Rest). record { link = link_after r after closes; station = station; out = old.out ++ sent_bytes says }) same.1
      ∙ ap (λ (t : Term). record { link = link_after to' t closes; station = station; out = old.out ++ sent_bytes says }) step.1
      ∙ ap (λ (x : Option Cause). record { link = link_after to' after' x; station = station; out = old.out ++ sent_bytes says }) step.0.closed
      ∙ ap (λ (s : Station). record { link = link_after to' after' closes'; station = s; out = old.out ++ sent_bytes says }) step.0.left
      ∙ ap (λ (x : List WireItem). record { link = link_after to' after' closes'; station = station'; out = old.out ++ sent_bytes x }) step.0.said
      ∙ sym n'
  one_byte old new other byte (TakesByte.completes rest to talk after item says closes station e d i n) (TakesByte.breaks rest' talk' fault' e' w' n') =
      let parts = same_attached old.link rest rest' talk talk' e e' in
      absurd (read_or_wrong rest' to byte (item ∷ []) fault' (subst (λ (r : Rest). Delivers record_limit r (byte ∷ []) (item ∷ []) to) parts.0 d) w')
  one_byte old new other byte (TakesByte.breaks rest talk fault e w n) (TakesByte.goes_on rest' to' talk' e' d' n') =
      let parts = same_attached old.link rest rest' talk talk' e e' in
      absurd (read_or_wrong rest to' byte [] fault (subst (λ (r : Rest). Delivers record_limit r (byte ∷ []) [] to') (sym parts.0) d') w)
  one_byte old new other byte (TakesByte.breaks rest talk fault e w n) (TakesByte.completes rest' to' talk' after' item' says' closes' station' e' d' i' n') =
      let parts = same_attached old.link rest rest' talk talk' e e' in
      absurd (read_or_wrong rest to' byte (item' ∷ []) fault (subst (λ (r : Rest). Delivers record_limit r (byte ∷ []) (item' ∷ []) to') (sym parts.0) d') w)
  one_byte old new other byte (TakesByte.breaks rest talk fault e w n) (TakesByte.breaks rest' talk' fault' e' w' n') = n ∙ sym n'

  pub one_outcome : OneOutcome
  one_outcome old new other [] first second = first ∙ sym second
  one_outcome old new other (byte ∷ bytes) first second =
      let same = one_byte old first.0 second.0 byte first.1 second.1 in
      one_outcome first.0 new other bytes first.2 (subst (λ (mid : Terminal). TakesBytes mid bytes other) (sym same) second.2)

pub pieces_compose : PiecesCompose
pieces_compose old mid new [] second begun more = subst (λ (from : Terminal). TakesBytes from second new) begun more
pieces_compose old mid new (byte ∷ first) second begun more = (begun.0, begun.1, pieces_compose begun.0 mid new first second begun.2 more)

pub pieces_part : PiecesPart
pieces_part old new [] second taken = (old, refl, taken)
pieces_part old new (byte ∷ first) second taken =
    let behind = pieces_part taken.0 new first second taken.2 in
    (behind.0, (taken.0, taken.1, behind.1), behind.2)
