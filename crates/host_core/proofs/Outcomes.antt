-- What a record, an item, a byte and bytes make of a host is determined.
use Rattle.std.proofs.Common.{◌≡◌, ℕ, Bool, true, false, List, [], ◌∷◌, sym, ◌∙◌, ap, subst, refl, Ok}
use Rattle.datastream.proofs.InboundData.{first_inbound_fault}
use Rattle.codes3270.specs.Size.{ScreenSize}
use Rattle.datastream.specs.InboundText.{InboundParts, IsInbound, IsNoInbound}
use Rattle.datastream.specs.Laws.{OneInbound}
use Rattle.datastream.specs.declared.inbound_part.Form.{Form}
use Rattle.datastream.specs.declared.inbound_part.Form.TheVariants.{Modified}
use Rattle.datastream.specs.declared.inbound_part.InboundFault.{InboundFault}
use Rattle.lu_pool.specs.Asking.{answer_to}
use Rattle.telnet_wire.specs.Items.{WireItem, Record, Opt, Sub, Other}
use Rattle.telnet_wire.specs.Laws.{OneDelivery, WrongIsFinal}
use Rattle.telnet_wire.specs.Reading.{Rest, Delivers, GoesWrong}
use Rattle.telnet_wire.specs.declared.wire.WireFault.{WireFault}
use Rattle.tn3270e_msg.specs.Header.{Begins, record_limit}
use Rattle.tn3270e_msg.specs.Laws.{FaultIsNoHeader, OneHeader, OneHearing}
use Rattle.tn3270e_msg.specs.Talk.{Comes}
use Rattle.tn3270e_msg.specs.declared.header.DataType.{DataType}
use Rattle.tn3270e_msg.specs.declared.header.DataType.TheVariants.{Data3270, Response}
use Rattle.tn3270e_msg.specs.declared.header.Header.{Header}
use Rattle.host_core.specs.Bytes.{ConnectionAndPool, TakesByte, TakesBytes, stepped}
use Rattle.host_core.specs.Items.{is_other_key, is_replacing, plain_data, IsNoSecondKey, IsOther, TakesAnyData, TakesData, TakesItem, TakesRecord, TakesRecordIf, Talks, may_be_second_key, second_key_size, verdict_of, with_replaced}
use Rattle.host_core.specs.Machine.{OneOutcome, PiecesCompose, PiecesPart}
use Rattle.host_core.specs.Session.{Session, is_agreed}
use Rattle.host_core.specs.State.{Service}
use Rattle.host_core.specs.Takes.{Answers, HostStep, data_came, form_awaited, response_came, second_key, talked}

-- ---- a record

no_other_data : (kind : DataType) → IsOther kind → kind ≡ Data3270 → ⊥
no_other_data kind other is = subst IsOther is other

no_other_response : (kind : DataType) → IsOther kind → kind ≡ Response → ⊥
no_other_response kind other is = subst IsOther is other

data_or_response : (kind : DataType) → kind ≡ Data3270 → kind ≡ Response → ⊥
data_or_response kind data_is response_is = cc

inbound_or_fault : (size : ScreenSize) (form : Form) (parts : InboundParts) (fault : InboundFault) (bytes : List ℕ) → parts.form ≡ form → parts.size ≡ size → IsInbound parts bytes → IsNoInbound size form fault bytes → ⊥
inbound_or_fault size form parts fault bytes read sized is wrong = let both = first_inbound_fault form size (Ok parts) bytes (read, sized, is) fault wrong in cc

key_or_none : (size : ScreenSize) (may : Bool) (parts : InboundParts) (body : List ℕ) → may ≡ true → parts.form ≡ Modified → parts.size ≡ size → IsInbound parts body → IsNoSecondKey may size body → ⊥
key_or_none size true parts body may read sized is none = inbound_or_fault size Modified parts none.0 body read sized is none.1
key_or_none size false parts body may read sized is none = cc

module _ (one_header : OneHeader) (fault_or_header : FaultIsNoHeader) (one_hearing : OneHearing) (one_inbound : OneInbound) (one_delivery : OneDelivery) (wrong_is_final : WrongIsFinal) where
  same_kind : (bytes : List ℕ) (header other : Header) (body rest : List ℕ) → Begins bytes header body → Begins bytes other rest → header.kind ≡ other.kind
  same_kind bytes header other body rest first second = ap (λ (h : Header). h.kind) (one_header bytes header other body rest first second).0

  same_body : (bytes : List ℕ) (header other : Header) (body rest : List ℕ) → Begins bytes header body → Begins bytes other rest → body ≡ rest
  same_body bytes header other body rest first second = (one_header bytes header other body rest first second).1

  one_data : (conn : Session) (body : List ℕ) (step other : HostStep) → TakesData conn body step → TakesData conn body other → step ≡ other
  one_data conn body step other (TakesData.hears parts1 form1 size1 is1 e1) (TakesData.hears parts2 form2 size2 is2 e2) =
      e1 ∙ ap (λ (parts : InboundParts). data_came parts conn.turn conn.pending conn) (one_inbound body parts1 parts2 (form1 ∙ sym form2) (size1 ∙ sym size2) is1 is2) ∙ sym e2
  one_data conn body step other (TakesData.hears parts1 form1 size1 is1 e1) (TakesData.is_second_key fault2 parts2 wrong2 may2 form2 size2 is2 e2) =
      absurd (inbound_or_fault conn.size (form_awaited conn.pending) parts1 fault2 body form1 size1 is1 wrong2)
  one_data conn body step other (TakesData.hears parts1 form1 size1 is1 e1) (TakesData.no_data fault2 wrong2 no_key2 e2) =
      absurd (inbound_or_fault conn.size (form_awaited conn.pending) parts1 fault2 body form1 size1 is1 wrong2)
  one_data conn body step other (TakesData.is_second_key fault1 parts1 wrong1 may1 form1 size1 is1 e1) (TakesData.hears parts2 form2 size2 is2 e2) =
      absurd (inbound_or_fault conn.size (form_awaited conn.pending) parts2 fault1 body form2 size2 is2 wrong1)
  one_data conn body step other (TakesData.is_second_key fault1 parts1 wrong1 may1 form1 size1 is1 e1) (TakesData.is_second_key fault2 parts2 wrong2 may2 form2 size2 is2 e2) =
      e1 ∙ ap (λ (parts : InboundParts). second_key parts parts.aid conn.pending conn) (one_inbound body parts1 parts2 (form1 ∙ sym form2) (size1 ∙ sym size2) is1 is2) ∙ sym e2
  one_data conn body step other (TakesData.is_second_key fault1 parts1 wrong1 may1 form1 size1 is1 e1) (TakesData.no_data fault2 wrong2 no_key2 e2) =
      absurd (key_or_none (second_key_size conn conn.pending) (may_be_second_key conn) parts1 body may1 form1 size1 is1 no_key2)
  one_data conn body step other (TakesData.no_data fault1 wrong1 no_key1 e1) (TakesData.hears parts2 form2 size2 is2 e2) =
      absurd (inbound_or_fault conn.size (form_awaited conn.pending) parts2 fault1 body form2 size2 is2 wrong1)
  one_data conn body step other (TakesData.no_data fault1 wrong1 no_key1 e1) (TakesData.is_second_key fault2 parts2 wrong2 may2 form2 size2 is2 e2) =
      absurd (key_or_none (second_key_size conn conn.pending) (may_be_second_key conn) parts2 body may2 form2 size2 is2 no_key1)
  one_data conn body step other (TakesData.no_data fault1 wrong1 no_key1 e1) (TakesData.no_data fault2 wrong2 no_key2 e2) =
      e1 ∙ sym e2

  one_any_data : (other_key : Bool) (conn : Session) (body : List ℕ) (step other : HostStep) → TakesAnyData other_key conn body step → TakesAnyData other_key conn body other → step ≡ other
  one_any_data true conn body step other is1 is2 = is1 ∙ sym is2
  one_any_data false conn body step other takes1 takes2 =
      takes1.2 ∙ ap (with_replaced (is_replacing conn body)) (one_data conn (plain_data conn body) takes1.0 takes2.0 takes1.1 takes2.1) ∙ sym takes2.2

  one_record : (conn : Session) (bytes : List ℕ) (step other : HostStep) → TakesRecord conn bytes step → TakesRecord conn bytes other → step ≡ other
  one_record conn bytes step other (TakesRecord.no_header fault1 has1 e1) (TakesRecord.no_header fault2 has2 e2) =
      e1 ∙ sym e2
  one_record conn bytes step other (TakesRecord.no_header fault1 has1 e1) (TakesRecord.dropped header2 body2 begins2 kind2 e2) =
      absurd (fault_or_header bytes fault1 header2 body2 has1 begins2)
  one_record conn bytes step other (TakesRecord.no_header fault1 has1 e1) (TakesRecord.answered header2 body2 begins2 kind2 e2) =
      absurd (fault_or_header bytes fault1 header2 body2 has1 begins2)
  one_record conn bytes step other (TakesRecord.dropped header1 body1 begins1 kind1 e1) (TakesRecord.no_header fault2 has2 e2) =
      absurd (fault_or_header bytes fault2 header1 body1 has2 begins1)
  one_record conn bytes step other (TakesRecord.dropped header1 body1 begins1 kind1 e1) (TakesRecord.dropped header2 body2 begins2 kind2 e2) =
      e1 ∙ sym e2
  one_record conn bytes step other (TakesRecord.dropped header1 body1 begins1 kind1 e1) (TakesRecord.answered header2 body2 begins2 kind2 e2) =
      absurd (no_other_response header1.kind kind1 ((same_kind bytes header1 header2 body1 body2 begins1 begins2) ∙ kind2))
  one_record conn bytes step other (TakesRecord.answered header1 body1 begins1 kind1 e1) (TakesRecord.no_header fault2 has2 e2) =
      absurd (fault_or_header bytes fault2 header1 body1 has2 begins1)
  one_record conn bytes step other (TakesRecord.answered header1 body1 begins1 kind1 e1) (TakesRecord.dropped header2 body2 begins2 kind2 e2) =
      absurd (no_other_response header2.kind kind2 (sym (same_kind bytes header1 header2 body1 body2 begins1 begins2) ∙ kind1))
  one_record conn bytes step other (TakesRecord.answered header1 body1 begins1 kind1 e1) (TakesRecord.answered header2 body2 begins2 kind2 e2) =
      e1 ∙ ap (λ (h : Header). response_came h.seq (verdict_of h.flag) conn.pending conn) (one_header bytes header1 header2 body1 body2 begins1 begins2).0 ∙ sym e2
  one_record conn bytes step other (TakesRecord.no_header fault1 has1 e1) (TakesRecord.data_is header2 body2 begins2 kind2 takes2) =
      absurd (fault_or_header bytes fault1 header2 body2 has1 begins2)
  one_record conn bytes step other (TakesRecord.data_is header1 body1 begins1 kind1 takes1) (TakesRecord.no_header fault2 has2 e2) =
      absurd (fault_or_header bytes fault2 header1 body1 has2 begins1)
  one_record conn bytes step other (TakesRecord.dropped header1 body1 begins1 kind1 e1) (TakesRecord.data_is header2 body2 begins2 kind2 takes2) =
      absurd (no_other_data header1.kind kind1 ((same_kind bytes header1 header2 body1 body2 begins1 begins2) ∙ kind2))
  one_record conn bytes step other (TakesRecord.data_is header1 body1 begins1 kind1 takes1) (TakesRecord.dropped header2 body2 begins2 kind2 e2) =
      absurd (no_other_data header2.kind kind2 (sym (same_kind bytes header1 header2 body1 body2 begins1 begins2) ∙ kind1))
  one_record conn bytes step other (TakesRecord.data_is header1 body1 begins1 kind1 takes1) (TakesRecord.data_is header2 body2 begins2 kind2 takes2) =
      one_any_data (is_other_key conn body1) conn body1 step other takes1
      (subst (λ (b : List ℕ). TakesAnyData (is_other_key conn b) conn b other) (sym (same_body bytes header1 header2 body1 body2 begins1 begins2)) takes2)
  one_record conn bytes step other (TakesRecord.data_is header1 body1 begins1 kind1 takes1) (TakesRecord.answered header2 body2 begins2 kind2 e2) =
      absurd (data_or_response header1.kind kind1 ((same_kind bytes header1 header2 body1 body2 begins1 begins2) ∙ kind2))
  one_record conn bytes step other (TakesRecord.answered header1 body1 begins1 kind1 e1) (TakesRecord.data_is header2 body2 begins2 kind2 takes2) =
      absurd (data_or_response header1.kind ((same_kind bytes header1 header2 body1 body2 begins1 begins2) ∙ kind2) kind1)

  -- ---- an item

  one_record_if : (agreed : Bool) (conn : Session) (bytes : List ℕ) (step other : HostStep) → TakesRecordIf agreed conn bytes step → TakesRecordIf agreed conn bytes other → step ≡ other
  one_record_if true conn bytes step other first second = one_record conn bytes step other first second
  one_record_if false conn bytes step other first second = first ∙ sym second

  one_talk : (pool : Answers) (conn : Session) (item : WireItem) (step other : HostStep) → Talks pool conn item step → Talks pool conn item other → step ≡ other
  one_talk pool conn item step other first second =
      first.2 ∙ ap (λ (comes : Comes). talked pool conn conn.talk comes) (one_hearing item first.0 second.0 first.1 second.1) ∙ sym second.2

  one_item : (pool : Answers) (conn : Session) (item : WireItem) (step other : HostStep) → TakesItem pool conn item step → TakesItem pool conn item other → step ≡ other
  one_item pool conn (Record bytes) step other first second = one_record_if (is_agreed conn.talk.state) conn bytes step other first second
  one_item pool conn (Opt verb code) step other first second = one_talk pool conn (Opt verb code) step other first second
  one_item pool conn (Sub bytes) step other first second = one_talk pool conn (Sub bytes) step other first second
  one_item pool conn (Other code) step other first second = one_talk pool conn (Other code) step other first second

  -- ---- a byte

  same_open : (service : Service) (rest rest' : Rest) (conn conn' : Session) → service ≡ Service.Open rest conn → service ≡ Service.Open rest' conn' → (rest ≡ rest') × (conn ≡ conn')
  same_open service rest rest' conn conn' first second = (cc, cc)

  nothing_or_item : (item : WireItem) → [] ≡ item ∷ [] → ⊥
  nothing_or_item item e = cc

  same_head : (item other : WireItem) → item ∷ [] ≡ other ∷ [] → item ≡ other
  same_head item other e = cc

  read_or_wrong : (rest to : Rest) (byte : ℕ) (items : List WireItem) (fault : WireFault) → Delivers record_limit rest (byte ∷ []) items to → GoesWrong record_limit rest (byte ∷ []) fault → ⊥
  read_or_wrong rest to byte items fault delivers wrong = wrong_is_final record_limit rest (byte ∷ []) [] fault delivers.tokens to wrong delivers.reads delivers.is_rest

  -- both deliver from what is left of the stream
  from_same : (rest rest' to : Rest) (byte : ℕ) (items : List WireItem) → rest ≡ rest' → Delivers record_limit rest' (byte ∷ []) items to → Delivers record_limit rest (byte ∷ []) items to
  from_same rest rest' to byte items same delivers = subst (λ (r : Rest). Delivers record_limit r (byte ∷ []) items to) (sym same) delivers

  one_byte : (number : ℕ) (old new other : ConnectionAndPool) (byte : ℕ) → TakesByte number old byte new → TakesByte number old byte other → new ≡ other
  one_byte number old new other byte (TakesByte.goes_on rest to conn e d n) (TakesByte.goes_on rest' to' conn' e' d' n') =
      let parts = same_open old.connection.service rest rest' conn conn' e e' in
      let same = one_delivery record_limit rest (byte ∷ []) [] [] to to' d (from_same rest rest' to' byte [] parts.0 d') in
      n ∙ ap (λ (r : Rest). record { pool = old.pool; connection = record old.connection { service = Service.Open r conn } }) same.1
      ∙ ap (λ (c : Session). record { pool = old.pool; connection = record old.connection { service = Service.Open to' c } }) parts.1 ∙ sym n'
  one_byte number old new other byte (TakesByte.goes_on rest to conn e d n) (TakesByte.completes rest' to' conn' item' step' e' d' i' n') =
      let parts = same_open old.connection.service rest rest' conn conn' e e' in
      absurd (nothing_or_item item' (one_delivery record_limit rest (byte ∷ []) [] (item' ∷ []) to to' d (from_same rest rest' to' byte (item' ∷ []) parts.0 d')).0)
  one_byte number old new other byte (TakesByte.goes_on rest to conn e d n) (TakesByte.breaks rest' conn' fault' e' w' n') =
      let parts = same_open old.connection.service rest rest' conn conn' e e' in
      absurd (read_or_wrong rest' to byte [] fault' (from_same rest' rest to byte [] (sym parts.0) d) w')
  one_byte number old new other byte (TakesByte.completes rest to conn item step e d i n) (TakesByte.goes_on rest' to' conn' e' d' n') =
      let parts = same_open old.connection.service rest rest' conn conn' e e' in
      absurd (nothing_or_item item (one_delivery record_limit rest (byte ∷ []) [] (item ∷ []) to' to (from_same rest rest' to' byte [] parts.0 d') d).0)
  one_byte number old new other byte (TakesByte.completes rest to conn item step e d i n) (TakesByte.completes rest' to' conn' item' step' e' d' i' n') =
      let parts = same_open old.connection.service rest rest' conn conn' e e' in
      let same = one_delivery record_limit rest (byte ∷ []) (item ∷ []) (item' ∷ []) to to' d (from_same rest rest' to' byte (item' ∷ []) parts.0 d') in
      let taken : TakesItem (answer_to old.pool) conn item step' =
      subst (λ (x : WireItem). TakesItem (answer_to old.pool) conn x step') (sym (same_head item item' same.0))
      (subst (λ (c : Session). TakesItem (answer_to old.pool) c item' step') (sym parts.1) i') in
      n ∙ ap (λ (r : Rest). stepped number r step old) same.1 ∙ ap (λ (s : HostStep). stepped number to' s old) (one_item (answer_to old.pool) conn item step step' i taken) ∙ sym n'
  one_byte number old new other byte (TakesByte.completes rest to conn item step e d i n) (TakesByte.breaks rest' conn' fault' e' w' n') =
      let parts = same_open old.connection.service rest rest' conn conn' e e' in
      absurd (read_or_wrong rest' to byte (item ∷ []) fault' (from_same rest' rest to byte (item ∷ []) (sym parts.0) d) w')
  one_byte number old new other byte (TakesByte.breaks rest conn fault e w n) (TakesByte.goes_on rest' to' conn' e' d' n') =
      let parts = same_open old.connection.service rest rest' conn conn' e e' in
      absurd (read_or_wrong rest to' byte [] fault (from_same rest rest' to' byte [] parts.0 d') w)
  one_byte number old new other byte (TakesByte.breaks rest conn fault e w n) (TakesByte.completes rest' to' conn' item' step' e' d' i' n') =
      let parts = same_open old.connection.service rest rest' conn conn' e e' in
      absurd (read_or_wrong rest to' byte (item' ∷ []) fault (from_same rest rest' to' byte (item' ∷ []) parts.0 d') w)
  one_byte number old new other byte (TakesByte.breaks rest conn fault e w n) (TakesByte.breaks rest' conn' fault' e' w' n') = n ∙ sym n'

  pub one_outcome : OneOutcome
  one_outcome number old new other [] first second = first ∙ sym second
  one_outcome number old new other (byte ∷ bytes) first second =
      let same = one_byte number old first.0 second.0 byte first.1 second.1 in
      one_outcome number first.0 new other bytes first.2 (subst (λ (mid : ConnectionAndPool). TakesBytes number mid bytes other) (sym same) second.2)

-- ---- bytes

pub pieces_compose : PiecesCompose
pieces_compose number old mid new [] second begun more = subst (λ (from : ConnectionAndPool). TakesBytes number from second new) begun more
pieces_compose number old mid new (byte ∷ first) second begun more = (begun.0, begun.1, pieces_compose number begun.0 mid new first second begun.2 more)

pub pieces_part : PiecesPart
pieces_part number old new [] second taken = (old, refl, taken)
pieces_part number old new (byte ∷ first) second taken =
    let behind = pieces_part number taken.0 new first second taken.2 in
    (behind.0, (taken.0, taken.1, behind.1), behind.2)
