-- What a host does in its turn (our profile).
use Rattle.std.specs.Prelude.{◌==◌, ◌-◌, ◌&&◌, ◌||◌, not, codes, ℕ, Bool, true, false, List, [], ◌∷◌, Option, Some, None, option_and_then, unwrap_or, if◌then◌else◌}
use Rattle.std.specs.List.{list_any, list_all}
use Rattle.std.specs.Option.{option_map_or}
use Rattle.codes3270.specs.declared.attention.Aid.{Aid}
use Rattle.codes3270.specs.declared.attention.Aid.TheVariants.{NoAid, Enter, Clear, Pa}
use Rattle.codes3270.specs.Size.{cells_in}
use Rattle.datastream.specs.Wanted.{WantedScreen}
use Rattle.shadow.specs.Queries.{field_at}
use Rattle.shadow.specs.Belief.{Belief, Shadow}
use Rattle.shadow.specs.Doubt.{doubted}
use Rattle.shadow.specs.Fits.{fits}
use Rattle.shadow.specs.Meets.{told}
use Rattle.shadow.specs.Paint.{paint}
pub use Rattle.shadow.specs.Settled.{is_settled_fact}
use Rattle.panels.specs.declared.panel.Field.{Field}
use Rattle.panels.specs.MessageText.{message_of}
use Rattle.panels.specs.declared.message.Message.{Message}
use Rattle.panels.specs.declared.message.Message.TheVariants.{Fresh, Plain, KeyNotActive, Required, Told}
use Rattle.panels.specs.declared.next.Next.{Next}
use Rattle.panels.specs.declared.next.Next.TheVariants.{Go, Ask, Again}
use Rattle.panels.specs.Screen.{Values, is_fresh}
use Rattle.panels.specs.Values.{set_if, value_of, without_values}
use Rattle.tn3270e_msg.specs.Header.{next_number}
use Rattle.host_core.specs.Application.{Application}
use Rattle.host_core.specs.Messages.{ToTerminal}
use Rattle.host_core.specs.declared.turn.Turn.{Turn}
use Rattle.host_core.specs.declared.turn.Turn.TheVariants as whose
use Rattle.host_core.specs.declared.turn_reason.TurnReason.{TurnReason}
use Rattle.host_core.specs.declared.turn_reason.TurnReason.TheVariants as turn_reasons
use Rattle.host_core.specs.declared.unheard.Unheard.{Unheard}
use Rattle.host_core.specs.declared.unheard.Unheard.TheVariants as unheards
use Rattle.host_core.specs.Session.{Session, Pending, is_agreed, model_in}
pub use Rattle.host_core.specs.Takes.{unheard_next}
use Rattle.host_core.specs.Takes.{is_verified, may_have_changed}

-- what the host may do in its turn: send Read Buffer, or show a panel, in the form for the terminal's model, with a
-- message and these values; with `keep`, fields keep what the operator left in them, if the host may keep fields
pub data Act : Type 0 where
  Read : Act
  Show : (panel : ℕ) → Message → (keep : Bool) → Values → Act

-- what the host decides in its turn: an act, or to ask the application, and then to wait for its answer
pub data Decision : Type 0 where
  Do : Act → Decision
  Asks : Decision

-- ---- what is known of the panel's fields

-- what the host believes of a panel's field
abbrev pub belief_of : Shadow → Field → Option Belief
belief_of shadow field = field_at (field.extent.first - 1) shadow

-- the text of the field isn't known
abbrev pub is_in_doubt : Shadow → Field → Bool
is_in_doubt shadow field = not (option_map_or (λ belief. is_settled_fact belief.fact) (belief_of shadow field) false)

-- the host must read the screen before it answers this key: after PA and keys without a meaning, if some field of the
-- panel is in doubt, or if the host verifies that the terminal keeps the rules
abbrev pub is_to_be_read : Application → Session → Aid → Bool
is_to_be_read app conn NoAid = true
is_to_be_read app conn (Pa key) = true
is_to_be_read app conn aid = is_verified conn || list_any (is_in_doubt conn.shadow) (app.fields conn.panel)

-- the text of a field, without nulls, if it is known
abbrev pub text_known : Shadow → Field → Option (List ℕ)
text_known shadow field = option_and_then (λ belief. told belief.fact) (belief_of shadow field)

-- the values of fields, after the known texts are set
abbrev pub learned : Shadow → List Field → Values → Values
learned shadow [] values = values
learned shadow (field ∷ fields) values = learned shadow fields (set_if field.number (text_known shadow field) values)

-- the value has blanks only, or is empty
abbrev pub is_blank : List ℕ → Bool
is_blank value = list_all (λ byte. byte == 0x40) value

-- the field is required and isn't filled in
abbrev pub is_missing : Values → Field → Bool
is_missing values field = field.required && is_blank (unwrap_or (value_of values field.number) [])

-- the number of the first required field that isn't filled in
abbrev pub first_missing : Values → List Field → Option ℕ
first_missing values [] = None
first_missing values (field ∷ fields) = if is_missing values field then Some field.number
    else first_missing values fields

-- ---- the rules

-- the given decision, or the same panel again, with a message for the required field that isn't filled in
abbrev pub check_required : ℕ → Decision → Values → Option ℕ → Decision
check_required panel decision values None = decision
check_required panel decision values (Some field) = Decision.Do (Act.Show panel (Required field) true values)

-- the given decision; but after Enter, if a required field isn't filled in, the same panel again
abbrev pub once_filled_in : Application → Session → Decision → Values → Aid → Decision
once_filled_in app conn decision values Enter = check_required conn.panel decision values
    (first_missing values (app.fields conn.panel))
once_filled_in app conn decision values _ = decision

-- the decision for a key that leads to this: show its target fresh, or ask the application; else the key isn't active
abbrev pub on_key : Application → Session → Values → Aid → Next → Decision
on_key app conn values aid Again = Decision.Do (Act.Show conn.panel KeyNotActive true values)
on_key app conn values aid (Go target) =
    once_filled_in app conn (Decision.Do (Act.Show target Fresh false values)) values aid
on_key app conn values aid Ask = once_filled_in app conn Decision.Asks values aid

-- the first panel, in the form for the terminal's model
abbrev pub first_panel : Application → Session → ℕ
first_panel app conn = app.shown (model_in conn) app.start

-- The decision while no panel is on the screen, after agreement or Clear: this panel, or the one to which that leads,
-- is shown fresh; or the application is asked.
abbrev pub on_empty : ℕ → Values → Next → Decision
on_empty panel values Again = Decision.Do (Act.Show panel Fresh false values)
on_empty panel values (Go target) = Decision.Do (Act.Show target Fresh false values)
on_empty panel values Ask = Decision.Asks

-- the message that a panel is shown again with after a refusal
abbrev pub repeated : Message → Message
repeated Fresh = Plain
repeated Plain = Plain
repeated KeyNotActive = KeyNotActive
repeated (Required field) = Required field
repeated (Told text field) = Told text field

-- the message of a panel that is shown again since the data of a key couldn't be believed
abbrev pub screen_restored : Message
screen_restored = Told (record { characters = message_of (codes "SCREEN RESTORED") }) None

-- where a key leads from a panel; one without a meaning leads nowhere
abbrev pub next_after : Application → ℕ → Aid → Next
next_after app panel NoAid = Again
next_after app panel aid = app.next panel aid

-- the decision after a key; the flag says whether the screen was read since
abbrev pub after_key : Application → Session → Aid → Bool → Decision
after_key app conn Clear buffered = on_empty conn.panel conn.values (app.next conn.panel Clear)
after_key app conn aid buffered =
    if is_to_be_read app conn aid && not buffered then Decision.Do Act.Read
    else on_key app conn (learned conn.shadow (app.fields conn.panel) conn.values) aid (next_after app conn.panel aid)

-- The decision by the reason for the turn. After agreement the first panel is shown, or the application is asked, if
-- the panel asks it at connect. After a refusal, and to restore the screen, the same panel is shown, whole.
abbrev pub decision_on : Application → Session → TurnReason → Decision
decision_on app conn turn_reasons.Agreement =
    on_empty app.start conn.values (app.next (first_panel app conn) NoAid)
decision_on app conn (turn_reasons.Key aid buffered) = after_key app conn aid buffered
decision_on app conn turn_reasons.Refusal = Decision.Do (Act.Show conn.panel (repeated conn.message) false conn.values)
decision_on app conn turn_reasons.Restoration = Decision.Do (Act.Show conn.panel screen_restored false conn.values)

-- ---- what is believed when a panel is shown

-- what the host still believes: no input that may have changed unheard, and nothing if the screen was cleared
abbrev pub known_despite : Unheard → Shadow → Shadow
known_despite unheards.Nothing shadow = shadow
known_despite unheards.Input shadow = doubted shadow
known_despite unheards.Clear shadow = Shadow.NothingKnown

-- The connection when a panel is shown on it: the paint, and the fields that it keeps, are over this belief. What the
-- host decides, asks and learns is by the belief before.
abbrev pub when_shown : Session → Session
when_shown conn = record conn { shadow = known_despite conn.unheard conn.shadow; unheard = unheard_next conn.unheard }

-- ---- what is sent

-- Fields may be kept if the wanted screen fits what is believed. A host that doesn't rely on the wait keeps none: what
-- was typed in the wait is gone from each panel that it shows.
abbrev pub may_keep : Session → WantedScreen → Bool
may_keep conn kept = not (may_have_changed conn.unheard) && fits conn.shadow kept

-- the wanted screen: the one that keeps fields if it may, else a whole one
abbrev pub wanted_if : Application → Session → ℕ → Message → Values → WantedScreen → WantedScreen
wanted_if app conn panel message values kept = if may_keep conn kept then kept
    else app.screen panel values message false

-- the wanted screen, with the flag for fields that are kept
abbrev pub wanted_by : Application → Session → ℕ → Message → Bool → Values → WantedScreen
wanted_by app conn panel message true values =
    wanted_if app conn panel message values (app.screen panel values message true)
wanted_by app conn panel message false values = app.screen panel values message false

-- what a host sends in its turn, and the connection after it
pub record Sent : Type 0 where
  pub conn : Session
  pub message : ToTerminal

-- the values with which a panel is shown: a fresh one has none of its own values
abbrev pub values_shown : Application → ℕ → Message → Values → Values
values_shown app panel message values = if is_fresh message then without_values (app.values panel) values else values

-- A panel is painted over what is believed, and the belief stays until the paint is answered. The connection's size
-- changes when the paint is sent: the paint is an erase unless the belief has that size.
abbrev pub painted : Application → Session → ℕ → Message → Bool → Values → Sent
painted app conn panel message keep values =
    let shown = app.shown (model_in conn) panel in
    let left = values_shown app shown message values in
    let wanted = wanted_by app conn shown message keep left in
    record {
      conn = record conn {
        size = wanted.size;
        turn = whose.Terminal;
        pending = Pending.Writing conn.next_seq (paint (cells_in wanted.size) conn.shadow wanted);
        next_seq = next_number conn.next_seq;
        panel = shown;
        message = message;
        values = left;
      };
      message = ToTerminal.Paint conn.next_seq wanted conn.shadow;
    }

-- what an act sends, and the connection after it
abbrev pub done : Application → Session → Act → Sent
done app conn Act.Read = record {
  conn = record conn { pending = Pending.Reading conn.next_seq; next_seq = next_number conn.next_seq };
  message = ToTerminal.ReadBuffer conn.next_seq;
}
done app conn (Act.Show panel message keep values) = painted app (when_shown conn) panel message keep values

-- the host may act: it is its turn, no command waits for its answer, and the ends agreed
abbrev pub may_act : Turn → Pending → Bool → Bool
may_act whose.Host Pending.Nothing agreed = agreed
may_act whose.Host (Pending.Writing number command) agreed = false
may_act whose.Host (Pending.Reading number) agreed = false
may_act whose.Host (Pending.Noting number command) agreed = false
may_act whose.Terminal pending agreed = false

-- the host's decision now; none unless it may act
abbrev pub decision_in : Application → Session → Option Decision
decision_in app conn =
    if may_act conn.turn conn.pending (is_agreed conn.talk.state) then Some (decision_on app conn conn.turn_reason)
    else None

-- what a decision sends: nothing if the application is asked
abbrev pub decided : Application → Session → Decision → Option Sent
decided app conn (Decision.Do act) = Some (done app conn act)
decided app conn Decision.Asks = None

-- what the host sends if it acts now
abbrev pub acted : Application → Session → Option Sent
acted app conn = option_and_then (decided app conn) (decision_in app conn)
