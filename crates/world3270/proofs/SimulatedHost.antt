-- What the host hears, and what it sends: it can't tell the terminal from the waiting one.
use Rattle.std.proofs.Common.{◌≡◌, inl, inr, ◌&&◌, Bool, true, false, ℕ, Option, None, Some, List, [], ◌∷◌, refl, ap, sym, subst, ◌∙◌, if◌then◌else◌}
use Rattle.std.specs.Option.{option_and_then}
use Rattle.tn3270e_msg.specs.declared.cause.Cause.{Cause}
use Rattle.lu_pool.specs.Asking.{answer_to}
use Rattle.lu_pool.specs.HolderLaws.{IsSound}
use Rattle.lu_pool.specs.declared.entry.Entry.{Entry}
use Rattle.host_core.specs.Acts.{Act, Decision, Sent, acted, decided, decision_on, done, may_act}
use Rattle.host_core.specs.Application.{Application, IsApplication}
use Rattle.host_core.specs.Messages.{ToHost, ToTerminal}
use Rattle.host_core.specs.Notes.{IsNoteText, may_note, note_command, noted, noted_as}
use Rattle.host_core.specs.Questions.{act_by, answered_on, has_its_panel, is_asking, panel_for}
use Rattle.host_core.specs.Session.{Session, Pending, is_agreed}
use Rattle.host_core.specs.Takes.{Answers, HostStep, dropping, may_have_changed, took as host_took}
use Rattle.host_core.specs.declared.question.Answer.{Answer as ApplicationAnswer}
use Rattle.host_core.specs.declared.turn.Turn.{Turn}
use Rattle.host_core.specs.declared.turn.Turn.TheVariants as whose
use Rattle.world3270.specs.statement.EveryTerminal.{LinkWithReport}
use Rattle.world3270.specs.refinement.LowerLaws.{LowerLaws}
use Rattle.world3270.specs.model.Link.{Link, cut, host_left_if, host_sent, host_stepped, sent}
use Rattle.world3270.specs.refinement.Phases.{IsAt, LinkPhase, SessionPhase, NegotiationPhase, IsInFlight, pending_at, turn_at}
use Rattle.world3270.specs.refinement.Invariant.{ConnectionInvariant}
use Rattle.world3270.specs.refinement.View.{view_of}
use Rattle.world3270.proofs.Acting.{acts, answers_are_shown, asking_parts, loses, may_act_at, may_act_when}
use Rattle.world3270.proofs.Noting.{notes}
use Rattle.world3270.proofs.HeardTurns.{goes_on}
use Rattle.world3270.proofs.HostSteps.{act_changed, just_talks, still_changed}
use Rattle.world3270.proofs.Queues.{empty_queue, nothing_sent}
use Rattle.world3270.proofs.Returning.{HostReturns, returns_acted, returns_heard, returns_noted}
use Rattle.world3270.proofs.SecondKeys.{AddsSecondKeys, IsSecondKey, SaysAlike, alike_silent, alike_unread, is_dropping, noted_extras, only_extras, pending_after, second_key_dropped, turn_after}
use Rattle.world3270.proofs.Simulation.{HeardAlike, Simulated, agrees_now, heard_alike, still_simulated}
use Rattle.world3270.proofs.TalkStates.{agreed_there}
use Rattle.world3270.proofs.Up.{answers, host_view}

-- ---- the host hears

module _ (given : LowerLaws) (app : Application) (is_app : IsApplication app) (lu : List ℕ) (t : LinkWithReport) (s : Simulated app lu t) where
  abbrev told : Link
  told = s.told

  abbrev now : Link
  now = t.link

  abbrev heard_by : Session → Option Cause → List ToTerminal → List ToHost → LinkWithReport
  heard_by conn closes sends rest = record t { link = host_left_if closes (record now { up = rest; host = conn; down = sent now.lost now.down sends }) }

  -- a second key is dropped
  drops_still : (pool : Answers) (message : ToHost) (rest : List ToHost) → is_dropping told.host.turn told.host.pending ≡ true → IsSecondKey message → AddsSecondKeys told.host.turn told.host.pending s.simulates.up.said rest
      → Simulated app lu (record t { link = host_stepped (host_took pool now.host message) rest now })
  drops_still pool message rest drops second x =
      let host : now.host ≡ told.host = s.simulates.host in
      let is : host_took pool now.host message ≡ dropping second.parts.aid now.host =
      second_key_dropped pool now.host message second (ap (λ (c : Session). is_agreed c.talk.state) host ∙ agrees_now s) (ap (λ (c : Session). may_have_changed c.unheard) host ∙ s.any) (ap (λ (c : Session). is_dropping c.turn c.pending) host ∙ drops) in
      subst (λ (step : HostStep). Simulated app lu (record t { link = host_stepped step rest now })) (sym is)
      (still_simulated app lu t s told (heard_by now.host None [] rest).link refl refl refl refl s.kept refl s.any host s.simulates.lost (nothing_sent now.lost now.down ∙ s.simulates.down) s.returning
      (record { said = s.simulates.up.said; alike = s.simulates.up.alike; up = x }))

  -- any other message is heard of both; of what the waiting terminal says first the host makes the same
  hears_both : (entries : List Entry) → IsSound entries → (message : ToHost) (rest others : List ToHost) → HeardAlike (answer_to entries) told.host told.up message others
      → AddsSecondKeys (turn_after message told.host.turn) (pending_after message told.host.pending) others rest → Simulated app lu (record t { link = host_stepped (host_took (answer_to entries) now.host message) rest now })
  hears_both entries sound message rest others alike x =
      let pool : Answers = answer_to entries in
      let first : ToHost = alike.first in
      let step : HostStep = host_took pool told.host first in
      let heard = answers given app entries sound told first others alike.is s.kept in
      let goes = goes_on given app pool told first others alike.is s.kept (agrees_now s) in
      subst (λ (host : Session). Simulated app lu (record t { link = host_stepped (host_took pool host message) rest now })) (sym s.simulates.host)
      (subst (λ (made : HostStep). Simulated app lu (record t { link = host_stepped made rest now })) alike.same
      (subst (λ (closes : Option Cause). Simulated app lu (heard_by step.conn closes step.sends rest)) (sym heard.open_end)
      (still_simulated app lu t s (host_view step others told) (heard_by step.conn None step.sends rest).link refl refl refl refl heard.kept goes.talk ((just_talks pool told.host first).unheard ∙ s.any) refl s.simulates.lost
      (ap (λ (lost : Bool). sent lost now.down step.sends) s.simulates.lost ∙ ap (λ (down : List ToTerminal). sent told.lost down step.sends) s.simulates.down)
      (returns_heard given app is_app pool told first others alike.is s.kept (agrees_now s) s.returning)
      (record {
        said = others;
        alike = SaysAlike.same refl;
        up = subst (λ (turn : Turn). AddsSecondKeys turn step.conn.pending others rest) (sym (goes.turn ∙ alike.turn))
            (subst (λ (pending : Pending). AddsSecondKeys (turn_after message told.host.turn) pending others rest) (sym (goes.pending ∙ alike.pending)) x);
      }))))

  pub hears_still : (entries : List Entry) → IsSound entries → (message : ToHost) (rest : List ToHost) → now.up ≡ message ∷ rest
      → Simulated app lu (record t { link = host_stepped (host_took (answer_to entries) now.host message) rest now })
  hears_still entries sound message rest is =
      by_extra (subst (λ (up : List ToHost). AddsSecondKeys told.host.turn told.host.pending s.simulates.up.said up) is s.simulates.up.up)
    where
      by_extra : AddsSecondKeys told.host.turn told.host.pending s.simulates.up.said (message ∷ rest) → Simulated app lu (record t { link = host_stepped (host_took (answer_to entries) now.host message) rest now })
      by_extra (inl x) = drops_still (answer_to entries) message rest x.0 x.1 x.2
      by_extra (inr x) = hears_both entries sound message rest x.0 (heard_alike (answer_to entries) told.host told.up s.simulates.up.said message x.0 (agrees_now s) x.1 s.simulates.up.alike) x.2

-- ---- the host sends

-- in its turn, with nothing pending, once it agreed, nothing is on the way up
pub nothing_up : (app : Application) (link : Link) → ConnectionInvariant app (view_of link) → is_agreed link.host.talk.state ≡ true → link.host.turn ≡ whose.Host → link.host.pending ≡ Pending.Nothing → link.up ≡ []
nothing_up app link k agrees turns pends = by_moment k.moment k.at
  where
    silent : IsInFlight link.lost link.up [] → link.up ≡ []
    silent way = empty_queue link.lost link.up way

    by_talk : (talking : NegotiationPhase) → IsAt (view_of link) k.wanted (LinkPhase.Negotiating talking) → (lu : List ℕ) × (talking ≡ NegotiationPhase.Agreeing lu) → link.up ≡ []
    by_talk talking at is = silent (subst (λ (t : NegotiationPhase). IsAt (view_of link) k.wanted (LinkPhase.Negotiating t)) is.1 at).goes_up

    by_serving : (lu : List ℕ) (serving : SessionPhase) → IsAt (view_of link) k.wanted (LinkPhase.InSession lu serving) → turn_at (LinkPhase.InSession lu serving) ≡ whose.Host → pending_at (LinkPhase.InSession lu serving) ≡ Pending.Nothing → link.up ≡ []
    by_serving lu SessionPhase.Deciding at turn pending = silent at.goes_up
    by_serving lu (SessionPhase.Reading number) at turn pending = absurd (cc)
    by_serving lu (SessionPhase.BufferReturning number parts) at turn pending = absurd (cc)
    by_serving lu (SessionPhase.DecidingNoteSent number command) at turn pending = absurd (cc)
    by_serving lu (SessionPhase.DecidingNoteAnswered number command) at turn pending = absurd (cc)
    by_serving lu (SessionPhase.Painting number command wanted over) at turn pending = absurd (cc)
    by_serving lu (SessionPhase.AwaitingWriteResponse kind number command) at turn pending = absurd (cc)
    by_serving lu SessionPhase.OperatorTyping at turn pending = absurd (cc)
    by_serving lu (SessionPhase.Noting number command) at turn pending = absurd (cc)
    by_serving lu (SessionPhase.KeySent parts) at turn pending = absurd (cc)
    by_serving lu (SessionPhase.KeySentAfterResponse kind number command parts) at turn pending = absurd (cc)
    by_serving lu (SessionPhase.KeyCrossingNote number command parts) at turn pending = absurd (cc)
    by_serving lu (SessionPhase.KeyBeforeNoteResponse number command parts) at turn pending = absurd (cc)

    by_moment : (moment : LinkPhase) → IsAt (view_of link) k.wanted moment → link.up ≡ []
    by_moment (LinkPhase.Negotiating talking) at = by_talk talking at (agreed_there link.term.display.model talking link.host.talk at.host_talk agrees)
    by_moment (LinkPhase.FirstPaint lu number command wanted over) at = absurd (let clash = sym at.turn ∙ turns in cc)
    by_moment (LinkPhase.InSession lu serving) at = by_serving lu serving at (sym at.turn ∙ turns) (sym at.pending ∙ pends)

-- an act leaves a host that drops keys
pub act_drops : (app : Application) (conn : Session) (act : Act) → conn.turn ≡ whose.Host → is_dropping (done app conn act).conn.turn (done app conn act).conn.pending ≡ true
act_drops app conn Act.Read turns = ap (λ (turn : Turn). is_dropping turn (Pending.Reading conn.next_seq)) turns
act_drops app conn (Act.Show panel message keep values) turns = refl

pub act_talk : (app : Application) (conn : Session) (act : Act) → (done app conn act).conn.talk ≡ conn.talk
act_talk app conn Act.Read = refl
act_talk app conn (Act.Show panel message keep values) = refl

pub may_note_when : (turn : Turn) (pending : Pending) (agreed : Bool) → may_note turn pending agreed ≡ true → (turn ≡ whose.Terminal) × (pending ≡ Pending.Nothing)
may_note_when whose.Terminal Pending.Nothing agreed may = (refl, refl)
may_note_when whose.Terminal (Pending.Writing number command) agreed may = absurd (cc)
may_note_when whose.Terminal (Pending.Reading number) agreed may = absurd (cc)
may_note_when whose.Terminal (Pending.Noting number command) agreed may = absurd (cc)
may_note_when whose.Host pending agreed may = absurd (cc)

module _ (given : LowerLaws) (app : Application) (is : IsApplication app) (lu : List ℕ) (t : LinkWithReport) (s : Simulated app lu t) where
  abbrev end : Link
  end = s.told

  abbrev may_act_now : Bool
  may_act_now = may_act end.host.turn end.host.pending (is_agreed end.host.talk.state)

  abbrev sends_so : Option Sent → LinkWithReport
  sends_so sending = record t { link = host_sent sending t.link }

  -- both ends send this
  both_send : (sending : Sent) → ConnectionInvariant app (view_of (host_sent (Some sending) end)) → sending.conn.talk ≡ end.host.talk → may_have_changed sending.conn.unheard ≡ true → HostReturns sending.conn
      → AddsSecondKeys sending.conn.turn sending.conn.pending end.up t.link.up → Simulated app lu (sends_so (Some sending))
  both_send sending kept talk any returning up =
      still_simulated app lu t s (host_sent (Some sending) end) (host_sent (Some sending) t.link) refl refl refl refl kept talk any refl s.simulates.lost
      (ap (λ (lost : Bool). sent lost t.link.down (sending.message ∷ [])) s.simulates.lost ∙ ap (λ (down : List ToTerminal). sent end.lost down (sending.message ∷ [])) s.simulates.down) returning
      (record { said = end.up; alike = SaysAlike.same refl; up = up })

  -- an act
  both_act : (act : Act) → may_act_now ≡ true → ConnectionInvariant app (view_of (host_sent (Some (done app end.host act)) end)) → Simulated app lu (sends_so (Some (done app end.host act)))
  both_act act may kept =
      let when = may_act_when end.host.turn end.host.pending (is_agreed end.host.talk.state) may in
      let none : end.up ≡ [] = nothing_up app end s.kept (agrees_now s) when.0 when.1 in
      let sending : Sent = done app end.host act in
      both_send sending kept (act_talk app end.host act) (act_changed app end.host act ∙ s.any)
      (returns_acted given app is s.marks end s.kept (may_act_at given app is end s.kept when.0 when.1 (agrees_now s)) when.0 when.1 (still_changed end.host.unheard ∙ s.any) s.returning act)
      (subst (λ (told : List ToHost). AddsSecondKeys sending.conn.turn sending.conn.pending told t.link.up) (sym none)
      (only_extras end.host.turn sending.conn.turn end.host.pending sending.conn.pending t.link.up (act_drops app end.host act when.0)
      (subst (λ (said : List ToHost). AddsSecondKeys end.host.turn end.host.pending said t.link.up) (alike_silent end.host end.up s.simulates.up.said none s.simulates.up.alike) s.simulates.up.up)))

  pub acts_still : Simulated app lu (sends_so (acted app t.link.host))
  acts_still =
      subst (λ (conn : Session). Simulated app lu (sends_so (acted app conn))) (sym s.simulates.host)
      (by_may may_act_now refl (decision_on app end.host end.host.turn_reason) (acts given app is end s.kept))
    where
      by_may : (may : Bool) → may_act_now ≡ may → (decision : Decision)
          → ConnectionInvariant app (view_of (host_sent (option_and_then (decided app end.host) (if may then Some decision else None)) end)) → Simulated app lu (sends_so (option_and_then (decided app end.host) (if may then Some decision else None)))
      by_may true may (Decision.Do act) kept = both_act act may kept
      by_may true may Decision.Asks kept = s
      by_may false may decision kept = s

  pub answers_still : (said : ApplicationAnswer) → Simulated app lu (sends_so (answered_on app t.link.host said))
  answers_still said =
      subst (λ (conn : Session). Simulated app lu (sends_so (answered_on app conn said))) (sym s.simulates.host)
      (by_open (is_asking app end.host) refl (has_its_panel app said) (answers_are_shown given app is end s.kept said))
    where
      act : Act
      act = act_by app end.host said (panel_for app end.host said)

      by_open : (asked : Bool) → is_asking app end.host ≡ asked → (there : Bool) → ConnectionInvariant app (view_of (host_sent (if asked && there then Some (done app end.host act) else None) end))
          → Simulated app lu (sends_so (if asked && there then Some (done app end.host act) else None))
      by_open true open_now true kept = both_act act (asking_parts app end.host open_now).0 kept
      by_open true open_now false kept = s
      by_open false open_now there kept = s

  pub notes_still : (text : List ℕ) → IsNoteText text → Simulated app lu (sends_so (noted text t.link.host))
  notes_still text is_text =
      subst (λ (conn : Session). Simulated app lu (sends_so (noted text conn))) (sym s.simulates.host)
      (by_may (may_note end.host.turn end.host.pending (is_agreed end.host.talk.state)) refl (notes app text is_text end s.kept))
    where
      by_may : (may : Bool) → may_note end.host.turn end.host.pending (is_agreed end.host.talk.state) ≡ may
          → ConnectionInvariant app (view_of (host_sent (if may then Some (noted_as text end.host) else None) end)) → Simulated app lu (sends_so (if may then Some (noted_as text end.host) else None))
      by_may false may kept = s
      by_may true may kept =
          let when = may_note_when end.host.turn end.host.pending (is_agreed end.host.talk.state) may in
          let command = note_command end.host.size text in
          let up : AddsSecondKeys end.host.turn end.host.pending end.up t.link.up =
          subst (λ (said : List ToHost). AddsSecondKeys end.host.turn end.host.pending said t.link.up) (alike_unread end.host end.up s.simulates.up.said when.1 s.simulates.up.alike) s.simulates.up.up in
          both_send (noted_as text end.host) kept refl s.any (returns_noted given app is text is_text end s.kept when.0 when.1 s.returning)
          (subst (λ (turn : Turn). AddsSecondKeys turn (Pending.Noting end.host.next_seq command) end.up t.link.up) (sym when.0)
          (noted_extras end.host.next_seq command end.up t.link.up
          (subst (λ (turn : Turn). AddsSecondKeys turn Pending.Nothing end.up t.link.up) when.0 (subst (λ (pending : Pending). AddsSecondKeys end.host.turn pending end.up t.link.up) when.1 up))))

  pub loses_still : Simulated app lu (record t { link = cut t.link })
  loses_still = still_simulated app lu t s (cut end) (cut t.link) refl refl refl refl (loses app (view_of end) s.kept) refl s.any s.simulates.host refl s.simulates.down s.returning s.simulates.up
