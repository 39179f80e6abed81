-- What the host of a terminal that keeps the rules sends is encoded: its values are texts, its numbers have 15 bits, and the screens can be sent.
use Rattle.std.proofs.Common.{◌≡◌, ◌&&◌, ℕ, Bool, true, false, Option, None, Some, List, [], ◌∷◌, length, ◌||◌, refl, ap, sym, subst, ◌∙◌, if◌then◌else◌}
use Rattle.std.specs.Prelude.{All, IfSome}
use Rattle.std.proofs.lemmas.List.Elements.{All-cons, All-head, All-map, All-nil, All-tail}
use Rattle.codes3270.specs.Size.{cells_in}
use Rattle.codes3270.specs.declared.size.Model.{Model}
use Rattle.datastream.specs.Grammar.{CommandParts, IsProper as IsProperOrder}
use Rattle.datastream.specs.InboundFields.{IsSendable, SentIsRead}
use Rattle.datastream.specs.Meaning.{after_command}
use Rattle.lu_pool.specs.Asking.{answer_to}
use Rattle.lu_pool.specs.declared.entry.Entry.{Entry}
use Rattle.shadow.specs.Laws.{PaintIsBounded}
use Rattle.shadow.specs.Sized.{MeetsIsOfSize}
use Rattle.tn3270e_msg.specs.declared.cause.Cause.{Cause}
use Rattle.host_core.specs.Acts.{Sent, acted}
use Rattle.host_core.specs.Application.{Application, AreTexts, WantsProperScreens, IsApplication, IsSizeOf}
use Rattle.host_core.specs.Messages.{ToHost, ToTerminal}
use Rattle.host_core.specs.NoteLaws.{IsNoteOf}
use Rattle.host_core.specs.Notes.{IsNoteText, note_command, noted}
use Rattle.host_core.specs.Questions.{act_by, answered_on, panel_for}
use Rattle.host_core.specs.Takes.{HostStep, took as host_took}
use Rattle.host_core.specs.declared.question.Answer.{Answer as ApplicationAnswer}
use Rattle.world3270.specs.statement.EveryTerminal.{IsByTheRules, Move, LinkWithReport, came_down, came_up, executed, is_pa, is_shown, moved, paint_executed, sends_clear, told_after, told_if}
use Rattle.world3270.specs.refinement.LowerLaws.{LowerLaws}
use Rattle.world3270.specs.model.Link.{Link, host_left_if, host_sent, sent, term_left_if, term_stepped}
use Rattle.world3270.specs.model.Enabled.{is_queued}
use Rattle.world3270.specs.refinement.RepresentsEnds.{PaintRepresents}
use Rattle.world3270.specs.refinement.RepresentsLinks.{HasTheSizes}
use Rattle.world3270.specs.model.Terminal.{Display, TermEnd, TermStep, is_bound, note_came, once_bound, read_came}
use Rattle.world3270.specs.refinement.Sendable.{CanBeSent}
use Rattle.world3270.proofs.AnyBeside.{Known, fits_known, host_size, next_known, there}
use Rattle.world3270.proofs.AnyQueue.{IsSized}
use Rattle.world3270.proofs.Executing.{MayTake}
use Rattle.world3270.proofs.RepresentsScreens.{spelt_keeps}
use Rattle.world3270.proofs.AnyTerminal.{IsWellFormedMove}
use Rattle.world3270.proofs.ByteActs.{act_sent, act_suits, answer_sent, note_sent}
use Rattle.world3270.proofs.Down.{shape_of_model}
use Rattle.world3270.proofs.HostSteps.{just_talks}
use Rattle.world3270.proofs.ItemsSpelt.{IsEncodable, CommandFitsScreen, spells}
use Rattle.world3270.proofs.Numbers.{FitsDown, Numbered, done_fits, host_fits, note_fits as note_numbered, sent_all}
use Rattle.world3270.proofs.Sendable.{HasProperScreen, NoteFits, SendsTexts, acts_texts, answers_texts, message_spelt, note_fits, notes_texts, paints_a_screen}
use Rattle.world3270.proofs.RepresentsComing.{has_size}
use Rattle.world3270.proofs.RepresentsSizes.{is_narrow}

-- the values are texts, the numbers have 15 bits, and all that is queued and both screens can be encoded
pub record HasSendableContent (t : LinkWithReport) : Type 0 where
  pub values : AreTexts t.link.host.values
  pub numbered : Numbered t.link.host
  pub writes : All HasProperScreen t.link.down
  pub told : IsSendable t.told.screen
  pub whole : length t.told.screen.cells ≡ cells_in t.told.size
  pub now : CanBeSent t.link.term.display.size t.link.term.display.screen

-- ---- what is sent

if_some : (P : Sent → Type 0) (what : Option Sent) → ((sending : Sent) → what ≡ Some sending → P sending) → IfSome what P
if_some P None each = tt
if_some P (Some sending) each = each sending refl

-- what holds of it, if something is
its : (P : Sent → Type 0) (what : Option Sent) (sending : Sent) → what ≡ Some sending → IfSome what P → P sending
its P what sending is some = subst (λ (w : Option Sent). IfSome w P) is some

module _ (stands : PaintRepresents) (bounded : PaintIsBounded) (given : LowerLaws) (app : Application) (is : IsApplication app) (asks : WantsProperScreens app) (sizes : HasTheSizes app) where
  encoded : (message : ToTerminal) → CommandFitsScreen message → HasProperScreen message → FitsDown message → IsEncodable message
  encoded message suits written number =
      spells stands bounded message suits (record { screen = paints_a_screen message written; encoded = message_spelt given.belief.encoded message written; number = number })

  module _ (lu : List ℕ) (t : LinkWithReport) (k : Known app lu t) (x : HasSendableContent t) where
    shape : IsSizeOf app k.told.term.display.model t.link.host.size
    shape = subst (IsSizeOf app k.told.term.display.model) (sym k.size) k.kept.sizes.host

    acts_say : IfSome (acted app t.link.host) SendsTexts
    acts_say = acts_texts app asks t.link.host x.values (k.learns x.values x.told)

    pub acts_encodable : IfSome (acted app t.link.host) (λ sending. IsEncodable sending.message)
    acts_encodable = if_some (λ sending. IsEncodable sending.message) (acted app t.link.host) (λ sending e.
        let by = act_sent app t.link.host sending e in
        encoded sending.message
        (subst (λ (m : Sent). CommandFitsScreen m.message) (sym by.1) (act_suits _ _ _ (given.belief.fit app t.link.host by.0 is)))
        (its SendsTexts (acted app t.link.host) sending e acts_say).message
        (subst (λ (m : Sent). FitsDown m.message) (sym by.1) (done_fits app t.link.host by.0 x.numbered).message))

    answers_say : (said : ApplicationAnswer) → AreTexts said.values → IfSome (answered_on app t.link.host said) SendsTexts
    answers_say said are = answers_texts app asks said are t.link.host x.values (k.learns x.values x.told)

    pub answers_spelt : (said : ApplicationAnswer) → AreTexts said.values → IfSome (answered_on app t.link.host said) (λ sending. IsEncodable sending.message)
    answers_spelt said are = if_some (λ sending. IsEncodable sending.message) (answered_on app t.link.host said) (λ sending e.
        let by = answer_sent app t.link.host said sending e in
        let act = act_by app t.link.host said (panel_for app t.link.host said) in
        encoded sending.message
        (subst (λ (m : Sent). CommandFitsScreen m.message) (sym by) (act_suits _ _ _ (given.belief.fit app t.link.host act is)))
        (its SendsTexts (answered_on app t.link.host said) sending e (answers_say said are)).message
        (subst (λ (m : Sent). FitsDown m.message) (sym by) (done_fits app t.link.host act x.numbered).message))

    says_notes : (text : List ℕ) → IsNoteText text → IfSome (noted text t.link.host) SendsTexts
    says_notes text is_text = notes_texts given text t.link.host (shape_of_model app k.told.term.display.model t.link.host.size is shape) is_text x.values

    pub notes_spelt : (text : List ℕ) → IsNoteText text → IfSome (noted text t.link.host) (λ sending. IsEncodable sending.message)
    notes_spelt text is_text = if_some (λ sending. IsEncodable sending.message) (noted text t.link.host) (λ sending e.
        let by = note_sent text t.link.host sending e in
        let model = k.told.term.display.model in
        let size = t.link.host.size in
        let note : IsNoteOf size (note_command size text) = record { text = text; is_text = is_text; is = refl } in
        encoded sending.message
        (subst (λ (m : Sent). CommandFitsScreen m.message) (sym by) (size, shape_of_model app model size is shape, is_narrow model size (has_size app model size sizes shape), note))
        (its SendsTexts (noted text t.link.host) sending e (says_notes text is_text)).message
        (subst (λ (m : Sent). FitsDown m.message) (sym by) (note_numbered text t.link.host x.numbered).message))

-- ---- moves keep it

left_texts : (cause : Option Cause) (link : Link) (t : LinkWithReport) → HasSendableContent (record t { link = link }) → HasSendableContent (record t { link = host_left_if cause link })
left_texts None link t x = x
left_texts (Some cause) link t x = record { values = x.values; numbered = x.numbered; writes = x.writes; told = x.told; whole = x.whole; now = x.now }

parted_texts : (cause : Option Cause) (link : Link) (t : LinkWithReport) → HasSendableContent (record t { link = link }) → HasSendableContent (record t { link = term_left_if cause link })
parted_texts None link t x = x
parted_texts (Some cause) link t x = record { values = x.values; numbered = x.numbered; writes = x.writes; told = x.told; whole = x.whole; now = x.now }

sent_texts : (what : Option Sent) (t : LinkWithReport) → HasSendableContent t → IfSome what SendsTexts → IfSome what (λ sending. Numbered sending.conn) → HasSendableContent (record t { link = host_sent what t.link })
sent_texts None t x says numbered = x
sent_texts (Some sending) t x says numbered = record {
  values = says.values;
  numbered = numbered;
  writes = sent_all HasProperScreen t.link.lost t.link.down (sending.message ∷ []) x.writes (All-cons HasProperScreen sending.message [] says.message (All-nil HasProperScreen));
  told = x.told;
  whole = x.whole;
  now = x.now;
}

up_texts : (t : LinkWithReport) → HasSendableContent t → (pool : List Entry) (up : List ToHost) → HasSendableContent (came_up pool up t)
up_texts t x pool [] = x
up_texts t x pool (message ∷ rest) =
    let step : HostStep = host_took (answer_to pool) t.link.host message in
    let just = just_talks (answer_to pool) t.link.host message in
    left_texts step.closes (record t.link { up = rest; host = step.conn; down = sent t.link.lost t.link.down step.sends }) t
    (record {
      values = subst AreTexts (sym just.values) x.values;
      numbered = (host_fits (answer_to pool) t.link.host message x.numbered).conn;
      writes = sent_all HasProperScreen t.link.lost t.link.down step.sends x.writes (subst (All HasProperScreen) (sym just.says) (All-map HasProperScreen ToTerminal.TalksDown just.talk (λ k d below. tt)));
      told = x.told;
      whole = x.whole;
      now = x.now;
    })

-- what was told can be sent, and is whole
record TellsTexts (told : Display) : Type 0 where
  sendable : IsSendable told.screen
  whole : length told.screen.cells ≡ cells_in told.size

-- what is told once a message was taken
told_sendable : (message : ToTerminal) (cleared : Bool) (told now : Display) → TellsTexts told → TellsTexts now → ((number : ℕ) (command : CommandParts) → message ≡ ToTerminal.Note number command → TellsTexts (record told { screen = after_command command told.screen }))
    → TellsTexts (told_after message cleared told now)
told_sendable (ToTerminal.Paint number wanted over) cleared told now was is noted = by_shown (is_shown cleared wanted over)
  where
    by_shown : (shown : Bool) → TellsTexts (if shown then now else told)
    by_shown true = is
    by_shown false = was
told_sendable (ToTerminal.ReadBuffer number) cleared told now was is noted = by_key (is_pa told.screen.aid)
  where
    by_key : (pa : Bool) → TellsTexts (if pa then record now { screen = record now.screen { aid = told.screen.aid } } else told)
    by_key true = record { sendable = record { few = is.sendable.few; cursor = is.sendable.cursor; aid = was.sendable.aid; storable = is.sendable.storable }; whole = is.whole }
    by_key false = was
told_sendable (ToTerminal.Note number command) cleared told now was is noted = noted number command refl
told_sendable (ToTerminal.TalksDown saying) cleared told now was is noted = was

taken_texts : (bound : Bool) (message : ToTerminal) (t : LinkWithReport) (link : Link) → HasSendableContent (record t { link = link }) → TellsTexts (told_after message t.cleared t.told link.term.display) → HasSendableContent (told_if bound message t link)
taken_texts true message t link x told = record { values = x.values; numbered = x.numbered; writes = x.writes; told = told.sendable; whole = told.whole; now = x.now }
taken_texts false message t link x told = x

operated_texts : (waits : Bool) (step : TermStep) (t : LinkWithReport) → HasSendableContent t → CanBeSent step.end.display.size step.end.display.screen
    → HasSendableContent (record { link = term_stepped step t.link.down t.link; told = if waits then t.told else step.end.display; waits = t.waits || is_queued step.sends; cleared = t.cleared || (t.waits && sends_clear step) })
operated_texts waits step t x now =
    parted_texts step.closes (record t.link { down = t.link.down; term = step.end; up = sent t.link.lost t.link.up step.sends })
    (record { link = t.link; told = if waits then t.told else step.end.display; waits = t.waits || is_queued step.sends; cleared = t.cleared || (t.waits && sends_clear step) })
    (by_test waits)
  where
    by_test : (b : Bool) → HasSendableContent (record {
      link = record t.link { down = t.link.down; term = step.end; up = sent t.link.lost t.link.up step.sends };
      told = if b then t.told else step.end.display;
      waits = t.waits || is_queued step.sends;
      cleared = t.cleared || (t.waits && sends_clear step);
    })
    by_test true = record { values = x.values; numbered = x.numbered; writes = x.writes; told = x.told; whole = x.whole; now = now }
    by_test false = record { values = x.values; numbered = x.numbered; writes = x.writes; told = now.sendable; whole = now.whole; now = now }

module _ (read : SentIsRead) (given : LowerLaws) (sized_so : MeetsIsOfSize) (app : Application) (is : IsApplication app) (asks : WantsProperScreens app) (sizes : HasTheSizes app) (lu : List ℕ) where
  -- the screen after a message can be sent
  executed_texts : (end : TermEnd) (message : ToTerminal) → HasProperScreen message → MayTake end message → NoteFits end.display.size message → CanBeSent end.display.size end.display.screen
      → let after = (executed end message).end.display in
      CanBeSent after.size after.screen
  executed_texts end (ToTerminal.TalksDown saying) written may fits can = can
  executed_texts end (ToTerminal.ReadBuffer number) written may fits can = by_bound (is_bound end)
    where
      by_bound : (b : Bool) → let after = (once_bound b (read_came end) end).end.display in CanBeSent after.size after.screen
      by_bound true = can
      by_bound false = can
  executed_texts end (ToTerminal.Note number command) written may fits can = by_bound (is_bound end)
    where
      by_bound : (b : Bool) → let after = (once_bound b (note_came number command end) end).end.display in CanBeSent after.size after.screen
      by_bound true = record {
        sendable = given.notes.note_sendable command end.display.screen written.0.note (subst (λ (n : ℕ). All (IsProperOrder n) command.orders) (ap cells_in fits ∙ sym can.whole) written.0.proper) can.sendable;
        whole = (given.notes.bounds command end.display.screen written.0.note).size ∙ can.whole;
      }
      by_bound false = can
  executed_texts end (ToTerminal.Paint number wanted over) written may fits can = by_bound (is_bound end)
    where
      by_bound : (b : Bool) → let after = (once_bound b (paint_executed number wanted over end) end).end.display in CanBeSent after.size after.screen
      by_bound true = spelt_keeps wanted over end may (message_spelt given.belief.encoded (ToTerminal.Paint number wanted over) written) can
      by_bound false = can

  down_texts : (t : LinkWithReport) (k : Known app lu t) → IsSized app t.link → HasSendableContent t → (down : List ToTerminal) → t.link.down ≡ down → HasSendableContent (came_down down t)
  down_texts t k z x [] e = x
  down_texts t k z x (message ∷ rest) e =
      let step : TermStep = executed t.link.term message in
      let written : All HasProperScreen (message ∷ rest) = subst (All HasProperScreen) e x.writes in
      let first : HasProperScreen message = All-head HasProperScreen message rest written in
      let shape = subst (λ (m : Model). IsSizeOf app m t.link.term.display.size) k.model z.term in
      let next = next_known given sized_so app is sizes lu t k z.same shape in
      let fits = fits_known given sized_so app is sizes lu t k z.same shape message rest e in
      let now = executed_texts t.link.term message first (next.may message rest e) fits x.now in
      let stays : Link = record t.link { down = rest; term = step.end; up = sent t.link.lost t.link.up step.sends } in
      let link : Link = term_stepped step rest t.link in
      let here = parted_texts step.closes stays t (record { values = x.values; numbered = x.numbered; writes = All-tail HasProperScreen message rest written; told = x.told; whole = x.whole; now = now }) in
      taken_texts (is_bound t.link.term) message t link here
      (told_sendable message t.cleared t.told link.term.display (record { sendable = x.told; whole = x.whole }) (record { sendable = here.now.sendable; whole = here.now.whole }) (noted message first e))
    where
      noted : (m : ToTerminal) → HasProperScreen m → t.link.down ≡ m ∷ rest → (number : ℕ) (command : CommandParts) → m ≡ ToTerminal.Note number command → TellsTexts (record t.told { screen = after_command command t.told.screen })
      noted m written is_m number command same =
          let proper : HasProperScreen (ToTerminal.Note number command) = subst HasProperScreen same written in
          let down : t.link.down ≡ ToTerminal.Note number command ∷ rest = is_m ∙ ap (λ (message : ToTerminal). message ∷ rest) same in
          let told_fits : command.size ≡ t.told.size =
          note_fits app k.told (ToTerminal.Note number command) rest (there given sized_so app is sizes lu t k (ToTerminal.Note number command) rest down) k.kept ∙ ap (λ (d : Display). d.size) k.display in
          record {
            sendable = given.notes.note_sendable command t.told.screen proper.0.note (subst (λ (n : ℕ). All (IsProperOrder n) command.orders) (ap cells_in told_fits ∙ sym x.whole) proper.0.proper) x.told;
            whole = (given.notes.bounds command t.told.screen proper.0.note).size ∙ x.whole;
          }

  pub move_texts : (move : Move) (t : LinkWithReport) → Known app lu t → IsSized app t.link → HasSendableContent t → IsByTheRules move t → IsWellFormedMove move t → HasSendableContent (moved app move t)
  move_texts (Move.Up pool) t k z x rules typed = up_texts t x pool t.link.up
  move_texts Move.Down t k z x rules typed = down_texts t k z x t.link.down refl
  move_texts Move.Act t k z x rules typed =
      sent_texts (acted app t.link.host) t x (acts_texts app asks t.link.host x.values (k.learns x.values x.told))
      (if_some (λ sending. Numbered sending.conn) (acted app t.link.host) (λ sending e.
      let by = act_sent app t.link.host sending e in subst (λ (m : Sent). Numbered m.conn) (sym by.1) (done_fits app t.link.host by.0 x.numbered).conn))
  move_texts (Move.Answer said) t k z x rules typed =
      sent_texts (answered_on app t.link.host said) t x (answers_texts app asks said typed t.link.host x.values (k.learns x.values x.told))
      (if_some (λ sending. Numbered sending.conn) (answered_on app t.link.host said) (λ sending e.
      subst (λ (m : Sent). Numbered m.conn) (sym (answer_sent app t.link.host said sending e)) (done_fits app t.link.host (act_by app t.link.host said (panel_for app t.link.host said)) x.numbered).conn))
  move_texts (Move.Note text) t k z x rules typed =
      sent_texts (noted text t.link.host) t x
      (notes_texts given text t.link.host (shape_of_model app k.told.term.display.model t.link.host.size is (host_size given sized_so app is sizes lu t k)) rules x.values)
      (if_some (λ sending. Numbered sending.conn) (noted text t.link.host) (λ sending e.
      subst (λ (m : Sent). Numbered m.conn) (sym (note_sent text t.link.host sending e)) (note_numbered text t.link.host x.numbered).conn))
  move_texts (Move.Operate step) t k z x rules typed = operated_texts t.waits step t x typed.stored
  move_texts Move.Lose t k z x rules typed = record { values = x.values; numbered = x.numbered; writes = x.writes; told = x.told; whole = x.whole; now = x.now }
