-- Every terminal over bytes: whatever led to the bytes, they represent the connection over messages after moves that keep the rules, of which
-- the theorem over messages speaks.
use Rattle.std.proofs.Common.{false, ◌≡◌, ◌<◌, inl, ℕ, Some, List, [], ◌∷◌, length, ap, sym, subst, ◌∙◌, arith}
use Rattle.std.specs.Prelude.{All}
use Rattle.std.proofs.lemmas.List.{length-replicate}
use Rattle.std.proofs.lemmas.List.Elements.{All-cons, All-nil}
use Rattle.codes3270.specs.Size.{ScreenSize, cells_in}
use Rattle.codes3270.specs.declared.attribute.Cell.TheVariants.{Char}
use Rattle.codes3270.specs.declared.size.Model.{Model}
use Rattle.datastream.specs.InboundFields.{IsSendable, SentIsRead}
use Rattle.datastream.specs.InboundText.{InboundParts}
use Rattle.datastream.specs.declared.inbound_part.Form.TheVariants.{Buffer, Modified}
use Rattle.host_core.specs.Application.{Application, AreTexts, WantsProperScreens, IsApplication, IsSizeOf, application_of}
use Rattle.host_core.specs.Messages.{ToHost, ToTerminal}
use Rattle.host_core.specs.Session.{Session, agreed_lu}
use Rattle.host_core.specs.State.{lu_of, state_at}
use Rattle.host_core.specs.Takes.{form_awaited}
use Rattle.panels.specs.Characters.{AreCharacters}
use Rattle.shadow.specs.PaintedFields.{KeptStaysThere, WrittenIsThere}
use Rattle.shadow.specs.Sized.{MeetsIsOfSize}
use Rattle.telnet_wire.specs.Laws.{ItemsAreRead}
use Rattle.tn3270e_msg.specs.Device.{model_of}
use Rattle.tn3270e_msg.specs.Talk.{NegotiationMessage}
use Rattle.tn3270e_msg.specs.declared.reply.OwnedMessage.TheVariants.{FunIs}
use Rattle.world3270.specs.statement.EveryTerminal.{FirstPaint, LinkWithReport}
use Rattle.world3270.specs.statement.EveryTerminalBytes.{BeginsOverBytes, EveryTerminalOverBytes, LeadTo, OverBytes, RightOverBytes}
use Rattle.world3270.specs.statement.Shown.{is_painting}
use Rattle.world3270.specs.refinement.LowerLaws.{LowerLaws}
use Rattle.world3270.specs.refinement.MessageLaws.{MessageLaws}
use Rattle.world3270.specs.refinement.Readings.{IsReadAs, count_leading}
use Rattle.world3270.specs.statement.Rules.{Binds}
use Rattle.world3270.specs.refinement.Represents.{RepresentsDown, without, without_nops}
use Rattle.world3270.specs.refinement.Ignored.{is_ignored_by_host, is_ignored_by_terminal, without_ignored}
use Rattle.world3270.specs.refinement.RepresentsEnds.{NopHasNoEffect, TakesKeepSendable, TermTakes, WritesAreMarked}
use Rattle.world3270.specs.refinement.RepresentsLinks.{HasTheSizes, RepresentsGoOn}
use Rattle.world3270.specs.model.Terminal.{Display}
use Rattle.world3270.proofs.AnyBeside.{Known, agrees_known, hears_known, host_size, known, next_known, no_refusal_known, said_known}
use Rattle.world3270.proofs.AnyBytes.{all_moves}
use Rattle.world3270.proofs.AnyHost.{HearsLaws}
use Rattle.world3270.proofs.AnyHosts.{lu_there}
use Rattle.world3270.proofs.AnyLeads.{KeysHaveFewLeading, alive_still, begins_leads, few_now, move_leads}
use Rattle.world3270.proofs.AnyQueue.{AreSized, IsSized, comes_next, move_sized, read_size}
use Rattle.world3270.proofs.AnySpelt.{HasSendableContent, acts_encodable, answers_spelt, move_texts, notes_spelt}
use Rattle.world3270.proofs.AnyTerminal.{IsKept, Ready, TakesLaws}
use Rattle.world3270.proofs.Cleared.{Follows}
use Rattle.world3270.proofs.Down.{shape_of_model}
use Rattle.world3270.proofs.EveryTerminal.{IsBeside, begins_simulated, move_follows, right_of_beside}
use Rattle.world3270.proofs.Known.{the_sizes}
use Rattle.world3270.proofs.Numbers.{Numbered}
use Rattle.world3270.proofs.Sendable.{HasProperScreen, blank_sendable}
use Rattle.world3270.proofs.Represents.{any_term_takes, stands_compose, stands_go_on, stands_join, without_piecewise}
use Rattle.world3270.proofs.RepresentsLinks.{MayTakeNext, items_are_sent, up_stands}
use Rattle.world3270.proofs.RepresentsScreens.{executed_stays_sendable}
use Rattle.world3270.proofs.Worlds.{some_cells}

-- ---- what is given

pub record AnyLaws : Type 0 where
  pub given : LowerLaws
  pub sized : MeetsIsOfSize
  pub takes : TakesLaws
  pub hears : HearsLaws
  pub known : MessageLaws
  pub read : SentIsRead
  pub written : WrittenIsThere
  pub kept : KeptStaysThere

-- by what is known of bytes
pub takes_laws : MessageLaws → MeetsIsOfSize → SentIsRead → TermTakes → TakesKeepSendable → NopHasNoEffect → WritesAreMarked → RepresentsGoOn without_nops RepresentsDown → ItemsAreRead → TakesLaws
takes_laws known sized read takes keeps nop marks taken items = record {
  takes = takes;
  keeps = keeps;
  any_takes = any_term_takes sized known.links.one_header known.links.fault_or_header read;
  any_keeps = executed_stays_sendable sized;
  bounds = known.worlds.given.notes.bounds;
  nop = nop;
  down = taken;
  any_down = stands_go_on (without is_ignored_by_terminal) RepresentsDown (without_piecewise is_ignored_by_terminal) known.links.delivery_goes_on;
  final = known.links.wrong_is_final;
  marks = marks;
  written = items;
  join = stands_join without_ignored IsReadAs (without_piecewise is_ignored_by_host) known.links.deliveries;
}

-- by what is known of bytes and of what is read of them
pub any_laws : MessageLaws → MeetsIsOfSize → TermTakes → TakesKeepSendable → NopHasNoEffect → WritesAreMarked → RepresentsGoOn without_nops RepresentsDown → ItemsAreRead → SentIsRead
    → WrittenIsThere → KeptStaysThere → AnyLaws
any_laws known sized takes keeps nop marks taken items read written kept = record {
  given = known.worlds.given;
  sized = sized;
  takes = takes_laws known sized read takes keeps nop marks taken items;
  hears = record {
    sends = items_are_sent (stands_compose (without is_ignored_by_terminal) RepresentsDown (without_piecewise is_ignored_by_terminal) known.links.deliveries items);
    up = up_stands (stands_go_on without_ignored IsReadAs (without_piecewise is_ignored_by_host) known.links.delivery_goes_on);
    final = known.links.wrong_is_final;
    one_header = known.links.one_header;
    fault_or_header = known.links.fault_or_header;
    one_inbound = known.links.one_inbound;
    granted = known.worlds.given.pool.sound_granted;
  };
  known = known;
  read = read;
  written = written;
  kept = kept;
}

-- ---- at agreement

nothing_written : (lu : List ℕ) (t : LinkWithReport) → Binds lu t.link.term.talk.talk.state t.link.down → All HasProperScreen t.link.down
nothing_written lu t (Binds.bound state down) = subst (All HasProperScreen) (sym down) (All-nil HasProperScreen)
nothing_written lu t (Binds.about_to state down) =
    subst (All HasProperScreen) (sym down) (All-cons HasProperScreen (ToTerminal.TalksDown (NegotiationMessage.Sub FunIs)) [] tt (All-nil HasProperScreen))

begins_texts : (app : Application) → IsApplication app → (lu : List ℕ) (t : LinkWithReport) → FirstPaint app lu t → HasSendableContent t
begins_texts app is lu t b =
    let blank : IsSendable t.link.term.display.screen = subst (λ (d : Display). IsSendable d.screen) (sym b.blank) (blank_sendable (model_of b.device) app.begins is.begins) in
    let whole : length t.link.term.display.screen.cells ≡ cells_in t.link.term.display.size = subst (λ (d : Display). length d.screen.cells ≡ cells_in d.size) (sym b.blank) (length-replicate (cells_in app.begins) (Char 0)) in
    record {
      values = subst (λ (conn : Session). AreTexts conn.values) (sym b.host) (All-nil AreCharacters);
      numbered = subst Numbered (sym b.host) (record { next = omega arith; pending = tt });
      writes = nothing_written lu t b.binds;
      told = subst (λ (d : Display). IsSendable d.screen) (sym b.told) blank;
      whole = subst (λ (d : Display). length d.screen.cells ≡ cells_in d.size) (sym b.told) whole;
      now = record { sendable = blank; whole = whole };
    }

-- ---- the theorem

module _ (laws : AnyLaws) (app : Application) (is : IsApplication app) (asks : WantsProperScreens app) (sizes : HasTheSizes app) (lu : List ℕ) where
  record Good (t : LinkWithReport) : Type 0 where
    beside : IsBeside app lu t
    alive : t.link.lost ≡ false
    texts : HasSendableContent t
    sized : IsSized app t.link
    leads : KeysHaveFewLeading t

  module _ (t : LinkWithReport) (good : Good t) where
    its : Known app lu t
    its = known laws.given app is lu t good.beside

    shape : IsSizeOf app its.told.term.display.model t.link.term.display.size
    shape = subst (λ (m : Model). IsSizeOf app m t.link.term.display.size) its.model good.sized.term

    next : MayTakeNext t.link
    next = next_known laws.given laws.sized app is sizes lu t its good.sized.same shape

    -- few characters lead in a key's data
    few : (parts : InboundParts) (others : List ToHost) → t.link.up ≡ ToHost.Data parts ∷ others → parts.form ≡ Modified → form_awaited t.link.host.pending ≡ Buffer → count_leading parts.parts < cells_in t.link.host.size
    few parts others e form reads =
        let size : parts.size ≡ t.link.host.size = read_size app t.link good.sized parts others e reads in
        let some : 0 < cells_in t.link.host.size =
        some_cells t.link.host.size (shape_of_model app its.told.term.display.model t.link.host.size is (host_size laws.given laws.sized app is sizes lu t its)) in
        subst (λ (s : ScreenSize). count_leading parts.parts < cells_in s) size
        (few_now laws.given laws.sized app is sizes lu t its good.alive good.leads parts others e form (subst (λ (s : ScreenSize). 0 < cells_in s) (sym size) some) reads)

    ready : Ready app t
    ready =
        let given = laws.given in
        let paint = laws.known.links.paint in
        let bounded = laws.known.links.bounded in
        record {
          next = next;
          said = said_known given laws.sized app is sizes lu t its;
          agreed = agrees_known its;
          no_talk = its.no_talk;
          no_refusal = no_refusal_known given laws.sized app is sizes lu t its;
          comes_up = λ message others e. comes_next app sizes lu t its good.sized message others e
              (λ parts same form reads. few parts others (e ∙ ap (λ (m : ToHost). m ∷ others) same) form reads);
          hears = hears_known given app is lu t good.beside;
          acts = acts_encodable paint bounded given app is asks sizes lu t its good.texts;
          answers = answers_spelt paint bounded given app is asks sizes lu t its good.texts;
          notes = notes_spelt paint bounded given app is asks sizes lu t its good.texts;
        }

  good_is_kept : IsKept app Good
  good_is_kept = record {
    ready = ready;
    goes_on = λ move t good rules typed. record {
      beside = move_follows laws.given app is lu move t rules good.beside;
      alive = alive_still laws.given laws.sized app is sizes lu t (its t good) good.alive good.leads move good.beside (next t good) rules typed;
      texts = move_texts laws.read laws.given laws.sized app is asks sizes lu move t (its t good) good.sized good.texts rules typed;
      sized = move_sized laws.given laws.sized app is sizes lu t (its t good) good.alive good.sized move rules;
      leads = move_leads laws.given laws.sized app is sizes lu t (its t good) good.alive good.leads move (next t good) good.texts.now.whole rules typed;
    };
  }

  pub over_bytes : (number : ℕ) (states : List OverBytes) (old new : OverBytes) (b : BeginsOverBytes app number lu old) → (lead : LeadTo app number states old new)
      → RightOverBytes app number lu b.begin states old new lead
  over_bytes number states old new b lead =
      let size : b.begin.link.term.display.size ≡ b.begin.link.host.size = ap (λ (d : Display). d.size) b.begins.blank ∙ sym (ap (λ (c : Session). c.size) b.begins.host) in
      let good : Good b.begin = record {
        beside = IsBeside.follows (Follows.simulated (begins_simulated laws.given app is lu b.begin b.begins));
        alive = sym b.represents.stands.lost;
        texts = begins_texts app is lu b.begin b.begins;
        sized = record {
          up = subst (AreSized app b.begin.link.term.display.model (is_painting b.begin.link.host.pending) b.begin.link.host.size) (sym b.begins.nothing_up) tt;
          term = inl (ap (λ (d : Display). d.size) b.begins.blank);
          same = λ none. size;
        };
        leads = begins_leads b.begin (ap (λ (c : Session). c.pending) b.begins.host) b.begins.nothing_up;
      } in
      let below : number < length old.host.connections = subst (λ (n : ℕ). number < n) (sym b.is_host.sound.connections) b.below in
      let agreed : agreed_lu b.begin.link.host.talk.state ≡ Some lu = ap agreed_lu b.begins.agreed in
      let mine : lu_of (state_at number old.host) ≡ Some lu =
      lu_there (state_at number old.host) b.begin.link.host lu b.represents.is_open (b.represents.stands.host b.begins.host_here).host agreed in
      let through =
      all_moves laws.takes laws.hears app Good good_is_kept number lu (λ t good. ap (λ talk. agreed_lu talk.state) (its t good).talk ∙ (its t good).agreed)
      states old new b.begin b.below good b.represents (record { below = below; pool = b.pool }) (λ other shares. b.is_host.unshared other number lu shares mine) lead in
      let goes = through.goes in
      record {
        moves = goes.moves;
        are_moves = through.are;
        by_the_rules = goes.by_the_rules;
        represents = goes.represents;
        right = right_of_beside laws.given laws.written laws.kept app is lu _ goes.good.beside;
        alone = through.alone;
      }

pub every_terminal_over_bytes : AnyLaws → EveryTerminalOverBytes
every_terminal_over_bytes laws number lu old new states sound begins lead =
    let app : Application = application_of old.host.panels in
    let is = laws.known.worlds.application old.host.panels sound.otherwise sound.laid_out sound.apart in
    let asks = laws.known.worlds.screens old.host.panels sound.laid_out sound.characters in
    over_bytes laws app is asks (the_sizes old.host.panels) lu number states old new begins lead
