use Rattle.std.proofs.Common.{◌≡◌, ap, sym, subst, ◌∙◌}
use Rattle.presentation.specs.Sizes.{SizedScreen}
use Rattle.term_core.specs.Feeds.{IsAttached}
use Rattle.world3270.specs.model.ByteWorld.{TerminalSlot}
use Rattle.world3270.specs.model.TrackedTerminals.{TrackedTerminal}
use Rattle.world3270.specs.model.InFlight.{TookByte}
use Rattle.tn3270e_msg.specs.declared.cause.Stop.TheVariants as stop
use Rattle.world3270.proofs.Slots.{byte_went_on, byte_closed}
use Rattle.world3270.proofs.terminal_slot.TerminalSlot.feed_byte.Goals as goal

pub returns-in-Going-clause-took : goal.returns-in-Going-clause-took
returns-in-Going-clause-took c =
    let now : TrackedTerminal = record { terminal = c.self.inside.terminal.terminal; history = record { last_restored = c.self.inside.last_restored.screen; before_restored = c.self.inside.before_restored.screen; erased = c.self.inside.erased } } in
    let same : now ≡ c.args.self.now.tracked = ap (λ (s : TerminalSlot). s.tracked) c.self.view_is in
    let found : c.copy_of-before.result.screen ≡ now.terminal.station.screen.screen = ap (λ (s : SizedScreen). s.screen) (c.copy_of-before.ensures ∙ c.screen.ensures) in
    subst (λ (s : TrackedTerminal). TookByte stop.Going s c.args.byte c.mark.new.self.tracked) same
    (byte_went_on c.feed.new.self.room now c.feed.new.self.terminal c.args.byte c.feed.result c.mark.new.self.tracked c.copy_of-before.result.screen
    (subst (λ (s : TrackedTerminal). IsAttached s.terminal.link) (sym same) c.requires.attached) found
    c.feed.ensures.fed c.in-Going.is (ap (λ (s : TerminalSlot). s.tracked) c.mark.ensures))

pub returns-in-Closed-clause-took : goal.returns-in-Closed-clause-took
returns-in-Closed-clause-took c =
    let now : TrackedTerminal = record { terminal = c.self.inside.terminal.terminal; history = record { last_restored = c.self.inside.last_restored.screen; before_restored = c.self.inside.before_restored.screen; erased = c.self.inside.erased } } in
    let same : now ≡ c.args.self.now.tracked = ap (λ (s : TerminalSlot). s.tracked) c.self.view_is in
    let found : c.copy_of-before.result.screen ≡ now.terminal.station.screen.screen = ap (λ (s : SizedScreen). s.screen) (c.copy_of-before.ensures ∙ c.screen.ensures) in
    subst (λ (s : TrackedTerminal). TookByte (stop.Closed c.in-Closed.cause) s c.args.byte c.mark-in-Closed.new.self.tracked) same
    (byte_closed c.feed.new.self.room now c.feed.new.self.terminal c.args.byte c.in-Closed.cause c.feed.result c.mark-in-Closed.new.self.tracked c.copy_of-before.result.screen
    (subst (λ (s : TrackedTerminal). IsAttached s.terminal.link) (sym same) c.requires.attached) found
    c.feed.ensures.fed c.in-Closed.is (ap (λ (s : TerminalSlot). s.tracked) c.mark-in-Closed.ensures))
