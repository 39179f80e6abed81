use Rattle.std.proofs.Common.{refl, subst}
use Rattle.applications.specs.ExchangeTurns.{LooksOpen, opens, replaces, uses}
use Rattle.applications.proofs.exchanges.stream_for.Goals as goal

pub returns-then-is_open : goal.returns-then-is_open
returns-then-is_open g c =
    uses c.in-Some.kept c.is_open.new.self c.in-Some.is
    (subst (λ usable. LooksOpen g.S.RawRead.read_gave c.args.now c.in-Some.kept usable c.is_open.new.self) c.if-is_open.true c.is_open.ensures) refl

pub returns-else-is_open : goal.returns-else-is_open
returns-else-is_open g c =
    replaces c.in-Some.kept c.is_open.new.self c.in-Some.is
    (subst (λ usable. LooksOpen g.S.RawRead.read_gave c.args.now c.in-Some.kept usable c.is_open.new.self) c.if-is_open.false c.is_open.ensures)
    c.connect.ensures

pub returns-in-None : goal.returns-in-None
returns-in-None g c = opens c.in-None.is c.connect-in-None.ensures
