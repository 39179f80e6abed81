use Rattle.std.proofs.Common.{◌∙◌, sym, Bool}
use Rattle.std.specs.Prelude.{Result, Ok, Err, OnErr}
use Rattle.host_core.specs.Acts.{done}
use Rattle.host_core.specs.Application.{Application, application_of}
use Rattle.host_core.specs.Choices.{act_of, values_with}
use Rattle.host_core.specs.Does.{Grow}
use Rattle.host_core.specs.Session.{Session, model_in}
use Rattle.host_core.specs.declared.acted.Acted.TheVariants.{Sent, Memory}
use Rattle.host_core.specs.declared.acting.Decision.TheVariants.{Read, Show}
use Rattle.host_core.specs.declared.acting.Shown.{Shown}
use Rattle.host_core.proofs.Dropping.{AreApart, are_apart, grows_shown}
use Rattle.host_core.proofs.Doings.{acts, shows_once, shows_without_room, shows_without_values}
use Rattle.host_core.proofs.session.Session.act.Goals as goal

still : {T E : Type 0} (app : Application) (old : Session) (learn : Bool) (shown : Shown) → AreApart (app.fields old.panel) (app.values (app.shown (model_in old) shown.panel)) → (result : Result T E)
    → OnErr result (Grow old.values (values_with app old learn)) → OnErr result (Grow old.values (done app old (act_of (values_with app old learn) shown)).conn.values)
still app old learn shown apart (Ok value) grow = tt
still app old learn shown apart (Err error) grow = grows_shown app old learn (app.shown (model_in old) shown.panel) shown.message apart grow

pub returns-in-Read-clause-acted : goal.returns-in-Read-clause-acted
returns-in-Read-clause-acted c =
    let app = application_of c.args.panels.now in
    acts app c.args.self.now c.read.new.self c.args.out.now c.read.new.out c.read.result c.decide.result Read
    c.decide.ensures.decision c.in-Read.is (c.read.ensures.acted app)

pub returns-then-is_err-clause-acted : goal.returns-then-is_err-clause-acted
returns-then-is_err-clause-acted c =
    let app = application_of c.args.panels.now in
    let values = values_with app c.args.self.now c.in-Show.learn in
    acts app c.args.self.now c.args.self.now c.args.out.now c.reserve.new.self Memory c.decide.result (Show c.in-Show.shown c.in-Show.learn)
    c.decide.ensures.decision c.in-Show.is
    (shows_without_room app c.args.self.now values c.in-Show.shown c.args.out.now c.reserve.new.self c.reserve.result
    (sym c.is_err.ensures.value ∙ c.if-is_err.true) c.reserve.ensures.full c.reserve.ensures.items)

pub returns-then-is_err-2-clause-acted : goal.returns-then-is_err-2-clause-acted
returns-then-is_err-2-clause-acted c =
    let app = application_of c.args.panels.now in
    let values = values_with app c.args.self.now c.in-Show.learn in
    acts app c.args.self.now c.learn.new.self c.args.out.now c.reserve.new.self Memory c.decide.result (Show c.in-Show.shown c.in-Show.learn)
    c.decide.ensures.decision c.in-Show.is
    (shows_without_values app c.args.self.now c.learn.new.self values c.in-Show.shown c.args.out.now c.reserve.new.self c.learn.result
    (sym c.is_err-in-Show.ensures.value ∙ c.if-is_err-2.true)
    (still app c.args.self.now c.in-Show.learn c.in-Show.shown (are_apart c.args.panels.now c.args.self.now.panel (app.shown (model_in c.args.self.now) c.in-Show.shown.panel) c.panels_are_sound.ensures.values) c.learn.result c.learn.ensures.memory)
    c.learn.ensures.err c.reserve.ensures.items)

pub returns-else-is_err-2-clause-acted : goal.returns-else-is_err-2-clause-acted
returns-else-is_err-2-clause-acted c =
    let app = application_of c.args.panels.now in
    let values = values_with app c.args.self.now c.in-Show.learn in
    acts app c.args.self.now c.show.new.self c.args.out.now c.show.new.out Sent c.decide.result (Show c.in-Show.shown c.in-Show.learn)
    c.decide.ensures.decision c.in-Show.is
    (shows_once app c.args.self.now c.learn.new.self c.show.new.self values c.in-Show.shown c.args.out.now c.reserve.new.self c.show.new.out c.learn.result
    (sym c.is_err-in-Show.ensures.value ∙ c.if-is_err-2.false) c.learn.ensures.values c.reserve.ensures.items c.show.ensures.sent)
