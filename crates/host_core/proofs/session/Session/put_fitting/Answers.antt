use Rattle.host_core.proofs.Fitting.{paints}
use Rattle.host_core.specs.Application.{application_of}
use Rattle.host_core.proofs.session.Session.put_fitting.Goals as goal

pub returns-clause-fits : goal.returns-clause-fits
returns-clause-fits c =
    let app = c.panels_are_shown.ensures.application c.args.panels.now c.panels_are_sound.ensures.otherwise c.panels_are_sound.ensures.laid_out c.panels_are_sound.ensures.apart in
    rw c.put_wanted.ensures
    (paints (application_of c.args.panels.now) c.args.self.now c.args.shown.now.panel c.args.shown.now.message c.args.shown.now.keep c.args.values.now app).fits
