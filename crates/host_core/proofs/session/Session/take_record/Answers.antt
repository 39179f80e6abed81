use Rattle.std.proofs.Common.{refl, ◌∙◌}
use Rattle.host_core.specs.Items.{TakesRecord}
use Rattle.host_core.proofs.RecordsTaken.{other_type}
use Rattle.host_core.proofs.session.Session.take_record.Goals as goal

pub returns-in_default-clause-taken : goal.returns-in_default-clause-taken
returns-in_default-clause-taken c = TakesRecord.no_header c.in_default.field-0 c.in_default.ensures.fault refl

pub returns-in-Data3270-clause-taken : goal.returns-in-Data3270-clause-taken
returns-in-Data3270-clause-taken c =
    TakesRecord.data_is c.in-Ok.header c.in-Ok.body.now c.in-Ok.ensures.found c.in-Data3270.is c.take_any_data.ensures.taken

pub returns-in-Response-clause-taken : goal.returns-in-Response-clause-taken
returns-in-Response-clause-taken c =
    TakesRecord.answered c.in-Ok.header c.in-Ok.body.now c.in-Ok.ensures.found c.in-Response.is (c.of.ensures c.take_response.new.self ∙ c.take_response.ensures.came)

pub returns-in_default-kind : goal.returns-in_default-kind
returns-in_default-kind c = record {
  taken = TakesRecord.dropped c.in-Ok.header c.in-Ok.body.now c.in-Ok.ensures.found (other_type c.in-Ok.header.kind c.in_default-kind.not-Data3270 c.in_default-kind.not-Response) refl;
  talk = refl;
  panel = refl;
  size = refl;
}
