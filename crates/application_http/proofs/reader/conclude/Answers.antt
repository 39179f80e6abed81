use Rattle.std.proofs.Common.{refl, true}
use Rattle.application_http.proofs.Readings.{front_all, some_found, some_kept, refused_at}
use Rattle.application_http.proofs.reader.conclude.Goals as goal

pub returns-in-Ok-Some-clause-found : goal.returns-in-Ok-Some-clause-found
returns-in-Ok-Some-clause-found c =
    let bytes = c.args.bytes.now in (
      some_found true bytes bytes c.in-Ok-Some.field-0 c.in-Ok-Some.reply c.in-Ok-Some.field-0-is (front_all bytes c.requires) c.in-Ok-Some.ensures.found,
      some_kept true true bytes bytes c.in-Ok-Some.field-0 c.in-Ok-Some.reply c.in-Ok-Some.field-0-is (front_all bytes c.requires) refl c.in-Ok-Some.ensures.kept,
    )

pub returns-in-Err-clause-refused : goal.returns-in-Err-clause-refused
returns-in-Err-clause-refused c =
    let bytes = c.args.bytes.now in
    refused_at true bytes bytes c.in-Err.why (front_all bytes c.requires) c.in-Err.ensures.bad
