use Rattle.std.proofs.Common.{map, string_bytes}
use Rattle.cli.proofs.ClapJobs.{parsed}
use Rattle.cli.proofs.command_line.matches_of.Goals as goal

pub returns-clause-matches : goal.returns-clause-matches
returns-clause-matches c =
    let parse = c.try_get_matches_from in
    (parsed c.in_ok-program.field-0 (map string_bytes c.args.words.now) c.in_ok-program.ensures.is parse.result parse.ensures.matches parse.ensures.kinds).0

pub returns-clause-kind : goal.returns-clause-kind
returns-clause-kind c =
    let parse = c.try_get_matches_from in
    (parsed c.in_ok-program.field-0 (map string_bytes c.args.words.now) c.in_ok-program.ensures.is parse.result parse.ensures.matches parse.ensures.kinds).1
