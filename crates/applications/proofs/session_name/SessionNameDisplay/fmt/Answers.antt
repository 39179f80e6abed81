use Rattle.std.proofs.Common.{◌-◌, ◌^◌, ◌∷◌, ◌∙◌, List, ℕ, Option, Some, [], false, ap, option_map, subst}
use Rattle.std.specs.Fmt.{decimal, DisplaysOnOk, format_spec, padded_integral, styled_digits_output, ◌++?◌}
use Rattle.applications.proofs.SessionTexts.{padded_is}
use Rattle.applications.proofs.session_name.SessionNameDisplay.fmt.Goals as goal

pub returns-clause-writes : goal.returns-clause-writes
returns-clause-writes g c =
    let laid = ap (λ spec. styled_digits_output c.in_radix.result spec) c.laid_out.ensures in
    let hex = ap (λ (text : Option (List ℕ)). option_map (padded_integral (format_spec 32 0 4 16 (2 ^ 64 - 1)) false []) text) c.in_radix.ensures in
    let padded = ap (λ (text : List ℕ). Some text) (padded_is c.args.self.now.boot) in
    subst (λ (text : Option (List ℕ)). DisplaysOnOk g.W.Write.write_str_gives c.args.f.now c.write.result (text ++? Some (45 ∷ decimal c.args.self.now.number)) c.write.new.self)
    (laid ∙ hex ∙ padded) c.write.ensures.writes
