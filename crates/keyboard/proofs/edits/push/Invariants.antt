use Rattle.std.proofs.Common.{◌≡◌, ◌∷◌, get_or, true}
use Rattle.codes3270.specs.Storable.{is_storable}
use Rattle.keyboard.specs.Edits.{text_from, laid}
use Rattle.keyboard.proofs.edits.push.Given as goal

abbrev pub invariant-loop-step : goal.invariant-loop-step
invariant-loop-step l =
    let cells = l.initial.screen.screen.cells in
    let text = l.byte ∷ text_from cells l.at in
    record {
      screen : l.screen ≡ record l.initial.screen { screen = record l.initial.screen.screen { cells = laid l.at l.step text cells } };
      carried : l.carried ≡ get_or text l.step 0;
      storable : is_storable l.carried ≡ true;
    }
