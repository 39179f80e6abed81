use Rattle.std.proofs.Common.{◌≡◌, drop}
use Rattle.shadow.specs.Fits.{fits_from}
use Rattle.shadow.specs.InPlace.{beliefs_of}
use Rattle.shadow.proofs.fitting.all_fit.Given as goal

abbrev pub invariant-loop-place : goal.invariant-loop-place
invariant-loop-place l = fits_from (beliefs_of l.held) l.wanted.cells 0 l.wanted.cells ≡ fits_from (beliefs_of l.held) l.wanted.cells l.place (drop l.place l.wanted.cells)
