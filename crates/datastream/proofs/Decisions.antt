-- What a test that came out decides.
use Rattle.std.proofs.Common.{◌≡◌, Bool, true, false, cond, refl, sym}
use Rattle.std.specs.Prelude.{◌||◌}
use Rattle.std.proofs.lemmas.Bool.{false≢true}

pub cond_when : {X : Type 0} (b : Bool) (x y : X) → b ≡ true → cond b x y ≡ x
cond_when true x y e = refl
cond_when false x y e = absurd (false≢true e)

pub cond_unless : {X : Type 0} (b : Bool) (x y : X) → b ≡ false → cond b x y ≡ y
cond_unless true x y e = absurd (false≢true (sym e))
cond_unless false x y e = refl

pub neither : (x y : Bool) → x ≡ false → y ≡ false → (x || y) ≡ false
neither false y e f = f
neither true y e f = absurd (false≢true (sym e))
