-- What a host paints fits what it believes.
use Rattle.std.proofs.Common.{◌≡◌, ◌+◌, ℕ, Bool, true, false, not, ◌||◌, List, [], ◌∷◌, ◌++◌, refl, ap, sym, subst, ◌∙◌, if◌then◌else◌}
use Rattle.std.specs.List.{list_any}
use Rattle.std.proofs.lemmas.Bool.{and_parts}
use Rattle.codes3270.specs.Size.{cells_in}
use Rattle.codes3270.specs.declared.size.Model.{Model}
use Rattle.datastream.specs.Wanted.{WantedScreen}
use Rattle.datastream.specs.declared.wanted.Want.{Want}
use Rattle.datastream.specs.declared.wanted.Want.TheVariants.{Char, Attr, Keep}
use Rattle.shadow.specs.Belief.{Belief, Shadow, fields_of}
use Rattle.shadow.specs.Painted.{keeps_ahead}
use Rattle.shadow.specs.Fits.{is_keep, is_attribute, fields_fit, fits_from, fits, is_of_size, is_paintable}
use Rattle.panels.specs.declared.message.Message.{Message}
use Rattle.panels.specs.Screen.{Values}
use Rattle.host_core.specs.Application.{Application, IsApplication, IsSizeOf, KeepsNothing}
use Rattle.host_core.specs.Session.{Session, model_in}
use Rattle.host_core.specs.Acts.{known_despite, Act, may_keep, values_shown, wanted_by, when_shown}
use Rattle.host_core.specs.Takes.{may_have_changed}
use Rattle.host_core.specs.Laws.{IsPaintable, ActsFit, SizesAreTheModels, MayBeNow, UnheardIsAllowed}
use Rattle.host_core.specs.declared.unheard.Unheard.{Unheard}
use Rattle.host_core.specs.declared.unheard.Unheard.TheVariants as unheards
use Rattle.shadow.specs.Doubt.{DoubtAllowsInput}
use Rattle.shadow.specs.Meets.{Meets}

none_kept-append : (xs ys : List Want) → list_any is_keep xs ≡ false → list_any is_keep ys ≡ false → list_any is_keep (xs ++ ys) ≡ false
none_kept-append [] ys h k = k
none_kept-append (Char byte ∷ xs) ys h k = none_kept-append xs ys h k
none_kept-append (Attr attribute ∷ xs) ys h k = none_kept-append xs ys h k
none_kept-append (Keep ∷ xs) ys h k = absurd (cc)

none_ahead : (wants : List Want) → list_any is_keep wants ≡ false → keeps_ahead wants ≡ false
none_ahead [] h = refl
none_ahead (Char byte ∷ wants) h = none_ahead wants h
none_ahead (Attr attribute ∷ wants) h = refl
none_ahead (Keep ∷ wants) h = absurd (cc)

-- fields that keep nothing fit
none_kept_fits : (beliefs : List Belief) (whole : List Want) (at : ℕ) (rest : List Want) → list_any is_keep whole ≡ false → list_any is_keep rest ≡ false → fits_from beliefs whole at rest ≡ true
none_kept_fits beliefs whole at [] h k = refl
none_kept_fits beliefs whole at (Char byte ∷ rest) h k = none_kept_fits beliefs whole (at + 1) rest h k
none_kept_fits beliefs whole at (Keep ∷ rest) h k = absurd (cc)
none_kept_fits beliefs whole at (Attr attribute ∷ rest) h k =
    rw (none_ahead (rest ++ whole) (none_kept-append rest whole k h)) (none_kept_fits beliefs whole (at + 1) rest h k)

-- what keeps nothing can be painted
whole_fits : (shadow : Shadow) (wanted : WantedScreen) → KeepsNothing wanted → is_paintable shadow wanted ≡ true
whole_fits shadow wanted h = ap (λ kept. not kept || fits shadow wanted) h

-- so can what fits
fitting_fits : (shadow : Shadow) (wanted : WantedScreen) → fits shadow wanted ≡ true → is_paintable shadow wanted ≡ true
fitting_fits shadow wanted h = ap (λ fit. not (list_any is_keep wanted.cells) || fit) h ∙ either (not (list_any is_keep wanted.cells))
  where
    either : (b : Bool) → (b || true) ≡ true
    either true = refl
    either false = refl

-- the fields of what can be painted fit
pub paintable_fields : (shadow : Shadow) (wanted : WantedScreen) → is_paintable shadow wanted ≡ true → fits_from (fields_of shadow) wanted.cells 0 wanted.cells ≡ true
paintable_fields shadow wanted h = by_keep (list_any is_keep wanted.cells) refl
  where
    by_keep : (b : Bool) → list_any is_keep wanted.cells ≡ b → fits_from (fields_of shadow) wanted.cells 0 wanted.cells ≡ true
    by_keep false e = none_kept_fits (fields_of shadow) wanted.cells 0 wanted.cells e e
    by_keep true e =
        let fit : fits shadow wanted ≡ true = sym (ap (λ kept. not kept || fits shadow wanted) e) ∙ h in
        (and_parts (not (list_any is_keep wanted.cells) || list_any is_attribute wanted.cells) (fits_from (fields_of shadow) wanted.cells 0 wanted.cells)
        (and_parts (is_of_size (cells_in wanted.size) shadow) (fields_fit (fields_of shadow) wanted.cells) fit).1).1

pub whole_paints : (app : Application) (shadow : Shadow) (panel : ℕ) (values : Values) (message : Message) → IsApplication app
    → let screen = app.screen panel values message false in IsPaintable screen.size shadow screen
whole_paints app shadow panel values message is = record {
  fits = whole_fits shadow (app.screen panel values message false) (is.whole panel values message);
  showable = is.showable panel values message false;
}

pub paints : (app : Application) (conn : Session) (panel : ℕ) (message : Message) (keep : Bool) (values : Values) → IsApplication app
    → let wanted = wanted_by app conn panel message keep values in IsPaintable wanted.size conn.shadow wanted
paints app conn panel message false values is = whole_paints app conn.shadow panel values message is
paints app conn panel message true values is = by_fit (may_keep conn kept) refl
  where
    kept : WantedScreen
    kept = app.screen panel values message true

    by_fit : (b : Bool) → may_keep conn kept ≡ b → let wanted = (if b then kept else app.screen panel values message false) in IsPaintable wanted.size conn.shadow wanted
    by_fit true e = record { fits = fitting_fits conn.shadow kept (and_parts (not (may_have_changed conn.unheard)) (fits conn.shadow kept) e).1; showable = is.showable panel values message true }
    by_fit false e = whole_paints app conn.shadow panel values message is

pub acts_fit : ActsFit
acts_fit app conn Act.Read is = tt
acts_fit app conn (Act.Show panel message keep values) is =
    let shown = app.shown (model_in conn) panel in
    (paints app (when_shown conn) shown message keep (values_shown app shown message values) is, refl)

-- what is wanted has one of the sizes of the session's model
wanted_size : (app : Application) (conn : Session) (model : Model) (panel : ℕ) (message : Message) (keep : Bool) (values : Values) → IsApplication app
    → IsSizeOf app model (wanted_by app conn (app.shown model panel) message keep values).size
wanted_size app conn model panel message false values is = is.sizes model panel values message false
wanted_size app conn model panel message true values is = by_fit (may_keep conn kept)
  where
    kept : WantedScreen
    kept = app.screen (app.shown model panel) values message true

    by_fit : (b : Bool) → IsSizeOf app model (if b then kept else app.screen (app.shown model panel) values message false).size
    by_fit true = is.sizes model panel values message true
    by_fit false = is.sizes model panel values message false

pub sizes_are : SizesAreTheModels
sizes_are app conn Act.Read is sized = sized
sizes_are app conn (Act.Show panel message keep values) is sized =
    wanted_size app (when_shown conn) (model_in conn) panel message keep (values_shown app (app.shown (model_in conn) panel) message values) is

-- ---- what may have happened unheard

pub unheard_allowed : DoubtAllowsInput → UnheardIsAllowed
unheard_allowed input conn told now meets may = by_unheard conn.unheard may
  where
    by_unheard : (unheard : Unheard) → MayBeNow unheard told now → Meets (known_despite unheard conn.shadow) now
    by_unheard unheards.Nothing same = subst (Meets conn.shadow) (sym same) meets
    by_unheard unheards.Input (erased, held) = input erased conn.shadow told now meets held
    by_unheard unheards.Clear any = tt
