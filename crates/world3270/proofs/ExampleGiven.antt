-- The example is an application and a pool, and what happens in its runs may happen.
use Rattle.std.proofs.Common.{◌≡◌, ℕ, suc, zero, Bool, true, false, List, [], ◌∷◌, length, Option, Some, None, refl, ap, sym, ◌∙◌, if◌then◌else◌, ◌&&◌, ◌<◌, ◌+◌, lit≤, lit<, inl, inr}
use Rattle.codes3270.specs.declared.size.Model.TheVariants.{M2, M3, M4, M5}
use Rattle.codes3270.specs.declared.size.Model.{Model}
use Rattle.std.specs.Map.{values_of}
use Rattle.std.proofs.lemmas.List.Elements.{All-nil, All-cons}
use Rattle.panels.specs.Characters.{AreCharacters, is_character}
use Rattle.std.specs.Prelude.{All, slice_get, bytes_eq, IsTrue, nat_lt}
use Rattle.std.specs.List.{list_all}
use Rattle.std.specs.Option.{option_map_or}
use Rattle.std.proofs.lemmas.Bool.{and_parts, ltb-true}
use Rattle.std.proofs.lemmas.List.Sums.{AllPass-from_list_all}
use Rattle.std.proofs.lemmas.Option.{none-some}
use native.Mathlib.Omega.{arith}
use Rattle.lu_pool.specs.Pool.{IsPool}
use Rattle.lu_pool.specs.declared.entry.Entry.{Entry}
use Rattle.panels.specs.Screen.{Values}
use Rattle.panels.specs.declared.message.Message.{Message}
use Rattle.tn3270e_msg.specs.Lu.{is_lu}
use Rattle.host_core.specs.Application.{IsApplication, IsValidSize, IsShowable, KeepsNothing, IsSizeOf}
use Rattle.host_core.specs.Notes.{IsNoteText, is_graphic, longest_note}
use Rattle.world3270.specs.examples.ExampleApplication.{example, example_with, screen_of, l2, example_pool, alternate, shown_to}
use Rattle.world3270.specs.model.World.{Event, IsEvent, AreEvents}

-- ---- the application

showable : (marked : Bool) (panel : ℕ) (values : Values) (message : Message) (keep : Bool) → let screen = screen_of marked panel values message keep in IsShowable screen.size screen
showable marked zero values message true = record { size = refl; cells = refl; cursor = lit< tt; messages = (refl, refl); kept = refl }
showable marked zero values message false = record { size = refl; cells = refl; cursor = lit< tt; messages = (refl, refl); kept = refl }
showable marked (suc zero) values message keep = record { size = refl; cells = refl; cursor = lit< tt; messages = (refl, refl); kept = refl }
showable marked (suc (suc panel)) values message keep = record { size = refl; cells = refl; cursor = lit< tt; messages = (refl, refl); kept = refl }

sizes : (marked : Bool) (model : Model) (panel : ℕ) (values : Values) (message : Message) (keep : Bool) → IsSizeOf (example_with marked) model (screen_of marked (shown_to model panel) values message keep).size
sizes marked M5 zero values message keep = inl refl
sizes marked M5 (suc zero) values message keep = inr refl
sizes marked M5 (suc (suc panel)) values message keep = inl refl
sizes marked M2 zero values message keep = inl refl
sizes marked M3 zero values message keep = inl refl
sizes marked M4 zero values message keep = inl refl
sizes marked M2 (suc panel) values message keep = inl refl
sizes marked M3 (suc panel) values message keep = inl refl
sizes marked M4 (suc panel) values message keep = inl refl

is_shape : IsValidSize example.begins
is_shape = record { columns = lit< tt; row = lit≤ tt; addresses = lit≤ tt }

alternates : (model : Model) → IsValidSize (alternate model)
alternates M2 = is_shape
alternates M3 = is_shape
alternates M4 = is_shape
alternates M5 = record { columns = lit< tt; row = lit≤ tt; addresses = lit≤ tt }

whole : (marked : Bool) (panel : ℕ) (values : Values) (message : Message) → KeepsNothing (screen_of marked panel values message false)
whole marked zero values message = refl
whole marked (suc zero) values message = refl
whole marked (suc (suc panel)) values message = refl

pub is_application : (marked : Bool) → IsApplication (example_with marked)
is_application marked = record { begins = is_shape; alternates = alternates; sizes = sizes marked; showable = showable marked; whole = whole marked }

-- ---- the pool

-- the place of an LU's name
place_of_lu : List ℕ → ℕ
place_of_lu lu = if bytes_eq lu l2 then 1 else 0

listed_at : (place : ℕ) (at : Entry) → slice_get example_pool place ≡ Some at → place ≡ place_of_lu at.lu
unfolding place_of_lu
listed_at zero at e = ap (λ (o : Option Entry). option_map_or (λ (it : Entry). place_of_lu it.lu) o 0) e
listed_at (suc zero) at e = ap (λ (o : Option Entry). option_map_or (λ (it : Entry). place_of_lu it.lu) o 0) e
listed_at (suc (suc place)) at e = absurd (none-some at e)

are_lus : (place : ℕ) (at : Entry) → slice_get example_pool place ≡ Some at → IsTrue (is_lu at.lu)
are_lus zero at e = sym (ap (λ (o : Option Entry). option_map_or (λ (it : Entry). is_lu it.lu) o true) e)
are_lus (suc zero) at e = sym (ap (λ (o : Option Entry). option_map_or (λ (it : Entry). is_lu it.lu) o true) e)
are_lus (suc (suc place)) at e = absurd (none-some at e)

nobody_holds : (place : ℕ) (at : Entry) → slice_get example_pool place ≡ Some at → None ≡ at.holder
nobody_holds zero at e = ap (λ (o : Option Entry). option_map_or (λ (it : Entry). it.holder) o None) e
nobody_holds (suc zero) at e = ap (λ (o : Option Entry). option_map_or (λ (it : Entry). it.holder) o None) e
nobody_holds (suc (suc place)) at e = absurd (none-some at e)

pub is_pool : IsPool example_pool
is_pool = record {
  count = record { some = lit≤ tt; few = lit≤ tt };
  are_lus = are_lus;
  listed_once = λ place other at there is is_other same. listed_at place at is ∙ ap place_of_lu same ∙ sym (listed_at other there is_other);
  held_once = λ place other conn at there is is_other held held_too. absurd (none-some conn (nobody_holds place at is ∙ held));
}

-- ---- what happens

-- a text that a note may have
unfoldable pub is_well_noted : List ℕ → Bool
is_well_noted text = nat_lt (length text) (longest_note + 1) && list_all is_graphic text

-- an event that may happen
unfoldable pub is_well_formed : Event → Bool
is_well_formed (Event.Connect terminal wanted) = option_map_or is_lu wanted true
is_well_formed (Event.Answer number said) = list_all (list_all is_character) (values_of said.values)
is_well_formed (Event.Note number text) = is_well_noted text
is_well_formed _ = true

is_note : (text : List ℕ) → is_well_noted text ≡ true → IsNoteText text
unfolding is_well_noted
is_note text well =
    let both = and_parts (nat_lt (length text) (longest_note + 1)) (list_all is_graphic text) well in
    let short : length text < longest_note + 1 = ltb-true (length text) (longest_note + 1) both.0 in
    record { short = omega arith; graphic = AllPass-from_list_all is_graphic text both.1 }

are_texts : (texts : List (List ℕ)) → list_all (list_all is_character) texts ≡ true → All AreCharacters texts
are_texts [] well = All-nil AreCharacters
are_texts (text ∷ texts) well =
    let both = and_parts (list_all is_character text) (list_all (list_all is_character) texts) well in
    All-cons AreCharacters text texts (AllPass-from_list_all is_character text both.0) (are_texts texts both.1)

is_event : (event : Event) → is_well_formed event ≡ true → IsEvent event
unfolding is_well_formed
is_event (Event.Connect terminal None) well = tt
is_event (Event.Connect terminal (Some lu)) well = well
is_event (Event.Press terminal key) well = tt
is_event (Event.Up number) well = tt
is_event (Event.Down number) well = tt
is_event (Event.Act number) well = tt
is_event (Event.Answer number said) well = are_texts (values_of said.values) well
is_event (Event.Note number text) well = is_note text well
is_event (Event.Lose number) well = tt
is_event (Event.HostSees number) well = tt
is_event (Event.TermSees terminal) well = tt
is_event (Event.RestartTerm terminal) well = tt
is_event Event.RestartHost well = tt

pub are_events : (events : List Event) → list_all is_well_formed events ≡ true → AreEvents events
are_events [] well = tt
are_events (event ∷ events) well = let both = and_parts (is_well_formed event) (list_all is_well_formed events) well in (is_event event both.0, are_events events both.1)
