-- The run of the example with keys that lead on, computed.
use Rattle.std.proofs.Common.{◌≡◌, ℕ, zero, suc, Bool, true, false, List, [], ◌∷◌, ◌++◌, refl, ap, subst, ◌∙◌}
use Rattle.std.proofs.lemmas.Option.{same_Some}
use Rattle.codes3270.specs.declared.attention.Aid.TheVariants.{Enter, Pf}
use Rattle.codes3270.specs.declared.attribute.Display.TheVariants.{Normal}
use Rattle.codes3270.specs.declared.size.Model.TheVariants.{M5}
use Rattle.datastream.specs.Fields.{Field}
use Rattle.datastream.specs.Screen.{Screen}
use Rattle.panels.specs.declared.message.Message.{Message}
use Rattle.panels.specs.declared.message.Message.TheVariants.{Fresh, KeyNotActive, Required}
use Rattle.panels.specs.declared.panel.Field.{Field as PanelField}
use Rattle.world3270.specs.statement.Asked.{AreFilledIn, IsFilledIn}
use Rattle.world3270.specs.statement.Leading.{IsLedTo}
use Rattle.world3270.specs.examples.ExampleApplication.{example, letter_field, name_field, small, tall}
use Rattle.keyboard.specs.Places.{onward, backward}
use Rattle.keyboard.specs.declared.key.Key.TheVariants as key
use Rattle.tn3270e_msg.specs.Device.{device_of}
use Rattle.world3270.specs.examples.ExampleEnds.{settle, presses, after, end_on, bound_and_shows, name_place}
use Rattle.world3270.specs.examples.ExampleScreens.{fresh_sign_on, greeting_seen, no_message, typing_sign_on}
use Rattle.world3270.specs.examples.ExampleTargets.{skipped_entry, cleared_greeting, KeysOfTheSignOn, LeadingRun, LeadsAlone, pressed}
use Rattle.world3270.specs.model.World.{Event}
use Rattle.world3270.proofs.Leading.{keys_lead_to_one}
use Rattle.world3270.proofs.ExampleGiven.{is_well_formed, is_well_noted, are_events}
use Rattle.world3270.proofs.SignedOn.{request_taken, agreement_taken, acted_on, agree, start, asks, signed, once_signed}

abbrev leads_on : List Event
leads_on = presses (key.Pf 5 ∷ []) ++ settle 0

shows_the_greeting : end_on 0 (after skipped_entry) ≡ bound_and_shows tall (greeting_seen (0 ∷ 0 ∷ 0 ∷ []))
unfolding start asks signed acted_on agree request_taken agreement_taken device_of onward backward
shows_the_greeting = once_signed (end_on 0) leads_on (bound_and_shows tall (greeting_seen (0 ∷ 0 ∷ 0 ∷ []))) refl

shows_the_sign_on : end_on 0 (after cleared_greeting) ≡ bound_and_shows small fresh_sign_on
unfolding start asks signed acted_on agree request_taken agreement_taken device_of onward backward
shows_the_sign_on = once_signed (end_on 0) (leads_on ++ (presses (key.Clear ∷ []) ++ settle 0)) (bound_and_shows small fresh_sign_on) refl

-- ---- where keys lead from the sign-on

leads_alone : (screen : Screen) (panel : ℕ) (message : Message) (keep : Bool) → IsLedTo example M5 0 screen panel message keep → LeadsAlone screen panel message keep
leads_alone screen panel message keep leads =
    record { leads = leads; alone = λ other second keeps it. keys_lead_to_one example M5 0 screen other panel second message keeps keep it leads }

-- the name's field, with this text
abbrev name_on : (mdt : Bool) → List ℕ → Field
name_on mdt text = record { place = name_place; attr = record { protected = false; numeric = false; display = Normal; mdt = mdt }; text = text }

named : AreFilledIn (example.fields 0) (pressed Enter (typing_sign_on no_message))
named zero field at required =
    subst (λ (f : PanelField). IsFilledIn f (pressed Enter (typing_sign_on no_message))) (same_Some name_field field at)
    (record {
      text = 0xC1 ∷ [];
      shown = record { stands = record { index = 1; on_screen = name_on true (0xC1 ∷ 0 ∷ 0 ∷ []); listed = refl; place = refl; text_is = refl }; length_is = refl };
      filled = refl;
    })
named (suc zero) field at required = absurd (let both : false ≡ true = ap (λ (f : PanelField). f.required) (same_Some letter_field field at) ∙ required in cc)
named (suc (suc index)) field at required = absurd (cc)

keys_of_the_sign_on : KeysOfTheSignOn
keys_of_the_sign_on = record {
  pf5 = leads_alone (pressed (Pf 5) fresh_sign_on) 1 Fresh false (IsLedTo.target 1 refl (λ enter. absurd (cc)) refl refl refl);
  named = leads_alone (pressed Enter (typing_sign_on no_message)) 1 Fresh false (IsLedTo.target 1 refl (λ enter. named) refl refl refl);
  unnamed = leads_alone (pressed Enter fresh_sign_on) 0 (Required name_field.number) true
      (IsLedTo.required name_field.number refl (λ none. absurd (cc))
      (record {
        index = 0;
        field = name_field;
        listed = refl;
        number_is = refl;
        required = refl;
        blank = record {
          text = [];
          shown = record { stands = record { index = 1; on_screen = name_on false (0 ∷ 0 ∷ 0 ∷ []); listed = refl; place = refl; text_is = refl }; length_is = refl };
          blank = refl;
        };
        earlier = λ index field at required. absurd (cc);
      }) refl refl refl);
  pf1 = leads_alone (pressed (Pf 1) fresh_sign_on) 0 KeyNotActive true (IsLedTo.not_active refl refl refl refl refl);
}

pub leading_run : LeadingRun
unfolding is_well_formed is_well_noted
leading_run = record { are_events = are_events cleared_greeting refl; led_on = shows_the_greeting; keys = keys_of_the_sign_on; led_back = shows_the_sign_on }
