-- The begin of `EveryTerminalOverBytes` that the example has.
use Rattle.std.proofs.Common.{◌≡◌, ◌<◌, lit≤, ℕ, zero, suc, true, false, Option, None, Some, List, [], ◌∷◌, ◌++◌, refl, ap, sym, subst, ◌∙◌}
use Rattle.std.specs.Prelude.{option_and_then, replicate, slice_get, slice_index_or}
use Rattle.std.proofs.lemmas.List.{length-replicate}
use Rattle.std.proofs.lemmas.List.Elements.{All-nil}
use Rattle.std.proofs.lemmas.Option.{same_Some}
use Rattle.codes3270.specs.Size.{cells_in, model_2}
use Rattle.codes3270.specs.declared.attribute.Cell.TheVariants.{Char}
use Rattle.codes3270.specs.declared.size.Model.TheVariants.{M2, M5}
use Rattle.keyboard.specs.declared.key.Key.TheVariants.{Enter}
use Rattle.keyboard.specs.declared.key.Refusal.TheVariants.{Locked}
use Rattle.lu_pool.specs.Pool.{Holds, entry}
use Rattle.lu_pool.specs.declared.entry.Entry.{Entry}
use Rattle.panels.specs.Panel.{AreSound, HasItemsApart, HaveNumbersApart, IsLaidOut, IsOfCharacters, IsOtherwise, PanelParts, ShowsItsValues, target_at, target_of}
use Rattle.telnet_wire.specs.Laws.{ItemsAreRead}
use Rattle.telnet_wire.specs.Reading.{nothing}
use Rattle.tn3270e_msg.specs.Device.{device_for, device_of}
use Rattle.host_core.specs.Application.{application_of}
use Rattle.host_core.specs.Laws.{PanelsAreShown, ServedIsMarked}
use Rattle.host_core.specs.Sound.{HoldsJust, IsShown, IsSound}
use Rattle.host_core.specs.State.{Connection, Service, lu_of, state_at, unused}
use Rattle.host_core.specs.declared.terminals.Terminals.TheVariants.{Any}
use Rattle.world3270.specs.declared.event.Event.TheVariants as event
use Rattle.world3270.specs.declared.event.Stepped.TheVariants as stepped
use Rattle.world3270.specs.examples.ExampleApplication.{example, example_pool, l1}
use Rattle.world3270.specs.examples.ExampleBytes.{ABeginIsThere, agreed_byte_world, agreed_bytes, agreed_host, agreed_seen, agreed_session, agreed_world, bound_talk, empty_panel, enter_refused, one_panel}
use Rattle.world3270.specs.examples.ExampleEnds.{l1_held, rounds}
use Rattle.world3270.specs.model.ByteSteps.{Presses}
use Rattle.world3270.specs.model.Terminal.{new_display}
use Rattle.world3270.specs.model.World.{World, new_world}
use Rattle.world3270.specs.refinement.MessageLaws.{MessageLaws}
use Rattle.world3270.specs.refinement.Readings.{IsReadAs}
use Rattle.world3270.specs.refinement.Represents.{RepresentsDown, without}
use Rattle.world3270.specs.refinement.Ignored.{is_ignored_by_terminal, without_ignored}
use Rattle.world3270.specs.statement.EveryTerminal.{FirstPaint, LinkWithReport}
use Rattle.world3270.specs.statement.EveryTerminalBytes.{IsHost, Represents}
use Rattle.world3270.specs.statement.Instances.{IsAgreedOn}
use Rattle.world3270.specs.statement.WorldMoves.{GoOnAt}
use Rattle.world3270.specs.statement.Rules.{Binds}
use Rattle.world3270.proofs.ExampleGiven.{is_pool}
use Rattle.world3270.proofs.Represents.{nothing_stands}
use Rattle.world3270.proofs.RunsOfByteWorlds.{is_reached}
use Rattle.world3270.proofs.RunsOfOptions.{offers_are_refused}
use Rattle.world3270.proofs.Sendable.{blank_sendable}
use Rattle.world3270.proofs.SignedOn.{acted_on, agree, agreeing, agreement_taken, asks, request_taken}

-- ---- the panels

-- what holds of the panel holds of each
each_panel : (P : PanelParts → Type 0) → P empty_panel → (number : ℕ) (panel : PanelParts) → slice_get one_panel.panels number ≡ Some panel → P panel
each_panel P holds zero panel at = subst P (same_Some empty_panel panel at) holds
each_panel P holds (suc number) panel at = absurd (cc)

no_target : (place : Option ℕ) (target : ℕ) → option_and_then (target_at []) place ≡ Some target → ⊥
no_target None target is = absurd (cc)
no_target (Some place) target is = absurd (cc)

sound_panels : AreSound one_panel
sound_panels = record {
  linked = record {
    start = lit≤ tt;
    targets = λ p panel aid target key at. each_panel (λ (x : PanelParts). target_of x aid ≡ Some target → target < 1) (λ is. absurd (no_target _ target is)) p panel at;
  };
  otherwise = λ p panel at. each_panel (λ (x : PanelParts). IsOtherwise one_panel.panels x.model x.otherwise) refl p panel at;
  laid_out = each_panel IsLaidOut (record { texts = All-nil _; fields = All-nil _; cursor = lit≤ tt });
  characters = each_panel IsOfCharacters (record { texts = All-nil _; fills = All-nil _; titles = All-nil _ });
  apart = each_panel HasItemsApart (record {
    texts = λ i j one other below at_i at_j. absurd (cc);
    fields = λ i j one other below at_i at_j. absurd (cc);
    both = λ i j text field at_i at_j. absurd (cc);
  });
  numbers = each_panel (λ (x : PanelParts). HaveNumbersApart x.fields) (λ i j one other below at_i at_j. absurd (cc));
  values = record {
    values = λ p i j panel one other below at at_i at_j. absurd ((each_panel (λ (x : PanelParts). slice_get x.values i ≡ Some one → ⊥) (λ none. absurd (cc)) p panel at) at_i);
    fields = λ p q i j panel other field value at at_q at_i at_j. absurd ((each_panel (λ (x : PanelParts). slice_get x.fields i ≡ Some field → ⊥) (λ none. absurd (cc)) p panel at) at_i);
  };
  shown = each_panel ShowsItsValues (λ j value at. absurd (cc));
}

-- ---- the host

unused_there : (count number : ℕ) → slice_index_or (replicate count unused) number unused ≡ unused
unused_there zero number = refl
unused_there (suc count) zero = refl
unused_there (suc count) (suc number) = unused_there count number

-- each other number is free
free_there : (number : ℕ) → state_at (suc number) agreed_host ≡ Service.Free
free_there number = ap (λ (c : Connection). c.service) (unused_there 63 number)

no_lu : (number : ℕ) → lu_of (state_at (suc number) agreed_host) ≡ None
no_lu number = ap lu_of (free_there number)

-- L1 is held by connection 0 alone
holds_l1 : (number : ℕ) (lu : List ℕ) → Holds l1_held number lu → (number ≡ 0) × (lu ≡ l1)
holds_l1 number lu (zero, at) =
    let same : entry l1 (Some 0) ≡ entry lu (Some number) = same_Some (entry l1 (Some 0)) (entry lu (Some number)) at in
    (sym (same_Some 0 number (ap (λ (e : Entry). e.holder) same)), sym (ap (λ (e : Entry). e.lu) same))
holds_l1 number lu (suc zero, at) = absurd (let none : None ≡ Some number = ap (λ (e : Entry). e.holder) (same_Some _ (entry lu (Some number)) at) in cc)
holds_l1 number lu (suc (suc place), at) = absurd (cc)

held : (number : ℕ) → HoldsJust number l1_held (lu_of (state_at number agreed_host))
held zero = λ lu. (
  λ holds. ap Some (sym (holds_l1 0 lu holds).1),
  λ is. subst (Holds l1_held 0) (same_Some l1 lu is) (0, refl),
)
held (suc number) = λ lu. (
  λ holds. absurd (let wrong : suc number ≡ 0 = (holds_l1 (suc number) lu holds).0 in cc),
  λ is. absurd (let both = sym (no_lu number) ∙ is in cc),
)

shown_on : (number : ℕ) → IsShown one_panel (state_at number agreed_host)
shown_on zero = record { there = lit≤ tt; size = refl }
shown_on (suc number) = subst (IsShown one_panel) (sym (free_there number)) tt

sound_host : IsSound agreed_host
sound_host = record {
  connections = ap suc (length-replicate 63 unused);
  sessions = length-replicate {A = ℕ} 64 0;
  held = λ number below. held number;
  shown = shown_on;
  marked = refl;
}

nobody_shares : (one other : ℕ) (lu : List ℕ) → lu_of (state_at one agreed_host) ≡ Some lu → lu_of (state_at other agreed_host) ≡ Some lu → one ≡ other
nobody_shares zero zero lu here there = refl
nobody_shares (suc one) other lu here there = absurd (let both = sym (no_lu one) ∙ here in cc)
nobody_shares zero (suc other) lu here there = absurd (let both = sym (no_lu other) ∙ there in cc)

-- ---- both ends

begin : LinkWithReport
begin = record {
  link = record {
    lost = false;
    down = [];
    up = [];
    host_here = true;
    host = agreed_session;
    term_here = Some 0;
    term = record { waits = false; talk = bound_talk; display = new_display M2 model_2 };
  };
  told = new_display M2 model_2;
  waits = true;
  cleared = false;
}

first : ServedIsMarked → FirstPaint (application_of one_panel) l1 begin
unfolding begin
first served = record {
  device = device_for M2;
  agreed = refl;
  serves = Any;
  any = refl;
  returns = served Any one_panel refl refl;
  host = refl;
  binds = Binds.bound refl refl;
  blank = refl;
  nothing_up = refl;
  host_here = refl;
  term_here = refl;
  told = refl;
  waits = refl;
  cleared = refl;
}

represents : MessageLaws → PanelsAreShown → Represents 0 agreed_bytes begin
unfolding begin
represents known panels = record {
  is_open = tt;
  stands = record {
    lost = refl;
    host_here = refl;
    term_here = refl;
    read = nothing;
    up = nothing_stands without_ignored IsReadAs refl known.links.no_bytes known.links.start;
    host = λ here. record { host = refl; rest_is = refl };
    term = λ number is. record {
      rest = nothing;
      holds = record {
        talk = bound_talk;
        attached = refl;
        is_end = record { talk_is = refl; screen_is = refl; keyboard_is = refl; last_restored_is = refl; before_restored_is = refl; erased_is = refl };
      };
      silent = refl;
      down = nothing_stands (without is_ignored_by_terminal) RepresentsDown refl known.links.no_bytes known.links.start;
    };
  };
  pressed = record { waits_is = refl; first_is = λ waits. refl; cleared_is = refl };
  unnamed = refl;
  stored = record {
    sendable = blank_sendable M2 model_2 (panels one_panel sound_panels.otherwise sound_panels.laid_out sound_panels.apart).begins;
    whole = length-replicate (cells_in model_2) (Char 0);
  };
}

-- ---- a world

-- the example from its begin, for any terminal
unfoldable start_any : World
start_any = new_world example Any example_pool (M5 ∷ [])

has_agreed : agreed_seen agreed_world ≡ record { lost = false; lu = Some l1; any = true }
unfolding start_any asks acted_on agree request_taken agreement_taken device_of
has_agreed = ap agreed_seen (agreeing example asks (rounds 0 2 ++ []) start_any (record { here = refl; up = refl }) (record { here = refl; down = refl }))

is_host : IsHost agreed_host
is_host = record { sound = sound_host; unshared = nobody_shares }

just_agreed : IsAgreedOn 0 0 l1 agreed_byte_world
just_agreed = record {
  rest = nothing;
  host = agreed_session;
  is_open = refl;
  agreed = refl;
  any = refl;
  turn = refl;
  pending = refl;
  first = refl;
  there = refl;
  live = refl;
}

goes_on : GoOnAt 0 (event.Key 0 Enter ∷ []) agreed_byte_world enter_refused
goes_on = (stepped.Refused Locked, enter_refused, (tt, tt), Presses.done refl refl, is_host, refl, refl)

pub a_begin : MessageLaws → ItemsAreRead → PanelsAreShown → ServedIsMarked → ABeginIsThere
a_begin known written panels served = record {
  panels = sound_panels;
  begins = record {
    begin = begin;
    begins = first served;
    represents = represents known panels;
    below = lit≤ tt;
    is_host = is_host;
    pool = known.worlds.given.pool.sound_granted example_pool 0 l1 (known.worlds.given.pool.sound example_pool is_pool);
  };
  refuses = offers_are_refused written;
  agreed = has_agreed;
  reached = is_reached known sound_panels;
  is_host = is_host;
  just_agreed = just_agreed;
  goes_on = goes_on;
}
