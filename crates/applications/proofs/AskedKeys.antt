-- The first key that a panel asks about.
use Rattle.std.proofs.Common.{◌≡◌, ℕ, suc, ◌+◌, ◌-◌, ◌<◌, Bool, true, false, List, drop, map, Some, ap, arith, ◌∙◌, cond}
use Rattle.std.specs.List.{range_with_len}
use Rattle.std.specs.Option.{option_map_or}
use Rattle.std.specs.Prelude.{slice_get}
use Rattle.std.proofs.lemmas.List.{at_drop_more}
use Rattle.std.proofs.lemmas.Option.{get_or_from_slice_get, slice_get_within}
use Rattle.codes3270.specs.declared.attention.Aid.{Aid}
use Rattle.panels.specs.Panel.{PanelParts, is_asked}
use Rattle.applications.specs.AskedKeys.{asked_among, asked_key, first_asked}

-- the keys from a number on, one by one
next_asked : (key : ℕ → Aid) (panel : PanelParts) (number end : ℕ) → number < end
    → asked_among panel (map key (range_with_len number (end - number)))
    ≡ cond (is_asked panel (key number)) (Some (key number)) (asked_among panel (map key (range_with_len (number + 1) (end - (number + 1)))))
next_asked key panel number end below =
    let more : end - number ≡ suc (end - (number + 1)) = omega (arith, below) in
    ap (λ (count : ℕ). asked_among panel (map key (range_with_len number count))) more

pub found_asked : (key : ℕ → Aid) (panel : PanelParts) (number end : ℕ) → number < end → is_asked panel (key number) ≡ true
    → asked_among panel (map key (range_with_len number (end - number))) ≡ Some (key number)
found_asked key panel number end below is =
    next_asked key panel number end below ∙ ap (λ (b : Bool). cond b (Some (key number)) (asked_among panel (map key (range_with_len (number + 1) (end - (number + 1)))))) is

pub passed_asked : (key : ℕ → Aid) (panel : PanelParts) (number end : ℕ) → number < end → is_asked panel (key number) ≡ false
    → asked_among panel (map key (range_with_len number (end - number))) ≡ asked_among panel (map key (range_with_len (number + 1) (end - (number + 1))))
passed_asked key panel number end below is =
    next_asked key panel number end below ∙ ap (λ (b : Bool). cond b (Some (key number)) (asked_among panel (map key (range_with_len (number + 1) (end - (number + 1)))))) is

-- ---- a search among panels

-- what is found from a panel on
pub at_panel : (panels : List PanelParts) (index : ℕ) (panel : PanelParts) → slice_get panels index ≡ Some panel
    → first_asked (drop index panels) ≡ option_map_or (λ key. Some (panel.name, key)) (asked_key panel) (first_asked (drop (index + 1) panels))
at_panel panels index panel is =
    at_drop_more first_asked panels index panel (slice_get_within panels index panel is)
    ∙ ap (λ (p : PanelParts). option_map_or (λ key. Some (p.name, key)) (asked_key p) (first_asked (drop (index + 1) panels))) (get_or_from_slice_get panels index panel panel is)
