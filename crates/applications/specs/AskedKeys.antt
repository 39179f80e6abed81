-- The refusal of panels that ask an application, by a job that has none (our profile): panel, key, and line.
use Rattle.std.specs.Prelude.{ℕ, List, [], ◌∷◌, ◌++◌, map, codes, Option, Some, None, if◌then◌else◌}
use Rattle.std.specs.List.{find, range_with_len}
use Rattle.std.specs.Option.{option_map_or, option_or}
use Rattle.codes3270.specs.declared.attention.Aid.{Aid}
use Rattle.codes3270.specs.declared.attention.Aid.TheVariants.{NoAid, Enter, Clear, Pa, Pf}
use Rattle.panels.specs.Panel.{PanelParts, is_asked}
use Rattle.applications.specs.Applications.{key_name}
use Rattle.applications.specs.declared.asked_key.JobWithoutApplication.{JobWithoutApplication}
use Rattle.applications.specs.declared.asked_key.JobWithoutApplication.TheVariants as refusing

-- the first of these keys that a panel asks about
abbrev pub asked_among : PanelParts → List Aid → Option Aid
asked_among panel keys = find (is_asked panel) keys

-- The first key that a panel asks about, in the order Enter, Clear, PA1 to PA3, PF1 to PF24; before all keys no AID, if
-- it asks at connect.
abbrev pub asked_key : PanelParts → Option Aid
asked_key panel =
    if is_asked panel NoAid then Some NoAid
    else if is_asked panel Enter then Some Enter
    else if is_asked panel Clear then Some Clear
    else option_or (asked_among panel (map Pa (range_with_len 1 3))) (asked_among panel (map Pf (range_with_len 1 24)))

-- the name of the first panel that asks, and its first such key
abbrev pub first_asked : List PanelParts → Option (List ℕ × Aid)
first_asked [] = None
first_asked (panel ∷ panels) = option_map_or (λ key. Some (panel.name, key)) (asked_key panel) (first_asked panels)

-- the advice of a job without an application
abbrev pub advice_of : JobWithoutApplication → List ℕ
advice_of refusing.Serve = codes "; give --application URL"
advice_of refusing.Host = codes "; host has no application: use serve --application URL"

-- the line by which a job refuses the panels
abbrev pub asked_text : (panel : List ℕ) → Aid → JobWithoutApplication → List ℕ
asked_text panel key by =
    codes "panel " ++ (panel ++ (codes " asks the application about " ++ (key_name key ++ advice_of by)))

-- the exit status of the refusal
abbrev pub panels_ask : ℕ
panels_ask = 2
