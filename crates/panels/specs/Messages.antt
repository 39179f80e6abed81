-- What `{}` prints of a fault and of its place (our profile).
use Rattle.std.specs.Prelude.{ℕ, List, ◌++◌, codes, decimal}
use Rattle.panels.specs.declared.fault.At.{At}
use Rattle.panels.specs.declared.fault.At.TheVariants.{Top, Panel, Text, Field, Value}
use Rattle.panels.specs.declared.fault.TreeFault.{TreeFault}
use Rattle.panels.specs.declared.fault.TreeFault.TheVariants.{UnknownKey, Missing, BadKind, BadName, TwiceNamed, OutOfPlace, Overlap, NoCode, NoTarget, BadKey, TooMany, BadModel}
use Rattle.panels.specs.declared.fault.PanelFault.{PanelFault}
use Rattle.panels.specs.declared.fault.PanelFault.TheVariants.{Memory, NotToml, Tree}

abbrev pub place_text : At → List ℕ
place_text Top = codes "top"
place_text (Panel p) = codes "panel " ++ decimal p
place_text (Text p i) = codes "panel " ++ (decimal p ++ (codes " text " ++ decimal i))
place_text (Field p i) = codes "panel " ++ (decimal p ++ (codes " field " ++ decimal i))
place_text (Value p i) = codes "panel " ++ (decimal p ++ (codes " value " ++ decimal i))

abbrev pub tree_fault_text : TreeFault → List ℕ
tree_fault_text UnknownKey = codes "UnknownKey"
tree_fault_text Missing = codes "Missing"
tree_fault_text BadKind = codes "BadKind"
tree_fault_text BadName = codes "BadName"
tree_fault_text TwiceNamed = codes "TwiceNamed"
tree_fault_text OutOfPlace = codes "OutOfPlace"
tree_fault_text Overlap = codes "Overlap"
tree_fault_text NoCode = codes "NoCode"
tree_fault_text NoTarget = codes "NoTarget"
tree_fault_text BadKey = codes "BadKey"
tree_fault_text TooMany = codes "TooMany"
tree_fault_text BadModel = codes "BadModel"

abbrev pub fault_text : PanelFault → List ℕ
fault_text Memory = codes "no memory"
fault_text NotToml = codes "not TOML"
fault_text (Tree fault place) = place_text place ++ (codes ": " ++ tree_fault_text fault)
