-- Where the keys lead (our profile).
use Rattle.std.specs.Prelude.{ℕ, Bool, true, false, Option, Some, None}
use Rattle.codes3270.specs.declared.attention.Aid.{Aid}
use Rattle.panels.specs.declared.next.Next.{Next}
use Rattle.panels.specs.declared.next.Next.TheVariants.{Go, Ask, Again}
use Rattle.panels.specs.Panel.{PanelParts, is_asked, target_of}

abbrev pub next_by : Bool → Option ℕ → Next
next_by true target = Ask
next_by false None = Again
next_by false (Some panel) = Go panel

abbrev pub next_of : PanelParts → Aid → Next
next_of panel aid = next_by (is_asked panel aid) (target_of panel aid)
