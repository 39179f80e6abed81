-- How a report is printed (our profile).
use Rattle.std.specs.Prelude.{ℕ, ◌-◌, ◌==◌, List, [], ◌++◌, length, Option, None, Some, codes, string_bytes, if◌then◌else◌}
use Rattle.std.specs.Fmt.{decimal}
use Rattle.std.specs.List.{flat_map}
use Rattle.panel_check.specs.Report.{fault_count, is_fault}
use Rattle.panel_check.specs.declared.report.Finding.{Finding}
use Rattle.panel_check.specs.declared.report.Report.{Report}
use Rattle.panel_check.specs.declared.report.Sizes.{Sizes}

-- the line, `warning: ` unless it is a fault, and the words
abbrev pub finding_text : Finding → List ℕ
finding_text finding =
    decimal finding.line ++ (codes ": " ++ ((if is_fault finding.cause then [] else codes "warning: ")
    ++ string_bytes finding.words))

-- the line of a finding in a file with this name
abbrev pub finding_line : (name : List ℕ) → Finding → List ℕ
finding_line name finding = name ++ (codes ":" ++ (finding_text finding ++ codes "\n"))

-- a number and a noun, which is in the plural unless the number is 1
abbrev pub counted : ℕ → List ℕ → List ℕ
counted number noun = decimal number ++ (codes " " ++ (noun ++ (if number == 1 then [] else codes "s")))

abbrev pub sizes_text : Sizes → List ℕ
sizes_text sizes =
    codes "ok: " ++ (counted sizes.panels (codes "panel") ++ (codes ", " ++ (counted sizes.fields (codes "field")
    ++ (codes ", " ++ counted sizes.lus (codes "LU")))))

-- the sizes of a text without a fault, or else the number of faults
abbrev pub verdict_text : Option Sizes → (faults : ℕ) → List ℕ
verdict_text None faults = counted faults (codes "fault")
verdict_text (Some sizes) faults = if faults == 0 then sizes_text sizes else counted faults (codes "fault")

-- the number of warnings, if there are any
abbrev pub warnings_text : (warnings : ℕ) → List ℕ
warnings_text warnings = if warnings == 0 then [] else codes ", " ++ counted warnings (codes "warning")

-- a line for each finding, in the order of the report, and one with the totals
abbrev pub report_text : (name : List ℕ) → Report → List ℕ
report_text name report =
    flat_map (finding_line name) report.findings.items
    ++ (verdict_text report.sizes (fault_count report.findings.items)
    ++ (warnings_text (length report.findings.items - fault_count report.findings.items) ++ codes "\n"))
