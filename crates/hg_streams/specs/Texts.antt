-- Definition: the lines that commands print.
use Rattle.std.specs.Prelude.{ℕ, ◌+◌, List, [], ◌∷◌, ◌++◌, length}
use Rattle.std.specs.Fmt.{decimal}
use Rattle.hg_model.specs.declared.report.Report.{Report}
use Rattle.hg_model.specs.declared.segment.Segment.{Segment}
use Rattle.hg_model.specs.Contents.{Content}
use Rattle.hg_wire.specs.Reports.{end_line, fault_line, report_line, segment_line}

-- a line and its line feed
abbrev pub line_text : List ℕ → List ℕ
line_text line = line ++ 10 ∷ []

-- the lines of reports, the first of which is kept as number k
abbrev pub reports_text : ℕ → List Report → List ℕ
reports_text k [] = []
reports_text k (report ∷ reports) = line_text (report_line k report) ++ reports_text (k + 1) reports

-- the lines of segments, the first of which is number k
abbrev pub segments_text : ℕ → List Segment → List ℕ
segments_text k [] = []
segments_text k (segment ∷ segments) = line_text (segment_line k segment) ++ segments_text (k + 1) segments

-- a line of a word and a number
abbrev pub number_text : List ℕ → ℕ → List ℕ
number_text word number = word ++ decimal number ++ 10 ∷ []

-- the end line: the counts of the accepted events, the reports and the segments of a content
abbrev pub counts_line : Content → List ℕ
counts_line c = end_line c.events c.total (length c.segments)

-- the line of a fault
abbrev pub fault_text : ℕ → List ℕ
fault_text code = line_text (fault_line code)
