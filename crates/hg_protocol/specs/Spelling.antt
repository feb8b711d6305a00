-- The bytes sent for a reply: one frame, several or none.
use Rattle.std.specs.Prelude.{ℕ, ◌+◌, ◌≤◌, List, [], ◌∷◌, ◌++◌, length}
use Rattle.std.specs.List.{AllByRecursion}
use Rattle.hg_protocol.specs.declared.reply.TheConstants.{MOST_REPLY_LINE}
use Rattle.hg_model.specs.declared.report.Report.{Report}
use Rattle.hg_model.specs.ThreadSets.{IsThreadSet}
use Rattle.hg_wire.specs.Reports.{report_line, end_line}
use Rattle.hg_protocol.specs.declared.lines.ReportLines.{ReportLines}
use Rattle.hg_protocol.specs.declared.reply.Reply.{Reply}
use Rattle.hg_protocol.specs.declared.reply.Reply.TheVariants.{Welcome, Accepted, Duplicate, Refused, Ack, Line, Fault, Lines, Nothing}
use Rattle.hg_protocol.specs.Framing.{framed}
use Rattle.hg_protocol.specs.Replies.{line_body, reply_body}

-- the frames of the reports that are kept from number k on
abbrev pub report_frames : ℕ → List Report → List ℕ
report_frames k [] = []
report_frames k (report ∷ reports) = framed (line_body (report_line k report)) ++ report_frames (k + 1) reports

-- the frames of the reports, and that of the end line
abbrev pub lines_text : ReportLines → List ℕ
lines_text lines = report_frames 1 lines.reports ++ framed (line_body (end_line lines.events lines.races lines.segments))

-- The bytes sent for a reply.
abbrev pub reply_text : Reply → List ℕ
reply_text (Welcome last) = framed (reply_body (Welcome last))
reply_text (Accepted number) = framed (reply_body (Accepted number))
reply_text (Duplicate last) = framed (reply_body (Duplicate last))
reply_text (Refused number code expected) = framed (reply_body (Refused number code expected))
reply_text (Ack number) = framed (reply_body (Ack number))
reply_text (Line line) = framed (reply_body (Line line))
reply_text (Fault code) = framed (reply_body (Fault code))
reply_text (Lines lines) = lines_text lines
reply_text Nothing = []

-- Each line of the reply fits a frame: the threads of each report are a set of threads, as they are in a detector.
abbrev pub FitsFrames : Reply → Type 0
FitsFrames (Welcome last) = Unit {0}
FitsFrames (Accepted number) = Unit {0}
FitsFrames (Duplicate last) = Unit {0}
FitsFrames (Refused number code expected) = Unit {0}
FitsFrames (Ack number) = Unit {0}
FitsFrames (Line line) = length line ≤ MOST_REPLY_LINE
FitsFrames (Fault code) = Unit {0}
FitsFrames (Lines lines) = AllByRecursion (λ r. IsThreadSet r.threads) lines.reports
FitsFrames Nothing = Unit {0}
