-- Definition: part of what `check` promises. The lines that a run prints, without their line feeds.
use Rattle.std.specs.Prelude.{ℕ, ◌-◌, ◌/◌, ◌%◌, ◌^◌, Bool, List, [], ◌∷◌, ◌++◌, map, codes, if◌then◌else◌}
use Rattle.std.specs.List.{join_with_byte, range_with_len}
use Rattle.std.specs.Char.{digit_char}
use Rattle.std.specs.Fmt.{decimal}
use Rattle.hg_model.specs.declared.report.Report.{Report}
use Rattle.hg_model.specs.declared.segment.Segment.{Segment}

-- Sixteen hexadecimal digits, the highest first: the digit at the place i from the left counts 16 ^ (15 - i).
abbrev pub sixteen_digits : ℕ → List ℕ
sixteen_digits n = map (λ i. digit_char (n / 16 ^ (15 - i) % 16)) (range_with_len 0 16)

abbrev pub access_name : Bool → List ℕ
access_name write = if write then codes " write" else codes " read"

-- the line of a report up to its threads
abbrev pub report_front : ℕ → Report → List ℕ
report_front k report =
    codes "race " ++ decimal k ++ codes " event " ++ decimal report.event ++ access_name report.write ++ codes " thread " ++ decimal report.thread
    ++ codes " word 0x" ++ sixteen_digits report.word ++ codes " threads "

-- The line of kept report number k.
abbrev pub report_line : ℕ → Report → List ℕ
report_line k report = report_front k report ++ join_with_byte 44 (map decimal report.threads)

-- The last line of a run that was not refused.
abbrev pub end_line : ℕ → ℕ → ℕ → List ℕ
end_line events races segments = codes "end events " ++ decimal events ++ codes " races " ++ decimal races ++ codes " segments " ++ decimal segments

-- `refused line N code C`: the number of the event's line, and the refusal's code.
abbrev pub refused_line : ℕ → ℕ → List ℕ
refused_line line code = codes "refused line " ++ decimal line ++ codes " code " ++ decimal code

-- `bad line N`: the number of a line that was not understood.
abbrev pub bad_line : ℕ → List ℕ
bad_line line = codes "bad line " ++ decimal line

-- The line of a fault.
abbrev pub fault_line : ℕ → List ℕ
fault_line code = codes "fault " ++ decimal code

-- the numbers of the segments right before one, or a hyphen for none
abbrev pub predecessors_text : List ℕ → List ℕ
predecessors_text [] = codes "-"
predecessors_text (n ∷ numbers) = join_with_byte 44 (map decimal (n ∷ numbers))

-- the line of a segment up to its predecessors
abbrev pub segment_front : ℕ → ℕ → List ℕ
segment_front number thread = codes "segment " ++ decimal number ++ codes " thread " ++ decimal thread ++ codes " after "

-- The line of the segment with this number. Segments are numbered from 0 in the order of opening.
abbrev pub segment_line : ℕ → Segment → List ℕ
segment_line number segment = segment_front number segment.thread ++ predecessors_text segment.before
