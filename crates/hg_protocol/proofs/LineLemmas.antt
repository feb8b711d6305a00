-- The line of a report, and the end line, fit a frame.
use Rattle.std.proofs.Common.{ℕ, ◌+◌, ◌*◌, ◌<◌, ◌≤◌, ◌^◌, List, [], ◌∷◌, ◌++◌, length, map, codes, Bool, true, false, arith}
use Rattle.std.specs.Fmt.{decimal}
use Rattle.std.specs.List.{join_with_byte}
use Rattle.std.proofs.lemmas.Fmt.{length-decimal-le}
use Rattle.std.proofs.lemmas.List.{length-append}
use Rattle.hg_model.specs.declared.report.Report.{Report}
use Rattle.hg_model.specs.ThreadSets.{IsThreadSet, RisesFrom}
use Rattle.hg_model.proofs.ThreadSets.{few}
use Rattle.hg_wire.specs.Reports.{access_name, end_line, report_front, report_line, sixteen_digits}

few_digits : (t : ℕ) → t ≤ 1023 → length (decimal t) ≤ 4
few_digits t small = length-decimal-le 4 t (omega arith) (omega arith) (omega arith)

threads_len : (n : ℕ) (ts : List ℕ) → RisesFrom n ts → length (join_with_byte 44 (map decimal ts)) ≤ 5 * length ts
threads_len n [] rises = omega arith
threads_len n (t ∷ []) rises = let one = few_digits t rises.1 in omega (arith, one)
threads_len n (t ∷ u ∷ ts) rises =
    let one = few_digits t rises.1 in
    let more = threads_len (t + 1) (u ∷ ts) rises.2 in
    let all = length-append (decimal t) (44 ∷ join_with_byte 44 (map decimal (u ∷ ts))) in
    omega (arith, one, more, all)

long_digits : (n : ℕ) → n < 2 ^ 64 → length (decimal n) ≤ 20
long_digits n small = length-decimal-le 20 n (omega arith) (omega arith) small

name_len : (write : Bool) → length (access_name write) ≤ 6
name_len true = omega arith
name_len false = omega arith

-- the length of a row of pieces is at most the sum of bounds of its pieces
joined : (xs ys : List ℕ) (m n : ℕ) → length xs ≤ m → length ys ≤ n → length (xs ++ ys) ≤ m + n
joined xs ys m n few more = let all = length-append xs ys in omega (arith, few, more, all)

front_len : (k : ℕ) (r : Report) → k < 2 ^ 64 → r.event < 2 ^ 64 → r.thread < 2 ^ 64 → length (report_front k r) ≤ 119
front_len k r small event thread =
    let to_place = codes "race " ++ decimal k in
    let to_place_len : length to_place ≤ 25 = joined (codes "race ") (decimal k) 5 20 (omega arith) (long_digits k small) in
    let to_event = to_place ++ codes " event " in
    let to_event_len : length to_event ≤ 32 = joined to_place (codes " event ") 25 7 to_place_len (omega arith) in
    let event_told = to_event ++ decimal r.event in
    let event_told_len : length event_told ≤ 52 = joined to_event (decimal r.event) 32 20 to_event_len (long_digits r.event event) in
    let access_told = event_told ++ access_name r.write in
    let access_told_len : length access_told ≤ 58 = joined event_told (access_name r.write) 52 6 event_told_len (name_len r.write) in
    let to_thread = access_told ++ codes " thread " in
    let to_thread_len : length to_thread ≤ 66 = joined access_told (codes " thread ") 58 8 access_told_len (omega arith) in
    let thread_told = to_thread ++ decimal r.thread in
    let thread_told_len : length thread_told ≤ 86 = joined to_thread (decimal r.thread) 66 20 to_thread_len (long_digits r.thread thread) in
    let to_word = thread_told ++ codes " word 0x" in
    let to_word_len : length to_word ≤ 94 = joined thread_told (codes " word 0x") 86 8 thread_told_len (omega arith) in
    let word_told = to_word ++ sixteen_digits r.word in
    let word_told_len : length word_told ≤ 110 = joined to_word (sixteen_digits r.word) 94 16 to_word_len (omega arith) in
    joined word_told (codes " threads ") 110 9 word_told_len (omega arith)

-- The line of a report with few threads fits a frame.
pub report_line_len : (k : ℕ) (r : Report) → k < 2 ^ 64 → r.event < 2 ^ 64 → r.thread < 2 ^ 64 → IsThreadSet r.threads → length (report_line k r) ≤ 8191
report_line_len k r small event thread rises =
    let front = front_len k r small event thread in
    let back = threads_len 0 r.threads rises in
    let count = few r.threads rises in
    let all = length-append (report_front k r) (join_with_byte 44 (map decimal r.threads)) in
    omega (arith, front, back, count, all)

-- The end line fits a frame.
pub end_line_len : (events races segments : ℕ) → events < 2 ^ 64 → races < 2 ^ 64 → segments < 2 ^ 64 → length (end_line events races segments) ≤ 8191
end_line_len events races segments a b c =
    let events_told = codes "end events " ++ decimal events in
    let events_told_len : length events_told ≤ 31 = joined (codes "end events ") (decimal events) 11 20 (omega arith) (long_digits events a) in
    let to_races = events_told ++ codes " races " in
    let to_races_len : length to_races ≤ 38 = joined events_told (codes " races ") 31 7 events_told_len (omega arith) in
    let races_told = to_races ++ decimal races in
    let races_told_len : length races_told ≤ 58 = joined to_races (decimal races) 38 20 to_races_len (long_digits races b) in
    let to_segments = races_told ++ codes " segments " in
    let to_segments_len : length to_segments ≤ 68 = joined races_told (codes " segments ") 58 10 races_told_len (omega arith) in
    let all = joined to_segments (decimal segments) 68 20 to_segments_len (long_digits segments c) in
    omega (arith, all)
