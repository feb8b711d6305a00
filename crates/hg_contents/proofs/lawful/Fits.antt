-- What is lawful has a spelling.
use Rattle.std.proofs.Common.{◌≡◌, ℕ, ◌≤◌, ◌<◌, ◌^◌, Bool, true, false, cond, ◌&&◌, nat_eq, nat_lt, List, [], ◌∷◌, length, take, get_or, All, Contains, sym, subst, arith, length-take}
use Rattle.std.specs.List.{AllByRecursion}
use Rattle.std.proofs.lemmas.Bool.{and_parts, false≢true, ltb-true}
use Rattle.std.proofs.lemmas.List.Elements.{recursion_from_All}
use Rattle.std.proofs.lemmas.Option.{slice_get-get_or}
use Rattle.hg_model.specs.declared.segment.Segment.{Segment}
use Rattle.hg_model.specs.declared.thread.ThreadState.{ThreadState}
use Rattle.hg_cells.specs.declared.report.KeptReport.{KeptReport}
use Rattle.hg_model.specs.Restoring.{marks_lawfully}
use Rattle.hg_graph.specs.Graph.{names}
use Rattle.hg_graph.specs.Restoring.{AreSegments, are_predecessors, former, has_former, has_thread, stands_behind}
use Rattle.hg_root.specs.Grammar.{LockFits, MarkFits, ReportFits, SegmentFits, ThreadFits}
use Rattle.hg_root.specs.Lawful.{AreHeld, IsReport, named_threads}
use Rattle.hg_sets.specs.Interning.{set_at}
use Rattle.hg_contents.proofs.lawful.Changing.{numbers}
use Rattle.hg_contents.proofs.lawful.Fitting.{numbered}
use Rattle.hg_contents.proofs.lawful.Lists.{each_with, few_mapped}
use Rattle.hg_contents.proofs.lawful.Numbers.{few_pass}
use Rattle.hg_contents.proofs.lawful.Living.{each_unmapped}

predecessors_fit : (n : ℕ) (xs : List ℕ) → n ≤ 1048576 → are_predecessors n xs ≡ true → (length xs < 2 ^ 8) × AllByRecursion (λ k. k < 2 ^ 32) xs
predecessors_fit n [] few are = (omega arith, tt)
predecessors_fit n (a ∷ []) few are = let lt = ltb-true a n are in (omega arith, (omega (arith, lt, few), tt))
predecessors_fit n (a ∷ b ∷ []) few are =
    let parts = and_parts (nat_lt a b) (nat_lt b n) are in
    let first = ltb-true a b parts.0 in
    let second = ltb-true b n parts.1 in
    (omega arith, (omega (arith, first, second, few), (omega (arith, second, few), tt)))
predecessors_fit n (a ∷ b ∷ d ∷ xs) few are = absurd (false≢true are)

thread_fits : (n t : ℕ) → has_thread n t ≡ true → t < 2 ^ 16
thread_fits n t has = pick (nat_eq n 0) (ltb-true t (cond (nat_eq n 0) 1 1024) has)
  where
    pick : (b : Bool) → t < cond b 1 1024 → t < 2 ^ 16
    pick true lt = omega (arith, lt)
    pick false lt = omega (arith, lt)

segment_fits : (earlier : List Segment) (s : Segment) → length earlier ≤ 1048576 → stands_behind earlier s ≡ true → MarkFits s.mark → SegmentFits s
segment_fits earlier s few stands mark =
    let parts = and_parts (has_thread (length earlier) s.thread) (are_predecessors (length earlier) s.before && (has_former (former earlier s.thread) s.before && marks_lawfully earlier s.mark s)) stands in
    let others = and_parts (are_predecessors (length earlier) s.before) (has_former (former earlier s.thread) s.before && marks_lawfully earlier s.mark s) parts.1 in
    (thread_fits (length earlier) s.thread parts.0, (predecessors_fit (length earlier) s.before few others.0, mark))

pub segments_fit : (segments : List Segment) → length segments ≤ 1048576 → AreSegments segments → All (λ s. MarkFits s.mark) segments → AllByRecursion SegmentFits segments
segments_fit segments few are marks =
    recursion_from_All SegmentFits segments
    (λ k d lt. segment_fits (take k segments) (get_or segments k d) (omega (arith, few, length-take k segments)) (are k (get_or segments k d) (slice_get-get_or segments k d lt)) (marks k d lt))

pub threads_few : (threads : List ThreadState) (segments : List Segment) → numbers threads ≡ named_threads segments → length threads ≤ 1024
unfolding named_threads
threads_few threads segments named = few_mapped (λ (t : ThreadState). t.number) threads 1024 (subst (λ (ns : List ℕ). length ns ≤ 1024) (sym named) (few_pass (names segments) 0 1024))

pub threads_fit : (threads : List ThreadState) (segments : List Segment) → numbers threads ≡ named_threads segments → All (λ t. AreHeld t.held) threads → All (λ t. All LockFits t.held) threads → AllByRecursion ThreadFits threads
threads_fit threads segments named held locks =
    each_with (λ x. x.number < 1024) (λ x. AreHeld x.held × All LockFits x.held) ThreadFits
    (λ x small is. let few = is.0.1 in (omega (arith, small), (omega (arith, few), recursion_from_All LockFits x.held is.1))) threads
    (each_unmapped (λ n. n < 1024) threads (numbered threads segments named).small)
    (each_with (λ x. AreHeld x.held) (λ x. All LockFits x.held) (λ x. AreHeld x.held × All LockFits x.held) (λ x a b. (a, b)) threads (recursion_from_All (λ (x : ThreadState). AreHeld x.held) threads held) (recursion_from_All (λ (x : ThreadState). All LockFits x.held) threads locks))

member_small : (xs : List ℕ) (t : ℕ) → Contains xs t → All (λ n. n ≤ 1023) xs → t ≤ 1023
member_small xs t (k, lt, is) all = subst (λ (n : ℕ). n ≤ 1023) is (all k t lt)

pub report_fits : (events : ℕ) (sets : List (List ℕ)) (r : KeptReport) → events ≤ 2 ^ 58 → length sets ≤ 262144 → r.word < 2 ^ 64 → IsReport events sets r → ReportFits r
report_fits events sets r few many word is =
    let event = is.event.1 in
    let set = is.set in
    let thread = member_small (set_at sets r.threads) r.thread is.member is.threads in
    (omega (arith, event, few), (word, (omega (arith, thread), omega (arith, set, many))))
