-- A whole body: what is read is a root, and a root is read.
use Rattle.std.proofs.Common.{◌≡◌, ℕ, zero, suc, ◌+◌, ◌<◌, ◌≤◌, Bool, true, false, cond, eqb, ◌&&◌, List, [], ◌∷◌, ◌++◌, length, get_or, take, ⊎_elim, map, filter, Option, Some, None, inl, inr, Result, Ok, Err, refl, sym, ap, subst, ◌∙◌, append_assoc, append-nil, arith}
use Rattle.std.specs.Prelude.{IfOk}
use Rattle.std.specs.Int.{w64, to_be_bytes}
use Rattle.std.specs.List.{AllByRecursion, range_with_len}
use Rattle.std.proofs.lemmas.Bool.{and_parts, eqb-true, false≢true}
use Rattle.std.proofs.lemmas.List.{nil_from_length}
use Rattle.std.proofs.lemmas.Option.{slice_get-get_or}
use Rattle.std.proofs.lemmas.List.Elements.{All-from_recursion, recursion_from_All}
use Rattle.hg_model.specs.Segments.{present}
use Rattle.hg_model.specs.declared.segment.Mark.TheVariants.{Plain}
use Rattle.hg_model.specs.declared.segment.Segment.{Segment}
use Rattle.hg_model.specs.declared.thread.ThreadState.{ThreadState}
use Rattle.hg_graph.specs.Graph.{names}
use Rattle.hg_graph.specs.Restoring.{AreSegments, are_predecessors, former, has_former, has_thread, stands_behind}
use Rattle.hg_model.specs.Restoring.{marks_lawfully}
use Rattle.hg_model.proofs.Graph.{last_of_lt}
use Rattle.hg_root.specs.Body.{BackParts, FrontParts, back_at, form_at, front_at, front_in, header_number, middle_at}
use Rattle.hg_root.specs.Checking.{IsChecked, made_parts}
use Rattle.hg_root.specs.Grammar.{MarkFits, SegmentFits, ThreadFits, header, many_text, pages_text, report_text, segment_text, text_in, set_text, some_text, source_text, thread_text}
use Rattle.hg_root.specs.Fault.{IsDamagedOrMemory}
use Rattle.hg_root.specs.Lawful.{AreHeld, IsRoot, IsSpelled, named_threads}
use Rattle.hg_root.specs.Parts.{Parts}
use Rattle.hg_root.specs.declared.form.Form.{Form}
use Rattle.hg_root.specs.declared.form.Form.TheVariants.{Former, Written}
use Rattle.hg_root.specs.declared.fault.RootFault.{RootFault}
use Rattle.hg_root.specs.declared.fault.RootFault.TheVariants as faults
use Rattle.hg_root.specs.declared.root.Root.{Root}
use Rattle.hg_root.specs.Reading.{◌>>=◌, Fails, chained, ended}
use Rattle.hg_root.specs.Roots.{parts_of}
use Rattle.hg_root.proofs.BodyFormats.{BackFits, FrontFits, IsSegmentIn, IsThread, back_format, back_text, front_text, headed_format, middle_format}
use Rattle.hg_root.proofs.Formats.{IsBytes, bind_some, some_is}

ended_some : {A : Type 0} (b : Bool) (x y : A) → cond b (Some x) None ≡ Some y → (b ≡ true) × (x ≡ y)
ended_some true x y e = (refl, cc)
ended_some false x y e = absurd cc

abbrev pub front_of : Parts → FrontParts
front_of p = (p.number, (p.events, p.segments))

abbrev pub back_of : Parts → BackParts
back_of p = (p.sets, (p.total, (p.reports, (p.sources, p.pages))))

abbrev pub behind_threads : Parts → List ℕ
behind_threads p = back_text (back_of p) ++ []

abbrev pub behind_segments : Parts → List ℕ
behind_segments p = some_text (thread_text p.segments) p.threads ++ behind_threads p

regroup : (h a b c t s o r u p : List ℕ) → (h ++ (a ++ (b ++ (c ++ (t ++ (s ++ (o ++ (r ++ u)))))))) ++ p ≡ (h ++ (a ++ (b ++ c))) ++ (t ++ ((s ++ (o ++ (r ++ (u ++ p)))) ++ []))
regroup h a b c t s o r u p = simp (append_assoc, append-nil)

header_is : (form : Form) → to_be_bytes w64 (header_number form) ≡ header form
header_is Written = refl
header_is Former = refl

-- the header and the front
abbrev headed_text : Form → FrontParts → List ℕ
headed_text form f = to_be_bytes w64 (header_number form) ++ front_text form f

root_is : (form : Form) (p : Parts) → text_in form p ≡ headed_text form (front_of p) ++ behind_segments p
root_is form p =
    regroup (header form) (to_be_bytes w64 p.number) (to_be_bytes w64 p.events) (many_text (segment_text form) p.segments) (some_text (thread_text p.segments) p.threads) (many_text set_text p.sets) (to_be_bytes w64 p.total)
    (many_text report_text p.reports) (some_text source_text p.sources) (pages_text p.pages)
    ∙ ap (λ (h : List ℕ). (h ++ front_text form (front_of p)) ++ behind_segments p) (sym (header_is form))

-- ---- segments that a form can spell

few_before : (n : ℕ) (before : List ℕ) → are_predecessors n before ≡ true → length before ≤ 2
few_before n [] are = omega arith
few_before n (a ∷ []) are = omega arith
few_before n (a ∷ b ∷ []) are = omega arith
few_before n (a ∷ b ∷ d ∷ before) are = absurd (false≢true are)

few_behind : (earlier : List Segment) (s : Segment) → stands_behind earlier s ≡ true → length s.before ≤ 2
few_behind earlier s stands =
    let others = and_parts (has_thread (length earlier) s.thread) (are_predecessors (length earlier) s.before && (has_former (former earlier s.thread) s.before && marks_lawfully earlier s.mark s)) stands in
    few_before (length earlier) s.before (and_parts (are_predecessors (length earlier) s.before) (has_former (former earlier s.thread) s.before && marks_lawfully earlier s.mark s) others.1).0

-- those of a root have two predecessors at most
each_few : (segments : List Segment) → AreSegments segments → AllByRecursion (λ s. length s.before ≤ 2) segments
each_few segments are = recursion_from_All (λ (s : Segment). length s.before ≤ 2) segments (λ k d lt. few_behind (take k segments) (get_or segments k d) (are k (get_or segments k d) (slice_get-get_or segments k d lt)))

each_written : (segments : List Segment) → AllByRecursion SegmentFits segments → AllByRecursion (λ s. length s.before ≤ 2) segments → AllByRecursion (IsSegmentIn Written) segments
each_written [] fits few = tt
each_written (s ∷ segments) fits few = (record { thread = fits.0.0; few = few.0; each = fits.0.1.0.1; mark = fits.0.1.1 }, each_written segments fits.1 few.1)

each_former : (segments : List Segment) → AllByRecursion SegmentFits segments → AllByRecursion (λ s. length s.before ≤ 2) segments → AllByRecursion (λ s. s.mark ≡ Plain) segments → AllByRecursion (IsSegmentIn Former) segments
each_former [] fits few plain = tt
each_former (s ∷ segments) fits few plain = (record { thread = fits.0.0; few = few.0; each = fits.0.1.0.1; mark = plain.0 }, each_former segments fits.1 few.1 plain.1)

mark_fits : (form : Form) (s : Segment) → IsSegmentIn form s → MarkFits s.mark
mark_fits Written s is = is.mark
mark_fits Former s is = subst MarkFits (sym is.mark) tt

each_segment : (form : Form) (segments : List Segment) → AllByRecursion (IsSegmentIn form) segments → AllByRecursion SegmentFits segments
each_segment form [] are = tt
each_segment form (s ∷ segments) are = ((are.0.thread, ((omega (arith, are.0.few), are.0.each), mark_fits form s are.0)), each_segment form segments are.1)

each_plain : (segments : List Segment) → AllByRecursion (IsSegmentIn Former) segments → AllByRecursion (λ s. s.mark ≡ Plain) segments
each_plain [] are = tt
each_plain (s ∷ segments) are = (are.0.mark, each_plain segments are.1)

-- a body in a form that can spell its segments
to_spelled : (form : Form) (bytes : List ℕ) (p : Parts) → bytes ≡ text_in form p → AllByRecursion (IsSegmentIn form) p.segments → IsSpelled bytes p
to_spelled Written bytes p text are = inl text
to_spelled Former bytes p text are = inr (text, All-from_recursion (λ (s : Segment). s.mark ≡ Plain) p.segments (each_plain p.segments are))

each_named : (p : ℕ → Bool) (n : ℕ) (xs : List ℕ) → AllByRecursion (λ x. x < n) xs → AllByRecursion (λ x. (x < n) × (p x ≡ true)) (filter p xs)
each_named p n [] fits = tt
each_named p n (x ∷ xs) fits = pick (each_named p n xs fits.1) (p x) refl
  where
    pick : AllByRecursion (λ y. (y < n) × (p y ≡ true)) (filter p xs) → (b : Bool) → p x ≡ b → AllByRecursion (λ y. (y < n) × (p y ≡ true)) (cond b (x ∷ filter p xs) (filter p xs))
    pick rest true e = ((fits.0, e), rest)
    pick rest false e = rest

range_below : (a n m : ℕ) → a + n ≤ m → AllByRecursion (λ x. x < m) (range_with_len a n)
range_below a zero m le = tt
range_below a (suc n) m le = (omega arith, range_below (a + 1) n m (omega arith))

are_named : (segments : List Segment) → AllByRecursion (λ t. (t < 1024) × (names segments t ≡ true)) (named_threads segments)
unfolding named_threads
are_named segments = each_named (names segments) 1024 (range_with_len 0 1024) (range_below 0 1024 1024 (omega arith))

numbers_named : (segments : List Segment) (ts : List ThreadState) → AllByRecursion (λ t. (t < 1024) × (names segments t ≡ true)) (map (λ t. t.number) ts) → AllByRecursion ThreadFits ts → AllByRecursion (λ t. AreHeld t.held) ts → 0 < length segments → length segments ≤ 1048576
    → AllByRecursion (IsThread segments) ts
numbers_named segments [] named fits held some few = tt
numbers_named segments (t ∷ ts) named fits held some few = (
  record { fits = fits.0; small = named.0.0; last = ap (λ b. cond b (Some (present segments t.number)) None) named.0.1; held = held.0; few = (let lt = last_of_lt t.number 0 0 (length segments) segments some (omega arith) in omega arith) },
  numbers_named segments ts named.1 fits.1 held.1 some few,
)

each_fits : (segments : List Segment) (ts : List ThreadState) → AllByRecursion (IsThread segments) ts → AllByRecursion ThreadFits ts
each_fits segments [] is = tt
each_fits segments (t ∷ ts) is = (is.0.fits, each_fits segments ts is.1)

each_held : (segments : List Segment) (ts : List ThreadState) → AllByRecursion (IsThread segments) ts → AllByRecursion (λ t. AreHeld t.held) ts
each_held segments [] is = tt
each_held segments (t ∷ ts) is = (is.0.held, each_held segments ts is.1)

module _ (bytes : List ℕ) (p : Parts) (root : IsRoot bytes p) where
  again_in : (form : Form) → bytes ≡ text_in form p → AllByRecursion (IsSegmentIn form) p.segments → front_at bytes ≡ Some (front_of p, behind_segments p)
  again_in form text are =
      let fits = root.lawful.head.fits in
      ap front_at (text ∙ root_is form p)
      ∙ ap (λ r. r >>= λ a. Some (a.0.1, a.1)) (headed_format.again (form, front_of p) (behind_segments p) (tt, (fits.number, (fits.events, (fits.segment_count, are)))))

  pub front_again : front_at bytes ≡ Some (front_of p, behind_segments p)
  front_again =
      let fits = root.lawful.head.fits.segments in
      let few = each_few p.segments root.lawful.head.segments in
      ⊎_elim (λ text. again_in Written text (each_written p.segments fits few))
      (λ is. again_in Former is.0 (each_former p.segments fits few (recursion_from_All (λ (s : Segment). s.mark ≡ Plain) p.segments is.1))) root.spelled

  pub middle_again : middle_at p.segments (behind_segments p) ≡ Some (p.threads, behind_threads p)
  middle_again =
      let fits = root.lawful.head.fits in
      let count = root.lawful.head.segment_count in
      (middle_format p.segments).again p.threads (behind_threads p) (
        fits.thread_count,
        numbers_named p.segments p.threads (subst (λ (ts : List ℕ). AllByRecursion (λ t. (t < 1024) × (names p.segments t ≡ true)) ts) (sym root.lawful.head.named) (are_named p.segments)) fits.threads
            (recursion_from_All (λ t. AreHeld t.held) p.threads root.lawful.head.held) (omega (arith, count.0)) count.1,
      )

  pub back_again : ended back_at (behind_threads p) ≡ Some (back_of p)
  back_again =
      let fits = root.lawful.head.fits in
      ap (λ r. r >>= λ x. cond (eqb (length x.1) 0) (Some x.0) None)
      (back_format.again (back_of p) [] ((fits.set_count, fits.sets), (fits.total, ((fits.report_count, fits.reports), ((fits.source_count, fits.sources), (root.lawful.pages_fit.count, root.lawful.pages_fit.each))))))

  pub is_checked : IsChecked p
  is_checked =
      let head = root.lawful.head in
      record {
        counts = record { is_number = head.number; few_events = head.events; few_reports = head.total; all_kept = head.kept };
        threads = head.threads;
        named = head.named;
        sets = head.sets;
        reports = head.reports;
        order = head.order;
        sources = head.sources;
        pages = root.lawful.pages;
      }

-- the form in which a front was read
in_form : (bytes : List ℕ) (f : FrontParts) (r1 : List ℕ) → front_at bytes ≡ Some (f, r1) → (form : Form) × (chained form_at front_in bytes ≡ Some ((form, f), r1))
in_form bytes f r1 e =
    let a = bind_some (chained form_at front_in bytes) (λ (x : (Form × FrontParts) × List ℕ). Some (x.0.1, x.1)) (f, r1) e in
    let is = some_is (a.0.0.1, a.0.1) (f, r1) a.2 in
    (a.0.0.0, a.1 ∙ ap (λ (x : FrontParts × List ℕ). Some ((a.0.0.0, x.0), x.1)) is)

pub found : (bytes : List ℕ) → IsBytes bytes → (f : FrontParts) (r1 : List ℕ) (threads : List ThreadState) (r2 : List ℕ) (b : BackParts) → front_at bytes ≡ Some (f, r1) → AreSegments f.1.1 → (1 ≤ length f.1.1) × (length f.1.1 ≤ 1048576)
    → middle_at f.1.1 r1 ≡ Some (threads, r2) → ended back_at r2 ≡ Some b → IsChecked (made_parts f.0 f.1.0 f.1.1 threads b) → IsRoot bytes (made_parts f.0 f.1.0 f.1.1 threads b)
found bytes are f r1 threads r2 b e1 segments count e2 e3 checked =
    let form = (in_form bytes f r1 e1).0 in
    let one = headed_format.takes bytes (form, f) r1 are (in_form bytes f r1 e1).1 in
    let front : FrontFits form f = one.1.1 in
    let two = (middle_format f.1.1).takes r1 threads r2 one.0.rest_fits e2 in
    let last = bind_some (back_at r2) (λ x. cond (eqb (length x.1) 0) (Some x.0) None) b e3 in
    let done = ended_some (eqb (length last.0.1) 0) last.0.0 b last.2 in
    let nothing : last.0.1 ≡ [] = nil_from_length last.0.1 (eqb-true _ _ done.0) in
    let three = back_format.takes r2 last.0.0 last.0.1 two.0.rest_fits last.1 in
    let back_fits : BackFits b = subst BackFits done.1 three.1 in
    let rest : r2 ≡ back_text b ++ [] = three.0.parts ∙ ap (λ (x : BackParts). back_text x ++ last.0.1) done.1 ∙ ap (λ (x : List ℕ). back_text b ++ x) nothing in
    let p = made_parts f.0 f.1.0 f.1.1 threads b in
    let text : bytes ≡ text_in form p =
    one.0.parts ∙ ap (λ (x : List ℕ). headed_text form f ++ x) (two.0.parts ∙ ap (λ (x : List ℕ). some_text (thread_text f.1.1) threads ++ x) rest) ∙ sym (root_is form p) in
    record {
      spelled = to_spelled form bytes p text front.1.1.1;
      lawful = record {
        head = record {
          fits = record {
            number = front.0;
            events = front.1.0;
            segment_count = front.1.1.0;
            segments = each_segment form f.1.1 front.1.1.1;
            thread_count = two.1.0;
            threads = each_fits f.1.1 threads two.1.1;
            set_count = back_fits.0.0;
            sets = back_fits.0.1;
            total = back_fits.1.0;
            report_count = back_fits.1.1.0.0;
            reports = back_fits.1.1.0.1;
            source_count = back_fits.1.1.1.0.0;
            sources = back_fits.1.1.1.0.1;
          };
          number = checked.counts.is_number;
          events = checked.counts.few_events;
          segment_count = count;
          segments = segments;
          threads = checked.threads;
          named = checked.named;
          held = All-from_recursion (λ t. AreHeld t.held) threads (each_held f.1.1 threads two.1.1);
          sets = checked.sets;
          total = checked.counts.few_reports;
          kept = checked.counts.all_kept;
          reports = checked.reports;
          order = checked.order;
          sources = checked.sources;
        };
        pages_fit = record { count = back_fits.1.1.1.1.0; each = back_fits.1.1.1.1.1 };
        pages = checked.pages;
      };
    }

-- A body is the root of no other parts.
pub one_reading : (bytes : List ℕ) (p q : Parts) → IsRoot bytes p → IsRoot bytes q → p ≡ q
one_reading bytes p q one other =
    let first = some_is (front_of p, behind_segments p) (front_of q, behind_segments q) (sym (front_again bytes p one) ∙ front_again bytes q other) in
    let segments : p.segments ≡ q.segments = ap (λ (x : FrontParts × List ℕ). x.0.1.1) first in
    let second = some_is (p.threads, behind_threads p) (q.threads, behind_threads q)
    (sym (middle_again bytes p one) ∙ ap (λ (x : FrontParts × List ℕ). middle_at x.0.1.1 x.1) first ∙ middle_again bytes q other) in
    let third = some_is (back_of p) (back_of q) (sym (back_again bytes p one) ∙ ap (λ (x : List ThreadState × List ℕ). ended back_at x.1) second ∙ back_again bytes q other) in
    λ i. made_parts (first i).0.0 (first i).0.1.0 (first i).0.1.1 (second i).0 (third i)

pub to_root : {E : Type 0} (result : Result Root E) (bytes : List ℕ) (p : Parts) → IfOk result (λ r. parts_of r ≡ p) → IfOk result (λ r. IsChecked p) → (IsChecked p → IsRoot bytes p) → IfOk result (λ r. IsRoot bytes (parts_of r))
to_root (Ok r) bytes p is checked f = subst (IsRoot bytes) (sym is) (f checked)
to_root (Err e) bytes p is checked f = is

-- nothing was read where a root would have been
none_there : {A : Type 0} (read : Option A) (x : A) → read ≡ None → read ≡ Some x → ⊥
none_there read x none some = clash x (sym none ∙ some)
  where
    clash : {B : Type 0} (y : B) → None ≡ Some y → ⊥
    clash y e = absurd cc

pub err_is : {T : Type 0} (a b : RootFault) → ◌≡◌ {A = Result T RootFault} (Err a) (Err b) → a ≡ b
err_is a b e = cc

pub refuses : {A : Type 0} (fault : RootFault) (bytes : List ℕ) (read : Option A) → Fails fault read → ((p : Parts) → IsRoot bytes p → (x : A) × (read ≡ Some x)) → fault ≡ faults.Damaged → (p : Parts) → IsRoot bytes p → ⊥
refuses faults.Damaged bytes read fails there is p root = let x = there p root in none_there read x.0 fails x.1
refuses faults.OutOfMemory bytes read fails there is p root = absurd cc
refuses faults.Broken bytes read fails there is p root = fails
refuses faults.DeviceFault bytes read fails there is p root = fails

pub fails_so : {A : Type 0} (fault : RootFault) (read : Option A) → Fails fault read → IsDamagedOrMemory fault
fails_so faults.Damaged read fails = inl refl
fails_so faults.OutOfMemory read fails = inr refl
fails_so faults.Broken read fails = absurd fails
fails_so faults.DeviceFault read fails = absurd fails

module _ (bytes : List ℕ) (f : FrontParts) (r1 : List ℕ) (e1 : front_at bytes ≡ Some (f, r1)) (p : Parts) (root : IsRoot bytes p) where
  same_front : ◌≡◌ {A = FrontParts × List ℕ} (f, r1) (front_of p, behind_segments p)
  same_front = some_is (f, r1) (front_of p, behind_segments p) (sym e1 ∙ front_again bytes p root)

  pub lawful_front : (1 ≤ length f.1.1) × (length f.1.1 ≤ 1048576) × AreSegments f.1.1
  lawful_front = subst (λ (s : List Segment). (1 ≤ length s) × (length s ≤ 1048576) × AreSegments s) (sym (ap (λ (x : FrontParts × List ℕ). x.0.1.1) same_front)) (root.lawful.head.segment_count.0, root.lawful.head.segment_count.1, root.lawful.head.segments)

  pub middle_there : middle_at f.1.1 r1 ≡ Some (p.threads, behind_threads p)
  middle_there = ap (λ (x : FrontParts × List ℕ). middle_at x.0.1.1 x.1) same_front ∙ middle_again bytes p root

  module _ (threads : List ThreadState) (r2 : List ℕ) (e2 : middle_at f.1.1 r1 ≡ Some (threads, r2)) where
    same_middle : ◌≡◌ {A = List ThreadState × List ℕ} (threads, r2) (p.threads, behind_threads p)
    same_middle = some_is (threads, r2) (p.threads, behind_threads p) (sym e2 ∙ middle_there)

    pub back_there : ended back_at r2 ≡ Some (back_of p)
    back_there = ap (λ (x : List ThreadState × List ℕ). ended back_at x.1) same_middle ∙ back_again bytes p root

    pub all_checked : (b : BackParts) → ended back_at r2 ≡ Some b → IsChecked (made_parts f.0 f.1.0 f.1.1 threads b)
    all_checked b e3 =
        let third = some_is b (back_of p) (sym e3 ∙ back_there) in
        let same : made_parts f.0 f.1.0 f.1.1 threads b ≡ p = λ i. made_parts (same_front i).0.0 (same_front i).0.1.0 (same_front i).0.1.1 (same_middle i).0 (third i) in
        subst IsChecked (sym same) (is_checked bytes p root)
