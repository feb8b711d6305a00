-- Events, segments and reports are counted within their bounds.
use Rattle.std.proofs.Common.{◌≡◌, ℕ, ◌+◌, ◌-◌, ◌*◌, ◌/◌, ◌^◌, ◌≤◌, min, Bool, false, ◌||◌, nat_eq, nat_lt, List, [], ◌∷◌, ◌++◌, length, map, filter, refl, ap, ◌∙◌, arith, length-append, length-take}
use Rattle.std.proofs.lemmas.Bool.{ltb-false, leb-false, or_parts}
use Rattle.std.proofs.lemmas.List.{length-map}
use Rattle.std.proofs.lemmas.List.FromFn.{length-range_with_len}
use Rattle.std.proofs.lemmas.List.Sums.{count_by-le-length, length-filter}
use Rattle.hg_model.specs.declared.limits.TheConstants.{GREATEST_ACCESS, MOST_ACCESS_WORDS}
use Rattle.hg_model.specs.declared.event.Event.{Event}
use Rattle.hg_model.specs.declared.event.Event.TheVariants.{Fork, Join, Lock, RdLock, Unlock, Read, Write, Alloc, Free, Send, Recv}
use Rattle.hg_model.specs.declared.segment.Segment.{Segment}
use Rattle.hg_model.specs.Contents.{Content}
use Rattle.hg_model.specs.Reporting.{words_of}
use Rattle.hg_model.specs.Segments.{opened}
use Rattle.hg_model.specs.Verdicts.{bad_length, full_segments}
use Rattle.hg_model.specs.Change.{becomes_racy, empty_content, new_reports}
use Rattle.hg_contents.proofs.lawful.Passing.{IsKept}

pub record IsCounted (c : Content) : Type 0 where
  pub events : c.events ≤ 2 ^ 58
  pub some : 1 ≤ length c.segments
  pub few : length c.segments ≤ 1048576
  pub total : c.total ≤ 17 * c.events
  pub kept : length c.reports ≡ min c.total 65536

opened_few : (segments : List Segment) (n : ℕ) (e : Event) → n ≡ length segments → n ≤ 1048576 → full_segments n e ≡ false → n + length (opened segments e) ≤ 1048576
opened_few segments n (Fork p c) is few full = ltb-false 1048576 (n + 2) full
opened_few segments n (Join p c) is few full = ltb-false 1048576 (n + 1) full
opened_few segments n (Send t k) is few full = ltb-false 1048576 (n + 1) full
opened_few segments n (Recv t k) is few full = ltb-false 1048576 (n + 1) full
opened_few segments n (Lock t l) is few full = omega (arith, few)
opened_few segments n (RdLock t l) is few full = omega (arith, few)
opened_few segments n (Unlock t l) is few full = omega (arith, few)
opened_few segments n (Read a) is few full = omega (arith, few)
opened_few segments n (Write a) is few full = omega (arith, few)
opened_few segments n (Alloc b) is few full = omega (arith, few)
opened_few segments n (Free b) is few full = omega (arith, few)

words_few : (at len : ℕ) → len ≤ GREATEST_ACCESS → length (words_of at len) ≤ MOST_ACCESS_WORDS
words_few at len few =
    let width : (at + len + 3) / 4 - at / 4 ≤ 17 = omega arith in
    omega (arith, length-range_with_len (at / 4) ((at + len + 3) / 4 - at / 4))

filtered_few : (p : ℕ → Bool) (words : List ℕ) → length words ≤ 17 → length (filter p words) ≤ 17
filtered_few p words few = omega (arith, length-filter p words, count_by-le-length p words)

not_long : (len : ℕ) → (nat_eq len 0 || nat_lt GREATEST_ACCESS len) ≡ false → len ≤ GREATEST_ACCESS
not_long len low = ltb-false GREATEST_ACCESS len (or_parts (nat_eq len 0) (nat_lt GREATEST_ACCESS len) low).1

mapped_few : {X : Type 0} (f : ℕ → X) (words : List ℕ) → length words ≤ 17 → length (map f words) ≤ 17
mapped_few f [] few = few
mapped_few f (w ∷ words) few = omega (arith, few, length-map words f)

reports_few : (c : Content) (e : Event) → bad_length e ≡ false → length (new_reports c e) ≤ 17
reports_few c (Fork p d) low = omega arith
reports_few c (Join p d) low = omega arith
reports_few c (Send t k) low = omega arith
reports_few c (Recv t k) low = omega arith
reports_few c (Lock t l) low = omega arith
reports_few c (RdLock t l) low = omega arith
reports_few c (Unlock t l) low = omega arith
reports_few c (Read a) low = mapped_few _ _ (filtered_few (becomes_racy c (Read a)) (words_of a.at a.len) (words_few a.at a.len (not_long a.len low)))
reports_few c (Write a) low = mapped_few _ _ (filtered_few (becomes_racy c (Write a)) (words_of a.at a.len) (words_few a.at a.len (not_long a.len low)))
reports_few c (Alloc b) low = omega arith
reports_few c (Free b) low = omega arith

pub counted_first : IsCounted empty_content
counted_first = record { events = omega arith; some = omega arith; few = omega arith; total = omega arith; kept = refl }

pub counted_after : IsKept IsCounted
counted_after c n pass counted =
    let new = new_reports c n.event in
    let few = reports_few c n.event pass.len in
    let below = leb-false (2 ^ 58) c.events pass.events in
    let some = counted.some in
    let total = counted.total in
    let kept = counted.kept in
    let segments = length-append c.segments (opened c.segments n.event) in
    let opens = opened_few c.segments (length c.segments) n.event refl counted.few pass.segments in
    record {
      events = omega (arith, below);
      some = omega (arith, some, segments);
      few = omega (arith, segments, opens);
      total = omega (arith, total, few);
      kept = length-take 65536 (c.reports ++ new) ∙ ap (λ (k : ℕ). min 65536 k) (length-append c.reports new) ∙ ap (λ (k : ℕ). min 65536 (k + length new)) kept ∙ least c.total (length new);
    }
  where
    least : (a b : ℕ) → min 65536 (min a 65536 + b) ≡ min (a + b) 65536
    least a b = omega arith
