use Rattle.std.proofs.Common.{◌≡◌, ◌+◌, ◌<◌, ℕ, List, Option, None, Some, refl, ap, ◌∙◌, subst, arith, get_or, length, set}
use Rattle.std.proofs.lemmas.List.{get_or_default}
use Rattle.hg_cells.specs.declared.paged.PagedWords.{PagedWords}
use Rattle.hg_detect.specs.declared.detector.Detector.{Detector}
use Rattle.hg_shards.specs.declared.shard.Shard.{Shard}
use Rattle.hg_detect.specs.Shown.{reports_of}
use Rattle.hg_shards.specs.Reading.{IsNextPart}
use Rattle.hg_shards.proofs.Reading.{reads_last, reads_none, reads_one}
use Rattle.hg_shards.proofs.cursor.read_next.Goals as goal
use Rattle.hg_shards.proofs.cursor.read_next.Goals.{then-len-shards-via-then-len-shards, then-len-shards-via-else-len-shards+then-cursor-ge-MOST_REPORTS}

-- the part that is next, by the counts as they were lent
lent : (last : ℕ) (shards : List Shard) (given now : List ℕ) (found : Option ℕ) → now ≡ given → IsNextPart last shards now found → IsNextPart last shards given found
lent last shards given now found is h = subst (λ (ns : List ℕ). IsNextPart last shards ns found) is h

no_part : (last : ℕ) (shards : List Shard) (given : List ℕ) (found : Option ℕ) → ((k : ℕ) → found ≡ Some k → ⊥) → IsNextPart last shards given found → IsNextPart last shards given None
no_part last shards given None not h = h
no_part last shards given (Some k) not h = absurd (not k refl)

pub returns-then-len-shards-clause-reads : goal.returns-then-len-shards-clause-reads
returns-then-len-shards-clause-reads c =
    reads_none c.args.shards.now c.args.last c.args.cursor.now
    (λ same.
    elim c.then-len-shards.branch [
      | then-len-shards-via-then-len-shards w ↦ (let not = w.if-len-shards.true in let len = c.len.ensures in absurd (omega (arith, not, len, same)))
      | then-len-shards-via-else-len-shards+then-cursor-ge-MOST_REPORTS w ↦ (let ge = w.if-cursor-ge-MOST_REPORTS.true in omega (arith, ge))
    ])

pub returns-in_default-clause-reads : goal.returns-in_default-clause-reads
returns-in_default-clause-reads c =
    reads_last c.args.shards.now c.args.last c.args.cursor.now
    (lent c.args.last c.args.shards.now c.args.cursor.now.given.items c.deref.result.now None c.deref.ensures.value
    (no_part c.args.last c.args.shards.now c.deref.result.now c.next_part.result c.in_default.not-Some c.next_part.ensures))

-- the index is one of a report that the shard keeps
index_below : (last : ℕ) (shards : List Shard) (given now : List ℕ) (k index : ℕ) (s : Shard) → now ≡ given → length given ≡ length shards → IsNextPart last shards now (Some k) → s ≡ get_or shards k s → index ≡ get_or given k index
    → (index ≡ get_or given k 0) × (index < length s.detector.kept)
index_below last shards given now k index s is same next shard at =
    let own = lent last shards given now (Some k) is next in
    let lt = own.0 in
    let here : index ≡ get_or given k 0 = at ∙ get_or_default given k index 0 (omega (arith, lt, same)) in
    let below = own.1 s in
    let kept = ap (λ (x : Shard). length x.detector.kept) shard in
    (here, omega (arith, here, below, kept))

pub overflow_add-index : goal.overflow_add-index
overflow_add-index c =
    let s = c.index-shards-part.result in
    let below = (index_below c.args.last c.args.shards.now c.args.cursor.now.given.items c.deref.result.now c.in-Some.part c.index-index.result.now s c.deref.ensures.value
    (let same = c.if-len-shards.false in let len = c.len.ensures in omega (arith, same, len)) c.in-Some.ensures c.index-shards-part.is c.index-index.ensures).1 in
    let few = c.kept-kept.ensures.few in
    let is = ap (λ (d : Detector PagedWords). length d.kept) c.detector-detector.ensures in
    omega (arith, below, few, is)

pub returns-clause-reads : goal.returns-clause-reads
returns-clause-reads c =
    let s = c.index-shards-part.result in
    let given = c.args.cursor.now.given.items in
    let index = c.index-index.result.now in
    let k = c.in-Some.part in
    let below = index_below c.args.last c.args.shards.now given c.deref.result.now k index s c.deref.ensures.value
    (let same = c.if-len-shards.false in let len = c.len.ensures in omega (arith, same, len)) c.in-Some.ensures c.index-shards-part.is c.index-index.ensures in
    reads_one c.args.shards.now c.args.last c.args.cursor.now k _ c.in_ok-report.report s s c.in_ok-report.report
    (let few = c.if-cursor-ge-MOST_REPORTS.false in omega (arith, few))
    (lent c.args.last c.args.shards.now given c.deref.result.now (Some k) c.deref.ensures.value c.in-Some.ensures)
    c.index-shards-part.is
    (c.in_ok-report.ensures c.in_ok-report.report
    ∙ ap (λ (d : Detector PagedWords). get_or (reports_of d) index c.in_ok-report.report) c.detector-detector.ensures
    ∙ ap (λ (n : ℕ). get_or (reports_of s.detector) n c.in_ok-report.report) below.0)
    (ap (λ (n : ℕ). set given k (n + 1)) below.0) refl
