-- The segment that the send of a message ended, in a lawful list.
use Rattle.std.proofs.Common.{◌≡◌, ℕ, zero, suc, ◌<◌, Bool, true, false, cond, ◌&&◌, not, List, [], ◌∷◌, length, take, slice_get, slice_index, Some, refl, sym, ap, ◌∙◌, ⊎_elim, arith, eqb-true}
use Rattle.std.proofs.lemmas.Bool.{and_parts, false≢true, ltb-true, or_cases}
use Rattle.std.proofs.lemmas.List.{length-take-le}
use Rattle.hg_model.specs.declared.segment.Mark.{Mark}
use Rattle.hg_model.specs.declared.segment.Mark.TheVariants.{Plain, Sent, Got}
use Rattle.hg_model.specs.declared.segment.Segment.{Segment}
use Rattle.hg_model.specs.Messages.{is_sent, sent_in, was_sent}
use Rattle.hg_model.specs.Restoring.{is_behind_own, marks_lawfully}
use Rattle.hg_model.specs.Segments.{present, thread_at}
use Rattle.hg_model.proofs.Owners.{greatest}
use Rattle.hg_graph.specs.Graph.{names}
use Rattle.hg_graph.specs.Restoring.{AreSegments, are_predecessors, former, has_former, has_thread}
use Rattle.hg_contents.proofs.lawful.Standing.{present_own}

-- Where the first segment stands that has the mark of the send.
record SentAt (segments : List Segment) (k : ℕ) : Type 0 where
  place : ℕ
  segment : Segment
  within : place < length segments
  there : slice_get segments place ≡ Some segment
  marked : is_sent k segment.mark ≡ true
  ended : sent_in segments k ≡ slice_index segment.before 0

sent_at : (segments : List Segment) (k : ℕ) → was_sent segments k ≡ true → SentAt segments k
sent_at [] k h = absurd (false≢true h)
sent_at (s ∷ segments) k h = pick (sent_at segments k) (is_sent k s.mark) refl
  where
    pick : (was_sent segments k ≡ true → SentAt segments k) → (b : Bool) → is_sent k s.mark ≡ b → SentAt (s ∷ segments) k
    pick rest true here = record { place = 0; segment = s; within = omega arith; there = refl; marked = here; ended = ap (λ b. cond b (slice_index s.before 0) (sent_in segments k)) here }
    pick rest false none =
        let later = rest (⊎_elim (λ here. absurd (false≢true (sym none ∙ here))) (λ l. l) (or_cases (is_sent k s.mark) (was_sent segments k) h)) in
        record { place = suc later.place; segment = later.segment; within = (let lt = later.within in omega arith); there = later.there; marked = later.marked; ended = ap (λ b. cond b (slice_index s.before 0) (sent_in segments k)) none ∙ later.ended }

-- what such a segment stands behind
one_own : (earlier : List Segment) (k : ℕ) (s : Segment) → (m : Mark) → is_sent k m ≡ true → marks_lawfully earlier m s ≡ true → is_behind_own earlier s.thread s.before ≡ true
one_own earlier k s Plain is lawful = absurd (false≢true is)
one_own earlier k s (Got n) is lawful = absurd (false≢true is)
one_own earlier k s (Sent n) is lawful = (and_parts (not (was_sent earlier n)) _ lawful).1

first_own : (earlier : List Segment) (t n : ℕ) (before : List ℕ) → is_behind_own earlier t before ≡ true → are_predecessors n before ≡ true → (slice_index before 0 < n) × (thread_at earlier (slice_index before 0) ≡ t)
first_own earlier t n [] own are = absurd (false≢true own)
first_own earlier t n (a ∷ []) own are = (ltb-true a n are, eqb-true (thread_at earlier a) t own)
first_own earlier t n (a ∷ b ∷ xs) own are = absurd (false≢true own)

thread_before : (segments : List Segment) (n i : ℕ) → i < n → thread_at (take n segments) i ≡ thread_at segments i
thread_before segments zero i lt = absurd (omega arith)
thread_before [] (suc n) i lt = refl
thread_before (s ∷ segments) (suc n) zero lt = refl
thread_before (s ∷ segments) (suc n) (suc i) lt = thread_before segments n i (omega (arith, lt))

thread_there : (segments : List Segment) (i : ℕ) (s : Segment) → slice_get segments i ≡ Some s → thread_at segments i ≡ s.thread
thread_there [] i s is = absurd (cc)
thread_there (x ∷ segments) zero s is = ap (λ (y : Segment). y.thread) (let e : x ≡ s = cc in e)
thread_there (x ∷ segments) (suc i) s is = thread_there segments i s is

module _ (segments : List Segment) (are : AreSegments segments) (k : ℕ) where
  -- the segment that it ended is below it and of its thread
  ended_own : (f : SentAt segments k) → (sent_in segments k < f.place) × (thread_at segments (sent_in segments k) ≡ f.segment.thread)
  ended_own f =
      let s = f.segment in
      let earlier = take f.place segments in
      let stands = are f.place s f.there in
      let links = (and_parts (has_thread (length earlier) s.thread) _ stands).1 in
      let parts = and_parts (are_predecessors (length earlier) s.before) (has_former (former earlier s.thread) s.before && marks_lawfully earlier s.mark s) links in
      let lawful = (and_parts (has_former (former earlier s.thread) s.before) (marks_lawfully earlier s.mark s) parts.1).1 in
      let len : length earlier ≡ f.place = (let lt = f.within in length-take-le f.place segments (omega (arith, lt))) in
      let first = first_own earlier s.thread (length earlier) s.before (one_own earlier k s s.mark f.marked lawful) parts.0 in
      let ended = f.ended in
      let below = first.0 in
      let less : sent_in segments k < f.place = omega (arith, below, ended, len) in
      (less, sym (thread_before segments f.place (sent_in segments k) less) ∙ ap (thread_at earlier) ended ∙ first.1)

  -- it is there
  pub ended_within : was_sent segments k ≡ true → sent_in segments k < length segments
  ended_within sent = let f = sent_at segments k sent in let lt = (ended_own f).0 in let within = f.within in omega (arith, lt, within)

  -- it is no thread's present one
  pub ended_apart : was_sent segments k ≡ true → (t : ℕ) → names segments t ≡ true → present segments t ≡ sent_in segments k → ⊥
  ended_apart sent t named same =
      let f = sent_at segments k sent in
      let own = ended_own f in
      let mine : t ≡ f.segment.thread = sym (present_own segments t named) ∙ ap (thread_at segments) same ∙ own.1 in
      let behind = greatest t segments f.place f.within (thread_there segments f.place f.segment f.there ∙ sym mine) in
      let lt = own.0 in
      omega (arith, same, behind, lt)
