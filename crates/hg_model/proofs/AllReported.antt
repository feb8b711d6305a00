-- No word whose reported item is the last event is left out of the reports.
use Rattle.std.proofs.Common.{◌≡◌, ℕ, zero, suc, ◌+◌, ◌-◌, ◌*◌, ◌/◌, ◌<◌, ◌≤◌, Bool, true, false, cond, nat_eq, nat_lt, List, [], ◌∷◌, ◌++◌, length, map, filter, refl, sym, ap, ◌∙◌, subst, ⊎_elim, arith, eq-eqb, eqb-true, ltb-true}
use Rattle.std.proofs.lemmas.Bool.{or_left, or_right, or_cases, and_parts, cases_eq}
use Rattle.std.specs.List.{list_any, range_with_len, AllByRecursion}
use Rattle.hg_model.specs.declared.event.Event.{Event}
use Rattle.hg_model.specs.declared.event.Event.TheVariants.{Fork, Join, Lock, RdLock, Unlock, Read, Write, Alloc, Free, Send, Recv}
use Rattle.hg_model.specs.declared.report.Report.{Report}
use Rattle.hg_model.specs.Segments.{segments_of}
use Rattle.hg_model.specs.declared.segment.Segment.{Segment}
use Rattle.hg_model.specs.History.{overlaps, item, history}
use Rattle.hg_model.specs.declared.word.HistoryItem.{HistoryItem}
use Rattle.hg_model.specs.Sharing.{reported_item, sharing}
use Rattle.hg_model.specs.Reporting.{words_of, is_number, is_reported, report, reports_at_last}
use Rattle.hg_model.proofs.Graph.{each_weaker}
use Rattle.hg_model.proofs.Races.{EarlierThan, early_sharing}
use Rattle.hg_model.proofs.Owners.{each_append}
use Rattle.hg_model.proofs.Words.{reported_early}

later : (n : ℕ) (items : List HistoryItem) → AllByRecursion (EarlierThan n) items → AllByRecursion (EarlierThan (suc n)) items
later n items h = each_weaker (EarlierThan n) (EarlierThan (suc n)) (λ i lt. omega arith) items h

accessed : (w : ℕ) (past : List Event) (t : ℕ) (write b : Bool) → AllByRecursion (EarlierThan (suc (length past))) (history w past) → AllByRecursion (EarlierThan (suc (suc (length past)))) (cond b (history w past ++ item past t write ∷ []) (history w past))
accessed w past t write true h = each_append (EarlierThan (suc (suc (length past)))) (history w past) (item past t write) (later (suc (length past)) (history w past) h) (omega arith)
accessed w past t write false h = later (suc (length past)) (history w past) h

reset : (n : ℕ) (items : List HistoryItem) (b : Bool) → AllByRecursion (EarlierThan n) items → AllByRecursion (EarlierThan (suc n)) (cond b [] items)
reset n items true h = tt
reset n items false h = later n items h

history_early : (w : ℕ) (past : List Event) → AllByRecursion (EarlierThan (suc (length past))) (history w past)
history_early w [] = tt
history_early w (Read a ∷ past) = accessed w past a.t false (overlaps a.at a.len w) (history_early w past)
history_early w (Write a ∷ past) = accessed w past a.t true (overlaps a.at a.len w) (history_early w past)
history_early w (Alloc b ∷ past) = reset (suc (length past)) (history w past) (overlaps b.at b.len w) (history_early w past)
history_early w (Free b ∷ past) = reset (suc (length past)) (history w past) (overlaps b.at b.len w) (history_early w past)
history_early w (Fork p c ∷ past) = later (suc (length past)) (history w past) (history_early w past)
history_early w (Join p c ∷ past) = later (suc (length past)) (history w past) (history_early w past)
history_early w (Lock t l ∷ past) = later (suc (length past)) (history w past) (history_early w past)
history_early w (RdLock t l ∷ past) = later (suc (length past)) (history w past) (history_early w past)
history_early w (Unlock t l ∷ past) = later (suc (length past)) (history w past) (history_early w past)
history_early w (Send t k ∷ past) = later (suc (length past)) (history w past) (history_early w past)
history_early w (Recv t k ∷ past) = later (suc (length past)) (history w past) (history_early w past)

-- what happened before is not reported now
not_again : (segments : List Segment) (w : ℕ) (past : List Event) → is_number (suc (length past)) (reported_item segments (history w past)) ≡ false
not_again segments w past = reported_early (suc (length past)) (sharing segments (history w past)) (early_sharing (suc (length past)) segments (history w past) (history_early w past))

in_range : (a n k : ℕ) → a ≤ k → k < a + n → list_any (λ j. nat_eq j k) (range_with_len a n) ≡ true
in_range a zero k low high = absurd (omega arith)
in_range a (suc n) k low high =
    ⊎_elim
    (λ (same : a ≡ k). or_left (nat_eq a k) _ (eq-eqb a k same))
    (λ (other : a ≡ k → ⊥). or_right (nat_eq a k) _ (in_range (a + 1) n k (omega arith) (omega arith)))
    (cases_eq a k)

-- an overlapped word is listed
pub listed : (at len k : ℕ) → overlaps at len k ≡ true → list_any (λ w. nat_eq w k) (words_of at len) ≡ true
listed at len k h =
    let parts = and_parts (nat_lt at (4 * k + 4)) (nat_lt (4 * k) (at + len)) h in
    let low : at < 4 * k + 4 = ltb-true at (4 * k + 4) parts.0 in
    let high : 4 * k < at + len = ltb-true (4 * k) (at + len) parts.1 in
    in_range (at / 4) ((at + len + 3) / 4 - at / 4) k (omega arith) (omega arith)

reported_word : (p : ℕ → Bool) (f : ℕ → Report) → ((w : ℕ) → (f w).word ≡ 4 * w) → (w : ℕ) → p w ≡ true → (ws : List ℕ) → list_any (λ x. nat_eq x w) ws ≡ true → list_any (λ r. nat_eq r.word (4 * w)) (map f (filter p ws)) ≡ true
reported_word p f same w told [] h = h
reported_word p f same w told (x ∷ ws) h =
    ⊎_elim
    (λ here. let passes : p x ≡ true = ap p (eqb-true x w here) ∙ told in
    subst (λ b. list_any (λ r. nat_eq r.word (4 * w)) (map f (cond b (x ∷ filter p ws) (filter p ws))) ≡ true) (sym passes)
    (or_left (nat_eq (f x).word (4 * w)) _ (ap (λ n. nat_eq n (4 * w)) (same x) ∙ eq-eqb (4 * x) (4 * w) (ap (λ n. 4 * n) (eqb-true x w here)))))
    (λ behind. elim (p x) as (λ b. list_any (λ r. nat_eq r.word (4 * w)) (map f (cond b (x ∷ filter p ws) (filter p ws))) ≡ true) [
      | true ↦ or_right (nat_eq (f x).word (4 * w)) _ (reported_word p f same w told ws behind)
      | false ↦ reported_word p f same w told ws behind
    ])
    (or_cases (nat_eq x w) _ h)

access_listed : (past : List Event) (segments : List Segment) (at len k t : ℕ) (write : Bool) →
    is_number (suc (length past)) (reported_item segments (cond (overlaps at len k) (history k past ++ item past t write ∷ []) (history k past))) ≡ true →
    overlaps at len k ≡ true
access_listed past segments at len k t write h =
    elim (overlaps at len k) as (λ b. is_number (suc (length past)) (reported_item segments (cond b (history k past ++ item past t write ∷ []) (history k past))) ≡ true → b ≡ true) [
      | true ↦ λ _. refl
      | false ↦ λ told. sym (not_again segments k past) ∙ told
    ] h

reset_silent : (past : List Event) (segments : List Segment) (w : ℕ) (b : Bool) → is_number (suc (length past)) (reported_item segments (cond b [] (history w past))) ≡ false
reset_silent past segments w true = refl
reset_silent past segments w false = not_again segments w past

pub none_missed : (trace : List Event) (k : ℕ) → is_reported trace k ≡ true → list_any (λ r. nat_eq r.word (4 * k)) (reports_at_last trace) ≡ true
none_missed [] k h = h
none_missed (Read a ∷ past) k h =
    reported_word (is_reported (Read a ∷ past)) (report (Read a ∷ past) a.t false) (λ w. refl) k h (words_of a.at a.len)
    (listed a.at a.len k (access_listed past (segments_of (Read a ∷ past)) a.at a.len k a.t false h))
none_missed (Write a ∷ past) k h =
    reported_word (is_reported (Write a ∷ past)) (report (Write a ∷ past) a.t true) (λ w. refl) k h (words_of a.at a.len)
    (listed a.at a.len k (access_listed past (segments_of (Write a ∷ past)) a.at a.len k a.t true h))
none_missed (Alloc b ∷ past) k h = sym (reset_silent past (segments_of (Alloc b ∷ past)) k (overlaps b.at b.len k)) ∙ h
none_missed (Free b ∷ past) k h = sym (reset_silent past (segments_of (Free b ∷ past)) k (overlaps b.at b.len k)) ∙ h
none_missed (Fork p c ∷ past) k h = sym (not_again (segments_of (Fork p c ∷ past)) k past) ∙ h
none_missed (Join p c ∷ past) k h = sym (not_again (segments_of (Join p c ∷ past)) k past) ∙ h
none_missed (Lock t l ∷ past) k h = sym (not_again (segments_of (Lock t l ∷ past)) k past) ∙ h
none_missed (RdLock t l ∷ past) k h = sym (not_again (segments_of (RdLock t l ∷ past)) k past) ∙ h
none_missed (Unlock t l ∷ past) k h = sym (not_again (segments_of (Unlock t l ∷ past)) k past) ∙ h
none_missed (Send t m ∷ past) k h = sym (not_again (segments_of (Send t m ∷ past)) k past) ∙ h
none_missed (Recv t m ∷ past) k h = sym (not_again (segments_of (Recv t m ∷ past)) k past) ∙ h
