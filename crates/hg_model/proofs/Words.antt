-- What one accepted event does to the words and to the reports.
use Rattle.std.proofs.Common.{◌≡◌, ℕ, suc, ◌+◌, ◌<◌, Bool, true, false, cond, not, ◌||◌, ◌&&◌, nat_eq, List, [], ◌∷◌, ◌++◌, length, map, filter, Some, refl, sym, ap, ◌∙◌, subst, arith, length-append, eqb-true, append-nil, add-one, ◌*◌}
use Rattle.std.proofs.lemmas.Bool.{false≢true}
use Rattle.std.proofs.lemmas.List.{get_or_append_left, length-map}
use Rattle.std.specs.List.{list_any, AllByRecursion}
use Rattle.hg_model.specs.declared.event.Event.{Event}
use Rattle.hg_model.specs.declared.event.Event.TheVariants.{Fork, Join, Lock, RdLock, Unlock, Read, Write, Alloc, Free, Send, Recv}
use Rattle.hg_model.specs.declared.event.Named.{Named}
use Rattle.hg_model.specs.declared.report.Report.{Report}
use Rattle.hg_model.specs.Locks.{held, counted}
use Rattle.hg_model.specs.Segments.{of_thread, present, opened, segments_of, used, thread_at}
use Rattle.hg_model.specs.declared.segment.Segment.{Segment}
use Rattle.hg_model.specs.History.{overlaps, item, history}
use Rattle.hg_model.specs.declared.word.HistoryItem.{HistoryItem}
use Rattle.hg_model.specs.Sharing.{Sharing, Unshared, SharedFrom, state, sharing, reported_by, reported_item, first_race, is_race, threads_in}
use Rattle.hg_model.specs.declared.word.WordState.TheVariants.{New}
use Rattle.hg_model.specs.Reporting.{words_of, is_number, is_reported, report, reports_at_last}
use Rattle.hg_model.specs.Contents.{events_of, thread_of, threads_of, summary}
use Rattle.hg_model.specs.Verdicts.{IsAccepted}
use Rattle.hg_model.specs.Change.{locks_of, touched, is_racy, word_after_access, word_after, becomes_racy, new_reports}
use Rattle.hg_model.proofs.Graph.{each_weaker, segments_rising}
use Rattle.hg_model.proofs.Sharings.{state_stable, state_push}
use Rattle.hg_model.proofs.Races.{EarlierThan, EarlierSharing, not_now, early_sharing, reported_push}
use Rattle.hg_model.proofs.Owners.{Owns, each_append}
use Rattle.hg_model.proofs.Accepted.{Passes, passes, IsUsed, used_owns}

-- an item's segment exists and is of its thread, and the item is of the first n events
pub record Fits (segments : List Segment) (n : ℕ) (i : HistoryItem) : Type 0 where
  pub below : i.segment < length segments
  pub owner : thread_at segments i.segment ≡ i.thread
  pub early : i.event < n

fits_more : (xs ys : List Segment) (n m : ℕ) → n < m → (i : HistoryItem) → Fits xs n i → Fits (xs ++ ys) m i
fits_more xs ys n m lt i h =
    record {
      below = let b = h.below in omega (arith, length-append xs ys);
      owner = ap (λ (s : Segment). s.thread) (get_or_append_left xs ys (of_thread 0 []) i.segment h.below) ∙ h.owner;
      early = let e = h.early in omega arith;
    }

abbrev pub HistoryFits : ℕ → List Event → Type 0
HistoryFits w past = AllByRecursion (Fits (segments_of past) (suc (length past))) (history w past)

history_more : (w : ℕ) (past : List Event) (e : Event) → HistoryFits w past → AllByRecursion (Fits (segments_of (e ∷ past)) (suc (suc (length past)))) (history w past)
history_more w past e h =
    each_weaker (Fits (segments_of past) (suc (length past))) (Fits (segments_of (e ∷ past)) (suc (suc (length past))))
    (fits_more (segments_of past) (opened (segments_of past) e) (suc (length past)) (suc (suc (length past))) (omega arith)) (history w past) h

item_fits : (past : List Event) (t : ℕ) (write : Bool) → Owns (segments_of past) t → Fits (segments_of past) (suc (suc (length past))) (item past t write)
item_fits past t write h = record { below = h.below; owner = h.owner; early = omega arith }

access_fits : (w : ℕ) (past : List Event) (t at len : ℕ) (write : Bool) → Owns (segments_of past) t → HistoryFits w past →
    AllByRecursion (Fits (segments_of past ++ []) (suc (suc (length past)))) (cond (overlaps at len w) (history w past ++ item past t write ∷ []) (history w past))
access_fits w past t at len write owns h =
    let more = each_weaker (Fits (segments_of past) (suc (length past))) (Fits (segments_of past) (suc (suc (length past)))) (λ i f. record { below = f.below; owner = f.owner; early = let e = f.early in omega arith }) (history w past) h in
    subst (λ segments. AllByRecursion (Fits segments (suc (suc (length past)))) (cond (overlaps at len w) (history w past ++ item past t write ∷ []) (history w past))) (sym (append-nil (segments_of past)))
    (elim (overlaps at len w) as (λ b. AllByRecursion (Fits (segments_of past) (suc (suc (length past)))) (cond b (history w past ++ item past t write ∷ []) (history w past))) [
      | true ↦ each_append (Fits (segments_of past) (suc (suc (length past)))) (history w past) (item past t write) more (item_fits past t write owns)
      | false ↦ more
    ])

reset_fits : (w : ℕ) (past : List Event) (e : Event) (b : Bool) → HistoryFits w past → AllByRecursion (Fits (segments_of (e ∷ past)) (suc (suc (length past)))) (cond b [] (history w past))
reset_fits w past e true h = tt
reset_fits w past e false h = history_more w past e h

history_step : (w : ℕ) (past : List Event) (e : Event) → Passes past e → HistoryFits w past → HistoryFits w (e ∷ past)
history_step w past (Fork p c) pass h = history_more w past (Fork p c) h
history_step w past (Join p c) pass h = history_more w past (Join p c) h
history_step w past (Lock t l) pass h = history_more w past (Lock t l) h
history_step w past (RdLock t l) pass h = history_more w past (RdLock t l) h
history_step w past (Unlock t l) pass h = history_more w past (Unlock t l) h
history_step w past (Read a) pass h = access_fits w past a.t a.at a.len false (used_owns past a.t pass.actor_used) h
history_step w past (Write a) pass h = access_fits w past a.t a.at a.len true (used_owns past a.t pass.actor_used) h
history_step w past (Alloc b) pass h = reset_fits w past (Alloc b) (overlaps b.at b.len w) h
history_step w past (Free b) pass h = reset_fits w past (Free b) (overlaps b.at b.len w) h
history_step w past (Send t k) pass h = history_more w past (Send t k) h
history_step w past (Recv t k) pass h = history_more w past (Recv t k) h

pub history_fits : (trace : List Named) → IsAccepted trace → (w : ℕ) → HistoryFits w (events_of trace)
history_fits [] h w = tt
history_fits (n ∷ trace) h w = history_step w (events_of trace) n.event (passes trace n h.1) (history_fits trace h.0 w)

-- the locks that count, looked up among the threads
locks_at : (past : List Event) (us : List ℕ) (t : ℕ) (write : Bool) → list_any (λ u. nat_eq u t) us ≡ true → locks_of (map (thread_of past) us) t write ≡ counted write (held past t)
locks_at past [] t write h = absurd (false≢true h)
locks_at past (u ∷ us) t write h =
    elim (nat_eq u t) as (λ b. nat_eq u t ≡ b → (b || list_any (λ u. nat_eq u t) us) ≡ true → cond b (counted write (held past u)) (locks_of (map (thread_of past) us) t write) ≡ counted write (held past t)) [
      | true ↦ λ same _. ap (λ n. counted write (held past n)) (eqb-true u t same)
      | false ↦ λ _ later. locks_at past us t write later
    ] refl h

-- a word that an event does not touch keeps its state
word_stays : (past : List Event) (e : Event) (w : ℕ) → HistoryFits w past → state (segments_of (e ∷ past)) (history w past) ≡ state (segments_of past) (history w past)
word_stays past e w h = state_stable (segments_of past) (opened (segments_of past) e) (segments_rising past) (history w past)
    (each_weaker (Fits (segments_of past) (suc (length past))) (λ i. i.segment < length (segments_of past)) (λ i f. f.below) (history w past) h)

word_accessed : (trace : List Named) (w t at len : ℕ) (write : Bool) → IsUsed (events_of trace) t → HistoryFits w (events_of trace) →
    state (segments_of (events_of trace) ++ []) (cond (overlaps at len w) (history w (events_of trace) ++ item (events_of trace) t write ∷ []) (history w (events_of trace)))
    ≡ word_after_access (summary trace) t at len write w
word_accessed trace w t at len write in_use h =
    let past = events_of trace in
    let segments = segments_of past in
    ap (λ s. state s (cond (overlaps at len w) (history w past ++ item past t write ∷ []) (history w past))) (append-nil segments)
    ∙ elim (overlaps at len w) as (λ b. state segments (cond b (history w past ++ item past t write ∷ []) (history w past)) ≡ cond b (touched segments t (present segments t) write (locks_of (threads_of past) t write) (state segments (history w past))) (state segments (history w past))) [
      | true ↦
          state_push segments (history w past) (item past t write) (each_weaker (Fits segments (suc (length past))) (λ j. thread_at segments j.segment ≡ j.thread) (λ i f. f.owner) (history w past) h)
          ∙ ap (λ locks. touched segments t (present segments t) write locks (state segments (history w past))) (sym (locks_at past (used past) t write in_use))
      | false ↦ refl
    ]

word_reset : (past : List Event) (e : Event) (w : ℕ) (b : Bool) → HistoryFits w past → state (segments_of (e ∷ past)) (cond b [] (history w past)) ≡ cond b New (state (segments_of past) (history w past))
word_reset past e w true h = refl
word_reset past e w false h = word_stays past e w h

-- What one accepted event does to a word.
pub word_law : (trace : List Named) (e : Event) (w : ℕ) → Passes (events_of trace) e → HistoryFits w (events_of trace) →
    state (segments_of (e ∷ events_of trace)) (history w (e ∷ events_of trace)) ≡ word_after (summary trace) e w
word_law trace (Fork p c) w pass h = word_stays (events_of trace) (Fork p c) w h
word_law trace (Join p c) w pass h = word_stays (events_of trace) (Join p c) w h
word_law trace (Lock t l) w pass h = word_stays (events_of trace) (Lock t l) w h
word_law trace (RdLock t l) w pass h = word_stays (events_of trace) (RdLock t l) w h
word_law trace (Unlock t l) w pass h = word_stays (events_of trace) (Unlock t l) w h
word_law trace (Read a) w pass h = word_accessed trace w a.t a.at a.len false pass.actor_used h
word_law trace (Write a) w pass h = word_accessed trace w a.t a.at a.len true pass.actor_used h
word_law trace (Alloc b) w pass h = word_reset (events_of trace) (Alloc b) w (overlaps b.at b.len w) h
word_law trace (Free b) w pass h = word_reset (events_of trace) (Free b) w (overlaps b.at b.len w) h
word_law trace (Send t k) w pass h = word_stays (events_of trace) (Send t k) w h
word_law trace (Recv t k) w pass h = word_stays (events_of trace) (Recv t k) w h

-- no earlier item is the present event
first_race_early : (n : ℕ) (first : HistoryItem) (front later : List HistoryItem) → AllByRecursion (EarlierThan n) later → is_number n (first_race (first ∷ front) later) ≡ false
first_race_early n first front [] h = refl
first_race_early n first front (x ∷ later) h =
    elim (is_race (first ∷ (front ++ x ∷ []))) as (λ b. is_number n (cond b (Some x.event) (first_race (first ∷ (front ++ x ∷ [])) later)) ≡ false) [
      | true ↦ not_now n x.event h.0
      | false ↦ first_race_early n first (front ++ x ∷ []) later h.1
    ]

pub reported_early : (n : ℕ) (s : Sharing) → EarlierSharing n s → is_number n (reported_by s) ≡ false
reported_early n Unshared h = refl
reported_early n (SharedFrom previous first later) h =
    elim (is_race (first ∷ [])) as (λ b. is_number n (cond b (Some first.event) (first_race (first ∷ []) later)) ≡ false) [
      | true ↦ not_now n first.event h.0
      | false ↦ first_race_early n first [] later h.1
    ]

and_not : (b : Bool) → false ≡ (b && not b)
and_not true = refl
and_not false = refl

reported_access : (trace : List Named) (w t at len : ℕ) (write : Bool) → IsUsed (events_of trace) t → HistoryFits w (events_of trace) →
    is_number (suc (length (events_of trace))) (reported_item (segments_of (events_of trace) ++ []) (cond (overlaps at len w) (history w (events_of trace) ++ item (events_of trace) t write ∷ []) (history w (events_of trace))))
    ≡ (is_racy (word_after_access (summary trace) t at len write w) && not (is_racy (state (segments_of (events_of trace)) (history w (events_of trace)))))
reported_access trace w t at len write in_use h =
    let past = events_of trace in
    let segments = segments_of past in
    let early : AllByRecursion (EarlierThan (suc (length past))) (history w past) = each_weaker (Fits segments (suc (length past))) (EarlierThan (suc (length past))) (λ i f. f.early) (history w past) h in
    ap (λ s. is_number (suc (length past)) (reported_item s (cond (overlaps at len w) (history w past ++ item past t write ∷ []) (history w past)))) (append-nil segments)
    ∙ (elim (overlaps at len w) as (λ b. is_number (suc (length past)) (reported_item segments (cond b (history w past ++ item past t write ∷ []) (history w past))) ≡ (is_racy (state segments (cond b (history w past ++ item past t write ∷ []) (history w past))) && not (is_racy (state segments (history w past))))) [
      | true ↦ reported_push (suc (length past)) segments (history w past) (item past t write) early (add-one (length past))
      | false ↦ reported_early (suc (length past)) (sharing segments (history w past)) (early_sharing (suc (length past)) segments (history w past) early) ∙ and_not _
    ])
    ∙ ap (λ s. is_racy s && not (is_racy (state segments (history w past))))
    (ap (λ s. state s (cond (overlaps at len w) (history w past ++ item past t write ∷ []) (history w past))) (sym (append-nil segments)) ∙ word_accessed trace w t at len write in_use h)

map_filter : (p q : ℕ → Bool) (f g : ℕ → Report) → ((w : ℕ) → p w ≡ q w) → ((w : ℕ) → f w ≡ g w) → (ws : List ℕ) → map f (filter p ws) ≡ map g (filter q ws)
map_filter p q f g same alike [] = refl
map_filter p q f g same alike (w ∷ ws) =
    ap (λ b. map f (cond b (w ∷ filter p ws) (filter p ws))) (same w)
    ∙ elim (q w) as (λ b. map f (cond b (w ∷ filter p ws) (filter p ws)) ≡ map g (cond b (w ∷ filter q ws) (filter q ws))) [
      | true ↦ λ i. alike w i ∷ map_filter p q f g same alike ws i
      | false ↦ map_filter p q f g same alike ws
    ]

event_number : (trace : List Named) → suc (length (events_of trace)) ≡ length trace + 1
event_number trace = ap suc (length-map trace (λ (n : Named). n.event)) ∙ sym (add-one (length trace))

-- What is reported at an accepted event.
pub reports_law : (trace : List Named) (e : Event) → Passes (events_of trace) e → ((w : ℕ) → HistoryFits w (events_of trace)) →
    reports_at_last (e ∷ events_of trace) ≡ new_reports (summary trace) e
reports_law trace (Read a) pass h =
    map_filter (is_reported (Read a ∷ events_of trace)) (becomes_racy (summary trace) (Read a)) (report (Read a ∷ events_of trace) a.t false) _
    (λ w. reported_access trace w a.t a.at a.len false pass.actor_used (h w))
    (λ w i. record { event = event_number trace i; write = false; thread = a.t; word = 4 * w; threads = threads_in (word_law trace (Read a) w pass (h w) i) })
    (words_of a.at a.len)
reports_law trace (Write a) pass h =
    map_filter (is_reported (Write a ∷ events_of trace)) (becomes_racy (summary trace) (Write a)) (report (Write a ∷ events_of trace) a.t true) _
    (λ w. reported_access trace w a.t a.at a.len true pass.actor_used (h w))
    (λ w i. record { event = event_number trace i; write = true; thread = a.t; word = 4 * w; threads = threads_in (word_law trace (Write a) w pass (h w) i) })
    (words_of a.at a.len)
reports_law trace (Fork p c) pass h = refl
reports_law trace (Join p c) pass h = refl
reports_law trace (Lock t l) pass h = refl
reports_law trace (RdLock t l) pass h = refl
reports_law trace (Unlock t l) pass h = refl
reports_law trace (Alloc b) pass h = refl
reports_law trace (Free b) pass h = refl
reports_law trace (Send t k) pass h = refl
reports_law trace (Recv t k) pass h = refl
