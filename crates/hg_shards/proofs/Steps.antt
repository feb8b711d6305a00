-- One event after contents that agree.
use Rattle.std.proofs.Common.{◌≡◌, ℕ, ◌+◌, ◌*◌, ◌/◌, Bool, true, false, cond, ◌&&◌, not, List, [], ◌∷◌, ◌++◌, map, filter, refl, sym, ap, ◌∙◌, ⊎_elim, append-nil}
use Rattle.std.proofs.lemmas.Bool.{false≢true}
use Rattle.std.specs.List.{flat_map}
use Rattle.hg_model.specs.declared.event.Event.{Event}
use Rattle.hg_model.specs.declared.event.Event.TheVariants.{Fork, Join, Lock, RdLock, Unlock, Read, Write, Alloc, Free}
use Rattle.hg_model.specs.declared.event.Named.{Named}
use Rattle.hg_model.specs.declared.report.Report.{Report}
use Rattle.hg_model.specs.declared.thread.ThreadState.{ThreadState}
use Rattle.hg_model.specs.declared.word.WordState.{WordState}
use Rattle.hg_model.specs.declared.word.WordState.TheVariants.{New}
use Rattle.hg_model.specs.History.{overlaps}
use Rattle.hg_model.specs.Segments.{present, opened}
use Rattle.hg_model.specs.Sets.{contains}
use Rattle.hg_model.specs.Sharing.{threads_in}
use Rattle.hg_model.specs.Reporting.{words_of}
use Rattle.hg_model.specs.Contents.{Content}
use Rattle.hg_model.specs.Change.{touched, threads_after, locks_of, word_after, is_racy, becomes_racy, new_reports, reported_after, after}
use Rattle.hg_model.proofs.Reported.{words_lem}
use Rattle.hg_shards.specs.Asking.{accessed, asked_after}
use Rattle.hg_shards.specs.Alike.{Touch, Untouched, ReadBy, WrittenBy, Renewed, touch, is_of_memory, DoTheSame, AreAlike, ContentsAgree, PassesBy, StaysWithin, reports_within}
use Rattle.hg_shards.specs.Laws.{StepAgrees, with_one_more}
use Rattle.hg_shards.proofs.Asking.{same_words, flat_passing, kept, own_words, own_asked, each_report}
use Rattle.hg_detect.specs.Making.{sets_asked, sets_in}
use Rattle.hg_shards.proofs.Rules.{opens_none, opened_alike}
use Rattle.hg_shards.proofs.Lives.{same_touch}
use Rattle.hg_shards.proofs.Sets.{each_member, has_first}
use Rattle.hg_shards.proofs.Reports.{is_access, writes, thread_by, told, same_of_told, in_told, map_each, each_filter, filter_map}

-- the word after this was done to it
abbrev word_by : Content → Touch → ℕ → WordState
word_by c Untouched w = c.words w
word_by c (ReadBy t) w = touched c.segments t (present c.segments t) false (locks_of c.threads t false) (c.words w)
word_by c (WrittenBy t) w = touched c.segments t (present c.segments t) true (locks_of c.threads t true) (c.words w)
word_by c Renewed w = New

after_by : (c : Content) (e : Event) (w : ℕ) → word_after c e w ≡ word_by c (touch w e) w
after_by c (Read a) w = elim (overlaps a.at a.len w) as (λ b. cond b (word_by c (ReadBy a.t) w) (c.words w) ≡ word_by c (cond b (ReadBy a.t) Untouched) w) [ true ↦ refl | false ↦ refl ]
after_by c (Write a) w = elim (overlaps a.at a.len w) as (λ b. cond b (word_by c (WrittenBy a.t) w) (c.words w) ≡ word_by c (cond b (WrittenBy a.t) Untouched) w) [ true ↦ refl | false ↦ refl ]
after_by c (Alloc b) w = elim (overlaps b.at b.len w) as (λ d. cond d New (c.words w) ≡ word_by c (cond d Renewed Untouched) w) [ true ↦ refl | false ↦ refl ]
after_by c (Free b) w = elim (overlaps b.at b.len w) as (λ d. cond d New (c.words w) ≡ word_by c (cond d Renewed Untouched) w) [ true ↦ refl | false ↦ refl ]
after_by c e w = refl

-- the report of a word to which this was done
abbrev report_after : Content → Event → Touch → ℕ → Report
report_after c e x w = record { event = c.events + 1; write = writes x; thread = thread_by x; word = 4 * w; threads = threads_in (word_after c e w) }

at_an_access : (c : Content) (e : Event) (at len t : ℕ) (write : Bool) (x : Touch) → thread_by x ≡ t → writes x ≡ write →
    reported_after c e t write at len ≡ map (λ w. report_after c e (cond (overlaps at len w) x Untouched) w) (filter (becomes_racy c e) (words_of at len))
at_an_access c e at len t write x thread kind =
    map_each (λ w. overlaps at len w ≡ true) (λ w. record { event = c.events + 1; write = write; thread = t; word = 4 * w; threads = threads_in (word_after c e w) }) (λ w. report_after c e (cond (overlaps at len w) x Untouched) w)
    (λ w inside. sym (λ i. record { event = c.events + 1; write = kind i; thread = thread i; word = 4 * w; threads = threads_in (word_after c e w) }) ∙ ap (λ b. report_after c e (cond b x Untouched) w) (sym inside))
    (filter (becomes_racy c e) (words_of at len))
    (each_filter (λ w. overlaps at len w ≡ true) (becomes_racy c e) (words_of at len) (each_member (λ w. overlaps at len w ≡ true) (words_of at len) (λ w h. sym ((words_lem at len).1 w) ∙ h)))

new_by : (c : Content) (e : Event) → new_reports c e ≡ map (λ w. report_after c e (touch w e) w) (filter (becomes_racy c e) (accessed e))
new_by c (Read a) = at_an_access c (Read a) a.at a.len a.t false (ReadBy a.t) refl refl
new_by c (Write a) = at_an_access c (Write a) a.at a.len a.t true (WrittenBy a.t) refl refl
new_by c e = refl

threads_none : (e : Event) (threads : List ThreadState) → is_of_memory e ≡ true → threads_after e threads ≡ threads
threads_none (Fork p c) threads h = absurd (false≢true h)
threads_none (Join p c) threads h = absurd (false≢true h)
threads_none (Lock t l) threads h = absurd (false≢true h)
threads_none (RdLock t l) threads h = absurd (false≢true h)
threads_none (Unlock t l) threads h = absurd (false≢true h)
threads_none e threads h = refl

module _ (within : ℕ → Bool) where
  threads_alike : (e f : Event) (threads : List ThreadState) → AreAlike within e f → threads_after e threads ≡ threads_after f threads
  threads_alike e f threads h =
      ⊎_elim (λ same. ap (λ x. threads_after x threads) same) (λ (d : DoTheSame within e f). threads_none e threads d.first ∙ sym (threads_none f threads d.second)) h

  word_same : (c d : Content) → ContentsAgree within c d → (w : ℕ) → within w ≡ true → (x : Touch) → word_by c x w ≡ word_by d x w
  word_same c d h w inside Untouched = h.words w inside
  word_same c d h w inside (ReadBy t) = λ i. touched (h.segments i) t (present (h.segments i) t) false (locks_of (h.threads i) t false) (h.words w inside i)
  word_same c d h w inside (WrittenBy t) = λ i. touched (h.segments i) t (present (h.segments i) t) true (locks_of (h.threads i) t true) (h.words w inside i)
  word_same c d h w inside Renewed = refl

  words_alike : (c d : Content) (e f : Event) → ContentsAgree within c d → AreAlike within e f → (w : ℕ) → within w ≡ true → word_after c e w ≡ word_after d f w
  words_alike c d e f h alike w inside = after_by c e w ∙ ap (λ x. word_by c x w) (same_touch within e f alike w inside) ∙ word_same c d h w inside (touch w f) ∙ sym (after_by d f w)

  told_new : (c : Content) (e : Event) → reports_within within (new_reports c e) ≡ map (λ w. report_after c e (touch w e) w) (told within (becomes_racy c e) e)
  told_new c e = ap (reports_within within) (new_by c e) ∙ filter_map (λ r. within (r.word / 4)) (λ w. report_after c e (touch w e) w) (filter (becomes_racy c e) (accessed e))

  same_new : (c d : Content) (e f : Event) → ContentsAgree within c d → AreAlike within e f → reports_within within (new_reports c e) ≡ reports_within within (new_reports d f)
  same_new c d e f h alike =
      told_new c e
      ∙ same_of_told within (becomes_racy c e) (becomes_racy d f) (λ w. report_after c e (touch w e) w) (λ w. report_after d f (touch w f) w) e f alike
      (λ w inside i. is_racy (words_alike c d e f h alike w inside i) && not (is_racy (h.words w inside i)))
      (λ w inside i. record { event = h.events i + 1; write = writes (same_touch within e f alike w inside i); thread = thread_by (same_touch within e f alike w inside i); word = 4 * w; threads = threads_in (words_alike c d e f h alike w inside i) })
      ∙ sym (told_new d f)

  pub steps_agree_lem : (c d : Content) (m n : Named) → ContentsAgree within c d → AreAlike within m.event n.event → StepAgrees within c d m n
  steps_agree_lem c d m n h alike =
      record {
        content =
            record {
              events = ap (λ k. k + 1) h.events;
              segments = (λ i. h.segments i ++ opened (h.segments i) m.event) ∙ ap (λ new. d.segments ++ new) (opened_alike within d.segments m.event n.event alike);
              threads = ap (threads_after m.event) h.threads ∙ threads_alike m.event n.event d.threads alike;
              words = words_alike c d m.event n.event h alike;
            };
        reports = same_new c d m.event n.event h alike;
        asked =
            ap (flat_map (λ w. sets_in (word_after c m.event w))) (same_words within m.event n.event alike)
            ∙ flat_passing within (λ w. sets_in (word_after c m.event w)) (λ w. sets_in (word_after d n.event w)) (λ w inside. ap sets_in (words_alike c d m.event n.event h alike w inside)) (accessed n.event);
      }

  none_told : (c : Content) (e : Event) → PassesBy within e → (w : ℕ) → contains (told within (becomes_racy c e) e) w ≡ true → ⊥
  none_told c e h w has = by (within w) refl (sym (in_told within (becomes_racy c e) e w) ∙ has)
    where
      none : (b : Bool) → (b && false) ≡ true → ⊥
      none true k = false≢true k
      none false k = false≢true k

      by : (b : Bool) → within w ≡ b → (b && (becomes_racy c e w && is_access (touch w e))) ≡ true → ⊥
      by true inside k = none (becomes_racy c e w) (ap (λ x. becomes_racy c e w && is_access x) (sym (h.nothing w inside)) ∙ k)
      by false inside k = false≢true k

  pub passing_lem : (c : Content) (n : Named) → PassesBy within n.event → ContentsAgree within (after c n) (with_one_more c) × (reports_within within (new_reports c n.event) ≡ [])
  passing_lem c n h = (
    record {
      events = refl;
      segments = ap (λ new. c.segments ++ new) (opens_none c.segments n.event h.memory) ∙ append-nil c.segments;
      threads = threads_none n.event c.threads h.memory;
      words = λ w inside. after_by c n.event w ∙ ap (λ x. word_by c x w) (h.nothing w inside);
    },
    told_new c n.event ∙ ap (map (λ w. report_after c n.event (touch w n.event) w)) (nothing (told within (becomes_racy c n.event) n.event) (none_told c n.event h)),
  )
    where
      nothing : (ws : List ℕ) → ((w : ℕ) → contains ws w ≡ true → ⊥) → ws ≡ []
      nothing [] none = refl
      nothing (w ∷ ws) none = absurd (none w (has_first w ws))

  pub own_events_lem : (c : Content) (e : Event) → StaysWithin within e → (reports_within within (new_reports c e) ≡ new_reports c e) × (sets_asked c e ≡ asked_after within c e)
  own_events_lem c e own = (
    ap (reports_within within) (new_by c e)
        ∙ kept (λ (r : Report). within (r.word / 4)) (map (λ w. report_after c e (touch w e) w) (filter (becomes_racy c e) (accessed e)))
        (each_report within (λ w. report_after c e (touch w e) w) (λ w. refl) (filter (becomes_racy c e) (accessed e)) (each_filter (λ w. within w ≡ true) (becomes_racy c e) (accessed e) (own_words within e own)))
        ∙ sym (new_by c e),
    own_asked within c e own,
  )
