-- The reports of the words of a set, by what the last event does to them.
use Rattle.std.proofs.Common.{◌≡◌, ℕ, ◌*◌, ◌/◌, Bool, true, false, cond, ◌&&◌, List, [], ◌∷◌, ◌++◌, map, filter, refl, sym, ap, ◌∙◌, arith}
use Rattle.std.proofs.lemmas.List.Elements.{filter-append}
use Rattle.std.specs.List.{AllByRecursion}
use Rattle.hg_model.specs.declared.event.Event.{Event}
use Rattle.hg_model.specs.declared.event.Event.TheVariants.{Read, Write, Alloc, Free}
use Rattle.hg_model.specs.declared.report.Report.{Report}
use Rattle.hg_model.specs.History.{overlaps}
use Rattle.hg_model.specs.Sets.{contains}
use Rattle.hg_model.specs.Sharing.{threads_in}
use Rattle.hg_model.specs.Reporting.{words_of, is_reported, report, reports_at_last, all_reports}
use Rattle.hg_model.proofs.Rising.{From, from_increasing}
use Rattle.hg_model.proofs.Reported.{words_lem}
use Rattle.hg_shards.specs.Alike.{Touch, Untouched, ReadBy, WrittenBy, Renewed, touch, AreAlike, AgreeWithin, reports_within}
use Rattle.hg_shards.specs.Asking.{accessed}
use Rattle.hg_shards.proofs.Rules.{same_length}
use Rattle.hg_shards.proofs.Lives.{same_touch, same_state, same_reported}
use Rattle.hg_shards.proofs.Sets.{from_filter, rising_same, contains_filter, each_member}

abbrev pub is_access : Touch → Bool
is_access (ReadBy t) = true
is_access (WrittenBy t) = true
is_access _ = false

abbrev pub writes : Touch → Bool
writes (WrittenBy t) = true
writes _ = false

abbrev pub thread_by : Touch → ℕ
thread_by (ReadBy t) = t
thread_by (WrittenBy t) = t
thread_by _ = 0

-- the report of a word to which this was done
abbrev pub report_by : List Event → Touch → ℕ → Report
report_by trace x w = report trace (thread_by x) (writes x) w

pub words_rise : (at len : ℕ) → From 0 (words_of at len)
words_rise at len = from_increasing 0 (words_of at len) (λ _. omega arith) (words_lem at len).0

pub accessed_rise : (e : Event) → From 0 (accessed e)
accessed_rise (Read a) = words_rise a.at a.len
accessed_rise (Write a) = words_rise a.at a.len
accessed_rise e = tt

pub accessed_words : (e : Event) (w : ℕ) → contains (accessed e) w ≡ is_access (touch w e)
accessed_words (Read a) w = (words_lem a.at a.len).1 w ∙ elim (overlaps a.at a.len w) as (λ b. b ≡ is_access (cond b (ReadBy a.t) Untouched)) [ true ↦ refl | false ↦ refl ]
accessed_words (Write a) w = (words_lem a.at a.len).1 w ∙ elim (overlaps a.at a.len w) as (λ b. b ≡ is_access (cond b (WrittenBy a.t) Untouched)) [ true ↦ refl | false ↦ refl ]
accessed_words (Alloc b) w = elim (overlaps b.at b.len w) as (λ c. false ≡ is_access (cond c Renewed Untouched)) [ true ↦ refl | false ↦ refl ]
accessed_words (Free b) w = elim (overlaps b.at b.len w) as (λ c. false ≡ is_access (cond c Renewed Untouched)) [ true ↦ refl | false ↦ refl ]
accessed_words e w = refl

pub map_each : (P : ℕ → Type 0) (f g : ℕ → Report) → ((w : ℕ) → P w → f w ≡ g w) → (ws : List ℕ) → AllByRecursion P ws → map f ws ≡ map g ws
map_each P f g same [] h = refl
map_each P f g same (w ∷ ws) h = λ i. same w h.0 i ∷ map_each P f g same ws h.1 i

pub each_filter : (P : ℕ → Type 0) (p : ℕ → Bool) (ws : List ℕ) → AllByRecursion P ws → AllByRecursion P (filter p ws)
each_filter P p [] h = tt
each_filter P p (w ∷ ws) h = elim (p w) as (λ b. AllByRecursion P (cond b (w ∷ filter p ws) (filter p ws))) [ true ↦ (h.0, each_filter P p ws h.1) | false ↦ each_filter P p ws h.1 ]

pub filter_map : (q : Report → Bool) (f : ℕ → Report) (ws : List ℕ) → filter q (map f ws) ≡ map f (filter (λ w. q (f w)) ws)
filter_map q f [] = refl
filter_map q f (w ∷ ws) =
    elim (q (f w)) as (λ b. cond b (f w ∷ filter q (map f ws)) (filter q (map f ws)) ≡ map f (cond b (w ∷ filter (λ v. q (f v)) ws) (filter (λ v. q (f v)) ws))) [
      | true ↦ ap (λ rs. f w ∷ rs) (filter_map q f ws)
      | false ↦ filter_map q f ws
    ]

at_an_access : (trace : List Event) (at len t : ℕ) (write : Bool) (x : Touch) → thread_by x ≡ t → writes x ≡ write →
    map (report trace t write) (filter (is_reported trace) (words_of at len)) ≡ map (λ w. report_by trace (cond (overlaps at len w) x Untouched) w) (filter (is_reported trace) (words_of at len))
at_an_access trace at len t write x thread kind =
    map_each (λ w. overlaps at len w ≡ true) (report trace t write) (λ w. report_by trace (cond (overlaps at len w) x Untouched) w)
    (λ w inside. sym (λ i. report trace (thread i) (kind i) w) ∙ ap (λ b. report_by trace (cond b x Untouched) w) (sym inside))
    (filter (is_reported trace) (words_of at len))
    (each_filter (λ w. overlaps at len w ≡ true) (is_reported trace) (words_of at len) (each_member (λ w. overlaps at len w ≡ true) (words_of at len) (λ w h. sym ((words_lem at len).1 w) ∙ h)))

pub reports_by : (e : Event) (past : List Event) → reports_at_last (e ∷ past) ≡ map (λ w. report_by (e ∷ past) (touch w e) w) (filter (is_reported (e ∷ past)) (accessed e))
reports_by (Read a) past = at_an_access (Read a ∷ past) a.at a.len a.t false (ReadBy a.t) refl refl
reports_by (Write a) past = at_an_access (Write a ∷ past) a.at a.len a.t true (WrittenBy a.t) refl refl
reports_by e past = refl

module _ (within : ℕ → Bool) where
  -- the accessed words of the set that pass a test
  abbrev pub told : (ℕ → Bool) → Event → List ℕ
  told test e = filter (λ w. within ((4 * w) / 4)) (filter test (accessed e))

  told_rise : (test : ℕ → Bool) (e : Event) → From 0 (told test e)
  told_rise test e = from_filter (λ w. within ((4 * w) / 4)) 0 _ (from_filter test 0 (accessed e) (accessed_rise e))

  by_word : (w : ℕ) → within ((4 * w) / 4) ≡ within w
  by_word w = let e : (4 * w) / 4 ≡ w = omega arith in ap within e

  pub in_told : (test : ℕ → Bool) (e : Event) (w : ℕ) → contains (told test e) w ≡ (within w && (test w && is_access (touch w e)))
  in_told test e w =
      contains_filter (λ v. within ((4 * v) / 4)) (filter test (accessed e)) w
      ∙ (λ i. by_word w i && (contains_filter test (accessed e) w i))
      ∙ ap (λ b. within w && (test w && b)) (accessed_words e w)

  -- alike events have the same words, where the tests agree
  pub same_told : (p q : ℕ → Bool) (e f : Event) → AreAlike within e f → ((w : ℕ) → within w ≡ true → p w ≡ q w) → told p e ≡ told q f
  same_told p q e f alike same =
      rising_same 0 (told p e) (told q f) (told_rise p e) (told_rise q f)
      (λ w. in_told p e w ∙ by (within w) (λ inside i. same w inside i && is_access (same_touch within e f alike w inside i)) ∙ sym (in_told q f w))
    where
      by : {x y : Bool} (b : Bool) → (b ≡ true → x ≡ y) → (b && x) ≡ (b && y)
      by true same = same refl
      by false same = refl

  passing : (p : ℕ → Bool) (ws : List ℕ) → AllByRecursion (λ w. p w ≡ true) (filter p ws)
  passing p [] = tt
  passing p (w ∷ ws) = elim (p w) as (λ b. p w ≡ b → AllByRecursion (λ v. p v ≡ true) (cond b (w ∷ filter p ws) (filter p ws))) [ true ↦ λ is. (is, passing p ws) | false ↦ λ _. passing p ws ] refl

  -- and the same reports, where each word of the set has the same one
  pub same_of_told : (p q : ℕ → Bool) (f g : ℕ → Report) (d e : Event) → AreAlike within d e → ((w : ℕ) → within w ≡ true → p w ≡ q w) → ((w : ℕ) → within w ≡ true → f w ≡ g w) →
      map f (told p d) ≡ map g (told q e)
  same_of_told p q f g d e alike same equal =
      map_each (λ w. within ((4 * w) / 4) ≡ true) f g (λ w inside. equal w (sym (by_word w) ∙ inside)) (told p d) (passing (λ w. within ((4 * w) / 4)) (filter p (accessed d)))
      ∙ ap (map g) (same_told p q d e alike same)

  same_report : (e f : Event) (es fs : List Event) → AgreeWithin within (e ∷ es) (f ∷ fs) → (w : ℕ) → within w ≡ true →
      report_by (e ∷ es) (touch w e) w ≡ report_by (f ∷ fs) (touch w f) w
  same_report e f es fs h w inside = λ i.
      record {
        event = same_length within (e ∷ es) (f ∷ fs) h i;
        write = writes (same_touch within e f h.0 w inside i);
        thread = thread_by (same_touch within e f h.0 w inside i);
        word = 4 * w;
        threads = threads_in (same_state within w inside (e ∷ es) (f ∷ fs) h i);
      }

  told_by : (e : Event) (past : List Event) → reports_within within (reports_at_last (e ∷ past)) ≡ map (λ w. report_by (e ∷ past) (touch w e) w) (told (is_reported (e ∷ past)) e)
  told_by e past = ap (reports_within within) (reports_by e past) ∙ filter_map (λ r. within (r.word / 4)) (λ w. report_by (e ∷ past) (touch w e) w) (filter (is_reported (e ∷ past)) (accessed e))

  pub same_last : (es fs : List Event) → AgreeWithin within es fs → reports_within within (reports_at_last es) ≡ reports_within within (reports_at_last fs)
  same_last [] [] h = refl
  same_last [] (f ∷ fs) h = absurd h
  same_last (e ∷ es) [] h = absurd h
  same_last (e ∷ es) (f ∷ fs) h =
      told_by e es
      ∙ same_of_told (is_reported (e ∷ es)) (is_reported (f ∷ fs)) _ _ e f h.0 (λ w inside. same_reported within w inside (e ∷ es) (f ∷ fs) h) (same_report e f es fs h)
      ∙ sym (told_by f fs)

  pub same_reports : (es fs : List Event) → AgreeWithin within es fs → reports_within within (all_reports es) ≡ reports_within within (all_reports fs)
  same_reports [] [] h = refl
  same_reports [] (f ∷ fs) h = absurd h
  same_reports (e ∷ es) [] h = absurd h
  same_reports (e ∷ es) (f ∷ fs) h =
      filter-append (λ r. within (r.word / 4)) (all_reports es) (reports_at_last (e ∷ es))
      ∙ (λ i. same_reports es fs h.1 i ++ same_last (e ∷ es) (f ∷ fs) h i)
      ∙ sym (filter-append (λ r. within (r.word / 4)) (all_reports fs) (reports_at_last (f ∷ fs)))
