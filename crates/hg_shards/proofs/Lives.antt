-- The life of a word, by what each event does to it.
use Rattle.std.proofs.Common.{◌≡◌, ℕ, ◌+◌, Bool, true, false, cond, List, [], ◌∷◌, ◌++◌, refl, sym, ap, ◌∙◌, ⊎_elim}
use Rattle.hg_model.specs.declared.event.Event.{Event}
use Rattle.hg_model.specs.declared.event.Event.TheVariants.{Read, Write, Alloc, Free}
use Rattle.hg_model.specs.declared.word.HistoryItem.{HistoryItem}
use Rattle.hg_model.specs.Locks.{counted}
use Rattle.hg_model.specs.Segments.{segments_of, present}
use Rattle.hg_model.specs.History.{overlaps, item, history}
use Rattle.hg_model.specs.Sharing.{state, reported_item}
use Rattle.hg_model.specs.Reporting.{is_number, is_reported}
use Rattle.hg_shards.specs.Alike.{Touch, Untouched, ReadBy, WrittenBy, Renewed, touch, DoTheSame, AreAlike, AgreeWithin}
use Rattle.hg_shards.proofs.Rules.{same_length, same_segments, same_held}

-- the history after what was done to the word
abbrev history_after : List Event → List HistoryItem → Touch → List HistoryItem
history_after past items Untouched = items
history_after past items (ReadBy t) = items ++ item past t false ∷ []
history_after past items (WrittenBy t) = items ++ item past t true ∷ []
history_after past items Renewed = []

history_by : (w : ℕ) (e : Event) (past : List Event) → history w (e ∷ past) ≡ history_after past (history w past) (touch w e)
history_by w (Read a) past =
    elim (overlaps a.at a.len w) as (λ b. cond b (history w past ++ item past a.t false ∷ []) (history w past) ≡ history_after past (history w past) (cond b (ReadBy a.t) Untouched)) [ true ↦ refl | false ↦ refl ]
history_by w (Write a) past =
    elim (overlaps a.at a.len w) as (λ b. cond b (history w past ++ item past a.t true ∷ []) (history w past) ≡ history_after past (history w past) (cond b (WrittenBy a.t) Untouched)) [ true ↦ refl | false ↦ refl ]
history_by w (Alloc b) past = elim (overlaps b.at b.len w) as (λ c. cond c [] (history w past) ≡ history_after past (history w past) (cond c Renewed Untouched)) [ true ↦ refl | false ↦ refl ]
history_by w (Free b) past = elim (overlaps b.at b.len w) as (λ c. cond c [] (history w past) ≡ history_after past (history w past) (cond c Renewed Untouched)) [ true ↦ refl | false ↦ refl ]
history_by w e past = refl

after_same : (es fs : List Event) (xs ys : List HistoryItem) → xs ≡ ys → ((t : ℕ) (write : Bool) → item es t write ≡ item fs t write) → (x : Touch) → history_after es xs x ≡ history_after fs ys x
after_same es fs xs ys same items Untouched = same
after_same es fs xs ys same items (ReadBy t) = λ i. same i ++ items t false i ∷ []
after_same es fs xs ys same items (WrittenBy t) = λ i. same i ++ items t true i ∷ []
after_same es fs xs ys same items Renewed = refl

module _ (within : ℕ → Bool) where
  pub same_touch : (e f : Event) → AreAlike within e f → (w : ℕ) → within w ≡ true → touch w e ≡ touch w f
  same_touch e f h w inside = ⊎_elim (λ same. ap (touch w) same) (λ (d : DoTheSame within e f). d.touches w inside) h

  same_item : (es fs : List Event) → AgreeWithin within es fs → (t : ℕ) (write : Bool) → item es t write ≡ item fs t write
  same_item es fs h t write = λ i.
      record {
        event = same_length within es fs h i + 1;
        thread = t;
        segment = present (same_segments within es fs h i) t;
        write = write;
        locks = counted write (same_held within t es fs h i);
      }

  pub same_history : (w : ℕ) → within w ≡ true → (es fs : List Event) → AgreeWithin within es fs → history w es ≡ history w fs
  same_history w inside [] [] h = refl
  same_history w inside [] (f ∷ fs) h = absurd h
  same_history w inside (e ∷ es) [] h = absurd h
  same_history w inside (e ∷ es) (f ∷ fs) h =
      history_by w e es
      ∙ ap (history_after es (history w es)) (same_touch e f h.0 w inside)
      ∙ after_same es fs (history w es) (history w fs) (same_history w inside es fs h.1) (same_item es fs h.1) (touch w f)
      ∙ sym (history_by w f fs)

  pub same_state : (w : ℕ) → within w ≡ true → (es fs : List Event) → AgreeWithin within es fs → state (segments_of es) (history w es) ≡ state (segments_of fs) (history w fs)
  same_state w inside es fs h = λ i. state (same_segments within es fs h i) (same_history w inside es fs h i)

  pub same_reported : (w : ℕ) → within w ≡ true → (es fs : List Event) → AgreeWithin within es fs → is_reported es w ≡ is_reported fs w
  same_reported w inside es fs h = λ i. is_number (same_length within es fs h i) (reported_item (same_segments within es fs h i) (same_history w inside es fs h i))
