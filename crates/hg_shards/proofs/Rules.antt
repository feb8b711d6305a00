-- What needs no access: segments, threads and held locks.
use Rattle.std.proofs.Common.{◌≡◌, ℕ, suc, Bool, true, false, cond, nat_eq, List, [], ◌∷◌, ◌++◌, length, map, refl, sym, ap, ◌∙◌, ⊎_elim}
use Rattle.std.proofs.lemmas.Bool.{false≢true}
use Rattle.hg_model.specs.declared.event.Event.{Event}
use Rattle.hg_model.specs.declared.event.Event.TheVariants.{Fork, Join, Lock, RdLock, Unlock, Send, Recv}
use Rattle.hg_model.specs.declared.segment.Segment.{Segment}
use Rattle.hg_model.specs.Locks.{held, with_hold, without_lock}
use Rattle.hg_model.specs.Sets.{with_member}
use Rattle.hg_model.specs.Segments.{opened, segments_of, used, not_joined}
use Rattle.hg_model.specs.Contents.{threads_of}
use Rattle.hg_shards.specs.Alike.{is_of_memory, DoTheSame, AreAlike, AgreeWithin}

-- ---- an event of memory leaves it all as it was

pub opens_none : (segments : List Segment) (e : Event) → is_of_memory e ≡ true → opened segments e ≡ []
opens_none segments (Fork p c) h = absurd (false≢true h)
opens_none segments (Join p c) h = absurd (false≢true h)
opens_none segments (Send t k) h = absurd (false≢true h)
opens_none segments (Recv t k) h = absurd (false≢true h)
opens_none segments e h = refl

uses_none : (e : Event) (past : List Event) → is_of_memory e ≡ true → used (e ∷ past) ≡ used past
uses_none (Fork p c) past h = absurd (false≢true h)
uses_none e past h = refl

joins_none : (e : Event) (past : List Event) (t : ℕ) → is_of_memory e ≡ true → not_joined (e ∷ past) t ≡ not_joined past t
joins_none (Join p c) past t h = absurd (false≢true h)
joins_none e past t h = refl

holds_none : (e : Event) (past : List Event) (t : ℕ) → is_of_memory e ≡ true → held (e ∷ past) t ≡ held past t
holds_none (Lock u l) past t h = absurd (false≢true h)
holds_none (RdLock u l) past t h = absurd (false≢true h)
holds_none (Unlock u l) past t h = absurd (false≢true h)
holds_none e past t h = refl

-- ---- one event after two traces that have it in common

used_on : (e : Event) (es fs : List Event) → used es ≡ used fs → used (e ∷ es) ≡ used (e ∷ fs)
used_on (Fork p c) es fs h = ap (λ us. with_member us c) h
used_on e es fs h = h

joined_on : (e : Event) (es fs : List Event) (t : ℕ) → not_joined es t ≡ not_joined fs t → not_joined (e ∷ es) t ≡ not_joined (e ∷ fs) t
joined_on (Join p c) es fs t h = ap (cond (nat_eq c t) false) h
joined_on e es fs t h = h

held_on : (e : Event) (es fs : List Event) (t : ℕ) → held es t ≡ held fs t → held (e ∷ es) t ≡ held (e ∷ fs) t
held_on (Lock u l) es fs t h = ap (λ hs. cond (nat_eq u t) (with_hold (record { lock = l; write = true }) hs) hs) h
held_on (RdLock u l) es fs t h = ap (λ hs. cond (nat_eq u t) (with_hold (record { lock = l; write = false }) hs) hs) h
held_on (Unlock u l) es fs t h = ap (λ hs. cond (nat_eq u t) (without_lock l hs) hs) h
held_on e es fs t h = h

-- ---- traces that agree within a set of words

module _ (within : ℕ → Bool) where
  pub opened_alike : (segments : List Segment) (e f : Event) → AreAlike within e f → opened segments e ≡ opened segments f
  opened_alike segments e f h =
      ⊎_elim (λ same. ap (opened segments) same) (λ (d : DoTheSame within e f). opens_none segments e d.first ∙ sym (opens_none segments f d.second)) h

  pub same_length : (es fs : List Event) → AgreeWithin within es fs → length es ≡ length fs
  same_length [] [] h = refl
  same_length [] (f ∷ fs) h = absurd h
  same_length (e ∷ es) [] h = absurd h
  same_length (e ∷ es) (f ∷ fs) h = ap suc (same_length es fs h.1)

  pub same_segments : (es fs : List Event) → AgreeWithin within es fs → segments_of es ≡ segments_of fs
  same_segments [] [] h = refl
  same_segments [] (f ∷ fs) h = absurd h
  same_segments (e ∷ es) [] h = absurd h
  same_segments (e ∷ es) (f ∷ fs) h =
      ap (λ segments. segments ++ opened segments e) (same_segments es fs h.1) ∙ ap (λ new. segments_of fs ++ new) (opened_alike (segments_of fs) e f h.0)

  -- what each event changes by itself, and an event of memory leaves
  step : {X : Type 0} (view : List Event → X) → ((e : Event) (past : List Event) → is_of_memory e ≡ true → view (e ∷ past) ≡ view past) →
      ((e : Event) (es fs : List Event) → view es ≡ view fs → view (e ∷ es) ≡ view (e ∷ fs)) →
      (e f : Event) (es fs : List Event) → AreAlike within e f → view es ≡ view fs → view (e ∷ es) ≡ view (f ∷ fs)
  step view leaves on e f es fs alike before =
      ⊎_elim
      (λ same. on e es fs before ∙ ap (λ x. view (x ∷ fs)) same)
      (λ (d : DoTheSame within e f). leaves e es d.first ∙ before ∙ sym (leaves f fs d.second))
      alike

  along : {X : Type 0} (view : List Event → X) → ((e : Event) (past : List Event) → is_of_memory e ≡ true → view (e ∷ past) ≡ view past) →
      ((e : Event) (es fs : List Event) → view es ≡ view fs → view (e ∷ es) ≡ view (e ∷ fs)) →
      (es fs : List Event) → AgreeWithin within es fs → view es ≡ view fs
  along view leaves on [] [] h = refl
  along view leaves on [] (f ∷ fs) h = absurd h
  along view leaves on (e ∷ es) [] h = absurd h
  along view leaves on (e ∷ es) (f ∷ fs) h = step view leaves on e f es fs h.0 (along view leaves on es fs h.1)

  pub same_used : (es fs : List Event) → AgreeWithin within es fs → used es ≡ used fs
  same_used = along used uses_none used_on

  pub same_joined : (t : ℕ) (es fs : List Event) → AgreeWithin within es fs → not_joined es t ≡ not_joined fs t
  same_joined t = along (λ past. not_joined past t) (λ e past. joins_none e past t) (λ e es fs. joined_on e es fs t)

  pub same_held : (t : ℕ) (es fs : List Event) → AgreeWithin within es fs → held es t ≡ held fs t
  same_held t = along (λ past. held past t) (λ e past. holds_none e past t) (λ e es fs. held_on e es fs t)

  pub same_threads : (es fs : List Event) → AgreeWithin within es fs → threads_of es ≡ threads_of fs
  same_threads es fs h = λ i. map (λ t. record { number = t; alive = same_joined t es fs h i; held = same_held t es fs h i }) (same_used es fs h i)
