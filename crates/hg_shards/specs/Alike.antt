-- Traces that do the same to the words of a group, whatever they do to other words. A group is given as a test of words.
use Rattle.std.specs.Prelude.{◌≡◌, ◌⊎◌, ℕ, ◌/◌, Bool, true, false, List, [], ◌∷◌, filter, map, if◌then◌else◌}
use Rattle.hg_model.specs.declared.event.Event.{Event}
use Rattle.hg_model.specs.declared.event.Event.TheVariants.{Read, Write, Alloc, Free}
use Rattle.hg_model.specs.declared.event.Named.{Named}
use Rattle.hg_model.specs.declared.report.Report.{Report}
use Rattle.hg_model.specs.History.{overlaps}
use Rattle.hg_model.specs.Contents.{Content, events_of}
use Rattle.hg_model.specs.Verdicts.{actor, bad_length, past_address_end}

-- What an event does to a word: nothing, a read or a write by a thread, or the word is new from then on.
pub data Touch : Type 0 where
  Untouched : Touch
  ReadBy : (t : ℕ) → Touch
  WrittenBy : (t : ℕ) → Touch
  Renewed : Touch

-- what an event does to the word w
abbrev pub touch : ℕ → Event → Touch
touch w (Read a) = if overlaps a.at a.len w then ReadBy a.t else Untouched
touch w (Write a) = if overlaps a.at a.len w then WrittenBy a.t else Untouched
touch w (Alloc b) = if overlaps b.at b.len w then Renewed else Untouched
touch w (Free b) = if overlaps b.at b.len w then Renewed else Untouched
touch w _ = Untouched

-- an access, or a block that is allocated or freed
abbrev pub is_of_memory : Event → Bool
is_of_memory (Read a) = true
is_of_memory (Write a) = true
is_of_memory (Alloc b) = true
is_of_memory (Free b) = true
is_of_memory _ = false

-- Both events are of memory, and they do the same to each word of the group.
pub record DoTheSame (within : ℕ → Bool) (e f : Event) : Type 0 where
  pub first : is_of_memory e ≡ true
  pub second : is_of_memory f ≡ true
  pub touches : (w : ℕ) → within w ≡ true → touch w e ≡ touch w f

-- The group cannot tell the events apart: they are one, or both are of memory and do the same to its words.
abbrev pub AreAlike : (ℕ → Bool) → Event → Event → Type 0
AreAlike within e f = (e ≡ f) ⊎ DoTheSame within e f

-- The traces are as long as each other, and the group cannot tell apart the events at any place.
abbrev pub AgreeWithin : (ℕ → Bool) → List Event → List Event → Type 0
AgreeWithin within [] [] = Unit {0}
AgreeWithin within [] (f ∷ fs) = ⊥
AgreeWithin within (e ∷ es) [] = ⊥
AgreeWithin within (e ∷ es) (f ∷ fs) = AreAlike within e f × AgreeWithin within es fs

-- The named traces come from the same sources, event by event, and agree.
pub record AgreeByName (within : ℕ → Bool) (ms ns : List Named) : Type 0 where
  pub sources : map (λ n. n.source) ms ≡ map (λ n. n.source) ns
  pub events : AgreeWithin within (events_of ms) (events_of ns)

-- The contents have the same count of events, segments and threads, and each word of the group in the same state.
pub record ContentsAgree (within : ℕ → Bool) (c d : Content) : Type 0 where
  pub events : c.events ≡ d.events
  pub segments : c.segments ≡ d.segments
  pub threads : c.threads ≡ d.threads
  pub words : (w : ℕ) → within w ≡ true → c.words w ≡ d.words w

-- The event is of memory and touches no word of the group.
pub record PassesBy (within : ℕ → Bool) (e : Event) : Type 0 where
  pub memory : is_of_memory e ≡ true
  pub nothing : (w : ℕ) → within w ≡ true → touch w e ≡ Untouched

-- The event touches no word outside the group.
abbrev pub StaysWithin : (ℕ → Bool) → Event → Type 0
StaysWithin within e = (w : ℕ) → within w ≡ false → touch w e ≡ Untouched

-- the reports of words of the group
abbrev pub reports_within : (ℕ → Bool) → List Report → List Report
reports_within within reports = filter (λ r. within (r.word / 4)) reports

-- Both events are of memory and of one thread, and the second has a lawful length and end. So is an access that was cut to the
-- words of a group.
pub record IsLawfulCut (e f : Event) : Type 0 where
  pub first : is_of_memory e ≡ true
  pub second : is_of_memory f ≡ true
  pub thread : actor e ≡ actor f
  pub len : bad_length f ≡ false
  pub end : past_address_end f ≡ false

-- The second event may stand in the place of the first: it has the same name, and is the same event or a lawful cut of it.
pub record MayStandFor (m n : Named) : Type 0 where
  pub source : m.source ≡ n.source
  pub number : m.number ≡ n.number
  pub event : (m.event ≡ n.event) ⊎ IsLawfulCut m.event n.event
