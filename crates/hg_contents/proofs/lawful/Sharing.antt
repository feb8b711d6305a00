-- The owner's segment of a word is there, and the threads that share a word are two at least.
use Rattle.std.proofs.Common.{◌≡◌, ℕ, ◌≤◌, ◌<◌, Bool, true, false, cond, nat_eq, nat_lt, List, [], ◌∷◌, ◌++◌, length, refl, sym, ◌∙◌, subst, arith, length-append}
use Rattle.std.proofs.lemmas.Bool.{eqb-true, false≢true}
use Rattle.std.proofs.lemmas.List.Elements.{All-from_recursion}
use Rattle.hg_model.specs.declared.event.Event.{Event}
use Rattle.hg_model.specs.declared.event.Event.TheVariants.{Fork, Join, Lock, RdLock, Unlock, Read, Write, Alloc, Free, Send, Recv}
use Rattle.hg_model.specs.declared.segment.Segment.{Segment}
use Rattle.hg_model.specs.declared.word.WordState.{WordState}
use Rattle.hg_model.specs.declared.word.WordState.TheVariants.{New, Exclusive, SharedRead, SharedModified}
use Rattle.hg_model.specs.Contents.{Content}
use Rattle.hg_model.specs.History.{overlaps}
use Rattle.hg_model.specs.Paths.{reaches}
use Rattle.hg_model.specs.Segments.{opened, present, thread_at}
use Rattle.hg_model.specs.Sets.{common, set_of, with_member}
use Rattle.hg_model.specs.Sharing.{shared, threads_in}
use Rattle.hg_model.specs.ThreadSets.{IsThreadSet}
use Rattle.hg_model.specs.Change.{locks_of, touched, word_after}
use Rattle.hg_cells.specs.declared.cell.Cell.{Cell}
use Rattle.hg_cells.specs.declared.cell.Cell.TheVariants as cell
use Rattle.hg_cells.specs.Cells.{IsWithin, meaning}
use Rattle.hg_graph.specs.Restoring.{AreSegments}
use Rattle.hg_sets.specs.Interning.{set_at}
use Rattle.hg_pages.specs.Slots.{IsKnown}
use Rattle.hg_pages.specs.Slots as slots
use Rattle.hg_contents.specs.States.{IsLawfulWord, LiveWordsAreKnown}
use Rattle.hg_contents.proofs.lawful.Fitting.{AreFit, fit_after}
use Rattle.hg_contents.proofs.lawful.Passing.{IsKept}
use Rattle.hg_contents.proofs.lawful.Reaching.{reaches_present}
use Rattle.hg_contents.proofs.lawful.Standing.{present_below}
use Rattle.hg_contents.proofs.lawful.Threading.{all_small}

-- ---- sets

no_fewer : (threads : List ℕ) (t : ℕ) → length threads ≤ length (with_member threads t)
no_fewer [] t = omega arith
no_fewer (x ∷ xs) t = pick (no_fewer xs t) (nat_lt t x) (nat_eq t x)
  where
    pick : length xs ≤ length (with_member xs t) → (less same : Bool) → length (x ∷ xs) ≤ length (cond less (t ∷ x ∷ xs) (cond same (x ∷ xs) (x ∷ with_member xs t)))
    pick more true same = omega arith
    pick more false true = omega arith
    pick more false false = omega (arith, more)

two : (s t : ℕ) → (s ≡ t → ⊥) → 2 ≤ length (set_of (s ∷ t ∷ []))
two s t apart = pick (nat_lt t s) (nat_eq t s) refl
  where
    pick : (less same : Bool) → nat_eq t s ≡ same → 2 ≤ length (cond less (t ∷ s ∷ []) (cond same (s ∷ []) (s ∷ t ∷ [])))
    pick true same e = omega arith
    pick false true e = absurd (apart (sym (eqb-true t s e)))
    pick false false e = omega arith

-- ---- words

more_segments : (m n : ℕ) (state : WordState) → m ≤ n → IsLawfulWord m state → IsLawfulWord n state
more_segments m n New le is = tt
more_segments m n (Exclusive s) le is = omega (arith, le, is)
more_segments m n (SharedRead threads locks) le is = is
more_segments m n (SharedModified threads locks) le is = is

shared_word : (n : ℕ) (write : Bool) (threads locks : List ℕ) → 2 ≤ length threads → IsLawfulWord n (shared write threads locks)
shared_word n true threads locks several = several
shared_word n false threads locks several = several

either : (n : ℕ) (b : Bool) (x y : WordState) → IsLawfulWord n x → IsLawfulWord n y → IsLawfulWord n (cond b x y)
either n true x y one other = one
either n false x y one other = other

module _ (segments : List Segment) (are : AreSegments segments) (some : 1 ≤ length segments) (t : ℕ) (write : Bool) (locks : List ℕ) where
  touched_word : (state : WordState) → IsLawfulWord (length segments) state → IsLawfulWord (length segments) (touched segments t (present segments t) write locks state)
  touched_word New is = present_below segments t some
  touched_word (Exclusive s) is = passed (reaches segments s (present segments t)) refl
    where
      passed : (b : Bool) → reaches segments s (present segments t) ≡ b → IsLawfulWord (length segments) (cond b (Exclusive (present segments t)) (shared write (set_of (thread_at segments s ∷ t ∷ [])) locks))
      passed true h = present_below segments t some
      passed false h =
          shared_word (length segments) write (set_of (thread_at segments s ∷ t ∷ [])) locks
          (two (thread_at segments s) t (λ same. false≢true (sym h ∙ reaches_present segments are s t is same)))
  touched_word (SharedRead threads held) is = shared_word (length segments) write (with_member threads t) (common held locks) (omega (arith, is, no_fewer threads t))
  touched_word (SharedModified threads held) is = omega (arith, is, no_fewer threads t)

-- lawful words over segments that obey the rules
pub record AreShared (c : Content) : Type 0 where
  pub fit : AreFit c
  pub words : (w : ℕ) → IsLawfulWord (length c.segments) (c.words w)

word_is : (c : Content) (e : Event) (w : ℕ) → AreShared c → IsLawfulWord (length c.segments) (word_after c e w)
word_is c (Fork p d) w is = is.words w
word_is c (Join p d) w is = is.words w
word_is c (Send t k) w is = is.words w
word_is c (Recv t k) w is = is.words w
word_is c (Lock t l) w is = is.words w
word_is c (RdLock t l) w is = is.words w
word_is c (Unlock t l) w is = is.words w
word_is c (Read a) w is =
    either (length c.segments) (overlaps a.at a.len w) _ _ (touched_word c.segments is.fit.grown.named.lawful is.fit.grown.counted.some a.t false (locks_of c.threads a.t false) (c.words w) (is.words w)) (is.words w)
word_is c (Write a) w is =
    either (length c.segments) (overlaps a.at a.len w) _ _ (touched_word c.segments is.fit.grown.named.lawful is.fit.grown.counted.some a.t true (locks_of c.threads a.t true) (c.words w) (is.words w)) (is.words w)
word_is c (Alloc b) w is = either (length c.segments) (overlaps b.at b.len w) New (c.words w) tt (is.words w)
word_is c (Free b) w is = either (length c.segments) (overlaps b.at b.len w) New (c.words w) tt (is.words w)

pub shared_after : IsKept AreShared
shared_after c n pass is = record {
  fit = fit_after c n pass is.fit;
  words = λ w. more_segments (length c.segments) (length (c.segments ++ opened c.segments n.event)) (word_after c n.event w) (omega (arith, length-append c.segments (opened c.segments n.event))) (word_is c n.event w is);
}

-- ---- cells

module _ (segments : ℕ) (sets : List (List ℕ)) where
  -- what a cell that is known says of its word
  pub known_word : (x : Cell) → IsKnown segments sets x → IsLawfulWord segments (meaning sets x)
  known_word cell.New known = tt
  known_word (cell.Exclusive s) known = known
  known_word (cell.SharedRead threads locks) known = known.0.several
  known_word (cell.SharedModified threads locks) known = known.0.several

  thread_set : (id : ℕ) → id < length sets → 2 ≤ length (set_at sets id) → IsThreadSet (set_at sets id) → slots.IsThreadSet sets id
  thread_set id lt several rises = record { known = lt; several = several; threads = All-from_recursion (λ t. t ≤ 1023) (set_at sets id) (all_small 0 (set_at sets id) rises) }

  -- and back
  known_cell : (n : ℕ) (x : Cell) → IsLawfulWord n (meaning sets x) → IsThreadSet (threads_in (meaning sets x)) → IsWithin segments (length sets) x → IsKnown segments sets x
  known_cell n cell.New is rises within = tt
  known_cell n (cell.Exclusive s) is rises within = within
  known_cell n (cell.SharedRead threads locks) is rises within = (thread_set threads within.0 is rises, within.1)
  known_cell n (cell.SharedModified threads locks) is rises within = (thread_set threads within.0 is rises, within.1)

pub live_known : LiveWordsAreKnown
live_known c segments sets x w state same within =
    known_cell segments sets (length c.segments) x (subst (IsLawfulWord (length c.segments)) same (state.words w)) (subst (λ (s : WordState). IsThreadSet (threads_in s)) same (state.sets.words w)) within
