-- The sets of words, and the tables that have them, have a spelling.
use Rattle.std.proofs.Common.{◌≡◌, ◌⊎◌, inl, inr, ℕ, ◌≤◌, ◌<◌, ◌^◌, List, [], ◌∷◌, All, Option, Some, None, Result, Ok, Err, sym, subst, arith}
use Rattle.std.specs.Prelude.{flat_map}
use Rattle.std.specs.List.{AllByRecursion}
use Rattle.std.proofs.lemmas.List.Elements.{All-append, All-cons, All-from_recursion, All-nil, recursion_from_All}
use Rattle.hg_model.specs.declared.segment.Segment.{Segment}
use Rattle.hg_model.specs.declared.event.Event.{Event}
use Rattle.hg_model.specs.declared.event.Event.TheVariants.{Fork, Join, Lock, RdLock, Unlock, Read, Write, Alloc, Free, Send, Recv}
use Rattle.hg_model.specs.declared.event.Named.{Named}
use Rattle.hg_model.specs.declared.thread.ThreadState.{ThreadState}
use Rattle.hg_model.specs.declared.verdict.Refusal.{Refusal}
use Rattle.hg_model.specs.declared.verdict.Refusal.TheVariants as refusal
use Rattle.hg_model.specs.declared.word.WordState.{WordState}
use Rattle.hg_model.specs.declared.word.WordState.TheVariants.{New, Exclusive, SharedRead, SharedModified}
use Rattle.hg_model.specs.Contents.{Content}
use Rattle.hg_model.specs.Reporting.{words_of}
use Rattle.hg_model.specs.Sharing.{threads_in}
use Rattle.hg_model.specs.ThreadSets.{HasThreadSets, IsThreadSet}
use Rattle.hg_model.specs.Change.{after, empty_content, followed, word_after}
use Rattle.hg_model.proofs.ThreadSets.{few, kept, start}
use Rattle.hg_records.specs.Records.{RecordFits}
use Rattle.hg_sets.specs.Interning.{Interns, Table}
use Rattle.hg_sets.specs.declared.fault.SetFault.{SetFault}
use Rattle.hg_sets.specs.declared.fault.SetFault.TheVariants.{Full, OutOfMemory}
use Rattle.hg_detect.specs.Making.{Asks, AsksBy, sets_asked, sets_in}
use Rattle.hg_root.specs.Grammar.{LockFits, MarkFits, SetFits}
use Rattle.hg_contents.specs.Spellings.{HasSpellings}
use Rattle.hg_contents.proofs.lawful.Lists.{each_both, each_weaker}
use Rattle.hg_contents.proofs.lawful.Passing.{kept_with}
use Rattle.hg_contents.proofs.lawful.Spelling.{IsFew, IsSpelled, LocksFit, candidates, spelled_after, spelled_first}
use Rattle.hg_contents.proofs.lawful.Threading.{all_small}

threads_fit : (ts : List ℕ) → IsThreadSet ts → SetFits ts
threads_fit ts rises = (omega (arith, few ts rises), each_weaker (λ t. t ≤ 1023) (λ t. t < 2 ^ 16) (λ t le. omega (arith, le)) ts (all_small 0 ts rises))

locks_fit : (ls : List ℕ) → IsFew ls → SetFits ls
locks_fit ls is = (is.len, is.each)

both_fit : (state : WordState) → IsThreadSet (threads_in state) → IsFew (candidates state) → All SetFits (sets_in state)
both_fit New rises is = All-nil SetFits
both_fit (Exclusive s) rises is = All-nil SetFits
both_fit (SharedRead threads locks) rises is = All-from_recursion SetFits (threads ∷ locks ∷ []) (threads_fit threads rises, (locks_fit locks is, tt))
both_fit (SharedModified threads locks) rises is = All-from_recursion SetFits (threads ∷ locks ∷ []) (threads_fit threads rises, (locks_fit locks is, tt))

pub has_spellings : (c : Content) → IsSpelled c → HasThreadSets c → HasSpellings c
has_spellings c is sets = record {
  messages = All-from_recursion (λ (s : Segment). MarkFits s.mark) c.segments is.messages;
  locks = All-from_recursion (λ (x : ThreadState). All LockFits x.held) c.threads (each_weaker LocksFit (λ x. All LockFits x.held) (λ x all. All-from_recursion LockFits x.held all) c.threads is.locks);
  words = λ w. both_fit (c.words w) (sets.words w) (is.words w);
}

pub spellings : (events : List Named) (c : Content) → AllByRecursion RecordFits events → followed empty_content events ≡ Some c → HasSpellings c
spellings events c fits led = has_spellings c (kept_with RecordFits IsSpelled spelled_after empty_content c events fits led spelled_first) (kept empty_content c events led start)

-- ---- tables

asked_fit : (c : Content) (e : Event) → ((w : ℕ) → All SetFits (sets_in (word_after c e w))) → (words : List ℕ) → AllByRecursion SetFits (flat_map (λ w. sets_in (word_after c e w)) words)
asked_fit c e each [] = tt
asked_fit c e each (w ∷ words) = each_both SetFits (sets_in (word_after c e w)) (flat_map (λ v. sets_in (word_after c e v)) words) (recursion_from_All SetFits (sets_in (word_after c e w)) (each w)) (asked_fit c e each words)

event_fits : (c : Content) (e : Event) → ((w : ℕ) → All SetFits (sets_in (word_after c e w))) → AllByRecursion SetFits (sets_asked c e)
event_fits c (Fork p d) each = tt
event_fits c (Join p d) each = tt
event_fits c (Lock t l) each = tt
event_fits c (RdLock t l) each = tt
event_fits c (Unlock t l) each = tt
event_fits c (Read a) each = asked_fit c (Read a) each (words_of a.at a.len)
event_fits c (Write a) each = asked_fit c (Write a) each (words_of a.at a.len)
event_fits c (Alloc b) each = tt
event_fits c (Free b) each = tt
event_fits c (Send t k) each = tt
event_fits c (Recv t k) each = tt

abbrev AreFitting : Table → Type 0
AreFitting t = All SetFits t.sets

found_or_added : (old : Table) (set : List ℕ) (id : ℕ) (new : Table) → Interns old set (Ok id) new → SetFits set → AreFitting old → AreFitting new
found_or_added old set id new (inl (at, stands, is, same)) one all = subst AreFitting (sym same) all
found_or_added old set id new (inr (none, adds)) one all = subst AreFitting (sym adds.2) (All-append SetFits old.sets (set ∷ []) all (All-cons SetFits set [] one (All-nil SetFits)))

not_added : (old : Table) (set : List ℕ) (fault : SetFault) (new : Table) → Interns old set (Err fault) new → AreFitting old → AreFitting new
not_added old set fault new (inl (at, stands, is, same)) all = subst AreFitting (sym same) all
not_added old set Full new (inr (none, adds)) all = subst AreFitting (sym adds.1) all
not_added old set OutOfMemory new (inr (none, adds)) all = subst AreFitting (sym adds.1) all

asks_fit : (old : Table) (sets : List (List ℕ)) (refused : Option SetFault) (new : Table) → Asks old sets refused new → AllByRecursion SetFits sets → AreFitting old → AreFitting new
asks_fit old [] None new same each all = subst AreFitting (sym same) all
asks_fit old [] (Some fault) new never each all = absurd never
asks_fit old (set ∷ sets) refused new (inl (id, mid, one, rest)) each all = asks_fit mid sets refused new rest each.1 (found_or_added old set id mid one each.0 all)
asks_fit old (set ∷ sets) refused new (inr (fault, one, is)) each all = not_added old set fault new one all

pub tables : (c : Content) (n : Named) (old new : Table) (refused : Option SetFault) → HasSpellings (after c n) → Asks old (sets_asked c n.event) refused new → All SetFits old.sets → All SetFits new.sets
tables c n old new refused has asks all = asks_fit old (sets_asked c n.event) refused new asks (event_fits c n.event has.words) all

-- ---- answers

either_fits : (old : Table) (sets : List (List ℕ)) (r : Refusal) (new : Table) → (new ≡ old) ⊎ ((r ≡ refusal.OutOfMemory) × (Asks old sets None new ⊎ Asks old sets (Some OutOfMemory) new)) → AllByRecursion SetFits sets → AreFitting old → AreFitting new
either_fits old sets r new (inl same) each all = subst AreFitting (sym same) all
either_fits old sets r new (inr (short, inl asks)) each all = asks_fit old sets None new asks each all
either_fits old sets r new (inr (short, inr part)) each all = asks_fit old sets (Some OutOfMemory) new part each all

answer_fits : (old : Table) (sets : List (List ℕ)) (answer : Result (Unit {0}) Refusal) (new : Table) → AsksBy old sets answer new → AllByRecursion SetFits sets → AreFitting old → AreFitting new
answer_fits old sets (Ok u) new asks each all = asks_fit old sets None new asks each all
answer_fits old sets (Err refusal.FullSets) new asks each all = asks_fit old sets (Some Full) new asks each all
answer_fits old sets (Err (refusal.Gap number)) new asks each all = either_fits old sets (refusal.Gap number) new asks each all
answer_fits old sets (Err refusal.BadNumber) new asks each all = either_fits old sets refusal.BadNumber new asks each all
answer_fits old sets (Err refusal.BadLength) new asks each all = either_fits old sets refusal.BadLength new asks each all
answer_fits old sets (Err refusal.AddressEnd) new asks each all = either_fits old sets refusal.AddressEnd new asks each all
answer_fits old sets (Err refusal.NoThread) new asks each all = either_fits old sets refusal.NoThread new asks each all
answer_fits old sets (Err refusal.ChildUsed) new asks each all = either_fits old sets refusal.ChildUsed new asks each all
answer_fits old sets (Err refusal.SelfJoin) new asks each all = either_fits old sets refusal.SelfJoin new asks each all
answer_fits old sets (Err refusal.ChildNotAlive) new asks each all = either_fits old sets refusal.ChildNotAlive new asks each all
answer_fits old sets (Err refusal.ChildHoldsLocks) new asks each all = either_fits old sets refusal.ChildHoldsLocks new asks each all
answer_fits old sets (Err refusal.Broken) new asks each all = either_fits old sets refusal.Broken new asks each all
answer_fits old sets (Err refusal.Damaged) new asks each all = either_fits old sets refusal.Damaged new asks each all
answer_fits old sets (Err refusal.AlreadyHeld) new asks each all = either_fits old sets refusal.AlreadyHeld new asks each all
answer_fits old sets (Err refusal.LockBusy) new asks each all = either_fits old sets refusal.LockBusy new asks each all
answer_fits old sets (Err refusal.NotHeld) new asks each all = either_fits old sets refusal.NotHeld new asks each all
answer_fits old sets (Err refusal.FullHeld) new asks each all = either_fits old sets refusal.FullHeld new asks each all
answer_fits old sets (Err refusal.FullSegments) new asks each all = either_fits old sets refusal.FullSegments new asks each all
answer_fits old sets (Err refusal.MessageUsed) new asks each all = either_fits old sets refusal.MessageUsed new asks each all
answer_fits old sets (Err refusal.NotSent) new asks each all = either_fits old sets refusal.NotSent new asks each all
answer_fits old sets (Err refusal.MessageTaken) new asks each all = either_fits old sets refusal.MessageTaken new asks each all
answer_fits old sets (Err refusal.FullEvents) new asks each all = either_fits old sets refusal.FullEvents new asks each all
answer_fits old sets (Err refusal.FullPending) new asks each all = either_fits old sets refusal.FullPending new asks each all
answer_fits old sets (Err refusal.FullSlots) new asks each all = either_fits old sets refusal.FullSlots new asks each all
answer_fits old sets (Err refusal.DeviceFault) new asks each all = either_fits old sets refusal.DeviceFault new asks each all
answer_fits old sets (Err refusal.OutOfMemory) new asks each all = either_fits old sets refusal.OutOfMemory new asks each all

pub answered : (c : Content) (n : Named) (old new : Table) (answer : Result (Unit {0}) Refusal) → HasSpellings (after c n) → AsksBy old (sets_asked c n.event) answer new → All SetFits old.sets → All SetFits new.sets
answered c n old new answer has asks all = answer_fits old (sets_asked c n.event) answer new asks (event_fits c n.event has.words) all
