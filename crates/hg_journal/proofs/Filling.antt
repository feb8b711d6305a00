-- The records of events, one after the other.
use Rattle.std.proofs.Common.{◌≡◌, ◌≤◌, ◌<◌, ◌+◌, ◌*◌, ℕ, Bool, true, false, cond, List, [], ◌∷◌, ◌++◌, length, drop, get_or, sym, ◌∙◌, ap, subst, arith, append_assoc, length-append}
use Rattle.std.proofs.lemmas.List.{append-nil, drop_all, drop_more}
use Rattle.std.specs.Int.{w16, w32}
use Rattle.std.specs.List.{AllByRecursion}
use Rattle.hg_model.specs.declared.event.Block.{Block}
use Rattle.hg_model.specs.declared.event.Event.{Event}
use Rattle.hg_model.specs.declared.event.Event.TheVariants.{Fork, Join, Lock, RdLock, Unlock, Read, Write, Alloc, Free, Send, Recv}
use Rattle.hg_model.specs.declared.event.Named.{Named}
use Rattle.hg_records.specs.Records.{RecordFits, block_text, by_length, event_text, is_short, record_text}
use Rattle.hg_gate.specs.Batches.{IsBody}
use Rattle.hg_journal.specs.Journal.{batch_text}

-- a block in either spelling
block_len : (short long : ℕ) (b : Block) → length (by_length short long b) ≤ 15
block_len short long b = of_either (is_short b.len) where
  of_either : (is : Bool) → length (cond is (short ∷ block_text w16 b) (long ∷ block_text w32 b)) ≤ 15
  of_either true = omega arith
  of_either false = omega arith

event_len : (e : Event) → length (event_text e) ≤ 15
event_len (Fork p c) = omega arith
event_len (Join p c) = omega arith
event_len (Lock t l) = omega arith
event_len (RdLock t l) = omega arith
event_len (Unlock t l) = omega arith
event_len (Read a) = omega arith
event_len (Write a) = omega arith
event_len (Alloc b) = block_len 8 12 b
event_len (Free b) = block_len 9 13 b
event_len (Send t k) = omega arith
event_len (Recv t k) = omega arith

-- a record has at most 25 bytes
pub record_len : (n : Named) → length (record_text n) ≤ 25
record_len n = omega (arith, event_len n.event)

-- the bytes of the first i events
pub record IsFilled (events : List Named) (i : ℕ) (items : List ℕ) : Type 0 where
  pub small : length items ≤ 25 * i
  pub text : items ++ batch_text (drop i events) ≡ batch_text events
  pub fits : AllByRecursion RecordFits (drop i events) → AllByRecursion RecordFits events

pub filled_start : (events : List Named) (items : List ℕ) → items ≡ [] → IsFilled events 0 items
filled_start events items none = record { small = omega (arith, ap length none); text = ap (λ (l : List ℕ). l ++ batch_text events) none; fits = λ all. all }

pub filled_next : (events : List Named) (i : ℕ) (items new : List ℕ) (event : Named) → IsFilled events i items → i < length events → event ≡ get_or events i event → new ≡ items ++ record_text event → RecordFits event
    → IsFilled events (i + 1) new
filled_next events i items new event f lt is grown fit =
    let rest : drop i events ≡ event ∷ drop (i + 1) events = drop_more events i event lt ∙ ap (λ (n : Named). n ∷ drop (i + 1) events) (sym is) in
    record {
      small = omega (arith, f.small, ap length grown, length-append items (record_text event), record_len event);
      text = ap (λ (l : List ℕ). l ++ batch_text (drop (i + 1) events)) grown ∙ append_assoc items (record_text event) (batch_text (drop (i + 1) events))
          ∙ ap (λ (l : List Named). items ++ batch_text l) (sym rest) ∙ f.text;
      fits = λ all. f.fits (subst (AllByRecursion RecordFits) (sym rest) (fit, all));
    }

pub filled_text : (events : List Named) (i : ℕ) (items : List ℕ) → IsFilled events i items → length events ≤ i → items ≡ batch_text events
filled_text events i items f all = sym (append-nil items) ∙ ap (λ (l : List Named). items ++ batch_text l) (sym (drop_all i events all)) ∙ f.text

pub filled_fits : (events : List Named) (i : ℕ) (items : List ℕ) → IsFilled events i items → length events ≤ i → AllByRecursion RecordFits events
filled_fits events i items f all = f.fits (subst (AllByRecursion RecordFits) (sym (drop_all i events all)) tt)

batch_most : (events : List Named) → length (batch_text events) ≤ 25 * length events
batch_most [] = omega arith
batch_most (e ∷ events) = omega (arith, record_len e, length-append (record_text e) (batch_text events), batch_most events)

batch_least : (events : List Named) → 1 ≤ length events → 1 ≤ length (batch_text events)
batch_least [] some = absurd (omega (arith, some))
batch_least (e ∷ events) some = omega arith

-- 1 to 1,024 events fit into a batch
pub is_body : (events : List Named) (items : List ℕ) → items ≡ batch_text events → 1 ≤ length events → length events ≤ 1024 → IsBody items
is_body events items is some few = (omega (arith, ap length is, batch_least events some), omega (arith, ap length is, batch_most events, few))
