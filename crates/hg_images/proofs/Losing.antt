-- An image that loses its content: a root is not open yet, and what it counts is given up.
use Rattle.std.proofs.Common.{◌≢◌, inl, inr, ◌++◌, ℕ, List, [], ◌∷◌, drop, refl, arith}
use Rattle.hg_model.specs.declared.event.Event.TheVariants.{Lock}
use Rattle.hg_model.specs.declared.event.Named.{Named}
use Rattle.hg_model.specs.Change.{after, empty_content}
use Rattle.hg_gate.specs.Batches.{IsClosed, base_front, batch, closed_gate, open_gate}
use Rattle.hg_journal.specs.File.{IsJournalFile, Open, Spare}
use Rattle.hg_journal.specs.Journal.{batch_text}
use Rattle.hg_journals.specs.Journals.{HaveJournals}
use Rattle.hg_images.specs.Images.{Image}
use Rattle.hg_images.specs.Laws.{LosesContent}
use Rattle.hg_images.proofs.Closed as closed

-- one event: thread 0 takes lock 7
event : Named
event = record { source = 0; number = 1; event = Lock 0 7 }

-- a file with this event, from the first on; the same file closed; and one without events behind it
with_event : List ℕ
with_event = base_front 0 ++ (batch (batch_text (event ∷ [])) ++ closed_gate ∷ [])

gone : List ℕ
gone = closed_gate ∷ drop 1 with_event

without : List ℕ
without = base_front 1 ++ closed_gate ∷ []

shut : closed_gate ≢ open_gate
shut = λ is. absurd (omega (arith, is))

has_event : IsJournalFile with_event (Open 0 (event ∷ []))
unfolding with_event event
has_event = (
  omega arith,
  record {
    batches = (event ∷ []) ∷ [];
    log = record { gate = closed_gate; rest = []; spelling = refl; closed = shut; each = ((omega arith, omega arith), tt) };
    fits = ((omega arith, (omega arith, (omega arith, omega arith))), tt);
    whole = refl;
  },
)

has_none : IsJournalFile without (Open 1 [])
unfolding without
has_none = (omega arith, record { batches = []; log = record { gate = closed_gate; rest = []; spelling = refl; closed = shut; each = tt }; fits = tt; whole = refl })

is_gone : IsJournalFile gone Spare
unfolding gone
is_gone = record { gate = closed_gate; rest = drop 1 with_event; spelling = refl; closed = shut }

-- no root is open
image : Image
image = record { journal0 = with_event; journal1 = without; slots = []; root0 = closed_gate ∷ []; root1 = closed_gate ∷ [] }

before : HaveJournals 0 (event ∷ []) with_event without
before = record { one = Open 0 (event ∷ []); other = Open 1 []; one_is = has_event; other_is = has_none; are = inl (refl, omega arith, refl, refl); fits = omega arith }

behind_it : HaveJournals 1 [] gone without
behind_it = record { one = Spare; other = Open 1 []; one_is = is_gone; other_is = has_none; are = (refl, refl); fits = omega arith }

gate_shut : IsClosed (closed_gate ∷ [])
gate_shut = record { gate = closed_gate; rest = []; spelling = refl; closed = shut }

pub loses : LosesContent
unfolding image event
loses = record {
  image = image;
  content = after empty_content event;
  has = (closed.as_before image (after empty_content event) (gate_shut, gate_shut)).1 (event ∷ [], before, refl);
  next = 1;
  one = gone;
  other = without;
  events = event ∷ [];
  keeps = before;
  gave_up = inr (omega arith, behind_it);
  lost = closed.no_base (record { journal0 = gone; journal1 = without; slots = []; root0 = closed_gate ∷ []; root1 = closed_gate ∷ [] }) 1 [] (gate_shut, gate_shut) behind_it (omega arith);
}
