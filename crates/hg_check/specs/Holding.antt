-- For proofs alone: what is appended to the held text.
use Rattle.std.specs.Prelude.{◌≡◌, ◌<◌, ℕ, List, ◌++◌, Vec, Result, OnOk}
use Rattle.hg_model.specs.Contents.{Content}
use Rattle.hg_sets.specs.Interning.{set_at}
use Rattle.hg_streams.specs.Texts.{line_text}
use Rattle.hg_check.specs.declared.explain.form.Asked.{Asked}
use Rattle.hg_check.specs.declared.explain.event_line.Accepted.{Accepted}
use Rattle.hg_check.specs.declared.explain.look.Look.{Look}
use Rattle.hg_check.specs.declared.explain.look.Look.TheVariants.{Owned}
use Rattle.hg_check.specs.Life.{event_line, sets_text}

-- Where the call succeeded, it appended this text to the held one.
abbrev pub HoldsMore : {T E Z : Type 0} → Result T E → Vec ℕ Z → Vec ℕ Z → List ℕ → Type 0
HoldsMore r old new text = OnOk r (new.items ≡ old.items ++ text)

-- threads and candidate locks behind a kind, by the numbers of their sets
abbrev pub interned_text : List ℕ → List (List ℕ) → ℕ → ℕ → List ℕ
interned_text kind sets threads locks = sets_text kind (set_at sets threads) (set_at sets locks)

-- the line of an accepted event, by what is asked and by the content after it
abbrev pub event_text : Asked → Accepted → Content → List ℕ
event_text asked x d = line_text (event_line asked.word asked.form x.before x.kept d x.line x.event)

-- the owner's segment is below a number
abbrev pub HasOwnerBelow : ℕ → Look → Type 0
HasOwnerBelow n (Owned s) = s < n
HasOwnerBelow n look = Unit {0}
