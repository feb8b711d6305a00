-- What a root begins with. (No promise to a reader rests on this file, except on IsSomeRoot.)
use Rattle.std.specs.Prelude.{◌≡◌, ◌⊎◌, ◌≤◌, ℕ, List, take}
use Rattle.std.specs.Int.{w32, w64}
use Rattle.hg_model.specs.declared.limits.TheConstants.{MOST_EVENTS, MOST_SEGMENTS}
use Rattle.hg_root.specs.declared.form.Form.TheVariants.{Former, Written}
use Rattle.hg_root.specs.declared.root.TheConstants.{MOST_CHECKPOINTS}
use Rattle.hg_root.specs.Body.{header_number}
use Rattle.hg_root.specs.Lawful.{IsRoot}
use Rattle.hg_root.specs.Parts.{Parts}
use Rattle.hg_root.specs.Reading.{Reader, both, number_at}

-- The body is that of some root.
abbrev pub IsSomeRoot : List ℕ → Type 0
IsSomeRoot body = (p : Parts) × IsRoot body p

-- the header, the number of the checkpoint, and the counts of events and of segments
abbrev pub opening_at : Reader (ℕ × (ℕ × (ℕ × ℕ)))
opening_at = both (number_at w64) (both (number_at w64) (both (number_at w64) (number_at w32)))

-- a root may have these
pub record IsOpening (header number events segments : ℕ) : Type 0 where
  pub is_header : (header ≡ header_number Written) ⊎ (header ≡ header_number Former)
  pub is_number : (1 ≤ number) × (number ≤ MOST_CHECKPOINTS)
  pub few_events : events ≤ MOST_EVENTS
  pub some_segments : (1 ≤ segments) × (segments ≤ MOST_SEGMENTS)

-- No root begins with these 28 bytes.
abbrev pub BeginsNoRoot : List ℕ → Type 0
BeginsNoRoot front = (body : List ℕ) → front ≡ take 28 body → ¬ IsSomeRoot body
