-- Which line each place of a batch stands in.
use Rattle.std.specs.Prelude.{◌≡◌, ℕ, ◌+◌, ◌-◌, ◌<◌, ◌≤◌, Bool, true, false, nat_le, List, [], ◌∷◌, if◌then◌else◌}
use Rattle.hg_parts.specs.declared.runs.Run.{Run}

-- where the last run that begins at a place or before it comes to there; `known` where none does
abbrev pub number_from : ℕ → List Run → ℕ → ℕ
number_from known [] place = known
number_from known (run ∷ runs) place = number_from (if nat_le run.place place then run.line + (place - run.place) else known) runs place

-- the number of the line at a place
abbrev pub number_at : List Run → ℕ → ℕ
number_at runs place = number_from 0 runs place

-- The line at this place has this number, and those in front of it have theirs.
pub record Notes (old : List Run) (place line : ℕ) (new : List Run) : Type 0 where
  pub here : number_at new place ≡ line
  pub before : (i : ℕ) → i < place → number_at new i ≡ number_at old i

-- whether a run comes to this line at this place
abbrev pub Follows : Run → ℕ → ℕ → Bool → Type 0
Follows run place line true = (run.place ≤ place) × (run.line + (place - run.place) ≡ line)
Follows run place line false = Unit {0}
