-- Slots that lie side by side.
use Rattle.std.specs.Prelude.{ℕ, ◌+◌, ◌*◌, ◌<◌, List, take, drop}
use Rattle.hg_pages.specs.Slots.{HasBytes}

-- the bytes of the slot at a place of a run
abbrev pub bytes_in_run : (run : List ℕ) → (place : ℕ) → List ℕ
bytes_in_run run place = take 3080 (drop (3080 * place) run)

-- The slots of the file from `first` on have the bytes of the first `count` slots of the run.
abbrev pub HasRun : (first count : ℕ) → (run file : List ℕ) → Type 0
HasRun first count run file = (place : ℕ) → place < count → HasBytes (first + place) (bytes_in_run run place) file
