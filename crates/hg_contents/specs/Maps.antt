-- The checkpoint that a root makes with a map of words.
use Rattle.std.specs.Prelude.{◌≡◌, ◌<◌, ◌+◌, ◌*◌, ◌/◌, ℕ, zero, suc, false, List, [], ◌∷◌, length, get_or, All}
use Rattle.hg_cells.specs.declared.cell.Cell.{Cell}
use Rattle.hg_cells.specs.declared.cell.Cell.TheVariants.{New}
use Rattle.hg_detect.specs.Shown.{ShownDetector, content}
use Rattle.hg_pages.specs.Slots.{HasSlot, IsKnown}
use Rattle.hg_root.specs.declared.parts.PageSlot.{PageSlot}
use Rattle.hg_root.specs.Checking.{HaveLast}
use Rattle.hg_root.specs.Checkpoints.{Checkpoint, HasPages}
use Rattle.hg_root.specs.Parts.{Parts}
use Rattle.hg_contents.specs.Images.{content_of, has_slot}

-- the cells of n words from this one on
unfoldable pub cells_from : (ℕ → Cell) → ℕ → ℕ → List Cell
cells_from map first zero = []
cells_from map first (suc n) = map first ∷ cells_from map (first + 1) n

-- a root, and the cells that the map has in each page
abbrev pub checkpoint_of : Parts → (ℕ → Cell) → Checkpoint
checkpoint_of root map = record { root = root; cells_of = λ page. cells_from map (256 * page) 256 }

-- The slot of the file has the page with the cells of the map.
abbrev pub HasPageOf : (ℕ → Cell) → List ℕ → PageSlot → Type 0
HasPageOf map slots p = (cells : List Cell) × HasSlot p.slot p.page cells slots × ((i : ℕ) → i < 256 → map (256 * p.page + i) ≡ get_or cells i New)

-- The cells of the map name only segments and sets of the root.
abbrev pub IsKnownTo : Parts → (ℕ → Cell) → Type 0
IsKnownTo root map = (w : ℕ) → IsKnown (length root.segments) root.sets (map w)

-- The words of pages that have no slot are new.
abbrev pub IsNewElsewhere : Parts → (ℕ → Cell) → Type 0
IsNewElsewhere root map = (w : ℕ) → has_slot root.pages (w / 256) ≡ false → map w ≡ New

-- The root has the parts of the detector, except its words.
pub record HasPartsOf {W : Type 0} (d : ShownDetector W) (root : Parts) : Type 0 where
  pub events : root.events ≡ d.parts.events
  pub segments : root.segments ≡ d.segments
  pub threads : root.threads ≡ d.parts.threads
  pub sets : root.sets ≡ d.sets.sets
  pub total : root.total ≡ d.total
  pub reports : root.reports ≡ d.kept
  pub last : HaveLast root.sources d.parts.last

-- If each slot of a root has its page of a map, the slots have the checkpoint of the root and the map.
abbrev pub MapsAreStored : Type 0
MapsAreStored = (root : Parts) (map : ℕ → Cell) (slots : List ℕ) → IsKnownTo root map → All (HasPageOf map slots) root.pages → HasPages slots (checkpoint_of root map)

-- The checkpoint of a detector's parts and words has the detector's content.
abbrev pub CheckpointsAreContents : Type 0
CheckpointsAreContents =
    (d : ShownDetector (ℕ → Cell)) (root : Parts) → HasPartsOf d root → IsNewElsewhere root d.words → content_of (checkpoint_of root d.words) ≡ content (λ map. map) d
