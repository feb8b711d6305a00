-- What a crash may leave of the four devices of a store, and the content that it gives.
use Rattle.std.specs.Prelude.{◌≡◌, ◌≤◌, ◌/◌, ◌%◌, ◌==◌, ℕ, Bool, List, length, drop, map, get_or, Option, Some, None, if◌then◌else◌}
use Rattle.std.specs.List.{list_any}
use Rattle.hg_model.specs.declared.event.Named.{Named}
use Rattle.hg_model.specs.Contents.{Content}
use Rattle.hg_model.specs.Change.{followed, empty_content}
use Rattle.hg_cells.specs.declared.cell.Cell.{Cell}
use Rattle.hg_cells.specs.declared.cell.Cell.TheVariants.{New}
use Rattle.hg_cells.specs.Cells.{meaning}
use Rattle.hg_detect.specs.Shown.{report_of}
use Rattle.hg_journal.specs.Journal.{IsJournal}
use Rattle.hg_root.specs.declared.parts.PageSlot.{PageSlot}
use Rattle.hg_root.specs.Checking.{last_number}
use Rattle.hg_root.specs.Checkpoints.{Checkpoint, HasCheckpoint}

-- the bytes of each device
pub record Image : Type 0 where
  pub journal : List ℕ
  pub slots : List ℕ
  pub root0 : List ℕ
  pub root1 : List ℕ

-- whether the page has a slot
abbrev pub has_slot : List PageSlot → ℕ → Bool
has_slot pages page = list_any (λ p. p.page == page) pages

-- the cell of a word: that of its page, or a new one if the page has no slot
abbrev pub cell_of : Checkpoint → ℕ → Cell
cell_of c w = if has_slot c.root.pages (w / 256) then get_or (c.cells_of (w / 256)) (w % 256) New else New

-- The content of a checkpoint.
abbrev pub content_of : Checkpoint → Content
content_of c =
    record {
      events = c.root.events;
      segments = c.root.segments;
      threads = c.root.threads;
      words = λ w. meaning c.root.sets (cell_of c w);
      reports = map (report_of c.root.sets) c.root.reports;
      total = c.root.total;
      last = last_number c.root.sources;
    }

-- The content from which a journal's events go on: that of the checkpoint, or the empty one without a checkpoint.
abbrev pub start_of : Option Checkpoint → Content
start_of None = empty_content
start_of (Some c) = content_of c

-- The events are at least as many as the first content counts, and those behind that count lead from it to the last
-- content.
pub record LeadFrom (start : Content) (events : List Named) (last : Content) : Type 0 where
  pub enough : start.events ≤ length events
  pub leads : followed start (drop start.events events) ≡ Some last

-- The checkpoint, or none, and the events of a journal give this content.
abbrev pub Gives : Option Checkpoint → List Named → Content → Type 0
Gives checkpoint events c = LeadFrom (start_of checkpoint) events c

-- The image has this content: that of its checkpoint, or the empty one, and of the events of the journal behind it, each accepted
-- after those before it.
pub record HasContent (image : Image) (c : Content) : Type 0 where
  pub checkpoint : Option Checkpoint
  pub stands : HasCheckpoint checkpoint image.root0 image.root1 image.slots
  pub events : List Named
  pub journal : IsJournal image.journal events
  pub gives : Gives checkpoint events c
