-- What commands over a store print, and how they end.
use Rattle.std.specs.Prelude.{◌≡◌, ℕ, ◌+◌, List, ◌∷◌}
use Rattle.hg_model.specs.declared.verdict.Refusal.{Refusal}
use Rattle.hg_disk.specs.declared.disk.Disk as disk
use Rattle.hg_store.specs.declared.devices.Devices.{Devices}
use Rattle.hg_store.specs.Images.{failures_of}
use Rattle.hg_store.specs.Shown.{ShownStore, live}
use Rattle.hg_streams.specs.declared.call.WriteCall.{WriteCall}
use Rattle.hg_streams.specs.declared.call.WriteCall.TheVariants.{Flushed}
use Rattle.hg_streams.specs.Calls.{failed_writes}
use Rattle.hg_streams.specs.Told.{told_refusal}
use Rattle.hg_streams.specs.Texts.{counts_line, line_text}

-- How the count of failed calls goes on where this refusal is told: one more for a device fault, else none.
abbrev pub IsCounted : Refusal → ℕ → ℕ → Type 0
IsCounted r old new = new ≡ told_refusal r + old

-- The newest call of an output flushed it.
abbrev pub EndsFlushed : List WriteCall → Type 0
EndsFlushed calls = (earlier : List WriteCall) × (calls ≡ Flushed ∷ earlier)

module _ {D : Type 0} (g : disk.Ghosts D) where
  -- the end line of a store, with its line feed
  abbrev pub end_text : ShownStore D → List ℕ
  end_text s = line_text (counts_line (live g s))

  -- No call of the devices failed.
  abbrev pub NoCallFailed : Devices D → Devices D → Type 0
  NoCallFailed old new = failures_of g new ≡ failures_of g old

  -- how many calls of the devices and of the output have failed
  abbrev pub failed_calls : Devices D → List WriteCall → ℕ
  failed_calls devices calls = failures_of g devices + failed_writes calls
