-- The exit status of commands.
use Rattle.std.specs.Prelude.{◌≡◌, ℕ, Bool, true, false, Option, None, IfSome}
use Rattle.hg_options.specs.declared.task.ErrorExitcode.{ErrorExitcode}
use Rattle.hg_check.specs.declared.checked.Checked.{Checked}
use Rattle.hg_check.specs.Printing.{EndsChecked, EndsWell, graph_text}
use Rattle.hg_streams.specs.Faults.{EndsByFault, TellsNoFault}
use Rattle.hg_streams.specs.declared.listing.Listing.{Listing}
use Rattle.hg_streams.specs.declared.output.Outputs.{Outputs}
use Rattle.hg_streams.specs.declared.streams.Streams.{Streams}
use Rattle.hg_disk.specs.declared.disk.Disk as disk
use Rattle.hg_store.specs.declared.devices.Devices.{Devices}
use Rattle.hg_commands.specs.declared.listing.Listed.{Listed}
use Rattle.hg_commands.specs.Listings.{CantList, IsListed}
use Rattle.hg_tasks.specs.declared.texts.Printing.{Printing}
use Rattle.hg_tasks.specs.declared.texts.Printing.TheVariants.{Races, Segments}

-- The exit status where a command came to a status, and counted races or none: the one that was asked for in place of 0 where there were
-- races, and else the command's own.
pub record IsExit (given : Option ErrorExitcode) (status : ℕ) (races : Bool) (exit : ℕ) : Type 0 where
  pub asked : IfSome given (λ asked. status ≡ 0 → races ≡ true → exit ≡ asked.status)
  pub unasked : given ≡ None → exit ≡ status
  pub none : races ≡ false → exit ≡ status
  pub other : (status ≡ 0 → ⊥) → exit ≡ status

-- A trace text was checked, and the exit status is that of what it came to.
abbrev pub ChecksAndExits : {R W V : Type 0} → Option ErrorExitcode → ℕ → Streams R W V → Streams R W V → Type 0
ChecksAndExits given exit before after =
    (checked : Checked) × EndsChecked checked before after × EndsByFault checked.status before after
    × IsExit given checked.status checked.has_races exit

-- What is asked for of a trace text was printed, and the exit status is that of what it came to.
abbrev pub PrintsAndExits : {R W V : Type 0} → Printing → ℕ → Streams R W V → Streams R W V → Type 0
PrintsAndExits (Races given) exit before after = ChecksAndExits given exit before after
PrintsAndExits Segments exit before after = EndsWell exit graph_text before after × EndsByFault exit before after × TellsNoFault exit before after

-- A store was listed with so many frames, or that ended by a fault. The exit status is that of what it came to, and these devices are left.
abbrev pub ListsAndExits : {D W V : Type 0} → disk.Ghosts D → Option ErrorExitcode → Listing → ℕ → Devices D → Outputs W V → Outputs W V → ℕ × Devices D → Type 0
ListsAndExits {D} {W} g given listing frames devices before after left =
    (listed : Listed D W) × IsListed g listing frames devices before after listed × CantList g listing frames devices before after listed
    × IsExit given listed.outcome.status listed.has_races left.0 × (left.1 ≡ listed.outcome.devices)
