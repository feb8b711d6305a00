-- The report that a store keeps as a number.
use Rattle.std.specs.Prelude.{◌≡◌, ℕ, zero, suc, ◌++◌, Option, None, codes, option_map, slice_get}
use Rattle.hg_model.specs.Contents.{Content}
use Rattle.hg_disk.specs.declared.disk.Disk as disk
use Rattle.hg_store.specs.Shown.{ShownStore, live}
use Rattle.hg_streams.specs.Shown.{Outgoing}
use Rattle.hg_streams.specs.Texts.{number_text}
use Rattle.hg_streams.specs.Written.{Took}
use Rattle.hg_commands.specs.Storing.{EndsFlushed, end_text}

-- The address of the word of the report that a content keeps as number k, from 1 on. There is none where it keeps fewer.
abbrev pub address_of_race : ℕ → Content → Option ℕ
address_of_race zero c = None
address_of_race (suc index) c = option_map (λ report. report.word) (slice_get c.reports index)

module _ {D : Type 0} (g : disk.Ghosts D) where
  -- The address is that of the report that the store keeps as number k.
  abbrev pub FindsRace : ℕ → ShownStore D → Option ℕ → Type 0
  FindsRace k s address = address ≡ address_of_race k (live g s)

  -- It was printed that no report is kept as number k, and the end line of the store; and that was flushed.
  abbrev pub PrintsNoRace : {W : Type 0} → ℕ → ShownStore D → Outgoing W → Outgoing W → Type 0
  PrintsNoRace k s before after = Took before.calls after.calls (number_text (codes "no race ") k ++ end_text g s) × EndsFlushed after.calls
