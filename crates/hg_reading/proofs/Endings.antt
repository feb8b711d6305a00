-- That a text leads to something.
use Rattle.hg_model.specs.Contents.{Content}
use Rattle.hg_reading.specs.declared.ending.Ending.{Ending}

abbrev pub HasOutcome : (Content → Ending → Type 0) → Type 0
HasOutcome P = (last : Content) × ((end : Ending) × P last end)
