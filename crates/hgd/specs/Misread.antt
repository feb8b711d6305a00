-- The status of a command line that asks for no task.
use Rattle.std.specs.Prelude.{ℕ}
use Rattle.hg_options.specs.declared.task.Misread.{Misread}
use Rattle.hg_options.specs.declared.task.Misread.TheVariants.{Help, Bad, BadAddress, NoWord, TwoWords, BadPort, Incomplete, OutOfMemory}

-- 0 where it asks for help, 3 where memory was refused, and else 4
abbrev pub status_for : Misread → ℕ
status_for (Help text) = 0
status_for (Bad text) = 4
status_for BadAddress = 4
status_for NoWord = 4
status_for TwoWords = 4
status_for BadPort = 4
status_for Incomplete = 4
status_for OutOfMemory = 3
